-- SPDX-License-Identifier: MIT OR Apache-2.0
use Rattle.std.proofs.Common.{◌<◌, length, arith}
use Rattle.ffa_spmc.proofs.Chains.{one-more, outcomes-more, state-more}
use Rattle.ffa_spmc.proofs.machine.Machine.operate_all.Goals as goal

pub loop-i-preserved : goal.loop-i-preserved
loop-i-preserved g c =
    let lt : c.loop-i.i < length c.args.ops.now = c.loop-i-test.true in
    let inside : c.loop-i.i < length c.loop-i.filled = omega (arith, lt, c.requires, c.loop-i.auto.filled) in
    let done = c.op.ensures.done in
    record {
      told =
          outcomes-more c.loop-i.self.state c.op.new.self.state c.args.ops.now c.loop-i.i _ lt done.operated.state
          c.loop-i.filled c.op.result _ inside done.outcome c.loop-i.invariant.told;
      rest = state-more c.loop-i.self.state c.op.new.self.state c.args.ops.now c.loop-i.i _ lt done.operated.state _ c.loop-i.invariant.rest;
      chain = one-more c.args.self.now c.loop-i.self c.op.new.self c.args.ops.now c.loop-i.i _ lt done.operated c.loop-i.invariant.chain;
    }
