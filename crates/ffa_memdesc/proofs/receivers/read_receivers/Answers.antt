-- SPDX-License-Identifier: MIT OR Apache-2.0
use Rattle.std.proofs.Common.{◌≡◌, ℕ, ◌+◌, ap, arith}
use Rattle.ffa_model.specs.DescriptorPlaces.{in_version}
use Rattle.ffa_memdesc.proofs.Entries.{receivers_more, receivers_end, receivers_flaw, receivers_none}
use Rattle.ffa_memdesc.proofs.receivers.read_receivers.Goals as goal

pub loop-i-preserved : goal.loop-i-preserved
loop-i-preserved g c =
    (omega arith, receivers_more c.args.kind c.args.header.now.sender.0 c.args.composite (in_version c.args.version (g.B.Bytes.bytes c.args.bytes.now)) c.args.header.now.array c.loop-i.i _ c.loop-i.receivers.items c.push.new.self.items c.deref.result.now c.in-Ok.receiver c.loop-i.invariant.1 c.deref.ensures.0 (ap (λ (n : ℕ). c.args.header.now.array + n) c.accesses_size.ensures.value) c.in-Ok.ensures.found c.push.ensures.items)

pub returns-clause-found : goal.returns-clause-found
returns-clause-found g c =
    let ended : c.loop-i.i ≡ c.args.header.now.count = (let test = c.loop-i-test.false in let auto = c.loop-i.auto.i-end in omega arith) in
    receivers_end c.args.kind c.args.header.now.sender.0 c.args.composite (in_version c.args.version (g.B.Bytes.bytes c.args.bytes.now)) c.args.header.now.array c.loop-i.i c.args.header.now.count c.loop-i.receivers.items ended c.loop-i.invariant.1

pub returns-in-Err-clause-first : goal.returns-in-Err-clause-first
returns-in-Err-clause-first g c =
    receivers_flaw c.args.kind c.args.header.now.sender.0 c.args.composite (in_version c.args.version (g.B.Bytes.bytes c.args.bytes.now)) c.args.header.now.array c.loop-i.i c.args.header.now.count _ c.loop-i.receivers.items c.deref.result.now _ c.loop-i-test.true c.loop-i.invariant.1 c.deref.ensures.0 (ap (λ (n : ℕ). c.args.header.now.array + n) c.accesses_size.ensures.value) (c.in-Err.ensures.first c.loop-i.i)

pub returns-clause-first : goal.returns-clause-first
returns-clause-first g c =
    let ended : c.loop-i.i ≡ c.args.header.now.count = (let test = c.loop-i-test.false in let auto = c.loop-i.auto.i-end in omega arith) in
    receivers_none c.args.kind c.args.header.now.sender.0 c.args.composite (in_version c.args.version (g.B.Bytes.bytes c.args.bytes.now)) c.args.header.now.array c.loop-i.i c.args.header.now.count c.loop-i.receivers.items ended c.loop-i.invariant.1
