-- SPDX-License-Identifier: MIT OR Apache-2.0
use Rattle.std.proofs.Common.{◌∙◌, refl, sym, arith}
use Rattle.ffa_spmc.proofs.Certificates.{run_ends, run_goes_on, run_stops}
use Rattle.ffa_spmc.proofs.machine.Machine.last_from.Goals as goal

pub loop-last-init : goal.loop-last-init
loop-last-init g c = record {
  size = c.pages-pages.ensures ∙ c.ram.ensures.agrees.size;
  inside = c.requires;
  run = refl;
}

pub loop-last-preserved : goal.loop-last-preserved
loop-last-preserved g c = record {
  size = c.loop-last.invariant.size;
  inside = omega (arith, c.loop-last-test.true, c.loop-last.invariant.size);
  run =
      c.loop-last.invariant.run
      ∙ run_goes_on c.args.self.now.state c.loop-last.last (omega (arith, c.loop-last-test.true, c.loop-last.invariant.size)) (sym c.are_as_one.ensures ∙ c.if-are_as_one.true);
}

pub returns-else-are_as_one : goal.returns-else-are_as_one
returns-else-are_as_one g c =
    sym (c.loop-last.invariant.run ∙ run_stops c.args.self.now.state c.loop-last.last (sym c.are_as_one.ensures ∙ c.if-are_as_one.false))

pub returns-after-loop-last : goal.returns-after-loop-last
returns-after-loop-last g c =
    sym (c.loop-last.invariant.run ∙ run_ends c.args.self.now.state c.loop-last.last (omega (arith, c.loop-last-test.false, c.loop-last.invariant.size)))
