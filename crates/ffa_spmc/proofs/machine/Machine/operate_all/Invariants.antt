-- SPDX-License-Identifier: MIT OR Apache-2.0
use Rattle.std.proofs.Common.{◌≡◌, ◌++◌, take, drop}
use Rattle.ffa_model.specs.Step.{outcomes, state_after}
use Rattle.ffa_spmc.specs.Operated.{AreOperated}
use Rattle.ffa_spmc.specs.Snapshot.{Snapshot}
use Rattle.ffa_spmc.proofs.machine.Machine.operate_all.Given as goal

-- the outcomes so far and those of what is left are those of all, and whatever ends the chain after what is left ends it
abbrev pub invariant-loop-i : goal.invariant-loop-i
invariant-loop-i g l = record {
  told : take l.i l.filled ++ outcomes l.self.state (drop l.i l.ops) ≡ outcomes l.fn.self.state l.ops;
  rest : state_after l.self.state (drop l.i l.ops) ≡ state_after l.fn.self.state l.ops;
  chain : (new : Snapshot) → AreOperated l.self (drop l.i l.ops) new → AreOperated l.fn.self l.ops new;
}
