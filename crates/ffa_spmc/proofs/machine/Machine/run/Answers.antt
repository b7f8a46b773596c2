-- SPDX-License-Identifier: MIT OR Apache-2.0
use Rattle.std.proofs.Common.{◌∙◌, ap, subst, sym}
use Rattle.ffa_laws.specs.Isolation.{NeverGrow, shown_to}
use Rattle.ffa_laws.proofs.Alone.{run_integrity}
use Rattle.ffa_laws.proofs.Forgotten.{zeroed_is_forgotten}
use Rattle.ffa_laws.proofs.Growth.{never_grow}
use Rattle.ffa_laws.proofs.ReadRuns.{run_confidential}
use Rattle.ffa_laws.proofs.Replays.{isolated, replays}
use Rattle.ffa_laws.proofs.Shows.{shown}
use Rattle.ffa_laws.proofs.SoundSteady.{sound-steady}
use Rattle.ffa_spmc.proofs.Chains.{unowned-chained}
use Rattle.ffa_spmc.proofs.machine.Machine.run.Goals as goal

pub returns-clause-isolated : goal.returns-clause-isolated
returns-clause-isolated g c = isolated c.args.self.now.state c.args.ops.now (sound-steady c.args.self.now.state c.holds.ensures.managed.sound)

pub returns-clause-replays : goal.returns-clause-replays
returns-clause-replays g c = replays c.args.self.now.state c.args.ops.now (sound-steady c.args.self.now.state c.holds.ensures.managed.sound)

pub returns-clause-shown : goal.returns-clause-shown
returns-clause-shown g c = λ e. ap (shown_to e c.args.self.now.state.runner) c.operate_all.ensures.outcomes ∙ shown c.args.self.now.state c.args.ops.now e

pub returns-clause-confidential : goal.returns-clause-confidential
returns-clause-confidential g c = run_confidential c.args.self.now.state c.args.ops.now (sound-steady c.args.self.now.state c.holds.ensures.managed.sound)

pub returns-clause-never_grow : goal.returns-clause-never_grow
returns-clause-never_grow g c =
    subst (NeverGrow c.args.self.now.state) (sym c.operate_all.ensures.state)
    (never_grow c.args.self.now.state c.args.ops.now (sound-steady c.args.self.now.state c.holds.ensures.managed.sound))

pub returns-clause-run_integrity : goal.returns-clause-run_integrity
returns-clause-run_integrity g c = run_integrity c.args.self.now.state c.args.ops.now (sound-steady c.args.self.now.state c.holds.ensures.managed.sound)

pub returns-clause-forgotten_loans : goal.returns-clause-forgotten_loans
returns-clause-forgotten_loans g c = zeroed_is_forgotten c.args.self.now.state (sound-steady c.args.self.now.state c.holds.ensures.managed.sound)

pub returns-clause-walks : goal.returns-clause-walks
returns-clause-walks g c = c.holds-2.ensures.walks

pub returns-clause-unowned : goal.returns-clause-unowned
returns-clause-unowned g c =
    unowned-chained c.args.self.now c.args.ops.now c.operate_all.new.self c.holds.ensures.managed.sound c.operate_all.ensures.chain
