-- SPDX-License-Identifier: MIT OR Apache-2.0
use Rattle.std.proofs.Common.{◌≡◌, ◌∙◌, ◌+◌, ◌/◌, List, ℕ, Result, Err, sym, ap, subst}
use Rattle.std.specs.Prelude.{OnErr}
use Rattle.std.proofs.lemmas.Bool.{true≢false}
use Rattle.ffa_model.specs.declared.call.Call.TheVariants.{MsgSend2}
use Rattle.ffa_model.specs.Calls.{Stepped, replied, served}
use Rattle.ffa_model.specs.Messages.{msg_send2, header_in}
use Rattle.ffa_model.specs.Refusals.{is_error}
use Rattle.ffa_model.specs.declared.operation.ErrorCode.{ErrorCode}
use Rattle.ffa_spmc.specs.Moments.{AreMoments}
use Rattle.ffa_spmc.proofs.Moments.{rx-moments, still-moments}
use Rattle.ffa_spmc.proofs.Replied.{managed_of}
use Rattle.ffa_physmem.specs.Work.{AddsAtMost, loans_of}
use Rattle.ffa_spmc.specs.Work.{message_pages}
use Rattle.ffa_spmc.proofs.Sends.{sent-is, buffers-in-ram, ends-apart, receiver-there, tables-kept, send-unowned, sent, tables-sent, told-known, unsent, unsent-parts}
use Rattle.ffa_spmc.specs.Meaning.{IsManager, Parts, state_of}
use Rattle.ffa_spmc.specs.Managed.{Managed}
use Rattle.ffa_spmc.specs.Unowned.{KeepsUnowned}
use Rattle.ffa_spmc.proofs.Machines.{machine-served}
use Rattle.ffa_spmc.proofs.Notified.{known-notified}
use Rattle.ffa_spmc.proofs.Fills.{known-buffered, runner-there}
use Rattle.ffa_spmc.proofs.Inside.{parts_of}
use Rattle.ffa_spmc.proofs.manager.Manager.msg_send2.Goals.{in-Ok, in-Err}
use Rattle.ffa_spmc.proofs.manager.Manager.msg_send2.Goals as goal
use Rattle.ffa_model.specs.State.{version_of}

-- a message that isn't sent
unsent-past : {X P : Type 0} {r : Result X ErrorCode} (code : ErrorCode) → r ≡ Err code → OnErr r P → P
unsent-past {P = P} code is kept = subst (λ o. OnErr o P) is kept

pub send2-requires : goal.send2-requires
send2-requires g c =
    let x = parts_of g.M.PhysMem.ram c.self.inside in
    record {
      known = known-buffered x c.self.invariant c.runner-runner.result.0 (runner-there x c.self.invariant c.runner-runner.result.0 c.runner-runner.ensures.runner);
      pages = buffers-in-ram x c.self.invariant;
      apart = ends-apart x c.self.invariant c.runner-runner.result.0 c.runner-runner.ensures.runner c.version-version.result (c.version-version.ensures ∙ sym (ap (λ (seen : Managed). version_of seen.state seen.state.runner) c.self.view_is));
    }

pub raise_framework-requires : goal.raise_framework-requires
raise_framework-requires g c =
    let x = parts_of g.M.PhysMem.ram c.self.inside in
    known-notified x c.self.invariant c.in-Ok.receiver.0
    (told-known x c.self.invariant c.runner-runner.result.0 c.runner-runner.ensures.runner c.version-version.result (c.version-version.ensures ∙ sym (ap (λ (seen : Managed). version_of seen.state seen.state.runner) c.self.view_is)) c.send2.result (g.M.PhysMem.ram c.send2.new.ram) c.send2.new.buffers c.send2.ensures.refusal c.send2.ensures.kept_ram c.send2.ensures.kept c.send2.ensures.ram c.send2.ensures.full c.send2.ensures.receiver c.in-Ok.receiver c.in-Ok.is)

pub invariant_of-self : goal.invariant_of-self
invariant_of-self g c =
    let x = parts_of g.M.PhysMem.ram c.self.inside in
    elim c.match-send2.branch [
      | in-Ok w ↦
          subst IsManager (ap (parts_of g.M.PhysMem.ram) (sym w.self-inside-is))
          (machine-served x (g.M.PhysMem.ram c.send2.new.ram) c.send2.new.buffers x.kept.chain w.raise_framework.new.self c.self.invariant
          (tables-sent x c.self.invariant c.runner-runner.result.0 c.runner-runner.ensures.runner c.version-version.result (c.version-version.ensures ∙ sym (ap (λ (seen : Managed). version_of seen.state seen.state.runner) c.self.view_is)) c.send2.result (g.M.PhysMem.ram c.send2.new.ram) c.send2.new.buffers c.send2.ensures.refusal c.send2.ensures.kept_ram c.send2.ensures.kept c.send2.ensures.ram c.send2.ensures.full c.send2.ensures.receiver w.in-Ok.receiver w.in-Ok.is) MsgSend2
          (ap (λ (st : Stepped). st.state) (sent x c.self.invariant c.runner-runner.result.0 c.runner-runner.ensures.runner c.version-version.result (c.version-version.ensures ∙ sym (ap (λ (seen : Managed). version_of seen.state seen.state.runner) c.self.view_is)) c.send2.result (g.M.PhysMem.ram c.send2.new.ram) c.send2.new.buffers c.send2.ensures.refusal c.send2.ensures.kept_ram c.send2.ensures.kept c.send2.ensures.ram c.send2.ensures.full c.send2.ensures.receiver w.in-Ok.receiver w.in-Ok.is w.raise_framework.new.self w.raise_framework.ensures)))
      | in-Err w ↦
          subst IsManager (ap (parts_of g.M.PhysMem.ram) (sym w.self-inside-is))
          (subst IsManager (sym (unsent-parts x c.self.invariant c.runner-runner.result.0 c.runner-runner.ensures.runner c.version-version.result (c.version-version.ensures ∙ sym (ap (λ (seen : Managed). version_of seen.state seen.state.runner) c.self.view_is)) c.send2.result (g.M.PhysMem.ram c.send2.new.ram) c.send2.new.buffers c.send2.ensures.refusal c.send2.ensures.kept_ram c.send2.ensures.kept c.send2.ensures.ram c.send2.ensures.full c.send2.ensures.receiver w.in-Err.code w.in-Err.is)) c.self.invariant)
    ]

pub returns : goal.returns
returns g c =
    let x = parts_of g.M.PhysMem.ram c.self.inside in
    let kept =
    subst (λ (seen : Managed). KeepsUnowned seen.state seen.ram (g.M.PhysMem.ram c.send2.new.ram)) c.self.view_is
    (send-unowned x c.self.invariant c.runner-runner.result.0 c.runner-runner.ensures.runner c.version-version.result (c.version-version.ensures ∙ sym (ap (λ (seen : Managed). version_of seen.state seen.state.runner) c.self.view_is)) c.send2.result (g.M.PhysMem.ram c.send2.new.ram) c.send2.new.buffers c.send2.ensures.refusal c.send2.ensures.kept_ram c.send2.ensures.kept c.send2.ensures.ram c.send2.ensures.full c.send2.ensures.receiver) in
    record {
      served =
          elim c.match-send2.branch [
            | in-Ok w ↦
                (λ i. replied (state_of (parts_of g.M.PhysMem.ram (w.self-inside-is i))) (w.result-is i))
                ∙ sent x c.self.invariant c.runner-runner.result.0 c.runner-runner.ensures.runner c.version-version.result (c.version-version.ensures ∙ sym (ap (λ (seen : Managed). version_of seen.state seen.state.runner) c.self.view_is)) c.send2.result (g.M.PhysMem.ram c.send2.new.ram) c.send2.new.buffers c.send2.ensures.refusal c.send2.ensures.kept_ram c.send2.ensures.kept c.send2.ensures.ram c.send2.ensures.full c.send2.ensures.receiver w.in-Ok.receiver w.in-Ok.is w.raise_framework.new.self w.raise_framework.ensures
            | in-Err w ↦
                (λ i. replied (state_of (parts_of g.M.PhysMem.ram (w.self-inside-is i))) (w.result-is i))
                ∙ unsent x c.self.invariant c.runner-runner.result.0 c.runner-runner.ensures.runner c.version-version.result (c.version-version.ensures ∙ sym (ap (λ (seen : Managed). version_of seen.state seen.state.runner) c.self.view_is)) c.send2.result (g.M.PhysMem.ram c.send2.new.ram) c.send2.new.buffers c.send2.ensures.refusal c.send2.ensures.kept_ram c.send2.ensures.kept c.send2.ensures.ram c.send2.ensures.full c.send2.ensures.receiver w.in-Err.code w.in-Err.is
          ]
          ∙ ap (λ (seen : Managed). served seen.state (msg_send2 seen.state)) c.self.view_is;
      refused = elim c.match-send2.branch [
        | in-Ok w ↦ λ error. absurd (true≢false (sym error ∙ ap is_error w.result-is))
        | in-Err w ↦ λ error. (λ i. managed_of ((ap (parts_of g.M.PhysMem.ram) w.self-inside-is ∙ unsent-parts x c.self.invariant c.runner-runner.result.0 c.runner-runner.ensures.runner c.version-version.result (c.version-version.ensures ∙ sym (ap (λ (seen : Managed). version_of seen.state seen.state.runner) c.self.view_is)) c.send2.result (g.M.PhysMem.ram c.send2.new.ram) c.send2.new.buffers c.send2.ensures.refusal c.send2.ensures.kept_ram c.send2.ensures.kept c.send2.ensures.ram c.send2.ensures.full c.send2.ensures.receiver w.in-Err.code w.in-Err.is) i) ((ap (λ inside. g.M.PhysMem.past inside.ram) w.self-inside-is ∙ unsent-past w.in-Err.code w.in-Err.is c.send2.ensures.kept_past) i)) ∙ c.self.view_is
      ];
      unowned =
          elim c.match-send2.branch [
            | in-Ok w ↦ subst (λ (y : Parts). KeepsUnowned c.args.self.now.state c.args.self.now.ram y.ram) (ap (parts_of g.M.PhysMem.ram) (sym w.self-inside-is)) kept
            | in-Err w ↦ subst (λ (y : Parts). KeepsUnowned c.args.self.now.state c.args.self.now.ram y.ram) (ap (parts_of g.M.PhysMem.ram) (sym w.self-inside-is)) kept
          ];
      moments =
          let new = g.M.PhysMem.ram c.send2.new.ram in
          let later = g.M.PhysMem.past c.send2.new.ram in
          elim c.match-send2.branch [
            | in-Ok w ↦ subst (λ inside. AreMoments c.args.self.now.state c.args.self.now.ram (g.M.PhysMem.ram inside.ram) c.args.self.now.past (g.M.PhysMem.past inside.ram)) (sym w.self-inside-is)
                (subst (λ (seen : Managed). AreMoments seen.state seen.ram new seen.past later) c.self.view_is
                (rx-moments x c.self.invariant _ (receiver-there x c.self.invariant c.runner-runner.result.0 c.runner-runner.ensures.runner c.version-version.result (c.version-version.ensures ∙ sym (ap (λ (seen : Managed). version_of seen.state seen.state.runner) c.self.view_is)) c.send2.result (g.M.PhysMem.ram c.send2.new.ram) c.send2.new.buffers c.send2.ensures.refusal c.send2.ensures.kept_ram c.send2.ensures.kept c.send2.ensures.ram c.send2.ensures.full c.send2.ensures.receiver w.in-Ok.receiver w.in-Ok.is) new
                (tables-kept x c.self.invariant c.runner-runner.result.0 c.runner-runner.ensures.runner c.version-version.result (c.version-version.ensures ∙ sym (ap (λ (seen : Managed). version_of seen.state seen.state.runner) c.self.view_is)) c.send2.result (g.M.PhysMem.ram c.send2.new.ram) c.send2.new.buffers c.send2.ensures.refusal c.send2.ensures.kept_ram c.send2.ensures.kept c.send2.ensures.ram c.send2.ensures.full c.send2.ensures.receiver w.in-Ok.receiver w.in-Ok.is) _ later (g.met.M.PhysMem.in_turn c.send2.new.ram) c.send2.ensures.steps))
            | in-Err w ↦ subst (λ inside. AreMoments c.args.self.now.state c.args.self.now.ram (g.M.PhysMem.ram inside.ram) c.args.self.now.past (g.M.PhysMem.past inside.ram)) (sym w.self-inside-is)
                (subst (λ (seen : Managed). AreMoments seen.state seen.ram new seen.past later) c.self.view_is
                (still-moments (state_of x) x.ram new _ later (unsent-past w.in-Err.code w.in-Err.is c.send2.ensures.kept_ram) (unsent-past w.in-Err.code w.in-Err.is c.send2.ensures.kept_past)))
          ];
      few =
          let x = parts_of g.M.PhysMem.ram c.self.inside in
          let later = g.M.PhysMem.past c.send2.new.ram in
          let sent = subst (λ (seen : Managed). AddsAtMost seen.past later (loans_of (message_pages seen.state))) c.self.view_is
          (subst (λ (bytes : List ℕ). AddsAtMost (g.M.PhysMem.past c.self.inside.ram) later (loans_of (((header_in bytes).offset + (header_in bytes).size + 4095) / 4096)))
          (λ i. sent-is x c.self.invariant c.runner-runner.result.0 c.runner-runner.ensures.runner i) c.send2.ensures.few) in
          elim c.match-send2.branch [
            | in-Ok w ↦ subst (λ inside. AddsAtMost c.args.self.now.past (g.M.PhysMem.past inside.ram) (loans_of (message_pages c.args.self.now.state))) (sym w.self-inside-is) sent
            | in-Err w ↦ subst (λ inside. AddsAtMost c.args.self.now.past (g.M.PhysMem.past inside.ram) (loans_of (message_pages c.args.self.now.state))) (sym w.self-inside-is) sent
          ];
    }
