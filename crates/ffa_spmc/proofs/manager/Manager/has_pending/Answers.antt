-- SPDX-License-Identifier: MIT OR Apache-2.0
use Rattle.std.proofs.Common.{◌≡◌, ◌∙◌, ℕ, false, length, ap, subst, sym}
use Rattle.ffa_model.specs.SoundState.{IsSoundState}
use Rattle.ffa_model.specs.State.{is_known_among}
use Rattle.ffa_spmc.proofs.Notified.{none-pending}
use Rattle.ffa_spmc.proofs.manager.Manager.has_pending.Goals as goal

pub returns-else-is_among : goal.returns-else-is_among
returns-else-is_among g c =
    let unknown : is_known_among (length c.args.self.now.state.parties) c.args.endpoint.0 ≡ false =
    ap (λ (n : ℕ). is_known_among n c.args.endpoint.0) (sym c.endpoints.ensures.number) ∙ sym c.is_among.ensures ∙ c.if-is_among.false
    in
    c.if-is_among.false
    ∙ sym (none-pending c.args.self.now.state (subst IsSoundState (ap (λ m. m.state) c.self.view_is) c.self.invariant.sound) c.args.endpoint.0 unknown)
