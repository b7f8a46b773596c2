-- SPDX-License-Identifier: MIT OR Apache-2.0
-- Operations that are done one after another.
use Rattle.std.proofs.Common.{◌≡◌, ◌∙◌, ℕ, ◌+◌, ◌<◌, List, [], ◌∷◌, ◌++◌, length, take, drop, set, get_or, None, sym, ap, subst}
use Rattle.std.proofs.lemmas.List.{append_assoc, at_drop_more, take_more_set}
use Rattle.ffa_model.specs.declared.operation.Op.{Op}
use Rattle.ffa_model.specs.declared.operation.Outcome.{Outcome}
use Rattle.ffa_model.specs.SoundState.{IsSoundState}
use Rattle.ffa_model.specs.State.{State, page_at}
use Rattle.ffa_model.specs.Step.{outcomes, state_after, step}
use Rattle.ffa_laws.proofs.Growth.{step_never_grows}
use Rattle.ffa_laws.proofs.SoundOperations.{step-sound}
use Rattle.ffa_laws.proofs.SoundSteady.{sound-steady}
use Rattle.ffa_spmc.specs.Operated.{AreOperated, IsOperated}
use Rattle.ffa_spmc.specs.Snapshot.{Snapshot}
use Rattle.ffa_spmc.specs.Unowned.{IsNoTable, KeepsUnowned}
use Rattle.ffa_spmc.proofs.Sizes.{tables-kept}
use Rattle.ffa_spmc.proofs.Unowned.{unowned-same}

-- one operation more: its outcome is filled in, and what is left then gives the rest
module _ (now next : State) (ops : List Op) (i : ℕ) (d : Op) (lt : i < length ops) (is : next ≡ (step now (get_or ops i d)).state) where
  pub outcomes-more : (filled : List Outcome) (outcome : Outcome) (all : List Outcome) → i < length filled → outcome ≡ (step now (get_or ops i d)).outcome
      → take i filled ++ outcomes now (drop i ops) ≡ all → take (i + 1) (set filled i outcome) ++ outcomes next (drop (i + 1) ops) ≡ all
  outcomes-more filled outcome all inside told before =
      ap (λ (xs : List Outcome). xs ++ outcomes next (drop (i + 1) ops)) (take_more_set filled i outcome inside)
      ∙ append_assoc (take i filled) (outcome ∷ []) (outcomes next (drop (i + 1) ops))
      ∙ (λ k. take i filled ++ (told k ∷ outcomes (is k) (drop (i + 1) ops)))
      ∙ sym (at_drop_more (λ (left : List Op). take i filled ++ outcomes now left) ops i d lt) ∙ before

  pub state-more : (last : State) → state_after now (drop i ops) ≡ last → state_after next (drop (i + 1) ops) ≡ last
  state-more last before = ap (λ (s : State). state_after s (drop (i + 1) ops)) is ∙ sym (at_drop_more (state_after now) ops i d lt) ∙ before

-- and what is left then ends the chain
pub one-more : (old now next : Snapshot) (ops : List Op) (i : ℕ) (d : Op) → i < length ops → IsOperated now (get_or ops i d) next
    → ((new : Snapshot) → AreOperated now (drop i ops) new → AreOperated old ops new)
    → (new : Snapshot) → AreOperated next (drop (i + 1) ops) new → AreOperated old ops new
one-more old now next ops i d lt done before new rest =
    before new (subst (λ (left : List Op). AreOperated now left new) (sym (at_drop_more (λ left. left) ops i d lt)) (next, (done, rest)))

-- what nobody owns keeps its bytes
pub unowned-chained : (old : Snapshot) (ops : List Op) (new : Snapshot) → IsSoundState old.state → AreOperated old ops new → KeepsUnowned old.state old.ram new.ram
unowned-chained old [] new sound same = unowned-same old.state old.ram new.ram (ap (λ (seen : Snapshot). seen.ram) same)
unowned-chained old (op ∷ ops) new sound (next, (done, rest)) = λ p aside none.
    let grown = step_never_grows old.state op (sound-steady old.state sound) in
    let aside' : IsNoTable next.state p = subst (λ (s : State). IsNoTable s p) (sym done.state) (tables-kept old.state op p aside) in
    let none' : page_at next.state p ≡ None = ap (λ (s : State). page_at s p) done.state ∙ grown.manager p none in
    unowned-chained next ops new (subst IsSoundState (sym done.state) (step-sound old.state sound op)) rest p aside' none' ∙ done.unowned p aside none
