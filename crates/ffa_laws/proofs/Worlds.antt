-- SPDX-License-Identifier: MIT OR Apache-2.0
-- Where worlds are told apart, the normal world reaches no secure page: it owns none, and holds none.
use Rattle.std.proofs.Common.{◌≡◌, ◌≢◌, ◌∙◌, ℕ, ◌<◌, Bool, true, false, cond, length, Option, Some, None, refl, sym, ap, inl, inr, ◌&&◌}
use Rattle.std.specs.FinMap as finite
use Rattle.std.specs.Option.{option_and_then}
use Rattle.std.proofs.lemmas.Bool.{cases_lt, false≢true, ne_eqb}
use Rattle.std.proofs.lemmas.List.{get_or_past}
use Rattle.std.proofs.lemmas.Option.{none-some}
use Rattle.ffa_model.specs.declared.rights.Rights.{Rights}
use Rattle.ffa_model.specs.Rights.{is_share}
use Rattle.ffa_model.specs.State.{State, Page, Transaction, page_at}
use Rattle.ffa_model.specs.Access.{handle_at, held_by, is_naming, right_by, right_of}
use Rattle.ffa_model.specs.SoundState.{IsSoundState, IsSoundTransaction, is_secure}
use Rattle.ffa_model.proofs.Handles.{found-passes}
use Rattle.ffa_model.proofs.Own.{owned_by}
use Rattle.ffa_laws.specs.OwnAccess.{AreWorldsApart}

-- who neither holds a page nor sent it has no right to it
unheld : (page : Page) (t : Transaction) (e : ℕ) → t.sender ≢ e → (o : Option Rights) → o ≡ None → right_by e page t o ≡ None
unheld page t e other None none = ap (λ b. cond (is_share t.kind && b) (Some page.own_right) None) (ne_eqb t.sender e other) ∙ unshared (is_share t.kind)
  where
    unshared : (b : Bool) → cond (b && false) (Some page.own_right) None ≡ None
    unshared true = refl
    unshared false = refl
unheld page t e other (Some right) none = absurd (none-some right (sym none))

module _ (s : State) (sound : IsSoundState s) (p : ℕ) (secure : is_secure s p ≡ true) (page : Page) (there : page_at s p ≡ Some page) where
  inside : p < length s.pages
  inside = elim (cases_lt p (length s.pages)) [
    | inl lt ↦ lt
    | inr past ↦ absurd (none-some page (sym (get_or_past s.pages p None past) ∙ there))
  ]

  unowned : page.owner ≢ 0
  unowned first = sound.worlds p secure (ap owned_by there ∙ first)

  -- by the transaction in which the page stands
  named : (h : ℕ) (o : Option Transaction) → finite.get s.transactions h ≡ o → is_naming s p o ≡ true → right_of 0 (Some page) o ≡ None
  named h None at is = absurd (false≢true is)
  named h (Some t) at is = unheld page t 0 (λ first. unowned (ap owned_by (sym there) ∙ good.owned p inside is ∙ first)) (held_by t 0) (held (held_by t 0) refl)
    where
      good : IsSoundTransaction s h t
      good = sound.transactions h t at

      held : (r : Option Rights) → held_by t 0 ≡ r → r ≡ None
      held None its = refl
      held (Some right) its = absurd (false≢true (sym (good.worlds p inside is secure) ∙ good.holder 0 right its))

  unreached : (o : Option ℕ) → handle_at s p ≡ o → right_of 0 (Some page) (option_and_then (finite.get s.transactions) o) ≡ None
  unreached None is = ap (λ b. cond b (Some page.own_right) None) (ne_eqb page.owner 0 unowned)
  unreached (Some h) is = named h (finite.get s.transactions h) refl (found-passes (is_naming s p) refl s.transactions h is)

pub worlds_apart : (s : State) → IsSoundState s → AreWorldsApart s
worlds_apart s sound p secure = of (page_at s p) refl
  where
    of : (o : Option Page) → page_at s p ≡ o → right_of 0 o (option_and_then (finite.get s.transactions) (handle_at s p)) ≡ None
    of None there = refl
    of (Some page) there = unreached s sound p secure page there (handle_at s p) refl
