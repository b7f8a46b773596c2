-- SPDX-License-Identifier: MIT OR Apache-2.0
-- What is held after a call, where the cache forgot the pages to which access changed.
use Rattle.std.proofs.Common.{◌≡◌, ◌≢◌, ◌∙◌, ℕ, Bool, true, false, cond, List, Option, Some, None, refl, sym, ap, inl, inr}
use Rattle.std.specs.Prelude.{◌⊎◌}
use Rattle.std.proofs.lemmas.Option.{none-some}
use Rattle.ffa_model.specs.declared.leaf.Leaf.{Leaf}
use Rattle.ffa_model.specs.Access.{access}
use Rattle.ffa_model.specs.Agreement.{Agrees}
use Rattle.ffa_model.specs.Ram.{Ram}
use Rattle.ffa_model.specs.SoundState.{IsSoundState}
use Rattle.ffa_model.specs.State.{State}
use Rattle.ffa_memshare.specs.declared.changed.Changed.{Changed}
use Rattle.ffa_tlb.specs.declared.translations.Entry.{Entry}
use Rattle.ffa_tlb.specs.Lookups.{lookup}
use Rattle.ffa_physmem.specs.Unrecorded.{no_site, unrecorded}
use Rattle.ffa_spmc.specs.AccessChange.{IsAccessChange, is_of}
use Rattle.ffa_spmc.specs.Cached.{AreWalks}
use Rattle.ffa_spmc.proofs.HeldWalks.{held-right}

module _ (s t : State) (changed : Option Changed) (change : IsAccessChange s t changed)
    (old new : List Entry) (forgot : (e p : ℕ) → lookup new e p ≡ cond (is_of s changed e p) None (lookup old e p)) where
  -- either it changed, and nothing is held, or access and what is held are as before
  by_change : (e p : ℕ) (P : Type 0) → (is_of s changed e p ≡ true → lookup new e p ≡ None → P)
      → (access t e p ≡ access s e p → lookup new e p ≡ lookup old e p → P) → P
  by_change e p P changes stays = of (is_of s changed e p) refl
    where
      of : (b : Bool) → is_of s changed e p ≡ b → P
      of true is = changes is (forgot e p ∙ ap (λ b. cond b None (lookup old e p)) is)
      of false is = stays (change.rest e p is) (forgot e p ∙ ap (λ b. cond b None (lookup old e p)) is)

  pub still-held : (e p : ℕ) (leaf : Leaf) → lookup new e p ≡ Some leaf → (lookup old e p ≡ Some leaf) × (access t e p ≡ access s e p)
  still-held e p leaf is =
      by_change e p ((lookup old e p ≡ Some leaf) × (access t e p ≡ access s e p))
      (λ _ none. absurd (none-some leaf (sym none ∙ is)))
      (λ same held. (sym held ∙ is, same))

  pub gone : (e p : ℕ) → access t e p ≢ access s e p → lookup new e p ≡ None
  gone e p differs = by_change e p (lookup new e p ≡ None) (λ _ none. none) (λ same _. absurd (differs same))

  pub gone-or-held : (e p : ℕ) → (lookup new e p ≡ None) ⊎ (lookup new e p ≡ lookup old e p)
  gone-or-held e p = by_change e p ((lookup new e p ≡ None) ⊎ (lookup new e p ≡ lookup old e p)) (λ _ none. inl none) (λ _ held. inr held)

  -- where access changed there was none, or there is none, so nothing was held where it is as before
  pub same-held : (ram : Ram) → Agrees ram s → IsSoundState s → AreWalks (record { state = s; ram = ram; held = old; past = unrecorded no_site; told = None })
      → (e p : ℕ) → access t e p ≡ access s e p → lookup new e p ≡ lookup old e p
  same-held ram agrees sound walks e p same =
      by_change e p (lookup new e p ≡ lookup old e p)
      (λ is none. none ∙ sym (nothing (lookup old e p) refl (barred is)))
      (λ _ held. held)
    where
      barred : is_of s changed e p ≡ true → access s e p ≡ None
      barred is = elim (change.exclusive e p is) [ inl before ↦ before | inr after ↦ sym same ∙ after ]

      nothing : (o : Option Leaf) → lookup old e p ≡ o → access s e p ≡ None → o ≡ None
      nothing None is none = refl
      nothing (Some leaf) is none =
          let (r, right, _) = held-right ram s agrees sound e p leaf (walks e p leaf is) in
          absurd (none-some r (sym none ∙ right))
