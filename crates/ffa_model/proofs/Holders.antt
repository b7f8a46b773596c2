-- SPDX-License-Identifier: MIT OR Apache-2.0
-- Who holds a transaction.
use Rattle.std.proofs.Common.{◌≡◌, ◌∙◌, ℕ, Bool, true, false, List, [], ◌∷◌, Option, Some, None, refl, sym, ap, ◌==◌, ◌||◌, is_none}
use Rattle.std.specs.List.{list_all, list_any}
use Rattle.std.proofs.lemmas.Bool.{and_parts, eqb-true, false≢true}
use Rattle.ffa_model.specs.Access.{held_by, is_receiver}
use Rattle.ffa_model.specs.MemoryReturn.{is_unheld}
use Rattle.ffa_model.specs.State.{Transaction}
use Rattle.ffa_model.specs.declared.rights.Rights.{Rights}
use Rattle.ffa_model.specs.declared.transaction.Receiver.{Receiver}

-- nobody holds a transaction that no receiver holds
pub unheld-by : (t : Transaction) (e : ℕ) → is_unheld (Some t) ≡ true
    → ((right : Rights) → held_by t e ≡ Some right → is_receiver e t ≡ true) → held_by t e ≡ None
unheld-by t e unheld holder = of (held_by t e) refl
  where
    none : (rs : List Receiver) → list_all (λ (r : Receiver). is_none (held_by t r.endpoint.0)) rs ≡ true → list_any (λ (r : Receiver). r.endpoint.0 == e) rs ≡ true → is_none (held_by t e) ≡ true
    none [] all any = absurd (false≢true any)
    none (r ∷ rs) all any = let (its, rest) = and_parts _ _ all in by (r.endpoint.0 == e) refl its rest any (none rs)
      where
        by : (b : Bool) → (r.endpoint.0 == e) ≡ b → is_none (held_by t r.endpoint.0) ≡ true → list_all (λ (r : Receiver). is_none (held_by t r.endpoint.0)) rs ≡ true
            → (b || list_any (λ (r : Receiver). r.endpoint.0 == e) rs) ≡ true
            → (list_all (λ (r : Receiver). is_none (held_by t r.endpoint.0)) rs ≡ true → list_any (λ (r : Receiver). r.endpoint.0 == e) rs ≡ true → is_none (held_by t e) ≡ true)
            → is_none (held_by t e) ≡ true
        by true same its rest any next = ap (λ f. is_none (held_by t f)) (sym (eqb-true r.endpoint.0 e same)) ∙ its
        by false same its rest any next = next rest any

    of : (o : Option Rights) → held_by t e ≡ o → o ≡ None
    of None is = refl
    of (Some right) is = absurd (false≢true (sym (ap is_none is) ∙ none t.receivers unheld (holder right is)))
