-- SPDX-License-Identifier: MIT OR Apache-2.0
-- A relinquish: what is computed is what the relation says, both ways.
use Rattle.std.proofs.Common.{◌≡◌, ℕ, Bool, List, Some, refl, sym, ap, ◌∙◌, subst}
use Rattle.std.proofs.lemmas.Bool.{and_parts, and_from, leb-true, eqb-true, le-leb, eq-eqb}
use Rattle.std.proofs.lemmas.Option.{cond_some, same_Some}
use Rattle.ffa_model.specs.declared.descriptor.RelinquishDesc.{RelinquishDesc}
use Rattle.ffa_model.specs.RelinquishDescriptor.{Relinquish, relinquish_in, relinquish_of}
use Rattle.ffa_memdesc.proofs.Decisions.{cond_true}

same_parts : (r : RelinquishDesc) (handle endpoint : ℕ) (zero : Bool) → handle ≡ r.handle → zero ≡ r.zero → endpoint ≡ r.endpoint.0
    → record { handle = handle; zero = zero; endpoint = record { 0 = endpoint } } ≡ r
same_parts r handle endpoint zero h z e = rw (h, z, e) refl

pub relinquish_told : (b : List ℕ) (r : RelinquishDesc) → relinquish_of b ≡ Some r → Relinquish b r
unfolding relinquish_of
relinquish_told b r h =
    let (tests, same) = cond_some _ (relinquish_in b) r h in
    let p2 = and_parts _ _ tests in
    let p1 = and_parts _ _ p2.0 in
    subst (λ (d : RelinquishDesc). Relinquish b d) same
    (record { whole = leb-true _ _ p1.0; flags = leb-true _ _ p1.1; one = eqb-true _ _ p2.1; handle = refl; zero = refl; endpoint = refl })

pub relinquish_again : (b : List ℕ) (r : RelinquishDesc) → Relinquish b r → relinquish_of b ≡ Some r
unfolding relinquish_of
relinquish_again b r h =
    cond_true _ (relinquish_in b) (and_from _ _ (and_from _ _ (le-leb _ _ h.whole) (le-leb _ _ h.flags)) (eq-eqb _ _ h.one))
    ∙ ap (λ (d : RelinquishDesc). Some d) (same_parts r _ _ _ (sym h.handle) (sym h.zero) (sym h.endpoint))

-- a list of bytes fits at most one record
pub one_relinquish : (b : List ℕ) (r s : RelinquishDesc) → Relinquish b r → Relinquish b s → r ≡ s
one_relinquish b r s h k = same_Some r s (sym (relinquish_again b r h) ∙ relinquish_again b s k)
