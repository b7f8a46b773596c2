-- SPDX-License-Identifier: MIT OR Apache-2.0
-- Who holds a transaction, from the rights by place.
use Rattle.std.proofs.Common.{◌≡◌, ◌∙◌, ℕ, zero, suc, ◌+◌, ◌<◌, Bool, cond, List, [], ◌∷◌, length, get_or, set, replicate, Option, Some, None, refl, sym, ap, arith, inl, inr}
use Rattle.std.specs.List.{filter_map}
use Rattle.std.specs.Option.{option_map}
use Rattle.std.specs.Ordering.{nat_cmp, eq_by_cmp}
use Rattle.std.specs.FinMap as finite
use Rattle.std.specs.Cmp.{nat_cmp_total, unsigned_tied}
use Rattle.std.proofs.lemmas.Bool.{cases_eq, eq-eqb, ne_eqb}
use Rattle.std.proofs.lemmas.List.{get_or-set_other, get_or-set_same}
use Rattle.ffa_model.specs.declared.rights.Rights.{Rights}
use Rattle.ffa_model.specs.Identifiers.{identifier, place}
use Rattle.ffa_model.specs.Lists.{map_at}
use Rattle.ffa_memshare.specs.Held.{Held, held_in, held_with}
use Rattle.ffa_model.proofs.Places.{place-identifier, same-identifier}

-- the holders whose places begin with k
abbrev from : ℕ → List (Option Rights) → List (ℕ × Rights)
from k held = filter_map (λ x. x) (map_at (λ i. option_map (λ (right : Rights). (identifier (k + i), right))) held)

next-from : (k : ℕ) (held : List (Option Rights)) → filter_map (λ x. x) (map_at (λ i. option_map (λ (right : Rights). (identifier (k + suc i), right))) held) ≡ from (k + 1) held
next-from k held = ap (λ (f : ℕ → ℕ). filter_map (λ x. x) (map_at (λ i. option_map (λ (right : Rights). (identifier (f i), right))) held)) (λ j i. step i j)
  where
    step : (i : ℕ) → k + suc i ≡ k + 1 + i
    step i = omega arith

absent : (k e : ℕ) (held : List (Option Rights)) → ((j : ℕ) → e ≡ identifier (k + j) → ⊥) → finite.find nat_cmp e (from k held) ≡ None
absent k e [] none = refl
absent k e (None ∷ held) none = ap (finite.find nat_cmp e) (next-from k held) ∙ absent (k + 1) e held (λ j is. none (1 + j) (is ∙ ap identifier (omega arith)))
absent k e (Some right ∷ held) none =
    ap (λ b. cond b (Some right) (finite.find nat_cmp e (filter_map (λ x. x) (map_at (λ i. option_map (λ (right : Rights). (identifier (k + suc i), right))) held))))
    (unsigned_tied e (identifier (k + 0)) ∙ ne_eqb e (identifier (k + 0)) (none 0))
    ∙ ap (finite.find nat_cmp e) (next-from k held) ∙ absent (k + 1) e held (λ j is. none (1 + j) (is ∙ ap identifier (omega arith)))

at-place : (k e : ℕ) (held : List (Option Rights)) (j : ℕ) → e ≡ identifier (k + j) → finite.find nat_cmp e (from k held) ≡ get_or held j None
at-place k e [] j is = refl
at-place k e (None ∷ held) zero is =
    ap (finite.find nat_cmp e) (next-from k held)
    ∙ absent (k + 1) e held (λ j other. absurd (far j (same-identifier (k + 0) (k + 1 + j) (sym is ∙ other))))
  where
    far : (j : ℕ) → k + 0 ≡ k + 1 + j → ⊥
    far j same = omega arith
at-place k e (Some right ∷ held) zero is =
    ap (λ b. cond b (Some right) (finite.find nat_cmp e (filter_map (λ x. x) (map_at (λ i. option_map (λ (right : Rights). (identifier (k + suc i), right))) held))))
    (unsigned_tied e (identifier (k + 0)) ∙ eq-eqb e (identifier (k + 0)) is)
at-place k e (None ∷ held) (suc j) is = ap (finite.find nat_cmp e) (next-from k held) ∙ at-place (k + 1) e held j (is ∙ ap identifier (omega arith))
at-place k e (Some right ∷ held) (suc j) is =
    ap (λ b. cond b (Some right) (finite.find nat_cmp e (filter_map (λ x. x) (map_at (λ i. option_map (λ (right : Rights). (identifier (k + suc i), right))) held))))
    (unsigned_tied e (identifier (k + 0)) ∙ ne_eqb e (identifier (k + 0)) (λ other. far (same-identifier (k + 0) (k + suc j) (sym other ∙ is))))
    ∙ ap (finite.find nat_cmp e) (next-from k held) ∙ at-place (k + 1) e held j (is ∙ ap identifier (omega arith))
  where
    far : k + 0 ≡ k + suc j → ⊥
    far same = omega arith

from-first : (held : List (Option Rights)) → held_in held ≡ finite.from_entries (from 0 held)
from-first held = ap (λ (f : ℕ → ℕ). finite.from_entries (filter_map (λ x. x) (map_at (λ i. option_map (λ (right : Rights). (identifier (f i), right))) held))) (λ j i. step i j)
  where
    step : (i : ℕ) → i ≡ 0 + i
    step i = omega arith

held-at : (held : List (Option Rights)) (e j : ℕ) → e ≡ identifier j → finite.get (held_in held) e ≡ get_or held j None
held-at held e j is =
    ap (λ m. finite.get m e) (from-first held) ∙ finite.get-from_entries nat_cmp_total (from 0 held) e ∙ at-place 0 e held j (is ∙ ap identifier (omega arith))

held-none : (held : List (Option Rights)) (e : ℕ) → ((j : ℕ) → e ≡ identifier j → ⊥) → finite.get (held_in held) e ≡ None
held-none held e none =
    ap (λ m. finite.get m e) (from-first held) ∙ finite.get-from_entries nat_cmp_total (from 0 held) e ∙ absent 0 e held (λ j is. none j (is ∙ ap identifier (omega arith)))

-- the right of an endpoint stands at its place
pub held-by : (held : List (Option Rights)) (e : ℕ) → e ≡ identifier (place e) → finite.get (held_in held) e ≡ get_or held (place e) None
held-by held e is = held-at held e (place e) is

-- who is no endpoint holds nothing
pub held-by_none : (held : List (Option Rights)) (e : ℕ) → (e ≡ identifier (place e) → ⊥) → finite.get (held_in held) e ≡ None
held-by_none held e none = held-none held e (λ j is. none (is ∙ ap identifier (sym (ap place is ∙ place-identifier j))))

-- nobody holds anything
pub held-nobody : (n : ℕ) → held_in (replicate n None) ≡ finite.empty
held-nobody n =
    finite.same_map nat_cmp_total finite.nat_cmp-IsAntisymmetric _ _ (λ q. elim (cases_eq q (identifier (place q))) [
      | inl is ↦ held-by (replicate n None) q is ∙ free n (place q) ∙ sym (finite.get-empty nat_cmp q)
      | inr other ↦ held-by_none (replicate n None) q other ∙ sym (finite.get-empty nat_cmp q)
    ])
  where
    free : (n k : ℕ) → get_or {A = Option Rights} (replicate n None) k None ≡ None
    free zero k = refl
    free (suc n) zero = refl
    free (suc n) (suc k) = free n k

-- who holds what after the right of one was written
abbrev tied : ℕ → ℕ → Bool
tied q e = eq_by_cmp nat_cmp q e

get-held_with : (m : Held) (e : ℕ) (right : Option Rights) (q : ℕ) → finite.get (held_with m e right) q ≡ cond (tied q e) right (finite.get m q)
get-held_with m e None q = finite.get-remove nat_cmp_total m e q
get-held_with m e (Some right) q = finite.get-insert nat_cmp_total m e right q

pub held-set : (held : List (Option Rights)) (e : ℕ) (right : Option Rights) → e ≡ identifier (place e) → place e < length held
    → held_in (set held (place e) right) ≡ held_with (held_in held) e right
held-set held e right known lt =
    finite.same_map nat_cmp_total finite.nat_cmp-IsAntisymmetric _ _ (λ q. each q ∙ sym (get-held_with (held_in held) e right q))
  where
    apart : (q : ℕ) → (q ≡ e → ⊥) → cond (tied q e) right (finite.get (held_in held) q) ≡ finite.get (held_in held) q
    apart q other = ap (λ b. cond b right (finite.get (held_in held) q)) (unsigned_tied q e ∙ ne_eqb q e other)

    each : (q : ℕ) → finite.get (held_in (set held (place e) right)) q ≡ cond (tied q e) right (finite.get (held_in held) q)
    each q = elim (cases_eq q e) [
      | inl same ↦
          ap (finite.get (held_in (set held (place e) right))) same
          ∙ held-by (set held (place e) right) e known ∙ get_or-set_same held (place e) right None lt
          ∙ sym (ap (λ b. cond b right (finite.get (held_in held) q)) (unsigned_tied q e ∙ eq-eqb q e same))
      | inr other ↦ elim (cases_eq q (identifier (place q))) [
        | inr none ↦ held-by_none (set held (place e) right) q none ∙ sym (held-by_none held q none) ∙ sym (apart q other)
        | inl is ↦
            held-by (set held (place e) right) q is
            ∙ get_or-set_other held (place e) (place q) right None (λ same. other (is ∙ ap identifier same ∙ sym known))
            ∙ sym (held-by held q is) ∙ sym (apart q other)
      ]
    ]
