-- SPDX-License-Identifier: MIT OR Apache-2.0
-- From a record that is computed, or a condition that is broken, to an answer about a relation.
use Rattle.std.proofs.Common.{◌≡◌, Option, Some, None, Result, Ok, Err, refl, sym, IfOk, IfErr, OnErr}
use Rattle.std.specs.Option.{option_map}
use Rattle.std.specs.Result.{result_ok, result_err}

module _ {D R E : Type 0} (view : D → R) (Fits : R → Type 0) (Breaks : E → Type 0) (computed : Option R) where
  pub found : (r : Result D E) → ((x : R) → computed ≡ Some x → Fits x) → IfOk r (λ d. Some (view d) ≡ computed) → IfOk r (λ d. Fits (view d))
  found (Ok d) told is = told (view d) (sym is)
  found (Err e) told is = tt

  pub none : (r : Result D E) → ((e : E) (x : R) → Breaks e → Fits x → ⊥) → IfErr r Breaks → OnErr r ((x : R) → Fits x → ⊥)
  none (Ok d) refutes broken = tt
  none (Err e) refutes broken = λ x fits. refutes e x broken fits

  no_record : (e : E) (o : Option R) → ((x : R) → o ≡ Some x → Fits x) → ((e : E) (x : R) → Breaks e → Fits x → ⊥) → Breaks e → None ≡ o
  no_record e None told refutes broken = refl
  no_record e (Some x) told refutes broken = absurd (refutes e x broken (told x refl))

  pub all : (r : Result D E) → ((x : R) → computed ≡ Some x → Fits x) → ((e : E) (x : R) → Breaks e → Fits x → ⊥)
      → IfOk r (λ d. Some (view d) ≡ computed) → IfErr r Breaks → option_map view (result_ok r) ≡ computed
  all (Ok d) told refutes is broken = is
  all (Err e) told refutes is broken = no_record e computed told refutes broken

-- what holds of the first holds of an error that tells it
pub told_breaks : {D E : Type 0} (r : Result D E) (first : Option E) (Breaks : E → Type 0) → ((e : E) → Some e ≡ first → Breaks e) → result_err r ≡ first → IfErr r Breaks
told_breaks (Ok d) first Breaks broken is = tt
told_breaks (Err e) first Breaks broken is = broken e is

pub mapped : {D : Type 0} (o p : Option D) → option_map (λ (d : D). d) o ≡ p → o ≡ p
mapped (Some d) p e = e
mapped None p e = e
