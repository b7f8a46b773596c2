-- SPDX-License-Identifier: MIT OR Apache-2.0
-- FOR PROOFS ALONE
-- The steps of a record follow one another, up to the RAM that it is of.
use Rattle.std.specs.Prelude.{◌≡◌, Bool, true, false, List, [], ◌∷◌, reverse}
use Rattle.std.proofs.Common.{refl, ap, subst, sym}
use Rattle.std.proofs.lemmas.List.{length-set}
use Rattle.std.proofs.lemmas.Option.{none-some}
use Rattle.ffa_model.specs.Ram.{Ram}
use Rattle.ffa_physmem.specs.Moments.{AreInTurn, StaysPlaced, Step, TurnsIn}
use Rattle.ffa_recorded.specs.declared.recorded.Noted.{Noted}
use Rattle.ffa_recorded.specs.declared.recorded.Noted.TheVariants.{Stored, Written, Settled, Read}
use Rattle.ffa_recorded.specs.Records.{history, step_to, steps_to}
use Rattle.ffa_recorded.specs.Steps.{kept_of}

ends-here : (ram : Ram) (x : Noted) → (step_to ram x).after ≡ ram
ends-here ram (Stored held) = refl
ends-here ram (Written held) = refl
ends-here ram (Settled x) = refl
ends-here ram (Read x) = refl

stays-placed : (ram : Ram) (x : Noted) → StaysPlaced (step_to ram x)
stays-placed ram (Stored held) = record { base = refl; size = sym (length-set ram.pages held.page.0 held.bytes) }
stays-placed ram (Written held) = record { base = refl; size = sym (length-set ram.pages held.page.0 held.bytes) }
stays-placed ram (Settled x) = record { base = refl; size = refl }
stays-placed ram (Read x) = record { base = refl; size = refl }

in-turn : (ram : Ram) (noted : List Noted) → AreInTurn (steps_to ram noted) ram
in-turn ram [] = tt
in-turn ram (x ∷ xs) = (ends-here ram x, stays-placed ram x, in-turn (step_to ram x).before xs)

pub turns : (kept : Bool) (ram : Ram) (noted : List Noted) → TurnsIn ram (history kept ram noted)
turns true ram noted h there = subst (λ (g : List Step). AreInTurn g ram) (ap kept_of there) (in-turn ram (reverse noted))
turns false ram noted h there = absurd (none-some h there)
