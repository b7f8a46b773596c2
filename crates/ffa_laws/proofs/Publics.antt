-- SPDX-License-Identifier: MIT OR Apache-2.0
-- What is told of the public part: nothing, or all of it.
use Rattle.std.proofs.Common.{◌≡◌, ◌≢◌, List, [], ◌∷◌, inl, inr, ◌⊎◌}
use Rattle.ffa_model.specs.State.{State}
use Rattle.ffa_laws.specs.Public.{PublicPart, public_part, same_public}
use Rattle.ffa_laws.specs.Events.{Event, Public, public_change}

-- where it is another
abbrev pub told-of : {a b : PublicPart} → (a ≡ b) ⊎ (a ≢ b) → List Event
told-of {b = b} c = elim c [ inl same ↦ [] | inr differ ↦ Public b ∷ [] ]

pub either-public : (P : List Event → Type 0) (s next : State) → P [] → P (Public (public_part next) ∷ []) → P (public_change s next)
either-public P s next none told = elim (same_public (public_part s) (public_part next)) as (λ c. P (told-of c)) [ inl same ↦ none | inr differ ↦ told ]
