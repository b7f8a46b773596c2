-- SPDX-License-Identifier: MIT OR Apache-2.0
-- Who holds a transaction, by endpoint and by place.
use Rattle.std.specs.Prelude.{ℕ, List, Option, Some, None}
use Rattle.std.specs.List.{filter_map}
use Rattle.std.specs.Option.{option_map}
use Rattle.std.specs.Ordering.{nat_cmp}
use Rattle.std.specs.FinMap as finite
use Rattle.ffa_model.specs.declared.rights.Rights.{Rights}
use Rattle.ffa_model.specs.Identifiers.{identifier}
use Rattle.ffa_model.specs.Lists.{map_at}
use Rattle.ffa_model.specs.State.{Transaction}

abbrev pub Held : Type 0
Held = finite.FinMap nat_cmp Rights

-- the rights that are held, by place
abbrev pub held_in : List (Option Rights) → Held
held_in held =
    finite.from_entries
    (filter_map (λ x. x) (map_at (λ i. option_map (λ (right : Rights). (identifier i, right))) held))

-- an endpoint holds this right, or none
abbrev pub held_with : Held → ℕ → Option Rights → Held
held_with held e None = finite.remove held e
held_with held e (Some right) = finite.insert held e right

abbrev pub with_holder : Transaction → ℕ → Option Rights → Transaction
with_holder t e right = record t { held = held_with t.held e right }
