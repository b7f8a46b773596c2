-- SPDX-License-Identifier: MIT OR Apache-2.0
-- Integrity of a whole run: what an endpoint has alone stays as it is while it doesn't run.
use Rattle.std.specs.Prelude.{◌≡◌, ℕ, Bool, true, false, not, List, None}
use Rattle.std.specs.List.{list_all}
use Rattle.ffa_model.specs.declared.operation.Op.{Op}
use Rattle.ffa_model.specs.Numbers.{Identifier, PageIndex}
use Rattle.ffa_model.specs.State.{State, page_at, owner_of}
use Rattle.ffa_model.specs.Access.{handle_at}
use Rattle.ffa_model.specs.Step.{state_after}
use Rattle.ffa_laws.specs.Events.{Filled, Item, Own, Told, items}
use Rattle.ffa_laws.specs.Isolation.{is_rx}

-- Whether an item leaves a page that its endpoint has alone, which is one of its RX or isn't: an own operation may
-- change it, and of what is told a message changes the pages of RX alone.
abbrev pub is_quiet : Bool → Item → Bool
is_quiet rx (Own op) = false
is_quiet rx (Told (Filled bytes)) = not rx
is_quiet rx (Told event) = true

-- whether e doesn't run and, if page p is one of its RX, no message fills RX; while e doesn't run, RX stays in its pages
abbrev pub are_quiet : Identifier → PageIndex → State → List Op → Bool
are_quiet e p s ops = list_all (is_quiet (is_rx s e p)) (items e s ops)

-- A page that e has alone, as its owner and in no open transaction, is after a run what it was, with owner, right and
-- bytes, and e has it alone, where e didn't run and, if the page is one of its RX, was told no message into RX.
pub record RunIntegrity (s : State) (ops : List Op) : Type 0 where
  pub page : (e p : ℕ) → owner_of s p ≡ e → handle_at s p ≡ None → are_quiet e p s ops ≡ true
      → page_at (state_after s ops) p ≡ page_at s p
  pub alone : (e p : ℕ) → owner_of s p ≡ e → handle_at s p ≡ None → are_quiet e p s ops ≡ true
      → handle_at (state_after s ops) p ≡ None
