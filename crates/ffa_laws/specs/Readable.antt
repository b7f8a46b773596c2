-- SPDX-License-Identifier: MIT OR Apache-2.0
-- What an endpoint can read: its view, in which no page has bytes to which it has no access now. What is lent away, and what
-- is offered and not yet retrieved, is blank.
use Rattle.std.specs.Prelude.{◌≡◌, ◌≢◌, ◌==◌, ℕ, ◌/◌, ◌-◌, Bool, true, false, not, ◌&&◌, List, [], ◌∷◌, ◌++◌, Option, is_none, map as each, if◌then◌else◌}
use Rattle.std.specs.Option.{option_map}
use Rattle.ffa_model.specs.declared.operation.Op.{Op}
use Rattle.ffa_model.specs.Numbers.{Identifier, PageIndex}
use Rattle.ffa_model.specs.Lists.{map_at}
use Rattle.ffa_model.specs.State.{State, Page, is_known, transaction_of}
use Rattle.ffa_model.specs.Access.{access, is_held_by}
use Rattle.ffa_model.specs.Step.{state_after, step}
use Rattle.ffa_laws.specs.Steady.{IsSteady}
use Rattle.ffa_laws.specs.View.{kept, view}
use Rattle.ffa_laws.specs.Events.{Event, Wrote, Opened, Zeroed, apply_all, events, seen, where_true}
use Rattle.ffa_laws.specs.Move.{Move}
use Rattle.ffa_laws.specs.OwnAccess.{gives_access}

-- a page without its bytes, and a state in which each page that a test picks has none
abbrev pub blank_page : Option Page → Option Page
blank_page page = option_map (λ (q : Page). record q { bytes = [] }) page

abbrev pub blank_where : Bool → Option Page → Option Page
blank_where hides page = if hides then blank_page page else page

abbrev pub blanked : (ℕ → Bool) → List (Option Page) → List (Option Page)
blanked hides pages = map_at (λ p page. blank_where (hides p) page) pages

abbrev pub blank : (ℕ → Bool) → State → State
blank hides s = record s { pages = blanked hides s.pages }

abbrev pub is_unreadable : State → Identifier → PageIndex → Bool
is_unreadable s e p = is_none (access s e p)

abbrev pub readable : Identifier → State → State
readable e s = blank (is_unreadable s e) (view e s)

-- the pages, with their bytes, that e can read in the later state and couldn't in the earlier one
abbrev pub revealed : Identifier → State → State → List (Option Page)
revealed e s t = map_at (λ p page. kept (is_unreadable s e p && not (is_unreadable t e p)) page) t.pages

-- of what another's operation tells e, what it can read: no write into a page that it can't read, no zeros of a transaction
-- that it doesn't hold, and of the pages of one that is opened no bytes
abbrev pub readably : Identifier → State → Event → List Event
readably e s (Wrote address bytes) =
    where_true (not (is_unreadable s e ((address - s.ram_base) / 4096))) (Wrote address bytes ∷ [])
readably e s (Opened h t pages) = Opened h t (blanked (is_unreadable s e) pages) ∷ []
readably e s (Zeroed h) = where_true (is_held_by e (transaction_of s h)) (Zeroed h ∷ [])
readably e s event = event ∷ []

abbrev pub all_readably : Identifier → State → List Event → List Event
all_readably e s [] = []
all_readably e s (event ∷ events) = readably e s event ++ all_readably e s events

-- One move, from two states in which the actor can read the same: it has the same result, and leaves states in which
-- the actor can read the same, if what becomes readable to it is the same. Where it neither retrieves nor reclaims, no
-- such condition is needed. And what another endpoint can read changes by what is told to it readably alone. This is of
-- states s in which nobody is offered what it sent itself.
pub record Confidential {Result : Type 0} (m : State → Move Result) (s : State) : Type 0 where
  pub outcome : (t : State) → IsSteady t → readable (m s).from.runner t ≡ readable (m s).from.runner s → (m t).result ≡ (m s).result
  pub own :
      (t : State) → IsSteady t → readable (m s).from.runner t ≡ readable (m s).from.runner s
      → revealed (m s).from.runner t (m t).after ≡ revealed (m s).from.runner s (m s).after
      → readable (m s).from.runner (m t).after ≡ readable (m s).from.runner (m s).after
  pub quiet : (t : State) → IsSteady t → readable (m s).from.runner t ≡ readable (m s).from.runner s → (m s).asks gives_access ≡ false
      → readable (m s).from.runner (m t).after ≡ readable (m s).from.runner (m s).after
  pub others :
      (e : ℕ) → is_known s e ≡ true → (m s).from.runner ≢ e
      → readable e (m s).after ≡ apply_all e (readable e s) (all_readably e s ((m s).told e))

-- RUNS

-- what an endpoint meets in a run: an operation of its own with what that reveals to it, and an event that it is told readably
pub data Reading : Type 0 where
  Did : (op : Op) (shown : List (Option Page)) → Reading
  Heard : (event : Event) → Reading

abbrev pub readings : Identifier → State → List Op → List Reading
readings e s [] = []
readings e s (op ∷ ops) =
    (if s.runner == e then Did op (revealed e s (step s op).state) ∷ [] else each Heard (all_readably e s (events e s op))) ++ readings e (step s op).state ops

-- what e sees of a run, and what it can read after it, depend on what it can read at the start and on these readings alone
abbrev pub RunConfidential : State → List Op → Type 0
RunConfidential s ops =
    (e : ℕ) (t : State) (others : List Op) → is_known s e ≡ true → IsSteady t → readable e t ≡ readable e s
    → readings e t others ≡ readings e s ops
    → (seen e t others ≡ seen e s ops) × (readable e (state_after t others) ≡ readable e (state_after s ops))
