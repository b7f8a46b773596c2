-- SPDX-License-Identifier: MIT OR Apache-2.0
-- The events of lent RAM.
use Rattle.std.specs.Prelude.{◌≡◌, ⊤, ℕ, Option, Some, None}
use Rattle.ffa_model.specs.Ram.{Ram}
use Rattle.ffa_physmem.specs.Moments.{Reading, Settled}
use Rattle.ffa_lent.specs.History.{Event, changed}
use Rattle.ffa_lent.specs.Settling.{request_of}
use Rattle.ffa_lent.specs.declared.history.Doing.{Doing}
use Rattle.ffa_lent.specs.declared.history.What.{What}
use Rattle.ffa_lent.specs.declared.history.What.TheVariants as what

-- if the event is a settle or a barrier, the request to firmware is for these pages of RAM at this base
abbrev pub IsAsked : ℕ → ℕ → ℕ → What → Type 0
IsAsked base first count what.Stored = ⊤
IsAsked base first count what.Lent = ⊤
IsAsked base first count what.Written = ⊤
IsAsked base first count (what.Read begins) = ⊤
IsAsked base first count (what.Settled endpoint asked) = asked.request.now ≡ request_of endpoint base first count
IsAsked base first count (what.Shown asked) = asked.request.now ≡ request_of 0 base first count

abbrev pub settled_by : ℕ → ℕ → What → Option Settled
settled_by first count what.Stored = None
settled_by first count what.Lent = None
settled_by first count what.Written = None
settled_by first count (what.Read begins) = None
settled_by first count (what.Settled endpoint asked) = Some (record { endpoint = endpoint; first = first; count = count })
settled_by first count (what.Shown asked) = None

abbrev pub reading_by : ℕ → ℕ → What → Option Reading
reading_by first count what.Stored = None
reading_by first count what.Lent = None
reading_by first count what.Written = None
reading_by first count (what.Read begins) = Some (record { first = first; count = count; begins = begins })
reading_by first count (what.Settled endpoint asked) = None
reading_by first count (what.Shown asked) = None

-- a store is one word, and the begin of a loan counts that loan
abbrev pub words_by : What → ℕ
words_by what.Stored = 1
words_by what.Lent = 0
words_by what.Written = 0
words_by (what.Read begins) = 0
words_by (what.Settled endpoint asked) = 0
words_by (what.Shown asked) = 0

abbrev pub loans_by : What → ℕ
loans_by what.Stored = 0
loans_by what.Lent = 1
loans_by what.Written = 0
loans_by (what.Read begins) = 0
loans_by (what.Settled endpoint asked) = 0
loans_by (what.Shown asked) = 0

-- the event of a RAM
abbrev pub event_of : Ram → Doing → Event
event_of ram d =
    record (changed ram d.first.0 d.count) {
      settled = settled_by d.first.0 d.count d.what;
      reading = reading_by d.first.0 d.count d.what;
      words = words_by d.what;
      loans = loans_by d.what;
    }
