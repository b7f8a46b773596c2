-- SPDX-License-Identifier: MIT OR Apache-2.0
-- What an endpoint can know of a state: the state itself, with all else left out or blank. A page that isn't near it is None, as
-- one of the manager is; transactions, holders, bits and notices that it doesn't know of are left out; another's count of sends is
-- 0, and whether another has bitmaps is false, but to who hears of notices; and another's buffers are in no page of RAM.
use Rattle.std.specs.Prelude.{ℕ, ◌==◌, Bool, ◌&&◌, ◌||◌, length, map as each, Option, None, if◌then◌else◌}
use Rattle.std.specs.Ordering.{nat_cmp}
use Rattle.std.specs.Option.{option_map}
use Rattle.std.specs.FinMap as map
use Rattle.std.specs.FinSet as finite_set
use Rattle.ffa_model.specs.declared.endpoint.Version.TheVariants.{V1_1}
use Rattle.ffa_model.specs.Numbers.{Identifier, PageIndex}
use Rattle.ffa_model.specs.Lists.{map_at}
use Rattle.ffa_model.specs.Identifiers.{identifier}
use Rattle.ffa_model.specs.State.{State, Transaction, Buffers, owner_of, transaction_of}
use Rattle.ffa_model.specs.Access.{is_from, is_offered, transaction_at}
use Rattle.ffa_model.specs.Notices.{hears_notices}
use Rattle.ffa_model.specs.Notifications.{receiver_of_entry, sender_of_entry}
use Rattle.ffa_laws.specs.Notices.{notices_seen, pending_seen}

-- whether e sent a transaction, or is offered it
abbrev pub involves : Identifier → Option Transaction → Bool
involves e t = is_from e t || is_offered e t

-- a page that e owns, or that a transaction of e's or offered to e names; in a sound state one transaction names it at most
abbrev pub is_near : Identifier → State → PageIndex → Bool
is_near e s p = owner_of s p == e || involves e (transaction_at s p)

abbrev pub kept : {X : Type 0} → Bool → Option X → Option X
kept there x = if there then x else None

-- a finite map whose values are changed
abbrev pub map_values : {X Y : Type 0} → (X → Y) → map.FinMap nat_cmp X → map.FinMap nat_cmp Y
map_values f m = map.from_entries (each (λ entry. (entry.0, f entry.1)) (map.entries m))

-- who isn't the sender knows of the holders itself alone
abbrev pub seen_by : Identifier → Transaction → Transaction
seen_by e t = record t { held = if t.sender == e then t.held else map.retain_keys t.held (λ f. f == e) }

abbrev pub transactions_of : Identifier → State → map.FinMap nat_cmp Transaction
transactions_of e s = map_values (seen_by e) (map.retain_keys s.transactions (λ h. involves e (transaction_of s h)))

-- of another's buffers whether they are mapped, how many pages they have, and whether RX is full; their pages are named by
-- numbers past RAM
abbrev pub hidden : ℕ → Option Buffers → Option Buffers
hidden past b = option_map (λ (q : Buffers). record { tx = past; rx = past; pages = q.pages; full = q.full }) b

abbrev pub buffers_seen : Identifier → ℕ → ℕ → Option Buffers → Option Buffers
buffers_seen e past i b = if identifier i == e then b else hidden past b

-- The constants are public, and so are who runs, each status and work, and of each endpoint's buffers whether they are
-- mapped, how many pages they have, and whether RX is full. Of the sends and of who has bitmaps e knows its own element;
-- of the bits that are bound, those that it receives or sends; of those that are pending, its own. Who hears of notices knows
-- them all, who has bitmaps, and what is pending of others but for what partitions set.
-- A view is a state with blanks, so that the step itself runs on it (`Replays`). A type of its own would need 18 more
-- lines to believe, which turn it into a state, and a proof that it tells the same states apart.
abbrev pub view : Identifier → State → State
view e s =
    record {
      ram_base = s.ram_base;
      tables = s.tables;
      parties = s.parties;
      ffa = s.ffa;
      versions = map_at (λ i version. if identifier i == e then version else V1_1) s.versions;
      normal = s.normal;
      pages = map_at (λ p page. kept (is_near e s p) page) s.pages;
      transactions = transactions_of e s;
      sent = map_at (λ i n. if identifier i == e then n else 0) s.sent;
      buffers = map_at (buffers_seen e (length s.pages)) s.buffers;
      runner = s.runner;
      statuses = s.statuses;
      works = s.works;
      bitmaps = map_at (λ i has. (identifier i == e || hears_notices s.ffa e) && has) s.bitmaps;
      bound = finite_set.retain s.bound (λ x. receiver_of_entry x == e || sender_of_entry x == e);
      pending = pending_seen e s;
      notices = notices_seen e s;
    }
