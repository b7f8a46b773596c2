-- SPDX-License-Identifier: MIT OR Apache-2.0
-- FOR PROOFS ALONE
-- What the machine's private steps do to its cache.
use Rattle.std.specs.Prelude.{◌≡◌, ℕ, ◌+◌, ◌-◌, ◌%◌, ◌==◌, Bool, true, ◌&&◌, List, Option, None, if◌then◌else◌}
use Rattle.ffa_model.specs.declared.limits.TheConstants.{MOST_PAGES}
use Rattle.ffa_model.specs.declared.leaf.Leaf.{Leaf}
use Rattle.ffa_model.specs.declared.operation.Outcome.{Outcome}
use Rattle.ffa_memshare.specs.declared.changed.Changed.{Changed}
use Rattle.ffa_model.specs.Refusals.{is_refusal}
use Rattle.ffa_model.specs.State.{State}
use Rattle.ffa_tlb.specs.declared.translations.Entry.{Entry}
use Rattle.ffa_tlb.specs.Lookups.{lookup}
use Rattle.ffa_spmc.specs.AccessChange.{IsAccessChange, is_of}
use Rattle.ffa_spmc.specs.Cached.{AreSameOrGone, is_runners, missed_page}
use Rattle.ffa_spmc.specs.Snapshot.{Snapshot}

-- the leaf of a page's first address, moved to an address of the page; and back
abbrev pub moved_to : Leaf → ℕ → Leaf
moved_to leaf address = record leaf { phys = leaf.phys + address % 4096 }

abbrev pub moved_back : Leaf → ℕ → Leaf
moved_back leaf address = record leaf { phys = leaf.phys - address % 4096 }

-- The cache was given what the walk of an address answered, behind an access with this outcome: where a leaf was held for its page
-- or the access was refused nothing changes, and else at most the page is new.
pub record IsCached (old new : Snapshot) (address : ℕ) (told : Outcome) : Type 0 where
  pub rest : new ≡ record old { held = new.held }
  pub hit : missed_page old address ≡ None → new.held ≡ old.held
  pub refused : is_refusal told ≡ true → new.held ≡ old.held
  pub miss : AreSameOrGone old new (is_runners old.state address)

-- nothing is held any more for e and the pages that pass a test, and each other page has what it had
abbrev pub AreOut : List Entry → List Entry → ℕ → (ℕ → Bool) → Type 0
AreOut old new e test = (f q : ℕ) → lookup new f q ≡ (if f == e && test q then None else lookup old f q)

-- the pages of the largest RAM
abbrev pub most_pages : ℕ
most_pages = MOST_PAGES

-- of what a cache held nothing is left where an access changed, and all the rest
pub record IsForgotten (old new : State) (held kept : List Entry) (changed : Option Changed) : Type 0 where
  pub access : IsAccessChange old new changed
  pub rest : (e p : ℕ) → lookup kept e p ≡ (if is_of old changed e p then None else lookup held e p)
