-- SPDX-License-Identifier: MIT OR Apache-2.0
-- What was written to RAM, step by step.
use Rattle.std.specs.Prelude.{◌≡◌, ⊤, ◌⊎◌, ◌-◌, ◌*◌, ◌<◌, ◌≤◌, ℕ, suc, Bool, true, false, List, [], ◌∷◌, length, take, Option, Some, None}
use denote.RawPtr.{Ptr}
use Rattle.ffa_model.specs.Lists.{is_in_run}
use Rattle.ffa_model.specs.Ram.{Ram, page_of, with_page, with_word}

-- what no translation unit may hold any more: pages from one on, of this number, in the tables of the endpoint at a place
pub record Settled : Type 0 where
  pub endpoint : ℕ
  pub first : ℕ
  pub count : ℕ

-- what is read at once: first bytes of pages from one on, of this number; and whether from here on they are as that reading gave them, or
-- are so no longer
pub record Reading : Type 0 where
  pub first : ℕ
  pub count : ℕ
  pub begins : Bool

-- one step: RAM as it was before, and as it is behind it; what was settled, or read at once, where the step is that; and how many words
-- it stored, and how many loans of a page's bytes it counts. One step of each loan counts that loan.
-- A step is data, and a history is a list that grows. If the promise were that some single writes lead from the old
-- RAM to the new one, a bad body could meet it with RAMs that it never had. A set of RAMs could have a bad one from
-- before.
pub record Step : Type 0 where
  pub before : Ram
  pub after : Ram
  pub settled : Option Settled
  pub reading : Option Reading
  pub words : ℕ
  pub loans : ℕ

-- pages that are read and written in copies, from one on, by the bytes that memory has there beneath them
pub record Copies : Type 0 where
  pub first : ℕ
  pub beneath : List (List ℕ)

-- what no step changes: where the memory of each page lies, in order, where that was told; and the pages that are in copies since they
-- were read at once
pub record Site : Type 0 where
  pub places : List Ptr
  pub copies : Copies

-- what a RAM has been through: the steps so far, the last first, where a record of them is kept; and what no step changes
pub record Past : Type 0 where
  pub steps : Option (List Step)
  pub site : Site

-- RAM with these bytes in its pages, from one on
abbrev pub with_beneath : Ram → ℕ → List (List ℕ) → Ram
with_beneath ram first [] = ram
with_beneath ram first (bytes ∷ others) = with_beneath (with_page ram first bytes) (suc first) others

-- memory itself: RAM as it is seen, but with what stands beneath each copy
abbrev pub memory_of : Ram → Past → Ram
memory_of ram past = with_beneath ram past.site.copies.first past.site.copies.beneath

-- no page is in a copy, so memory is RAM as it is seen
abbrev pub HasNoCopies : Past → Type 0
HasNoCopies past = past.site.copies.beneath ≡ []

-- whether a page is in a copy
abbrev pub is_copied : Past → ℕ → Bool
is_copied past p = is_in_run past.site.copies.first (length past.site.copies.beneath) p

-- one store of a word: its 8 bytes change at once
pub record IsStore (old : Ram) (page index value : ℕ) (s : Step) : Type 0 where
  pub before : s.before ≡ old
  pub after : s.after ≡ with_page old page (with_word (page_of old page) index value)
  pub none : s.settled ≡ None
  pub unread : s.reading ≡ None
  pub words : s.words ≡ 1
  pub loans : s.loans ≡ 0

-- no translation unit holds anything that it read before, of these pages of an endpoint
pub record IsSettling (old : Ram) (endpoint first count : ℕ) (s : Step) : Type 0 where
  pub before : s.before ≡ old
  pub after : s.after ≡ old
  pub settled : s.settled ≡ Some (record { endpoint = endpoint; first = first; count = count })
  pub unread : s.reading ≡ None
  pub words : s.words ≡ 0
  pub loans : s.loans ≡ 0

-- a step while the bytes of a page are lent to be written: before it and behind it any bytes may stand in that page
pub record IsInLoan (old : Ram) (page : ℕ) (s : Step) : Type 0 where
  pub from : List ℕ
  pub to : List ℕ
  pub before : s.before ≡ with_page old page from
  pub after : s.after ≡ with_page old page to
  pub none : s.settled ≡ None
  pub unread : s.reading ≡ None

-- pages that are named may differ, and no others do
pub record IsBeside (old ram : Ram) (named : ℕ → Bool) : Type 0 where
  pub base : ram.base ≡ old.base
  pub size : length ram.pages ≡ length old.pages
  pub pages : (p : ℕ) → named p ≡ false → page_of ram p ≡ page_of old p

-- a step while none but the pages that are named differ from those of a RAM
pub record IsWriting (old : Ram) (named : ℕ → Bool) (s : Step) : Type 0 where
  pub before : IsBeside old s.before named
  pub after : IsBeside old s.after named

-- a step that leaves the pages from one up to another as they are
abbrev pub KeepsPages : ℕ → ℕ → Step → Type 0
KeepsPages first end s = (p : ℕ) → first ≤ p → p < end → page_of s.after p ≡ page_of s.before p

-- a step that settles a page in the tables of an endpoint
abbrev pub Settles : ℕ → ℕ → Step → Type 0
Settles e p s = (x : Settled) × (s.settled ≡ Some x) × (x.endpoint ≡ e) × (is_in_run x.first x.count p ≡ true)

-- of these steps, the last first, one settled a page of an endpoint, and none since then changed a page from one up to another
abbrev pub IsSettledBy : ℕ → ℕ → ℕ → ℕ → List Step → Type 0
IsSettledBy first end e p [] = ⊥
IsSettledBy first end e p (s ∷ earlier) = Settles e p s ⊎ (KeepsPages first end s × IsSettledBy first end e p earlier)

-- of so many bytes, of which the first stands in a page's first place, two pages p have the same
abbrev pub AgreeInFirst : (bytes first p : ℕ) → List ℕ → List ℕ → Type 0
AgreeInFirst bytes first p page other = take (bytes - 4096 * (p - first)) page ≡ take (bytes - 4096 * (p - first)) other

-- first bytes of pages are read at once, and are from here on what this one reading gave; or from here on the pages are again
-- whatever others write to them. Others may have written to them before.
pub record IsReading (old new : Ram) (first count : ℕ) (begins : Bool) (s : Step) : Type 0 where
  pub before : s.before ≡ old
  pub after : s.after ≡ new
  pub none : s.settled ≡ None
  pub reading : s.reading ≡ Some (record { first = first; count = count; begins = begins })
  pub words : s.words ≡ 0
  pub loans : s.loans ≡ 0

-- A history is the steps so far, the last first, where a record of them is kept. This one was there already, or such a one
-- with one more step, which has P behind what is before it.
abbrev pub Adds : Option (List Step) → (List Step → Step → Type 0) → List Step → Type 0
Adds old P [] = old ≡ Some []
Adds old P (s ∷ earlier) = (old ≡ Some (s ∷ earlier)) ⊎ (P earlier s × Adds old P earlier)

-- from one history to the next there is exactly one step, which has P
abbrev pub OneMore : Option (List Step) → Option (List Step) → (Step → Type 0) → Type 0
OneMore old new P =
    (h : List Step) → new ≡ Some h
    → (s : Step) × (earlier : List Step) × (h ≡ s ∷ earlier) × (old ≡ Some earlier) × P s

-- from one past to a later one each step has P; each page stays where it lies, and the same pages stay in copies, with the same bytes
-- beneath them
pub record Only (old new : Past) (P : List Step → Step → Type 0) : Type 0 where
  pub each : (h : List Step) → new.steps ≡ Some h → Adds old.steps P h
  pub site : new.site ≡ old.site

-- from one past to the next there is exactly one step, which has P, and the rest stays so
pub record One (old new : Past) (P : Step → Type 0) : Type 0 where
  pub each : OneMore old.steps new.steps P
  pub site : new.site ≡ old.site

-- a later past, with the site of an earlier one: what is promised of the steps between them says nothing of copies then
abbrev pub on_site_of : Past → Past → Past
on_site_of past later = record later { site = past.site }

-- a step leaves RAM where it stands, with as many pages
pub record StaysPlaced (s : Step) : Type 0 where
  pub base : s.after.base ≡ s.before.base
  pub size : length s.after.pages ≡ length s.before.pages

-- each step begins with the RAM with which the one before ended, the last ended with this one, and RAM stays where it stands
abbrev pub AreInTurn : List Step → Ram → Type 0
AreInTurn [] ram = ⊤
AreInTurn (s ∷ earlier) ram = (s.after ≡ ram) × StaysPlaced s × AreInTurn earlier s.before

-- so it is of a history, where there is one
abbrev pub TurnsIn : Ram → Past → Type 0
TurnsIn ram past = (h : List Step) → past.steps ≡ Some h → AreInTurn h ram
