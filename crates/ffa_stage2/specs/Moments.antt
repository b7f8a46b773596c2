-- SPDX-License-Identifier: MIT OR Apache-2.0
-- On the way from one access to another: what tables give between two writes.
use Rattle.std.specs.Prelude.{◌≡◌, ℕ, ◌+◌, ◌*◌, ◌^◌, ◌<◌, ◌⊎◌, true, false, List, Option, is_some, is_ok, Some, None, Err}
use Rattle.arrayvec.specs.ArrayVec.{array_vec_len}
use Rattle.ffa_model.specs.Ram.{Ram, page_of}
use Rattle.ffa_model.specs.Manifest.{root_of}
use Rattle.ffa_model.specs.Walk.{Answer, walk}
use Rattle.ffa_model.specs.declared.operation.FaultKind.TheVariants.{Translation}
use Rattle.ffa_model.specs.declared.rights.Rights.{Rights}
use Rattle.ffa_stage2.specs.declared.layout.Layout.{Layout}
use Rattle.ffa_physmem.specs.Moments.{Adds, IsSettledBy, KeepsPages, Past, Step}
use Rattle.ffa_stage2.specs.Orders.{IsOrdered}
use Rattle.ffa_stage2.specs.Tables.{IsAside, IsBuilt, IsSameIn, IsStanding, table_page}

-- this right or nothing
abbrev pub IsNoMore : Option Rights → Option Rights → Type 0
IsNoMore right other = (right ≡ other) ⊎ (right ≡ None)

-- The tables stand in the RAM, and to each page all endpoints have the rights of the one access or nothing, or all have those of
-- the other or nothing: so where in neither of the two both of two endpoints have a right to a page, they haven't here.
pub record IsBetween (ram : Ram) (endpoints tables blocks : ℕ) (access after : ℕ → ℕ → Option Rights) : Type 0 where
  pub rights : ℕ → ℕ → Option Rights
  pub stands : IsStanding ram endpoints tables blocks rights
  pub each : (p : ℕ) → ((e : ℕ) → IsNoMore (rights e p) (access e p)) ⊎ ((e : ℕ) → IsNoMore (rights e p) (after e p))

abbrev pub IsBetweenFor : Layout → Ram → (ℕ → ℕ → Option Rights) → (ℕ → ℕ → Option Rights) → Type 0
IsBetweenFor layout ram access after = IsBetween ram (array_vec_len layout.regions) layout.tables.0 layout.blocks access after

-- No right now: a page was settled if there was a right before, and no table has changed yet if there is one behind. Or a right
-- before and behind.
abbrev pub IsOutOrStays : Option Rights → Option Rights → Option Rights → Type 0 → Type 0 → Type 0
IsOutOrStays now before behind settled unchanged =
    ((now ≡ None) × (is_some before ≡ true → settled) × (is_some behind ≡ true → unchanged))
    ⊎ ((is_some before ≡ true) × (is_some behind ≡ true))

-- from a history to a later one no step changes a page from one up to another
abbrev pub IsUnchanged : ℕ → ℕ → Past → List Step → Type 0
IsUnchanged first end past h = Adds past.steps (λ _ s. KeepsPages first end s) h

-- a step that leaves all pages but those of tables as they are
abbrev pub KeepsAside : ℕ → ℕ → ℕ → Step → Type 0
KeepsAside endpoints tables blocks s = (p : ℕ) → IsAside endpoints tables blocks p → page_of s.after p ≡ page_of s.before p

-- Before a step that writes pages aside from the tables, the tables give these rights. To a page that it changes an endpoint has
-- no right then: if it had one before the operation, the page was settled since that ended, and if it has one behind it, no
-- table has changed since the operation began. Or the endpoint has a right to it both before the operation and behind it.
pub record IsUnreached (old : Ram) (endpoints tables blocks : ℕ) (access after : ℕ → ℕ → Option Rights)
    (past : Past) (h : List Step) (s : Step) : Type 0 where
  pub rights : ℕ → ℕ → Option Rights
  pub stands : IsStanding s.before endpoints tables blocks rights
  pub place : s.before.base ≡ old.base
  pub each :
      (p : ℕ) → IsAside endpoints tables blocks p
      → (page_of s.after p ≡ page_of s.before p)
      ⊎ ((e : ℕ) → e < endpoints
      → IsOutOrStays (rights e p) (access e p) (after e p) (IsSettledBy tables (table_page tables blocks endpoints 0) e p h)
      (IsUnchanged tables (table_page tables blocks endpoints 0) past h))

-- A step that leaves all tables as they are, or is one in the tables of an endpoint, by way of nothing where it has to be. In each
-- block k of an endpoint e with `Stays e k` the step stores what the word is already.
abbrev pub IsInOrder : Ram → ℕ → ℕ → ℕ → (ℕ → ℕ → Type 0) → List Step → Step → Type 0
IsInOrder old endpoints tables blocks Stays h s =
    KeepsPages tables (table_page tables blocks endpoints 0) s
    ⊎ ((e : ℕ) × (e < endpoints) × IsOrdered old tables blocks (Stays e) e h s)

-- a step on the way from one RAM where tables are built to another, which began at the end of a history
pub record IsMoment (old new : Ram) (endpoints tables blocks : ℕ) (past : Past) (h : List Step) (s : Step) : Type 0 where
  pub access : ℕ → ℕ → Option Rights
  pub after : ℕ → ℕ → Option Rights
  pub was : IsBuilt old endpoints tables blocks access
  pub is : IsBuilt new endpoints tables blocks after
  pub between : IsBetween s.after endpoints tables blocks access after
  pub order : IsInOrder old endpoints tables blocks (IsSameIn access after) h s
  pub unreached :
      KeepsAside endpoints tables blocks s ⊎ IsUnreached old endpoints tables blocks access after past h s
  pub place : s.after.base ≡ old.base
  pub stays : new.base ≡ old.base

-- the walk of each endpoint's table gives at an address what it gives in another RAM, or nothing
abbrev pub WalkAlike : Ram → Ram → ℕ → ℕ → ℕ → ℕ → Type 0
WalkAlike ram other endpoints tables blocks address =
    (e : ℕ) → e < endpoints
    → (walk ram (root_of ram.base tables blocks e) address ≡ walk other (root_of other.base tables blocks e) address)
    ⊎ (walk ram (root_of ram.base tables blocks e) address ≡ Err Translation)

-- at every address the walks of all endpoints' tables give what they give in the one RAM, or all give what they give in the
-- other
abbrev pub WalksBetween : Ram → Ram → ℕ → ℕ → ℕ → Ram → Type 0
WalksBetween old new endpoints tables blocks ram =
    (address : ℕ) → address < 2 ^ 32
    → WalkAlike ram old endpoints tables blocks address ⊎ WalkAlike ram new endpoints tables blocks address

-- what an endpoint's walk gives at an address
abbrev pub walk_at : Ram → ℕ → ℕ → ℕ → ℕ → Answer
walk_at ram tables blocks e address = walk ram (root_of ram.base tables blocks e) address

-- an endpoint's walks to the 512 pages of block k give the same in two RAMs
abbrev pub WalksSameIn : Ram → Ram → ℕ → ℕ → ℕ → ℕ → Type 0
WalksSameIn old new tables blocks e k =
    (j : ℕ) → j < 512
    → walk_at new tables blocks e (old.base + 4096 * (512 * k + j)) ≡ walk_at old tables blocks e (old.base + 4096 * (512 * k + j))

-- A page that is none of a table's changes at a step only while the walk of no endpoint leads there but of one whose walk leads there both
-- before the operation and behind it; and where an endpoint's walk led there before the operation and doesn't now, the page
-- was settled since then.
abbrev pub WritesUnreached : Ram → Ram → ℕ → ℕ → ℕ → List Step → Step → Type 0
WritesUnreached old new endpoints tables blocks h s =
    (p : ℕ) → IsAside endpoints tables blocks p → p < 512 * blocks
    → (page_of s.after p ≡ page_of s.before p)
    ⊎ ((e : ℕ) → e < endpoints
    → ((walk_at s.before tables blocks e (old.base + 4096 * p) ≡ Err Translation)
    × (is_ok (walk_at old tables blocks e (old.base + 4096 * p)) ≡ true → IsSettledBy tables (table_page tables blocks endpoints 0) e p h))
    ⊎ ((is_ok (walk_at old tables blocks e (old.base + 4096 * p)) ≡ true)
    × (is_ok (walk_at new tables blocks e (old.base + 4096 * p)) ≡ true)))

-- At the end of a history, of what led from one RAM to another: where an endpoint's walk led to a page and leads there no more,
-- the page was settled in the endpoint's tables, and no table has changed since then.
abbrev pub EndsSettled : Ram → Ram → ℕ → ℕ → ℕ → Past → Type 0
EndsSettled old new endpoints tables blocks past =
    (h : List Step) → past.steps ≡ Some h
    → (e p : ℕ) → e < endpoints → p < 512 * blocks
    → is_ok (walk_at old tables blocks e (old.base + 4096 * p)) ≡ true
    → is_ok (walk_at new tables blocks e (new.base + 4096 * p)) ≡ false
    → IsSettledBy tables (table_page tables blocks endpoints 0) e p h
