-- SPDX-License-Identifier: MIT OR Apache-2.0
-- What a call on memory has done to RAM and to the owners, in the state that they mean.
use Rattle.std.proofs.Common.{◌≡◌, ◌∙◌, ℕ, ◌<◌, Bool, true, false, cond, List, length, Option, Some, None, refl, sym, ap, subst}
use Rattle.std.specs.Prelude.{◌&&◌, if◌then◌else◌, replicate}
use Rattle.std.specs.Option.{option_and_then, option_map}
use Rattle.std.proofs.lemmas.Option.{none-some, same_Some}
use Rattle.arrayvec.specs.ArrayVec.{array_vec_len}
use Rattle.ffa_model.specs.declared.endpoint.EndpointId.{EndpointId}
use Rattle.ffa_model.specs.declared.rights.Rights.{Rights}
use Rattle.ffa_model.specs.declared.transaction.Range.{Range}
use Rattle.ffa_model.specs.Access.{names}
use Rattle.ffa_model.specs.Lists.{listed}
use Rattle.ffa_model.specs.Memory.{changed_pages, zeroed_page}
use Rattle.ffa_model.specs.MemoryRetrieve.{donated_page}
use Rattle.ffa_model.specs.Ram.{Ram, page_of}
use Rattle.ffa_model.specs.State.{State, Page}
use Rattle.ffa_model.proofs.Accesses.{map_at-listed}
use Rattle.ffa_model.proofs.Listed.{listed-same}
use Rattle.ffa_pages.specs.Entry.{Entry, entry_at, slot_at}
use Rattle.ffa_stage2.proofs.Rights.{built-same}
use Rattle.ffa_memshare.specs.Changes.{IsMarked, IsMoved}
use Rattle.ffa_memshare.specs.Grants.{with_rights}
use Rattle.ffa_memshare.specs.declared.marks.Mark.TheVariants.{Given, Named}
use Rattle.ffa_spmc.specs.Meaning.{AreOwners, HasTables, IsManager, Parts, access_by_place, held_page, state_of}
use Rattle.ffa_spmc.proofs.Held.{entered-aside, size_is}

-- a fact on the layout's base, number of endpoints, tables and blocks, of the manifest's
pub of-manifest : (x : Parts) → IsManager x → (P : ℕ → ℕ → ℕ → ℕ → Type 0) → P x.kept.layout.base.0 (array_vec_len x.kept.layout.regions) x.kept.layout.tables.0 x.kept.layout.blocks
    → P x.manifest.ram_base.0 (length x.manifest.endpoints.items) x.manifest.tables.0 x.manifest.ram_blocks
of-manifest x machine P is =
    subst (λ (b : ℕ). P b (length x.manifest.endpoints.items) x.manifest.tables.0 x.manifest.ram_blocks) machine.layout.base
    (subst (λ (n : ℕ). P x.kept.layout.base.0 n x.manifest.tables.0 x.manifest.ram_blocks) machine.layout.endpoints
    (subst (λ (t : ℕ). P x.kept.layout.base.0 (array_vec_len x.kept.layout.regions) t x.manifest.ram_blocks) machine.layout.tables
    (subst (λ (b : ℕ). P x.kept.layout.base.0 (array_vec_len x.kept.layout.regions) x.kept.layout.tables.0 b) machine.layout.blocks is)))

-- what an entry says of owner and own right
abbrev pub own_part : Entry → ℕ × Rights
own_part e = (e.owner, e.own_right)

-- owners and own rights are the same, whatever names the pages
pub record SameOwners (old new : List (Option Entry)) : Type 0 where
  pub size : length new ≡ length old
  pub owners : (p : ℕ) → option_map own_part (entry_at new p) ≡ option_map own_part (entry_at old p)

pub same-owners : (pages : List (Option Entry)) → SameOwners pages pages
same-owners pages = record { size = refl; owners = λ p. refl }

pub marked-owners : (old new : List (Option Entry)) (named : ℕ → Bool) (slot : Option ℕ) → IsMarked old new named (Named slot) → SameOwners old new
marked-owners old new named slot marked =
    record { size = marked.size; owners = λ p. ap (option_map own_part) (marked.entries p) ∙ of (named p) (entry_at old p) }
  where
    of : (b : Bool) (o : Option Entry) → option_map own_part (cond b (option_map (λ (e : Entry). record e { slot = slot }) o) o) ≡ option_map own_part o
    of true None = refl
    of true (Some e) = refl
    of false o = refl

module _ (x : Parts) (machine : IsManager x) (ram : Ram) (pages : List (Option Entry)) (index : ℕ) (ranges : List Range) (right : ℕ → Option Rights) (zero : Bool)
    (moved : IsMoved x.ram ram (length x.manifest.endpoints.items) x.manifest.tables.0 x.manifest.ram_blocks index (names (state_of x) ranges) right zero)
    (same : SameOwners x.kept.pages pages) where
  abbrev s : State
  s = state_of x

  -- the bytes of pages that have an owner
  held-moved : (p : ℕ) → held_page ram pages p ≡ cond (zero && names s ranges p) (zeroed_page (held_page x.ram x.kept.pages p)) (held_page x.ram x.kept.pages p)
  held-moved p = of (entry_at x.kept.pages p) (entry_at pages p) refl (same.owners p)
    where
      held : List ℕ → Option Entry → Option Page
      held bytes o = option_map (λ (e : Entry). let q : Page = record { owner = e.owner; own_right = e.own_right; bytes = bytes } in q) o

      none : (b : Bool) → cond {A = Option Page} b None None ≡ None
      none true = refl
      none false = refl

      bytes : (b : Bool) (e f : Entry) → own_part f ≡ own_part e → page_of ram p ≡ cond b (replicate 4096 0) (page_of x.ram p)
          → held (page_of ram p) (Some f) ≡ cond b (zeroed_page (held (page_of x.ram p) (Some e))) (held (page_of x.ram p) (Some e))
      bytes true e f alike are = λ i. Some (let q : Page = record { owner = (alike i).0; own_right = (alike i).1; bytes = are i } in q)
      bytes false e f alike are = λ i. Some (let q : Page = record { owner = (alike i).0; own_right = (alike i).1; bytes = are i } in q)

      of : (o n : Option Entry) → entry_at x.kept.pages p ≡ o → option_map own_part n ≡ option_map own_part o
          → held (page_of ram p) n ≡ cond (zero && names s ranges p) (zeroed_page (held (page_of x.ram p) o)) (held (page_of x.ram p) o)
      of None None is alike = sym (none (zero && names s ranges p))
      of None (Some f) is alike = absurd (none-some (own_part f) (sym alike))
      of (Some e) None is alike = absurd (none-some (own_part e) alike)
      of (Some e) (Some f) is alike =
          bytes (zero && names s ranges p) e f (same_Some (own_part f) (own_part e) alike)
          (moved.bytes p (entered-aside x machine p e is))

  -- the pages of the state after it
  pub pages-moved : listed (length ram.pages) (held_page ram pages) ≡ (if zero then changed_pages s ranges zeroed_page else s.pages)
  pages-moved = ap (λ (n : ℕ). listed n (held_page ram pages)) moved.size ∙ of zero held-moved
    where
      of : (zero : Bool) → ((p : ℕ) → held_page ram pages p ≡ cond (zero && names s ranges p) (zeroed_page (held_page x.ram x.kept.pages p)) (held_page x.ram x.kept.pages p))
          → listed (length x.ram.pages) (held_page ram pages) ≡ cond zero (changed_pages s ranges zeroed_page) s.pages
      of true each =
          listed-same (length x.ram.pages) (held_page ram pages) (λ p. cond (names s ranges p) (zeroed_page (held_page x.ram x.kept.pages p)) (held_page x.ram x.kept.pages p)) (λ p lt. each p)
          ∙ sym (map_at-listed (λ p page. if names s ranges p then zeroed_page page else page) (length x.ram.pages) (held_page x.ram x.kept.pages))
      of false each = listed-same (length x.ram.pages) (held_page ram pages) (held_page x.ram x.kept.pages) (λ p lt. each p)

  -- the tables give this state's access, where that is what was granted
  pub tables-moved : (next : State) → ((i p : ℕ) → p < length s.pages → with_rights (access_by_place s) index (names s ranges) right i p ≡ access_by_place next i p)
      → HasTables ram x.manifest (access_by_place next)
  tables-moved next granted =
      record {
        base = moved.base ∙ machine.tables.base;
        size = moved.size ∙ machine.tables.size;
        built =
            built-same ram (length x.manifest.endpoints.items) x.manifest.tables.0 x.manifest.ram_blocks (with_rights (access_by_place s) index (names s ranges) right) (access_by_place next)
            (moved.built (access_by_place s) machine.tables.built)
            (λ i p known lt. granted i p (subst (λ (n : ℕ). p < n) (sym (size_is x ∙ machine.tables.size)) lt));
      }

  pub owners-moved : AreOwners x.manifest pages
  owners-moved =
      record {
        size = same.size ∙ machine.owners.size;
        tables = λ p from low. none (entry_at pages p) (same.owners p ∙ ap (option_map own_part) (machine.owners.tables p from low));
      }
    where
      none : (o : Option Entry) → option_map own_part o ≡ None → o ≡ None
      none None is = refl
      none (Some e) is = absurd (none-some (own_part e) (sym is))

-- THE PAGES OF A DONATE, which are another endpoint's
module _ (old new : List (Option Entry)) (named : ℕ → Bool) (owner : EndpointId) (right : Rights) (marked : IsMarked old new named (Given owner right)) where
  -- no transaction names them
  pub slot-given : (p : ℕ) → slot_at new p ≡ cond (named p) None (slot_at old p)
  slot-given p = ap (option_and_then (λ (e : Entry). e.slot)) (marked.entries p) ∙ of (named p) (entry_at old p)
    where
      of : (b : Bool) (o : Option Entry)
          → option_and_then (λ (e : Entry). e.slot) (cond b (option_map (λ (e : Entry). let f : Entry = record { owner = owner.0; own_right = right; slot = None } in f) o) o)
          ≡ cond b None (option_and_then (λ (e : Entry). e.slot) o)
      of true None = refl
      of true (Some e) = refl
      of false o = refl

  pub none-given : (p : ℕ) → entry_at old p ≡ None → entry_at new p ≡ None
  none-given p none = marked.entries p ∙ of (named p) (entry_at old p) none
    where
      of : (b : Bool) (o : Option Entry) → o ≡ None → cond b (option_map (λ (e : Entry). let f : Entry = record { owner = owner.0; own_right = right; slot = None } in f) o) o ≡ None
      of true None is = refl
      of true (Some e) is = absurd (none-some e (sym is))
      of false o is = is

module _ (x : Parts) (machine : IsManager x) (ram : Ram) (pages : List (Option Entry)) (index : ℕ) (ranges : List Range) (rights : ℕ → Option Rights)
    (moved : IsMoved x.ram ram (length x.manifest.endpoints.items) x.manifest.tables.0 x.manifest.ram_blocks index (names (state_of x) ranges) rights false)
    (owner : EndpointId) (right : Rights) (marked : IsMarked x.kept.pages pages (names (state_of x) ranges) (Given owner right)) where
  abbrev given : State
  given = state_of x

  held-given : (p : ℕ) → held_page ram pages p
      ≡ cond (names given ranges p) (donated_page owner.0 right (held_page x.ram x.kept.pages p)) (held_page x.ram x.kept.pages p)
  held-given p = ap (held (page_of ram p)) (marked.entries p) ∙ of (names given ranges p) (entry_at x.kept.pages p) refl
    where
      held : List ℕ → Option Entry → Option Page
      held bytes o = option_map (λ (e : Entry). let q : Page = record { owner = e.owner; own_right = e.own_right; bytes = bytes } in q) o

      of : (b : Bool) (o : Option Entry) → entry_at x.kept.pages p ≡ o
          → held (page_of ram p) (cond b (option_map (λ (e : Entry). let f : Entry = record { owner = owner.0; own_right = right; slot = None } in f) o) o)
          ≡ cond b (donated_page owner.0 right (held (page_of x.ram p) o)) (held (page_of x.ram p) o)
      of true None is = refl
      of false None is = refl
      of b (Some e) is =
          by b
          (moved.bytes p (entered-aside x machine p e is))
        where
          by : (b : Bool) → page_of ram p ≡ page_of x.ram p
              → held (page_of ram p) (cond b (Some (let f : Entry = record { owner = owner.0; own_right = right; slot = None } in f)) (Some e))
              ≡ cond b (donated_page owner.0 right (held (page_of x.ram p) (Some e))) (held (page_of x.ram p) (Some e))
          by true same = ap (λ (bytes : List ℕ). Some (let q : Page = record { owner = owner.0; own_right = right; bytes = bytes } in q)) same
          by false same = ap (λ (bytes : List ℕ). Some (let q : Page = record { owner = e.owner; own_right = e.own_right; bytes = bytes } in q)) same

  pub pages-given : listed (length ram.pages) (held_page ram pages) ≡ changed_pages given ranges (donated_page owner.0 right)
  pages-given =
      ap (λ (n : ℕ). listed n (held_page ram pages)) moved.size
      ∙ listed-same (length x.ram.pages) (held_page ram pages) (λ p. cond (names given ranges p) (donated_page owner.0 right (held_page x.ram x.kept.pages p)) (held_page x.ram x.kept.pages p)) (λ p lt. held-given p)
      ∙ sym (map_at-listed (λ p page. if names given ranges p then donated_page owner.0 right page else page) (length x.ram.pages) (held_page x.ram x.kept.pages))

  pub owners-given : AreOwners x.manifest pages
  owners-given =
      record {
        size = marked.size ∙ machine.owners.size;
        tables = λ p from low. none-given x.kept.pages pages (names given ranges) owner right marked p (machine.owners.tables p from low);
      }
