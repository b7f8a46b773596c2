-- SPDX-License-Identifier: MIT OR Apache-2.0
-- FOR PROOFS ALONE
-- What the parts of a machine mean together.
use Rattle.std.specs.Prelude.{◌≡◌, ◌<◌, ◌≤◌, ◌↔◌, ℕ, ◌*◌, Bool, true, false, List, length, Option, Some, None}
use Rattle.std.specs.Option.{option_map}
use Rattle.arrayvec.specs.ArrayVec.{array_vec_len}
use Rattle.ffa_model.specs.declared.manifest.Manifest.{Manifest}
use Rattle.ffa_model.specs.declared.rights.Rights.{Rights}
use Rattle.ffa_model.specs.Identifiers.{identifier}
use Rattle.ffa_model.specs.Lists.{listed}
use Rattle.ffa_pages.specs.Entry.{Entry, entry_at, slot_at}
use Rattle.ffa_stage2.specs.declared.layout.Layout.{Layout}
use Rattle.ffa_stage2.specs.Layout.{normal_in}
use Rattle.ffa_stage2.specs.Tables.{IsBuilt, TableLaws, table_page}
use Rattle.ffa_model.specs.Access.{access, is_receiver}
use Rattle.ffa_model.specs.Ram.{Ram, page_of}
use Rattle.ffa_model.specs.State.{State, Page, Transaction}
use Rattle.ffa_model.specs.First.{first}
use Rattle.ffa_model.specs.Regions.{normal_of, regions_at}
use Rattle.ffa_model.specs.SoundState.{IsSoundState}
use Rattle.ffa_memshare.specs.Ranges.{ArePlaced, in_ranges}
use Rattle.ffa_memshare.specs.Stored.{Slot, map_in, pool_slot}
use Rattle.ffa_spmc.specs.KeptParts.{KeptParts}

-- a page of the state, with the bytes that RAM holds
abbrev pub held_page : Ram → List (Option Entry) → ℕ → Option Page
held_page ram owners p =
    option_map (λ (e : Entry). record { owner = e.owner; own_right = e.own_right; bytes = page_of ram p }) (entry_at owners p)

-- the parts of a machine
pub record Parts : Type 0 where
  pub ram : Ram
  pub manifest : Manifest
  pub kept : KeptParts

-- the state that they mean
abbrev pub state_of : Parts → State
state_of x =
    record (first x.manifest.ffa x.manifest.ram_base.0 x.manifest.tables.0 x.manifest.ram_blocks x.manifest.endpoints.items) {
      ram_base = x.manifest.ram_base.0;
      tables = x.manifest.tables.0;
      transactions = map_in x.kept.pool.slots;
      sent = x.kept.pool.sent;
      pages = listed (length x.ram.pages) (held_page x.ram x.kept.pages);
      buffers = x.kept.buffers;
      runner = x.kept.chain.runner;
      statuses = x.kept.chain.statuses;
      works = x.kept.chain.works;
      bitmaps = x.kept.bitmaps.bitmaps;
      versions = x.kept.versions;
      bound = x.kept.bitmaps.bound;
      pending = x.kept.bitmaps.pending;
      notices = x.kept.bitmaps.notices;
    }

-- the access of the endpoint at a place, computed from owners and open transactions
abbrev pub access_by_place : State → ℕ → ℕ → Option Rights
access_by_place s i p = access s (identifier i) p

-- RAM stands where the manifest says, and its tables are built for these rights, by place and page
pub record HasTables (ram : Ram) (m : Manifest) (right : ℕ → ℕ → Option Rights) : Type 0 where
  pub base : ram.base ≡ m.ram_base.0
  pub size : length ram.pages ≡ 512 * m.ram_blocks
  pub built : IsBuilt ram (length m.endpoints.items) m.tables.0 m.ram_blocks right

-- the layout by which rights are changed is that of the manifest's tables
pub record IsLayoutOf (m : Manifest) (layout : Layout) : Type 0 where
  pub base : layout.base.0 ≡ m.ram_base.0
  pub blocks : layout.blocks ≡ m.ram_blocks
  pub tables : layout.tables.0 ≡ m.tables.0
  pub endpoints : array_vec_len layout.regions ≡ length m.endpoints.items
  pub normal : normal_in layout ≡ normal_of m.ffa (regions_at m.endpoints.items 0)

-- each page of RAM has its owner, which is nobody for the pages of tables
pub record AreOwners (m : Manifest) (pages : List (Option Entry)) : Type 0 where
  pub size : length pages ≡ 512 * m.ram_blocks
  pub tables :
      (p : ℕ) → m.tables.0 ≤ p → p < table_page m.tables.0 m.ram_blocks (length m.endpoints.items) 0
      → entry_at pages p ≡ None

-- what a send descriptor has said of an open transaction: its ranges are whole pages of RAM, and its sender is none of the
-- receivers
pub record IsOffered (m : Manifest) (t : Transaction) : Type 0 where
  pub placed : ArePlaced m.ram_base.0 (512 * m.ram_blocks) t.ranges
  pub other : is_receiver t.sender t ≡ false

-- whether the transaction in a slot names a page of the RAM at an address
abbrev pub slot_names : ℕ → ℕ → Slot → Bool
slot_names base p None = false
slot_names base p (Some x) = in_ranges base x.1.ranges p

-- no two slots have one handle, each open transaction is as a descriptor says, and a page's entry has the slot whose
-- transaction names the page
pub record AreOpenTransactions (m : Manifest) (pages : List (Option Entry)) (slots : List Slot) : Type 0 where
  pub apart :
      (i j : ℕ) (x y : ℕ × Transaction) → pool_slot slots i ≡ Some x → pool_slot slots j ≡ Some y → x.0 ≡ y.0 → i ≡ j
  pub offered : (k h : ℕ) (t : Transaction) → pool_slot slots k ≡ Some (h, t) → IsOffered m t
  pub marks : (p k : ℕ) → p < length pages
      → (slot_at pages p ≡ Some k) ↔ (slot_names m.ram_base.0 p (pool_slot slots k) ≡ true)

-- the tables give the access of the state, which is sound; what built tables give is noted once and for all
pub record IsManager (x : Parts) : Type 0 where
  pub laws : TableLaws
  pub tables : HasTables x.ram x.manifest (access_by_place (state_of x))
  pub layout : IsLayoutOf x.manifest x.kept.layout
  pub owners : AreOwners x.manifest x.kept.pages
  pub open_transactions : AreOpenTransactions x.manifest x.kept.pages x.kept.pool.slots
  pub sound : IsSoundState (state_of x)
