-- SPDX-License-Identifier: MIT OR Apache-2.0
-- A machine keeps its tables through a write to a page that an endpoint owns, and is one after a call.
use Rattle.std.proofs.Common.{◌≡◌, ◌∙◌, ℕ, ◌<◌, List, [], length, Option, Some, refl, sym, ap, subst, length-set}
use Rattle.std.proofs.lemmas.List.{get_or-set_other}
use Rattle.ffa_model.specs.Access.{access}
use Rattle.ffa_model.specs.Identifiers.{identifier}
use Rattle.ffa_model.specs.Ram.{Ram, page_of, with_page, with_bytes}
use Rattle.ffa_model.specs.Notifications.{Notifications}
use Rattle.ffa_model.specs.RunStates.{Schedule}
use Rattle.ffa_model.specs.State.{State, Page, Buffers, page_at}
use Rattle.ffa_model.specs.declared.call.Call as calls
use Rattle.ffa_model.specs.SoundState.{IsSoundState}
use Rattle.ffa_model.specs.Step.{serve}
use Rattle.ffa_model.proofs.CallAccesses.{access-written}
use Rattle.ffa_laws.proofs.SoundOperations.{call-sound}
use Rattle.ffa_stage2.specs.Tables.{IsAside}
use Rattle.ffa_stage2.proofs.Places.{not-both}
use Rattle.ffa_spmc.specs.Meaning.{HasTables, IsManager, Parts, access_by_place, state_of}
use Rattle.ffa_spmc.proofs.Held.{owned-aside}
use Rattle.ffa_spmc.proofs.Stores.{state-written}

-- the tables in this RAM, in place of the machine's own, give the access of the state
abbrev pub StillHasTables : Parts → Ram → Type 0
StillHasTables x ram = HasTables ram x.manifest (access_by_place (state_of (record x { ram = ram })))

module _ (x : Parts) (machine : IsManager x) where
  -- a write to a page that an endpoint owns leaves the tables as they are
  module _ (p at : ℕ) (bytes : List ℕ) (page : Page) (inside : p < length x.ram.pages) (there : page_at (state_of x) p ≡ Some page) where
    abbrev new : Ram
    new = with_page x.ram p (with_bytes (page_of x.ram p) at bytes)

    size : length new.pages ≡ length x.ram.pages
    size = length-set x.ram.pages p (with_bytes (page_of x.ram p) at bytes)

    aside : IsAside (length x.manifest.endpoints.items) x.manifest.tables.0 x.manifest.ram_blocks p
    aside = owned-aside x machine p page there

    same-access : (i q : ℕ) → access_by_place (state_of x) i q ≡ access_by_place (state_of (record x { ram = new })) i q
    same-access i q =
        sym (ap (λ (s : State). access s (identifier i) q) (state-written x p at bytes inside) ∙ access-written (state_of x) p at bytes (identifier i) q)

    -- the tables give the access that they gave
    pub tables-same : HasTables new x.manifest (access_by_place (state_of x))
    tables-same = record {
      base = machine.tables.base;
      size = size ∙ machine.tables.size;
      built =
          machine.laws.stay x.ram new (length x.manifest.endpoints.items) x.manifest.tables.0 x.manifest.ram_blocks (access_by_place (state_of x)) machine.tables.built
          (record {
            base = refl;
            size = size;
            pages = λ q from low. get_or-set_other x.ram.pages p q (with_bytes (page_of x.ram p) at bytes) []
                (λ same. not-both (length x.manifest.endpoints.items) x.manifest.tables.0 x.manifest.ram_blocks q (from, low) (subst (IsAside (length x.manifest.endpoints.items) x.manifest.tables.0 x.manifest.ram_blocks) (sym same) aside));
          });
    }

    -- which is that of the state
    pub tables-written : StillHasTables x new
    tables-written = subst (HasTables new x.manifest) (λ k i q. same-access i q k) tables-same

-- a machine is one after a call that changed no owner, where the tables give the access
pub machine-served : (x : Parts) (ram : Ram) (buffers : List (Option Buffers)) (chain : Schedule) (bitmaps : Notifications) → IsManager x
    → StillHasTables x ram
    → (call : calls.Call) → state_of (record x { ram = ram; kept = record x.kept { buffers = buffers; chain = chain; bitmaps = bitmaps } }) ≡ (serve (state_of x) call).state
    → IsManager (record x { ram = ram; kept = record x.kept { buffers = buffers; chain = chain; bitmaps = bitmaps } })
machine-served x ram buffers chain bitmaps machine tables call is =
    record {
      laws = machine.laws;
      tables = tables;
      layout = machine.layout;
      owners = machine.owners;
      open_transactions = machine.open_transactions;
      sound = subst IsSoundState (sym is) (call-sound (state_of x) machine.sound call);
    }

-- and where it changed no notifications either
pub machine-called : (x : Parts) (ram : Ram) (buffers : List (Option Buffers)) (chain : Schedule) → IsManager x
    → StillHasTables x ram
    → (call : calls.Call) → state_of (record x { ram = ram; kept = record x.kept { buffers = buffers; chain = chain } }) ≡ (serve (state_of x) call).state
    → IsManager (record x { ram = ram; kept = record x.kept { buffers = buffers; chain = chain } })
machine-called x ram buffers chain = machine-served x ram buffers chain x.kept.bitmaps
