-- SPDX-License-Identifier: MIT OR Apache-2.0
-- What a retrieve leaves of owners and pages, before its answer: those of a donate are the endpoint's own.
use Rattle.std.proofs.Common.{◌≡◌, ℕ, false, List, length, Option, Some, sym, subst}
use Rattle.std.specs.Prelude.{if◌then◌else◌}
use Rattle.ffa_model.specs.declared.endpoint.EndpointId.{EndpointId}
use Rattle.ffa_model.specs.declared.rights.Kind.{Kind}
use Rattle.ffa_model.specs.declared.rights.Kind.TheVariants.{Share, Lend, Donate}
use Rattle.ffa_model.specs.declared.rights.Rights.{Rights}
use Rattle.ffa_model.specs.declared.transaction.Range.{Range}
use Rattle.ffa_model.specs.Access.{names}
use Rattle.ffa_model.specs.Lists.{listed}
use Rattle.ffa_model.specs.Memory.{changed_pages}
use Rattle.ffa_model.specs.MemoryRetrieve.{donated_page}
use Rattle.ffa_model.specs.Ram.{Ram}
use Rattle.ffa_model.specs.Rights.{is_donate}
use Rattle.ffa_model.specs.State.{State}
use Rattle.ffa_pages.specs.Entry.{Entry}
use Rattle.ffa_memshare.specs.Changes.{IsMoved}
use Rattle.ffa_memshare.specs.Retrieved.{IsPassedOn}
use Rattle.ffa_spmc.specs.Meaning.{AreOwners, IsManager, Parts, held_page, state_of}
use Rattle.ffa_spmc.proofs.Moves.{SameOwners, owners-given, owners-moved, pages-given, pages-moved, same-owners}

module _ (x : Parts) (machine : IsManager x) (ram : Ram) (pages : List (Option Entry)) (index : ℕ) (ranges : List Range) (e : EndpointId) (right : Rights)
    (moved : IsMoved x.ram ram (length x.manifest.endpoints.items) x.manifest.tables.0 x.manifest.ram_blocks index (names (state_of x) ranges) (λ p. Some right) false) where
  abbrev s : State
  s = state_of x

  -- where the entries are as they were
  kept-owners : pages ≡ x.kept.pages → SameOwners x.kept.pages pages
  kept-owners same = subst (SameOwners x.kept.pages) (sym same) (same-owners x.kept.pages)

  -- the pages of the state, and their owners
  pub pages-passed : (kind : Kind) → IsPassedOn kind x.kept.pages pages (names s ranges) e right
      → listed (length ram.pages) (held_page ram pages) ≡ (if is_donate kind then changed_pages s ranges (donated_page e.0 right) else s.pages)
  pages-passed Donate marked = pages-given x machine ram pages index ranges (λ p. Some right) moved e right marked
  pages-passed Lend same = pages-moved x machine ram pages index ranges (λ p. Some right) false moved (kept-owners same)
  pages-passed Share same = pages-moved x machine ram pages index ranges (λ p. Some right) false moved (kept-owners same)

  pub owners-passed : (kind : Kind) → IsPassedOn kind x.kept.pages pages (names s ranges) e right → AreOwners x.manifest pages
  owners-passed Donate marked = owners-given x machine ram pages index ranges (λ p. Some right) moved e right marked
  owners-passed Lend same = owners-moved x machine ram pages index ranges (λ p. Some right) false moved (kept-owners same)
  owners-passed Share same = owners-moved x machine ram pages index ranges (λ p. Some right) false moved (kept-owners same)
