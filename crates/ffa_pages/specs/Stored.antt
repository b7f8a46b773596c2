-- SPDX-License-Identifier: MIT OR Apache-2.0
-- FOR PROOFS ALONE
-- What the code stores, as clauses see it.
use Rattle.std.specs.Prelude.{ℕ, true, false, ◌==◌, if◌then◌else◌, List, map, Option, Some, None, option_map}
use Rattle.ffa_model.specs.declared.rights.Data.TheVariants.{Ro, Rw}
use Rattle.ffa_model.specs.declared.rights.Rights.{Rights}
use Rattle.ffa_model.specs.Identifiers.{manager}
use Rattle.ffa_pages.specs.declared.page.KeptPage.{KeptPage}
use Rattle.ffa_pages.specs.declared.page.Standing.{Standing}
use Rattle.ffa_pages.specs.declared.page.Standing.TheVariants.{Read, ReadExecute, Write, WriteExecute, NamedRead, NamedReadExecute, NamedWrite, NamedWriteExecute}
use Rattle.ffa_pages.specs.Entry.{Entry}

abbrev pub own_right_in : Standing → Rights
own_right_in Read = record { level = Ro; exec = false }
own_right_in ReadExecute = record { level = Ro; exec = true }
own_right_in Write = record { level = Rw; exec = false }
own_right_in WriteExecute = record { level = Rw; exec = true }
own_right_in (NamedRead _) = record { level = Ro; exec = false }
own_right_in (NamedReadExecute _) = record { level = Ro; exec = true }
own_right_in (NamedWrite _) = record { level = Rw; exec = false }
own_right_in (NamedWriteExecute _) = record { level = Rw; exec = true }

abbrev pub slot_in : Standing → Option ℕ
slot_in Read = None
slot_in ReadExecute = None
slot_in Write = None
slot_in WriteExecute = None
slot_in (NamedRead slot) = Some slot
slot_in (NamedReadExecute slot) = Some slot
slot_in (NamedWrite slot) = Some slot
slot_in (NamedWriteExecute slot) = Some slot

-- of a page of the manager nothing is kept
abbrev pub standing_of : KeptPage → Option Standing
standing_of page = if page.owner.0 == manager then None else Some page.standing

abbrev pub entry_of : KeptPage → Option Entry
entry_of page =
    option_map (λ (s : Standing). record { owner = page.owner.0; own_right = own_right_in s; slot = slot_in s })
    (standing_of page)

abbrev pub entries_of : List KeptPage → List (Option Entry)
entries_of pages = map entry_of pages
