-- SPDX-License-Identifier: MIT OR Apache-2.0
-- FOR PROOFS ALONE
-- The owners of pages, as a manifest says them.
use Rattle.std.specs.Prelude.{◌*◌, List, Option}
use Rattle.ffa_model.specs.declared.manifest.Manifest.{Manifest}
use Rattle.ffa_model.specs.Lists.{listed}
use Rattle.ffa_pages.specs.Entry.{Entry, first_entry}

-- the owners that the manifest's regions say
abbrev pub first_owners : Manifest → List (Option Entry)
first_owners m = listed (512 * m.ram_blocks) (first_entry m.ram_base.0 m.endpoints.items)
