-- SPDX-License-Identifier: MIT OR Apache-2.0
-- When runs of pages give a state's access.
use Rattle.std.specs.Prelude.{◌≡◌, ℕ, ◌<◌, true, List, length}
use Rattle.ffa_model.specs.Access.{access}
use Rattle.ffa_model.specs.Certified.{access_in, are_in_order}
use Rattle.ffa_model.specs.Identifiers.{identifier}
use Rattle.ffa_model.specs.Numbers.{PageIndex}
use Rattle.ffa_model.specs.State.{State}
use Rattle.ffa_model.specs.declared.certificate.CertRun.{CertRun}

-- the runs follow one another from the first page to the last, and give each endpoint exactly its access to each page
pub record GiveAccess (s : State) (runs : List CertRun) : Type 0 where
  pub order : are_in_order 0 (length s.pages) runs ≡ true
  pub access :
      (place : ℕ) (p : PageIndex) → place < length s.parties → p < length s.pages
      → access_in runs place p ≡ access s (identifier place) p
