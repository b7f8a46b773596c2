-- SPDX-License-Identifier: MIT OR Apache-2.0
-- When tables give what runs of pages say: the walk of each table, in the RAM's own bytes, gives exactly the access of
-- the runs, and nothing outside RAM. It says nothing of owners and handles.
use Rattle.std.specs.Prelude.{◌≡◌, ℕ, ◌+◌, ◌-◌, ◌/◌, ◌^◌, ◌==◌, ◌<◌, Bool, true, ◌&&◌, nat_le, List, [], ◌∷◌, length, slice_index, slice_index_or, Option, None, if◌then◌else◌}
use Rattle.ffa_model.specs.Numbers.{PageIndex}
use Rattle.ffa_model.specs.Ram.{Ram}
use Rattle.ffa_model.specs.Walk.{Answer, is_in_ram, mapped_answer, walk}
use Rattle.ffa_model.specs.declared.certificate.CertRun.{CertRun}
use Rattle.ffa_model.specs.declared.rights.Rights.{Rights}

-- the runs follow one another from page p to the last of n pages, and none is empty
abbrev pub are_in_order : PageIndex → ℕ → List CertRun → Bool
are_in_order p n [] = p == n
are_in_order p n (run ∷ runs) = (run.first.0 == p && nat_le p run.last.0) && are_in_order (run.last.0 + 1) n runs

-- what runs in order give the endpoint at a place to a page: the first of them that doesn't end before the page says it
abbrev pub access_in : List CertRun → ℕ → PageIndex → Option Rights
access_in [] place p = None
access_in (run ∷ runs) place p =
    if nat_le p run.last.0 then slice_index_or run.access place None else access_in runs place p

-- the same to an address, with nothing outside RAM
abbrev pub access_to : Ram → List CertRun → ℕ → ℕ → Option Rights
access_to ram runs place address =
    if is_in_ram ram address then access_in runs place ((address - ram.base) / 4096) else None

-- what the walk from the endpoint's table has to answer
unfoldable pub certified_answer : Ram → List CertRun → ℕ → ℕ → Answer
certified_answer ram runs place address = mapped_answer (access_to ram runs place address) address

pub record IsCertified (ram : Ram) (roots : List ℕ) (runs : List CertRun) : Type 0 where
  pub order : are_in_order 0 (length ram.pages) runs ≡ true
  pub walks :
      (place address : ℕ) → place < length roots → address < 2 ^ 32
      → walk ram (slice_index roots place) address ≡ certified_answer ram runs place address
