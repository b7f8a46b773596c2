-- SPDX-License-Identifier: MIT OR Apache-2.0
-- What walks may give while tables are written: a walk to a page may have of each word any value since the page was last settled,
-- by a read of its own, a copy that a processor keeps or stores seen out of order (DDI 0487, C5.5, TLBI IPAS2E1IS).
use Rattle.std.specs.Prelude.{◌≡◌, ℕ, ◌-◌, ◌/◌, ◌<◌, ◌⊎◌, List, [], ◌∷◌, length}
use Rattle.ffa_model.specs.Manifest.{table_pages}
use Rattle.ffa_model.specs.Ram.{Ram, page_of, word_of}
use Rattle.ffa_physmem.specs.Moments.{Settles, Step}
use Rattle.ffa_stage2.specs.Tables.{table_page}

-- Steps, the last first, end with this RAM. A walk to page p for endpoint e may read v in word i of a page: v stands there; or it
-- might be read there before the last step, unless that settled page p for the endpoint.
abbrev pub MayRead : ℕ → ℕ → List Step → Ram → ℕ → ℕ → ℕ → Type 0
MayRead e p [] ram page i v = v ≡ word_of (page_of ram page) i
MayRead e p (s ∷ earlier) ram page i v =
    (v ≡ word_of (page_of ram page) i) ⊎ ((Settles e p s → ⊥) × MayRead e p earlier s.before page i v)

-- A mixture for an endpoint and page p: RAM in which each word of the endpoint's tables has a value that a walk to page p may read
-- there, whichever for each word. Of other words it says nothing.
pub record IsMixture (tables blocks e p : ℕ) (h : List Step) (ram mixed : Ram) : Type 0 where
  pub base : mixed.base ≡ ram.base
  pub size : length mixed.pages ≡ length ram.pages
  pub words :
      (t i : ℕ) → t < table_pages blocks → i < 512
      → MayRead e p h ram (table_page tables blocks e t) i (word_of (page_of mixed (table_page tables blocks e t)) i)

-- the page that an address lies in
abbrev pub page_at : Ram → ℕ → ℕ
page_at ram address = (address - ram.base) / 4096
