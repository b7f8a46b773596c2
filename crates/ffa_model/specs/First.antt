-- SPDX-License-Identifier: MIT OR Apache-2.0
-- The state in which the machine of an accepted manifest starts.
use Rattle.std.specs.Prelude.{ℕ, zero, suc, ◌*◌, Bool, ◌&&◌, not, ◌==◌, List, length, map, replicate, find, Option, None}
use Rattle.std.specs.Option.{option_map}
use Rattle.std.specs.List.{enumerate_from}
use Rattle.std.specs.FinMap as map_of
use Rattle.std.specs.FinSet as finite_set
use Rattle.ffa_model.specs.declared.endpoint.Region.{Region}
use Rattle.ffa_model.specs.declared.endpoint.Endpoint.{Endpoint}
use Rattle.ffa_model.specs.declared.manifest.Ffa.{Ffa}
use Rattle.ffa_model.specs.declared.schedule.Status.{Status}
use Rattle.ffa_model.specs.declared.schedule.Status.TheVariants.{Running, Waiting}
use Rattle.ffa_model.specs.Numbers.{PageIndex}
use Rattle.ffa_model.specs.Bits.{is_set}
use Rattle.ffa_model.specs.Lists.{listed}
use Rattle.ffa_model.specs.Regions.{has_page, normal_of, owned_regions, regions_at}
use Rattle.ffa_model.specs.State.{State, Page, Party}

abbrev pub party_of : Endpoint → Party
party_of e = record { uuid = e.uuid; properties = e.properties.0 }

-- a page of a region belongs to the region's endpoint, with the region's right as base; all others are the manager's
abbrev pub page_with_bytes : ℕ → List Endpoint → PageIndex → List ℕ → Option Page
page_with_bytes base es p bytes =
    option_map (λ (x : ℕ × Region). record { owner = x.0; own_right = x.1.rights; bytes = bytes })
    (find (λ (x : ℕ × Region). has_page base p x.1) (owned_regions es))

-- the normal world runs, and each partition waits
abbrev pub first_status : ℕ → Status
first_status zero = Running
first_status (suc i) = Waiting

-- a partition that receives notifications has bitmaps from boot
abbrev pub has_first_bitmaps : ℕ × Endpoint → Bool
has_first_bitmaps endpoint = not (endpoint.0 == 0) && is_set 3 endpoint.1.properties.0

-- all bytes are 0, nothing is open, sent, mapped, bound, pending or to be told
unfoldable pub first : Ffa → ℕ → PageIndex → ℕ → List Endpoint → State
first ffa base tables blocks es =
    record {
      ram_base = base;
      tables = tables;
      parties = map party_of es;
      ffa = ffa;
      versions = map (λ e. e.version) es;
      normal = normal_of ffa (regions_at es 0);
      pages = listed (512 * blocks) (λ p. page_with_bytes base es p (replicate 4096 0));
      transactions = map_of.empty;
      sent = replicate (length es) 0;
      buffers = replicate (length es) None;
      runner = 0;
      statuses = listed (length es) first_status;
      works = replicate (length es) None;
      bitmaps = map has_first_bitmaps (enumerate_from 0 es);
      bound = finite_set.empty;
      pending = finite_set.empty;
      notices = finite_set.empty;
    }

-- the same where the pages of regions have these bytes, and not zeros
abbrev pub first_held : Ffa → ℕ → PageIndex → ℕ → List Endpoint → (ℕ → List ℕ) → State
first_held ffa base tables blocks es held =
    record (first ffa base tables blocks es) { pages = listed (512 * blocks) (λ p. page_with_bytes base es p (held p)) }
