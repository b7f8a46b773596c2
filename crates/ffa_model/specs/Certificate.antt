-- SPDX-License-Identifier: MIT OR Apache-2.0
-- The certificate of a state: all pages of RAM in the longest runs that have one owner, one open transaction or none, and
-- one access of each endpoint.
use Rattle.std.specs.Prelude.{◌≡◌, ◌≤◌, ◌<◌, ◌⊎◌, ℕ, zero, suc, ◌+◌, ◌-◌, ◌==◌, Bool, true, false, ◌&&◌, nat_lt, List, [], ◌∷◌, length, Option, Some, None, if◌then◌else◌}
use Rattle.ffa_model.specs.declared.limits.TheConstants.{MOST_ENDPOINTS}
use Rattle.ffa_model.specs.declared.certificate.CertRun.{CertRun}
use Rattle.ffa_model.specs.declared.rights.Rights.{Rights}
use Rattle.ffa_model.specs.Numbers.{PageIndex}
use Rattle.ffa_model.specs.Access.{access, handle_at}
use Rattle.ffa_model.specs.Alike.{is_alike}
use Rattle.ffa_model.specs.Identifiers.{identifier}
use Rattle.ffa_model.specs.Lists.{listed}
use Rattle.ffa_model.specs.State.{State, owner_of}

-- one handle, or none twice
abbrev pub is_same_handle : Option ℕ → Option ℕ → Bool
is_same_handle None None = true
is_same_handle None (Some b) = false
is_same_handle (Some a) None = false
is_same_handle (Some a) (Some b) = a == b

-- two pages that are alike and stand in one open transaction or in none
unfoldable pub are_as_one : State → PageIndex → PageIndex → Bool
are_as_one s p q = is_alike s p q && is_same_handle (handle_at s p) (handle_at s q)

-- the access to a page by the endpoints' places, with nothing past the last endpoint
abbrev pub access_by_place : State → PageIndex → ℕ → Option Rights
access_by_place s p place = if nat_lt place (length s.parties) then access s (identifier place) p else None

-- the longest run from a page on: its pages are as one with the first, and the page behind it isn't, or is outside RAM
pub record IsRun (s : State) (from : ℕ) (run : CertRun) : Type 0 where
  pub first : run.first.0 ≡ from
  pub order : from ≤ run.last.0
  pub inside : run.last.0 < length s.pages
  pub same : (p : ℕ) → from ≤ p → p ≤ run.last.0 → are_as_one s from p ≡ true
  pub longest : (run.last.0 + 1 ≡ length s.pages) ⊎ (are_as_one s from (run.last.0 + 1) ≡ false)
  pub owner : run.owner.0 ≡ owner_of s from
  pub handle : run.handle ≡ handle_at s from
  pub access : run.access ≡ listed MOST_ENDPOINTS (access_by_place s from)

-- THE SAME, computed page by page

-- the last page of the run that goes on from page p, behind which there are n pages
abbrev pub last_from : State → PageIndex → ℕ → ℕ
last_from s p zero = p
last_from s p (suc n) = if are_as_one s p (p + 1) then last_from s (p + 1) n else p

unfoldable pub run_from : State → PageIndex → CertRun
run_from s p = record {
  first = record { 0 = p };
  last = record { 0 = last_from s p (length s.pages - (p + 1)) };
  owner = record { 0 = owner_of s p };
  handle = handle_at s p;
  access = listed MOST_ENDPOINTS (access_by_place s p);
}

-- ALL RUNS

-- the runs one behind the other from page p on, of which there are n at most
abbrev pub runs_from : State → PageIndex → ℕ → List CertRun
runs_from s p zero = []
runs_from s p (suc n) =
    if nat_lt p (length s.pages) then run_from s p ∷ runs_from s ((run_from s p).last.0 + 1) n else []

-- no more runs than pages
unfoldable pub certificate : State → List CertRun
certificate s = runs_from s 0 (length s.pages)
