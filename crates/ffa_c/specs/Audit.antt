-- SPDX-License-Identifier: MIT OR Apache-2.0
-- Whether tables give what runs of pages say, as C gives the runs and is told.
use Rattle.std.specs.Prelude.{◌≡◌, ◌⊎◌, ℕ, ◌+◌, ◌*◌, ◌%◌, ◌^◌, ◌==◌, ◌&&◌, nat_le, Bool, true, false, List, [], ◌∷◌, ◌++◌, length, Option, None, Some, if◌then◌else◌}
use Rattle.std.specs.List.{list_all}
use Rattle.std.specs.Option.{option_and_then, option_map}
use Rattle.ffa_model.specs.declared.limits.TheConstants.{MOST_ENDPOINTS}
use Rattle.ffa_model.specs.declared.certificate.CertRun.{CertRun}
use Rattle.ffa_model.specs.declared.rights.Rights.{Rights}
use Rattle.ffa_model.specs.Agreement.{roots_of}
use Rattle.ffa_model.specs.Certified.{IsCertified}
use Rattle.ffa_model.specs.Ram.{Ram}
use Rattle.ffa_model.specs.Walk.{is_page_address}
use Rattle.ffa_c.specs.declared.cert_run.CCertRun.{CCertRun}
use Rattle.ffa_c.specs.Boarded.{Boarded}
use Rattle.ffa_c.specs.Given.{rights_given}
use Rattle.ffa_c.specs.LentPages.{LentPages}

-- these, each as it is given, behind those before; or none, where one of them gives nothing
abbrev pub all_given : {A B : Type 0} → (A → Option B) → List B → List A → Option (List B)
all_given one before [] = Some before
all_given one before (x ∷ xs) = option_and_then (λ y. all_given one (before ++ y ∷ []) xs) (one x)

-- an access by its code, where it is one: 0 is none
abbrev pub access_given : ℕ → Option (Option Rights)
access_given code = if code == 0 then Some None else option_map (λ rights. Some rights) (rights_given code)

-- a run that C gives, where it gives one: its pages and the access to them. No table tells owners and handles, and the
-- judgement looks at neither, so here they are the manager and none.
abbrev pub run_given : CCertRun → Option CertRun
run_given r =
    let with_access : List (Option Rights) → CertRun = λ access. record {
      first = record { 0 = r.first };
      last = record { 0 = r.last };
      owner = record { 0 = 0x8000 };
      handle = None;
      access = access;
    } in
    option_map with_access (all_given access_given [] r.access)

-- C gives runs, and the tables from these roots give what they say
abbrev pub AreCertified : Ram → List ℕ → List CCertRun → Type 0
AreCertified ram roots given =
    (runs : List CertRun) × (all_given run_given [] given ≡ Some runs) × IsCertified ram roots runs

-- so C is told
abbrev pub Judged : Ram → List ℕ → List CCertRun → ℕ → Type 0
Judged ram roots given answer =
    ((answer ≡ 0) × AreCertified ram roots given) ⊎ ((answer ≡ 21) × ¬ (AreCertified ram roots given))

-- of a machine's own tables; for want of memory nothing may be judged
abbrev pub Audited : Option Boarded → List CCertRun → ℕ → Type 0
Audited None given answer = answer ≡ 19
Audited (Some b) given answer =
    (answer ≡ 1) ⊎ Judged b.machine.ram (roots_of b.machine.state) given answer

-- RAM at an address, of these pages
abbrev pub ram_at : ℕ → List (List ℕ) → Ram
ram_at base pages = record { base = base; pages = pages }

-- RAM may stand at its address: that is a page's, and RAM ends at 4 GiB at most
abbrev pub is_placed_ram : Ram → Bool
is_placed_ram ram = ram.base % 4096 == 0 && nat_le (ram.base + 4096 * length ram.pages) (2 ^ 32)

-- level 1 tables may be there: no more than a machine has endpoints, each in a page of RAM
abbrev pub are_roots : Ram → List ℕ → Bool
are_roots ram roots = nat_le (length roots) MOST_ENDPOINTS && list_all (is_page_address ram) roots

-- of tables in RAM, wherever it comes from
pub record IsChecked (ram : Ram) (roots : List ℕ) (given : List CCertRun) (answer : ℕ) : Type 0 where
  pub misplaced : is_placed_ram ram ≡ false → answer ≡ 23
  pub no_roots : is_placed_ram ram ≡ true → are_roots ram roots ≡ false → answer ≡ 24
  pub judged : is_placed_ram ram ≡ true → are_roots ram roots ≡ true → (answer ≡ 1) ⊎ Judged ram roots given answer

-- of tables in RAM at an address, whose pages are those of a list, if there is a list
abbrev pub Checked : Option LentPages → ℕ → List ℕ → List CCertRun → ℕ → Type 0
Checked None base roots given answer = answer ≡ 16
Checked (Some l) base roots given answer = IsChecked (ram_at base l.pages) roots given answer
