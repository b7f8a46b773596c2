-- SPDX-License-Identifier: MIT OR Apache-2.0
-- A machine's own certificate, as C is told it, is one that its tables give.
use Rattle.std.proofs.Common.{◌≡◌, ◌∙◌, ℕ, ◌+◌, ◌-◌, ◌/◌, ◌^◌, ◌<◌, ◌≤◌, Bool, true, false, List, [], ◌∷◌, ◌++◌, length, map, Option, None, Some, refl, sym, ap, subst, arith, inl, inr, append-nil, append_assoc}
use Rattle.std.specs.Prelude.{◌&&◌, ◌==◌, if◌then◌else◌, nat_le, slice_index_or}
use Rattle.std.specs.Option.{option_and_then, option_map}
use Rattle.std.proofs.lemmas.Bool.{cases_lt, lt-ltb}
use Rattle.std.proofs.lemmas.Bool.Decides.{nat_tests}
use Rattle.ffa_model.specs.declared.certificate.CertRun.{CertRun}
use Rattle.ffa_model.specs.declared.limits.TheConstants.{MOST_ENDPOINTS}
use Rattle.ffa_model.specs.declared.rights.Data as rights
use Rattle.ffa_model.specs.declared.rights.Data.TheVariants.{Ro, Rw}
use Rattle.ffa_model.specs.declared.rights.Rights.{Rights}
use Rattle.ffa_model.specs.Access.{access}
use Rattle.ffa_model.specs.Agreement.{Agrees, root, roots_of}
use Rattle.ffa_model.specs.Certificate.{certificate}
use Rattle.ffa_model.specs.Certified.{IsCertified, access_in, access_to, are_in_order, certified_answer}
use Rattle.ffa_model.specs.Identifiers.{identifier}
use Rattle.ffa_model.specs.Memory.{access_at}
use Rattle.ffa_model.specs.Ram.{Ram}
use Rattle.ffa_model.specs.State.{State}
use Rattle.ffa_model.specs.Walk.{is_in_ram, mapped_answer, walk}
use Rattle.ffa_model.proofs.Certificates.{certificate-access, certificate-order}
use Rattle.ffa_model.proofs.Listed.{get_or-listed, length-listed}
use Rattle.ffa_reasons.proofs.Audits.{access_at-is}
use Rattle.ffa_c.specs.declared.cert_run.CCertRun.{CCertRun}
use Rattle.ffa_c.specs.Audit.{access_given, all_given, run_given}
use Rattle.ffa_c.specs.Border.{access_code, exec_code, level_code}
use Rattle.ffa_c.specs.CertRuns.{cert_told}

-- ---- what is told is given, but for owners and handles

abbrev pub bare : CertRun → CertRun
bare run = record { first = run.first; last = run.last; owner = record { 0 = 0x8000 }; handle = None; access = run.access }

access-again : (a : Option Rights) → access_given (access_code a) ≡ Some a
access-again None = refl
access-again (Some r) = of r.level r.exec
  where
    of : (level : rights.Data) (exec : Bool) → access_given (level_code level + exec_code exec) ≡ Some (Some (record { level = level; exec = exec }))
    of Ro false = refl
    of Ro true = refl
    of Rw false = refl
    of Rw true = refl

all-again : {A B C : Type 0} (one : A → Option B) (tell : C → A) (seen : C → B) → ((x : C) → one (tell x) ≡ Some (seen x))
    → (before : List B) (xs : List C) → all_given one before (map tell xs) ≡ Some (before ++ map seen xs)
all-again one tell seen again before [] = ap (λ ys. Some ys) (sym (append-nil before))
all-again one tell seen again before (x ∷ xs) =
    ap (λ o. option_and_then (λ y. all_given one (before ++ y ∷ []) (map tell xs)) o) (again x)
    ∙ (all-again one tell seen again (before ++ seen x ∷ []) xs ∙ ap (λ ys. Some ys) (append_assoc before (seen x ∷ []) (map seen xs)))

map-same : {A : Type 0} (xs : List A) → map (λ x. x) xs ≡ xs
map-same [] = refl
map-same (x ∷ xs) = ap (λ ys. x ∷ ys) (map-same xs)

run-again : (run : CertRun) → run_given (cert_told run) ≡ Some (bare run)
run-again run =
    let with_access : List (Option Rights) → CertRun = λ access. record { first = run.first; last = run.last; owner = record { 0 = 0x8000 }; handle = None; access = access } in
    ap (option_map with_access) (all-again access_given access_code (λ a. a) access-again [] run.access ∙ ap (λ a. Some a) (map-same run.access))

pub runs-again : (runs : List CertRun) → all_given run_given [] (map cert_told runs) ≡ Some (map bare runs)
runs-again runs = all-again run_given cert_told bare run-again [] runs

-- ---- neither do tables tell these

order-bare : (p n : ℕ) (runs : List CertRun) → are_in_order p n (map bare runs) ≡ are_in_order p n runs
order-bare p n [] = refl
order-bare p n (run ∷ runs) = ap (λ b. (run.first.0 == p && nat_le p run.last.0) && b) (order-bare (run.last.0 + 1) n runs)

access-bare : (place p : ℕ) (runs : List CertRun) → access_in (map bare runs) place p ≡ access_in runs place p
access-bare place p [] = refl
access-bare place p (run ∷ runs) = ap (λ o. if nat_le p run.last.0 then slice_index_or run.access place None else o) (access-bare place p runs)

pub bare-certified : (ram : Ram) (roots : List ℕ) (runs : List CertRun) → IsCertified ram roots runs → IsCertified ram roots (map bare runs)
unfolding certified_answer
bare-certified ram roots runs h = record {
  order = order-bare 0 (length ram.pages) runs ∙ h.order;
  walks = λ place address lt low.
      h.walks place address lt low
      ∙ ap (λ o. mapped_answer (if is_in_ram ram address then o else None) address) (sym (access-bare place ((address - ram.base) / 4096) runs));
}

-- ---- the certificate of a state with which RAM agrees

module _ (ram : Ram) (s : State) (agree : Agrees ram s) (few : length s.parties ≤ MOST_ENDPOINTS) where
  access-certified : (place address : ℕ) → place < length s.parties → address < 2 ^ 32
      → access_at s (identifier place) address ≡ access_to ram (certificate s) place address
  access-certified place address lt low =
      let q : ℕ = (address - ram.base) / 4096 in
      access_at-is ram s agree place address low
      ∙ elim (cases_lt q (length s.pages)) [
        | inl inside ↦
            ap (λ o. if is_in_ram ram address then o else None)
            (sym (certificate-access s q place (omega (arith, few, lt)) inside ∙ ap (λ b. if b then access s (identifier place) q else None) (lt-ltb place (length s.parties) lt)))
        | inr past ↦
            (let pages : length ram.pages ≡ length s.pages = agree.size in
            let outside : is_in_ram ram address ≡ false = grind (arith, nat_tests) in
            ap (λ b. if b then access s (identifier place) q else None) outside
            ∙ sym (ap (λ b. if b then access_in (certificate s) place q else None) outside))
      ]

  own-certified : IsCertified ram (roots_of s) (certificate s)
  unfolding certified_answer
  own-certified = record {
    order = ap (λ (n : ℕ). are_in_order 0 n (certificate s)) agree.size ∙ certificate-order s;
    walks = λ place address lt low.
        let there : place < length s.parties = subst (λ (n : ℕ). place < n) (length-listed (length s.parties) (root s)) lt in
        ap (λ (r : ℕ). walk ram r address) (get_or-listed (length s.parties) (root s) place 0 there)
        ∙ agree.walks place address there low
        ∙ ap (λ (o : Option Rights). mapped_answer o address) (access-certified place address there low);
  }

  -- so it is once C has told it again
  pub own-again : (given : List CCertRun) (runs : List CertRun)
      → given ≡ map cert_told (certificate s) → all_given run_given [] given ≡ Some runs → IsCertified ram (roots_of s) runs
  own-again given runs is told =
      let same : map bare (certificate s) ≡ runs = cc (runs-again (certificate s), ap (all_given run_given []) is) in
      subst (IsCertified ram (roots_of s)) same (bare-certified ram (roots_of s) (certificate s) own-certified)
