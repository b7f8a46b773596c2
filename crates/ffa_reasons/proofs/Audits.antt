-- SPDX-License-Identifier: MIT OR Apache-2.0
-- Tables that agree with a state give what runs of pages say exactly if the runs give the state's access.
use Rattle.std.proofs.Common.{◌≡◌, ◌∙◌, ℕ, ◌+◌, ◌-◌, ◌*◌, ◌/◌, ◌^◌, ◌<◌, ◌≤◌, true, false, List, length, Option, None, Some, sym, ap, subst, arith, inl, inr}
use Rattle.std.specs.Prelude.{◌&&◌, ◌↔◌, if◌then◌else◌, nat_le, nat_lt, slice_index}
use Rattle.std.specs.Option.{option_and_then}
use Rattle.std.proofs.lemmas.Bool.{cases_lt}
use Rattle.std.proofs.lemmas.Bool.Decides.{nat_tests}
use Rattle.std.proofs.lemmas.List.{get_or_past}
use Rattle.ffa_model.specs.declared.certificate.CertRun.{CertRun}
use Rattle.ffa_model.specs.declared.rights.Rights.{Rights}
use Rattle.ffa_model.specs.Access.{access, right_of, transaction_at}
use Rattle.ffa_model.specs.Agreement.{Agrees, root, roots_of}
use Rattle.ffa_model.specs.Certified.{IsCertified, access_in, are_in_order, certified_answer}
use Rattle.ffa_model.specs.Identifiers.{identifier}
use Rattle.ffa_model.specs.Memory.{access_at}
use Rattle.ffa_model.specs.Ram.{Ram}
use Rattle.ffa_model.specs.State.{State}
use Rattle.ffa_model.specs.Walk.{is_in_ram, mapped_answer, walk}
use Rattle.ffa_model.proofs.Listed.{get_or-listed, length-listed}
use Rattle.ffa_playable.specs.Audited.{GiveAccess}
use Rattle.ffa_walker.proofs.Spans.{same-access}

module _ (ram : Ram) (s : State) (agree : Agrees ram s) where
  access-past : (e p : ℕ) → length s.pages ≤ p → access s e p ≡ None
  access-past e p past = ap (λ page. right_of e page (transaction_at s p)) (get_or_past s.pages p None past)

  pub access_at-is : (i address : ℕ) → address < 2 ^ 32
      → access_at s (identifier i) address ≡ (if is_in_ram ram address then access s (identifier i) ((address - ram.base) / 4096) else None)
  access_at-is i address low =
      let base = agree.place in
      let size = agree.size in
      let q : ℕ = (address - ram.base) / 4096 in
      elim (cases_lt address ram.base) [
        | inl under ↦
            (let outside : is_in_ram ram address ≡ false = grind (arith, nat_tests) in
            let test : (nat_le s.ram_base address && nat_lt address (2 ^ 32)) ≡ false = grind (arith, nat_tests, base) in
            ap (λ b. option_and_then (access s (identifier i)) (if b then Some ((address - s.ram_base) / 4096) else None)) test
            ∙ sym (ap (λ b. if b then access s (identifier i) q else None) outside))
        | inr from ↦
            (let test : (nat_le s.ram_base address && nat_lt address (2 ^ 32)) ≡ true = grind (arith, nat_tests, base) in
            let number : (address - s.ram_base) / 4096 ≡ q = ap (λ (b : ℕ). (address - b) / 4096) (sym base) in
            let here : access_at s (identifier i) address ≡ access s (identifier i) q =
            ap (λ b. option_and_then (access s (identifier i)) (if b then Some ((address - s.ram_base) / 4096) else None)) test ∙ ap (access s (identifier i)) number in
            elim (cases_lt q (length ram.pages)) [
              | inl lt ↦
                  (let below : address < ram.base + 4096 * length ram.pages = omega arith in
                  let inside : is_in_ram ram address ≡ true = grind (arith, nat_tests) in
                  here ∙ sym (ap (λ b. if b then access s (identifier i) q else None) inside))
              | inr past ↦
                  (let over : ram.base + 4096 * length ram.pages ≤ address = omega arith in
                  let outside : is_in_ram ram address ≡ false = grind (arith, nat_tests) in
                  here ∙ access-past (identifier i) q (subst (λ n. n ≤ q) size past)
                  ∙ sym (ap (λ b. if b then access s (identifier i) q else None) outside))
            ])
      ]

  module _ (runs : List CertRun) where
    -- the walk to an address gives what the runs say exactly if they say what the state does
    table : (place : ℕ) → place < length s.parties → (address : ℕ) → address < 2 ^ 32
        → walk ram (slice_index (roots_of s) place) address ≡ mapped_answer (if is_in_ram ram address then access s (identifier place) ((address - ram.base) / 4096) else None) address
    table place there address low =
        ap (λ (r : ℕ). walk ram r address) (get_or-listed (length s.parties) (root s) place 0 there)
        ∙ agree.walks place address there low
        ∙ ap (λ (o : Option Rights). mapped_answer o address) (access_at-is place address low)

    gives : ram.base + 4096 * length ram.pages ≤ 2 ^ 32 → IsCertified ram (roots_of s) runs → GiveAccess s runs
    unfolding certified_answer
    gives within certified = record {
      order = ap (λ (n : ℕ). are_in_order 0 n runs) (sym agree.size) ∙ certified.order;
      access = λ place p there lt.
          let size = agree.size in
          let address : ℕ = ram.base + 4096 * p in
          let low : address < 2 ^ 32 = omega arith in
          let inside : is_in_ram ram address ≡ true = grind (arith, nat_tests) in
          let number : (address - ram.base) / 4096 ≡ p = omega arith in
          let root_there : place < length (roots_of s) = subst (λ (n : ℕ). place < n) (sym (length-listed (length s.parties) (root s))) there in
          let same = same-access address _ _ (sym (certified.walks place address root_there low) ∙ table place there address low) in
          sym (ap (λ b. if b then access_in runs place ((address - ram.base) / 4096) else None) inside ∙ ap (access_in runs place) number)
          ∙ same
          ∙ ap (λ b. if b then access s (identifier place) ((address - ram.base) / 4096) else None) inside ∙ ap (access s (identifier place)) number;
    }

    given : GiveAccess s runs → IsCertified ram (roots_of s) runs
    unfolding certified_answer
    given give = record {
      order = ap (λ (n : ℕ). are_in_order 0 n runs) agree.size ∙ give.order;
      walks = λ place address lt low.
          let there : place < length s.parties = subst (λ (n : ℕ). place < n) (length-listed (length s.parties) (root s)) lt in
          let q : ℕ = (address - ram.base) / 4096 in
          table place there address low
          ∙ ap (λ (o : Option Rights). mapped_answer o address) (elim (cases_lt q (length s.pages)) [
            | inl inside ↦ ap (λ o. if is_in_ram ram address then o else None) (sym (give.access place q there inside))
            | inr past ↦
                (let size : length ram.pages ≡ length s.pages = agree.size in
                let outside : is_in_ram ram address ≡ false = grind (arith, nat_tests) in
                ap (λ b. if b then access s (identifier place) q else None) outside
                ∙ sym (ap (λ b. if b then access_in runs place q else None) outside))
          ]);
    }

    pub certified-gives : ram.base + 4096 * length ram.pages ≤ 2 ^ 32 → IsCertified ram (roots_of s) runs ↔ GiveAccess s runs
    certified-gives within = (gives within, given)
