-- SPDX-License-Identifier: MIT OR Apache-2.0
-- Where tables are built for the access of the state, RAM agrees with it.
use Rattle.std.proofs.Common.{◌≡◌, ◌∙◌, ℕ, ◌+◌, ◌-◌, ◌*◌, ◌/◌, ◌^◌, ◌<◌, ◌≤◌, true, false, cond, length, Option, Some, None, sym, ap, subst, arith, inl, inr}
use Rattle.std.specs.Prelude.{◌&&◌, nat_le, nat_lt}
use Rattle.std.specs.Option.{option_map, option_and_then}
use Rattle.std.proofs.lemmas.Bool.{cases_lt}
use Rattle.std.proofs.lemmas.Bool.Decides.{nat_tests}
use Rattle.std.proofs.lemmas.Option.{none-some, same_Some}
use Rattle.ffa_model.specs.declared.rights.Rights.{Rights}
use Rattle.ffa_model.specs.Agreement.{Agrees, blocks_of, root}
use Rattle.ffa_model.specs.Identifiers.{identifier}
use Rattle.ffa_model.specs.Manifest.{root_of}
use Rattle.ffa_model.specs.Ram.{page_of}
use Rattle.ffa_model.specs.Walk.{walk, mapped_answer, is_in_ram}
use Rattle.ffa_model.specs.State.{State, Page, page_at}
use Rattle.ffa_model.specs.Access.{access}
use Rattle.ffa_model.specs.Memory.{access_at}
use Rattle.ffa_pages.specs.Entry.{Entry, entry_at}
use Rattle.ffa_spmc.specs.Meaning.{IsManager, Parts, access_by_place, state_of}
use Rattle.ffa_spmc.proofs.Held.{base_is, parties_are, size_is, page-held, page-past, access-past}

module _ (x : Parts) (machine : IsManager x) where
  abbrev s : State
  s = state_of x

  pub root-is : (i : ℕ) → root s i ≡ root_of x.ram.base x.manifest.tables.0 x.manifest.ram_blocks i
  root-is i =
      let many : length s.pages ≡ 512 * x.manifest.ram_blocks = size_is x ∙ machine.tables.size in
      let blocks : blocks_of s ≡ x.manifest.ram_blocks = omega (arith, many) in
      ap (λ (b : ℕ). root_of s.ram_base s.tables b i) blocks ∙ ap (λ (base : ℕ). root_of base x.manifest.tables.0 x.manifest.ram_blocks i) (base_is x ∙ sym machine.tables.base)

  pub access_at-is : (i address : ℕ) → address < 2 ^ 32
      → access_at s (identifier i) address ≡ cond (is_in_ram x.ram address) (access s (identifier i) ((address - x.ram.base) / 4096)) None
  access_at-is i address low =
      let base : s.ram_base ≡ x.ram.base = base_is x ∙ sym machine.tables.base in
      elim (cases_lt address x.ram.base) [
        | inl under ↦
            (let outside : is_in_ram x.ram address ≡ false = grind (arith, nat_tests) in
            let test : (nat_le s.ram_base address && nat_lt address (2 ^ 32)) ≡ false = grind (arith, nat_tests, base) in
            ap (λ b. option_and_then (access s (identifier i)) (cond b (Some ((address - s.ram_base) / 4096)) None)) test
            ∙ sym (ap (λ b. cond b (access s (identifier i) ((address - x.ram.base) / 4096)) None) outside))
        | inr from ↦
            (let test : (nat_le s.ram_base address && nat_lt address (2 ^ 32)) ≡ true = grind (arith, nat_tests, base) in
            let number : (address - s.ram_base) / 4096 ≡ (address - x.ram.base) / 4096 = ap (λ (b : ℕ). (address - b) / 4096) base in
            let here : access_at s (identifier i) address ≡ access s (identifier i) ((address - x.ram.base) / 4096) =
            ap (λ b. option_and_then (access s (identifier i)) (cond b (Some ((address - s.ram_base) / 4096)) None)) test ∙ ap (access s (identifier i)) number in
            elim (cases_lt ((address - x.ram.base) / 4096) (length x.ram.pages)) [
              | inl lt ↦
                  (let under : address < x.ram.base + 4096 * length x.ram.pages = omega arith in
                  let inside : is_in_ram x.ram address ≡ true = grind (arith, nat_tests) in
                  here ∙ sym (ap (λ b. cond b (access s (identifier i) ((address - x.ram.base) / 4096)) None) inside))
              | inr past ↦
                  (let over : x.ram.base + 4096 * length x.ram.pages ≤ address = omega arith in
                  let outside : is_in_ram x.ram address ≡ false = grind (arith, nat_tests) in
                  here ∙ access-past x (identifier i) ((address - x.ram.base) / 4096) past
                  ∙ sym (ap (λ b. cond b (access s (identifier i) ((address - x.ram.base) / 4096)) None) outside))
            ])
      ]

  bytes-are : (p : ℕ) (page : Page) → page_at s p ≡ Some page → page_of x.ram p ≡ page.bytes
  bytes-are p page there = elim (cases_lt p (length x.ram.pages)) [
    | inl lt ↦ of (entry_at x.kept.pages p) (sym (page-held x p lt) ∙ there)
    | inr past ↦ absurd (none-some page (sym (page-past x p past) ∙ there))
  ]
    where
      of : (o : Option Entry) → option_map (λ (e : Entry). let q : Page = record { owner = e.owner; own_right = e.own_right; bytes = page_of x.ram p } in q) o ≡ Some page → page_of x.ram p ≡ page.bytes
      of None e = absurd (none-some page e)
      of (Some entry) e = ap (λ (q : Page). q.bytes) (same_Some _ page e)

  -- the RAM of a machine agrees with its state
  pub agrees : Agrees x.ram s
  agrees =
      record {
        place = machine.tables.base ∙ sym (base_is x);
        size = sym (size_is x);
        walks = λ i address lt low.
            ap (λ (r : ℕ). walk x.ram r address) (root-is i)
            ∙ machine.laws.walk x.ram (length x.manifest.endpoints.items) x.manifest.tables.0 x.manifest.ram_blocks (access_by_place s) machine.tables.built i address (subst (λ (n : ℕ). i < n) (parties_are x) lt) low
            ∙ ap (λ (o : Option Rights). mapped_answer o address) (sym (access_at-is i address low));
        bytes = bytes-are;
      }
