-- SPDX-License-Identifier: MIT OR Apache-2.0
-- Where RAM agrees with a state, an access over the walk is the state's.
use Rattle.std.proofs.Common.{◌≡◌, ◌∙◌, ℕ, ◌+◌, ◌-◌, ◌*◌, ◌/◌, ◌%◌, ◌^◌, ◌<◌, ◌≤◌, Bool, true, false, cond, List, [], length, Option, Some, None, Ok, Err, Result, refl, sym, ap, arith, inl, inr}
use Rattle.std.specs.Prelude.{◌==◌, ◌&&◌, nat_le, nat_lt, is_some}
use Rattle.std.specs.Option.{option_and_then, option_map_or}
use Rattle.std.proofs.lemmas.Bool.{cases_lt}
use Rattle.std.proofs.lemmas.Bool.Decides.{nat_tests}
use Rattle.std.proofs.lemmas.List.{get_or_past}
use Rattle.std.proofs.lemmas.Option.{none-some}
use Rattle.ffa_model.specs.declared.leaf.Leaf.{Leaf}
use Rattle.ffa_model.specs.declared.rights.Rights.{Rights}
use Rattle.ffa_model.specs.declared.operation.FaultKind.{FaultKind}
use Rattle.ffa_model.specs.declared.operation.FaultKind.TheVariants.{Translation, Permission, Alignment}
use Rattle.ffa_model.specs.Agreement.{Agrees, root}
use Rattle.ffa_model.specs.Identifiers.{identifier}
use Rattle.ffa_model.specs.Ram.{Ram, page_of, number_in}
use Rattle.ffa_model.specs.Walk.{is_in_ram, walk, mapped_answer}
use Rattle.ffa_model.specs.Reach.{at_leaf, reach, reach_by, number_in_ram}
use Rattle.ffa_model.specs.Rights.{may_write}
use Rattle.ffa_model.specs.State.{State, Page, page_at}
use Rattle.ffa_model.specs.Access.{access, transaction_at, right_of}
use Rattle.ffa_model.specs.Memory.{access_at, fault_of, page_bytes, number_at}

-- where an access without this fault ends
abbrev pub reached : Option FaultKind → ℕ → Result ℕ FaultKind
reached None address = Ok address
reached (Some fault) address = Err fault

-- who has access to a page has access to a page that an endpoint owns
pub access-owned : (s : State) (e p : ℕ) (r : Rights) → access s e p ≡ Some r → (page : Page) × (page_at s p ≡ Some page)
access-owned s e p r is = elim (page_at s p) as (λ o. page_at s p ≡ o → right_of e o (transaction_at s p) ≡ Some r → (page : Page) × (page_at s p ≡ Some page)) [
  | None ↦ λ _ none. absurd (none-some r none)
  | Some page ↦ λ there _. (page, there)
] refl is

pub owned-in : (s : State) (p : ℕ) (page : Page) → page_at s p ≡ Some page → p < length s.pages
owned-in s p page there = elim (cases_lt p (length s.pages)) [
  | inl lt ↦ lt
  | inr past ↦ absurd (none-some page (sym (get_or_past s.pages p None past) ∙ there))
]

-- the page at which an access with a right ends
pub record Placed (s : State) (address : ℕ) : Type 0 where
  pub low : s.ram_base ≤ address
  pub high : address < 2 ^ 32
  pub page : Page
  pub there : page_at s ((address - s.ram_base) / 4096) ≡ Some page

pub placed : (s : State) (e address : ℕ) (r : Rights) → access_at s e address ≡ Some r → Placed s address
placed s e address r is =
    elim (nat_le s.ram_base address && nat_lt address (2 ^ 32)) as (λ b. (nat_le s.ram_base address && nat_lt address (2 ^ 32)) ≡ b → option_and_then (access s e) (cond b (Some ((address - s.ram_base) / 4096)) None) ≡ Some r → Placed s address) [
      | false ↦ λ _ none. absurd (none-some r none)
      | true ↦ λ inside some. (let (page, there) = access-owned s e ((address - s.ram_base) / 4096) r some in
          record { low = grind (arith, nat_tests, inside); high = grind (arith, nat_tests, inside); page = page; there = there })
    ] refl is

-- an address past the input's end is reached by nobody
past-end : (s : State) (e address : ℕ) → 2 ^ 32 ≤ address → access_at s e address ≡ None
past-end s e address past =
    let outside : (nat_le s.ram_base address && nat_lt address (2 ^ 32)) ≡ false = grind (arith, nat_tests) in
    ap (λ b. option_and_then (access s e) (cond b (Some ((address - s.ram_base) / 4096)) None)) outside

module _ (ram : Ram) (s : State) (agrees : Agrees ram s) (i : ℕ) (known : i < length s.parties) where
  -- every walk gives the access, also past the input's end
  pub walk-is : (address : ℕ) → walk ram (root s i) address ≡ mapped_answer (access_at s (identifier i) address) address
  unfolding walk mapped_answer
  walk-is address = elim (cases_lt address (2 ^ 32)) [
    | inl lt ↦ agrees.walks i address known lt
    | inr past ↦ (
        let far : nat_lt address (2 ^ 32) ≡ false = grind (arith, nat_tests) in
        let none : walk ram (root s i) address ≡ Err Translation = rw far refl in
        none ∙ ap (λ (o : Option Rights). mapped_answer o address) (sym (past-end s (identifier i) address past)))
  ]

  pub in_ram : (address : ℕ) → Placed s address → is_in_ram ram address ≡ true
  in_ram address p =
      let inside : (address - s.ram_base) / 4096 < length s.pages = owned-in s ((address - s.ram_base) / 4096) p.page p.there in
      let place : ram.base ≡ s.ram_base = agrees.place in
      let size : length ram.pages ≡ length s.pages = agrees.size in
      let low : s.ram_base ≤ address = p.low in
      let under : address < ram.base + 4096 * length ram.pages = omega arith in
      let from : ram.base ≤ address = omega arith in
      grind (arith, nat_tests, from, under)

  -- an access over the walk ends where the state's access does, or in the same fault
  pub reach-is : (address n : ℕ) (allowed : Leaf → Bool) (may : Option Rights → Bool)
      → ((r : Rights) → allowed (record { phys = address; read = true; write = may_write r.level; exec = r.exec }) ≡ may (Some r))
      → reach ram (root s i) address n allowed ≡ reached (fault_of (address % n == 0) (access_at s (identifier i) address) may) address
  unfolding reach_by mapped_answer
  reach-is address n allowed may same =
      elim (address % n == 0) as (λ b. cond b (at_leaf ram allowed (walk ram (root s i) address)) (Err Alignment) ≡ reached (fault_of b (access_at s (identifier i) address) may) address) [
        | false ↦ refl
        | true ↦ ap (at_leaf ram allowed) (walk-is address) ∙ at_right (access_at s (identifier i) address) refl
      ]
    where
      at_right : (o : Option Rights) → access_at s (identifier i) address ≡ o → at_leaf ram allowed (mapped_answer o address) ≡ reached (cond (is_some o) (cond (may o) None (Some Permission)) (Some Translation)) address
      at_right None is = refl
      at_right (Some r) is =
          rw (same r, in_ram address (placed s (identifier i) address r is)) (ending (may (Some r)))
        where
          ending : (b : Bool) → cond b (Ok address) (Err Permission) ≡ reached (cond b None (Some Permission)) address
          ending true = refl
          ending false = refl

  -- and the bytes there are the state's
  pub number-is : (address n : ℕ) (r : Rights) → s.ram_base % 4096 ≡ 0 → access_at s (identifier i) address ≡ Some r → number_in_ram ram address n ≡ number_at s address n
  number-is address n r aligned is =
      let p = placed s (identifier i) address r is in
      let low : s.ram_base ≤ address = p.low in
      let place : ram.base ≡ s.ram_base = agrees.place in
      let page : (address - ram.base) / 4096 ≡ (address - s.ram_base) / 4096 = omega arith in
      let at : (address - ram.base) % 4096 ≡ address % 4096 = omega arith in
      let held : page_of ram ((address - ram.base) / 4096) ≡ page_bytes s ((address - s.ram_base) / 4096) =
      ap (page_of ram) page ∙ agrees.bytes ((address - s.ram_base) / 4096) p.page p.there ∙ sym (ap (λ (o : Option Page). option_map_or (λ (q : Page). q.bytes) o []) p.there)
      in
      ap (λ (bytes : List ℕ). number_in bytes ((address - ram.base) % 4096) n) held ∙ ap (λ (k : ℕ). number_in (page_bytes s ((address - s.ram_base) / 4096)) k n) at
