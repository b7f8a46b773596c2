-- SPDX-License-Identifier: MIT OR Apache-2.0
-- The certificate of a machine, and that its tables give it.
use Rattle.std.proofs.Common.{◌≡◌, ◌∙◌, ℕ, zero, suc, ◌+◌, ◌-◌, ◌*◌, ◌/◌, ◌^◌, ◌<◌, ◌≤◌, Bool, true, false, [], ◌∷◌, length, set, Option, None, refl, sym, ap, subst, arith, inl, inr}
use Rattle.std.specs.Prelude.{if◌then◌else◌, nat_lt}
use Rattle.std.specs.List.{list_all}
use Rattle.std.proofs.Math.Bool.{and-false}
use Rattle.std.proofs.lemmas.Bool.{cases_lt, lt-ltb}
use Rattle.std.proofs.lemmas.Bool.Decides.{nat_tests}
use Rattle.std.proofs.lemmas.List.Folds.{list_all-append}
use Rattle.ffa_model.specs.declared.rights.Rights.{Rights}
use Rattle.ffa_model.specs.Access.{access}
use Rattle.ffa_model.specs.Agreement.{root, roots_of}
use Rattle.ffa_model.specs.Certificate.{are_as_one, certificate, last_from}
use Rattle.ffa_model.specs.Certified.{IsCertified, access_in, access_to, are_in_order, certified_answer}
use Rattle.ffa_model.specs.Identifiers.{identifier}
use Rattle.ffa_model.specs.Lists.{listed}
use Rattle.ffa_model.specs.Memory.{access_at}
use Rattle.ffa_model.specs.State.{State}
use Rattle.ffa_model.specs.Walk.{is_in_ram, mapped_answer, walk}
use Rattle.ffa_model.proofs.Certificates.{certificate-access, certificate-order}
use Rattle.ffa_model.proofs.Listed.{get_or-listed, length-listed, listed-but, listed-more}
use Rattle.ffa_spmc.specs.Meaning.{IsManager, Parts, state_of}
use Rattle.ffa_spmc.proofs.Agreements.{access_at-is, agrees}
use Rattle.ffa_spmc.proofs.Held.{size_is}

-- ALL ENDPOINTS

module _ {X : Type 0} where
  -- one more that passes
  pub all_more : (p : X → Bool) (f : ℕ → X) (n : ℕ) → list_all p (listed n f) ≡ true → p (f n) ≡ true → list_all p (listed (n + 1) f) ≡ true
  all_more p f n h e = ap (list_all p) (listed-more n f) ∙ list_all-append p (listed n f) (f n ∷ []) ∙ rw (h, e) refl

  -- one that doesn't
  pub one_fails : (p : X → Bool) (f : ℕ → X) (i n : ℕ) → i < n → p (f i) ≡ false → list_all p (listed n f) ≡ false
  one_fails p f i zero h e = absurd (omega (arith, h))
  one_fails p f zero (suc n) h e = rw e refl
  one_fails p f (suc i) (suc n) h e = rw (one_fails p (λ k. f (suc k)) i n (omega (arith, h)) e) (and-false (p (f 0)))

-- the access of the endpoints at the places below n
abbrev pub accesses_below : State → ℕ → ℕ → ℕ → Option Rights
accesses_below s p n place = if nat_lt place n then access s (identifier place) p else None

-- one place more
pub accesses-more : (s : State) (p n : ℕ) (v : Option Rights) → v ≡ access s (identifier n) p → set (listed 8 (accesses_below s p n)) n v ≡ listed 8 (accesses_below s p (n + 1))
accesses-more s p n v is =
    let here : v ≡ accesses_below s p (n + 1) n = is ∙ sym (ap (λ b. if b then access s (identifier n) p else None) (lt-ltb n (n + 1) (omega arith))) in
    ap (set (listed 8 (accesses_below s p n)) n) here
    ∙ sym (listed-but 8 (accesses_below s p n) (accesses_below s p (n + 1)) n others)
  where
    others : (q : ℕ) → q < 8 → (q ≡ n → ⊥) → accesses_below s p (n + 1) q ≡ accesses_below s p n q
    others q few other =
        let same : nat_lt q (n + 1) ≡ nat_lt q n = grind (arith, nat_tests) in
        ap (λ b. if b then access s (identifier q) p else None) same

-- RUNS

module _ (s : State) (p : ℕ) where
  abbrev pub left : ℕ → ℕ
  left q = length s.pages - (q + 1)

  pub run_goes_on : p + 1 < length s.pages → are_as_one s p (p + 1) ≡ true → last_from s p (left p) ≡ last_from s (p + 1) (left (p + 1))
  run_goes_on lt one =
      let more : left p ≡ suc (left (p + 1)) = omega arith in
      ap (last_from s p) more ∙ ap (λ b. if b then last_from s (p + 1) (left (p + 1)) else p) one

  pub run_stops : are_as_one s p (p + 1) ≡ false → last_from s p (left p) ≡ p
  run_stops other = by (left p)
    where
      by : (n : ℕ) → last_from s p n ≡ p
      by zero = refl
      by (suc n) = ap (λ b. if b then last_from s (p + 1) n else p) other

  pub run_ends : length s.pages ≤ p + 1 → last_from s p (left p) ≡ p
  run_ends past = let none : left p ≡ 0 = omega arith in ap (last_from s p) none

-- THE TABLES

module _ (x : Parts) (machine : IsManager x) where
  abbrev s : State
  s = state_of x

  access-certified : (place address : ℕ) → place < length s.parties → address < 2 ^ 32 → access_at s (identifier place) address ≡ access_to x.ram (certificate s) place address
  access-certified place address lt low =
      access_at-is x machine place address low
      ∙ elim (cases_lt address x.ram.base) [
        | inl below ↦ (let out : is_in_ram x.ram address ≡ false = grind (arith, nat_tests) in outside out)
        | inr from ↦ elim (cases_lt address (x.ram.base + 4096 * length x.ram.pages)) [
          | inl under ↦
              (let page : (address - x.ram.base) / 4096 < length x.ram.pages = omega arith in
              ap (λ o. if is_in_ram x.ram address then o else None) (sym (known ((address - x.ram.base) / 4096) (subst (λ (n : ℕ). (address - x.ram.base) / 4096 < n) (sym (size_is x)) page))))
          | inr above ↦ (let out : is_in_ram x.ram address ≡ false = grind (arith, nat_tests) in outside out)
        ]
      ]
    where
      outside : is_in_ram x.ram address ≡ false → (if is_in_ram x.ram address then access s (identifier place) ((address - x.ram.base) / 4096) else None) ≡ access_to x.ram (certificate s) place address
      outside out =
          ap (λ b. if b then access s (identifier place) ((address - x.ram.base) / 4096) else None) out
          ∙ sym (ap (λ b. if b then access_in (certificate s) place ((address - x.ram.base) / 4096) else None) out)

      known : (q : ℕ) → q < length s.pages → access_in (certificate s) place q ≡ access s (identifier place) q
      known q inside =
          certificate-access s q place (omega (arith, machine.sound.sized.few, lt)) inside
          ∙ ap (λ b. if b then access s (identifier place) q else None) (lt-ltb place (length s.parties) lt)

  -- the machine's own certificate is what its tables give
  pub own-certified : IsCertified x.ram (roots_of s) (certificate s)
  unfolding certified_answer
  own-certified =
      let agree = agrees x machine in
      record {
        order = ap (λ (n : ℕ). are_in_order 0 n (certificate s)) (sym (size_is x)) ∙ certificate-order s;
        walks = λ place address lt low.
            let there : place < length s.parties = subst (λ (n : ℕ). place < n) (length-listed (length s.parties) (root s)) lt in
            ap (λ (r : ℕ). walk x.ram r address) (get_or-listed (length s.parties) (root s) place 0 there)
            ∙ agree.walks place address there low
            ∙ ap (λ (o : Option Rights). mapped_answer o address) (access-certified place address there low);
      }
