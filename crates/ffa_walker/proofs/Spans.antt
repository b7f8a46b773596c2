-- SPDX-License-Identifier: MIT OR Apache-2.0
-- Spans of addresses that runs of pages certify: how they are joined, and what descriptors say of theirs.
use Rattle.std.proofs.Common.{◌≡◌, ◌∙◌, ℕ, ◌+◌, ◌-◌, ◌*◌, ◌/◌, ◌%◌, ◌^◌, ◌<◌, ◌≤◌, Bool, true, false, List, length, Option, Some, None, Ok, Err, refl, sym, ap, ap₂, subst, arith, inl, inr, ◌↔◌, ◌≢◌, ◌&&◌, IsTrue, if◌then◌else◌, min, is_some, nat_lt}
use Rattle.std.proofs.lemmas.Bool.{both_ways, cases_lt, false≢true, le-leb, le-ltb, lt-leb, lt-ltb}
use Rattle.ffa_model.specs.Certified.{access_in, access_to, certified_answer}
use Rattle.ffa_model.specs.Ram.{Ram}
use Rattle.ffa_model.specs.Walk.{Answer, entry, is_in_ram, mapped_answer}
use Rattle.ffa_model.specs.declared.certificate.CertRun.{CertRun}
use Rattle.ffa_model.specs.declared.leaf.Leaf.{Leaf}
use Rattle.ffa_model.specs.declared.operation.FaultKind.TheVariants.{OutsideRam}
use Rattle.ffa_model.specs.declared.rights.Rights.{Rights}
use Rattle.ffa_physmem.specs.Levels.{shift}
use Rattle.ffa_physmem.specs.declared.descriptor.Level.{Level}
use Rattle.ffa_walker.specs.Spans.{AreCertified, HaveAccess, HavePages, from_table, from_word, index_bits, moved, span}
use Rattle.ffa_walker.proofs.Levels.{table-word}
use Rattle.ffa_model.proofs.Certificates.{same-level}

-- one fact is another's, and that a third's
pub through : {A B C : Type 0} → (A ↔ B) → (B ↔ C) → (A ↔ C)
through ab bc = (λ a. bc.0 (ab.0 a), λ c. ab.1 (bc.1 c))

-- ANSWERS

leaf_in : Answer → Leaf
leaf_in (Ok leaf) = leaf
leaf_in (Err fault) = record { phys = 0; read = false; write = false; exec = false }

same-leaf : (l m : Leaf) (a b : Answer) → a ≡ Ok l → b ≡ Ok m → a ≡ b → l ≡ m
unfolding leaf_in
same-leaf l m a b al bm e = ap leaf_in (sym al ∙ e ∙ bm)

-- an answer tells its right
pub same-access : (a : ℕ) (o p : Option Rights) → mapped_answer o a ≡ mapped_answer p a → o ≡ p
unfolding mapped_answer
same-access a None None e = refl
same-access a (Some r) (Some q) e =
    let same = same-leaf _ _ _ _ refl refl e in
    let level = same-level r.level q.level (ap (λ (l : Leaf). l.write) same) in
    λ i. Some (record { level = level i; exec = ap (λ (l : Leaf). l.exec) same i })
same-access a _ _ e = cc

-- where a walk leaves RAM, no access says so
pub never-outside : (o : Option Rights) (a : ℕ) → Err OutsideRam ≢ mapped_answer o a
unfolding mapped_answer
never-outside None a e = cc
never-outside (Some r) a e = cc

mapped-moved : (o : Option Rights) (a i : ℕ) → moved i (mapped_answer o a) ≡ mapped_answer o (a + i)
unfolding mapped_answer
mapped-moved None a i = refl
mapped-moved (Some r) a i = refl

unmoved : (r : Answer) (i : ℕ) → i ≡ 0 → moved i r ≡ r
unmoved (Ok leaf) i none =
    let same : leaf.phys + i ≡ leaf.phys = omega (arith, none) in
    λ j. Ok (record { phys = same j; read = leaf.read; write = leaf.write; exec = leaf.exec })
unmoved (Err fault) i none = refl

module _ (ram : Ram) (runs : List CertRun) (place : ℕ) where
  abbrev Certified : ℕ → ℕ → (ℕ → Answer) → Type 0
  Certified = AreCertified ram runs place

  abbrev Have : ℕ → ℕ → Option Rights → Type 0
  Have = HaveAccess ram runs place

  -- SPANS

  pub joined : (start n m : ℕ) (f : ℕ → Answer) → Certified start n f → Certified (start + n) m f → Certified start (n + m) f
  joined start n m f below above a from to = elim (cases_lt a (start + n)) [ inl lt ↦ below a from lt | inr past ↦ above a past (omega arith) ]

  pub like : (start n : ℕ) (f g : ℕ → Answer) → ((a : ℕ) → start ≤ a → a < start + n → f a ≡ g a) → (Certified start n f ↔ Certified start n g)
  like start n f g same = (λ all a from to. sym (same a from to) ∙ all a from to, λ all a from to. same a from to ∙ all a from to)

  -- where the answer at the first address, of which the others are moved, is that of an access, and where of none
  pub mapped : (start n : ℕ) (o : Option Rights) (first : Answer) (f : ℕ → Answer) → ((a : ℕ) → start ≤ a → a < start + n → f a ≡ moved (a - start) first) → first ≡ mapped_answer o start → (Have start n o ↔ Certified start n f)
  unfolding certified_answer
  mapped start n o first f moves here = (
    λ all a from to. at a from to ∙ sym (ap (λ p. mapped_answer p a) (all a from to)),
    λ all a from to. same-access a (access_to ram runs place a) o (sym (all a from to) ∙ at a from to),
  )
    where
      at : (a : ℕ) → start ≤ a → a < start + n → f a ≡ mapped_answer o a
      at a from to =
          let back : start + (a - start) ≡ a = omega arith in
          moves a from to ∙ ap (moved (a - start)) here ∙ mapped-moved o start (a - start) ∙ ap (mapped_answer o) back

  pub unmapped : (start n : ℕ) (first : Answer) (f : ℕ → Answer) → 0 < n → f start ≡ moved (start - start) first → ((o : Option Rights) → first ≢ mapped_answer o start) → (IsTrue false ↔ Certified start n f)
  unfolding certified_answer
  unmapped start n first f some here never = (
    λ no. absurd (false≢true no),
    λ all. absurd (never (access_to ram runs place start) (sym (unmoved first (start - start) (omega arith)) ∙ sym here ∙ all start (omega arith) (omega arith))),
  )

  -- PAGES

  access-inside : (a : ℕ) → ram.base ≤ a → a < ram.base + 4096 * length ram.pages → access_to ram runs place a ≡ access_in runs place ((a - ram.base) / 4096)
  access-inside a from to =
      ap (λ b. if b then access_in runs place ((a - ram.base) / 4096) else None)
      (ap₂ ◌&&◌ (le-leb ram.base a from) (lt-ltb a (ram.base + 4096 * length ram.pages) to))

  access-below : (a : ℕ) → a < ram.base → access_to ram runs place a ≡ None
  access-below a below =
      ap (λ b. if (b && nat_lt a (ram.base + 4096 * length ram.pages)) then access_in runs place ((a - ram.base) / 4096) else None) (lt-leb ram.base a below)

  access-above : (a : ℕ) → ram.base ≤ a → ram.base + 4096 * length ram.pages ≤ a → access_to ram runs place a ≡ None
  access-above a from above =
      ap (λ b. if b then access_in runs place ((a - ram.base) / 4096) else None)
      (ap₂ ◌&&◌ (le-leb ram.base a from) (le-ltb a (ram.base + 4096 * length ram.pages) above))

  no-access : (o : Option Rights) → (is_some o ≡ true → ⊥) → None ≡ o
  no-access None none = refl
  no-access (Some r) none = absurd (none refl)

  -- an access to all addresses of a span is that to its pages in RAM, and no access where some are outside
  pub paged : (start size first end : ℕ) (o : Option Rights) → ram.base % 4096 ≡ 0 → start % 4096 ≡ 0 → size % 4096 ≡ 0 → first ≡ (start - ram.base) / 4096 → end ≡ min ((start + size - ram.base) / 4096) (length ram.pages) → (is_some o ≡ true → first + size / 4096 ≤ end) → (HavePages runs place first end o ↔ Have start size o)
  paged start size first end o based started sized first-is end-is whole = (
    λ have a from to. elim (cases_lt a ram.base) [
      | inl below ↦ access-below a below ∙ no-access o (λ is. omega (arith, whole is))
      | inr inside ↦ elim (cases_lt a (ram.base + 4096 * length ram.pages)) [
        | inl in_ram ↦ access-inside a inside in_ram ∙ have ((a - ram.base) / 4096) (omega arith) (omega arith)
        | inr above ↦ access-above a inside above ∙ no-access o (λ is. omega (arith, whole is))
      ]
    ],
    λ have p from to.
        let back : (ram.base + 4096 * p - ram.base) / 4096 ≡ p = omega arith in
        ap (λ q. access_in runs place q) (sym back) ∙ sym (access-inside (ram.base + 4096 * p) (omega arith) (omega arith))
        ∙ have (ram.base + 4096 * p) (omega arith) (omega arith),
  )

  -- runs that say the same of all pages of a span and behind it
  pub narrowed : (narrow : List CertRun) (page start size : ℕ) (f : ℕ → Answer) → page ≡ (start - ram.base) / 4096 → ((p : ℕ) → page ≤ p → access_in narrow place p ≡ access_in runs place p) → (AreCertified ram narrow place start size f ↔ Certified start size f)
  unfolding certified_answer
  narrowed narrow page start size f is same = (λ all a from to. all a from to ∙ alike a from, λ all a from to. all a from to ∙ sym (alike a from))
    where
      alike : (a : ℕ) → start ≤ a → mapped_answer (access_to ram narrow place a) a ≡ mapped_answer (access_to ram runs place a) a
      alike a from = ap (λ o. mapped_answer (if is_in_ram ram a then o else None) a) (same ((a - ram.base) / 4096) (omega arith))

  -- TABLES, one word more of which is judged by the runs that are left for its pages

  pub word-judged : (level : Level) (table index word start address page : ℕ) (judged : Bool) (rest narrow : List CertRun)
      → word ≡ entry ram table index → start % span level ≡ 0 → index < 2 ^ index_bits level
      → address ≡ start + 2 ^ shift level * index → page ≡ (address - ram.base) / 4096
      → ((q p : ℕ) → (start + 2 ^ shift level * index - ram.base) / 4096 ≤ p → access_in rest q p ≡ access_in runs q p)
      → ((q p : ℕ) → page ≤ p → access_in narrow q p ≡ access_in rest q p)
      → (IsTrue judged ↔ AreCertified ram narrow place address (2 ^ shift level) (from_word ram level word))
      → (IsTrue judged ↔ Certified (start + 2 ^ shift level * index) (2 ^ shift level) (from_table ram level table))
  word-judged level table index word start address page judged rest narrow is aligned lt at its left narrower gives =
      let on : page ≡ (start + 2 ^ shift level * index - ram.base) / 4096 = its ∙ ap (λ a. (a - ram.base) / 4096) at in
      through (subst (λ (a : ℕ). IsTrue judged ↔ AreCertified ram narrow place a (2 ^ shift level) (from_word ram level word)) at gives)
      (through (narrowed narrow page (start + 2 ^ shift level * index) (2 ^ shift level) (from_word ram level word) on (λ p le. narrower place p le ∙ left place p (omega (arith, le, on))))
      (like (start + 2 ^ shift level * index) (2 ^ shift level) (from_word ram level word) (from_table ram level table) (λ a from to. sym (table-word ram level table index word start a is aligned lt from to))))

  -- a word that isn't as the runs say refuses its table
  pub word-refused : (start size : ℕ) (judged : Bool) (f : ℕ → Answer) (first n : ℕ) → (IsTrue judged ↔ Certified start size f) → judged ≡ false
      → first ≤ start → start + size ≤ first + n → (IsTrue false ↔ Certified first n f)
  word-refused start size judged f first n by_all not_judged from to = (
    λ is. absurd (false≢true is),
    λ all. absurd (both_ways judged not_judged (by_all.1 (λ a low high. all a (omega arith) (omega arith)))),
  )
