-- SPDX-License-Identifier: MIT OR Apache-2.0
-- What changes of rights do, block by block.
use Rattle.std.proofs.Common.{◌≡◌, ◌∙◌, ◌⊎◌, ℕ, zero, suc, ◌+◌, ◌-◌, ◌*◌, ◌/◌, ◌%◌, ◌<◌, ◌≤◌, ◌==◌, ◌&&◌, Bool, true, false, if◌then◌else◌, Option, Some, None, is_some, refl, sym, ap, subst, arith, inl, inr}
use Rattle.std.proofs.lemmas.Bool.{cases_Bool, cases_lt}
use Rattle.std.proofs.lemmas.Bool.Decides.{nat_tests}
use Rattle.ffa_model.specs.declared.rights.Rights.{Rights}
use Rattle.ffa_stage2.specs.Blocks.{IsMixed, IsOne}
use Rattle.ffa_stage2.specs.Places.{with_run}
use Rattle.ffa_physmem.specs.Moments.{Past}
use Rattle.ffa_physmem.specs.Work.{AddsAtMost}
use Rattle.ffa_physmem.proofs.Work.{adds-more, adds-none, adds-then}
use Rattle.ffa_stage2.specs.Work.{AreSplits, IsCarry, IsCarryAt, IsChange, IsSplitOf, blocks_passing, blocks_touched, change_work, pages_work, run_words, touched_passing, words_written}
use Rattle.ffa_stage2.specs.Tables.{rights_of_block, with_pages}
use Rattle.ffa_stage2.proofs.OneBlock.{some_of}
use Rattle.ffa_stage2.proofs.PageRuns.{with_run-here}
use Rattle.ffa_stage2.proofs.Rights.{with_pages-more, with_pages-none, with_pages-other}
use Rattle.ffa_stage2.proofs.RunChanges.{with_pages-block}

-- where no right is that of all pages, nothing is carried
pub carry-mixed : (rights : ℕ → Option Rights) (n : ℕ) → IsMixed rights → IsCarry rights n → n ≡ 0
carry-mixed rights n mixed (inl none) = none
carry-mixed rights n mixed (inr (is, (r, one))) = absurd (mixed r one)

pub carry-few : (rights : ℕ → Option Rights) (n : ℕ) → IsCarry rights n → n ≤ 1
carry-few rights n (inl none) = omega (arith, none)
carry-few rights n (inr (is, one)) = omega (arith, is)

-- rights that are the same page by page
pub carry-same : (f g : ℕ → Option Rights) (n : ℕ) → ((j : ℕ) → j < 512 → f j ≡ g j) → IsCarry f n → IsCarry g n
carry-same f g n same (inl none) = inl none
carry-same f g n same (inr (is, (r, one))) = inr (is, (r, λ j hj. sym (same j hj) ∙ one j hj))

-- more blocks have at least as many that pass
passing-more : (test : ℕ → Bool) (first n d : ℕ) → blocks_passing test first n ≤ blocks_passing test first (n + d)
passing-more test first n zero = let none : n + 0 ≡ n = omega arith in rw none (omega arith)
passing-more test first n (suc d) =
    let before = passing-more test first n d in
    let next : n + suc d ≡ suc (n + d) = omega arith in
    rw next (omega (arith, before))

pub passing-upto : (test : ℕ → Bool) (first n m : ℕ) → n ≤ m → blocks_passing test first n ≤ blocks_passing test first m
passing-upto test first n m le =
    let more : n + (m - n) ≡ m = omega arith in
    subst (λ (k : ℕ). blocks_passing test first n ≤ blocks_passing test first k) more (passing-more test first n (m - n))

-- and one more that passes is counted
pub passing-next : (test : ℕ → Bool) (first n k : ℕ) → first + n ≡ k → test k ≡ true → blocks_passing test first n + 1 ≤ blocks_passing test first (suc n)
passing-next test first n k is passes =
    let here : test (first + n) ≡ true = ap test is ∙ passes in
    let count : Bool → ℕ = λ b. if b then 1 else 0 in
    let one : count (test (first + n)) ≡ 1 = ap count here in
    omega (arith, one)

-- the words of pages up to one, and of a run of the next block
pub words-more : (right : Option Rights) (first next to : ℕ) → first ≤ next → next < to → to ≤ 512 * (next / 512) + 512
    → ((next % 512 ≡ 0) ⊎ (next ≡ first)) → words_written right first next + run_words right (next % 512) (to - 512 * (next / 512)) ≤ words_written right first to
words-more None first next to from some upto at = omega arith
words-more (Some r) first next to from some upto at = elim (cases_Bool (to - 512 * (next / 512) - next % 512 == 512)) [
  | inl whole ↦
      let all : to - 512 * (next / 512) - next % 512 ≡ 512 = grind (arith, whole, nat_tests) in
      rw whole (elim at [ inl here ↦ omega (arith, here, all) | inr here ↦ omega (arith, here, all) ])
  | inr part ↦
      let less : to - 512 * (next / 512) - next % 512 < 512 = grind (arith, part, nat_tests) in
      rw part (elim at [ inl here ↦ omega (arith, here, less) | inr here ↦ omega (arith, here, less) ])
]

-- ---- one block

run-whole : (right : Option Rights) (from to : ℕ) → is_some right ≡ true → to ≡ from + 512 → run_words right from to ≡ 1
run-whole right from to some is =
    let whole : (to - from == 512) ≡ true = grind (arith, is, nat_tests) in
    let both : (is_some right && to - from == 512) ≡ true = ap (λ b. b && to - from == 512) some ∙ whole in
    rw both refl

pub run-part : (right : Option Rights) (from to : ℕ) → from < to → to ≤ 512 → (is_some right ≡ true → to ≡ from + 512 → ⊥) → run_words right from to ≡ to - from
run-part None from to some few other = refl
run-part (Some r) from to some few other = elim (cases_Bool (to - from == 512)) [
  | inl whole ↦ absurd (other refl (grind (arith, whole, some, few, nat_tests)))
  | inr part ↦ rw part refl
]

-- all its pages get a right
pub change-whole : (old new : Past) (rights : ℕ → Option Rights) (from to : ℕ) (right : Option Rights) (carry joins : ℕ) → is_some right ≡ true → to ≡ from + 512 → to ≤ 512
    → joins + carry ≤ 1 → AddsAtMost old new (change_work 1 joins 0) → IsChange old new (run_words right from to) 0 carry (IsCarry (with_run rights from to right)) (IsSplitOf rights right)
change-whole old new rights from to right carry joins some whole few balance adds =
    let (r, is) = some_of right some in
    let one = run-whole right from to some whole in
    record {
      joins = joins;
      splits = 0;
      left = 1;
      few = adds-more adds (record { words = omega (arith, one); settles = omega arith; loans = omega arith; readings = omega arith });
      balance = omega (arith, balance);
      carried = inr (refl, (r, λ j hj. with_run-here rights from to right j (omega (arith, whole, few)) (omega (arith, whole, few, hj)) ∙ is));
      split = inl refl;
    }

-- its block is split
pub change-part : (old new : Past) (rights : ℕ → Option Rights) (from to : ℕ) (right : Option Rights) (carry : ℕ)
    → IsChange old new 0 0 carry (IsCarry (with_run rights from to right)) (IsSplitOf rights right)
    → IsChange old new (run_words right from to) 0 carry (IsCarry (with_run rights from to right)) (IsSplitOf rights right)
change-part old new rights from to right carry its = record {
  joins = its.joins;
  splits = its.splits;
  left = its.left;
  few = adds-more its.few (record { words = omega arith; settles = omega arith; loans = omega arith; readings = omega arith });
  balance = its.balance;
  carried = its.carried;
  split = its.split;
}

-- words of its table change
pub change-named : (old new : Past) (rights : ℕ → Option Rights) (from to : ℕ) (right : Option Rights) (carry joins : ℕ) → carry ≡ 0 → run_words right from to ≡ to - from
    → AddsAtMost old new (change_work (to - from) joins 0) → IsCarry (with_run rights from to right) joins
    → IsChange old new (run_words right from to) 0 carry (IsCarry (with_run rights from to right)) (IsSplitOf rights right)
change-named old new rights from to right carry joins none words few carried = record {
  joins = joins;
  splits = 0;
  left = joins;
  few = adds-more few (record { words = omega (arith, words); settles = omega arith; loans = omega arith; readings = omega arith });
  balance = omega (arith, none);
  carried = carried;
  split = inl refl;
}

-- ---- pages, block by block

-- what is known of the blocks that were split, up to a page
abbrev pub ArePassed : (ℕ → Bool) → ℕ → ℕ → ℕ → ℕ → Type 0
ArePassed split first next end n =
    (m : ℕ) × (n ≤ blocks_passing split (first / 512) m) × (m ≤ blocks_touched first end) × (next < end → first / 512 + m ≤ next / 512)

-- where none was changed yet
pub change-begins : (past : Past) (access : ℕ → ℕ → Option Rights) (e : ℕ) (right : Option Rights) (split : ℕ → Bool) (first end carry : ℕ) → IsCarryAt (access e) first carry
    → IsChange past past (words_written right first first) (first / 512 - first / 512) carry (IsCarryAt (with_pages access e first first right e) first) (ArePassed split first first end)
change-begins past access e right split first end carry carried = record {
  joins = 0;
  splits = 0;
  left = carry;
  few = adds-none (change_work (words_written right first first) 0 0);
  balance = omega arith;
  carried = (
    carry-same (rights_of_block (access e) (first / 512)) (rights_of_block (with_pages access e first first right e) (first / 512)) carry
        (λ j hj. with_pages-none access e first right e (512 * (first / 512) + j)) carried.0,
    carried.1,
  );
  split = (0, omega arith, omega arith, λ _. omega arith);
}

module _ (access : ℕ → ℕ → Option Rights) (e : ℕ) (right : Option Rights) (split : ℕ → Bool) (first next to end : ℕ)
    (from : first ≤ next) (some : next < to) (upto : to ≤ end) (block : to ≤ 512 * (next / 512) + 512)
    (at : (next % 512 ≡ 0) ⊎ (next ≡ first)) (until : (to ≡ 512 * (next / 512) + 512) ⊎ (to ≡ end)) where
  abbrev k : ℕ
  k = next / 512

  abbrev now : ℕ → ℕ → Option Rights
  now = with_pages access e first next right

  -- the block is as it was
  untouched : (j : ℕ) → j < 512 → rights_of_block (now e) k j ≡ rights_of_block (access e) k j
  untouched j hj = elim at [
    | inl here ↦ with_pages-other access e first next right e (512 * k + j) (inr (inr (omega (arith, here))))
    | inr here ↦ elim (cases_lt (512 * k + j) first) [
      | inl low ↦ with_pages-other access e first next right e (512 * k + j) (inr (inl low))
      | inr high ↦ with_pages-other access e first next right e (512 * k + j) (inr (inr (omega (arith, here, high))))
    ]
  ]

  -- and behind it, by the pages
  changed : (j : ℕ) → j < 512 → with_run (rights_of_block (now e) k) (next % 512) (to - 512 * k) right j ≡ rights_of_block (with_pages access e first to right e) k j
  changed j hj =
      with_pages-block now e k (next % 512) (to - 512 * k) right j
      ∙ ap (λ (n : ℕ). with_pages now e n (512 * k + (to - 512 * k)) right e (512 * k + j)) (let is : 512 * k + next % 512 ≡ next = omega arith in is)
      ∙ ap (λ (n : ℕ). with_pages now e next n right e (512 * k + j)) (let is : 512 * k + (to - 512 * k) ≡ to = omega (arith, some) in is)
      ∙ with_pages-more access e first next to right e (512 * k + j) from (omega (arith, some))

  passed : (n m : ℕ) → AreSplits (access e) right first end split → ArePassed split first next end n → IsSplitOf (rights_of_block (now e) k) right m → ArePassed split first to end (n + m)
  passed n m splits (b, few, within, before) (inl none) = (
    b,
    omega (arith, few, none),
    within,
    λ more. let so : first / 512 + b ≤ next / 512 = before (omega (arith, some, upto)) in omega (arith, so, some),
  )
  passed n m splits (b, few, within, before) (inr (one, (r, all, other))) =
      let so : first / 512 + b ≤ k = before (omega (arith, some, upto)) in
      let is : split k ≡ true = splits next r from (omega (arith, some, upto)) (λ j hj. sym (untouched j hj) ∙ all j hj) other in
      let more : blocks_passing split (first / 512) b ≤ blocks_passing split (first / 512) (k - first / 512) = passing-upto split (first / 512) b (k - first / 512) (omega (arith, so)) in
      let next_one = passing-next split (first / 512) (k - first / 512) k (omega (arith, so)) is in (
        suc (k - first / 512),
        omega (arith, few, one, more, next_one),
        omega (arith, some, upto, from),
        λ less. elim until [ inl here ↦ omega (arith, here, so) | inr here ↦ absurd (omega (arith, here, less)) ],
      )

  pub change-then : {old middle new : Past} {carry : ℕ} → AreSplits (access e) right first end split
      → (its : IsChange old middle (words_written right first next) (next / 512 - first / 512) carry (IsCarryAt (now e) next) (ArePassed split first next end))
      → IsChange middle new (run_words right (next % 512) (to - 512 * k)) 0 its.left (IsCarry (with_run (rights_of_block (now e) k) (next % 512) (to - 512 * k) right)) (IsSplitOf (rights_of_block (now e) k) right)
      → IsChange old new (words_written right first to) (to / 512 - first / 512) carry (IsCarryAt (with_pages access e first to right e) to) (ArePassed split first to end)
  change-then splits its step = elim (cases_lt (to % 512) 1) [
    | inl aligned ↦
        let full : to ≡ 512 * k + 512 = omega (arith, aligned, some, block) in
        let most : step.left ≤ 1 = carry-few _ step.left step.carried in
        record {
          joins = its.joins + step.joins;
          splits = its.splits + step.splits;
          left = 0;
          few = adds-more (adds-then its.few step.few) (record { words = omega (arith, words); settles = omega arith; loans = omega arith; readings = omega arith });
          balance = omega (arith, its.balance, step.balance, most, full, from);
          carried = (inl refl, λ _. refl);
          split = passed its.splits step.splits splits its.split step.split;
        }
    | inr other ↦
        let same : to / 512 ≡ k = omega (arith, other, some, block) in
        record {
          joins = its.joins + step.joins;
          splits = its.splits + step.splits;
          left = step.left;
          few = adds-more (adds-then its.few step.few) (record { words = omega (arith, words); settles = omega arith; loans = omega arith; readings = omega arith });
          balance = omega (arith, its.balance, step.balance, same);
          carried = (
            subst (λ (b : ℕ). IsCarry (rights_of_block (with_pages access e first to right e) b) step.left) (sym same)
                (carry-same _ (rights_of_block (with_pages access e first to right e) k) step.left changed step.carried),
            λ none. absurd (omega (arith, none, other)),
          );
          split = passed its.splits step.splits splits its.split step.split;
        }
  ]
    where
      words : words_written right first next + run_words right (next % 512) (to - 512 * k) ≤ words_written right first to
      words = words-more right first next to from some block at

-- all of them
pub change-ends : (old new : Past) (right : Option Rights) (split : ℕ → Bool) (first end carry : ℕ) (rights : ℕ → Option Rights)
    → IsChange old new (words_written right first end) (end / 512 - first / 512) carry (IsCarryAt rights end) (ArePassed split first end end)
    → IsChange old new (words_written right first end) (end / 512 - first / 512) carry (IsCarryAt rights end) (λ n. n ≤ touched_passing split first end)
change-ends old new right split first end carry rights its =
    let (m, few, within, _) = its.split in
    let all : blocks_passing split (first / 512) m ≤ touched_passing split first end = passing-upto split (first / 512) m (blocks_touched first end) within in
    record {
      joins = its.joins;
      splits = its.splits;
      left = its.left;
      few = its.few;
      balance = its.balance;
      carried = its.carried;
      split = omega (arith, few, all);
    }

pub change-few : (old new : Past) (right : Option Rights) (split : ℕ → Bool) (first end : ℕ) (rights : ℕ → Option Rights) → first ≤ end
    → IsChange old new (words_written right first end) (end / 512 - first / 512) 0 (IsCarryAt rights end) (λ n. n ≤ touched_passing split first end)
    → AddsAtMost old new (pages_work split right first end)
change-few old new right split first end rights le its =
    let most : its.left ≤ 1 = carry-few _ its.left its.carried.0 in
    let joins : its.joins ≤ blocks_touched first end + touched_passing split first end = elim (cases_lt (end % 512) 1) [
      | inl aligned ↦ (let none : its.left ≡ 0 = its.carried.1 (omega (arith, aligned)) in omega (arith, none, its.balance, its.split))
      | inr other ↦ omega (arith, most, its.balance, its.split, other, le)
    ] in
    adds-more its.few (record { words = omega (arith, joins, its.split); settles = omega (arith, joins, its.split); loans = omega arith; readings = omega arith })
