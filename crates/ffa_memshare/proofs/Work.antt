-- SPDX-License-Identifier: MIT OR Apache-2.0
-- What changes of rights to ranges do, range by range.
use Rattle.std.proofs.Common.{◌≡◌, ◌∙◌, ◌⊎◌, ℕ, zero, suc, ◌+◌, ◌-◌, ◌*◌, ◌/◌, ◌%◌, ◌<◌, ◌≤◌, Bool, true, false, cond, if◌then◌else◌, List, [], ◌∷◌, length, take, get_or, Option, Some, None, refl, sym, ap, subst, arith, inl, inr}
use Rattle.std.specs.Prelude.{◌==◌, ◌&&◌}
use Rattle.std.proofs.lemmas.Bool.{cases_Bool, false≢true}
use Rattle.std.proofs.lemmas.List.Sums.{sum_by-cons}
use Rattle.std.proofs.lemmas.Option.{none-some}
use Rattle.ffa_model.specs.SendDescriptor.{page_total}
use Rattle.ffa_model.specs.declared.rights.Rights.{Rights}
use Rattle.ffa_model.specs.declared.transaction.Range.{Range}
use Rattle.ffa_physmem.specs.Moments.{Past}
use Rattle.ffa_physmem.specs.Work.{AddsAtMost, IsAtMost, Work, loans_of, no_work, plus}
use Rattle.ffa_physmem.proofs.Work.{adds-more, adds-none, adds-then}
use Rattle.ffa_stage2.specs.Blocks.{IsOne}
use Rattle.ffa_stage2.specs.Tables.{rights_of_block, with_pages}
use Rattle.ffa_stage2.specs.Work.{AreSplits, IsCarryAt, IsChange, blocks_passing, blocks_touched, change_work, pages_work, touched_passing, words_written}
use Rattle.ffa_stage2.proofs.Work.{carry-same, change-few}
use Rattle.ffa_model.specs.declared.rights.Kind.{Kind}
use Rattle.ffa_model.specs.declared.rights.Kind.TheVariants.{Share, Lend, Donate}
use Rattle.ffa_pages.specs.Entry.{Entry, own_right_at}
use Rattle.ffa_memshare.specs.declared.grants.NewRight.{NewRight}
use Rattle.ffa_memshare.specs.declared.grants.NewRight.TheVariants.{Same, Own}
use Rattle.ffa_memshare.specs.Sent.{right_after}
use Rattle.ffa_memshare.specs.Grants.{new_right, with_rights}
use Rattle.ffa_memshare.specs.Ranges.{IsPlaced, first_page, in_range, in_ranges}
use Rattle.ffa_memshare.specs.Work.{AreSplitsIn, IsTakenFrom, LosesNone, given_work, ranges_work, sent_work, taken_work}
use Rattle.ffa_memshare.proofs.Places.{between, between-inside, between-none, in_range-between}
use Rattle.ffa_memshare.proofs.Rights.{no-rights, run-more}

-- ---- work

-- as much before and behind
pub plus-more : (a b c d : Work) → IsAtMost a b → IsAtMost c d → IsAtMost (plus a c) (plus b d)
plus-more a b c d one other = record {
  words = omega (arith, one.words, other.words);
  settles = omega (arith, one.settles, other.settles);
  loans = omega (arith, one.loans, other.loans);
  readings = omega (arith, one.readings, other.readings);
}

-- one range more
pub ranges-more : (base : ℕ) (split : ℕ → Bool) (right : Option Rights) (ranges : List Range) (k : ℕ) (r : Range) → k < length ranges → r ≡ get_or ranges k r
    → IsAtMost (plus (ranges_work base split right (take k ranges)) (pages_work split right (first_page base r) (first_page base r + r.pages)))
    (ranges_work base split right (take (k + 1) ranges))
ranges-more base split right [] k r lt is = absurd (omega arith)
ranges-more base split right (q ∷ ranges) zero r lt is =
    let its : Range → Work = λ x. pages_work split right (first_page base x) (first_page base x + x.pages) in
    let same : its r ≡ its q = ap its is in
    record {
      words = omega (arith, ap (λ (w : Work). w.words) same);
      settles = omega (arith, ap (λ (w : Work). w.settles) same);
      loans = omega (arith, ap (λ (w : Work). w.loans) same);
      readings = omega (arith, ap (λ (w : Work). w.readings) same);
    }
ranges-more base split right (q ∷ ranges) (suc k) r lt is =
    let rest = ranges-more base split right ranges k r (omega arith) is in
    let next : suc k + 1 ≡ suc (k + 1) = omega arith in
    subst (λ n. IsAtMost (plus (ranges_work base split right (take (suc k) (q ∷ ranges))) (pages_work split right (first_page base r) (first_page base r + r.pages)))
    (ranges_work base split right (take n (q ∷ ranges)))) (sym next)
    (record {
      words = omega (arith, rest.words);
      settles = omega (arith, rest.settles);
      loans = omega (arith, rest.loans);
      readings = omega (arith, rest.readings);
    })

pub pages-more : (ranges : List Range) (k : ℕ) (r : Range) → k < length ranges → r ≡ get_or ranges k r → page_total (take k ranges) + r.pages ≤ page_total (take (k + 1) ranges)
pages-more [] k r lt is = absurd (omega arith)
pages-more (q ∷ ranges) zero r lt is = omega (arith, ap (λ (x : Range). x.pages) is)
pages-more (q ∷ ranges) (suc k) r lt is =
    let rest = pages-more ranges k r (omega arith) is in
    let next : suc k + 1 ≡ suc (k + 1) = omega arith in
    let one = sum_by-cons (λ (x : Range). x.pages) q (take k ranges) in
    let more = sum_by-cons (λ (x : Range). x.pages) q (take (k + 1) ranges) in
    let here : page_total (q ∷ take k ranges) + r.pages ≤ page_total (q ∷ take (k + 1) ranges) = omega (arith, rest, one, more) in
    subst (λ n. page_total (take (suc k) (q ∷ ranges)) + r.pages ≤ page_total (take n (q ∷ ranges))) (sym next) here

-- ---- rights so far

-- a page has its right from before, or its new one
pub so-far : (access : ℕ → ℕ → Option Rights) (index : ℕ) (done : ℕ → Bool) (new : ℕ → Option Rights) (p : ℕ)
    → (with_rights access index done new index p ≡ access index p) ⊎ (with_rights access index done new index p ≡ new p)
so-far access index done new p = elim (cases_Bool (index == index && done p)) [
  | inl here ↦ inr (ap (λ b. cond b (new p) (access index p)) here)
  | inr out ↦ inl (ap (λ b. cond b (new p) (access index p)) out)
]

-- blocks that may be split are so at first
pub splits-still : (access : ℕ → ℕ → Option Rights) (index : ℕ) (done named here : ℕ → Bool) (new : ℕ → Option Rights) (right : Option Rights) (split : ℕ → Bool)
    → ((p : ℕ) → new p ≡ right) → ((p : ℕ) → here p ≡ true → named p ≡ true) → AreSplitsIn (access index) named right split
    → AreSplitsIn (with_rights access index done new index) here right split
splits-still access index done named here new right split same within splits p r at one other =
    splits p r (within p at)
    (λ j hj. elim (so-far access index done new (512 * (p / 512) + j)) [
      | inl kept ↦ sym kept ∙ one j hj
      | inr gets ↦ absurd (other (sym (same (512 * (p / 512) + j)) ∙ sym gets ∙ one j hj))
    ])
    other

-- and no page loses a right later
pub loses-still : (access : ℕ → ℕ → Option Rights) (index : ℕ) (done named here : ℕ → Bool) (new : ℕ → Option Rights)
    → ((p : ℕ) → here p ≡ true → named p ≡ true) → LosesNone (access index) named new → LosesNone (with_rights access index done new index) here new
loses-still access index done named here new within loses p at = elim (so-far access index done new p) [
  | inl kept ↦ elim (loses p (within p at)) [ inl none ↦ inl (kept ∙ none) | inr same ↦ inr (kept ∙ same) ]
  | inr gets ↦ inr gets
]

-- no right of a block is lost where none of its pages' is
pub loses-splits : (rights : ℕ → Option Rights) (named : ℕ → Bool) (new : ℕ → Option Rights) (right : Option Rights) → ((p : ℕ) → named p ≡ true → new p ≡ right)
    → LosesNone rights named new → AreSplitsIn rights named right (λ _. false)
loses-splits rights named new right same loses p r at one other =
    let place : 512 * (p / 512) + p % 512 ≡ p = omega arith in
    let has : rights p ≡ Some r = ap rights (sym place) ∙ one (p % 512) (omega arith) in
    elim (loses p at) [
      | inl none ↦ absurd (none-some r (sym none ∙ has))
      | inr its ↦ absurd (other (sym (same p at) ∙ sym its ∙ has))
    ]

-- pages from one up to another, of those of a range
pub splits-between : (rights : ℕ → Option Rights) (named : ℕ → Bool) (right its : Option Rights) (first end : ℕ) (split : ℕ → Bool) → its ≡ right
    → ((p : ℕ) → first ≤ p → p < end → named p ≡ true) → AreSplitsIn rights named right split → AreSplits rights its first end split
splits-between rights named right its first end split same within splits p r low high one other = splits p r (within p low high) one (λ is. other (same ∙ is))

-- ---- runs of a range

passing-none : (first n : ℕ) → blocks_passing (λ _. false) first n ≡ 0
passing-none first zero = refl
passing-none first (suc n) = let none = passing-none first n in omega (arith, none)

words-few : (right : Option Rights) (first end : ℕ) → words_written right first end ≤ end - first
words-few None first end = omega arith
words-few (Some r) first end = omega arith

-- one run more, of which no block is split
pub runs-more : (old middle new : Past) (first next until to : ℕ) (right : Option Rights) (before after behind : ℕ → Option Rights) → first ≤ next → next ≤ until → until ≡ to
    → ((p : ℕ) → after p ≡ behind p)
    → (its : IsChange old middle (next - first) (next / 512 - first / 512) 0 (IsCarryAt before next) (λ n. n ≡ 0))
    → IsChange middle new (words_written right next to) (to / 512 - next / 512) its.left (IsCarryAt after to) (λ n. n ≤ touched_passing (λ _. false) next to)
    → IsChange old new (until - first) (until / 512 - first / 512) 0 (IsCarryAt behind until) (λ n. n ≡ 0)
runs-more old middle new first next until to right before after behind low high same alike its step =
    let words = words-few right next to in
    let none = passing-none (next / 512) (blocks_touched next to) in
    record {
      joins = its.joins + step.joins;
      splits = 0;
      left = step.left;
      few = adds-more (adds-then its.few step.few)
          (record {
            words = omega (arith, words, same, low, high, its.split, step.split, none);
            settles = omega (arith, its.split, step.split, none);
            loans = omega arith;
            readings = omega arith;
          });
      balance = omega (arith, its.balance, step.balance, its.split, step.split, none, same, low, high);
      carried = (
          subst (λ n. IsCarryAt behind n step.left) (sym same)
          (carry-same (rights_of_block after (to / 512)) (rights_of_block behind (to / 512)) step.left (λ j hj. alike (512 * (to / 512) + j)) step.carried.0, step.carried.1)
          );
      split = refl;
    }

pub runs-few : (old new : Past) (first end : ℕ) (rights : ℕ → Option Rights) → first ≤ end
    → IsChange old new (end - first) (end / 512 - first / 512) 0 (IsCarryAt rights end) (λ n. n ≡ 0) → AddsAtMost old new (pages_work (λ _. false) None first end)
runs-few old new first end rights le its =
    change-few old new None (λ _. false) first end rights le
    (record { joins = its.joins; splits = its.splits; left = its.left; few = its.few; balance = its.balance; carried = its.carried; split = omega (arith, its.split) })

-- where there is no page yet
pub runs-none : (past : Past) (first next : ℕ) (rights : ℕ → Option Rights) → next ≡ first
    → IsChange past past (next - first) (next / 512 - first / 512) 0 (IsCarryAt rights next) (λ n. n ≡ 0)
runs-none past first next rights is = record {
  joins = 0;
  splits = 0;
  left = 0;
  few = adds-none (change_work (next - first) 0 0);
  balance = omega arith;
  carried = (inl refl, λ _. refl);
  split = refl;
}

-- ---- what a sender keeps, by the kind of its transaction

pub sent-few : (old new : Past) (kind : Kind) (right : NewRight) (entries : List (Option Entry)) (rights : ℕ → Option Rights) (named : ℕ → Bool) (base : ℕ) (ranges : List Range) (zeros : Bool) (split : ℕ → Bool)
    → right ≡ right_after kind
    → (right ≡ Same None → AreSplitsIn rights named None split → AddsAtMost old new (taken_work base split ranges zeros))
    → (right ≡ Own → LosesNone rights named (new_right right entries) → AddsAtMost old new (given_work base None ranges zeros))
    → IsTakenFrom kind rights named (own_right_at entries) split → AddsAtMost old new (sent_work kind base split ranges zeros)
sent-few old new Share right entries rights named base ranges zeros split is taken kept from =
    kept is (subst (λ (r : NewRight). LosesNone rights named (new_right r entries)) (sym is) from)
sent-few old new Lend right entries rights named base ranges zeros split is taken kept from = taken is from
sent-few old new Donate right entries rights named base ranges zeros split is taken kept from = taken is from
