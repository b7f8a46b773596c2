-- SPDX-License-Identifier: MIT OR Apache-2.0
-- Work that follows work.
use Rattle.std.proofs.Common.{◌≡◌, ◌∙◌, ◌+◌, ℕ, Bool, List, [], ◌∷◌, Option, Some, None, is_some, if◌then◌else◌, refl, sym, ap, arith}
use Rattle.ffa_model.specs.Ram.{Ram}
use Rattle.ffa_physmem.specs.Moments.{IsReading, IsSettling, IsStore, One, OneMore, Past, Reading, Settled, Step}
use Rattle.ffa_physmem.specs.Work.{AddsAtMost, IsAtMost, Spends, Work, no_work, plus, readings_of, settles_of, total, work_of, words_of}

pub at-most-then : (a b c v w : Work) → IsAtMost b (plus a v) → IsAtMost c (plus b w) → IsAtMost c (plus a (plus v w))
at-most-then a b c v w first second = record {
  words = omega (arith, first.words, second.words);
  settles = omega (arith, first.settles, second.settles);
  loans = omega (arith, first.loans, second.loans);
  readings = omega (arith, first.readings, second.readings);
}

pub at-most-more : (a b v w : Work) → IsAtMost v w → IsAtMost b (plus a v) → IsAtMost b (plus a w)
at-most-more a b v w more its = record {
  words = omega (arith, more.words, its.words);
  settles = omega (arith, more.settles, its.settles);
  loans = omega (arith, more.loans, its.loans);
  readings = omega (arith, more.readings, its.readings);
}

at-most-same : (a w : Work) → IsAtMost a (plus a w)
at-most-same a w = record { words = omega arith; settles = omega arith; loans = omega arith; readings = omega arith }

-- where nothing was done
pub adds-none : {past : Past} (most : Work) → AddsAtMost past past most
adds-none most = record { each = λ h there. (h, there, at-most-same (total h) most) }

-- work behind work
pub adds-then : {old middle new : Past} {v w : Work} → AddsAtMost old middle v → AddsAtMost middle new w → AddsAtMost old new (plus v w)
adds-then {v = v} {w = w} first second = record {
  each = λ h there.
      let (e, at, more) = second.each h there in
      let (d, is, some) = first.each e at in
      (d, is, at-most-then (total d) (total e) (total h) v w some more);
}

-- at most so much is at most more
pub adds-more : {old new : Past} {v w : Work} → AddsAtMost old new v → IsAtMost v w → AddsAtMost old new w
adds-more {v = v} {w = w} adds more = record { each = λ h there. let (e, at, its) = adds.each h there in (e, at, at-most-more (total e) (total h) v w more its) }

-- exactly so much is at most so much
pub spends-adds : {old new : Past} {work : Work} → Spends old new work → AddsAtMost old new work
spends-adds spends = record {
  each = λ h there.
      let (e, at, is) = spends.each h there in (
        e,
        at,
        record {
          words = omega (arith, ap (λ (w : Work). w.words) is);
          settles = omega (arith, ap (λ (w : Work). w.settles) is);
          loans = omega (arith, ap (λ (w : Work). w.loans) is);
          readings = omega (arith, ap (λ (w : Work). w.readings) is);
        },
      );
}

plus-plus : (a b c : Work) → plus (plus a b) c ≡ plus a (plus b c)
plus-plus a b c =
    let words : a.words + b.words + c.words ≡ a.words + (b.words + c.words) = omega arith in
    let settles : a.settles + b.settles + c.settles ≡ a.settles + (b.settles + c.settles) = omega arith in
    let loans : a.loans + b.loans + c.loans ≡ a.loans + (b.loans + c.loans) = omega arith in
    let readings : a.readings + b.readings + c.readings ≡ a.readings + (b.readings + c.readings) = omega arith in
    λ j. record { words = words j; settles = settles j; loans = loans j; readings = readings j }

-- exactly so much behind exactly so much
pub spends-then : {old middle new : Past} (v w work : Work) → plus v w ≡ work → Spends old middle v → Spends middle new w → Spends old new work
spends-then v w work is first second = record {
  each = λ h there.
      let (e, at, more) = second.each h there in
      let (d, was, some) = first.each e at in
      (d, was, more ∙ ap (λ (x : Work). plus x w) some ∙ plus-plus (total d) v w ∙ ap (plus (total d)) is);
}

-- one step more
pub one-spends : {P : Step → Type 0} (old new : Past) (work : Work) → OneMore old.steps new.steps P → ((s : Step) → P s → work_of s ≡ work) → Spends old new work
one-spends old new work one its = record {
  each = λ h there. let (s, e, is, at, holds) = one h there in (e, at, ap total is ∙ ap (plus (total e)) (its s holds));
}

pub none-of : (n m : ℕ) (settled : Option Settled) (reading : Option Reading) (s : Step) → s.words ≡ n → s.loans ≡ m → s.settled ≡ settled → s.reading ≡ reading
    → work_of s ≡ record { words = n; settles = if is_some settled then 1 else 0; loans = m; readings = if is_some reading then 1 else 0 }
none-of n m settled reading s words loans settles reads =
    λ j. record { words = words j; settles = if is_some (settles j) then 1 else 0; loans = loans j; readings = if is_some (reads j) then 1 else 0 }

-- a store is one word, a settle is one, and a reading is one
pub store-spends : {old new : Past} {ram : Ram} {page index value : ℕ} → One old new (λ s. IsStore ram page index value s) → Spends old new (words_of 1)
store-spends {old} {new} one = one-spends old new (words_of 1) one.each (λ s is. none-of 1 0 None None s is.words is.loans is.none is.unread)

pub settle-spends : {old new : Past} {ram : Ram} {endpoint first count : ℕ} → One old new (λ s. IsSettling ram endpoint first count s) → Spends old new (settles_of 1)
settle-spends {old} {new} one = one-spends old new (settles_of 1) one.each (λ s is. none-of 0 0 (Some _) None s is.words is.loans is.settled is.unread)

pub reading-spends : (old new : Past) {ram after : Ram} {first count : ℕ} {begins : Bool}
    → OneMore old.steps new.steps (λ s. IsReading ram after first count begins s) → Spends old new (readings_of 1)
reading-spends old new one = one-spends old new (readings_of 1) one (λ s is. none-of 0 0 None (Some _) s is.words is.loans is.none is.reading)
