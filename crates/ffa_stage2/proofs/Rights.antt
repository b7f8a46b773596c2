-- SPDX-License-Identifier: MIT OR Apache-2.0
-- Access functions.
use Rattle.std.proofs.Common.{◌≡◌, ◌≢◌, ◌∙◌, ℕ, ◌+◌, ◌*◌, ◌<◌, ◌≤◌, true, false, sym, ap, arith, Option, None, inl, inr, ◌⊎◌, ◌==◌, ◌&&◌, ◌||◌, nat_le, nat_lt}
use Rattle.std.proofs.lemmas.Bool.{cases_Bool, cases_lt}
use Rattle.std.proofs.lemmas.Bool.Decides.{nat_tests}
use Rattle.ffa_model.specs.Ram.{Ram}
use Rattle.ffa_model.specs.declared.rights.Rights.{Rights}
use Rattle.ffa_stage2.specs.Tables.{IsBuilt, with_pages, with_right, rights_of_block}
use Rattle.ffa_stage2.specs.Words.{rights_until, no_access}
use Rattle.ffa_stage2.proofs.OneBlock.{IsMapped-rights}

-- a run of no page
pub with_pages-none : (access : ℕ → ℕ → Option Rights) (e first : ℕ) (right : Option Rights) (e' p : ℕ) → access e' p ≡ with_pages access e first first right e' p
with_pages-none access e first right e' p =
    let off : (e' == e && (nat_le first p && nat_lt p first)) ≡ false = grind (arith, nat_tests) in
    rw off

pub with_pages-other : (access : ℕ → ℕ → Option Rights) (e first end : ℕ) (right : Option Rights) (e' p : ℕ) → ((e' ≢ e) ⊎ ((p < first) ⊎ (end ≤ p)))
    → with_pages access e first end right e' p ≡ access e' p
with_pages-other access e first end right e' p (inl far) =
    let off : (e' == e && (nat_le first p && nat_lt p end)) ≡ false = grind (arith, nat_tests) in rw off
with_pages-other access e first end right e' p (inr (inl low)) =
    let off : (e' == e && (nat_le first p && nat_lt p end)) ≡ false = grind (arith, nat_tests) in rw off
with_pages-other access e first end right e' p (inr (inr high)) =
    let off : (e' == e && (nat_le first p && nat_lt p end)) ≡ false = grind (arith, nat_tests) in rw off

-- a run and the run behind it
pub with_pages-more : (access : ℕ → ℕ → Option Rights) (e first next end : ℕ) (right : Option Rights) (e' p : ℕ) → first ≤ next → next ≤ end
    → with_pages (with_pages access e first next right) e next end right e' p ≡ with_pages access e first end right e' p
with_pages-more access e first next end right e' p low high = elim (cases_lt p next) [
  | inl before ↦
      let out : (e' == e && (nat_le next p && nat_lt p end)) ≡ false = grind (arith, nat_tests) in
      let same : (e' == e && (nat_le first p && nat_lt p next)) ≡ (e' == e && (nat_le first p && nat_lt p end)) = grind (arith, nat_tests) in
      rw (out, same)
  | inr behind ↦
      let out : (e' == e && (nat_le first p && nat_lt p next)) ≡ false = grind (arith, nat_tests) in
      let same : (e' == e && (nat_le next p && nat_lt p end)) ≡ (e' == e && (nat_le first p && nat_lt p end)) = grind (arith, nat_tests) in
      rw (out, same)
]

-- a run of one page
pub with_pages-one : (access : ℕ → ℕ → Option Rights) (e page : ℕ) (right : Option Rights) (e' p : ℕ)
    → with_pages access e page (page + 1) right e' p ≡ with_right access e page right e' p
with_pages-one access e page right e' p =
    let same : (e' == e && (nat_le page p && nat_lt p (page + 1))) ≡ (e' == e && p == page) = grind (arith, nat_tests) in
    rw same

-- tables are built alike for two accesses that agree on every endpoint and page
pub built-same : (ram : Ram) (n tables b : ℕ) (f g : ℕ → ℕ → Option Rights) → IsBuilt ram n tables b f
    → ((e p : ℕ) → e < n → p < 512 * b → f e p ≡ g e p) → IsBuilt ram n tables b g
built-same ram n tables b f g built same = record {
  fits = built.fits;
  whole = built.whole;
  level1 = built.level1;
  outside = built.outside;
  each = λ e k he hk. IsMapped-rights _ _ _ _ (rights_of_block (f e) k) (rights_of_block (g e) k) (λ j hj. same e (512 * k + j) he (omega arith)) (built.each e k he hk);
}

-- a run of pages more have theirs, which is one
pub rights_until-next : (rights : ℕ → ℕ → Option Rights) (done page until : ℕ) (its : Option Rights) → page ≤ until
    → ((p : ℕ) → page ≤ p → p < until → rights done p ≡ its) → (e p : ℕ)
    → with_pages (rights_until rights done page) done page until its e p ≡ rights_until rights done until e p
rights_until-next rights done page until its le same e p = elim (cases_Bool (e == done && (nat_le page p && nat_lt p until))) [
  | inl here ↦
      let at : e ≡ done = grind (arith, here, nat_tests) in
      let low : page ≤ p = grind (arith, here, nat_tests) in
      let high : p < until = grind (arith, here, nat_tests) in
      let now : (nat_lt e done || (e == done && nat_lt p until)) ≡ true = grind (arith, at, high, nat_tests) in
      rw (here, now) (sym (ap (λ n. rights n p) at ∙ same p low high))
  | inr out ↦
      let kept : (nat_lt e done || (e == done && nat_lt p until)) ≡ (nat_lt e done || (e == done && nat_lt p page)) = grind (arith, le, out, nat_tests) in
      rw (out, kept)
]

-- a run of pages more, which are to have none
pub rights_until-skip : (rights : ℕ → ℕ → Option Rights) (done page until : ℕ) → page ≤ until
    → ((p : ℕ) → page ≤ p → p < until → rights done p ≡ None) → (e p : ℕ)
    → rights_until rights done page e p ≡ rights_until rights done until e p
rights_until-skip rights done page until le none e p = elim (cases_Bool (e == done && (nat_le page p && nat_lt p until))) [
  | inl here ↦
      let at : e ≡ done = grind (arith, here, nat_tests) in
      let low : page ≤ p = grind (arith, here, nat_tests) in
      let high : p < until = grind (arith, here, nat_tests) in
      let before : (nat_lt e done || (e == done && nat_lt p page)) ≡ false = grind (arith, at, low, nat_tests) in
      let now : (nat_lt e done || (e == done && nat_lt p until)) ≡ true = grind (arith, at, high, nat_tests) in
      rw (before, now) (sym (ap (λ n. rights n p) at ∙ none p low high))
  | inr out ↦
      let kept : (nat_lt e done || (e == done && nat_lt p until)) ≡ (nat_lt e done || (e == done && nat_lt p page)) = grind (arith, le, out, nat_tests) in
      rw kept
]

-- all pages of an endpoint have theirs
pub rights_until-full : (rights : ℕ → ℕ → Option Rights) (done page e p : ℕ) → p < page
    → rights_until rights done page e p ≡ rights_until rights (done + 1) 0 e p
rights_until-full rights done page e p h =
    let all : (nat_lt e done || (e == done && nat_lt p page)) ≡ (nat_lt e (done + 1) || (e == done + 1 && nat_lt p 0)) = grind (arith, nat_tests) in
    rw all

-- no endpoint has any yet
pub rights_until-none : (rights : ℕ → ℕ → Option Rights) (e p : ℕ) → no_access e p ≡ rights_until rights 0 0 e p
rights_until-none rights e p =
    let none : (nat_lt e 0 || (e == 0 && nat_lt p 0)) ≡ false = grind (arith, nat_tests) in
    rw none

-- all endpoints have theirs
pub rights_until-all : (rights : ℕ → ℕ → Option Rights) (done e p : ℕ) → e < done → rights_until rights done 0 e p ≡ rights e p
rights_until-all rights done e p h =
    let all : (nat_lt e done || (e == done && nat_lt p 0)) ≡ true = grind (arith, nat_tests) in
    rw all
