-- SPDX-License-Identifier: MIT OR Apache-2.0
-- The runs of pages, one after another.
use Rattle.std.proofs.Common.{◌≡◌, ℕ, zero, suc, ◌+◌, ◌-◌, ◌<◌, ◌≤◌, true, false, cond, not, List, [], ◌∷◌, ◌++◌, length, Option, sym, ap, ap₂, ◌∙◌, subst, arith, refl, append_assoc, append-nil, eq-eqb}
use Rattle.std.specs.Prelude.{◌==◌, ◌||◌, filter, zip}
use Rattle.std.proofs.lemmas.Bool.{ne_eqb, false≢true}
use Rattle.std.specs.List.{flat_map, range_with_len}
use Rattle.std.specs.Io.KnownBytes.{Appends}
use Rattle.std.proofs.KnownBytes.{Appends-trans}
use Rattle.ffa_model.specs.Alike.{is_alike}
use Rattle.ffa_model.specs.State.{State}
use Rattle.play_trace.specs.TraceText.{begins_run, ends_run, runs_of, run_text, runner_text, show_text}
use Rattle.play_trace.specs.Output.{TookFront}
use Rattle.play_trace.proofs.Fronts.{front_after, front_before}

-- the runs that are left, where one began at `first` and m pages are left from p on
pub pending : State → ℕ → ℕ → ℕ → List (ℕ × ℕ)
pending s first p zero = []
pending s first p (suc k) = zip (first ∷ filter (begins_run s) (range_with_len (p + 1) k)) (filter (ends_run s) (range_with_len p (suc k)))

-- a run begins behind a page that isn't like the next, and no other
begins_behind : (s : State) (p : ℕ) → begins_run s (p + 1) ≡ not (is_alike s p (p + 1))
begins_behind s p =
    let later : (p + 1 == 0) ≡ false = ne_eqb (p + 1) 0 (omega arith) in
    let back : p + 1 - 1 ≡ p = omega arith in
    ap₂ (λ b q. b || not (is_alike s q (p + 1))) later back

ends_before : (s : State) (p k : ℕ) → p + suc (suc k) ≡ length s.pages → ends_run s p ≡ not (is_alike s p (p + 1))
ends_before s p k h =
    let earlier : (p + 1 == length s.pages) ≡ false = ne_eqb (p + 1) (length s.pages) (omega arith) in
    ap (λ b. b || not (is_alike s p (p + 1))) earlier

ends_last : (s : State) (p : ℕ) → p + 1 ≡ length s.pages → ends_run s p ≡ true
ends_last s p h = ap (λ b. b || not (is_alike s p (p + 1))) (eq-eqb (p + 1) (length s.pages) h)

-- one page more in the run
pub run_goes_on : (s : State) (first p k : ℕ) → p + suc k ≡ length s.pages → ends_run s p ≡ false → pending s first p (suc k) ≡ pending s first (p + 1) k
unfolding pending
run_goes_on s first p zero h e = absurd (false≢true (sym e ∙ ends_last s p (omega (arith, h))))
run_goes_on s first p (suc k) h e =
    let inside : begins_run s (p + 1) ≡ false = begins_behind s p ∙ sym (ends_before s p k h) ∙ e in
    ap₂ (λ b d. zip (first ∷ cond b ((p + 1) ∷ filter (begins_run s) (range_with_len (p + 1 + 1) k)) (filter (begins_run s) (range_with_len (p + 1 + 1) k)))
    (cond d (p ∷ filter (ends_run s) (range_with_len (p + 1) (suc k))) (filter (ends_run s) (range_with_len (p + 1) (suc k))))) inside e

-- the run ends
pub run_ends : (s : State) (first p k : ℕ) → p + suc k ≡ length s.pages → ends_run s p ≡ true
    → pending s first p (suc k) ≡ (first, p) ∷ pending s (p + 1) (p + 1) k
unfolding pending
run_ends s first p zero h e = ap (λ d. zip (first ∷ []) (cond d (p ∷ []) [])) e
run_ends s first p (suc k) h e =
    let next : begins_run s (p + 1) ≡ true = begins_behind s p ∙ sym (ends_before s p k h) ∙ e in
    ap₂ (λ b d. zip (first ∷ cond b ((p + 1) ∷ filter (begins_run s) (range_with_len (p + 1 + 1) k)) (filter (begins_run s) (range_with_len (p + 1 + 1) k)))
    (cond d (p ∷ filter (ends_run s) (range_with_len (p + 1) (suc k))) (filter (ends_run s) (range_with_len (p + 1) (suc k))))) next e

pub all_pending : (s : State) (n : ℕ) → zip (filter (begins_run s) (range_with_len 0 n)) (filter (ends_run s) (range_with_len 0 n)) ≡ pending s 0 0 n
unfolding pending
all_pending s zero = refl
all_pending s (suc k) = refl

pub none_pending : (s : State) (first p : ℕ) → pending s first p 0 ≡ []
unfolding pending
none_pending s first p = refl

-- the runner and some runs were written, and the runs from page p on are left, of which one began at `first`
pub record Showing (s : State) (held holds : Option (List ℕ)) (first p : ℕ) : Type 0 where
  pub so_far : List ℕ
  pub whole : show_text s ≡ so_far ++ flat_map (run_text s) (pending s first p (length s.pages - p))
  pub written : Appends held holds so_far

pub runner_written : (s : State) (held holds : Option (List ℕ)) → Appends held holds (runner_text s) → Showing s held holds 0 0
unfolding show_text
runner_written s held holds w = record {
  so_far = runner_text s;
  whole =
      let all : length s.pages ≡ length s.pages - 0 = omega arith in
      ap (λ runs. runner_text s ++ flat_map (run_text s) runs) (all_pending s (length s.pages) ∙ ap (pending s 0 0) all);
  written = w;
}

pub runner_failed : (s : State) (held holds : Option (List ℕ)) → TookFront held holds (runner_text s) → TookFront held holds (show_text s)
unfolding show_text
runner_failed s held holds w = front_before held holds (runner_text s) (flat_map (run_text s) (runs_of s)) w

module _ (s : State) (held holds : Option (List ℕ)) (first p : ℕ) (inside : p < length s.pages) (r : Showing s held holds first p) where
  behind : ℕ
  behind = length s.pages - (p + 1)

  counted : p + suc behind ≡ length s.pages
  unfolding behind
  counted = omega arith

  one_more : length s.pages - p ≡ suc behind
  unfolding behind
  one_more = omega arith

  pub no_run : ends_run s p ≡ false → Showing s held holds first (p + 1)
  unfolding behind
  no_run e = record {
    so_far = r.so_far;
    whole = r.whole ∙ ap (λ runs. r.so_far ++ flat_map (run_text s) runs) (ap (pending s first p) one_more ∙ run_goes_on s first p behind counted e);
    written = r.written;
  }

  split : ends_run s p ≡ true → show_text s ≡ (r.so_far ++ run_text s (first, p)) ++ flat_map (run_text s) (pending s (p + 1) (p + 1) (length s.pages - (p + 1)))
  unfolding behind
  split e =
      r.whole ∙ ap (λ runs. r.so_far ++ flat_map (run_text s) runs) (ap (pending s first p) one_more ∙ run_ends s first p behind counted e)
      ∙ sym (append_assoc r.so_far (run_text s (first, p)) (flat_map (run_text s) (pending s (p + 1) (p + 1) behind)))

  pub run_written : (then : Option (List ℕ)) → ends_run s p ≡ true → Appends holds then (run_text s (first, p)) → Showing s held then (p + 1) (p + 1)
  run_written then e w = record {
    so_far = r.so_far ++ run_text s (first, p);
    whole = split e;
    written = Appends-trans held holds then r.so_far (run_text s (first, p)) r.written w;
  }

  pub run_failed : (then : Option (List ℕ)) → ends_run s p ≡ true → TookFront holds then (run_text s (first, p)) → TookFront held then (show_text s)
  run_failed then e w =
      subst (TookFront held then) (sym (split e))
      (front_before held then (r.so_far ++ run_text s (first, p)) _ (front_after held holds then r.so_far (run_text s (first, p)) r.written w))

pub all_shown : (s : State) (held holds : Option (List ℕ)) (first p : ℕ) → length s.pages ≤ p → Showing s held holds first p → Appends held holds (show_text s)
all_shown s held holds first p h r =
    let none : length s.pages - p ≡ 0 = omega (arith, h) in
    subst (Appends held holds)
    (sym (r.whole ∙ ap (λ k. r.so_far ++ flat_map (run_text s) (pending s first p k)) none ∙ ap (λ runs. r.so_far ++ flat_map (run_text s) runs) (none_pending s first p) ∙ append-nil r.so_far))
    r.written
