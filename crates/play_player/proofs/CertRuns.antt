-- SPDX-License-Identifier: MIT OR Apache-2.0
-- The certificate: its runs, one behind the other, and what is known once its text was written, or could not be.
use Rattle.std.proofs.Common.{◌≡◌, ◌∙◌, ℕ, zero, suc, ◌+◌, ◌-◌, ◌<◌, ◌≤◌, List, [], ◌∷◌, ◌++◌, length, take, drop, get_or, codes, Option, Result, Ok, Err, refl, sym, ap, subst, arith, append_assoc, append-nil, take-append-drop}
use Rattle.std.specs.Prelude.{if◌then◌else◌}
use Rattle.std.specs.List.{flat_map, range_with_len}
use Rattle.std.specs.Io.KnownBytes.{Appends}
use Rattle.std.proofs.KnownBytes.{Appends-trans}
use Rattle.std.proofs.Math.Seq.{drop-cons}
use Rattle.std.proofs.lemmas.Bool.{le-ltb, lt-ltb}
use Rattle.std.proofs.lemmas.Grind.{flat_map-append}
use Rattle.ffa_model.specs.declared.certificate.CertRun.{CertRun}
use Rattle.ffa_model.specs.Certificate.{certificate, run_from, runs_from}
use Rattle.ffa_model.specs.State.{State}
use Rattle.play_trace.specs.TraceText.{audit_text, cert_run_text, cert_text, ended, root_text}
use Rattle.play_trace.specs.Output.{TookFront, Writes}
use Rattle.play_trace.specs.declared.output.PlayError.{PlayError}
use Rattle.play_trace.specs.declared.output.PlayError.TheVariants.{Read, Write, NoMemory, BadLine}
use Rattle.play_trace.proofs.Fronts.{front_after, front_before}

-- LISTS

-- what a function makes of a list, about one place of it
pub parts_at : {X A : Type 0} (part : X → List A) (xs : List X) (i : ℕ) (d : X) → i < length xs
    → flat_map part xs ≡ (flat_map part (take i xs) ++ part (get_or xs i d)) ++ flat_map part (drop (suc i) xs)
parts_at part xs i d lt =
    ap (flat_map part) (sym (take-append-drop i xs)) ∙ flat_map-append part (take i xs) (drop i xs)
    ∙ ap (λ ys. flat_map part (take i xs) ++ flat_map part ys) (drop-cons xs i d lt)
    ∙ sym (append_assoc (flat_map part (take i xs)) (part (get_or xs i d)) (flat_map part (drop (suc i) xs)))

range-more : (a n : ℕ) → range_with_len a (n + 1) ≡ range_with_len a n ++ (a + n) ∷ []
range-more a zero = let same : a ≡ a + 0 = omega arith in ap (λ b. b ∷ []) same
range-more a (suc n) =
    let next : suc n + 1 ≡ suc (n + 1) = omega arith in
    let same : a + 1 + n ≡ a + suc n = omega arith in
    ap (range_with_len a) next ∙ ap (λ ys. a ∷ ys) (range-more (a + 1) n ∙ ap (λ b. range_with_len (a + 1) n ++ b ∷ []) same)

-- one number more
pub range_parts : {A : Type 0} (part : ℕ → List A) (n : ℕ) → flat_map part (range_with_len 0 (n + 1)) ≡ flat_map part (range_with_len 0 n) ++ part n
range_parts part n =
    let same : 0 + n ≡ n = omega arith in
    ap (flat_map part) (range-more 0 n ∙ ap (λ b. range_with_len 0 n ++ b ∷ []) same) ∙ flat_map-append part (range_with_len 0 n) (n ∷ [])
    ∙ ap (λ l. flat_map part (range_with_len 0 n) ++ l) (append-nil (part n))

-- RUNS

module _ (s : State) where
  pub runs_begin : certificate s ≡ runs_from s 0 (length s.pages)
  unfolding certificate
  runs_begin = refl

  -- one run more, behind k others
  pub runs_on : (p k : ℕ) → p < length s.pages → k ≤ p → runs_from s p (length s.pages - k) ≡ run_from s p ∷ runs_from s ((run_from s p).last.0 + 1) (length s.pages - (k + 1))
  runs_on p k lt le =
      let more : length s.pages - k ≡ suc (length s.pages - (k + 1)) = omega arith in
      ap (runs_from s p) more
      ∙ ap (λ b. if b then run_from s p ∷ runs_from s ((run_from s p).last.0 + 1) (length s.pages - (k + 1)) else []) (lt-ltb p (length s.pages) lt)

  pub runs_over : (p n : ℕ) → length s.pages ≤ p → runs_from s p n ≡ []
  runs_over p zero past = refl
  runs_over p (suc n) past = ap (λ b. if b then run_from s p ∷ runs_from s ((run_from s p).last.0 + 1) n else []) (le-ltb p (length s.pages) past)

  -- TEXT

  abbrev pub head : List ℕ
  head = cert_text s ++ flat_map (root_text s) (range_with_len 0 (length s.parties))

  abbrev runs_text : List ℕ
  runs_text = flat_map (cert_run_text s) (certificate s)

  module _ (held holds : Option (List ℕ)) (text : List ℕ) (is : text ≡ head) where
    pub head_failed : TookFront held holds text → TookFront held holds (audit_text s)
    unfolding audit_text
    head_failed w =
        front_before held holds (head ++ runs_text) (ended (codes "agrees"))
        (front_before held holds head runs_text (subst (TookFront held holds) is w))

    module _ (after : Option (List ℕ)) (written : Appends held holds text) (runs : List CertRun) (those : runs ≡ certificate s) where
      pub runs_failed : TookFront holds after (flat_map (cert_run_text s) runs) → TookFront held after (audit_text s)
      unfolding audit_text
      runs_failed w =
          front_before held after (head ++ runs_text) (ended (codes "agrees"))
          (front_after held holds after head runs_text (subst (Appends held holds) is written)
          (subst (λ (rs : List CertRun). TookFront holds after (flat_map (cert_run_text s) rs)) those w))

      -- all but the last line was written
      so_far : Appends holds after (flat_map (cert_run_text s) runs) → Appends held after (head ++ runs_text)
      so_far w =
          Appends-trans held holds after head runs_text (subst (Appends held holds) is written)
          (subst (λ (rs : List CertRun). Appends holds after (flat_map (cert_run_text s) rs)) those w)

      pub verdict_left : (last : Option (List ℕ)) (line : List ℕ) (r : Result (Unit {0}) PlayError) → Appends holds after (flat_map (cert_run_text s) runs) → line ≡ ended (codes "agrees") → Writes after last line r → Writes held last (audit_text s) r
      unfolding audit_text
      verdict_left last line (Ok x) w agrees v = Appends-trans held after last (head ++ runs_text) (ended (codes "agrees")) (so_far w) (subst (Appends after last) agrees v)
      verdict_left last line (Err Read) w agrees v = absurd v
      verdict_left last line (Err Write) w agrees v = front_after held after last (head ++ runs_text) (ended (codes "agrees")) (so_far w) (subst (TookFront after last) agrees v)
      verdict_left last line (Err NoMemory) w agrees v = absurd v
      verdict_left last line (Err (BadLine n)) w agrees v = absurd v
