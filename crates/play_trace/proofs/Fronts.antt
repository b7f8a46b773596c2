-- SPDX-License-Identifier: MIT OR Apache-2.0
-- A beginning of a text, piece by piece.
use Rattle.std.proofs.Common.{◌≡◌, ℕ, ◌-◌, List, ◌++◌, length, take, drop, Option, Result, Ok, Err, sym, ap, ◌∙◌, subst, append_assoc, arith, length-append, take-append-drop}
use Rattle.std.proofs.lemmas.List.{take_rest}
use Rattle.std.specs.Io.KnownBytes.{Appends}
use Rattle.std.proofs.KnownBytes.{Appends-trans}
use Rattle.play_trace.specs.Output.{TookFront, Writes}
use Rattle.play_trace.specs.declared.output.PlayError.{PlayError}
use Rattle.play_trace.specs.declared.output.PlayError.TheVariants.{Write}

-- the first piece is whole, and a beginning of the second stands
pub front_after : (a b c : Option (List ℕ)) (xs ys : List ℕ) → Appends a b xs → TookFront b c ys → TookFront a c (xs ++ ys)
front_after a b c xs ys p q = record {
  front = xs ++ q.front;
  rest = q.rest;
  whole = ap (λ l. xs ++ l) q.whole ∙ sym (append_assoc xs q.front q.rest);
  more = q.more;
  written = Appends-trans a b c xs q.front p q.written;
}

-- more text follows
pub front_before : (a b : Option (List ℕ)) (xs ys : List ℕ) → TookFront a b xs → TookFront a b (xs ++ ys)
front_before a b xs ys p = record {
  front = p.front;
  rest = p.rest ++ ys;
  whole = ap (λ l. l ++ ys) p.whole ∙ append_assoc p.front p.rest ys;
  more = omega (arith, p.more, length-append p.rest ys);
  written = p.written;
}

-- a write that failed, said of a longer text
pub writes_failed : (e : PlayError) (a b c : Option (List ℕ)) (xs ys : List ℕ) → Writes {X = Unit {0}} b c xs (Err e)
    → (TookFront b c xs → TookFront a c ys) → Writes {X = Unit {0}} a c ys (Err e)
writes_failed Write a b c xs ys w more = more w
writes_failed _ a b c xs ys w more = absurd w

whole : (text : List ℕ) (n : ℕ) → take n text ++ take (length text - n) (drop n text) ≡ text
whole text n = ap (λ l. take n text ++ l) (take_rest text n) ∙ take-append-drop n text

-- a text whose front was written, and the rest of it
pub writes_on : {X : Type 0} (a b c : Option (List ℕ)) (text : List ℕ) (n : ℕ) (r : Result X PlayError) → Appends a b (take n text)
    → Writes b c (take (length text - n) (drop n text)) r → Writes a c text r
writes_on a b c text n (Ok x) p w = subst (Appends a c) (whole text n) (Appends-trans a b c (take n text) _ p w)
writes_on a b c text n (Err Write) p w = subst (TookFront a c) (whole text n) (front_after a b c (take n text) _ p w)
writes_on a b c text n _ p w = absurd w
