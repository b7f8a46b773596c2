-- SPDX-License-Identifier: MIT OR Apache-2.0
-- A line of a constant size, into which words are put one after another.
use Rattle.std.proofs.Common.{◌≡◌, ℕ, ◌+◌, ◌<◌, ◌≤◌, List, ◌++◌, length, take, drop, get_or, sym, ap, ◌∙◌, arith, length-append, length-take-le, take-append-drop, flat_map}
use Rattle.std.proofs.Math.Seq.{take-append_seam}
use Rattle.std.proofs.lemmas.List.{take_more, flat_map_more}
use Rattle.std.proofs.lemmas.Slice.{drop-append-drop}

module _ (old word new : List ℕ) (place size : ℕ) (inside : place ≤ length old) (sized : length word ≡ size) (put : new ≡ take place old ++ word ++ drop (place + size) old) where
  front_long : length (take place old ++ word) ≡ place + size
  front_long = omega (arith, length-append (take place old) word, length-take-le place old inside)

  -- the line up to the word's end, and behind it
  front_put : take (place + size) new ≡ take place old ++ word
  front_put = ap (take (place + size)) put ∙ ap (λ k. take k ((take place old ++ word) ++ drop (place + size) old)) (sym front_long) ∙ take-append_seam (take place old ++ word) (drop (place + size) old)

  pub behind_put : (n : ℕ) → place + size ≤ n → drop n new ≡ drop n old
  behind_put n far = ap (drop n) put ∙ drop-append-drop (place + size) old (take place old ++ word) n far front_long

  -- one more of the words that a list's elements give
  pub one_more_put : (f : ℕ → List ℕ) (head xs : List ℕ) (i : ℕ) → i < length xs → word ≡ f (get_or xs i 0) → take place old ≡ head ++ flat_map f (take i xs)
      → take (place + size) new ≡ head ++ flat_map f (take (i + 1) xs)
  one_more_put f head xs i h is so_far =
      front_put ∙ ap (λ l. l ++ word) so_far ∙ ap (λ w. (head ++ flat_map f (take i xs)) ++ w) is ∙ flat_map_more f head (take i xs) (get_or xs i 0)
      ∙ ap (λ l. head ++ flat_map f l) (sym (take_more xs i 0 h))

-- a line is its front and its end
pub whole_line : (line front end : List ℕ) (n : ℕ) → take n line ≡ front → drop n line ≡ end → line ≡ front ++ end
whole_line line front end n p q = sym (take-append-drop n line) ∙ ap (λ l. l ++ drop n line) p ∙ ap (λ l. front ++ l) q
