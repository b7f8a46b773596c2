-- SPDX-License-Identifier: MIT OR Apache-2.0
-- Runs of lines, one after another.
use Rattle.std.proofs.Common.{◌≡◌, ℕ, List, [], ◌∷◌, ◌++◌, Option, true, sym, ap, ◌∙◌, subst, append_assoc, append-nil, refl}
use Rattle.std.specs.Io.KnownBytes.{Appends, Keeps}
use Rattle.std.proofs.KnownBytes.{Appends-nil, Appends-trans, Appends-kept}
use Rattle.std.proofs.lemmas.List.Folds.{list_all-append}
use Rattle.ffa_playable.specs.Bench.{Bench, processors_of}
use Rattle.play_trace.specs.TraceLines.{feed, joined, is_line, are_lines, has_no_feed, is_good}
use Rattle.play_trace.specs.TraceText.{text, text_of, after, after_all}
use Rattle.play_trace.proofs.Benches.{processors-after-all}
use Rattle.play_player.specs.Played.{Did, DidAndBegan}

pub joined-append : (ls ms : List (List ℕ)) → joined (ls ++ ms) ≡ joined ls ++ joined ms
joined-append [] ms = refl
joined-append (l ∷ ls) ms = ap (λ x. l ++ feed ∷ x) (joined-append ls ms) ∙ sym (append_assoc l (feed ∷ joined ls) (joined ms))

after_all-append : (s : Bench) (ls ms : List (List ℕ)) → after_all s (ls ++ ms) ≡ after_all (after_all s ls) ms
after_all-append s [] ms = refl
after_all-append s (l ∷ ls) ms = after_all-append (after s l) ls ms

text-append : (s : Bench) (ls ms : List (List ℕ)) → text s (ls ++ ms) ≡ text s ls ++ text (after_all s ls) ms
text-append s [] ms = refl
text-append s (l ∷ ls) ms =
    ap (λ x. text_of s l ++ x) (text-append (after s l) ls ms) ∙ sym (append_assoc (text_of s l) (text (after s l) ls) (text (after_all (after s l) ls) ms))

are_lines-append : (processors : Option ℕ) (ls ms : List (List ℕ)) → are_lines processors ls ≡ true → are_lines processors ms ≡ true
    → are_lines processors (ls ++ ms) ≡ true
are_lines-append processors ls ms p q = list_all-append (is_line processors) ls ms ∙ rw (p, q) refl

pub did_none : (s : Bench) (a : Option (List ℕ)) → Did s s a a []
did_none s a = record { each = refl; state = refl; written = Appends-nil a }

-- a trace may name as many processors behind lines as before them
pub did_processors : {s m : Bench} {a b : Option (List ℕ)} {ls : List (List ℕ)} → Did s m a b ls → processors_of m ≡ processors_of s
did_processors {s} {m} {a} {b} {ls} p = ap processors_of p.state ∙ processors-after-all s ls

module _ {s m n : Bench} {a b c : Option (List ℕ)} {ls ms : List (List ℕ)} where
  pub did_more : Did s m a b ls → Did m n b c ms → Did s n a c (ls ++ ms)
  did_more p q = record {
    each = are_lines-append (processors_of s) ls ms p.each (ap (λ count. are_lines count ms) (sym (did_processors p)) ∙ q.each);
    state = q.state ∙ ap (λ x. after_all x ms) p.state ∙ sym (after_all-append s ls ms);
    written = subst (Appends a c) (ap (λ x. text s ls ++ text x ms) p.state ∙ sym (text-append s ls ms)) (Appends-trans a b c _ _ p.written q.written);
  }

-- lines were done before
pub began_more : (s m n : Bench) (a b c : Option (List ℕ)) (ls ms : List (List ℕ)) (line : List ℕ)
    → Did s m a b ls → DidAndBegan m n b c ms line → DidAndBegan s n a c (ls ++ ms) line
began_more s m n a b c ls ms line p q = record {
  state_between = q.state_between;
  written_between = q.written_between;
  did = did_more p q.did;
  whole = q.whole;
  began = q.began;
}

pub did_one : (s n : Bench) (a b : Option (List ℕ)) (l : List ℕ) → has_no_feed l ≡ true → is_good (processors_of s) l ≡ true → n ≡ after s l → Appends a b (text_of s l)
    → Did s n a b (l ∷ [])
did_one s n a b l f g e w = record {
  each = rw (f, g) refl;
  state = e;
  written = subst (Appends a b) (sym (append-nil (text_of s l))) w;
}

-- nothing was done since
pub did_kept : (s m n : Bench) (a b c : Option (List ℕ)) (ls : List (List ℕ)) → Did s m a b ls → n ≡ m → Keeps b c → Did s n a c ls
did_kept s m n a b c ls p e k = record { each = p.each; state = e ∙ p.state; written = Appends-kept a b c _ p.written k }
