-- SPDX-License-Identifier: MIT OR Apache-2.0
-- A play, block by block.
use Rattle.std.proofs.Common.{◌≡◌, inl, inr, ℕ, List, [], ◌∷◌, ◌++◌, ◌<◌, ◌≤◌, length, take, Option, Ok, Err, sym, ap, ◌∙◌, subst, arith, append_assoc, append-nil, length-append, refl}
use Rattle.std.specs.Io.KnownBytes.{Consumes, IsAtEnd}
use Rattle.std.proofs.KnownBytes.{Consumes-nil, Consumes-trans}
use Rattle.std.proofs.lemmas.List.{nil_from_length}
use Rattle.ffa_playable.specs.Bench.{Bench}
use Rattle.play_trace.specs.TraceLines.{feed, joined, is_good}
use Rattle.play_player.specs.Feeding.{Feeding, StopsIn}
use Rattle.play_player.specs.Played.{Played}
use Rattle.play_trace.specs.declared.output.PlayError.{PlayError}
use Rattle.play_trace.specs.declared.output.PlayError.TheVariants.{Read, Write, NoMemory, BadLine}
use Rattle.play_player.proofs.Runs.{joined-append, did_none, did_more, did_processors, began_more}

-- the lines before, and then these bytes
lines_more : (ls ms : List (List ℕ)) (seen line chunk rest : List ℕ) → seen ≡ joined ls ++ line → line ++ chunk ≡ joined ms ++ rest → seen ++ chunk ≡ joined (ls ++ ms) ++ rest
lines_more ls ms seen line chunk rest p q =
    ap (λ x. x ++ chunk) p ∙ append_assoc (joined ls) line chunk ∙ ap (λ x. joined ls ++ x) q ∙ sym (append_assoc (joined ls) (joined ms) rest) ∙ ap (λ x. x ++ rest) (sym (joined-append ls ms))

-- what a play has read and done so far
pub record Playing (start now : Bench) (held holds had has : Option (List ℕ)) (number : ℕ) (begun : List ℕ) : Type 0 where
  pub seen : List ℕ
  pub read : Consumes had has seen
  pub fed : Feeding start now held holds 1 number seen begun

pub playing_none : (s : Bench) (held had : Option (List ℕ)) → Playing s s held held had had 1 []
playing_none s held had = record {
  seen = [];
  read = Consumes-nil had;
  fed = record { lines = []; did = did_none s held; whole = refl; unended = refl; counted = omega arith; numbered = (omega arith, λ some. omega arith) };
}

module _ (s m : Bench) (a b had has : Option (List ℕ)) (number : ℕ) (begun : List ℕ) (p : Playing s m a b had has number begun) where
  -- a block more
  pub block_more : (n : Bench) (c then : Option (List ℕ)) (next : ℕ) (block left : List ℕ) → Consumes has then block → Feeding m n b c number next (begun ++ block) left
      → Playing s n a c had then next left
  block_more n c then next block left read q = record {
    seen = p.seen ++ block;
    read = Consumes-trans had has then p.seen block p.read read;
    fed = record {
      lines = p.fed.lines ++ q.lines;
      did = did_more p.fed.did q.did;
      whole = lines_more p.fed.lines q.lines p.seen begun block left p.fed.whole q.whole;
      unended = q.unended;
      counted = omega (arith, p.fed.counted, q.counted, length-append p.fed.lines q.lines);
      numbered = q.numbered;
    };
  }

  -- a block that failed
  pub block_failed : (n : Bench) (c : Option (List ℕ)) (e : PlayError) (then : Option (List ℕ)) (block : List ℕ) → Consumes has then block
      → StopsIn m n b c number (begun ++ block) e → Played {X = Unit {0}} s n a c had then (Err e)
  block_failed n c Read then block read (ms, more, did, whole, full, some) = (
    p.fed.lines ++ ms,
    more,
    did_more p.fed.did did,
    subst (Consumes had then) (lines_more p.fed.lines ms p.seen begun block more p.fed.whole whole) (Consumes-trans had has then p.seen block p.read read),
    omega (arith, p.fed.counted, full, length-append p.fed.lines ms),
    inr (omega (arith, p.fed.counted, full, length-append p.fed.lines ms), some),
  )
  block_failed n c Write then block read (ms, line, more, did, whole, can) = (
    p.fed.lines ++ ms,
    line,
    more,
    began_more s m n a b c p.fed.lines ms line p.fed.did did,
    subst (Consumes had then) (lines_more p.fed.lines ms p.seen begun block (line ++ feed ∷ more) p.fed.whole whole) (Consumes-trans had has then p.seen block p.read read),
    omega (arith, p.fed.counted, can, length-append p.fed.lines ms),
  )
  block_failed n c NoMemory then block read (ms, more, did, whole, can, some) = (
    p.fed.lines ++ ms,
    more,
    did_more p.fed.did did,
    subst (Consumes had then) (lines_more p.fed.lines ms p.seen begun block more p.fed.whole whole) (Consumes-trans had has then p.seen block p.read read),
    omega (arith, p.fed.counted, can, length-append p.fed.lines ms),
    some,
  )
  block_failed n c (BadLine k) then block read (ms, bad, more, did, whole, place, can, free, wrong) = (
    p.fed.lines ++ ms,
    bad,
    feed ∷ more,
    did_more p.fed.did did,
    subst (Consumes had then) (lines_more p.fed.lines ms p.seen begun block (bad ++ feed ∷ more) p.fed.whole whole) (Consumes-trans had has then p.seen block p.read read),
    omega (arith, p.fed.counted, place, length-append p.fed.lines ms),
    can,
    free,
    inl ((more, refl), ap (λ count. is_good count bad) (sym (did_processors p.fed.did)) ∙ wrong),
  )

  -- a read gave nothing, and no line has begun
  pub all_played : (then : Option (List ℕ)) (count : ℕ) (block : List ℕ) → count ≡ 0 → Consumes has then (take count block) → (count ≡ 0 → 0 < length block → IsAtEnd then)
      → 0 < length block → length begun ≡ 0 → Played {X = Unit {0}} s m a b had then (Ok tt)
  all_played then count block zero read end room none =
      let whole : p.seen ++ [] ≡ joined p.fed.lines =
      append-nil p.seen ∙ p.fed.whole ∙ ap (λ l. joined p.fed.lines ++ l) (nil_from_length begun none) ∙ append-nil (joined p.fed.lines) in
      let nothing : Consumes has then [] = subst (λ n. Consumes has then (take n block)) zero read in
      (p.fed.lines, p.fed.did, subst (Consumes had then) whole (Consumes-trans had has then p.seen [] p.read nothing), end zero room, omega (arith, p.fed.numbered.0, p.fed.counted))

  -- a read gave nothing, and a line has begun
  pub cut_short : (then : Option (List ℕ)) (count : ℕ) (block : List ℕ) → count ≡ 0 → Consumes has then (take count block) → (count ≡ 0 → 0 < length block → IsAtEnd then)
      → 0 < length block → 1 ≤ length begun → Played {X = Unit {0}} s m a b had then (Err (BadLine number))
  cut_short then count block zero read end room some =
      let whole : p.seen ++ [] ≡ joined p.fed.lines ++ (begun ++ []) =
      append-nil p.seen ∙ p.fed.whole ∙ ap (λ l. joined p.fed.lines ++ l) (sym (append-nil begun)) in
      let nothing : Consumes has then [] = subst (λ n. Consumes has then (take n block)) zero read in (
        p.fed.lines,
        begun,
        [],
        p.fed.did,
        subst (Consumes had then) whole (Consumes-trans had has then p.seen [] p.read nothing),
        p.fed.counted,
        p.fed.numbered.1 some,
        p.fed.unended,
        inr (refl, some, end zero room),
      )
