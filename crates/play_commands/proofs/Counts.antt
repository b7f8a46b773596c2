-- SPDX-License-Identifier: MIT OR Apache-2.0
-- Guards that are counted line by line.
use Rattle.std.proofs.Common.{◌≡◌, ◌+◌, ◌≤◌, ℕ, Bool, true, Result, Ok, List, [], ◌∷◌, ◌++◌, length, Option, sym, ap, ◌∙◌, subst, refl, arith, length-append, filter}
use Rattle.std.specs.List.{list_all}
use Rattle.std.specs.Io.KnownBytes.{Consumes}
use Rattle.std.proofs.KnownBytes.{Consumes-trans}
use Rattle.std.proofs.lemmas.List.Elements.{filter-append}
use Rattle.std.proofs.lemmas.List.Folds.{list_all-append}
use Rattle.play_trace.specs.TraceLines.{feed, has_no_feed, joined}
use Rattle.play_player.proofs.Runs.{joined-append}
use Rattle.play_player.specs.Guards.{guards_among, is_guard}
use Rattle.play_trace.specs.declared.output.PlayError.{PlayError}
use Rattle.play_player.specs.Reading.{ReadsLine}
use Rattle.play_player.proofs.BadLines.{line_read}
use Rattle.play_player.proofs.Guarding.{few_guards}

-- what was read are lines, of which so many are guards, and the next one has this number
pub record Counted (had has : Option (List ℕ)) (number guards : ℕ) : Type 0 where
  pub lines : List (List ℕ)
  pub read : Consumes had has (joined lines)
  pub each : list_all has_no_feed lines ≡ true
  pub next : number ≡ 1 + length lines
  pub count : guards ≡ guards_among lines

-- a line more
pub counted_more : (had has then : Option (List ℕ)) (number guards more : ℕ) (line : List ℕ) → Counted had has number guards
    → Consumes has then (line ++ feed ∷ []) → has_no_feed line ≡ true → more ≡ guards_among (line ∷ []) → Counted had then (number + 1) (guards + more)
counted_more had has then number guards more line so read single is = record {
  lines = so.lines ++ line ∷ [];
  read = subst (Consumes had then) (sym (joined-append so.lines (line ∷ []))) (Consumes-trans had has then (joined so.lines) (line ++ feed ∷ []) so.read read);
  each = list_all-append has_no_feed so.lines (line ∷ []) ∙ rw (so.each, single) refl;
  next = omega (arith, so.next, length-append so.lines (line ∷ []));
  count =
      let parts = ap length (filter-append is_guard so.lines (line ∷ [])) ∙ length-append (filter is_guard so.lines) (filter is_guard (line ∷ [])) in
      ap (λ n. n + more) so.count ∙ ap (λ n. guards_among so.lines + n) is ∙ sym parts;
}

-- a line that was read whole
pub counted_line : (had has then : Option (List ℕ)) (number guards more : ℕ) (line : List ℕ) (b : Bool) (r : Result Bool PlayError) → Counted had has number guards
    → ReadsLine has then line number r → r ≡ Ok b → b ≡ true → more ≡ guards_among (line ∷ []) → Counted had then (number + 1) (guards + more)
counted_line had has then number guards more line b r so read was is count =
    let told = line_read has then line number b is (subst (ReadsLine has then line number) was read) in
    counted_more had has then number guards more line so told.0 told.1 count

-- there are no more guards than lines
pub fewer : (had has : Option (List ℕ)) (number guards : ℕ) → Counted had has number guards → guards + 1 ≤ number
fewer had has number guards so = let few = few_guards so.lines in omega (arith, few, so.next, so.count)
