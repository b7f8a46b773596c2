-- SPDX-License-Identifier: MIT OR Apache-2.0
-- Texts that grow by lines, and what is written of them.
use Rattle.std.proofs.Common.{◌≡◌, ◌≤◌, ◌<◌, ◌+◌, ◌-◌, ℕ, true, List, [], ◌∷◌, ◌++◌, length, take, drop, map, get_or, codes, Option, None, Some, Result, Ok, Err, sym, ap, ◌∙◌, refl, subst, arith, append_assoc, append-nil, length-append, take-append-drop, OnOk, if◌then◌else◌, is_ok}
use Rattle.std.specs.Io.KnownBytes.{Appends}
use Rattle.std.proofs.KnownBytes.{Appends-nil, Appends-trans}
use Rattle.std.proofs.lemmas.List.{length-map, map-append, map_more, take_rest}
use Rattle.std.proofs.lemmas.List.Folds.{list_all-append}
use Rattle.ffa_model.specs.declared.operation.Op.{Op}
use Rattle.play_trace.specs.TraceLines.{Line, operate, show, audit, skip, feed, has_no_feed, is_line, joined, line_of, command_of, words_of, show_of, audit_of}
use Rattle.play_trace.specs.TraceText.{ended}
use Rattle.play_trace.proofs.LineActs.{line_alone}
use Rattle.play_trace.specs.Script.{GrowsBy}
use Rattle.play_generator.proofs.Comments.{attempt_read, attempt_single}
use Rattle.play_generator.specs.Attempts.{attempt_text}
use Rattle.play_generator.specs.declared.attempts.Attempt.{Attempt}
use Rattle.play_generator.specs.declared.entries.TraceEntry.{TraceEntry}
use Rattle.play_generator.specs.Traces.{Wrote}
use Rattle.play_generator.specs.Turned.{GrowsByLines, meant}

-- TEXTS

joined-append : (lines more : List (List ℕ)) → joined (lines ++ more) ≡ joined lines ++ joined more
joined-append [] more = refl
joined-append (l ∷ lines) more = ap (λ t. l ++ feed ∷ t) (joined-append lines more) ∙ sym (append_assoc l (feed ∷ joined lines) (joined more))

pub grows_none : (old : List ℕ) → GrowsByLines [] old old
grows_none old = record { lines = []; good = refl; read = refl; grown = sym (append-nil old) }

-- one line, by itself
pub grows_line : (old new line : List ℕ) (said : Line) → has_no_feed line ≡ true → line_of line ≡ Some said → new ≡ old ++ ended line → GrowsByLines (said ∷ []) old new
grows_line old new line said single read grown = record {
  lines = line ∷ [];
  good = rw (single, ← line_alone line, read) refl;
  read = ap (λ l. l ∷ []) read;
  grown = grown;
}

-- more lines
pub grows_more : (first more : List Line) (old mid new : List ℕ) → GrowsByLines first old mid → GrowsByLines more mid new → GrowsByLines (first ++ more) old new
grows_more first more old mid new g h = record {
  lines = g.lines ++ h.lines;
  good = list_all-append (is_line None) g.lines h.lines ∙ rw (g.good, h.good) refl;
  read = map-append line_of g.lines h.lines ∙ rw (g.read, h.read) (sym (map-append (λ line. Some line) first more));
  grown =
      h.grown ∙ ap (λ t. t ++ joined h.lines) g.grown ∙ append_assoc old (joined g.lines) (joined h.lines)
      ∙ ap (λ t. old ++ t) (sym (joined-append g.lines h.lines));
}

-- the line of one more entry
pub grows_entry : (entries : List TraceEntry) (count : ℕ) (d : TraceEntry) (old mid new : List ℕ) → count < length entries → GrowsByLines (map meant (take count entries)) old mid
    → GrowsByLines (meant (get_or entries count d) ∷ []) mid new → GrowsByLines (map meant (take (count + 1) entries)) old new
grows_entry entries count d old mid new inside g h =
    subst (λ said. GrowsByLines said old new) (sym (map_more meant entries count d inside)) (grows_more _ _ old mid new g h)

-- LINES

pub grown_operation : {E : Type 0} (r : Result (Unit {0}) E) (old new : List ℕ) (op : Op) → OnOk r (GrowsBy op old new) → OnOk r (GrowsByLines (operate op ∷ []) old new)
grown_operation (Ok x) old new op (line, grown, is) = grows_line old new line (operate op) is.single is.read grown
grown_operation (Err e) old new op h = tt

grown_line : {E : Type 0} (r : Result (Unit {0}) E) (old new line : List ℕ) (said : Line) → has_no_feed line ≡ true → line_of line ≡ Some said
    → new ≡ (if is_ok r then old ++ ended line else old) → OnOk r (GrowsByLines (said ∷ []) old new)
grown_line (Ok x) old new line said single read h = grows_line old new line said single read h
grown_line (Err e) old new line said single read h = tt

show_read : line_of (codes "show") ≡ Some show
unfolding line_of command_of words_of show_of
show_read = refl

audit_read : line_of (codes "audit") ≡ Some audit
unfolding line_of command_of words_of audit_of
audit_read = refl

nothing_read : line_of (codes "# nothing") ≡ Some skip
unfolding line_of
nothing_read = refl

pub grown_show : {E : Type 0} (r : Result (Unit {0}) E) (old new : List ℕ) → new ≡ (if is_ok r then old ++ codes "show\n" else old) → OnOk r (GrowsByLines (show ∷ []) old new)
grown_show r old new h = grown_line r old new (codes "show") show refl show_read h

pub grown_audit : {E : Type 0} (r : Result (Unit {0}) E) (old new : List ℕ) → new ≡ (if is_ok r then old ++ codes "audit\n" else old) → OnOk r (GrowsByLines (audit ∷ []) old new)
grown_audit r old new h = grown_line r old new (codes "audit") audit refl audit_read h

pub grown_attempt : {E : Type 0} (r : Result (Unit {0}) E) (old new : List ℕ) (attempt : Attempt)
    → OnOk r (new ≡ old ++ ended (attempt_text attempt)) → OnOk r (GrowsByLines (skip ∷ []) old new)
grown_attempt (Ok x) old new attempt h = grows_line old new (attempt_text attempt) skip (attempt_single attempt) (attempt_read attempt) h
grown_attempt (Err e) old new attempt h = tt

pub grown_nothing : (old new : List ℕ) → new ≡ old ++ codes "# nothing\n" → GrowsByLines (skip ∷ []) old new
grown_nothing old new h = grows_line old new (codes "# nothing") skip refl nothing_read h

-- WHAT IS WRITTEN

-- the lines of a text are written
pub wrote_text : (count : ℕ) (meanings : List Line) (held holds : Option (List ℕ)) (text : List ℕ) → length meanings ≡ count → GrowsByLines meanings [] text → Appends held holds text
    → Wrote count held holds
wrote_text count meanings held holds text all g a = record {
  lines = g.lines;
  good = g.good;
  number = sym (length-map g.lines line_of) ∙ ap length g.read ∙ length-map meanings (λ line. Some line) ∙ all;
  written = subst (Appends held holds) g.grown a;
}

pub wrote_first : (lines : ℕ) (held : Option (List ℕ)) → Wrote (lines - lines) held held
wrote_first lines held = record { lines = []; good = refl; number = omega arith; written = Appends-nil held }

-- more lines, of those that are left
pub wrote_next : (lines left count : ℕ) (held mid holds : Option (List ℕ)) → left ≤ lines → count ≤ left → Wrote (lines - left) held mid → Wrote count mid holds
    → Wrote (lines - (left - count)) held holds
wrote_next lines left count held mid holds some few w v = record {
  lines = w.lines ++ v.lines;
  good = list_all-append (is_line None) w.lines v.lines ∙ rw (w.good, v.good) refl;
  number = omega (arith, some, few, length-append w.lines v.lines, w.number, v.number);
  written =
      subst (Appends held holds) (sym (joined-append w.lines v.lines)) (Appends-trans held mid holds (joined w.lines) (joined v.lines) w.written v.written);
}

-- what is left of the text is written next
pub moves_front : (all done rest : List ℕ) (n : ℕ) → all ≡ done ++ rest → all ≡ (done ++ take n rest) ++ take (length rest - n) (drop n rest)
moves_front all done rest n e =
    e ∙ ap (λ l. done ++ l) (sym (take-append-drop n rest)) ∙ sym (append_assoc done (take n rest) (drop n rest)) ∙ ap (λ l. (done ++ take n rest) ++ l) (sym (take_rest rest n))
