-- SPDX-License-Identifier: MIT OR Apache-2.0
-- How the text of a line is put together.
use Rattle.std.proofs.Common.{◌≡◌, ◌≢◌, ℕ, ◌-◌, true, false, List, [], ◌∷◌, ◌++◌, length, take, Option, None, Some, sym, ap, ◌∙◌, subst, arith, length-append, refl, IfSome}
use Rattle.std.proofs.Math.Seq.{take-append_seam}
use Rattle.ffa_model.specs.declared.endpoint.EndpointId.{EndpointId}
use Rattle.ffa_model.specs.declared.operation.Outcome.{Outcome}
use Rattle.ffa_model.specs.declared.operation.Outcome.TheVariants.{Regs}
use Rattle.ffa_playable.specs.Bench.{Bench}
use Rattle.play_trace.specs.TraceLines.{Line, feed}
use Rattle.play_trace.specs.TraceText.{ended, line_text}
use Rattle.play_trace.specs.Lines.{outcome_of}
use Rattle.play_reasons.specs.Drafts.{Puts}
use Rattle.play_reasons.specs.Marks.{names_mark}
use Rattle.play_reasons.specs.Reasons.{reason_if}
use Rattle.play_reasons.proofs.Together.{together}
use Rattle.play_player.specs.Forms.{dressed, line_text_in, number_in, worded_in}
use Rattle.play_player.specs.declared.form.Form.{Form}

-- NAMES

before_ended : (words : List ℕ) → take (length (ended words) - 1) (ended words) ≡ words
before_ended words =
    let count : length (ended words) - 1 ≡ length words = omega (arith, length-append words (feed ∷ [])) in
    ap (λ n. take n (ended words)) count ∙ take-append_seam words (feed ∷ [])

pub named_ended : (form : Form) (runner : EndpointId) (x words : List ℕ) → form.short ≡ false → form.names ≡ true → worded_in form (Some (Regs runner x)) (ended words) ≡ ended (words ++ names_mark x)
named_ended form runner x words long asked = rw (long, asked) (ap (λ w. ended (w ++ names_mark x)) (before_ended words))

-- A TEXT

pub dressed_some : (form : Form) (number : ℕ) (outcome : Option Outcome) (reason said : List ℕ) → length said ≢ 0
    → dressed form number outcome reason said ≡ number_in form number ++ worded_in form outcome said ++ reason
dressed_some form number outcome reason [] some = absurd (some refl)
dressed_some form number outcome reason (c ∷ said) some = refl

-- its parts were put one behind the other
pub parts_put : (form : Form) (number : ℕ) (outcome : Option Outcome) (reason said : List ℕ) → length said ≢ 0 → (old numbered named new : Option (List ℕ)) → Puts old numbered (number_in form number)
    → Puts numbered named (worded_in form outcome said) → Puts named new reason → Puts old new (dressed form number outcome reason said)
parts_put form number outcome reason said some old numbered named new first second third =
    let front = number_in form number ++ worded_in form outcome said in
    subst (Puts old new) (sym (dressed_some form number outcome reason said some))
    (together old named new front reason (together old numbered named (number_in form number) (worded_in form outcome said) first second) third)

-- A LINE

-- a line was done that said this, and of which this came
pub is_dressed : (s : Bench) (line : Line) (outcome : Option Outcome) (said : List ℕ) → said ≡ line_text s line → outcome ≡ outcome_of s line → (form : Form) (number : ℕ) (reason : List ℕ)
    → reason ≡ reason_if form.explain s line → (new : Option (List ℕ)) → Puts (Some []) new (dressed form number outcome reason said) → IfSome new (λ text. text ≡ line_text_in form number s line)
is_dressed s line outcome said says came form number reason why None put = tt
is_dressed s line outcome said says came form number reason why (Some text) put =
    put ∙ ap (dressed form number outcome reason) says ∙ ap (λ o. dressed form number o reason (line_text s line)) came
    ∙ ap (λ r. dressed form number (outcome_of s line) r (line_text s line)) why
