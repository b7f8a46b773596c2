-- SPDX-License-Identifier: MIT OR Apache-2.0
-- Behind lines that were done as many processors may be named as before them, and an operation that is refused changes nothing of
-- the machine's state, by which its reason goes.
use Rattle.std.proofs.Common.{◌≡◌, ℕ, Bool, true, false, List, Option, None, Some, sym, ap, ◌∙◌, refl, if◌then◌else◌, is_some}
use Rattle.std.specs.Option.{option_map_or}
use Rattle.ffa_model.specs.declared.operation.Op.{Op}
use Rattle.ffa_model.specs.Processors.{effected, resumed_by}
use Rattle.ffa_model.specs.Refusals.{is_refusal}
use Rattle.ffa_model.specs.State.{State}
use Rattle.ffa_model.proofs.Reasons.{refused-unchanged, why-not}
use Rattle.ffa_model.specs.Why.{why}
use Rattle.ffa_playable.specs.Bench.{Bench, Several, after_op, operated_by, processors_of, why_of}
use Rattle.play_reasons.specs.Reasons.{reason_text}
use Rattle.play_trace.specs.Lines.{outcome_in, outcome_of}
use Rattle.play_trace.specs.TraceLines.{Line, line_in, operate}
use Rattle.play_trace.specs.TraceText.{after_all}
use Rattle.play_trace.proofs.Benches.{processors-after-all}

-- PROCESSORS

module _ (start mid : Bench) (lines : List (List ℕ)) (state : mid ≡ after_all start lines) where
  pub processors-behind : processors_of mid ≡ processors_of start
  processors-behind = ap processors_of state ∙ processors-after-all start lines

  -- bytes are the same line there
  pub meant-behind : (bytes : List ℕ) (line : Option Line) → line ≡ line_in (processors_of start) bytes → line ≡ line_in (processors_of mid) bytes
  meant-behind bytes line is = is ∙ ap (λ p. line_in p bytes) (sym processors-behind)

-- REFUSALS

-- what came of an operation refuses it, or doesn't
abbrev pub refuses : Option Several → State → Op → Bool
refuses several s op = option_map_or is_refusal (outcome_in (operated_by several s op).effect) false

effected_stays : (s : State) (op : Op) (goes : Option ℕ) → option_map_or is_refusal (outcome_in (effected s op goes).effect) false ≡ true → (effected s op goes).state ≡ s
effected_stays s op None refused = refused-unchanged s op refused
effected_stays s op (Some e) refused = absurd cc

operated_stays : (several : Option Several) (s : State) (op : Op) → refuses several s op ≡ true → (operated_by several s op).state ≡ s
operated_stays None s op refused = refused-unchanged s op refused
operated_stays (Some x) s op refused = effected_stays s op (resumed_by s op) refused

pub refused-stays : (b : Bench) (op : Op) → option_map_or is_refusal (outcome_of b (operate op)) false ≡ true → (after_op b op).state ≡ b.state
refused-stays b op refused = operated_stays b.several b.state op refused

-- so it has the same reason behind it
module _ (op : Op) (b : Bench) (refused : option_map_or is_refusal (outcome_of b (operate op)) false ≡ true) where
  pub why-behind : why_of (after_op b op) op ≡ why_of b op
  why-behind = ap (λ (s : State). why_of (record b { state = s }) op) (refused-stays b op refused)

  pub text-behind : reason_text (after_op b op) (operate op) ≡ reason_text b (operate op)
  text-behind = ap (λ (s : State). reason_text (record b { state = s }) (operate op)) (refused-stays b op refused)

goes_unexplained : (s : State) (op : Op) (goes : Option ℕ) → option_map_or is_refusal (outcome_in (effected s op goes).effect) false ≡ false
    → (if is_some goes then None else why s op) ≡ None
goes_unexplained s op None done = why-not s op done
goes_unexplained s op (Some e) done = refl

unexplained_by : (several : Option Several) (s : State) (op : Op) → refuses several s op ≡ false
    → why_of (record { state = s; several = several }) op ≡ None
unexplained_by None s op done = why-not s op done
unexplained_by (Some x) s op done = goes_unexplained s op (resumed_by s op) done

pub done-unexplained : (b : Bench) (op : Op) → option_map_or is_refusal (outcome_of b (operate op)) false ≡ false → why_of b op ≡ None
done-unexplained b op done = unexplained_by b.several b.state op done
