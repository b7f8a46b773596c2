-- SPDX-License-Identifier: MIT OR Apache-2.0
-- By which check a call is refused, asked behind it: a refusal changes nothing.
use Rattle.std.proofs.Common.{◌≡◌, ℕ, List, true, false, Option, None, sym, ap, ◌∙◌, refl}
use Rattle.std.specs.Option.{option_map_or}
use Rattle.ffa_model.specs.declared.operation.Op.{Op}
use Rattle.ffa_model.specs.declared.operation.Op.TheVariants.{Call}
use Rattle.ffa_model.specs.declared.operation.Outcome.{Outcome}
use Rattle.ffa_model.specs.declared.why.Why.{Why}
use Rattle.ffa_model.specs.Refusals.{is_refusal}
use Rattle.ffa_playable.specs.Bench.{Bench, after_op, why_of}
use Rattle.play_trace.specs.Lines.{outcome_of}
use Rattle.play_trace.specs.TraceLines.{operate}
use Rattle.play_player.specs.Asking.{SaysCheck}
use Rattle.play_player.specs.Patterns.{check_in, check_of}
use Rattle.play_player.proofs.Behind.{done-unexplained, why-behind}

-- no operation that is done is refused by a check
check_none : (s : Bench) (op : Op) → why_of s op ≡ None → None ≡ check_of s op
check_none s (Call x) none = sym (ap (check_in x) none)
check_none s _ none = refl

pub done_unchecked : (now : Bench) (op : Op) (outcome : Option Outcome) → option_map_or is_refusal outcome false ≡ false → SaysCheck now op outcome None
done_unchecked now op outcome done = λ start next comes. check_none start op (done-unexplained start op (ap (λ o. option_map_or is_refusal o false) (sym comes) ∙ done))

-- by which check an operation is refused rests on its reason alone
check-behind : (op : Op) (b : Bench) → option_map_or is_refusal (outcome_of b (operate op)) false ≡ true → check_of (after_op b op) op ≡ check_of b op
check-behind (Call x) b refused = ap (check_in x) (why-behind (Call x) b refused)
check-behind _ b refused = refl

-- one that is refused leaves the state as it was found
pub refused_checked : (now : Bench) (op : Op) (outcome : Option Outcome) (check : Option ℕ) → option_map_or is_refusal outcome false ≡ true → check ≡ check_of now op → SaysCheck now op outcome check
refused_checked now op outcome check refused tells =
    λ start next comes.
    tells ∙ ap (λ s. check_of s op) next ∙ check-behind op start (ap (λ o. option_map_or is_refusal o false) (sym comes) ∙ refused)

-- a call, by what the machine answers
pub check_answered : (now : Bench) (op : Op) (x : List ℕ) (answer : Option Why) (check : Option ℕ) → op ≡ Call x → answer ≡ why_of now op → check ≡ check_in x answer → check ≡ check_of now op
check_answered now op x answer check is answers tells =
    tells ∙ ap (check_in x) (answers ∙ ap (why_of now) is) ∙ ap (check_of now) (sym is)
