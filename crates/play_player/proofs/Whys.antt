-- SPDX-License-Identifier: MIT OR Apache-2.0
-- Why an operation is refused, asked behind it: a refusal changes nothing.
use Rattle.std.proofs.Common.{◌≡◌, Bool, true, false, Option, None, Some, [], sym, ap, ◌∙◌, refl}
use Rattle.std.specs.Option.{option_map_or}
use Rattle.ffa_model.specs.declared.endpoint.Address.{Address}
use Rattle.ffa_model.specs.declared.operation.Op.{Op}
use Rattle.ffa_model.specs.declared.operation.Outcome.{Outcome}
use Rattle.ffa_model.specs.declared.why.Why.{Why}
use Rattle.ffa_model.specs.Refusals.{is_refusal}
use Rattle.ffa_playable.specs.Bench.{Bench, why_of}
use Rattle.ffa_playable.specs.declared.detail.Detail.{Detail}
use Rattle.ffa_playable.specs.Standing.{detail}
use Rattle.play_trace.specs.TraceLines.{Line, operate, show, audit, skip, turn, interrupt}
use Rattle.play_reasons.specs.Reasons.{reason_if, reason_line, reason_text, told_line}
use Rattle.play_reasons.specs.declared.reason.Reason.{Reason}
use Rattle.play_player.specs.Steps.{SaysWhy}
use Rattle.play_player.proofs.Behind.{done-unexplained, text-behind}

pub says_unasked : (explain : Bool) (now : Bench) (line : Line) (outcome : Option Outcome) → explain ≡ false → SaysWhy explain now line outcome None
says_unasked explain now line outcome unasked = λ start next came. ap (λ b. reason_if b start line) (sym unasked)

-- no operation that is done has a reason
pub says_nothing : (explain : Bool) (now : Bench) (line : Line) (outcome : Option Outcome) → option_map_or is_refusal outcome false ≡ false → SaysWhy explain now line outcome None
says_nothing false now line outcome plain = λ start next came. refl
says_nothing true now (operate op) outcome plain =
    λ start next came. ap (λ o. option_map_or (λ reason. reason_line start.state.ram_base op reason (detail start.state op reason)) o [])
    (sym (done-unexplained start op (ap (λ o. option_map_or is_refusal o false) (sym came) ∙ plain)))
says_nothing true now show outcome plain = λ start next came. refl
says_nothing true now audit outcome plain = λ start next came. refl
says_nothing true now skip outcome plain = λ start next came. refl
says_nothing true now (turn processor) outcome plain = λ start next came. refl
says_nothing true now interrupt outcome plain = λ start next came. refl

-- one that is refused has the reason that the machine gives behind it
module _ (explain : Bool) (now : Bench) (op : Op) (outcome : Option Outcome) (asked : explain ≡ true) (refused : option_map_or is_refusal outcome false ≡ true) where
  as_before : (reason : Option Reason) → told_line reason ≡ reason_text now (operate op) → SaysWhy explain now (operate op) outcome reason
  as_before reason tells =
      λ start next came.
      let stays = text-behind op start (ap (λ o. option_map_or is_refusal o false) (sym came) ∙ refused) in
      tells ∙ ap (λ s. reason_text s (operate op)) next ∙ stays ∙ ap (λ b. reason_if b start (operate op)) (sym asked)

  pub says_why : (base : Address) (reason : Why) (its : Option Detail) → base.0 ≡ now.state.ram_base → Some reason ≡ why_of now op → its ≡ detail now.state op reason
      → SaysWhy explain now (operate op) outcome (Some (record { base = base; op = op; why = reason; detail = its }))
  says_why base reason its begins is detailed =
      as_before (Some (record { base = base; op = op; why = reason; detail = its }))
      (ap (λ b. reason_line b op reason its) begins
      ∙ ap (reason_line now.state.ram_base op reason) detailed
      ∙ ap (λ o. option_map_or (λ reason. reason_line now.state.ram_base op reason (detail now.state op reason)) o []) is)

  pub says_none : None ≡ why_of now op → SaysWhy explain now (operate op) outcome None
  says_none is = as_before None (ap (λ o. option_map_or (λ reason. reason_line now.state.ram_base op reason (detail now.state op reason)) o []) is)
