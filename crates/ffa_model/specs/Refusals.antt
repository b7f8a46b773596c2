-- SPDX-License-Identifier: MIT OR Apache-2.0
-- Outcomes that refuse: FFA_ERROR, and faults.
use Rattle.std.specs.Prelude.{◌==◌, Bool, true, false, not, slice_index}
use Rattle.ffa_model.specs.declared.call.Call.{Call}
use Rattle.ffa_model.specs.declared.call.Call.TheVariants.{DirectRequest, DirectResponse}
use Rattle.ffa_model.specs.declared.call.Reply.{Reply}
use Rattle.ffa_model.specs.declared.operation.Outcome.{Outcome}
use Rattle.ffa_model.specs.declared.operation.Outcome.TheVariants.{Regs, Fault}
use Rattle.ffa_model.specs.declared.function.TheConstants.{FFA_ERROR}
use Rattle.ffa_model.specs.Calls.{encode}

abbrev pub is_refusal : Outcome → Bool
is_refusal (Regs runner registers) = slice_index registers 0 == FFA_ERROR
is_refusal (Fault fault) = true
is_refusal outcome = false

-- a reply that is seen as FFA_ERROR
abbrev pub is_error : Reply → Bool
is_error reply = slice_index (encode reply) 0 == FFA_ERROR

-- whether what a call passes on is not seen as FFA_ERROR
abbrev pub passes_no_error : Call → Bool
passes_no_error (DirectRequest message) = not (message.function == FFA_ERROR)
passes_no_error (DirectResponse message) = not (message.function == FFA_ERROR)
passes_no_error call = true
