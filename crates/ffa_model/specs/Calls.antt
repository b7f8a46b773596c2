-- SPDX-License-Identifier: MIT OR Apache-2.0
-- The form of each call: guards in order, and what changes where none fails.
use Rattle.std.specs.Prelude.{ℕ, Bool, List, [], ◌∷◌, ◌++◌, Option, Some, None, if◌then◌else◌, replicate}
use Rattle.ffa_model.specs.declared.operation.ErrorCode.{ErrorCode}
use Rattle.ffa_model.specs.declared.operation.ErrorCode.TheVariants.{NotSupported, InvalidParameters, NoMemory, Busy, Denied, NoData}
use Rattle.ffa_model.specs.declared.operation.Outcome.{Outcome}
use Rattle.ffa_model.specs.declared.operation.Outcome.TheVariants.{Regs}
use Rattle.ffa_model.specs.declared.call.Reply.{Reply}
use Rattle.ffa_model.specs.declared.call.Reply.TheVariants.{Version, Error, Success, WideSuccess, Sent, Pending, Passed, Scheduled, Retrieved}
use Rattle.ffa_model.specs.declared.function.TheConstants.{FFA_ERROR, FFA_SUCCESS, FFA_SUCCESS_64, FFA_MEM_RETRIEVE_RESP}
use Rattle.ffa_model.specs.declared.refusal.Refusal.{Refusal}
use Rattle.ffa_model.specs.Bits.{bits, word_of_two}
use Rattle.ffa_model.specs.State.{State}
use Rattle.ffa_model.specs.RefusalCodes.{code_of}

-- A guard is a test, which passes where it is true, and the check's name. The first that fails is why a call is refused, and
-- the call answers its code
abbrev pub first_refusal : List (Bool × Refusal) → Option Refusal
first_refusal [] = None
first_refusal (guard ∷ guards) = if guard.0 then first_refusal guards else Some guard.1

abbrev pub first_failure : List (Bool × Refusal) → Option ErrorCode
first_failure [] = None
first_failure (guard ∷ guards) = if guard.0 then first_failure guards else Some (code_of guard.1)

-- FF-A's number of a code, as 32 bits of two's complement (DEN0077A, 11.2)
abbrev pub code_number : ErrorCode → ℕ
code_number NotSupported = 0xFFFFFFFF
code_number InvalidParameters = 0xFFFFFFFE
code_number NoMemory = 0xFFFFFFFD
code_number Busy = 0xFFFFFFFC
code_number Denied = 0xFFFFFFFA
code_number NoData = 0xFFFFFFF7

-- a word in two registers
abbrev pub halves : ℕ → List ℕ
halves word = bits 31 0 word ∷ bits 63 32 word ∷ []

-- The eight registers of a reply. w1 names two endpoints, or an endpoint and its execution context. Of the manager's notifications w6
-- has the lowest 32, of which bit 0 alone is ever set, and there is no hypervisor whose w7 would hold
abbrev pub encode : Reply → List ℕ
encode (Version version) = version ∷ replicate 7 0
encode (Error code) = FFA_ERROR ∷ 0 ∷ code_number code ∷ replicate 5 0
encode (Success results) = FFA_SUCCESS ∷ 0 ∷ results
encode (WideSuccess results) = FFA_SUCCESS_64 ∷ 0 ∷ results
encode (Sent handle) = FFA_SUCCESS ∷ 0 ∷ halves handle.0 ++ replicate 4 0
encode (Pending partitions normal_world manager) =
    FFA_SUCCESS ∷ 0 ∷ halves partitions ++ halves normal_world ++ bits 31 0 manager ∷ 0 ∷ []
encode (Passed message) = message.function ∷ word_of_two message.sender.0 message.receiver.0 ∷ 0 ∷ message.payload
encode (Scheduled function partition) = function ∷ word_of_two partition.0 0 ∷ replicate 6 0
encode (Retrieved size) = FFA_MEM_RETRIEVE_RESP ∷ size ∷ size ∷ replicate 5 0

-- success with these two results in w2 and w3
abbrev pub success : ℕ → ℕ → Reply
success w2 w3 = Success (w2 ∷ w3 ∷ replicate 4 0)

pub record Stepped : Type 0 where
  pub state : State
  pub outcome : Outcome

-- the runner of this state sees the reply
abbrev pub replied : State → Reply → Stepped
replied s reply = record { state = s; outcome = Regs (record { 0 = s.runner }) (encode reply) }

-- how a call is served: its guards, and where all pass the state after it and the reply.
-- All parts of a call are in this record. Three tables by call, of guards, states and replies, would scatter them.
pub record Service : Type 0 where
  pub guards : List (Bool × Refusal)
  pub state : State
  pub reply : Reply

-- a call that nothing refuses, and that changes nothing
abbrev pub replying : State → Reply → Service
replying s reply = record { guards = []; state = s; reply = reply }

-- a call whose guards gave this: a refusal changes nothing
abbrev pub answered : Option ErrorCode → State → State → Reply → Stepped
answered None old new reply = replied new reply
answered (Some code) old new reply = replied old (Error code)

abbrev pub served : State → Service → Stepped
served s service = answered (first_failure service.guards) s service.state service.reply
