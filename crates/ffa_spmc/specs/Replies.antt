-- SPDX-License-Identifier: MIT OR Apache-2.0
-- FOR PROOFS ALONE
-- What the runner sees of a call that a part of the machine has done or refused.
use Rattle.std.specs.Prelude.{Option, None, Result, Ok, Err}
use Rattle.ffa_model.specs.declared.call.DirectMessage.{DirectMessage}
use Rattle.ffa_model.specs.declared.call.Reply.{Reply}
use Rattle.ffa_model.specs.declared.call.Reply.TheVariants.{Error, Passed, Retrieved}
use Rattle.ffa_model.specs.declared.operation.ErrorCode.{ErrorCode}
use Rattle.ffa_memshare.specs.declared.changed.Changed.{Changed}
use Rattle.ffa_memshare.specs.declared.changed.Value.{Value}
use Rattle.ffa_memshare.specs.declared.changed.Value.TheVariants.{Nothing, Handle, Size}
use Rattle.ffa_model.specs.Calls.{success}
use Rattle.ffa_model.specs.MemorySend.{handle_reply}

-- where `told` is the reply to what is done
abbrev pub reply_of : {X : Type 0} → (X → Reply) → Result X ErrorCode → Reply
reply_of told (Ok x) = told x
reply_of told (Err code) = Error code

abbrev pub done_or_error : {X : Type 0} → Result X ErrorCode → Reply
done_or_error r = reply_of (λ done. success 0 0) r

abbrev pub reply_or_error : Result Reply ErrorCode → Reply
reply_or_error r = reply_of (λ reply. reply) r

-- of a direct message that is passed on
abbrev pub message_or_error : {X : Type 0} → DirectMessage → Result X ErrorCode → Reply
message_or_error message r = reply_of (λ done. Passed message) r

-- of a call on memory: nothing more, the handle of what was sent, or the length of what RX holds then
abbrev pub value_reply : Value → Reply
value_reply Nothing = success 0 0
value_reply (Handle h) = handle_reply h
value_reply (Size size) = Retrieved size

abbrev pub value_or_error : Result Value ErrorCode → Reply
value_or_error r = reply_of value_reply r

-- what a call on memory tells that it has changed, by the news after it: a refused one has changed nothing
abbrev pub change_told : {X : Type 0} → Result X ErrorCode → Option Changed → Option Changed
change_told (Ok x) news = news
change_told (Err code) news = None
