-- SPDX-License-Identifier: MIT OR Apache-2.0
-- The checks of messages, as the code makes them.
use Rattle.std.proofs.Common.{◌≡◌, ◌∙◌, ℕ, ◌*◌, is_some, Bool, true, false, List, [], ◌∷◌, ◌++◌, Option, Some, None, refl, sym, ap}
use Rattle.std.specs.Prelude.{◌==◌, ◌&&◌, if◌then◌else◌}
use Rattle.std.specs.Option.{option_or}
use Rattle.ffa_model.specs.declared.call.DirectMessage.{DirectMessage}
use Rattle.ffa_model.specs.declared.endpoint.Version.{Version}
use Rattle.ffa_model.specs.declared.refusal.Refusal.{Refusal}
use Rattle.ffa_model.specs.declared.refusal.Refusal.TheVariants.{AnswerMisdirected, BuffersMissing, FlagsReserved, NoRequest}
use Rattle.ffa_model.specs.Buffers.{buffers_in, room_of}
use Rattle.ffa_model.specs.Calls.{first_refusal}
use Rattle.ffa_model.specs.Messages.{MessageHeader, header_in, send2_guards}
use Rattle.ffa_model.specs.Ram.{Ram}
use Rattle.ffa_model.specs.RunStates.{Schedule, is_endpoint, requester, response_guards, work_in}
use Rattle.ffa_model.specs.State.{Party, Buffers}
use Rattle.ffa_rxtx.specs.Parts.{run_in, tx_in}
use Rattle.std.proofs.lemmas.Bool.{eq-eqb, eqb-true}
use Rattle.ffa_messages.specs.Parts.{ends_guards, header_guards, sent_in}

-- of a response from the runner to the endpoint that asked the flags alone are left
pub refused-flags : (schedule : Schedule) (message : DirectMessage) (by : ℕ) (unset : Bool) → Some by ≡ requester (work_in schedule schedule.runner)
    → (message.sender.0 == schedule.runner) ≡ true → (message.receiver.0 == by) ≡ true → unset ≡ (message.flags == 0)
    → (if unset then None else Some FlagsReserved) ≡ first_refusal (response_guards schedule message)
refused-flags schedule message by unset asked from to is =
    (λ i. first_refusal ((sym from i && sym back i, AnswerMisdirected) ∷ (is i, FlagsReserved) ∷ []))
    ∙ (λ i. first_refusal ((is_some (asked i), NoRequest) ∷ (message.sender.0 == schedule.runner && is_endpoint message.receiver.0 (asked i), AnswerMisdirected) ∷ (message.flags == 0, FlagsReserved) ∷ []))
  where
    back : (by == message.receiver.0) ≡ true
    back = eq-eqb by message.receiver.0 (sym (eqb-true message.receiver.0 by to))

-- guards in two parts
refusal-append : (guards more : List (Bool × Refusal)) → first_refusal (guards ++ more) ≡ option_or (first_refusal guards) (first_refusal more)
refusal-append [] more = refl
refusal-append ((true, one) ∷ guards) more = refusal-append guards more
refusal-append ((false, one) ∷ guards) more = refl

-- the message in TX of a caller with these buffers, whose header is read
module _ (parties : List Party) (ram : Ram) (buffers : List (Option Buffers)) (version : Version) (e : ℕ) (own : Buffers) (room : ℕ) (m : MessageHeader) (has : Some own ≡ buffers_in buffers e)
    (spans : room ≡ 4096 * own.pages) (read : m ≡ header_in (run_in ram own.tx own.pages)) where
  in-parts : option_or (first_refusal (header_guards parties version e room m)) (first_refusal (ends_guards parties buffers e m))
      ≡ first_refusal (send2_guards parties buffers version e (header_in (sent_in ram buffers e)))
  in-parts =
      let sent : m ≡ header_in (sent_in ram buffers e) = read ∙ ap (λ (o : Option Buffers). header_in (tx_in ram o)) has in
      let rooms : room ≡ room_of (buffers_in buffers e) = spans ∙ ap room_of has in
      sym (refusal-append (header_guards parties version e room m) (ends_guards parties buffers e m))
      ∙ (λ i. first_refusal ((is_some (has i), BuffersMissing) ∷ header_guards parties version e (rooms i) (sent i) ++ ends_guards parties buffers e (sent i)))

  -- is refused for its header, and else for its ends
  pub refused-header : (refusal : Refusal) → Some refusal ≡ first_refusal (header_guards parties version e room m)
      → Some refusal ≡ first_refusal (send2_guards parties buffers version e (header_in (sent_in ram buffers e)))
  refused-header refusal is = ap (λ (o : Option Refusal). option_or o (first_refusal (ends_guards parties buffers e m))) is ∙ in-parts

  pub refused-ends : (o : Option Refusal) → None ≡ first_refusal (header_guards parties version e room m) → o ≡ first_refusal (ends_guards parties buffers e m)
      → o ≡ first_refusal (send2_guards parties buffers version e (header_in (sent_in ram buffers e)))
  refused-ends o passes is = (λ i. option_or (passes i) (is i)) ∙ in-parts
