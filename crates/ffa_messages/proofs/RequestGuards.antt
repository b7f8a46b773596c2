-- SPDX-License-Identifier: MIT OR Apache-2.0
-- Which guard of a direct request is the first that fails, by what its tests are, each of which is read by itself.
use Rattle.std.proofs.Common.{◌≡◌, ◌∙◌, ap, ℕ, Bool, true, false, List, [], ◌∷◌, None, Some, length, map, arith}
use Rattle.std.specs.Prelude.{◌==◌, not}
use Rattle.std.proofs.lemmas.List.{length-map}
use Rattle.ffa_model.specs.declared.call.DirectMessage.{DirectMessage}
use Rattle.ffa_model.specs.declared.endpoint.Endpoint.{Endpoint}
use Rattle.ffa_model.specs.declared.refusal.Refusal.{Refusal}
use Rattle.ffa_model.specs.declared.refusal.Refusal.TheVariants.{SenderIsAnother, FlagsReserved, ReceiverUnknown, ReceiverIsCaller, ReceiverIsNormalWorld, RequestsUnsent, RequestsUnreceived, ReceiverNotWaiting}
use Rattle.ffa_model.specs.Calls.{first_refusal}
use Rattle.ffa_model.specs.First.{party_of}
use Rattle.ffa_model.specs.RunStates.{Schedule, is_waiting, request_guards, status_in}
use Rattle.ffa_model.specs.State.{has_property, is_known_among}

abbrev guards_of : (by_runner flagless known another partition sends receives waiting : Bool) → List (Bool × Refusal)
guards_of by_runner flagless known another partition sends receives waiting =
    (by_runner, SenderIsAnother)
    ∷ (flagless, FlagsReserved)
    ∷ (known, ReceiverUnknown)
    ∷ (another, ReceiverIsCaller)
    ∷ (partition, ReceiverIsNormalWorld)
    ∷ (sends, RequestsUnsent)
    ∷ (receives, RequestsUnreceived)
    ∷ (waiting, ReceiverNotWaiting)
    ∷ []

module _ (by_runner flagless known another partition sends receives waiting : Bool) where
  receiver-unknown-by : by_runner ≡ true → flagless ≡ true → known ≡ false → Some ReceiverUnknown ≡ first_refusal (guards_of by_runner flagless known another partition sends receives waiting)
  receiver-unknown-by s f k = grind arith

  receiver-caller-by : by_runner ≡ true → flagless ≡ true → known ≡ true → another ≡ false → Some ReceiverIsCaller ≡ first_refusal (guards_of by_runner flagless known another partition sends receives waiting)
  receiver-caller-by s f k o = grind arith

  receiver-normal-world-by : by_runner ≡ true → flagless ≡ true → known ≡ true → another ≡ true → partition ≡ false → Some ReceiverIsNormalWorld ≡ first_refusal (guards_of by_runner flagless known another partition sends receives waiting)
  receiver-normal-world-by s f k o p = grind arith

  requests-unsent-by : by_runner ≡ true → flagless ≡ true → known ≡ true → another ≡ true → partition ≡ true → sends ≡ false → Some RequestsUnsent ≡ first_refusal (guards_of by_runner flagless known another partition sends receives waiting)
  requests-unsent-by s f k o p a = grind arith

  requests-unreceived-by : by_runner ≡ true → flagless ≡ true → known ≡ true → another ≡ true → partition ≡ true → sends ≡ true → receives ≡ false → Some RequestsUnreceived ≡ first_refusal (guards_of by_runner flagless known another partition sends receives waiting)
  requests-unreceived-by s f k o p a b = grind arith

  not-waiting-by : by_runner ≡ true → flagless ≡ true → known ≡ true → another ≡ true → partition ≡ true → sends ≡ true → receives ≡ true → waiting ≡ false → Some ReceiverNotWaiting ≡ first_refusal (guards_of by_runner flagless known another partition sends receives waiting)
  not-waiting-by s f k o p a b w = grind arith

  all-pass-by : by_runner ≡ true → flagless ≡ true → known ≡ true → another ≡ true → partition ≡ true → sends ≡ true → receives ≡ true → waiting ≡ true → None ≡ first_refusal (guards_of by_runner flagless known another partition sends receives waiting)
  all-pass-by s f k o p a b w = grind arith

-- the tests of a request
module _ (items : List Endpoint) (schedule : Schedule) (message : DirectMessage) where
  abbrev by_runner : Bool
  by_runner = message.sender.0 == schedule.runner

  abbrev flagless : Bool
  flagless = message.flags == 0

  abbrev known_among : ℕ → Bool
  known_among n = is_known_among n message.receiver.0

  abbrev another : Bool
  another = not (message.receiver.0 == schedule.runner)

  abbrev partition : Bool
  partition = not (message.receiver.0 == 0)

  abbrev sends : Bool
  sends = has_property (map party_of items) schedule.runner 1

  abbrev receives : Bool
  receives = has_property (map party_of items) message.receiver.0 0

  abbrev waiting : Bool
  waiting = is_waiting (status_in schedule message.receiver.0)

  as-parties : known_among (length (map party_of items)) ≡ known_among (length items)
  as-parties = ap known_among (length-map items party_of)

  pub receiver-unknown : by_runner ≡ true → flagless ≡ true → known_among (length items) ≡ false → Some ReceiverUnknown ≡ first_refusal (request_guards (map party_of items) schedule message)
  receiver-unknown s f k = receiver-unknown-by by_runner flagless (known_among (length (map party_of items))) another partition sends receives waiting s f (as-parties ∙ k)

  pub receiver-caller : by_runner ≡ true → flagless ≡ true → known_among (length items) ≡ true → another ≡ false → Some ReceiverIsCaller ≡ first_refusal (request_guards (map party_of items) schedule message)
  receiver-caller s f k o = receiver-caller-by by_runner flagless (known_among (length (map party_of items))) another partition sends receives waiting s f (as-parties ∙ k) o

  pub receiver-normal-world : by_runner ≡ true → flagless ≡ true → known_among (length items) ≡ true → another ≡ true → partition ≡ false → Some ReceiverIsNormalWorld ≡ first_refusal (request_guards (map party_of items) schedule message)
  receiver-normal-world s f k o p = receiver-normal-world-by by_runner flagless (known_among (length (map party_of items))) another partition sends receives waiting s f (as-parties ∙ k) o p

  pub requests-unsent : by_runner ≡ true → flagless ≡ true → known_among (length items) ≡ true → another ≡ true → partition ≡ true → sends ≡ false → Some RequestsUnsent ≡ first_refusal (request_guards (map party_of items) schedule message)
  requests-unsent s f k o p a = requests-unsent-by by_runner flagless (known_among (length (map party_of items))) another partition sends receives waiting s f (as-parties ∙ k) o p a

  pub requests-unreceived : by_runner ≡ true → flagless ≡ true → known_among (length items) ≡ true → another ≡ true → partition ≡ true → sends ≡ true → receives ≡ false → Some RequestsUnreceived ≡ first_refusal (request_guards (map party_of items) schedule message)
  requests-unreceived s f k o p a b = requests-unreceived-by by_runner flagless (known_among (length (map party_of items))) another partition sends receives waiting s f (as-parties ∙ k) o p a b

  pub not-waiting : by_runner ≡ true → flagless ≡ true → known_among (length items) ≡ true → another ≡ true → partition ≡ true → sends ≡ true → receives ≡ true → waiting ≡ false → Some ReceiverNotWaiting ≡ first_refusal (request_guards (map party_of items) schedule message)
  not-waiting s f k o p a b w = not-waiting-by by_runner flagless (known_among (length (map party_of items))) another partition sends receives waiting s f (as-parties ∙ k) o p a b w

  pub all-pass : by_runner ≡ true → flagless ≡ true → known_among (length items) ≡ true → another ≡ true → partition ≡ true → sends ≡ true → receives ≡ true → waiting ≡ true → None ≡ first_refusal (request_guards (map party_of items) schedule message)
  all-pass s f k o p a b w = all-pass-by by_runner flagless (known_among (length (map party_of items))) another partition sends receives waiting s f (as-parties ∙ k) o p a b w
