-- SPDX-License-Identifier: MIT OR Apache-2.0
-- What a call shows to an endpoint, where nothing refuses it: messages, and who runs on.
use Rattle.std.proofs.Common.{◌≡◌, ◌≢◌, ◌∙◌, ℕ, Bool, true, false, cond, List, [], ◌∷◌, ◌++◌, map, Option, Some, None, refl, sym, ap, ◌==◌, ◌&&◌, eqb-true, ne_eqb}
use Rattle.ffa_model.specs.declared.operation.Outcome.TheVariants.{Regs}
use Rattle.ffa_model.specs.declared.rights.Kind.{Kind}
use Rattle.ffa_model.specs.declared.rights.Kind.TheVariants.{Donate}
use Rattle.ffa_model.specs.declared.rights.Rights.{Rights}
use Rattle.ffa_model.specs.declared.descriptor.RetrieveDesc.{RetrieveDesc}
use Rattle.ffa_model.specs.declared.descriptor.RelinquishDesc.{RelinquishDesc}
use Rattle.ffa_model.specs.State.{State, Transaction, transaction_of, version_of}
use Rattle.ffa_model.specs.Access.{is_receiver}
use Rattle.ffa_model.specs.Calls.{Service, encode}
use Rattle.ffa_model.specs.Buffers.{filled}
use Rattle.ffa_model.specs.Setup.{info_bytes}
use Rattle.ffa_model.specs.RunStates.{schedule_of}
use Rattle.ffa_model.specs.Messages.{header_in, message_in, msg_send2}
use Rattle.ffa_model.specs.Notifications.{manager_class, message_bits, has_bitmaps_in, notifications_of}
use Rattle.ffa_model.specs.SendDescriptor.{SendRecord}
use Rattle.ffa_model.specs.MemorySend.{memory_sent, transaction_sent}
use Rattle.ffa_model.specs.MemoryRetrieve.{retrieve_read, retrieved, retrieved_from}
use Rattle.ffa_model.specs.HypervisorRetrieve.{memory_retrieve}
use Rattle.ffa_model.specs.declared.call.Transfer.{Transfer}
use Rattle.ffa_model.specs.MemoryReturn.{relinquished, relinquished_from}
use Rattle.ffa_laws.specs.Events.{Event, Message, Filled, Pending, Held, Zeroed, delivers, message, messages, notified, opens, releases, switches, takes, takes_from, taking, where_true}
use Rattle.ffa_laws.proofs.Notices.{either-notified}
use Rattle.ffa_laws.proofs.ReadBacks.{either-kept}

-- events that are no messages
pub no_message : (e : ℕ) (b : Bool) (event : Event) → message e event ≡ [] → messages e (where_true b (event ∷ [])) ≡ []
no_message e true event none = ap (λ xs. xs ++ []) none
no_message e false event none = refl

pub no_messages : (e : ℕ) (b : Bool) (f : ℕ → Event) (ks : List ℕ) → ((k : ℕ) → message e (f k) ≡ []) → messages e (where_true b (map f ks)) ≡ []
no_messages e false f ks none = refl
no_messages e true f [] none = refl
no_messages e true f (k ∷ ks) none = (λ i. none k i ++ messages e (map f ks)) ∙ no_messages e true f ks none

pub no_news : (e : ℕ) (s next : State) (own : List Event) → messages e own ≡ [] → messages e (notified e s next own) ≡ []
no_news e s next own none = either-notified (λ es. messages e es ≡ []) e s next own refl (λ differ. refl) none

pub no_delivery : (e : ℕ) (s : State) (tx : List ℕ) → messages e (delivers e s tx) ≡ []
no_delivery e s tx = go ((header_in tx).receiver == e)
  where
    bit : (c : Bool) → messages e (notified e s (msg_send2 s).state (where_true c (Pending manager_class message_bits ∷ []))) ≡ []
    bit c = no_news e s (msg_send2 s).state _ (no_message e c (Pending manager_class message_bits) refl)

    go : (b : Bool) → messages e (where_true b (Filled (message_in tx) ∷ []) ++ notified e s (msg_send2 s).state (where_true ((header_in tx).receiver == e && has_bitmaps_in (notifications_of s) e) (Pending manager_class message_bits ∷ []))) ≡ []
    go true = bit _
    go false = bit _

pub no_opening : (e : ℕ) (s : State) (kind : Kind) (r : Option SendRecord) → messages e (opens e s kind r) ≡ []
no_opening e s kind None = refl
no_opening e s kind (Some r) = no_message e (is_receiver e (transaction_sent s kind r)) _ refl

no_taking : (e : ℕ) (kind : Kind) (h f : ℕ) (right : Rights) → message e (taking kind h f right) ≡ []
no_taking e Donate h f right = refl
no_taking e _ h f right = refl

pub no_takes : (e : ℕ) (s : State) (d : Option RetrieveDesc) → messages e (takes e s d) ≡ []
no_takes e s None = refl
no_takes e s (Some d) = go (transaction_of s d.handle)
  where
    go : (o : Option Transaction) → messages e (takes_from e s d o) ≡ []
    go None = refl
    go (Some t) = no_message e (t.sender == e) _ (no_taking e t.kind d.handle s.runner _)

pub no_releases : (e : ℕ) (s : State) (d : Option RelinquishDesc) → messages e (releases e s d) ≡ []
no_releases e s None = refl
no_releases e s (Some d) = of _ _
  where
    of : (mine zeros : Bool) → messages e (where_true mine (Held d.handle s.runner None ∷ []) ++ where_true zeros (Zeroed d.handle ∷ [])) ≡ []
    of true true = refl
    of true false = refl
    of false true = refl
    of false false = refl

-- run states that stay
pub offered-runs : (s : State) (kind : Kind) (r : Option SendRecord) → schedule_of (memory_sent s kind r) ≡ schedule_of s
offered-runs s kind None = refl
offered-runs s kind (Some r) = refl

received-runs : (s : State) (d : Option RetrieveDesc) → schedule_of (retrieved s d) ≡ schedule_of s
received-runs s None = refl
received-runs s (Some d) = elim (transaction_of s d.handle) as (λ o. schedule_of (retrieved_from s d o) ≡ schedule_of s) [ None ↦ refl | Some t ↦ refl ]

pub retrieved-runs : (s : State) (x : Transfer) → schedule_of (memory_retrieve s x).state ≡ schedule_of s
retrieved-runs s x = either-kept (λ t. schedule_of t ≡ schedule_of s) s x (received-runs s (retrieve_read s x.total)) refl (λ bytes. refl)

pub relinquished-runs : (s : State) (d : Option RelinquishDesc) → schedule_of (relinquished s d) ≡ schedule_of s
relinquished-runs s None = refl
relinquished-runs s (Some d) = elim (transaction_of s d.handle) as (λ o. schedule_of (relinquished_from s d o) ≡ schedule_of s) [ None ↦ refl | Some t ↦ refl ]

pub informed-runs : (s : State) (uuid : List ℕ) (b : Bool) → schedule_of (cond b s (filled s s.runner (info_bytes s.ffa (version_of s s.runner) s.parties uuid))) ≡ schedule_of s
informed-runs s uuid true = refl
informed-runs s uuid false = refl

module _ (e : ℕ) (s : State) (differ : s.runner ≢ e) where
  -- what a call shows to e that nothing refuses
  abbrev pub Shows : Service → List Event → Type 0
  Shows c told = messages e told ≡ cond (c.state.runner == e) (Regs (record { 0 = c.state.runner }) (encode c.reply) ∷ []) []

  pub quiet : (c : Service) (told : List Event) → messages e told ≡ [] → schedule_of c.state ≡ schedule_of s → Shows c told
  quiet c told none same = none ∙ ap (λ b. cond b (Regs (record { 0 = c.state.runner }) (encode c.reply) ∷ []) []) (sym (ap (λ states. states.runner == e) same ∙ ne_eqb s.runner e differ))

  pub switching : (c : Service) → Shows c (switches e c)
  switching c =
      elim (c.state.runner == e) as (λ b. (c.state.runner == e) ≡ b → messages e (where_true b (Message (encode c.reply) ∷ [])) ≡ cond b (Regs (record { 0 = c.state.runner }) (encode c.reply) ∷ []) []) [
        | true ↦ λ mine. (λ i. Regs (record { 0 = sym (eqb-true c.state.runner e mine) i }) (encode c.reply) ∷ [])
        | false ↦ λ other. refl
      ] refl
