-- SPDX-License-Identifier: MIT OR Apache-2.0
-- What an endpoint has alone stays its own, alone and whole, over an operation of another and over a run.
use Rattle.std.proofs.Common.{◌≡◌, ◌≢◌, ◌∙◌, ℕ, Bool, true, false, cond, List, [], ◌∷◌, ◌++◌, map, Option, Some, None, refl, sym, ap, inl, inr, ◌==◌, ◌&&◌, is_none}
use Rattle.std.specs.List.{list_all}
use Rattle.std.specs.FinMap as finite
use Rattle.std.specs.Option.{option_map_or}
use Rattle.std.proofs.lemmas.Bool.{and_parts, cases_Bool, eq-eqb, eqb-true, false≢true, true≢false}
use Rattle.byteorder.specs.Endian.{little_bytes}
use Rattle.ffa_model.specs.declared.descriptor.RelinquishDesc.{RelinquishDesc}
use Rattle.ffa_model.specs.declared.operation.Op.{Op}
use Rattle.ffa_model.specs.declared.operation.Op.TheVariants.{Call, Load, Store, Fetch}
use Rattle.ffa_model.specs.declared.operation.Outcome.TheVariants.{Data, Done}
use Rattle.ffa_model.specs.declared.operation.ErrorCode.{ErrorCode}
use Rattle.ffa_model.specs.declared.call.Call as calls
use Rattle.ffa_model.specs.declared.call.Call.TheVariants.{PartitionInfoGet, MsgWait, MemDonate, MemLend, MemShare, MemRetrieve, MemRelinquish, MemReclaim, MsgSend2, Version}
use Rattle.ffa_model.specs.declared.rights.Kind.{Kind}
use Rattle.ffa_model.specs.declared.rights.Kind.TheVariants.{Share, Lend, Donate}
use Rattle.ffa_model.specs.SendDescriptor.{SendRecord}
use Rattle.ffa_model.specs.State.{State, Page, Transaction, is_known, page_at, owner_of, transaction_of, version_of}
use Rattle.ffa_model.specs.Access.{handle_at, names}
use Rattle.ffa_model.specs.Buffers.{filled}
use Rattle.ffa_model.specs.Calls.{first_failure}
use Rattle.ffa_model.specs.Memory.{fetch_fault, number_at, read_fault, size_of, store_fault, stored}
use Rattle.ffa_model.specs.MemoryRetrieve.{receiver_retrieve}
use Rattle.ffa_model.specs.MemoryReturn.{relinquish_read, relinquished, relinquished_from}
use Rattle.ffa_model.specs.MemorySend.{memory_send, memory_sent, send_guards, send_read, transaction_sent}
use Rattle.ffa_model.specs.Messages.{header_in, message_in, msg_send2, send2_guards, tx_bytes}
use Rattle.ffa_model.specs.Notifications.{has_bitmaps_in, manager_class, message_bits, notifications_of}
use Rattle.ffa_model.specs.Registers.{decode}
use Rattle.ffa_model.specs.Setup.{info_bytes, is_count_alone, uuid_bytes}
use Rattle.ffa_model.specs.Step.{serve, service, state_after, step}
use Rattle.ffa_model.specs.declared.call.Transfer.{Transfer}
use Rattle.ffa_model.specs.Transactions.{next_handle, open_of, scene_of}
use Rattle.ffa_model.proofs.Guards.{guard-passes}
use Rattle.ffa_laws.specs.Steady.{IsSteady}
use Rattle.ffa_laws.specs.Events.{Event, Filled, Item, Own, Pending, Told, call_events, events, items, notified, public_change, where_passed, where_true}
use Rattle.ffa_laws.specs.Isolation.{fills_rx_page, is_rx, is_send2}
use Rattle.ffa_laws.specs.OwnAccess.{is_call}
use Rattle.ffa_laws.specs.RunIntegrity.{RunIntegrity, is_quiet}
use Rattle.ffa_laws.proofs.Form.{accessed-kept, served-kept, waited-kept}
use Rattle.ffa_laws.proofs.Holders.{handle_at-reheld}
use Rattle.ffa_laws.proofs.Integrities.{page-kept}
use Rattle.ffa_laws.proofs.Kept.{known-before}
use Rattle.ffa_laws.proofs.OwnBuffers.{rx-kept}
use Rattle.ffa_laws.proofs.Laws.{steady-step}
use Rattle.ffa_laws.proofs.Opened.{unnamed-opened}
use Rattle.ffa_laws.proofs.ReadBacks.{retrieve-kept}
use Rattle.ffa_laws.proofs.ReturnLaws.{unnamed-still}
use Rattle.ffa_laws.proofs.SendLaws.{fresh, free, no-offer, offer, offered-owner}
use Rattle.ffa_laws.proofs.Taken as retrieve
use Rattle.ffa_laws.proofs.Versions.{version-leaves}
use Rattle.ffa_laws.proofs.Taken.{Taken, state-taken, taken}

module _ (s : State) (steady : IsSteady s) (e p : ℕ) (owned : owner_of s p ≡ e) (unnamed : handle_at s p ≡ None) (other : s.runner ≢ e) where
  unnamed-sent : (kind : Kind) (x : Transfer) → first_failure (memory_send s kind x).guards ≡ None → handle_at (memory_send s kind x).state p ≡ None
  unnamed-sent kind x none = of (send_read s kind x.total) none
    where
      of : (o : Option SendRecord) → first_failure (send_guards s.ffa (scene_of s) s.runner x o) ≡ None → handle_at (memory_sent s kind o) p ≡ None
      of None none = absurd (no-offer s x none)
      of (Some r) none =
          let good = offer s x r none in
          unnamed-opened s steady (next_handle (open_of s) s.runner) (transaction_sent s kind r) (fresh s steady kind r good) (free s steady kind r good) p
          (elim (cases_Bool (names s r.ranges p)) [
            | inl named ↦ absurd (other (sym (offered-owner s steady kind r good p named) ∙ owned))
            | inr away ↦ away
          ])
          unnamed

  unnamed-retrieved : (x : Transfer) → Taken s x → handle_at (receiver_retrieve s x).state p ≡ None
  unnamed-retrieved x its = ap (λ t. handle_at t p) (state-taken s x its) ∙ of its.of.kind
    where
      held : handle_at (retrieve.taken_as s x its Share) p ≡ None
      held = handle_at-reheld s steady its.asked.handle its.of its.is.there (retrieve.holders s x its) p ∙ unnamed

      of : (kind : Kind) → handle_at (retrieve.taken_as s x its kind) p ≡ None
      of Donate = unnamed-still s steady its.asked.handle p unnamed
      of _ = held

  unnamed-relinquished : (o : Option RelinquishDesc) → handle_at (relinquished s o) p ≡ None
  unnamed-relinquished None = unnamed
  unnamed-relinquished (Some d) = of (transaction_of s d.handle) refl
    where
      of : (o : Option Transaction) → transaction_of s d.handle ≡ o → handle_at (relinquished_from s d o) p ≡ None
      of None there = unnamed
      of (Some t) there = handle_at-reheld s steady d.handle t there (finite.remove t.held s.runner) p ∙ unnamed

  unnamed-service : (call : calls.Call) → first_failure (service s call).guards ≡ None → handle_at (service s call).state p ≡ None
  unnamed-service (PartitionInfoGet uuid flags) none = elim (is_count_alone flags) as (λ b. handle_at (cond b s (filled s s.runner (info_bytes s.ffa (version_of s s.runner) s.parties (uuid_bytes uuid)))) p ≡ None) [ true ↦ unnamed | false ↦ unnamed ]
  unnamed-service (Version word) none = version-leaves (λ t. handle_at t p ≡ None) s.ffa s word unnamed (λ version. unnamed)
  unnamed-service (MsgWait flags) none = waited-kept (λ t. handle_at t p ≡ None) s flags unnamed unnamed
  unnamed-service (MemDonate x) none = unnamed-sent Donate x none
  unnamed-service (MemLend x) none = unnamed-sent Lend x none
  unnamed-service (MemShare x) none = unnamed-sent Share x none
  unnamed-service (MemRetrieve x) none = retrieve-kept (λ t. handle_at t p ≡ None) s x (λ passed. unnamed-retrieved x (taken s x passed)) unnamed (λ bytes. unnamed) none
  unnamed-service MemRelinquish none = unnamed-relinquished (relinquish_read s)
  unnamed-service (MemReclaim handle flags) none = unnamed-still s steady handle.0 p unnamed
  unnamed-service call none = unnamed

  pub unnamed-kept : (op : Op) → handle_at (step s op).state p ≡ None
  unnamed-kept (Call x) = served-kept (λ t. handle_at t p ≡ None) s (service s (decode x)) unnamed (unnamed-service (decode x))
  unnamed-kept (Load address size) = accessed-kept (λ t. handle_at t p ≡ None) s s (Data (number_at s address (size_of size))) (read_fault s address (size_of size)) unnamed (λ none. unnamed)
  unnamed-kept (Store address size value) = accessed-kept (λ t. handle_at t p ≡ None) s (stored s address (little_bytes (size_of size) value)) Done (store_fault s address (size_of size)) unnamed (λ none. unnamed)
  unnamed-kept (Fetch address) = accessed-kept (λ t. handle_at t p ≡ None) s s (Data (number_at s address 4)) (fetch_fault s address) unnamed (λ none. unnamed)

-- ---- whoever is told no message into RX gets none
passed : (o : Option ErrorCode) → is_none o ≡ true → o ≡ None
passed None is = refl
passed (Some code) is = absurd (false≢true is)

abbrev are_quiet_events : Bool → List Event → Bool
are_quiet_events rx es = list_all (is_quiet rx) (map (λ event. Told event) es)

told-filled : (e : ℕ) (s : State) (p : ℕ) (call : calls.Call) → is_send2 call ≡ true → fills_rx_page s e p ≡ true → are_quiet_events true (call_events e s call) ≡ false
told-filled e s p MsgSend2 is fills =
    let (none, its) = and_parts (is_none (first_failure (msg_send2 s).guards)) _ fills in
    let (receiver, rx) = and_parts ((header_in (tx_bytes s s.runner)).receiver == e) _ its in
    go (first_failure (msg_send2 s).guards) (passed (first_failure (msg_send2 s).guards) none) ((header_in (tx_bytes s s.runner)).receiver == e) receiver
  where
    go : (g : Option ErrorCode) → g ≡ None → (b : Bool) → b ≡ true
        → are_quiet_events true (where_passed g (where_true b (Filled (message_in (tx_bytes s s.runner)) ∷ []) ++ notified e s (msg_send2 s).state (where_true ((header_in (tx_bytes s s.runner)).receiver == e && has_bitmaps_in (notifications_of s) e) (Pending manager_class message_bits ∷ []))) ++ public_change s (serve s MsgSend2).state) ≡ false
    go None none true is = refl
    go None none false is = absurd (false≢true is)
    go (Some code) none b is = absurd (some_none none)
      where
        some_none : Some code ≡ None → ⊥
        some_none e = cc
told-filled e s p call is fills = absurd (false≢true is)

-- whoever gets a message into RX is an endpoint, and the page is one of its RX
filled-rx : (e : ℕ) (s : State) (p : ℕ) → fills_rx_page s e p ≡ true → (is_known s e ≡ true) × (is_rx s e p ≡ true)
filled-rx e s p fills =
    let (none, its) = and_parts (is_none (first_failure (msg_send2 s).guards)) _ fills in
    let (receiver, rx) = and_parts ((header_in (tx_bytes s s.runner)).receiver == e) _ its in
    let guards = send2_guards s.parties s.buffers (version_of s s.runner) s.runner (header_in (tx_bytes s s.runner)) in
    let known = guard-passes guards 4 (sym (passed (first_failure guards) none)) in
    (ap (is_known s) (sym (eqb-true (header_in (tx_bytes s s.runner)).receiver e receiver)) ∙ known, rx)

not_filled : (e : ℕ) (s : State) (p : ℕ) (rx : Bool) (op : Op) → (is_known s e ≡ true → is_rx s e p ≡ true → rx ≡ true) → are_quiet_events rx (events e s op) ≡ true → (is_call is_send2 op && fills_rx_page s e p) ≡ false
not_filled e s p rx (Call x) its quiet = elim (cases_Bool (is_send2 (decode x) && fills_rx_page s e p)) [
  | inl both ↦
      let (is, fills) = and_parts (is_send2 (decode x)) (fills_rx_page s e p) both in
      let (known, of) = filled-rx e s p fills in
      absurd (true≢false (sym quiet ∙ ap (λ b. are_quiet_events b (call_events e s (decode x))) (its known of) ∙ told-filled e s p (decode x) is fills))
  | inr not ↦ not
]
not_filled e s p rx _ its quiet = refl

-- ---- over a run
quiet-parts : (rx : Bool) (xs ys : List Item) → list_all (is_quiet rx) (xs ++ ys) ≡ true → (list_all (is_quiet rx) xs ≡ true) × (list_all (is_quiet rx) ys ≡ true)
quiet-parts rx [] ys all = (refl, all)
quiet-parts rx (x ∷ xs) ys all =
    let (here, rest) = and_parts (is_quiet rx x) (list_all (is_quiet rx) (xs ++ ys)) all in
    let (before, after) = quiet-parts rx xs ys rest in
    ((λ i. here i && before i), after)

stays : (ops : List Op) (s : State) → IsSteady s → (e p : ℕ) (rx : Bool) → (is_known s e ≡ true → is_rx s e p ≡ true → rx ≡ true)
    → owner_of s p ≡ e → handle_at s p ≡ None → list_all (is_quiet rx) (items e s ops) ≡ true
    → (page_at (state_after s ops) p ≡ page_at s p) × (handle_at (state_after s ops) p ≡ None)
stays [] s steady e p rx its owned unnamed quiet = (refl, unnamed)
stays (op ∷ ops) s steady e p rx its owned unnamed quiet =
    elim (s.runner == e) as (λ b. (s.runner == e) ≡ b → list_all (is_quiet rx) (cond b (Own op ∷ []) (map (λ event. Told event) (events e s op)) ++ items e (step s op).state ops) ≡ true
    → (page_at (state_after (step s op).state ops) p ≡ page_at s p) × (handle_at (state_after (step s op).state ops) p ≡ None)) [
      | true ↦ λ mine quiet. absurd (false≢true quiet)
      | false ↦ λ differ quiet.
          let (here, rest) = quiet-parts rx (map (λ event. Told event) (events e s op)) (items e (step s op).state ops) quiet in
          let other : s.runner ≢ e = λ same. true≢false (sym (eq-eqb s.runner e same) ∙ differ) in
          let page : page_at (step s op).state p ≡ page_at s p = page-kept s steady e p owned unnamed other op (not_filled e s p rx op its here) in
          let rx_still : is_known (step s op).state e ≡ true → is_rx (step s op).state e p ≡ true → rx ≡ true =
          λ known is. (let before = known-before s op e known in its before (sym (rx-kept s steady e before other p op) ∙ is)) in
          let later = stays ops (step s op).state (steady-step s steady op) e p rx rx_still (ap (λ o. option_map_or (λ (q : Page). q.owner) o 0x8000) page ∙ owned) (unnamed-kept s steady e p owned unnamed other op) rest in
          (later.0 ∙ page, later.1)
    ] refl quiet

pub run_integrity : (s : State) (ops : List Op) → IsSteady s → RunIntegrity s ops
run_integrity s ops steady =
    record {
      page = λ e p owned unnamed quiet. (stays ops s steady e p (is_rx s e p) (λ known is. is) owned unnamed quiet).0;
      alone = λ e p owned unnamed quiet. (stays ops s steady e p (is_rx s e p) (λ known is. is) owned unnamed quiet).1;
    }
