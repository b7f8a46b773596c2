-- SPDX-License-Identifier: MIT OR Apache-2.0
-- An indirect message of the runner: what stands in its TX, and what the call leaves.
use Rattle.std.proofs.Common.{◌≡◌, ◌∙◌, ℕ, zero, suc, ◌<◌, true, List, [], length, map, get_or, Option, Some, None, Result, Ok, Err, refl, sym, ap, subst, arith, inl, inr}
use Rattle.std.specs.Prelude.{◌==◌, false, IfOk, OnOk, OnErr}
use Rattle.std.specs.Option.{option_map_or}
use Rattle.std.specs.Result.{result_err}
use Rattle.std.proofs.lemmas.Bool.{cases_Bool, cases_lt, eqb-false, not-true}
use Rattle.std.proofs.lemmas.Bool.Decides.{nat_tests}
use Rattle.std.proofs.lemmas.List.{get_or_past}
use Rattle.std.proofs.lemmas.Option.{none-some}
use Rattle.ffa_model.proofs.Runs.{flat-run-same}
use Rattle.ffa_model.specs.Lists.{is_in_run}
use Rattle.ffa_model.specs.declared.call.Reply.TheVariants.{Error}
use Rattle.ffa_model.specs.declared.endpoint.EndpointId.{EndpointId}
use Rattle.ffa_model.specs.declared.operation.ErrorCode.{ErrorCode}
use Rattle.ffa_model.specs.Buffers.{buffers_in, buffers_with_rx, filled}
use Rattle.ffa_model.specs.Calls.{answered, first_failure, replied, served, success}
use Rattle.ffa_model.specs.First.{first, party_of}
use Rattle.ffa_model.specs.Identifiers.{identifier, place}
use Rattle.ffa_model.specs.Memory.{page_bytes, run_bytes}
use Rattle.ffa_model.specs.Messages.{delivered, header_in, message_in, msg_send2, send2_guards, tx_bytes}
use Rattle.ffa_model.specs.Notifications.{Notifications, with_notifications, manager_class, message_bits, with_set}
use Rattle.ffa_model.specs.Ram.{Ram, page_of}
use Rattle.ffa_model.specs.State.{State, Page, Party, Buffers, is_known, is_known_among, version_of}
use Rattle.ffa_model.proofs.Guards.{guard-passes}
use Rattle.ffa_rxtx.specs.Parts.{tx_in, with_rx_bytes}
use Rattle.ffa_messages.specs.Parts.{AreEndsApart, AreInRam, receiver_in, sent_in}
use Rattle.ffa_spmc.specs.Meaning.{HasTables, IsManager, Parts, access_by_place, state_of}
use Rattle.ffa_spmc.specs.Unowned.{KeepsUnowned}
use Rattle.ffa_spmc.proofs.Fills.{buffers-there, in-ram, runner-there, state-filled, tables-filled, tables-still}
use Rattle.ffa_spmc.proofs.Held.{each, parties_are}
use Rattle.ffa_spmc.proofs.Agreements.{agrees}
use Rattle.ffa_spmc.proofs.Machines.{StillHasTables}
use Rattle.ffa_spmc.proofs.Unowned.{unowned-filled, unowned-same}
use Rattle.ffa_model.specs.declared.endpoint.Version.{Version}

-- the endpoint at a place is there, and its place is this one
known-at : (n i : ℕ) → i < n → is_known_among n (identifier i) ≡ true
known-at n zero lt = refl
known-at n (suc i) lt = grind (arith, nat_tests)

place-at : (i : ℕ) → place (identifier i) ≡ i
place-at zero = refl
place-at (suc i) = omega arith

module _ (x : Parts) (machine : IsManager x) where
  abbrev s : State
  s = state_of x

  abbrev parties : List Party
  parties = map party_of x.manifest.endpoints.items

  -- all buffers are in RAM
  pub buffers-in-ram : AreInRam (length x.ram.pages) x.kept.buffers
  buffers-in-ram i b is = elim (cases_lt i (length x.kept.buffers)) [
    | inl lt ↦
        (let known : is_known s (identifier i) ≡ true = known-at (length s.parties) i (subst (λ (n : ℕ). i < n) (each x machine ∙ sym (parties_are x)) lt) in
        let own : buffers_in x.kept.buffers (identifier i) ≡ Some b = ap (λ (k : ℕ). get_or x.kept.buffers k None) (place-at i) ∙ is in
        in-ram x machine (identifier i) known b own)
    | inr past ↦ absurd (none-some b (sym (get_or_past x.kept.buffers i None past) ∙ is))
  ]

  module _ (e : ℕ) (at : e ≡ x.kept.chain.runner) where
    abbrev tx : List ℕ
    tx = sent_in x.ram x.kept.buffers e

    abbrev receiver : ℕ
    receiver = receiver_in x.ram x.kept.buffers e

    -- TX holds what RAM does
    tx-is : tx ≡ tx_bytes s e
    tx-is = of (buffers_in x.kept.buffers e) refl
      where
        of : (o : Option Buffers) → buffers_in x.kept.buffers e ≡ o → tx_in x.ram o ≡ option_map_or (λ (b : Buffers). run_bytes s b.tx b.pages) o []
        of None is = refl
        of (Some b) is =
            flat-run-same (page_of x.ram) (page_bytes s) b.tx b.pages (λ p its.
            let (page, there) = (buffers-there x machine e (runner-there x machine e at) b is).tx p its in
            (agrees x machine).bytes p page there ∙ sym (ap (λ (o : Option Page). option_map_or (λ (q : Page). q.bytes) o []) there))

    pub sent-is : tx ≡ tx_bytes s x.kept.chain.runner
    sent-is = tx-is ∙ ap (tx_bytes s) at

  -- by its sender's form
  module _ (e : ℕ) (at : e ≡ x.kept.chain.runner) (version : Version) (spoken : version ≡ version_of s s.runner) where
    receiver-known : first_failure (send2_guards parties x.kept.buffers version e (header_in (tx e at))) ≡ None → is_known s (receiver e at) ≡ true
    unfolding first
    receiver-known none = guard-passes (send2_guards parties x.kept.buffers version e (header_in (tx e at))) 4 (sym none)

    receiver-other : first_failure (send2_guards parties x.kept.buffers version e (header_in (tx e at))) ≡ None → (receiver e at == e) ≡ false
    receiver-other none =
        not-true (receiver e at == e) (guard-passes (send2_guards parties x.kept.buffers version e (header_in (tx e at))) 5 (sym none))

    -- where the message passes its checks, the receiver's RX is beside the sender's TX: each page has one owner
    pub ends-apart : AreEndsApart parties x.ram x.kept.buffers version e
    ends-apart none from to own_from own_to p in_tx = elim (cases_Bool (is_in_run to.rx to.pages p)) [
      | inl in_rx ↦
          (let tx_owner = (buffers-there x machine e (runner-there x machine e at) from own_from).tx_owner p in_tx in
          let rx_owner = (buffers-there x machine (receiver e at) (receiver-known none) to own_to).rx_owner p in_rx in
          absurd (eqb-false (receiver e at) e (receiver-other none) (sym rx_owner ∙ tx_owner)))
      | inr beside ↦ beside
    ]

    module _ (r : Result EndpointId ErrorCode) (new : Ram) (list : List (Option Buffers))
        (refusal : result_err r ≡ first_failure (send2_guards parties x.kept.buffers version e (header_in (tx e at))))
        (kept_ram : OnErr r (new ≡ x.ram)) (kept_buffers : OnErr r (list ≡ x.kept.buffers))
        (filled_ram : OnOk r (new ≡ with_rx_bytes x.ram (buffers_in x.kept.buffers (receiver e at)) (message_in (tx e at))))
        (full : OnOk r (list ≡ buffers_with_rx x.kept.buffers (receiver e at) true)) (to : IfOk r (λ f. f.0 ≡ (receiver e at))) where
      -- the parts after it, with these notifications
      abbrev pub after_send : Notifications → Parts
      after_send bitmaps = record x { ram = new; kept = record x.kept { buffers = list; bitmaps = bitmaps } }

      same-refusal : first_failure (send2_guards parties x.kept.buffers version e (header_in (tx e at))) ≡ first_failure (msg_send2 s).guards
      unfolding first
      same-refusal = λ i. first_failure (send2_guards parties x.kept.buffers (spoken i) (at i) (header_in (sent-is e at i)))

      -- a message that is sent
      module _ (f : EndpointId) (is : r ≡ Ok f) where
        passes : first_failure (send2_guards parties x.kept.buffers version e (header_in (tx e at))) ≡ None
        passes = sym (ap result_err (sym is) ∙ refusal)

        to-receiver : f.0 ≡ (receiver e at)
        to-receiver = subst (λ (o : Result EndpointId ErrorCode). IfOk o (λ f. f.0 ≡ (receiver e at))) is to

        wrote : new ≡ with_rx_bytes x.ram (buffers_in x.kept.buffers (receiver e at)) (message_in (tx e at))
        wrote = subst (λ (o : Result EndpointId ErrorCode). OnOk o (new ≡ with_rx_bytes x.ram (buffers_in x.kept.buffers (receiver e at)) (message_in (tx e at)))) is filled_ram

        fills : list ≡ buffers_with_rx x.kept.buffers (receiver e at) true
        fills = subst (λ (o : Result EndpointId ErrorCode). OnOk o (list ≡ buffers_with_rx x.kept.buffers (receiver e at) true)) is full

        pub told-known : is_known s f.0 ≡ true
        told-known = subst (λ (k : ℕ). is_known s k ≡ true) (sym to-receiver) (receiver-known passes)

        pub receiver-there : is_known s (receiver e at) ≡ true
        receiver-there = receiver-known passes

        pub tables-kept : HasTables new x.manifest (access_by_place s)
        tables-kept = subst (λ (ram : Ram). HasTables ram x.manifest (access_by_place s)) (sym wrote) (tables-still x machine (receiver e at) (receiver-known passes) (message_in (tx e at)))

        pub tables-sent : StillHasTables x new
        tables-sent = subst (StillHasTables x) (sym wrote) (tables-filled x machine (receiver e at) (receiver-known passes) (message_in (tx e at)))

        module _ (bitmaps : Notifications) (raised : bitmaps ≡ with_set x.kept.bitmaps f.0 manager_class message_bits) where
          told : (y : State) → state_of (record x { ram = new; kept = record x.kept { buffers = list } }) ≡ y → state_of (after_send bitmaps) ≡ with_notifications y (with_set x.kept.bitmaps (receiver e at) manager_class message_bits)
          unfolding first
          told y same = λ i. with_notifications (same i) ((raised ∙ ap (λ (e : ℕ). with_set x.kept.bitmaps e manager_class message_bits) to-receiver) i)

          delivers : state_of (after_send bitmaps) ≡ (msg_send2 s).state
          unfolding first
          delivers =
              told (filled s (receiver e at) (message_in (tx e at)))
              ((λ i. state_of (record x { ram = wrote i; kept = record x.kept { buffers = fills i } }))
              ∙ state-filled x machine (receiver e at) (receiver-known passes) (message_in (tx e at)))
              ∙ (λ i. delivered s (header_in (sent-is e at i)).receiver (message_in (sent-is e at i)))

          pub sent : replied (state_of (after_send bitmaps)) (success 0 0) ≡ served s (msg_send2 s)
          sent = ap (λ (t : State). replied t (success 0 0)) delivers ∙ sym (ap (λ o. answered o s (msg_send2 s).state (msg_send2 s).reply) (sym same-refusal ∙ passes))

      -- one that is refused
      module _ (code : ErrorCode) (is : r ≡ Err code) where
        pub unsent-parts : after_send x.kept.bitmaps ≡ x
        unsent-parts =
            λ i. record x {
              ram = subst (λ (o : Result EndpointId ErrorCode). OnErr o (new ≡ x.ram)) is kept_ram i;
              kept = record x.kept { buffers = subst (λ (o : Result EndpointId ErrorCode). OnErr o (list ≡ x.kept.buffers)) is kept_buffers i };
            }

        pub unsent : replied (state_of (after_send x.kept.bitmaps)) (Error code) ≡ served s (msg_send2 s)
        unsent =
            ap (λ (y : Parts). replied (state_of y) (Error code)) unsent-parts
            ∙ ap (λ o. answered o s (msg_send2 s).state (msg_send2 s).reply) (ap result_err (sym is) ∙ refusal ∙ same-refusal)

      -- what nobody owns keeps its bytes
      pub send-unowned : KeepsUnowned s x.ram new
      send-unowned = of r refl
        where
          of : (o : Result EndpointId ErrorCode) → r ≡ o → KeepsUnowned s x.ram new
          of (Ok f) is = subst (KeepsUnowned s x.ram) (sym (wrote f is)) (unowned-filled x machine (receiver e at) (receiver-known (passes f is)) x.ram (message_in (tx e at)))
          of (Err code) is = unowned-same s x.ram new (subst (λ (o : Result EndpointId ErrorCode). OnErr o (new ≡ x.ram)) is kept_ram)
