-- SPDX-License-Identifier: MIT OR Apache-2.0
-- A call changes no byte of its caller's TX: it stands in no transaction, is sent by none, and is no RX.
use Rattle.std.proofs.Common.{◌≡◌, ◌≢◌, ◌∙◌, ℕ, ◌+◌, ◌<◌, Bool, true, false, cond, not, List, length, Option, Some, None, refl, sym, ap, subst, arith, inl, inr, ◌||◌, nat_le}
use Rattle.std.specs.Option.{option_map, option_map_or}
use Rattle.std.proofs.lemmas.Bool.{and_parts, cases_lt, eq-eqb, false≢true, leb-true, or_cases}
use Rattle.std.proofs.lemmas.List.{get_or_past}
use Rattle.std.proofs.lemmas.Option.{same_Some}
use Rattle.ffa_model.specs.declared.descriptor.RelinquishDesc.{RelinquishDesc}
use Rattle.ffa_model.specs.declared.call.Call as calls
use Rattle.ffa_model.specs.declared.call.Call.TheVariants.{PartitionInfoGet, MsgWait, MemDonate, MemLend, MemShare, MemRetrieve, MemRelinquish, MemReclaim, MsgSend2, Version}
use Rattle.ffa_model.specs.declared.call.Transfer.{Transfer}
use Rattle.ffa_model.specs.declared.operation.Op.TheVariants.{Call}
use Rattle.ffa_model.specs.declared.rights.Kind.{Kind}
use Rattle.ffa_model.specs.declared.rights.Kind.TheVariants.{Share, Lend, Donate}
use Rattle.ffa_model.specs.declared.transaction.Range.{Range}
use Rattle.ffa_model.specs.Access.{handle_at, is_naming, names, ownership_of}
use Rattle.ffa_model.specs.Bits.{is_set}
use Rattle.ffa_model.specs.Buffers.{filled, filled_pages, is_usable}
use Rattle.ffa_model.specs.Calls.{first_failure}
use Rattle.ffa_model.specs.Identifiers.{place}
use Rattle.ffa_model.specs.Lists.{is_in_run}
use Rattle.ffa_model.specs.Memory.{page_bytes, zeroed_if, zeroed_page}
use Rattle.ffa_model.specs.MemoryRetrieve.{receiver_retrieve}
use Rattle.ffa_model.specs.MemoryReturn.{named_ranges, relinquish_read, relinquished, relinquished_from}
use Rattle.ffa_model.specs.MemorySend.{is_buffer, is_sendable, memory_send, memory_sent, send_guards, send_read}
use Rattle.ffa_model.specs.Messages.{header_in, message_in, msg_send2, send2_guards, tx_bytes}
use Rattle.ffa_model.specs.Registers.{decode}
use Rattle.ffa_model.specs.Rights.{may_store}
use Rattle.ffa_model.specs.SendDescriptor.{SendRecord}
use Rattle.ffa_model.specs.Setup.{info_bytes, is_count_alone, uuid_bytes}
use Rattle.ffa_model.specs.SoundState.{IsSoundState}
use Rattle.ffa_model.specs.State.{State, Buffers, Page, Transaction, buffers_of, owner_of, page_at, transaction_of, version_of}
use Rattle.ffa_model.specs.Step.{service, step}
use Rattle.ffa_model.specs.Transactions.{scene_of}
use Rattle.ffa_model.proofs.Accesses.{page-changed}
use Rattle.ffa_model.proofs.Guards.{guard-passes}
use Rattle.ffa_model.proofs.Handles.{none-passes}
use Rattle.ffa_model.proofs.KeptSend.{any-at}
use Rattle.ffa_model.proofs.NamedPages.{listed-each}
use Rattle.ffa_model.proofs.Own.{usable-parts}
use Rattle.ffa_model.proofs.Runs.{in-run}
use Rattle.ffa_laws.specs.Reads.{AreBeside, AreReadSame}
use Rattle.ffa_laws.specs.Steady.{IsSteady}
use Rattle.ffa_laws.specs.Writers.{LeavesTx}
use Rattle.ffa_laws.proofs.Form.{served-kept, waited-kept}
use Rattle.ffa_laws.proofs.Integrities.{bytes_of}
use Rattle.ffa_laws.proofs.NoMore.{reads_no_more}
use Rattle.ffa_laws.proofs.ReadBacks.{retrieve-kept}
use Rattle.ffa_laws.proofs.SendLaws.{IsOffer, no-offer, offer}
use Rattle.ffa_laws.proofs.SoundSteady.{sound-steady}
use Rattle.ffa_laws.proofs.Stores.{same-beside}
use Rattle.ffa_laws.proofs.Taken as retrieve
use Rattle.ffa_laws.proofs.Taken.{Taken, state-taken, taken}
use Rattle.ffa_laws.proofs.Versions.{version-leaves}
use Rattle.ffa_laws.proofs.Writers.{bytes_in, elsewhere-filled}

module _ (s : State) (sound : IsSoundState s) (b : Buffers) (has : buffers_of s s.runner ≡ Some b) (p : ℕ) (its : is_in_run b.tx b.pages p ≡ true) where
  steady : IsSteady s
  steady = sound-steady s sound

  usable : is_usable s.runner (ownership_of s) p ≡ true
  usable = (sound.buffers s.runner b steady.runner has).tx p its

  unnamed : handle_at s p ≡ None
  unnamed = (usable-parts s s.runner p usable).1

  inside : p < length s.pages
  inside = elim (cases_lt p (length s.pages)) [
    | inl lt ↦ lt
    | inr past ↦ absurd (false≢true (sym (ap (λ o. may_store (option_map (λ (page : Page). page.own_right) o)) (get_or_past s.pages p None past)) ∙ (and_parts _ _ usable).1))
  ]

  -- no page of RX, which is another one's or apart
  off-rx : (q : ℕ) → is_in_run b.rx b.pages q ≡ true → p ≢ q
  off-rx q rx same =
      let (low, high) = in-run b.tx b.pages p its in
      let (least, most) = in-run b.rx b.pages q rx in
      elim (or_cases (nat_le (b.tx + b.pages) b.rx) (nat_le (b.rx + b.pages) b.tx) (sound.buffers s.runner b steady.runner has).apart) [
        | inl before ↦ (let far = leb-true (b.tx + b.pages) b.rx before in omega (arith, low, high, least, most, far, same))
        | inr behind ↦ (let far = leb-true (b.rx + b.pages) b.tx behind in omega (arith, low, high, least, most, far, same))
      ]

  by-runner : (ps : List (Option Page)) (bytes : List ℕ) → bytes_in (filled_pages ps bytes (buffers_of s s.runner)) p ≡ bytes_in ps p
  by-runner ps bytes = elsewhere-filled ps p bytes (buffers_of s s.runner) (λ c is q rx.
      off-rx q (subst (λ (x : Buffers). is_in_run x.rx x.pages q ≡ true) (same_Some c b (sym is ∙ has)) rx))

  -- zeros of other pages
  off-zeros : (asked : Bool) (ranges : List Range) → names s ranges p ≡ false → bytes_in (zeroed_if asked s ranges).pages p ≡ bytes_in s.pages p
  off-zeros false ranges other = refl
  off-zeros true ranges other =
      ap bytes_of (page-changed s ranges zeroed_page p refl ∙ ap (λ c. cond c (zeroed_page (page_at s p)) (page_at s p)) other)

  not-open : (h : ℕ) (t : Transaction) → transaction_of s h ≡ Some t → names s t.ranges p ≡ false
  not-open h t there = sym (ap (is_naming s p) there) ∙ none-passes (is_naming s p) refl s.transactions h unnamed

  a-buffer : is_buffer s.buffers p ≡ true
  a-buffer = any-at (λ o. option_map_or (λ (x : Buffers). is_in_run x.tx x.pages p || is_in_run x.rx x.pages p) o false) s.buffers (place s.runner) b has (ap (λ c. c || is_in_run b.rx b.pages p) its)

  not-sent : (r : SendRecord) → IsOffer s r → names s r.ranges p ≡ false
  not-sent r good = of (names s r.ranges p) refl
    where
      of : (c : Bool) → names s r.ranges p ≡ c → names s r.ranges p ≡ false
      of false is = is
      of true is =
          absurd (false≢true (sym (ap not a-buffer)
          ∙ (and_parts _ _ (listed-each (is_sendable s.runner (ownership_of s) s.buffers) (names s r.ranges) (length s.pages) (λ q. q) good.free p inside is)).1))

  -- ---- calls
  send-off : (kind : Kind) (x : Transfer) → first_failure (memory_send s kind x).guards ≡ None → bytes_in (memory_send s kind x).state.pages p ≡ bytes_in s.pages p
  send-off kind x none = of (send_read s kind x.total) none
    where
      of : (o : Option SendRecord) → first_failure (send_guards s.ffa (scene_of s) s.runner x o) ≡ None → bytes_in (memory_sent s kind o).pages p ≡ bytes_in s.pages p
      of None none = absurd (no-offer s x none)
      of (Some r) none = off-zeros r.zero r.ranges (not-sent r (offer s x r none))

  retrieve-off : (x : Transfer) → Taken s x → bytes_in (receiver_retrieve s x).state.pages p ≡ bytes_in s.pages p
  retrieve-off x took =
      ap (λ (t : State). bytes_in t.pages p) (state-taken s x took)
      ∙ by-runner (retrieve.before s x took).pages (retrieve.response s x took)
      ∙ ap bytes_of (retrieve.unnamed-before s x took steady p unnamed)

  relinquish-off : (o : Option RelinquishDesc) → bytes_in (relinquished s o).pages p ≡ bytes_in s.pages p
  relinquish-off None = refl
  relinquish-off (Some d) = of (transaction_of s d.handle) refl
    where
      of : (o : Option Transaction) → transaction_of s d.handle ≡ o → bytes_in (relinquished_from s d o).pages p ≡ bytes_in s.pages p
      of None there = refl
      of (Some t) there = off-zeros d.zero t.ranges (not-open d.handle t there)

  reclaim-off : (handle : ℕ) (asked : Bool) → bytes_in (zeroed_if asked s (named_ranges (transaction_of s handle))).pages p ≡ bytes_in s.pages p
  reclaim-off handle asked = of (transaction_of s handle) refl
    where
      of : (o : Option Transaction) → transaction_of s handle ≡ o → bytes_in (zeroed_if asked s (named_ranges o)).pages p ≡ bytes_in s.pages p
      of None there = off-zeros asked (named_ranges None) refl
      of (Some t) there = off-zeros asked t.ranges (not-open handle t there)

  -- a message fills another's RX
  message-off : first_failure (msg_send2 s).guards ≡ None → bytes_in (msg_send2 s).state.pages p ≡ bytes_in s.pages p
  message-off none =
      let to : ℕ = (header_in (tx_bytes s s.runner)).receiver in
      let guards = send2_guards s.parties s.buffers (version_of s s.runner) s.runner (header_in (tx_bytes s s.runner)) in
      let known = guard-passes guards 4 (sym none) in
      let other = guard-passes guards 5 (sym none) in
      elsewhere-filled s.pages p (message_in (tx_bytes s s.runner)) (buffers_of s to) (λ c is q rx same.
      let owner : owner_of s q ≡ to = (usable-parts s to q ((sound.buffers to c known is).rx q rx)).0 in
      let own : owner_of s p ≡ s.runner = (usable-parts s s.runner p usable).0 in
      false≢true (sym (ap not (eq-eqb to s.runner (sym owner ∙ ap (owner_of s) (sym same) ∙ own))) ∙ other))

  off-service : (call : calls.Call) → first_failure (service s call).guards ≡ None → page_bytes (service s call).state p ≡ page_bytes s p
  off-service (PartitionInfoGet uuid flags) none =
      elim (is_count_alone flags) as (λ c. page_bytes (cond c s (filled s s.runner (info_bytes s.ffa (version_of s s.runner) s.parties (uuid_bytes uuid)))) p ≡ page_bytes s p) [
        | true ↦ refl
        | false ↦ by-runner s.pages (info_bytes s.ffa (version_of s s.runner) s.parties (uuid_bytes uuid))
      ]
  off-service (Version word) none = version-leaves (λ t. page_bytes t p ≡ page_bytes s p) s.ffa s word refl (λ version. refl)
  off-service (MsgWait flags) none = waited-kept (λ t. page_bytes t p ≡ page_bytes s p) s flags refl refl
  off-service (MemDonate x) none = send-off Donate x none
  off-service (MemLend x) none = send-off Lend x none
  off-service (MemShare x) none = send-off Share x none
  off-service (MemRetrieve x) none =
      retrieve-kept (λ t. page_bytes t p ≡ page_bytes s p) s x (λ passed. retrieve-off x (taken s x passed)) refl (by-runner s.pages) none
  off-service MemRelinquish none = relinquish-off (relinquish_read s)
  off-service (MemReclaim handle flags) none = reclaim-off handle.0 (is_set 0 flags)
  off-service MsgSend2 none = message-off none
  off-service call none = refl

pub leaves_tx : (s : State) (call : calls.Call) → IsSoundState s → LeavesTx s call
leaves_tx s call sound b p has its = served-kept (λ t. page_bytes t p ≡ page_bytes s p) s (service s call) refl (off-service s sound b has p its call)

-- A call that finds other bytes in TX than it reads, where TX is put back after it, leaves what it leaves without them.
pub by-reading : (s t u : State) (x : List ℕ) (b : Buffers) (named : ℕ → Bool) → IsSoundState s → IsSoundState t → buffers_of s s.runner ≡ Some b
    → ((p : ℕ) → named p ≡ true → is_in_run b.tx b.pages p ≡ true) → AreBeside s t named → AreReadSame s t (Call x)
    → AreBeside (step t (Call x)).state u named → ((p : ℕ) → named p ≡ true → page_bytes u p ≡ page_bytes s p) → u ≡ (step s (Call x)).state
by-reading s t u x b named sound there has tx beside read left back =
    let moved = (reads_no_more s (Call x) sound).state t named there beside read in
    same-beside (step s (Call x)).state u named (record { same = moved.same ∙ left.same; whole = λ p. left.whole p ∙ moved.whole p })
    (λ p its. back p its ∙ sym (leaves_tx s (decode x) sound b p has (tx p its)))
