-- SPDX-License-Identifier: MIT OR Apache-2.0
-- Bytes that an endpoint can't read: what it is told doesn't depend on them, whoever else can read them.
use Rattle.std.proofs.Common.{◌≡◌, ◌∙◌, ℕ, ◌-◌, ◌/◌, Bool, true, false, List, [], ◌∷◌, ◌++◌, take, Option, Some, None, is_some, refl, sym, ap, ◌==◌, ◌%◌, ◌&&◌, ◌||◌, is_none, not}
use Rattle.std.specs.Option.{option_map_or}
use Rattle.std.proofs.Math.Path.{fun_ext}
use Rattle.std.proofs.lemmas.Bool.{false≢true, true≢false}
use Rattle.byteorder.specs.Endian.{little_bytes}
use Rattle.ffa_model.specs.declared.descriptor.RetrieveDesc.{RetrieveDesc}
use Rattle.ffa_model.specs.declared.operation.Op.{Op}
use Rattle.ffa_model.specs.declared.operation.Op.TheVariants.{Call, Store}
use Rattle.ffa_model.specs.declared.call.Call as calls
use Rattle.ffa_model.specs.declared.call.Call.TheVariants.{MsgWait, MemDonate, MemLend, MemShare, MemRetrieve, MemRelinquish, MsgSend2}
use Rattle.ffa_model.specs.declared.rights.Kind.{Kind}
use Rattle.ffa_model.specs.declared.rights.Kind.TheVariants.{Share, Lend, Donate}
use Rattle.ffa_model.specs.declared.transaction.Range.{Range}
use Rattle.ffa_model.specs.Lists.{is_in_run, map_at}
use Rattle.ffa_model.specs.Rights.{may_store}
use Rattle.ffa_model.specs.RelinquishDescriptor.{relinquish_of}
use Rattle.ffa_model.specs.RetrieveDescriptor.{retrieve_of}
use Rattle.ffa_model.specs.SendDescriptor.{SendRecord, send_of}
use Rattle.ffa_model.specs.State.{State, Page, Buffers, Transaction, buffers_of, page_at, transaction_of, version_of}
use Rattle.ffa_model.specs.Access.{access, is_receiver, names, transaction_at}
use Rattle.ffa_model.specs.Calls.{encode, first_failure}
use Rattle.ffa_model.specs.Memory.{fault_of, page_bytes, run_bytes, size_of}
use Rattle.ffa_model.specs.DescriptorPlaces.{in_version}
use Rattle.ffa_model.specs.MemorySend.{is_told_normal, memory_sent, send_read, transaction_from, transaction_sent}
use Rattle.ffa_model.specs.MemoryRetrieve.{retrieve_read, right_for}
use Rattle.ffa_model.specs.Messages.{delivered, header_in, message_in, tx_bytes}
use Rattle.ffa_model.specs.Notifications.{has_bitmaps_in, manager_class, message_bits, notifications_of}
use Rattle.ffa_model.specs.Registers.{decode}
use Rattle.ffa_model.specs.RunStates.{Schedule, msg_wait}
use Rattle.ffa_model.specs.Step.{serve, service, step}
use Rattle.ffa_model.specs.Transactions.{next_handle, open_of}
use Rattle.ffa_model.proofs.Runs.{flat-run-same}
use Rattle.ffa_laws.specs.View.{involves, is_near, kept, view}
use Rattle.ffa_laws.specs.Events.{Event, Wrote, Message, Filled, Pending, Opened, Zeroed, call_events, events, messages, named_pages, notified, opens, public_change, releases, takes, takes_from, taking, told_by, where_passed, where_true}
use Rattle.ffa_laws.specs.Readable.{all_readably, blank, blank_where, blanked, is_unreadable, readable, readably, revealed}
use Rattle.ffa_laws.proofs.Blanks.{access-b, access_at-b, ownership-b, blank-twice, call-b, outcome-b, page-b, sent-b, service-b, state-b}
use Rattle.ffa_laws.proofs.Form.{waited-runs}
use Rattle.ffa_laws.proofs.Maps.{map_at-same, map_at-twice}
use Rattle.ffa_laws.proofs.Clean.{readably-append}
use Rattle.ffa_laws.proofs.ReadRuns.{heard-messages}
use Rattle.ffa_laws.proofs.Readings.{kept-blank, same-access, some-shown, view-blank}

-- what is blank in a larger part anyway
more-blank : (few many : Bool) (page : Option Page) → (few ≡ true → many ≡ true) → blank_where many (blank_where few page) ≡ blank_where many page
more-blank true true page within = blank-twice true page
more-blank true false page within = absurd (false≢true (within refl))
more-blank false many page within = refl

module _ (few many : ℕ → Bool) (within : (p : ℕ) → few p ≡ true → many p ≡ true) where
  blanked-more : (ps : List (Option Page)) → blanked many (blanked few ps) ≡ blanked many ps
  blanked-more ps =
      map_at-twice (λ p page. blank_where (many p) page) (λ p page. blank_where (few p) page) ps
      ∙ map_at-same _ _ ps (λ p page. more-blank (few p) (many p) page (within p))

  named-blank : (x : State) (ranges : List Range) → blanked many (named_pages (blank few x) ranges) ≡ blanked many (named_pages x ranges)
  named-blank x ranges =
      ap (blanked many) (map_at-twice (λ p page. kept (names x ranges p) page) (λ p page. blank_where (few p) page) x.pages
      ∙ map_at-same _ _ x.pages (λ p page. kept-blank (names x ranges p) (few p) page)
      ∙ sym (map_at-twice (λ p page. blank_where (few p) page) (λ p page. kept (names x ranges p) page) x.pages))
      ∙ blanked-more (named_pages x ranges)

  pub same-named : (x y : State) (ranges : List Range) → blank few x ≡ blank few y → blanked many (named_pages x ranges) ≡ blanked many (named_pages y ranges)
  same-named x y ranges same = sym (named-blank x ranges) ∙ ap (λ z. blanked many (named_pages z ranges)) same ∙ named-blank y ranges

opened-alike : (h : ℕ) (t : Transaction) (pages : List (Option Page)) (few many : ℕ → Bool) → ((p : ℕ) → few p ≡ many p)
    → Opened h t (blanked few pages) ∷ [] ≡ Opened h t (blanked many pages) ∷ []
opened-alike h t pages few many alike = ap (λ hides. Opened h t (blanked hides pages) ∷ []) (fun_ext {f = few} {g = many} alike)

owner-blank : (c : Bool) (page : Option Page) → option_map_or (λ (q : Page). q.owner) (blank_where c page) 0x8000 ≡ option_map_or (λ (q : Page). q.owner) page 0x8000
owner-blank false page = refl
owner-blank true None = refl
owner-blank true (Some q) = refl

-- ---- a state, and the same with some pages blank, none of which e can read
module _ (e : ℕ) (s : State) (hides : ℕ → Bool) where
  abbrev b : State
  b = blank hides s

  near-b : (p : ℕ) → is_near e b p ≡ is_near e s p
  near-b p = ap (λ owner. owner == e || involves e (transaction_at s p)) (ap (λ page. option_map_or (λ (q : Page). q.owner) page 0x8000) (page-b s hides p) ∙ owner-blank (hides p) (page_at s p))

  pub unreadable-b : is_unreadable b e ≡ is_unreadable s e
  unreadable-b = fun_ext {f = is_unreadable b e} {g = is_unreadable s e} (λ p. ap is_none (access-b s hides e p))

  readably-b : (x : Event) → readably e b x ≡ readably e s x
  readably-b (Wrote address bytes) = rw (ap is_none (access-b s hides e ((address - s.ram_base) / 4096))) refl
  readably-b (Opened h t pages) = opened-alike h t pages _ _ (λ p. rw (ap is_none (access-b s hides e p)) refl)
  readably-b (Zeroed h) = refl
  readably-b x = refl

  all_readably-b : (xs : List Event) → all_readably e b xs ≡ all_readably e s xs
  all_readably-b [] = refl
  all_readably-b (x ∷ xs) = λ i. readably-b x i ++ all_readably-b xs i

  module _ (away : (p : ℕ) → hides p ≡ true → is_unreadable s e p ≡ true) where
    reads-b : readable e b ≡ readable e s
    reads-b =
        (λ i. blank (unreadable-b i) (view-blank s hides e i))
        ∙ (λ i. record (view e s) { pages = blanked-more hides (is_unreadable s e) away (view e s).pages i })

    module _ (tx-b : tx_bytes b s.runner ≡ tx_bytes s s.runner) where
      opened-b : (kind : Kind) (o : Option SendRecord) → all_readably e s (opens e b kind o) ≡ all_readably e s (opens e s kind o)
      opened-b kind None = refl
      opened-b kind (Some r) =
          ap (λ ram. all_readably e s (where_true (is_receiver e (transaction_sent s kind r)) (Opened (next_handle (open_of s) s.runner) (transaction_from kind (is_told_normal ram s.normal r.ranges) r) (named_pages (memory_sent b kind (Some r)) r.ranges) ∷ []))) (ownership-b s hides)
          ∙ of (is_receiver e (transaction_sent s kind r))
        where
          of : (c : Bool) → all_readably e s (where_true c (Opened (next_handle (open_of s) s.runner) (transaction_sent s kind r) (named_pages (memory_sent b kind (Some r)) r.ranges) ∷ []))
              ≡ all_readably e s (where_true c (Opened (next_handle (open_of s) s.runner) (transaction_sent s kind r) (named_pages (memory_sent s kind (Some r)) r.ranges) ∷ []))
          of true = λ i. Opened (next_handle (open_of s) s.runner) (transaction_sent s kind r) (same-named hides (is_unreadable s e) away (memory_sent b kind (Some r)) (memory_sent s kind (Some r)) r.ranges (sent-b s hides kind (Some r)) i) ∷ []
          of false = refl

      sends-b : (kind : Kind) (total : ℕ) → all_readably e s (opens e b kind (send_read b kind total)) ≡ all_readably e s (opens e s kind (send_read s kind total))
      sends-b kind total = ap (λ tx. all_readably e s (opens e b kind (send_of s.ffa kind (in_version (version_of s s.runner) (take total tx))))) tx-b ∙ opened-b kind (send_read s kind total)

      taken-b : (o : Option RetrieveDesc) → takes e b o ≡ takes e s o
      taken-b None = refl
      taken-b (Some d) = of (transaction_of s d.handle)
        where
          of : (o : Option Transaction) → takes_from e b d o ≡ takes_from e s d o
          of None = refl
          of (Some t) = ap (λ ram. where_true (t.sender == e) (taking t.kind d.handle s.runner (right_for ram t s.runner d) ∷ [])) (ownership-b s hides)

      told-b : (call : calls.Call) → all_readably e s (told_by e b call) ≡ all_readably e s (told_by e s call)
      told-b (MsgWait flags) =
          ap (λ (c : Schedule). all_readably e s (where_true (c.runner == e) (Message (encode (msg_wait s flags).reply) ∷ []))) (waited-runs b flags ∙ sym (waited-runs s flags))
      told-b (MemDonate x) = sends-b Donate x.total
      told-b (MemLend x) = sends-b Lend x.total
      told-b (MemShare x) = sends-b Share x.total
      told-b (MemRetrieve x) =
          ap (all_readably e s) (ap (λ tx. takes e b (retrieve_of s.ffa s.runner (in_version (version_of s s.runner) (take x.total tx)))) tx-b ∙ taken-b (retrieve_read s x.total))
      told-b MemRelinquish = ap (λ tx. all_readably e s (releases e s (relinquish_of tx))) tx-b
      told-b MsgSend2 =
          ap (λ tx. all_readably e s (where_true ((header_in tx).receiver == e) (Filled (message_in tx) ∷ [])
          ++ notified e s (delivered s (header_in tx).receiver (message_in tx))
          (where_true ((header_in tx).receiver == e && has_bitmaps_in (notifications_of s) e) (Pending manager_class message_bits ∷ [])))) tx-b
      told-b call = refl

      passed : {X : Type 0} (o : Option X) (xs ys : List Event) → all_readably e s xs ≡ all_readably e s ys → all_readably e s (where_passed o xs) ≡ all_readably e s (where_passed o ys)
      passed None xs ys same = same
      passed (Some failure) xs ys same = refl

      public-b : (call : calls.Call) → public_change b (serve b call).state ≡ public_change s (serve s call).state
      public-b call =
          ap (public_change s) (call-b s hides tx-b call).state

      calls-b : (call : calls.Call) → all_readably e s (call_events e b call) ≡ all_readably e s (call_events e s call)
      calls-b call =
          readably-append e s (where_passed (first_failure (service b call).guards) (told_by e b call)) (public_change b (serve b call).state)
          ∙ (λ i. all_readably e s (where_passed ((service-b s hides tx-b call).guards i) (told_by e b call)) ++ all_readably e s (public-b call i))
          ∙ ap (λ xs. xs ++ all_readably e s (public_change s (serve s call).state)) (passed (first_failure (service s call).guards) (told_by e b call) (told_by e s call) (told-b call))
          ∙ sym (readably-append e s (where_passed (first_failure (service s call).guards) (told_by e s call)) (public_change s (serve s call).state))

      events-b : (op : Op) → all_readably e s (events e b op) ≡ all_readably e s (events e s op)
      events-b (Call x) = calls-b (decode x)
      events-b (Store address size value) =
          λ i. all_readably e s (where_passed (fault_of (address % size_of size == 0) (access_at-b s hides address i) may_store)
          (where_true (near-b ((address - s.ram_base) / 4096) i) (Wrote address (little_bytes (size_of size) value) ∷ [])))
      events-b _ = refl

      tellings-b : (op : Op) → all_readably e b (events e b op) ≡ all_readably e s (events e s op)
      tellings-b op = all_readably-b (events e b op) ∙ events-b op

-- the pages of the runner's TX are not among these
abbrev pub ShowsTx : (ℕ → Bool) → State → Type 0
ShowsTx hides s = (x : Buffers) → buffers_of s s.runner ≡ Some x → (p : ℕ) → is_in_run x.tx x.pages p ≡ true → hides p ≡ false

-- ---- two states that differ in such pages alone, none of which is of the runner's TX
module _ (hides : ℕ → Bool) (s v : State) (same : blank hides v ≡ blank hides s) (clear : ShowsTx hides s) where
  pub same-runner : v.runner ≡ s.runner
  same-runner = ap (λ (u : State). u.runner) same

  clear-tx : (u : State) → ShowsTx hides u → tx_bytes (blank hides u) u.runner ≡ tx_bytes u u.runner
  clear-tx u shown = of (buffers_of u u.runner) refl
    where
      of : (o : Option Buffers) → buffers_of u u.runner ≡ o
          → option_map_or (λ (x : Buffers). run_bytes (blank hides u) x.tx x.pages) o [] ≡ option_map_or (λ (x : Buffers). run_bytes u x.tx x.pages) o []
      of None is = refl
      of (Some x) is =
          flat-run-same (page_bytes (blank hides u)) (page_bytes u) x.tx x.pages (λ p its.
          ap (λ page. option_map_or (λ (q : Page). q.bytes) page []) (page-b u hides p ∙ ap (λ c. blank_where c (page_at u p)) (shown x is p its)))

  pub tx-first : tx_bytes (blank hides s) s.runner ≡ tx_bytes s s.runner
  tx-first = clear-tx s clear

  pub tx-second : tx_bytes (blank hides v) v.runner ≡ tx_bytes v v.runner
  tx-second = clear-tx v (λ x is. clear x (sym (ap (λ (u : State). buffers_of u u.runner) same) ∙ is))

  -- the states after an operation differ in these pages alone
  pub same-next : (op : Op) → blank hides (step v op).state ≡ blank hides (step s op).state
  same-next op = sym (state-b v hides tx-second op) ∙ ap (λ u. blank hides (step u op).state) same ∙ state-b s hides tx-first op

  -- ---- to an endpoint that can't read them
  module _ (e : ℕ) (away : (p : ℕ) → hides p ≡ true → is_unreadable s e p ≡ true) where
    same-mask : is_unreadable v e ≡ is_unreadable s e
    same-mask = fun_ext {f = is_unreadable v e} {g = is_unreadable s e} (λ p. ap is_none (same-access hides v s same e p))

    pub away-second : (p : ℕ) → hides p ≡ true → is_unreadable v e p ≡ true
    away-second p hidden = ap (λ (u : ℕ → Bool). u p) same-mask ∙ away p hidden

    -- what e can read, and what it is told of an operation
    pub same-readable : readable e v ≡ readable e s
    same-readable = sym (reads-b e v hides away-second) ∙ ap (readable e) same ∙ reads-b e s hides away

    pub same-told : (op : Op) → all_readably e v (events e v op) ≡ all_readably e s (events e s op)
    same-told op = sym (tellings-b e v hides away-second tx-second op) ∙ ap (λ u. all_readably e u (events e u op)) same ∙ tellings-b e s hides away tx-first op

    pub same-messages : (op : Op) → messages e (events e v op) ≡ messages e (events e s op)
    same-messages op = sym (heard-messages e v (events e v op)) ∙ ap (messages e) (same-told op) ∙ heard-messages e s (events e s op)

    -- the outcome of an operation of its own
    shown : (u : State) → u.runner ≡ e → ((p : ℕ) → hides p ≡ true → is_unreadable u e p ≡ true) → (p : ℕ) → is_some (access u u.runner p) ≡ true → hides p ≡ false
    shown u its far p some = of (hides p) refl
      where
        of : (c : Bool) → hides p ≡ c → c ≡ false
        of true is = absurd (true≢false (sym (ap (λ f. is_none (access u f p)) its ∙ far p is) ∙ some-shown (access u u.runner p) some))
        of false is = refl

    pub same-outcome : s.runner ≡ e → (op : Op) → (step v op).outcome ≡ (step s op).outcome
    same-outcome mine op =
        sym (outcome-b v hides tx-second (shown v (same-runner ∙ mine) away-second) op).outcome
        ∙ ap (λ u. (step u op).outcome) same
        ∙ (outcome-b s hides tx-first (shown s mine away) op).outcome

    -- what becomes readable to it, where these pages don't
    revealed-b : (t : State) → ((p : ℕ) → hides p ≡ true → is_unreadable t e p ≡ true) → revealed e s (blank hides t) ≡ revealed e s t
    revealed-b t far =
        (λ i. map_at (λ p page. kept (is_unreadable s e p && not (unreadable-b e t hides i p)) page) (blanked hides t.pages))
        ∙ map_at-twice (λ p page. kept (is_unreadable s e p && not (is_unreadable t e p)) page) (λ p page. blank_where (hides p) page) t.pages
        ∙ map_at-same _ _ t.pages (λ p page. of (hides p) (is_unreadable s e p) (is_unreadable t e p) page (far p))
      where
        none : (c : Bool) (page : Option Page) → kept (c && false) page ≡ None
        none true page = refl
        none false page = refl

        of : (c old new : Bool) (page : Option Page) → (c ≡ true → new ≡ true) → kept (old && not new) (blank_where c page) ≡ kept (old && not new) page
        of false old new page its = refl
        of true old true page its = none old (blank_where true page) ∙ sym (none old page)
        of true old false page its = absurd (false≢true (its refl))

    pub same-revealed : (op : Op) → ((p : ℕ) → hides p ≡ true → is_unreadable (step s op).state e p ≡ true) → revealed e v (step v op).state ≡ revealed e s (step s op).state
    same-revealed op far =
        (λ i. map_at (λ p page. kept (same-mask i p && not (is_unreadable (step v op).state e p)) page) (step v op).state.pages)
        ∙ sym (revealed-b (step v op).state (λ p hidden. ap is_none (same-access hides (step v op).state (step s op).state (same-next op) e p) ∙ far p hidden))
        ∙ ap (revealed e s) (same-next op)
        ∙ revealed-b (step s op).state far
