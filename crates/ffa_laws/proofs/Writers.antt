-- SPDX-License-Identifier: MIT OR Apache-2.0
-- A page's bytes change only where the runner may write, or where a message fills RX.
use Rattle.std.proofs.Common.{◌≡◌, ◌≢◌, ◌∙◌, ℕ, ◌-◌, ◌/◌, ◌%◌, ◌^◌, Bool, true, false, cond, not, List, length, get_or, Option, Some, None, is_some, refl, sym, ap, inl, inr, ◌==◌, ◌&&◌, ◌||◌, is_none, nat_le, nat_lt}
use Rattle.std.specs.Option.{option_and_then, option_map, option_map_or}
use Rattle.std.proofs.lemmas.Bool.{and_from, and_parts, cases_lt, eq-eqb, eqb-true, false≢true, true≢false}
use Rattle.std.proofs.lemmas.List.{get_or_past}
use Rattle.byteorder.specs.Endian.{little_bytes}
use Rattle.ffa_model.specs.declared.descriptor.RelinquishDesc.{RelinquishDesc}
use Rattle.ffa_model.specs.declared.operation.Op.{Op}
use Rattle.ffa_model.specs.declared.operation.Op.TheVariants.{Call, Load, Store, Fetch}
use Rattle.ffa_model.specs.declared.operation.Outcome.TheVariants.{Data, Done}
use Rattle.ffa_model.specs.declared.operation.Size.{Size}
use Rattle.ffa_model.specs.declared.operation.FaultKind.TheVariants.{Permission}
use Rattle.ffa_model.specs.declared.call.Call as calls
use Rattle.ffa_model.specs.declared.call.Call.TheVariants.{PartitionInfoGet, MsgWait, MemDonate, MemLend, MemShare, MemRetrieve, MemRelinquish, MemReclaim, MsgSend2, Version}
use Rattle.ffa_model.specs.declared.rights.Kind.{Kind}
use Rattle.ffa_model.specs.declared.rights.Kind.TheVariants.{Share, Lend, Donate}
use Rattle.ffa_model.specs.declared.rights.Rights.{Rights}
use Rattle.ffa_model.specs.declared.transaction.Range.{Range}
use Rattle.ffa_model.specs.Bits.{is_set}
use Rattle.ffa_model.specs.Lists.{is_in_run}
use Rattle.ffa_model.specs.Rights.{is_lend, may_store}
use Rattle.ffa_model.specs.SendDescriptor.{SendRecord}
use Rattle.ffa_model.specs.SoundState.{IsSoundState}
use Rattle.ffa_model.specs.State.{State, Page, Transaction, Buffers, buffers_of, page_at, transaction_of, version_of, own_right_of}
use Rattle.ffa_model.specs.Access.{access, handle_at, held_by, names, right_by, right_of, ownership_of}
use Rattle.ffa_model.specs.Buffers.{filled, filled_pages, is_usable}
use Rattle.ffa_model.specs.Calls.{first_failure}
use Rattle.ffa_model.specs.Memory.{access_at, fault_of, fetch_fault, number_at, page_bytes, read_fault, size_of, store, store_fault, stored, zeroed_if, zeroed_page}
use Rattle.ffa_model.specs.MemoryRetrieve.{donated_page, receiver_retrieve}
use Rattle.ffa_model.specs.MemoryReturn.{is_zeroable, memory_reclaim, memory_relinquish, named_ranges, reclaim_guards, relinquish_guards, relinquish_read, relinquished, relinquished_from}
use Rattle.ffa_model.specs.MemorySend.{memory_send, memory_sent, send_guards, send_read}
use Rattle.ffa_model.specs.Messages.{header_in, message_in, msg_send2, tx_bytes}
use Rattle.ffa_model.specs.Registers.{decode}
use Rattle.ffa_model.specs.Setup.{info_bytes, is_count_alone, uuid_bytes}
use Rattle.ffa_model.specs.Step.{service, step}
use Rattle.ffa_model.specs.declared.call.Transfer.{Transfer}
use Rattle.ffa_model.specs.Transactions.{are_writable, closed, open_of, scene_of, with_open}
use Rattle.ffa_model.proofs.Accesses.{access-closed, access-zeroed, named-in, page-changed}
use Rattle.ffa_model.proofs.Guards.{guard-passes}
use Rattle.ffa_model.proofs.NamedPages.{listed-each}
use Rattle.ffa_laws.specs.Isolation.{fills, fills_rx_page, is_send2}
use Rattle.ffa_laws.specs.Moves.{by_runner}
use Rattle.ffa_laws.specs.Steady.{IsSteady}
use Rattle.ffa_laws.specs.Writers.{OnlyWriters, is_reclaim, is_reclaimed}
use Rattle.ffa_laws.proofs.Form.{accessed-kept, served-kept, waited-kept}
use Rattle.ffa_laws.proofs.Given.{page-given}
use Rattle.ffa_laws.proofs.SendLaws.{IsOffer, free, no-offer, offer, offered-owner}
use Rattle.ffa_laws.proofs.ReadBacks.{retrieve-kept}
use Rattle.ffa_laws.proofs.SoundSteady.{sound-steady}
use Rattle.ffa_laws.proofs.Taken as retrieve
use Rattle.ffa_laws.proofs.Taken.{Taken, state-taken, taken}
use Rattle.ffa_laws.proofs.Written.{elsewhere, elsewhere-run}
use Rattle.ffa_laws.proofs.Versions.{version-leaves}
use Rattle.ffa_laws.proofs.Integrities.{bytes_of}

abbrev pub bytes_in : List (Option Page) → ℕ → List ℕ
bytes_in ps p = bytes_of (get_or ps p None)

pub elsewhere-filled : (ps : List (Option Page)) (p : ℕ) (bytes : List ℕ) (o : Option Buffers) → ((b : Buffers) → o ≡ Some b → (q : ℕ) → is_in_run b.rx b.pages q ≡ true → p ≢ q) → bytes_in (filled_pages ps bytes o) p ≡ bytes_in ps p
elsewhere-filled ps p bytes None differ = refl
elsewhere-filled ps p bytes (Some b) differ = ap bytes_of (elsewhere-run b.pages ps b.rx p bytes (differ b refl))

-- a store is by a right
may-store : (aligned : Bool) (right : Option Rights) → fault_of aligned right may_store ≡ None → may_store right ≡ true
may-store true (Some right) none = of (may_store (Some right)) none
  where
    of : (b : Bool) → cond b None (Some Permission) ≡ None → b ≡ true
    of true none = refl
    of false none = cc
may-store true None none = cc
may-store false right none = cc

-- a page that may be a buffer may be written to
pub usable-writes : (s : State) (e p : ℕ) → is_usable e (ownership_of s) p ≡ true → may_store (access s e p) ≡ true
usable-writes s e p is = of (page_at s p) (handle_at s p) is
  where
    of : (page : Option Page) (o : Option ℕ)
        → (((is_some (option_map (λ (q : Page). q.own_right) page) && option_map_or (λ (q : Page). q.owner) page 0x8000 == e) && not (is_some o)) && may_store (option_map (λ (q : Page). q.own_right) page)) ≡ true
        → may_store (right_of e page (option_and_then (transaction_of s) o)) ≡ true
    of None o is = absurd (false≢true is)
    of (Some q) None is =
        let (own, write) = and_parts _ _ is in
        let (mine, unnamed) = and_parts (q.owner == e) _ own in
        ap (λ b. may_store (cond b (Some q.own_right) None)) mine ∙ write
    of (Some q) (Some h) is =
        let (own, write) = and_parts _ _ is in
        let (mine, unnamed) = and_parts (q.owner == e) false own in
        absurd (false≢true unnamed)

-- an owner of a page in no transaction has the page's own right
base-owner : (e : ℕ) (page : Option Page) → option_map_or (λ (q : Page). q.owner) page 0x8000 ≡ e → right_of e page None ≡ option_map (λ (q : Page). q.own_right) page
base-owner e None own = refl
base-owner e (Some q) own = ap (λ b. cond b (Some q.own_right) None) (eq-eqb q.owner e own)

-- a store is into another page than one to which the runner may not write
module _ (s : State) (p : ℕ) (no_right : may_store (access s s.runner p) ≡ false) where
  stored-elsewhere : (address n : ℕ) → store_fault s address n ≡ None → p ≢ (address - s.ram_base) / 4096
  stored-elsewhere address n none same =
      false≢true (sym no_right ∙ ap (λ q. may_store (access s s.runner q)) same ∙ reached (may-store (address % n == 0) (access_at s s.runner address) none))
    where
      reached : may_store (access_at s s.runner address) ≡ true → may_store (access s s.runner ((address - s.ram_base) / 4096)) ≡ true
      reached =
          elim (nat_le s.ram_base address && nat_lt address (2 ^ 32)) as (λ b. may_store (option_and_then (access s s.runner) (cond b (Some ((address - s.ram_base) / 4096)) None)) ≡ true → may_store (access s s.runner ((address - s.ram_base) / 4096)) ≡ true) [
            | true ↦ λ some. some
            | false ↦ λ some. absurd (false≢true some)
          ]

  pub only-store : (address : ℕ) (size : Size) (value : ℕ) → page_bytes (store s address size value).state p ≡ page_bytes s p
  only-store address size value =
      accessed-kept (λ t. page_bytes t p ≡ page_bytes s p) s (stored s address (little_bytes (size_of size) value)) Done (store_fault s address (size_of size)) refl
      (λ none. ap bytes_of (elsewhere s.pages ((address - s.ram_base) / 4096) p (address % 4096) (little_bytes (size_of size) value) (stored-elsewhere address (size_of size) none)))

module _ (s : State) (sound : IsSoundState s) (p : ℕ) (no_right : may_store (access s s.runner p) ≡ false) where
  steady : IsSteady s
  steady = sound-steady s sound

  -- RX of the runner is of other pages
  own-rx : (b : Buffers) → buffers_of s s.runner ≡ Some b → (q : ℕ) → is_in_run b.rx b.pages q ≡ true → p ≢ q
  own-rx b is q its same = false≢true (sym no_right ∙ ap (λ r. may_store (access s s.runner r)) same ∙ usable-writes s s.runner q ((sound.buffers s.runner b steady.runner is).rx q its))

  by-runner : (ps : List (Option Page)) (bytes : List ℕ) → bytes_in (filled_pages ps bytes (buffers_of s s.runner)) p ≡ bytes_in ps p
  by-runner ps bytes = elsewhere-filled ps p bytes (buffers_of s s.runner) own-rx

  -- zeros: either nothing, or elsewhere
  elsewhere-zeroed : (asked : Bool) (ranges : List Range) → (asked ≡ true → names s ranges p ≡ true → page_at s p ≡ None) → bytes_in (zeroed_if asked s ranges).pages p ≡ bytes_in s.pages p
  elsewhere-zeroed false ranges away = refl
  elsewhere-zeroed true ranges away =
      ap bytes_of (page-changed s ranges zeroed_page p refl)
      ∙ elim (names s ranges p) as (λ b. names s ranges p ≡ b → bytes_of (cond b (zeroed_page (page_at s p)) (page_at s p)) ≡ bytes_of (page_at s p)) [
        | true ↦ λ named. (let none = away refl named in ap (λ page. bytes_of (zeroed_page page)) none ∙ sym (ap bytes_of none))
        | false ↦ λ is. refl
      ] refl

  -- a page of ranges that are all writable
  writable : (ranges : List Range) → are_writable (ownership_of s) ranges ≡ true → names s ranges p ≡ true → may_store (own_right_of s p) ≡ false → page_at s p ≡ None
  writable ranges all named not = elim (cases_lt p (length s.pages)) [
    | inl lt ↦ absurd (false≢true (sym not ∙ listed-each (λ q. may_store (own_right_of s q)) (names s ranges) (length s.pages) (λ q. q) all p lt named))
    | inr past ↦ get_or_past s.pages p None past
  ]

  -- ---- the calls on memory
  send-elsewhere : (kind : Kind) (x : Transfer) → first_failure (memory_send s kind x).guards ≡ None → bytes_in (memory_send s kind x).state.pages p ≡ bytes_in s.pages p
  send-elsewhere kind x none = of (send_read s kind x.total) none
    where
      of : (o : Option SendRecord) → first_failure (send_guards s.ffa (scene_of s) s.runner x o) ≡ None → bytes_in (memory_sent s kind o).pages p ≡ bytes_in s.pages p
      of None none = absurd (no-offer s x none)
      of (Some r) none =
          let good : IsOffer s r = offer s x r none in
          elsewhere-zeroed r.zero r.ranges (λ asked named.
          writable r.ranges (good.zeroed asked) named
          (ap may_store (sym (base-owner s.runner (page_at s p) (offered-owner s steady kind r good p named)))
          ∙ ap (λ o. may_store (right_of s.runner (page_at s p) (option_and_then (transaction_of s) o))) (sym (free s steady kind r good p named))
          ∙ no_right))

  retrieve-elsewhere : (x : Transfer) → Taken s x → bytes_in (receiver_retrieve s x).state.pages p ≡ bytes_in s.pages p
  retrieve-elsewhere x its =
      ap (λ (t : State). bytes_in t.pages p) (state-taken s x its)
      ∙ by-runner (retrieve.before s x its).pages (retrieve.response s x its)
      ∙ of its.of.kind
    where
      given : (b : Bool) (page : Option Page) → bytes_of (cond b (donated_page s.runner (retrieve.right s x its) page) page) ≡ bytes_of page
      given true None = refl
      given true (Some q) = refl
      given false page = refl

      of : (kind : Kind) → bytes_in (retrieve.taken_as s x its kind).pages p ≡ bytes_in s.pages p
      of Donate = ap bytes_of (page-given s steady its.asked.handle its.of its.is.there s.runner (retrieve.right s x its) p) ∙ given (names s its.of.ranges p) (page_at s p)
      of _ = refl

  relinquish-elsewhere : first_failure (memory_relinquish s).guards ≡ None → bytes_in (memory_relinquish s).state.pages p ≡ bytes_in s.pages p
  relinquish-elsewhere none = read (relinquish_read s) none
    where
      asks : (zero zeroable : Bool) → (not zero || zeroable) ≡ true → zero ≡ true → zeroable ≡ true
      asks true zeroable is asked = is
      asks false zeroable is asked = absurd (false≢true asked)

      holds : (t : Transaction) (page : Option Page) → may_store (right_of s.runner page (Some t)) ≡ false → may_store (held_by t s.runner) ≡ true → page ≡ None
      holds t None not may = refl
      holds t (Some q) not may = absurd (go (held_by t s.runner) not may)
        where
          go : (o : Option Rights) → may_store (right_by s.runner q t o) ≡ false → may_store o ≡ true → ⊥
          go None not may = false≢true may
          go (Some right) not may = false≢true (sym not ∙ may)

      of : (d : RelinquishDesc) (o : Option Transaction) → transaction_of s d.handle ≡ o → first_failure (relinquish_guards (buffers_of s s.runner) (open_of s) s.runner (Some d)) ≡ None → bytes_in (relinquished_from s d o).pages p ≡ bytes_in s.pages p
      of d None there none = refl
      of d (Some t) there none =
          let zeroable = guard-passes (relinquish_guards (buffers_of s s.runner) (open_of s) s.runner (Some d)) 4 (sym none) in
          elsewhere-zeroed d.zero t.ranges (λ asked named.
          let (lend, held) = and_parts (is_lend t.kind) (may_store (held_by t s.runner)) (sym (ap (is_zeroable s.runner) there) ∙ asks d.zero (is_zeroable s.runner (transaction_of s d.handle)) zeroable asked) in
          holds t (page_at s p) (sym (ap (λ o. may_store (right_of s.runner (page_at s p) o)) (named-in s p d.handle t (λ k j at_k at_j. steady.one p k j at_k at_j) there named)) ∙ no_right) held)

      read : (o : Option RelinquishDesc) → first_failure (relinquish_guards (buffers_of s s.runner) (open_of s) s.runner o) ≡ None → bytes_in (relinquished s o).pages p ≡ bytes_in s.pages p
      read None none = refl
      read (Some d) none = of d (transaction_of s d.handle) refl none

  reclaim-elsewhere : (handle flags : ℕ) → first_failure (memory_reclaim s handle flags).guards ≡ None → may_store (access (memory_reclaim s handle flags).state s.runner p) ≡ false
      → bytes_in (memory_reclaim s handle flags).state.pages p ≡ bytes_in s.pages p
  reclaim-elsewhere handle flags none later = of (transaction_of s h) refl none
    where
      h : ℕ
      h = handle

      asks : (zero all : Bool) → (not zero || all) ≡ true → zero ≡ true → all ≡ true
      asks true all is asked = is
      asks false all is asked = absurd (false≢true asked)

      of : (o : Option Transaction) → transaction_of s h ≡ o → first_failure (reclaim_guards (ownership_of s) s.runner flags o) ≡ None → bytes_in (zeroed_if (is_set 0 flags) s (named_ranges o)).pages p ≡ bytes_in s.pages p
      of None there none = absurd (false≢true (guard-passes (reclaim_guards (ownership_of s) s.runner flags None) 1 (sym none)))
      of (Some t) there none =
          let mine : t.sender ≡ s.runner = eqb-true t.sender s.runner (guard-passes (reclaim_guards (ownership_of s) s.runner flags (Some t)) 1 (sym none)) in
          let all = guard-passes (reclaim_guards (ownership_of s) s.runner flags (Some t)) 3 (sym none) in
          elsewhere-zeroed (is_set 0 flags) t.ranges (λ asked named.
          writable t.ranges (asks (is_set 0 flags) (are_writable (ownership_of s) t.ranges) all asked) named
          (ap may_store (sym (base-owner s.runner (page_at s p) ((steady.transactions h t there).owned p named ∙ mine)))
          ∙ sym (ap may_store (access-zeroed (is_set 0 flags) (with_open s (closed (open_of s) h)) (named_ranges (transaction_of s h)) s.runner p ∙ access-closed s h t there p (λ k j at_k at_j. steady.one p k j at_k at_j) named s.runner))
          ∙ later))

  -- ---- any call, and any operation
  delivered-elsewhere : first_failure (msg_send2 s).guards ≡ None → fills_rx_page s (header_in (tx_bytes s s.runner)).receiver p ≡ false → page_bytes (msg_send2 s).state p ≡ page_bytes s p
  delivered-elsewhere none not_filled =
      elsewhere-filled s.pages p (message_in (tx_bytes s s.runner)) (buffers_of s (header_in (tx_bytes s s.runner)).receiver) (λ b is q its same.
      true≢false (sym (and_from _ _ (ap is_none none) (and_from _ _ (eq-eqb (header_in (tx_bytes s s.runner)).receiver (header_in (tx_bytes s s.runner)).receiver refl)
      (ap (λ o. option_map_or (λ (x : Buffers). is_in_run x.rx x.pages p) o false) is ∙ ap (is_in_run b.rx b.pages) same ∙ its))) ∙ not_filled))

  only-service : (call : calls.Call) → (is_send2 call && fills_rx_page s (header_in (tx_bytes s s.runner)).receiver p) ≡ false → first_failure (service s call).guards ≡ None
      → (is_reclaim call && may_store (access (service s call).state s.runner p)) ≡ false → page_bytes (service s call).state p ≡ page_bytes s p
  only-service (PartitionInfoGet uuid flags) not_filled none later =
      elim (is_count_alone flags) as (λ b. page_bytes (cond b s (filled s s.runner (info_bytes s.ffa (version_of s s.runner) s.parties (uuid_bytes uuid)))) p ≡ page_bytes s p) [
        | true ↦ refl
        | false ↦ by-runner s.pages (info_bytes s.ffa (version_of s s.runner) s.parties (uuid_bytes uuid))
      ]
  only-service (Version word) not_filled none later = version-leaves (λ t. page_bytes t p ≡ page_bytes s p) s.ffa s word refl (λ version. refl)
  only-service (MsgWait flags) not_filled none later = waited-kept (λ t. page_bytes t p ≡ page_bytes s p) s flags refl refl
  only-service (MemDonate x) not_filled none later = send-elsewhere Donate x none
  only-service (MemLend x) not_filled none later = send-elsewhere Lend x none
  only-service (MemShare x) not_filled none later = send-elsewhere Share x none
  only-service (MemRetrieve x) not_filled none later =
      retrieve-kept (λ t. page_bytes t p ≡ page_bytes s p) s x (λ passed. retrieve-elsewhere x (taken s x passed)) refl (by-runner s.pages) none
  only-service MemRelinquish not_filled none later = relinquish-elsewhere none
  only-service (MemReclaim handle flags) not_filled none later = reclaim-elsewhere handle.0 flags none later
  only-service MsgSend2 not_filled none later = delivered-elsewhere none not_filled
  only-service call not_filled none later = refl

  only-op : (op : Op) → fills (by_runner op s) (header_in (tx_bytes s s.runner)).receiver p ≡ false → is_reclaimed (by_runner op s) p ≡ false → page_bytes (step s op).state p ≡ page_bytes s p
  only-op (Call x) not_filled later =
      served-kept (λ t. (is_reclaim (decode x) && may_store (access t s.runner p)) ≡ false → page_bytes t p ≡ page_bytes s p) s (service s (decode x)) (λ later. refl) (only-service (decode x) not_filled) later
  only-op (Load address size) not_filled later = accessed-kept (λ t. page_bytes t p ≡ page_bytes s p) s s (Data (number_at s address (size_of size))) (read_fault s address (size_of size)) refl (λ none. refl)
  only-op (Store address size value) not_filled later = only-store s p no_right address size value
  only-op (Fetch address) not_filled later = accessed-kept (λ t. page_bytes t p ≡ page_bytes s p) s s (Data (number_at s address 4)) (fetch_fault s address) refl (λ none. refl)

pub only_writers : (s : State) (op : Op) → IsSoundState s → OnlyWriters (by_runner op) s
only_writers s op sound p no_right not_reclaimed not_filled = only-op s sound p no_right op (not_filled (header_in (tx_bytes s s.runner)).receiver) not_reclaimed
