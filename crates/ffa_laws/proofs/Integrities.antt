-- SPDX-License-Identifier: MIT OR Apache-2.0
-- A page that its owner has alone stays as it is, whatever another endpoint does, but for a message into RX.
use Rattle.std.proofs.Common.{◌≡◌, ◌≢◌, ◌∙◌, ℕ, ◌-◌, ◌/◌, ◌%◌, true, false, cond, List, [], get_or, Option, Some, None, is_some, refl, sym, ap, inl, inr, Bool, is_none, ◌==◌, ◌&&◌, nat_le, nat_lt, ◌^◌}
use Rattle.std.specs.Option.{option_and_then, option_map_or}
use Rattle.std.proofs.lemmas.Bool.{and_from, cases_Bool, cases_eq, eq-eqb, eqb-true, false≢true, true≢false}
use Rattle.byteorder.specs.Endian.{little_bytes}
use Rattle.ffa_model.specs.Lists.{is_in_run}
use Rattle.ffa_model.specs.declared.descriptor.RelinquishDesc.{RelinquishDesc}
use Rattle.ffa_model.specs.declared.operation.Op.{Op}
use Rattle.ffa_model.specs.declared.call.Call as calls
use Rattle.ffa_model.specs.declared.call.Call.TheVariants.{MemDonate, MemLend, MemShare, MemRetrieve, MemRelinquish, MemReclaim}
use Rattle.ffa_model.specs.declared.rights.Kind.{Kind}
use Rattle.ffa_model.specs.declared.rights.Kind.TheVariants.{Share, Lend, Donate}
use Rattle.ffa_model.specs.declared.transaction.Range.{Range}
use Rattle.ffa_model.specs.Bits.{is_set}
use Rattle.ffa_model.specs.MemoryReturn.{named_ranges, relinquish_read, relinquished, relinquished_from}
use Rattle.ffa_model.specs.Registers.{decode}
use Rattle.ffa_model.specs.SendDescriptor.{SendRecord}
use Rattle.ffa_model.specs.Rights.{may_store}
use Rattle.ffa_model.specs.State.{State, Page, Transaction, Buffers, page_at, owner_of, buffers_of, is_known, transaction_of, version_of}
use Rattle.ffa_model.specs.Access.{access, handle_at, is_naming, names, right_of}
use Rattle.ffa_model.specs.Buffers.{filled_pages}
use Rattle.ffa_model.specs.Memory.{access_at, size_of, store_fault, zeroed_if, zeroed_page}
use Rattle.ffa_model.specs.Calls.{first_failure}
use Rattle.ffa_model.specs.HypervisorRetrieve.{memory_retrieve}
use Rattle.ffa_model.specs.MemorySend.{memory_send, memory_sent, send_guards, send_read}
use Rattle.ffa_model.specs.Messages.{header_in, message_in, send2_guards, tx_bytes}
use Rattle.ffa_model.specs.Step.{serve, service, step}
use Rattle.ffa_model.specs.declared.call.Transfer.{Transfer}
use Rattle.ffa_model.specs.Transactions.{scene_of}
use Rattle.ffa_laws.specs.Steady.{IsSteady}
use Rattle.ffa_laws.specs.Isolation.{Integrity, fills_rx_page, is_send2}
use Rattle.ffa_laws.specs.Moves.{by_call, by_runner}
use Rattle.ffa_model.proofs.Guards.{guard-passes}
use Rattle.ffa_laws.proofs.MemoryLaws.{fault-none}
use Rattle.ffa_laws.proofs.SendLaws.{offer, offered-owner}
use Rattle.ffa_laws.proofs.ReadBacks.{retrieve-kept}
use Rattle.ffa_model.proofs.Accesses.{page-changed}
use Rattle.ffa_laws.proofs.Taken.{before, response, state-taken, taken, unnamed-before}
use Rattle.ffa_laws.proofs.Maps.{first_none}
use Rattle.ffa_laws.specs.OwnAccess.{is_call, is_memory_call}
use Rattle.ffa_laws.proofs.Kept.{kept-call, kept-step}
use Rattle.ffa_laws.proofs.Written.{elsewhere, elsewhere-run}

abbrev page_in : List (Option Page) → ℕ → Option Page
page_in ps p = get_or ps p None

module _ (s : State) (steady : IsSteady s) (e p : ℕ) (owned : owner_of s p ≡ e) (unnamed : handle_at s p ≡ None) (other : s.runner ≢ e) where
  -- a filled RX of another endpoint is of other pages
  elsewhere-filled : (ps : List (Option Page)) (f : ℕ) (bytes : List ℕ) → is_known s f ≡ true → ((b : Buffers) → buffers_of s f ≡ Some b → (q : ℕ) → is_in_run b.rx b.pages q ≡ true → p ≢ q) → page_in (filled_pages ps bytes (buffers_of s f)) p ≡ page_in ps p
  elsewhere-filled ps f bytes known differ = go (buffers_of s f) refl
    where
      go : (o : Option Buffers) → buffers_of s f ≡ o → page_in (filled_pages ps bytes o) p ≡ page_in ps p
      go None is = refl
      go (Some b) is = elsewhere-run b.pages ps b.rx p bytes (differ b is)

  -- RX of an endpoint is of its own pages
  of_another : (f : ℕ) (b : Buffers) → is_known s f ≡ true → buffers_of s f ≡ Some b → f ≢ e → (q : ℕ) → is_in_run b.rx b.pages q ≡ true → p ≢ q
  of_another f b known is differ q its same = differ (sym ((steady.buffers f b known is).rx q its).owner ∙ ap (owner_of s) (sym same) ∙ owned)

  -- the runner has no access to the page
  no_access : access s s.runner p ≡ None
  no_access = ap (λ o. right_of s.runner (page_at s p) (option_and_then (transaction_of s) o)) unnamed ∙ go (page_at s p) refl
    where
      go : (page : Option Page) → page_at s p ≡ page → right_of s.runner page None ≡ None
      go None at = refl
      go (Some q) at =
          elim (q.owner == s.runner) as (λ b. (q.owner == s.runner) ≡ b → cond b (Some q.own_right) None ≡ None) [
            | true ↦ λ mine. absurd (other (sym (eqb-true q.owner s.runner mine) ∙ ap (λ o. option_map_or (λ (x : Page). x.owner) o 0x8000) (sym at) ∙ owned))
            | false ↦ λ differs. refl
          ] refl

  stored_elsewhere : (address n : ℕ) → store_fault s address n ≡ None → p ≢ (address - s.ram_base) / 4096
  stored_elsewhere address n none same =
      false≢true (sym (ap is_some no_access) ∙ ap (λ q. is_some (access s s.runner q)) same ∙ reached (fault-none (address % n == 0) (access_at s s.runner address) may_store none))
    where
      reached : is_some (access_at s s.runner address) ≡ true → is_some (access s s.runner ((address - s.ram_base) / 4096)) ≡ true
      reached =
          elim (nat_le s.ram_base address && nat_lt address (2 ^ 32)) as (λ b. is_some (option_and_then (access s s.runner) (cond b (Some ((address - s.ram_base) / 4096)) None)) ≡ true → is_some (access s s.runner ((address - s.ram_base) / 4096)) ≡ true) [
            | true ↦ λ some. some
            | false ↦ λ some. absurd (false≢true some)
          ]

  delivered_elsewhere : (message : Bool) → (message && fills_rx_page s e p) ≡ false → message ≡ true
      → first_failure (send2_guards s.parties s.buffers (version_of s s.runner) s.runner (header_in (tx_bytes s s.runner))) ≡ None
      → page_in (filled_pages s.pages (message_in (tx_bytes s s.runner)) (buffers_of s (header_in (tx_bytes s s.runner)).receiver)) p ≡ page_in s.pages p
  delivered_elsewhere message not_bound is passed =
      elsewhere-filled s.pages receiver (message_in (tx_bytes s s.runner)) known (λ b buffers q its same.
      elim (cases_eq receiver e) [
        | inl mine ↦
            let rx : option_map_or (λ (x : Buffers). is_in_run x.rx x.pages p) (buffers_of s e) false ≡ true = ap (λ o. option_map_or (λ (x : Buffers). is_in_run x.rx x.pages p) o false) (ap (buffers_of s) (sym mine) ∙ buffers) ∙ ap (is_in_run b.rx b.pages) same ∙ its in
            true≢false (sym (and_from _ _ is (and_from _ _ (ap is_none passed) (and_from _ _ (eq-eqb receiver e mine) rx))) ∙ not_bound)
        | inr differ ↦ of_another receiver b known buffers differ q its same
      ])
    where
      receiver : ℕ
      receiver = (header_in (tx_bytes s s.runner)).receiver

      known : is_known s receiver ≡ true
      known = guard-passes (send2_guards s.parties s.buffers (version_of s s.runner) s.runner (header_in (tx_bytes s s.runner))) 4 (sym passed)

  by-runner : (ps : List (Option Page)) (bytes : List ℕ) → page_in (filled_pages ps bytes (buffers_of s s.runner)) p ≡ page_in ps p
  by-runner ps bytes = elsewhere-filled ps s.runner bytes steady.runner (λ b is. of_another s.runner b steady.runner is other)

  -- the pages of an open transaction are others
  of_no_transaction : (h : ℕ) → names s (named_ranges (transaction_of s h)) p ≡ false
  of_no_transaction h = go (transaction_of s h) (first_none (is_naming s p) s.transactions refl unnamed h)
    where
      go : (o : Option Transaction) → is_naming s p o ≡ false → names s (named_ranges o) p ≡ false
      go None is = refl
      go (Some t) is = is

  elsewhere-zeroed : (asked : Bool) (ranges : List Range) → names s ranges p ≡ false → page_in (zeroed_if asked s ranges).pages p ≡ page_in s.pages p
  elsewhere-zeroed false ranges away = refl
  elsewhere-zeroed true ranges away =
      page-changed s ranges zeroed_page p refl ∙ ap (λ b. cond b (zeroed_page (page_at s p)) (page_at s p)) away

  relinquished-elsewhere : (d : Option RelinquishDesc) → page_in (relinquished s d).pages p ≡ page_in s.pages p
  relinquished-elsewhere None = refl
  relinquished-elsewhere (Some d) = of (transaction_of s d.handle) (of_no_transaction d.handle)
    where
      of : (o : Option Transaction) → names s (named_ranges o) p ≡ false → page_in (relinquished_from s d o).pages p ≡ page_in s.pages p
      of None away = refl
      of (Some t) away = elsewhere-zeroed d.zero t.ranges away

  -- what a send zeroes is the runner's
  sent-elsewhere : (kind : Kind) (x : Transfer) → first_failure (memory_send s kind x).guards ≡ None → page_in (memory_send s kind x).state.pages p ≡ page_in s.pages p
  sent-elsewhere kind x none = of (send_read s kind x.total) none
    where
      of : (o : Option SendRecord) → first_failure (send_guards s.ffa (scene_of s) s.runner x o) ≡ None → page_in (memory_sent s kind o).pages p ≡ page_in s.pages p
      of None none = refl
      of (Some r) none =
          elsewhere-zeroed r.zero r.ranges (elim (cases_Bool (names s r.ranges p)) [
            | inl named ↦ absurd (other (sym (offered-owner s steady kind r (offer s x r none) p named) ∙ owned))
            | inr away ↦ away
          ])

  -- what a retrieve writes is the runner's RX
  retrieved-elsewhere : (x : Transfer) → first_failure (memory_retrieve s x).guards ≡ None → page_in (memory_retrieve s x).state.pages p ≡ page_in s.pages p
  retrieved-elsewhere x =
      retrieve-kept (λ t. page_in t.pages p ≡ page_in s.pages p) s x
      (λ none.
      let its = taken s x none in
      ap (λ (t : State). page_in t.pages p) (state-taken s x its)
      ∙ by-runner (before s x its).pages (response s x its)
      ∙ unnamed-before s x its steady p unnamed)
      refl (by-runner s.pages)

  -- the calls on memory transactions
  memory-page : (call : calls.Call) → is_memory_call call ≡ true → first_failure (service s call).guards ≡ None → page_in (service s call).state.pages p ≡ page_in s.pages p
  memory-page (MemDonate x) memory none = sent-elsewhere Donate x none
  memory-page (MemLend x) memory none = sent-elsewhere Lend x none
  memory-page (MemShare x) memory none = sent-elsewhere Share x none
  memory-page (MemRetrieve x) memory none = retrieved-elsewhere x none
  memory-page MemRelinquish memory none = relinquished-elsewhere (relinquish_read s)
  memory-page (MemReclaim handle flags) memory none =
      elsewhere-zeroed (is_set 0 flags) (named_ranges (transaction_of s handle.0)) (of_no_transaction handle.0)
  memory-page call memory none = absurd (false≢true memory)

  page-kept-call : (call : calls.Call) → (is_send2 call && fills_rx_page s e p) ≡ false → page_at (serve s call).state p ≡ page_at s p
  page-kept-call call not_bound =
      kept-call (λ ps. page_in ps p ≡ page_in s.pages p) s refl (by-runner s.pages) call (delivered_elsewhere (is_send2 call) not_bound) (memory-page call)

  pub page-kept : (op : Op) → (is_call is_send2 op && fills_rx_page s e p) ≡ false → page_at (step s op).state p ≡ page_at s p
  page-kept op not_bound =
      kept-step (λ ps. page_in ps p ≡ page_in s.pages p) s refl (by-runner s.pages) op
      (λ address size value none. elsewhere s.pages ((address - s.ram_base) / 4096) p (address % 4096) (little_bytes (size_of size) value) (stored_elsewhere address (size_of size) none))
      (delivered_elsewhere (is_call is_send2 op) not_bound)
      (λ x. memory-page (decode x))

abbrev pub bytes_of : Option Page → List ℕ
bytes_of page = option_map_or (λ (q : Page). q.bytes) page []

pub integrity : (s : State) (op : Op) → IsSteady s → Integrity (by_runner op) s
integrity s op steady e p owned unnamed other not_bound = ap bytes_of (page-kept s steady e p owned unnamed other op not_bound)

pub call_integrity : (s : State) (call : calls.Call) → IsSteady s → Integrity (by_call call) s
call_integrity s call steady e p owned unnamed other not_bound = ap bytes_of (page-kept-call s steady e p owned unnamed other call not_bound)
