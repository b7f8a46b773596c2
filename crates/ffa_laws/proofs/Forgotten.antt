-- SPDX-License-Identifier: MIT OR Apache-2.0
-- What a borrower writes into a loan that it zeroes as it gives it up: nothing depends on it, and nobody else is told of it.
use Rattle.std.proofs.Common.{◌≡◌, ◌≢◌, ◌∙◌, ℕ, ◌-◌, ◌/◌, ◌%◌, ◌^◌, Bool, true, false, cond, List, [], ◌∷◌, ◌++◌, map, Option, Some, None, refl, sym, ap, ◌==◌, ◌&&◌, ◌||◌, nat_le, nat_lt, not}
use Rattle.std.specs.List.{list_all}
use Rattle.std.specs.Option.{option_map_or}
use Rattle.std.proofs.lemmas.Bool.{and_parts, false≢true, ne_eqb}
use Rattle.byteorder.specs.Endian.{little_bytes}
use Rattle.ffa_model.specs.declared.call.Call.TheVariants.{MemRelinquish}
use Rattle.ffa_model.specs.declared.descriptor.RelinquishDesc.{RelinquishDesc}
use Rattle.ffa_model.specs.declared.operation.FaultKind.{FaultKind}
use Rattle.ffa_model.specs.declared.operation.Op.{Op}
use Rattle.ffa_model.specs.declared.operation.Op.TheVariants.{Call, Load, Store, Fetch}
use Rattle.ffa_model.specs.declared.operation.Outcome.TheVariants.{Data, Done}
use Rattle.ffa_model.specs.Lists.{map_at}
use Rattle.ffa_model.specs.RelinquishDescriptor.{relinquish_of}
use Rattle.ffa_model.specs.Rights.{is_lend}
use Rattle.ffa_model.specs.State.{State, Page, Transaction, buffers_of, transaction_of}
use Rattle.ffa_model.specs.Access.{is_held_by, is_naming, is_offered, names}
use Rattle.ffa_model.specs.Calls.{answered, first_failure}
use Rattle.ffa_model.specs.Memory.{fetch_fault, number_at, page_of_address, read_fault, size_of, store_fault, stored, zeroed_if, zeroed_page}
use Rattle.ffa_model.specs.MemoryReturn.{is_zeroable, memory_relinquish, relinquish_guards, relinquish_read, relinquished, relinquished_from}
use Rattle.ffa_model.specs.Step.{serve, state_after, step}
use Rattle.ffa_model.specs.Transactions.{not_holding, open_of, with_open, with_transaction}
use Rattle.ffa_model.proofs.Guards.{guard-passes}
use Rattle.ffa_laws.specs.Steady.{IsSteady}
use Rattle.ffa_laws.specs.View.{is_near}
use Rattle.ffa_laws.specs.Events.{Wrote, events, messages, seen, where_passed, where_true}
use Rattle.ffa_laws.specs.Readable.{Did, Heard, all_readably, blank, blank_where, blanked, is_unreadable, readings, revealed}
use Rattle.ffa_laws.specs.Loans.{IsZeroing, ZeroedIsForgotten, is_in_loan, is_page_of}
use Rattle.ffa_laws.proofs.Blanks.{service-b}
use Rattle.ffa_laws.proofs.Form.{accessed-kept}
use Rattle.ffa_laws.proofs.Maps.{first_none, map_at-same, map_at-twice}
use Rattle.ffa_laws.proofs.ReadRuns.{heard-messages}
use Rattle.ffa_laws.proofs.Readings.{lent-away, write-blank}
use Rattle.ffa_laws.proofs.Tellings.{ShowsTx, away-second, same-told, same-messages, tx-first, tx-second}

after-append : (s : State) (ops later : List Op) → state_after s (ops ++ later) ≡ state_after (state_after s ops) later
after-append s [] later = refl
after-append s (op ∷ ops) later = after-append (step s op).state ops later

-- ---- what is done in a loan changes its pages alone
module _ (s : State) (h : ℕ) where
  abbrev hides : ℕ → Bool
  hides = is_page_of s h

  store-within : (address : ℕ) → option_map_or (is_page_of s h) (page_of_address s address) false ≡ true → is_page_of s h ((address - s.ram_base) / 4096) ≡ true
  store-within address =
      elim (nat_le s.ram_base address && nat_lt address (2 ^ 32)) as (λ c. option_map_or (is_page_of s h) (cond c (Some ((address - s.ram_base) / 4096)) None) false ≡ true → is_page_of s h ((address - s.ram_base) / 4096) ≡ true) [
        | true ↦ λ is. is
        | false ↦ λ is. absurd (false≢true is)
      ]

  abbrev target : State → ℕ → ℕ
  target v address = (address - v.ram_base) / 4096

  in-loan : (v : State) → blank hides v ≡ blank hides s → (address : ℕ) → option_map_or (is_page_of s h) (page_of_address s address) false ≡ true → hides (target v address) ≡ true
  in-loan v same address is = ap (λ (u : State). hides (target u address)) same ∙ store-within address is

  one-kept : (v : State) → blank hides v ≡ blank hides s → (op : Op) → is_in_loan s h op ≡ true → blank hides (step v op).state ≡ blank hides v
  one-kept v same (Call x) is = absurd (false≢true is)
  one-kept v same (Load address size) is = accessed-kept (λ t. blank hides t ≡ blank hides v) v v (Data (number_at v address (size_of size))) (read_fault v address (size_of size)) refl (λ none. refl)
  one-kept v same (Store address size value) is =
      accessed-kept (λ t. blank hides t ≡ blank hides v) v (stored v address (little_bytes (size_of size) value)) Done (store_fault v address (size_of size)) refl
      (λ none. (λ i. record v { pages = write-blank 0 hides v (target v address) (address % 4096) (little_bytes (size_of size) value) (in-loan v same address is) i }))
  one-kept v same (Fetch address) is = accessed-kept (λ t. blank hides t ≡ blank hides v) v v (Data (number_at v address 4)) (fetch_fault v address) refl (λ none. refl)

  all-kept : (ops : List Op) (v : State) → blank hides v ≡ blank hides s → list_all (is_in_loan s h) ops ≡ true → blank hides (state_after v ops) ≡ blank hides s
  all-kept [] v same all = same
  all-kept (op ∷ ops) v same all = let (here, rest) = and_parts (is_in_loan s h op) _ all in all-kept ops (step v op).state (one-kept v same op here ∙ same) rest

  -- ---- and another endpoint that can't read them is told nothing of it
  module _ (clear : ShowsTx hides s) (e : ℕ) (away : (p : ℕ) → hides p ≡ true → is_unreadable s e p ≡ true) (other : s.runner ≢ e) where
    apart : (v : State) → blank hides v ≡ blank hides s → (v.runner == e) ≡ false
    apart v same = ne_eqb v.runner e (λ is. other (sym (ap (λ (u : State). u.runner) same) ∙ is))

    untold : (v : State) → blank hides v ≡ blank hides s → (op : Op) → is_in_loan s h op ≡ true → all_readably e v (events e v op) ≡ []
    untold v same (Call x) is = absurd (false≢true is)
    untold v same (Store address size value) is = passed (store_fault v address (size_of size)) (is_near e v (target v address))
      where
        bytes : List ℕ
        bytes = little_bytes (size_of size) value

        passed : (o : Option FaultKind) (near : Bool) → all_readably e v (where_passed o (where_true near (Wrote address bytes ∷ []))) ≡ []
        passed None true = ap (λ c. where_true (not c) (Wrote address bytes ∷ []) ++ []) (away-second hides s v same clear e away (target v address) (in-loan v same address is))
        passed None false = refl
        passed (Some fault) near = refl
    untold v same _ is = refl

    unseen : (v : State) → blank hides v ≡ blank hides s → (op : Op) → is_in_loan s h op ≡ true → messages e (events e v op) ≡ []
    unseen v same op is = sym (heard-messages e v (events e v op)) ∙ ap (messages e) (untold v same op is)

    skip-seen : (ops : List Op) (v : State) (later : List Op) → blank hides v ≡ blank hides s → list_all (is_in_loan s h) ops ≡ true → seen e v (ops ++ later) ≡ seen e (state_after v ops) later
    skip-seen [] v later same all = refl
    skip-seen (op ∷ ops) v later same all =
        let (here, rest) = and_parts (is_in_loan s h op) _ all in
        (λ i. cond (apart v same i) ((step v op).outcome ∷ []) (unseen v same op here i) ++ skip-seen ops (step v op).state later (one-kept v same op here ∙ same) rest i)

    skip-readings : (ops : List Op) (v : State) (later : List Op) → blank hides v ≡ blank hides s → list_all (is_in_loan s h) ops ≡ true → readings e v (ops ++ later) ≡ readings e (state_after v ops) later
    skip-readings [] v later same all = refl
    skip-readings (op ∷ ops) v later same all =
        let (here, rest) = and_parts (is_in_loan s h op) _ all in
        (λ i. cond (apart v same i) (Did op (revealed e v (step v op).state) ∷ []) (map (λ event. Heard event) (untold v same op here i)) ++ skip-readings ops (step v op).state later (one-kept v same op here ∙ same) rest i)

-- ---- the call that zeroes it
module _ (s : State) (steady : IsSteady s) (h : ℕ) (x : List ℕ) (its : IsZeroing s h x) where
  abbrev asked : RelinquishDesc
  asked = its.asked

  passes : first_failure (relinquish_guards (buffers_of s s.runner) (open_of s) s.runner (Some asked)) ≡ None
  passes = ap (λ o. first_failure (relinquish_guards (buffers_of s s.runner) (open_of s) s.runner o)) (sym its.read) ∙ its.passes

  record Lent : Type 0 where
    pub t : Transaction
    pub there : transaction_of s h ≡ Some t
    pub lend : is_lend t.kind ≡ true

  lent : Lent
  lent =
      of (transaction_of s asked.handle) (sym (ap (transaction_of s) its.handle))
      (guard-passes (relinquish_guards (buffers_of s s.runner) (open_of s) s.runner (Some asked)) 2 (sym passes))
      (guard-passes (relinquish_guards (buffers_of s s.runner) (open_of s) s.runner (Some asked)) 4 (sym passes))
    where
      asks : (zero zeroable : Bool) → (not zero || zeroable) ≡ true → zero ≡ true → zeroable ≡ true
      asks true zeroable is zeroes = is
      asks false zeroable is zeroes = absurd (false≢true zeroes)

      of : (o : Option Transaction) → transaction_of s h ≡ o → is_offered s.runner o ≡ true → (not asked.zero || is_zeroable s.runner o) ≡ true → Lent
      of None there offered zeroes = absurd (false≢true offered)
      of (Some t) there offered zeroes = record { t = t; there = there; lend = (and_parts (is_lend t.kind) _ (asks asked.zero (is_zeroable s.runner (Some t)) zeroes its.zero)).0 }

  abbrev t : Transaction
  t = lent.t

  abbrev hidden : ℕ → Bool
  hidden = is_page_of s h

  in-ranges : (p : ℕ) → hidden p ≡ names s t.ranges p
  in-ranges p = ap (is_naming s p) lent.there

  clear : ShowsTx hidden s
  clear b is p its = first_none (is_naming s p) s.transactions refl ((steady.buffers s.runner b steady.runner is).tx p its).unnamed h

  -- in a state that differs in pages of the loan alone, it leaves the same state
  abbrev after_zeros : State → State
  after_zeros u = zeroed_if true (with_open u (with_transaction (open_of u) asked.handle (not_holding t u.runner))) t.ranges

  module _ (u : State) (same : blank hidden u ≡ blank hidden s) where
    passes-too : first_failure (memory_relinquish u).guards ≡ None
    passes-too =
        sym (service-b u hidden (tx-second hidden s u same clear) MemRelinquish).guards
        ∙ ap (λ v. first_failure (memory_relinquish v).guards) same
        ∙ (service-b s hidden (tx-first hidden s u same clear) MemRelinquish).guards
        ∙ its.passes

    read-too : relinquish_read u ≡ Some asked
    read-too = sym (ap relinquish_of (tx-second hidden s u same clear)) ∙ ap relinquish_read same ∙ ap relinquish_of (tx-first hidden s u same clear) ∙ its.read

    there-too : transaction_of u asked.handle ≡ Some t
    there-too = ap (λ (v : State). transaction_of v asked.handle) same ∙ ap (transaction_of s) its.handle ∙ lent.there

    zeros : (p : ℕ) (n c : Bool) (page : Option Page) → (c ≡ true → n ≡ true) → cond n (zeroed_page page) page ≡ cond n (zeroed_page (blank_where c page)) (blank_where c page)
    zeros p true true None within = refl
    zeros p true true (Some q) within = refl
    zeros p false true page within = absurd (false≢true (within refl))
    zeros p n false page within = refl

    zeroed-same : after_zeros u ≡ after_zeros (blank hidden u)
    zeroed-same = λ i. record (after_zeros u) { pages = pages i }
      where
        pages : map_at (λ p page. cond (names u t.ranges p) (zeroed_page page) page) u.pages ≡ map_at (λ p page. cond (names u t.ranges p) (zeroed_page page) page) (blanked hidden u.pages)
        pages =
            map_at-same _ _ u.pages (λ p page. zeros p (names u t.ranges p) (hidden p) page (λ is. ap (λ (v : State). names v t.ranges p) same ∙ sym (in-ranges p) ∙ is))
            ∙ sym (map_at-twice (λ p page. cond (names u t.ranges p) (zeroed_page page) page) (λ p page. blank_where (hidden p) page) u.pages)

    leaves : (step u (Call x)).state ≡ after_zeros (blank hidden s)
    leaves =
        ap (λ c. (serve u c).state) its.call
        ∙ ap (λ g. (answered g u (memory_relinquish u).state (memory_relinquish u).reply).state) passes-too
        ∙ ap (relinquished u) read-too
        ∙ ap (relinquished_from u asked) there-too
        ∙ ap (λ zero. zeroed_if zero (with_open u (with_transaction (open_of u) asked.handle (not_holding t u.runner))) t.ranges) its.zero
        ∙ zeroed-same
        ∙ ap after_zeros same

  module _ (ops : List Op) (within : list_all (is_in_loan s h) ops ≡ true) where
    abbrev u : State
    u = state_after s ops

    still : blank hidden u ≡ blank hidden s
    still = all-kept s h ops s refl within

    state-forgotten : state_after s (ops ++ Call x ∷ []) ≡ after_zeros (blank hidden s)
    state-forgotten = after-append s ops (Call x ∷ []) ∙ leaves u still

    module _ (e : ℕ) (later : List Op) (other : s.runner ≢ e) (unheld : is_held_by e (transaction_of s h) ≡ false) where
      away : (p : ℕ) → hidden p ≡ true → is_unreadable s e p ≡ true
      away p is = lent-away e s steady h t lent.there lent.lend unheld p (sym (in-ranges p) ∙ is)

      seen-forgotten : seen e s (ops ++ Call x ∷ later) ≡ messages e (events e s (Call x)) ++ seen e (after_zeros (blank hidden s)) later
      seen-forgotten =
          skip-seen s h clear e away other ops s (Call x ∷ later) refl within
          ∙ (λ i. cond (apart s h clear e away other u still i) ((step u (Call x)).outcome ∷ []) (same-messages hidden s u still clear e away (Call x) i) ++ seen e (leaves u still i) later)

      readings-forgotten : readings e s (ops ++ Call x ∷ later) ≡ map (λ event. Heard event) (all_readably e s (events e s (Call x))) ++ readings e (after_zeros (blank hidden s)) later
      readings-forgotten =
          skip-readings s h clear e away other ops s (Call x ∷ later) refl within
          ∙ (λ i. cond (apart s h clear e away other u still i) (Did (Call x) (revealed e u (step u (Call x)).state) ∷ []) (map (λ event. Heard event) (same-told hidden s u still clear e away (Call x) i)) ++ readings e (leaves u still i) later)

pub zeroed_is_forgotten : (s : State) → IsSteady s → ZeroedIsForgotten s
zeroed_is_forgotten s steady h x writes others its one two =
    record {
      state = state-forgotten s steady h x its writes one ∙ sym (state-forgotten s steady h x its others two);
      alike = λ e later other unheld.
          record {
            seen = seen-forgotten s steady h x its writes one e later other unheld ∙ sym (seen-forgotten s steady h x its others two e later other unheld);
            readings = readings-forgotten s steady h x its writes one e later other unheld ∙ sym (readings-forgotten s steady h x its others two e later other unheld);
          };
    }
