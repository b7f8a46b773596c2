-- SPDX-License-Identifier: MIT OR Apache-2.0
-- FFA_MEM_DONATE, FFA_MEM_LEND and FFA_MEM_SHARE, in the sender's view, and to others.
use Rattle.std.proofs.Common.{◌≡◌, ◌≢◌, ◌⊎◌, ◌∙◌, ℕ, ◌+◌, ◌<◌, ◌≤◌, Bool, true, false, cond, not, List, [], ◌∷◌, ◌++◌, length, get_or, take, Option, Some, None, is_some, refl, sym, ap, subst, inl, inr, arith, length-set, ◌==◌, ◌||◌, ◌&&◌, filter, nat_le, nat_lt}
use Rattle.std.specs.List.{list_all}
use Rattle.std.specs.Option.{option_map, option_map_or}
use Rattle.std.specs.Ordering.{nat_cmp}
use Rattle.std.specs.FinMap as finite
use Rattle.std.proofs.lemmas.Bool.{and_parts, cases_Bool, cases_eq, cases_lt, eq-eqb, eqb-true, false≢true, ltb-true, ne_eqb, true≢false}
use Rattle.std.proofs.lemmas.List.{get_or-set_other, get_or-set_same, get_or_past}
use Rattle.std.proofs.lemmas.Option.{none-some, same_Some}
use Rattle.ffa_model.specs.declared.limits.TheConstants.{MOST_HANDLES, MOST_OPEN}
use Rattle.ffa_model.proofs.Runs.{in-run}
use Rattle.ffa_model.specs.DescriptorPlaces.{in_version}
use Rattle.ffa_model.specs.declared.manifest.Ffa.{Ffa}
use Rattle.ffa_model.specs.declared.rights.Kind.{Kind}
use Rattle.ffa_model.specs.declared.transaction.Range.{Range}
use Rattle.ffa_model.specs.declared.transaction.Receiver.{Receiver}
use Rattle.ffa_model.specs.Identifiers.{identifier, place}
use Rattle.ffa_model.specs.Lists.{listed, is_in_run}
use Rattle.ffa_model.specs.State.{State, Page, Transaction, Buffers, buffers_of, is_known, owner_of, page_at, sent_by, transaction_of, own_right_of}
use Rattle.ffa_model.specs.Access.{handle_at, held_by, is_receiver, names, transaction_at, ownership_of, Ownership}
use Rattle.ffa_model.specs.Rights.{may_store}
use Rattle.ffa_model.specs.Memory.{zeroed_if}
use Rattle.ffa_model.specs.Buffers.{buffers_in, room_of, is_own}
use Rattle.ffa_model.specs.Calls.{first_failure}
use Rattle.ffa_model.specs.RunStates.{schedule_of}
use Rattle.ffa_model.specs.SendDescriptor.{SendRecord, most_receivers, send_of}
use Rattle.ffa_model.specs.declared.call.Transfer.{Transfer}
use Rattle.ffa_model.specs.Transactions.{Scene, are_writable, handle_of, most_sends, next_handle, open_of, open_count, pages_in, scene_of, sends_of}
use Rattle.ffa_model.specs.MemorySend.{are_grants_within, are_known, handle_reply, is_buffer, is_grantable, is_inside, is_of_one_world, is_sendable, is_told_normal, memory_send, memory_sent, send_guards, send_read, transaction_from, transaction_sent, descriptor_in}
use Rattle.ffa_laws.specs.Steady.{IsAlone, IsSteady, IsSteadyTransaction}
use Rattle.ffa_laws.specs.View.{view, buffers_seen, hidden, involves, is_near, kept}
use Rattle.ffa_laws.specs.Events.{Event, Opened, apply, apply_all, named_pages, opens, public_change, where_true}
use Rattle.ffa_model.proofs.CallAccesses.{handle-parts, handles-enough}
use Rattle.ffa_model.proofs.Guards.{guard-passes, invalid, denied, no_memory}
use Rattle.ffa_model.proofs.KeptDonate.{same-tests}
use Rattle.ffa_model.proofs.KeptSend.{any-at}
use Rattle.ffa_model.proofs.NamedPages.{listed-each}
use Rattle.ffa_model.proofs.Places.{known-named, known-place, place-identifier}
use Rattle.ffa_model.proofs.Accesses.{length-map_at}
use Rattle.ffa_model.proofs.FirstSound.{identifier-known}
use Rattle.ffa_laws.proofs.Changes.{AreRewritten, buffers_seen-none, other-told, own-same, same_owner, unwritten, with_public_parts}
use Rattle.ffa_laws.proofs.Closed.{rewritten-zeroed_if}
use Rattle.ffa_laws.proofs.CountSeen.{count-seen}
use Rattle.ffa_laws.proofs.Form.{IsOwn, same-later}
use Rattle.ffa_laws.proofs.Grants.{covered-inside, granted-ceiling, one-taker}
use Rattle.ffa_laws.proofs.Maps.{any-map_at, get_or-map_at}
use Rattle.ffa_laws.proofs.MessageLaws.{some-seen, tx-seen, room-seen}
use Rattle.ffa_laws.proofs.Opened.{get-insert, one-opened, opened, other-opened, other-untold, own-opened, unnamed-opened}
use Rattle.ffa_laws.proofs.ReclaimLaws.{zeroed-far, zeroed_if-seen}
use Rattle.ffa_laws.proofs.ReturnLaws.{steady-zeroed}
use Rattle.ffa_laws.proofs.Sends.{counted}
use Rattle.ffa_laws.proofs.Steadies.{alone-far, alone-near, own-alone}
use Rattle.ffa_laws.proofs.Told.{IsTold}
use Rattle.ffa_laws.proofs.Views.{kept_none, or_true, view-named, view-page}
use Rattle.ffa_laws.proofs.Versions.{version-seen}
use Rattle.ffa_model.specs.declared.refusal.Refusal.{Refusal}

-- ---- what the guards say, where none fails
pub record IsOffer (s : State) (r : SendRecord) : Type 0 where
  pub sender : r.sender ≡ s.runner
  pub known : are_known (length s.parties) r.receivers ≡ true
  pub inside : list_all (is_inside (ownership_of s)) r.ranges ≡ true
  pub free : list_all (is_sendable s.runner (ownership_of s) s.buffers) (pages_in (ownership_of s) r.ranges) ≡ true
  pub grants : list_all (are_grants_within (ownership_of s) r.receivers) (pages_in (ownership_of s) r.ranges) ≡ true
  pub zeroed : r.zero ≡ true → are_writable (ownership_of s) r.ranges ≡ true
  pub one_world : is_of_one_world (ownership_of s) s.normal r ≡ true
  pub few : open_count (open_of s) s.runner < MOST_OPEN
  pub sent : sent_by s s.runner < most_sends s.ffa

pub offer : (s : State) (x : Transfer) (r : SendRecord) → first_failure (send_guards s.ffa (scene_of s) s.runner x (Some r)) ≡ None → IsOffer s r
offer s x r none =
    record {
      sender = eqb-true r.sender s.runner (guard-passes (send_guards s.ffa (scene_of s) s.runner x (Some r)) 5 (sym none));
      known = guard-passes (send_guards s.ffa (scene_of s) s.runner x (Some r)) 6 (sym none);
      inside = guard-passes (send_guards s.ffa (scene_of s) s.runner x (Some r)) 7 (sym none);
      free = guard-passes (send_guards s.ffa (scene_of s) s.runner x (Some r)) 8 (sym none);
      grants = guard-passes (send_guards s.ffa (scene_of s) s.runner x (Some r)) 9 (sym none);
      zeroed = zeroes r.zero (guard-passes (send_guards s.ffa (scene_of s) s.runner x (Some r)) 10 (sym none));
      one_world = guard-passes (send_guards s.ffa (scene_of s) s.runner x (Some r)) 11 (sym none);
      few = ltb-true (open_count (open_of s) s.runner) MOST_OPEN (guard-passes (send_guards s.ffa (scene_of s) s.runner x (Some r)) 12 (sym none));
      sent = ltb-true (sent_by s s.runner) (most_sends s.ffa) (guard-passes (send_guards s.ffa (scene_of s) s.runner x (Some r)) 13 (sym none));
    }
  where
    zeroes : (zero : Bool) → (not zero || are_writable (ownership_of s) r.ranges) ≡ true → zero ≡ true → are_writable (ownership_of s) r.ranges ≡ true
    zeroes true is _ = is
    zeroes false is asked = absurd (false≢true asked)

-- bytes that are no send descriptor are refused
pub no-offer : (s : State) (x : Transfer) → first_failure (send_guards s.ffa (scene_of s) s.runner x None) ≡ None → ⊥
no-offer s x none = false≢true (guard-passes (send_guards s.ffa (scene_of s) s.runner x None) 5 (sym none))

-- ---- pages that may be sent
module _ (s : State) (ranges : List Range) (free : list_all (is_sendable s.runner (ownership_of s) s.buffers) (pages_in (ownership_of s) ranges) ≡ true) where
  sendable-each : (p : ℕ) → p < length s.pages → names s ranges p ≡ true → is_sendable s.runner (ownership_of s) s.buffers p ≡ true
  sendable-each p lt named = listed-each (is_sendable s.runner (ownership_of s) s.buffers) (names s ranges) (length s.pages) (λ q. q) free p lt named

  sendable-alone : (p : ℕ) → p < length s.pages → names s ranges p ≡ true → (page : Page) × (page_at s p ≡ Some page) × IsAlone s s.runner p
  sendable-alone p lt named = own-alone s s.runner p (and_parts _ _ (sendable-each p lt named)).0

-- ---- the guards, in the runner's view
-- the guards of a send before the one that asks whether all pages may be sent, and those behind it
abbrev asked_first : Bool → ℕ → ℕ → Ownership → ℕ → Transfer → SendRecord → List (Bool × Refusal)
asked_first mapped room endpoints ram e x r =
    (mapped, invalid)
    ∷ (x.total == x.fragment, invalid)
    ∷ (nat_le x.total room, invalid)
    ∷ (x.address == 0, invalid)
    ∷ (x.pages == 0, invalid)
    ∷ (r.sender == e, invalid)
    ∷ (are_known endpoints r.receivers, invalid)
    ∷ (list_all (is_inside ram) r.ranges, denied)
    ∷ []

abbrev asked_of_pages : Ffa → Scene → ℕ → SendRecord → List (Bool × Refusal)
asked_of_pages ffa c e r =
    (list_all (are_grants_within c.ram r.receivers) (pages_in c.ram r.ranges), denied)
    ∷ (not r.zero || are_writable c.ram r.ranges, denied)
    ∷ (is_of_one_world c.ram c.normal r, denied)
    ∷ (nat_lt (open_count c.open_transactions e) MOST_OPEN, no_memory)
    ∷ (nat_lt (sends_of c.open_transactions e) (most_sends ffa), no_memory)
    ∷ []

module _ (s : State) (steady : IsSteady s) where
  abbrev v : State
  v = view s.runner s

  size-seen : length v.pages ≡ length s.pages
  size-seen = length-map_at (λ q page. kept (is_near s.runner s q) page) s.pages

  -- a page of the runner's is a buffer in its view where it is one
  module _ (p : ℕ) (lt : p < length s.pages) (owner : owner_of s p ≡ s.runner) where
    abbrev holds_page : Option Buffers → Bool
    holds_page b = option_map_or (λ (x : Buffers). is_in_run x.tx x.pages p || is_in_run x.rx x.pages p) b false

    buffer-at : (i : ℕ) → holds_page (buffers_seen s.runner (length s.pages) i (get_or s.buffers i None)) ≡ holds_page (get_or s.buffers i None)
    buffer-at i = of (get_or s.buffers i None) refl
      where
        past : (n : ℕ) → is_in_run (length s.pages) n p ≡ false
        past n = elim (cases_Bool (is_in_run (length s.pages) n p)) [
          | inl within ↦ (let (low, _) = in-run (length s.pages) n p within in absurd (omega (arith, lt, low)))
          | inr beside ↦ beside
        ]

        in-list : (b : Buffers) → get_or s.buffers i None ≡ Some b → i < length s.parties
        in-list b at = elim (cases_lt i (length s.buffers)) [
          | inl lt_i ↦ (let each = steady.each in omega (arith, lt_i, each))
          | inr past_i ↦ absurd (none-some b (sym (get_or_past s.buffers i None past_i) ∙ at))
        ]

        apart : (identifier i == s.runner) ≡ false → (first n : ℕ) → ((q : ℕ) → is_in_run first n q ≡ true → IsAlone s (identifier i) q) → is_in_run first n p ≡ false
        apart other first n alone = elim (cases_Bool (is_in_run first n p)) [
          | inl within ↦ absurd (true≢false (sym (eq-eqb (identifier i) s.runner (sym (alone p within).owner ∙ owner)) ∙ other))
          | inr beside ↦ beside
        ]

        of : (o : Option Buffers) → get_or s.buffers i None ≡ o → holds_page (buffers_seen s.runner (length s.pages) i o) ≡ holds_page o
        of None at = ap holds_page (buffers_seen-none s.runner (length s.pages) i)
        of (Some b) at =
            elim (identifier i == s.runner) as (λ t. (identifier i == s.runner) ≡ t → holds_page (cond t (Some b) (hidden (length s.pages) (Some b))) ≡ holds_page (Some b)) [
              | true ↦ λ mine. refl
              | false ↦ λ other.
                  let its = steady.buffers (identifier i) b (identifier-known (length s.parties) i (in-list b at)) (ap (λ j. get_or s.buffers j None) (place-identifier i) ∙ at) in
                  (λ j. past b.pages j || past b.pages j) ∙ sym (λ j. apart other b.tx b.pages its.tx j || apart other b.rx b.pages its.rx j)
            ] refl

    buffer-seen : is_buffer v.buffers p ≡ is_buffer s.buffers p
    buffer-seen = any-map_at holds_page (buffers_seen s.runner (length s.pages)) s.buffers None buffer-at

  -- what its own pages are, it sees
  owned-near : (p : ℕ) → owner_of s p ≡ s.runner → is_near s.runner s p ≡ true
  owned-near p owner = ap (λ t. t || involves s.runner (transaction_at s p)) (eq-eqb (owner_of s p) s.runner owner)

  judged : Bool → Option Page → Bool
  judged named page = (is_some (option_map (λ (q : Page). q.own_right) page) && option_map_or (λ (q : Page). q.owner) page 0x8000 == s.runner) && not named

  judged-other : (named b : Bool) (q : Page) → (q.owner == s.runner) ≡ false → judged named (kept b (Some q)) ≡ false
  unfolding judged
  judged-other named true q other = ap (λ t. t && not named) other
  judged-other named false q other = refl

  own-page-seen : (p : ℕ) → is_own s.runner (ownership_of v) p ≡ is_own s.runner (ownership_of s) p
  unfolding judged
  own-page-seen p = ap (judged (is_some (handle_at v p))) (view-page s.runner s p) ∙ of (page_at s p) refl
    where
      of : (page : Option Page) → page_at s p ≡ page → judged (is_some (handle_at v p)) (kept (is_near s.runner s p) page) ≡ judged (is_some (handle_at s p)) page
      of None at = ap (judged (is_some (handle_at v p))) (kept_none (is_near s.runner s p))
      of (Some q) at =
          elim (q.owner == s.runner) as (λ t. (q.owner == s.runner) ≡ t → judged (is_some (handle_at v p)) (kept (is_near s.runner s p) (Some q)) ≡ judged (is_some (handle_at s p)) (Some q)) [
            | true ↦ λ mine.
                let owner : owner_of s p ≡ s.runner = ap (λ o. option_map_or (λ (x : Page). x.owner) o 0x8000) at ∙ eqb-true q.owner s.runner mine in
                let near : is_near s.runner s p ≡ true = owned-near p owner in
                ap (λ t. judged (is_some (handle_at v p)) (kept t (Some q))) near
                ∙ ap (λ n. judged n (Some q)) (view-named s.runner s steady p owner)
            | false ↦ λ other.
                judged-other (is_some (handle_at v p)) (is_near s.runner s p) q other ∙ sym (judged-other (is_some (handle_at s p)) true q other)
          ] refl

  -- so a page may be sent in the view where it may be
  sendable-seen : (p : ℕ) → p < length s.pages → is_sendable s.runner (ownership_of v) v.buffers p ≡ is_sendable s.runner (ownership_of s) s.buffers p
  sendable-seen p lt =
      elim (is_own s.runner (ownership_of s) p) as (λ b. is_own s.runner (ownership_of s) p ≡ b → (is_own s.runner (ownership_of v) p && not (is_buffer v.buffers p)) ≡ (b && not (is_buffer s.buffers p))) [
        | true ↦ λ own.
            let (page, at, alone) = own-alone s s.runner p own in
            (λ i. (own-page-seen p ∙ own) i && not (buffer-seen p lt alone.owner i))
        | false ↦ λ not_own. ap (λ b. b && not (is_buffer v.buffers p)) (own-page-seen p ∙ not_own)
      ] refl

  module _ (ranges : List Range) where
    -- tests of all pages that are named
    tests-seen : (test also : ℕ → Bool) → ((p : ℕ) → p < length s.pages → names s ranges p ≡ true → test p ≡ also p)
        → list_all test (pages_in (ownership_of v) ranges) ≡ list_all also (pages_in (ownership_of s) ranges)
    tests-seen test also same =
        ap (λ n. list_all test (filter (names s ranges) (listed n (λ p. p)))) size-seen
        ∙ same-tests test also (names s ranges) (length s.pages) (λ p. p) same

    all-sendable-seen : list_all (is_sendable s.runner (ownership_of v) v.buffers) (pages_in (ownership_of v) ranges) ≡ list_all (is_sendable s.runner (ownership_of s) s.buffers) (pages_in (ownership_of s) ranges)
    all-sendable-seen = tests-seen (is_sendable s.runner (ownership_of v) v.buffers) (is_sendable s.runner (ownership_of s) s.buffers) (λ p lt named. sendable-seen p lt)

    -- where all may be sent, the runner sees their rights
    module _ (free : list_all (is_sendable s.runner (ownership_of s) s.buffers) (pages_in (ownership_of s) ranges) ≡ true) where
      own_right-seen : (p : ℕ) → p < length s.pages → names s ranges p ≡ true → own_right_of v p ≡ own_right_of s p
      own_right-seen p lt named =
          let (page, at, alone) = sendable-alone s ranges free p lt named in
          ap (option_map (λ (page : Page). page.own_right)) (view-page s.runner s p ∙ ap (λ b. kept b (page_at s p)) (alone-near s s.runner p alone))

      grants-seen : (receivers : List Receiver) → list_all (are_grants_within (ownership_of v) receivers) (pages_in (ownership_of v) ranges) ≡ list_all (are_grants_within (ownership_of s) receivers) (pages_in (ownership_of s) ranges)
      grants-seen receivers =
          tests-seen (are_grants_within (ownership_of v) receivers) (are_grants_within (ownership_of s) receivers)
          (λ p lt named. ap (λ right. list_all (λ (r : Receiver). is_grantable r.grant right) receivers) (own_right-seen p lt named))

      writable-seen : are_writable (ownership_of v) ranges ≡ are_writable (ownership_of s) ranges
      writable-seen = tests-seen (λ p. may_store (own_right_of v p)) (λ p. may_store (own_right_of s p)) (λ p lt named. ap may_store (own_right-seen p lt named))

  -- which of them are non-secure, it sees of all
  world-seen : (r : SendRecord) → is_of_one_world (ownership_of v) v.normal r ≡ is_of_one_world (ownership_of s) s.normal r
  world-seen r = ap (λ n. is_of_one_world (record (ownership_of s) { count = n }) s.normal r) size-seen

  transaction-seen : (kind : Kind) (r : SendRecord) → transaction_sent v kind r ≡ transaction_sent s kind r
  transaction-seen kind r = ap (λ n. transaction_from kind (is_told_normal (record (ownership_of s) { count = n }) s.normal r.ranges) r) size-seen

  -- how often it has sent, and so the next handle
  sends-seen : sent_by v s.runner ≡ sent_by s s.runner
  sends-seen =
      get_or-map_at (λ i n. cond (identifier i == s.runner) n 0) s.sent (place s.runner) 0 0 inside
      ∙ ap (λ b. cond b (sent_by s s.runner) 0) (eq-eqb (identifier (place s.runner)) s.runner (known-named (length s.parties) s.runner steady.runner))
    where
      inside : place s.runner < length s.sent
      inside = let lt = known-place (length s.parties) s.runner steady.some steady.runner in let each = steady.sends in omega (arith, lt, each)

  handle-seen : next_handle (open_of v) s.runner ≡ next_handle (open_of s) s.runner
  handle-seen = ap (λ n. handle_of s.runner (n + 1)) sends-seen

  same-failure : (x : Transfer) (r : Option SendRecord) → first_failure (send_guards s.ffa (scene_of v) s.runner x r) ≡ first_failure (send_guards s.ffa (scene_of s) s.runner x r)
  same-failure x None = λ i. first_failure (
      (some-seen s steady s.runner i, invalid)
      ∷ (x.total == x.fragment, invalid)
      ∷ (nat_le x.total (room-seen s steady s.runner i), invalid)
      ∷ (x.address == 0, invalid)
      ∷ (x.pages == 0, invalid)
      ∷ (false, invalid)
      ∷ [])
  same-failure x (Some r) =
      (λ i. first_failure (asked_first (some-seen s steady s.runner i) (room-seen s steady s.runner i) (length s.parties) (record (ownership_of s) { count = size-seen i }) s.runner x r
      ++ (all-sendable-seen r.ranges i, denied)
      ∷ asked_of_pages s.ffa (scene_of v) s.runner r))
      ∙ same-later denied (asked_first (is_some (buffers_in s.buffers s.runner)) (room_of (buffers_in s.buffers s.runner)) (length s.parties) (ownership_of s) s.runner x r)
      (list_all (is_sendable s.runner (ownership_of s) s.buffers) (pages_in (ownership_of s) r.ranges)) (asked_of_pages s.ffa (scene_of v) s.runner r) (asked_of_pages s.ffa (scene_of s) s.runner r)
      (λ free i. first_failure (
      (grants-seen r.ranges free r.receivers i, denied)
      ∷ (not r.zero || writable-seen r.ranges free i, denied)
      ∷ (world-seen r i, denied)
      ∷ (nat_lt (count-seen s.runner s i) MOST_OPEN, no_memory)
      ∷ (nat_lt (sends-seen i) (most_sends s.ffa), no_memory)
      ∷ []))

-- ---- a send that is not refused
module _ (s : State) (steady : IsSteady s) (kind : Kind) (r : SendRecord) (good : IsOffer s r) where
  abbrev h : ℕ
  h = next_handle (open_of s) s.runner

  abbrev t : Transaction
  t = transaction_sent s kind r

  -- each page is the runner's alone
  named-inside : (p : ℕ) → names s r.ranges p ≡ true → p < length s.pages
  named-inside p named = covered-inside (ownership_of s) r.ranges p good.inside named

  pub alone : (p : ℕ) → names s r.ranges p ≡ true → (page : Page) × (page_at s p ≡ Some page) × IsAlone s s.runner p
  alone p named = sendable-alone s r.ranges good.free p (named-inside p named) named

  pub offered-owner : (p : ℕ) → names s r.ranges p ≡ true → owner_of s p ≡ s.runner
  offered-owner p named = (alone p named).2.owner

  mine : (p : ℕ) → names s r.ranges p ≡ true → owner_of s p ≡ r.sender
  mine p named = offered-owner p named ∙ sym good.sender

  pub free : (p : ℕ) → names s r.ranges p ≡ true → handle_at s p ≡ None
  free p named = (alone p named).2.unnamed

  -- its handle has not been given
  pub fresh : transaction_of s h ≡ None
  fresh = of (transaction_of s h) refl
    where
      of : (o : Option Transaction) → transaction_of s h ≡ o → o ≡ None
      of None is = refl
      of (Some u) is =
          let (n, same, below, few) = steady.numbers h u is in
          let enough : most_sends s.ffa ≤ MOST_HANDLES = handles-enough s.ffa in
          let most : sent_by s s.runner < most_sends s.ffa = good.sent in
          let parts = handle-parts s.runner u.sender (sent_by s s.runner + 1) n same (omega (arith, enough, most)) (omega (arith, enough, few)) in
          let sent : sent_by s s.runner ≡ sent_by s u.sender = ap (sent_by s) parts.0 in
          let next : sent_by s s.runner + 1 ≡ n = parts.1 in
          absurd (omega (arith, sent, next, below))

  known-sender : is_known s r.sender ≡ true
  known-sender = ap (is_known s) good.sender ∙ steady.runner

  -- ---- in the runner's view
  own-state : memory_sent (view s.runner s) kind (Some r) ≡ view s.runner (memory_sent s kind (Some r))
  own-state =
      (λ i. zeroed_if r.zero (opened (view s.runner s) (handle-seen s steady i) (transaction-seen s steady kind r i)) r.ranges)
      ∙ (λ i. zeroed_if r.zero (own-opened s steady h t fresh free s.runner refl steady.runner good.sender steady.sends offered-owner i) r.ranges)
      ∙ zeroed_if-seen s.runner (opened s h t) r.zero r.ranges

  -- ---- to another endpoint
  module _ (e : ℕ) (known : is_known s e ≡ true) (other : s.runner ≢ e) where
    abbrev z : State
    z = zeroed_if r.zero s r.ranges

    not_sender : (r.sender == e) ≡ false
    not_sender = ap (λ f. f == e) good.sender ∙ ne_eqb s.runner e other

    zeros-unseen : view e z ≡ view e s
    zeros-unseen = sym (zeroed_if-seen e s r.zero r.ranges) ∙ zeroed-far e s r.zero r.ranges (λ p named. alone-far s e s.runner p (alone p named).2 other)

    steady_z : IsSteady z
    steady_z = steady-zeroed r.zero s r.ranges steady

    mine_z : (p : ℕ) → names s r.ranges p ≡ true → owner_of z p ≡ r.sender
    mine_z p named = same_owner (page_at z p) (page_at s p) ((rewritten-zeroed_if r.zero s r.ranges).same p) ∙ mine p named

    told-opened : view e (memory_sent s kind (Some r)) ≡ apply_all e (view e s) (opens e s kind (Some r))
    told-opened =
        elim (is_receiver e t) as (λ b. is_receiver e t ≡ b → view e (opened z h t) ≡ apply_all e (view e s) (where_true b (Opened h t (named_pages z r.ranges) ∷ []))) [
          | true ↦ λ offered.
              other-opened z steady_z h t fresh free e refl known known-sender not_sender steady.sends mine_z (λ i. not_sender i || offered i)
              ∙ ap (λ u. apply e u (Opened h t (named_pages z r.ranges))) zeros-unseen
          | false ↦ λ unknown.
              other-untold z steady_z h t fresh free e refl known known-sender not_sender steady.sends mine_z (λ i. not_sender i || unknown i)
              ∙ zeros-unseen
        ] refl

  -- ---- what is steady
  module _ (few : length r.receivers ≤ most_receivers kind) where
    abbrev y : State
    y = opened s h t

    none-held : (e : ℕ) → held_by t e ≡ None
    none-held e = finite.get-empty nat_cmp e

    -- the new transaction
    steady-new : IsSteadyTransaction y t
    steady-new =
        record {
          owned = mine;
          receiver = λ e right holds. absurd (none-some right (sym (none-held e) ∙ holds));
          within = λ p e right named holds. absurd (none-some right (sym (none-held e) ∙ holds));
          alone = λ e f one other differ of_e of_f. absurd (none-some one (sym (none-held e) ∙ of_e));
          ceilings = λ p e named. (let (page, at, its) = alone p named in granted-ceiling s t p e page at (named-inside p named) named good.grants);
          taker = one-taker t few;
        }

    -- those that were open
    steady-old : (u : Transaction) → IsSteadyTransaction s u → IsSteadyTransaction y u
    steady-old u was = record { owned = was.owned; receiver = was.receiver; within = was.within; alone = was.alone; ceilings = was.ceilings; taker = was.taker }

    -- what is open after it is new, or was open
    open-cases : (k : ℕ) (u : Transaction) → transaction_of y k ≡ Some u → ((k ≡ h) × (t ≡ u)) ⊎ (transaction_of s k ≡ Some u)
    open-cases k u is = of (k == h) refl (sym (get-insert s.transactions h t k) ∙ is)
      where
        of : (b : Bool) → (k == h) ≡ b → cond b (Some t) (transaction_of s k) ≡ Some u → ((k ≡ h) × (t ≡ u)) ⊎ (transaction_of s k ≡ Some u)
        of true same is = inl (eqb-true k h same, same_Some t u is)
        of false other is = inr is

    place-inside : place r.sender < length s.sent
    place-inside = let lt = known-place (length s.parties) r.sender steady.some known-sender in let each = steady.sends in omega (arith, lt, each)

    sent-own : sent_by y r.sender ≡ sent_by s r.sender + 1
    sent-own = get_or-set_same s.sent (place r.sender) (sent_by s r.sender + 1) 0 place-inside

    sent-grows : (e : ℕ) → sent_by s e ≤ sent_by y e
    sent-grows e = elim (cases_eq (place e) (place r.sender)) [
      | inl same ↦
          let before : sent_by s e ≡ sent_by s r.sender = ap (λ i. get_or s.sent i 0) same in
          let now : sent_by y e ≡ sent_by s r.sender + 1 = ap (λ i. get_or y.sent i 0) same ∙ sent-own in
          omega (arith, before, now)
      | inr apart ↦ (let same : sent_by y e ≡ sent_by s e = get_or-set_other s.sent (place r.sender) (place e) (sent_by s r.sender + 1) 0 apart in omega (arith, same))
    ]

    number-of : (k : ℕ) (u : Transaction) → transaction_of y k ≡ Some u → (n : ℕ) × (k ≡ handle_of u.sender n) × (n ≤ sent_by y u.sender) × (n ≤ most_sends s.ffa)
    number-of k u is = elim (open-cases k u is) [
      | inl new ↦
          subst (λ (x : Transaction). (n : ℕ) × (k ≡ handle_of x.sender n) × (n ≤ sent_by y x.sender) × (n ≤ most_sends s.ffa)) new.1
          (let most = good.sent in
          let of_sender : sent_by s r.sender ≡ sent_by s s.runner = ap (sent_by s) good.sender in
          (sent_by s s.runner + 1, new.0 ∙ ap (λ e. handle_of e (sent_by s s.runner + 1)) (sym good.sender), omega (arith, sent-own, of_sender), omega (arith, most)))
      | inr was ↦
          let (n, same, below, bound) = steady.numbers k u was in
          let grows = sent-grows u.sender in
          (n, same, omega (arith, below, grows), bound)
    ]

    -- no page that it names is a buffer
    unnamed-buffer : (e : ℕ) (b : Buffers) (p : ℕ) → buffers_of s e ≡ Some b → (is_in_run b.tx b.pages p || is_in_run b.rx b.pages p) ≡ true → names s r.ranges p ≡ false
    unnamed-buffer e b p is holds =
        elim (cases_Bool (names s r.ranges p)) [
          | inl named ↦
              let buffer : is_buffer s.buffers p ≡ true = any-at (λ o. option_map_or (λ (x : Buffers). is_in_run x.tx x.pages p || is_in_run x.rx x.pages p) o false) s.buffers (place e) b is holds in
              absurd (false≢true (sym (ap not buffer) ∙ (and_parts _ _ (sendable-each s r.ranges good.free p (named-inside p named) named)).1))
          | inr away ↦ away
        ]

    alone-still : (e p : ℕ) → IsAlone s e p → names s r.ranges p ≡ false → IsAlone y e p
    alone-still e p is away = record { owner = is.owner; unnamed = unnamed-opened s steady h t fresh free p away is.unnamed }

    pub steady-opened : IsSteady y
    steady-opened =
        record {
          some = steady.some;
          few = steady.few;
          each = steady.each;
          runner = steady.runner;
          requesters = steady.requesters;
          one = one-opened s steady h t fresh free;
          transactions = λ k u is. elim (open-cases k u is) [
            | inl new ↦ subst (IsSteadyTransaction y) new.1 steady-new
            | inr was ↦ steady-old u (steady.transactions k u was)
          ];
          sends = length-set s.sent (place r.sender) (sent_by s r.sender + 1) ∙ steady.sends;
          numbers = number-of;
          buffers = λ e b known is.
              let own = steady.buffers e b known is in
              record {
                tx = λ p its. alone-still e p (own.tx p its) (unnamed-buffer e b p is (ap (λ c. c || is_in_run b.rx b.pages p) its));
                rx = λ p its. alone-still e p (own.rx p its) (unnamed-buffer e b p is (ap (λ c. is_in_run b.tx b.pages p || c) its ∙ or_true (is_in_run b.tx b.pages p)));
              };
          bound = steady.bound;
        }

    pub steady-sent : IsSteady (memory_sent s kind (Some r))
    steady-sent = steady-zeroed r.zero y r.ranges steady-opened

-- ---- the calls
pub own-send : (s : State) → IsSteady s → (kind : Kind) (x : Transfer) → IsOwn s (memory_send (view s.runner s) kind x) (memory_send s kind x)
own-send s steady kind x = (
  ap (λ d. first_failure (send_guards s.ffa (scene_of (view s.runner s)) s.runner x (send_of s.ffa kind d))) same-descriptor ∙ same-failure s steady x (send_read s kind x.total),
  λ none. (
    ap (λ d. memory_sent (view s.runner s) kind (send_of s.ffa kind d)) same-descriptor ∙ of (send_read s kind x.total) none,
    ap handle_reply (handle-seen s steady),
  ),
)
  where
    same-descriptor : descriptor_in (view s.runner s) x.total ≡ descriptor_in s x.total
    same-descriptor = λ i. in_version (version-seen s.runner s steady.runner i) (take x.total (tx-seen s steady i))

    of : (o : Option SendRecord) → first_failure (send_guards s.ffa (scene_of s) s.runner x o) ≡ None → memory_sent (view s.runner s) kind o ≡ view s.runner (memory_sent s kind o)
    of None none = absurd (no-offer s x none)
    of (Some r) none = own-state s steady kind r (offer s x r none)

pub steady-send : (s : State) → IsSteady s → (kind : Kind) (x : Transfer) → first_failure (memory_send s kind x).guards ≡ None → IsSteady (memory_send s kind x).state
steady-send s steady kind x none = of (send_read s kind x.total) refl none
  where
    of : (o : Option SendRecord) → send_read s kind x.total ≡ o → first_failure (send_guards s.ffa (scene_of s) s.runner x o) ≡ None → IsSteady (memory_sent s kind o)
    of None is none = steady
    of (Some r) is none = steady-sent s steady kind r (offer s x r none) (counted s.ffa kind (descriptor_in s x.total) r is).few_receivers

pub other-send : (e : ℕ) (s : State) → IsSteady s → is_known s e ≡ true → s.runner ≢ e → (kind : Kind) (x : Transfer) → IsTold e s (memory_send s kind x) (opens e s kind (send_read s kind x.total))
other-send e s steady known other kind x none = of (send_read s kind x.total) none
  where
    of : (o : Option SendRecord) → first_failure (send_guards s.ffa (scene_of s) s.runner x o) ≡ None
        → view e (memory_sent s kind o) ≡ apply_all e (view e s) (opens e s kind o ++ public_change s (memory_sent s kind o))
    of None none = absurd (no-offer s x none)
    of (Some r) none =
        other-told e s (memory_sent s kind (Some r)) (apply_all e (view e s) (opens e s kind (Some r))) (opens e s kind (Some r)) refl (own-same e s)
        (size (is_receiver e (transaction_sent s kind r))) (old (is_receiver e (transaction_sent s kind r))) refl
        (told-opened s steady kind r (offer s x r none) e known other ∙ old (is_receiver e (transaction_sent s kind r)))
      where
        event : Event
        event = Opened (next_handle (open_of s) s.runner) (transaction_sent s kind r) (named_pages (memory_sent s kind (Some r)) r.ranges)

        size : (b : Bool) → length (apply_all e (view e s) (where_true b (event ∷ []))).pages ≡ length s.pages
        size true = length-map_at _ (view e s).pages ∙ length-map_at _ s.pages
        size false = length-map_at _ s.pages

        old : (b : Bool) → apply_all e (view e s) (where_true b (event ∷ [])) ≡ with_public_parts (apply_all e (view e s) (where_true b (event ∷ []))) (schedule_of s) (view e s).buffers
        old true = refl
        old false = refl

-- ---- pages
pub rewritten-sent : (s : State) (kind : Kind) (r : Option SendRecord) → AreRewritten s.pages (memory_sent s kind r).pages
rewritten-sent s kind None = unwritten s.pages
rewritten-sent s kind (Some r) = rewritten-zeroed_if r.zero s r.ranges
