-- SPDX-License-Identifier: MIT OR Apache-2.0
-- The state stays sound when a send opens a transaction.
use Rattle.std.proofs.Common.{◌≡◌, ◌∙◌, ◌⊎◌, ℕ, ◌+◌, ◌^◌, ◌<◌, ◌≤◌, Bool, true, false, cond, not, List, [], ◌∷◌, zero, suc, length, get_or, Option, Some, None, refl, sym, ap, subst, arith, inl, inr, ◌||◌}
use Rattle.std.specs.List.{list_all, list_any}
use Rattle.std.specs.Option.{option_map, option_map_or}
use Rattle.std.specs.FinMap as finite
use Rattle.std.proofs.lemmas.Bool.{and_parts, cases_eq, cases_lt, eq-eqb, false≢true, ne_eqb}
use Rattle.std.proofs.lemmas.List.{get_or-set_same, get_or-set_other, get_or_past, length-set}
use Rattle.std.proofs.lemmas.Option.{none-some, same_Some}
use Rattle.ffa_model.specs.declared.limits.TheConstants.{MOST_OPEN, MOST_RANGES}
use Rattle.ffa_model.specs.Lists.{is_in_run}
use Rattle.ffa_model.specs.Identifiers.{place}
use Rattle.ffa_model.specs.State.{State, Page, Transaction, Buffers, owner_of, sent_by, transaction_of, buffers_of}
use Rattle.ffa_model.specs.Access.{handle_at, held_by, is_naming, is_receiver, names, ownership_of}
use Rattle.ffa_model.specs.Buffers.{is_usable}
use Rattle.ffa_model.specs.SendDescriptor.{most_receivers}
use Rattle.ffa_model.specs.Transactions.{are_writable, most_sends, next_handle, open_of, open_count, opened, with_open, pages_in}
use Rattle.ffa_model.specs.MemorySend.{are_grants_within, are_known, is_buffer, is_inside, is_sendable, is_told_normal}
use Rattle.ffa_model.specs.SoundState.{IsKnown, IsSoundState, IsSoundTransaction, is_secure}
use Rattle.ffa_model.proofs.Accesses.{once-beside, once-opened}
use Rattle.ffa_model.proofs.CallAccesses.{handle-new, sendable-unnamed}
use Rattle.ffa_model.proofs.Counts.{open-opened}
use Rattle.ffa_model.proofs.Handles.{get-beside, get-put, none-passes, unpassed-none}
use Rattle.ffa_model.proofs.Kept.{same-transaction, same-usable}
use Rattle.ffa_model.proofs.NamedPages.{listed-each}
use Rattle.ffa_model.proofs.Places.{known-place}
use Rattle.ffa_model.proofs.Own.{own-parts}
use Rattle.ffa_model.specs.Rights.{may_store}

pub any-at : (test : Option Buffers → Bool) (list : List (Option Buffers)) (i : ℕ) (b : Buffers) → get_or list i None ≡ Some b → test (Some b) ≡ true → list_any test list ≡ true
any-at test [] i b at passes = absurd (none-some b at)
any-at test (o ∷ list) zero b at passes = ap (λ c. c || list_any test list) (ap test at ∙ passes)
any-at test (o ∷ list) (suc i) b at passes = of (test o) (any-at test list i b at passes)
  where
    of : (c : Bool) → list_any test list ≡ true → (c || list_any test list) ≡ true
    of true rest = refl
    of false rest = rest

-- what a send asks of the transaction that it opens
pub record IsSendable (s : State) (t : Transaction) : Type 0 where
  pub sender : IsKnown s t.sender
  pub inside : list_all (is_inside (ownership_of s)) t.ranges ≡ true
  pub free : list_all (is_sendable t.sender (ownership_of s) s.buffers) (pages_in (ownership_of s) t.ranges) ≡ true
  pub grants : list_all (are_grants_within (ownership_of s) t.receivers) (pages_in (ownership_of s) t.ranges) ≡ true
  pub zeroed : t.zero ≡ true → are_writable (ownership_of s) t.ranges ≡ true
  pub few : open_count (open_of s) t.sender < MOST_OPEN
  pub sent : sent_by s t.sender < most_sends s.ffa
  pub unheld : (e : ℕ) → held_by t e ≡ None
  pub receivers : are_known (length s.parties) t.receivers ≡ true
  pub some_receivers : 1 ≤ length t.receivers
  pub few_receivers : length t.receivers ≤ most_receivers t.kind
  pub some_ranges : 1 ≤ length t.ranges
  pub few_ranges : length t.ranges ≤ MOST_RANGES
  pub tag : t.tag < 2 ^ 64
  pub worlds : (p : ℕ) → p < length s.pages → names s t.ranges p ≡ true → is_secure s p ≡ true → is_receiver 0 t ≡ false
  pub told : t.normal ≡ is_told_normal (ownership_of s) s.normal t.ranges

module _ (s : State) (sound : IsSoundState s) (t : Transaction) (good : IsSendable s t) where
  abbrev h : ℕ
  h = next_handle (open_of s) t.sender

  abbrev pub after_send : State
  after_send = with_open s (opened (open_of s) h t)

  new : transaction_of s h ≡ None
  new = handle-new s sound t.sender good.sender

  -- who has sent how often
  there : place t.sender < length s.sent
  there = subst (λ n. place t.sender < n) (sym sound.sized.sent) (known-place (length s.parties) t.sender sound.sized.some good.sender)

  own-sent : sent_by after_send t.sender ≡ sent_by s t.sender + 1
  own-sent = get_or-set_same s.sent (place t.sender) (sent_by s t.sender + 1) 0 there

  sent-cases : (e : ℕ) → (sent_by after_send e ≡ sent_by s e) ⊎ ((sent_by after_send e ≡ sent_by s t.sender + 1) × (sent_by s e ≡ sent_by s t.sender))
  sent-cases e = elim (cases_eq (place e) (place t.sender)) [
    | inl same ↦ inr (ap (λ i. get_or after_send.sent i 0) same ∙ own-sent, ap (λ i. get_or s.sent i 0) same)
    | inr apart ↦ inl (get_or-set_other s.sent (place t.sender) (place e) (sent_by s t.sender + 1) 0 apart)
  ]

  sent-grows : (e : ℕ) → sent_by s e ≤ sent_by after_send e
  sent-grows e = elim (sent-cases e) [ inl same ↦ omega (arith, same) | inr more ↦ omega (arith, more.0, more.1) ]

  sent-few : (e : ℕ) → IsKnown s e → sent_by after_send e ≤ most_sends s.ffa
  sent-few e known = elim (sent-cases e) [
    | inl same ↦ (let before = sound.sent e known in omega (arith, same, before))
    | inr more ↦ (let most = good.sent in omega (arith, more.0, most))
  ]

  -- its pages are the sender's
  one-sendable : (p : ℕ) → p < length s.pages → names s t.ranges p ≡ true → is_sendable t.sender (ownership_of s) s.buffers p ≡ true
  one-sendable p lt named = listed-each (is_sendable t.sender (ownership_of s) s.buffers) (names s t.ranges) (length s.pages) (λ q. q) good.free p lt named

  owned : (p : ℕ) → p < length s.pages → names s t.ranges p ≡ true → owner_of s p ≡ t.sender
  owned p lt named = (own-parts s t.sender p (and_parts _ _ (one-sendable p lt named)).0).0

  opened-itself : IsSoundTransaction after_send h t
  opened-itself =
      record {
        sender = good.sender;
        number = (sent_by s t.sender + 1, refl, omega arith, omega (arith, own-sent));
        inside = good.inside;
        owned = owned;
        grants = good.grants;
        zeroed = good.zeroed;
        holder = λ e right is. absurd (none-some right (sym (good.unheld e) ∙ is));
        within = λ e right is. absurd (none-some right (sym (good.unheld e) ∙ is));
        donate = λ e kind. good.unheld e;
        receivers = good.receivers;
        some_receivers = good.some_receivers;
        few_receivers = good.few_receivers;
        some_ranges = good.some_ranges;
        few_ranges = good.few_ranges;
        tag = good.tag;
        worlds = good.worlds;
        told = good.told;
      }

  each-sound : (k : ℕ) (u : Transaction) → transaction_of after_send k ≡ Some u → IsSoundTransaction after_send k u
  each-sound k u is = elim (cases_eq k h) [
    | inl same ↦
        subst (λ (v : Transaction). IsSoundTransaction after_send k v) (same_Some t u (sym (ap (transaction_of after_send) same ∙ get-put s.transactions h t) ∙ is))
        (subst (λ j. IsSoundTransaction after_send j t) (sym same) opened-itself)
    | inr apart ↦ same-transaction s after_send k u refl refl (λ p. refl) refl (sent-grows u.sender) (sound.transactions k u (sym (get-beside s.transactions h t k apart) ∙ is))
  ]

  -- no page that it names is a buffer
  unnamed-still : (p : ℕ) → names s t.ranges p ≡ false → handle_at s p ≡ None → handle_at after_send p ≡ None
  unnamed-still p other none = unpassed-none (is_naming s p) refl (finite.insert s.transactions h t) each
    where
      each : (k : ℕ) → is_naming s p (transaction_of after_send k) ≡ false
      each k = elim (cases_eq k h) [
        | inl same ↦ ap (λ j. is_naming s p (transaction_of after_send j)) same ∙ ap (is_naming s p) (get-put s.transactions h t) ∙ other
        | inr apart ↦ ap (is_naming s p) (get-beside s.transactions h t k apart) ∙ none-passes (is_naming s p) refl s.transactions k none
      ]

  unnamed-buffer : (e p : ℕ) → is_buffer s.buffers p ≡ true → is_usable e (ownership_of s) p ≡ true → names s t.ranges p ≡ false
  unnamed-buffer e p buffer usable = of (names s t.ranges p) refl
    where
      inside : p < length s.pages
      inside = elim (cases_lt p (length s.pages)) [
        | inl lt ↦ lt
        | inr past ↦ absurd (false≢true (sym (ap (λ o. may_store (option_map (λ (page : Page). page.own_right) o)) (get_or_past s.pages p None past)) ∙ (and_parts _ _ usable).1))
      ]

      of : (b : Bool) → names s t.ranges p ≡ b → names s t.ranges p ≡ false
      of false is = is
      of true is = absurd (false≢true (sym (ap not buffer) ∙ (and_parts _ _ (one-sendable p inside is)).1))

  few-open : (e : ℕ) → IsKnown s e → open_count (open_of after_send) e ≤ MOST_OPEN
  few-open e known = elim (cases_eq t.sender e) [
    | inl same ↦ (
        let more : open_count (open_of after_send) e ≡ 1 + open_count (open_of s) e =
        open-opened (open_of s) h e t new ∙ ap (λ b. cond b 1 0 + open_count (open_of s) e) (eq-eqb t.sender e same) in
        let most : open_count (open_of s) e < MOST_OPEN = subst (λ n. open_count (open_of s) n < MOST_OPEN) same good.few in
        omega (arith, more, most))
    | inr other ↦ (
        let more : open_count (open_of after_send) e ≡ 0 + open_count (open_of s) e =
        open-opened (open_of s) h e t new ∙ ap (λ b. cond b 1 0 + open_count (open_of s) e) (ne_eqb t.sender e other) in
        let most : open_count (open_of s) e ≤ MOST_OPEN = sound.few e known in
        omega (arith, more, most))
  ]

  one-named : (p k j : ℕ) → p < length s.pages → is_naming s p (transaction_of after_send k) ≡ true → is_naming s p (transaction_of after_send j) ≡ true → k ≡ j
  one-named p k j lt at_k at_j = of (names s t.ranges p) refl
    where
      of : (b : Bool) → names s t.ranges p ≡ b → k ≡ j
      of true named = once-opened s h t new p named (sendable-unnamed s t.sender p t.ranges good.free lt named) k j at_k at_j
      of false other = once-beside s h t new p other (λ i l at_i at_l. sound.one p i l lt at_i at_l) k j at_k at_j

  second : (a b : Bool) → b ≡ true → (a || b) ≡ true
  second true b is = refl
  second false b is = is

  -- a page of an endpoint's TX or RX is a buffer
  is-buffer : (e : ℕ) (b : Buffers) (p : ℕ) → buffers_of s e ≡ Some b → (is_in_run b.tx b.pages p || is_in_run b.rx b.pages p) ≡ true → is_buffer s.buffers p ≡ true
  is-buffer e b p is one = any-at (λ o. option_map_or (λ (x : Buffers). is_in_run x.tx x.pages p || is_in_run x.rx x.pages p) o false) s.buffers (place e) b is one

  pub opened-sound : IsSoundState after_send
  opened-sound =
      record {
        sized = record { some = sound.sized.some; few = sound.sized.few; base = sound.sized.base; within = sound.sized.within; one_table = sound.sized.one_table; blocks = sound.sized.blocks; versions = sound.sized.versions; sent = length-set s.sent (place t.sender) (sent_by s t.sender + 1) ∙ sound.sized.sent; buffers = sound.sized.buffers; works = sound.sized.works; bitmaps = sound.sized.bitmaps };
        parties = sound.parties;
        pages = λ p page is. let good = sound.pages p page is in record { owner = good.owner; size = good.size; bytes = good.bytes };
        worlds = sound.worlds;
        transactions = each-sound;
        one = one-named;
        few = few-open;
        sent = sent-few;
        buffers = λ e b known is.
            let its = sound.buffers e b known is in
            record {
              count = its.count;
              tx = λ p in_tx. same-usable s after_send e p refl refl (unnamed-still p (unnamed-buffer e p (is-buffer e b p is (ap (λ c. c || is_in_run b.rx b.pages p) in_tx)) (its.tx p in_tx))) (its.tx p in_tx);
              rx = λ p in_rx. same-usable s after_send e p refl refl (unnamed-still p (unnamed-buffer e p (is-buffer e b p is (second (is_in_run b.tx b.pages p) (is_in_run b.rx b.pages p) in_rx)) (its.rx p in_rx))) (its.rx p in_rx);
              apart = its.apart;
            };
        schedule = sound.schedule;
        bound = λ entry is. let good = sound.bound entry is in record { receiver = good.receiver; bit = good.bit; sender = good.sender; is = good.is; to_known = good.to_known; from_known = good.from_known; in_word = good.in_word; bitmaps = good.bitmaps; alone = good.alone };
        pending = λ entry is. let good = sound.pending entry is in record { receiver = good.receiver; class = good.class; bit = good.bit; is = good.is; to_known = good.to_known; of_class = good.of_class; in_word = good.in_word; bound = good.bound };
      }
