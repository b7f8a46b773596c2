-- SPDX-License-Identifier: MIT OR Apache-2.0
-- What keeps a state steady.
use Rattle.std.proofs.Common.{◌≡◌, ◌≢◌, ◌∙◌, ℕ, ◌≤◌, Bool, true, false, cond, List, [], ◌∷◌, length, get_or, Option, Some, None, is_some, refl, sym, ap, subst, inl, inr, arith, ◌==◌, ◌||◌}
use Rattle.std.specs.List.{list_any}
use Rattle.std.specs.Option.{option_map}
use Rattle.ffa_model.specs.declared.transaction.Receiver.{Receiver}
use Rattle.ffa_model.specs.Rights.{is_within}
use Rattle.ffa_model.specs.Transactions.{ceiling}
use Rattle.ffa_model.specs.Identifiers.{place}
use Rattle.ffa_model.specs.State.{State, Page, Buffers, page_at, owner_of, is_known_among, is_known, transaction_of}
use Rattle.ffa_model.specs.Access.{transaction_at, Ownership, ownership_of}
use Rattle.ffa_model.specs.Buffers.{is_usable, buffers_with_rx, is_own}
use Rattle.ffa_model.specs.RunStates.{Schedule, requester}
use Rattle.ffa_model.specs.Notifications.{Notifications, with_notifications}
use Rattle.ffa_laws.specs.Steady.{AreSteadyBuffers, IsAlone, IsSteady, IsSteadyBinding}
use Rattle.std.specs.FinSet as finite_set
use Rattle.ffa_laws.specs.View.{is_near, involves}
use Rattle.std.specs.Option.{option_and_then}
use Rattle.std.proofs.lemmas.Bool.{false≢true, eqb-true, and_parts, or_cases}
use Rattle.std.proofs.lemmas.Bool.Decides.{nat_tests}
use Rattle.ffa_laws.proofs.Changes.{AreRewritten, with_parts, same_own_right, same_owner}
use Rattle.ffa_laws.proofs.Written.{at-changed, is_at, with_rx_full}
use Rattle.ffa_model.proofs.Own.{own-parts, usable-parts}

-- a page that e owns, and that no transaction names, is there, and e's alone
pub own-alone : (s : State) (e p : ℕ) → is_own e (ownership_of s) p ≡ true → (page : Page) × (page_at s p ≡ Some page) × IsAlone s e p
own-alone s e p is = of (page_at s p) refl
  where
    of : (o : Option Page) → page_at s p ≡ o → (page : Page) × (page_at s p ≡ Some page) × IsAlone s e p
    of None at = absurd (false≢true (sym (ap (λ o. is_some (option_map (λ (page : Page). page.own_right) o)) at) ∙ (and_parts _ _ (and_parts _ _ is).0).0))
    of (Some page) at = let parts = own-parts s e p is in (page, at, record { owner = parts.0; unnamed = parts.1 })

-- so is one that may be a buffer of e
pub usable : (s : State) (e p : ℕ) → is_usable e (ownership_of s) p ≡ true → IsAlone s e p
usable s e p is = let parts = usable-parts s e p is in record { owner = parts.0; unnamed = parts.1 }

-- two receivers are at least two
pub two-receivers : (receivers : List Receiver) (e f : ℕ) → e ≢ f → list_any (λ (r : Receiver). r.endpoint.0 == e) receivers ≡ true
    → list_any (λ (r : Receiver). r.endpoint.0 == f) receivers ≡ true → 2 ≤ length receivers
two-receivers [] e f differ one other = absurd (false≢true one)
two-receivers (r ∷ []) e f differ one other = absurd (differ (sym (alone e one) ∙ alone f other))
  where
    alone : (g : ℕ) → (r.endpoint.0 == g || false) ≡ true → r.endpoint.0 ≡ g
    alone g is = elim (or_cases _ _ is) [ inl same ↦ eqb-true r.endpoint.0 g same | inr none ↦ absurd (false≢true none) ]
two-receivers (r ∷ q ∷ receivers) e f differ one other = omega arith

-- such a page is near to its owner alone
pub alone-near : (s : State) (e p : ℕ) → IsAlone s e p → is_near e s p ≡ true
alone-near s e p is = let owner = is.owner in grind (arith, nat_tests)

pub alone-far : (s : State) (e f p : ℕ) → IsAlone s f p → f ≢ e → is_near e s p ≡ false
alone-far s e f p is differ =
    let owner = is.owner in
    let none : transaction_at s p ≡ None = ap (option_and_then (transaction_of s)) is.unnamed in
    let other : (owner_of s p == e) ≡ false = grind (arith, nat_tests) in
    ap (λ t. owner_of s p == e || involves e t) none ∙ ap (λ b. b || false) other

module _ (s : State) (steady : IsSteady s) (ps : List (Option Page)) (bs : List (Option Buffers)) (c : Schedule) (rewritten : AreRewritten s.pages ps) where
  alone-kept : (e p : ℕ) → IsAlone s e p → IsAlone (with_parts s ps bs c) e p
  alone-kept e p alone = record { owner = same_owner (get_or ps p None) (page_at s p) (rewritten.same p) ∙ alone.owner; unnamed = alone.unnamed }

  same-ownership : ownership_of (with_parts s ps bs c) ≡ ownership_of s
  same-ownership =
      λ i. record (ownership_of s) {
        count = rewritten.each i;
        owner = λ p. same_owner (get_or ps p None) (page_at s p) (rewritten.same p) i;
        own_right = λ p. same_own_right (get_or ps p None) (page_at s p) (rewritten.same p) i;
      }

  pub steady-changed : length bs ≡ length s.buffers → is_known_among (length s.parties) c.runner ≡ true
      → ((i by : ℕ) → requester (get_or c.works i None) ≡ Some by → is_known_among (length s.parties) by ≡ true)
      → ((e : ℕ) (b : Buffers) → is_known s e ≡ true → get_or bs (place e) None ≡ Some b → AreSteadyBuffers s e b)
      → IsSteady (with_parts s ps bs c)
  steady-changed each runner requesters buffers =
      record {
        some = steady.some;
        few = steady.few;
        each = each ∙ steady.each;
        runner = runner;
        requesters = requesters;
        one = steady.one;
        transactions = λ h t is. record {
          owned = λ p named. same_owner (get_or ps p None) (page_at s p) (rewritten.same p) ∙ (steady.transactions h t is).owned p named;
          receiver = (steady.transactions h t is).receiver;
          within = λ p e right named holds. ap (is_within (Some right)) (same_own_right (get_or ps p None) (page_at s p) (rewritten.same p)) ∙ (steady.transactions h t is).within p e right named holds;
          alone = (steady.transactions h t is).alone;
          ceilings = λ p e named. subst (λ (b : Ownership). is_within (Some (ceiling b t e)) (b.own_right p) ≡ true) (sym same-ownership) ((steady.transactions h t is).ceilings p e named);
          taker = (steady.transactions h t is).taker;
        };
        sends = steady.sends;
        numbers = steady.numbers;
        buffers = λ e b known is. (let own = buffers e b known is in record { tx = λ p its. alone-kept e p (own.tx p its); rx = λ p its. alone-kept e p (own.rx p its) });
        bound = steady.bound;
      }

-- notifications, where the bindings keep their form
pub steady-notified : (s : State) → IsSteady s → (n : Notifications) → ((entry : List ℕ) → finite_set.contains n.bound entry ≡ true → IsSteadyBinding entry) → IsSteady (with_notifications s n)
steady-notified s steady n bound =
    record {
      some = steady.some;
      few = steady.few;
      each = steady.each;
      runner = steady.runner;
      requesters = steady.requesters;
      one = steady.one;
      transactions = λ h t is. (let good = steady.transactions h t is in record { owned = good.owned; receiver = good.receiver; within = good.within; alone = good.alone; ceilings = good.ceilings; taker = good.taker });
      sends = steady.sends;
      numbers = steady.numbers;
      buffers = λ e b known is.
          let own = steady.buffers e b known is in
          record { tx = λ p its. record { owner = (own.tx p its).owner; unnamed = (own.tx p its).unnamed }; rx = λ p its. record { owner = (own.rx p its).owner; unnamed = (own.rx p its).unnamed } };
      bound = bound;
    }

-- RX that is full or empty leaves buffers steady
pub steady-rx : (s : State) → IsSteady s → (f : ℕ) (full : Bool) (e : ℕ) (b : Buffers) → is_known s e ≡ true → get_or (buffers_with_rx s.buffers f full) (place e) None ≡ Some b → AreSteadyBuffers s e b
steady-rx s steady f full e b known is =
    go (is_at (place f) (place e)) (get_or s.buffers (place e) None) refl (sym (at-changed (with_rx_full full) s.buffers (place f) (place e) refl) ∙ is)
  where
    none_some : None ≡ Some b → ⊥
    none_some x = cc

    go : (same : Bool) (o : Option Buffers) → get_or s.buffers (place e) None ≡ o → cond same (with_rx_full full o) o ≡ Some b → AreSteadyBuffers s e b
    go true None at is = absurd (none_some is)
    go false None at is = absurd (none_some is)
    go true (Some x) at is =
        let own = steady.buffers e x known at in
        let same : record x { full = full } ≡ b = cc in
        subst (AreSteadyBuffers s e) same (record { tx = own.tx; rx = own.rx })
    go false (Some x) at is = let same : x ≡ b = cc in subst (AreSteadyBuffers s e) same (steady.buffers e x known at)
