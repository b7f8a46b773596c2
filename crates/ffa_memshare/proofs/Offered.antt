-- SPDX-License-Identifier: MIT OR Apache-2.0
-- What an endpoint offers that passed the checks.
use Rattle.std.proofs.Common.{◌≡◌, ◌∙◌, ℕ, zero, suc, ◌+◌, ◌*◌, ◌%◌, ◌<◌, ◌≤◌, Bool, true, false, cond, List, [], ◌∷◌, length, get_or, Option, Some, None, refl, sym, ap, arith, inl, inr}
use Rattle.ffa_model.specs.Access.{Ownership}
use Rattle.std.specs.Prelude.{◌==◌, not, ◌&&◌, ◌||◌, is_some, filter, if◌then◌else◌}
use Rattle.std.specs.List.{list_all}
use Rattle.std.specs.Option.{option_and_then, option_map, option_map_or}
use Rattle.std.proofs.Math.Bool.{or-and_distrib_left, or-true}
use Rattle.std.proofs.lemmas.Bool.{and_parts, eq-eqb, eqb-true, leb-true, ltb-true, ne_eqb, or_cases, false≢true}
use Rattle.ffa_model.specs.declared.rights.Data.{Data}
use Rattle.ffa_model.specs.declared.rights.Data.TheVariants.{Ro, Rw}
use Rattle.ffa_model.specs.declared.rights.Rights.{Rights}
use Rattle.ffa_model.specs.declared.manifest.Ffa.{Ffa}
use Rattle.ffa_model.specs.declared.rights.Kind.{Kind}
use Rattle.ffa_model.specs.declared.transaction.Range.{Range}
use Rattle.ffa_model.specs.declared.transaction.Receiver.{Receiver}
use Rattle.ffa_model.specs.declared.refusal.Refusal.{Refusal}
use Rattle.ffa_model.specs.declared.refusal.Refusal.TheVariants.{SenderIsAnother, ReceiverUnknown, RangeOutside, PageUnsendable, GrantTooMuch, ZerosUnwritable}
use Rattle.ffa_model.specs.Buffers.{is_own}
use Rattle.ffa_model.specs.Calls.{first_refusal}
use Rattle.ffa_model.specs.DescriptorPlaces.{Versioned, range_count, receiver_count}
use Rattle.ffa_model.specs.Identifiers.{manager}
use Rattle.ffa_model.specs.Lists.{listed}
use Rattle.ffa_model.specs.MemorySend.{are_grants_within, are_known, is_grantable, is_inside, is_sendable}
use Rattle.ffa_model.specs.Rights.{may_store, may_write}
use Rattle.ffa_model.specs.SendDescriptor.{Send, SendRecord, is_named, range_in, receiver_in}
use Rattle.ffa_model.specs.State.{Buffers}
use Rattle.ffa_model.specs.Transactions.{are_writable, pages_in}
use Rattle.ffa_model.proofs.NamedPages.{listed-each}
use Rattle.ffa_model.proofs.Listed.{get_or-listed, length-listed}
use Rattle.ffa_pages.specs.Entry.{Entry, own_right_at, entry_at}
use Rattle.ffa_rxtx.specs.Parts.{ownership_in}
use Rattle.ffa_memshare.specs.Offers.{AreAligned, IsOwnOffer, grants_writes, write_guards}
use Rattle.ffa_memshare.specs.Ranges.{ArePlaced, IsPlaced, in_range, in_ranges}

-- the ranges of a descriptor begin where pages do
pub sent-aligned : (ffa : Ffa) (kind : Kind) (b : Versioned) (r : SendRecord) → Send ffa kind b r → AreAligned r.ranges
sent-aligned ffa kind b r send i x lt is =
    let n = range_count b in
    let less : i < n = omega (arith, lt, ap (λ (rs : List Range). length rs) send.ranges, length-listed n (range_in b)) in
    let at : x ≡ range_in b i = is ∙ ap (λ (rs : List Range). get_or rs i x) send.ranges ∙ get_or-listed n (range_in b) i x less in
    ap (λ (q : Range). q.address % 4096) at ∙ (send.each i less).aligned

-- and its receivers are others than its sender
pub sent-other : (ffa : Ffa) (kind : Kind) (b : Versioned) (r : SendRecord) → Send ffa kind b r → is_named r.sender r.receivers ≡ false
sent-other ffa kind b r send =
    ap (is_named r.sender) send.receivers
    ∙ each (receiver_count b) (receiver_in b) (λ i lt is. (send.accesses i lt).other (is ∙ send.sender))
  where
    each : (n : ℕ) (f : ℕ → Receiver) → ((i : ℕ) → i < n → (f i).endpoint.0 ≡ r.sender → ⊥) → is_named r.sender (listed n f) ≡ false
    each zero f none = refl
    each (suc n) f none =
        ap (λ b. b || is_named r.sender (listed n (λ i. f (suc i)))) (ne_eqb (f 0).endpoint.0 r.sender (none 0 (omega arith)))
        ∙ each n (λ i. f (suc i)) (λ i lt. none (suc i) (omega arith))

-- ranges of whole pages inside RAM
pub inside-placed : (table : List (Option Entry)) (base : ℕ) (ranges : List Range) → base % 4096 ≡ 0 → AreAligned ranges
    → list_all (is_inside (ownership_in table base)) ranges ≡ true → ArePlaced base (length table) ranges
inside-placed table base [] whole aligned all i r lt is = absurd (omega arith)
inside-placed table base (q ∷ ranges) whole aligned all zero r lt is = of r (is ∙ refl) (aligned 0 r lt is)
  where
    of : (r : Range) → r ≡ q → r.address % 4096 ≡ 0 → IsPlaced base (length table) r
    of r same own =
        let (this, rest) = and_parts (is_inside (ownership_in table base) q) _ all in
        let (low, high) = and_parts _ _ this in
        let from : base ≤ q.address = leb-true _ _ low in
        let to : q.address + 4096 * q.pages ≤ base + 4096 * length table = leb-true _ _ high in
        let address : r.address ≡ q.address = ap (λ (x : Range). x.address) same in
        let pages : r.pages ≡ q.pages = ap (λ (x : Range). x.pages) same in
        record { aligned = omega (arith, whole, own, from, address); within = omega (arith, whole, own, from, to, address, pages) }
inside-placed table base (q ∷ ranges) whole aligned all (suc i) r lt is =
    inside-placed table base ranges whole (λ j x less at. aligned (suc j) x (omega arith) at) (and_parts (is_inside (ownership_in table base) q) _ all).1 i r (omega arith) is

-- a page that ranges have is one of RAM's
pub named-within : (base count : ℕ) (ranges : List Range) (p : ℕ) → ArePlaced base count ranges → in_ranges base ranges p ≡ true → p < count
named-within base count [] p placed is = absurd (false≢true is)
named-within base count (q ∷ ranges) p placed is = elim (or_cases (in_range base q p) (in_ranges base ranges p) is) [
  | inl here ↦
      let its = placed 0 q (omega arith) refl in
      let (low, high) = and_parts _ _ here in
      let from : q.address ≤ base + 4096 * p = leb-true _ _ low in
      let to : base + 4096 * p < q.address + 4096 * q.pages = ltb-true _ _ high in
      omega (arith, its.aligned, its.within, from, to)
  | inr there ↦ named-within base count ranges p (λ i r lt at. placed (suc i) r (omega arith) at) there
]

-- whether a page with this entry is an endpoint's, and no transaction names it
abbrev pub is_own_entry : ℕ → Option Entry → Bool
is_own_entry e o =
    (is_some (option_map (λ (x : Entry). x.own_right) o) && option_map_or (λ (x : Entry). x.owner) o manager == e)
    && not (is_some (option_and_then (λ (x : Entry). x.slot) o))

-- a page of an endpoint alone
own-entry : (e : ℕ) (o : Option Entry) → is_own_entry e o ≡ true → (x : Entry) × (o ≡ Some x) × (x.owner ≡ e)
own-entry e None own = absurd (false≢true own)
own-entry e (Some x) own = (x, refl, eqb-true x.owner e (and_parts (x.owner == e) _ own).0)

-- what passed the checks is the endpoint's own
pub checked-offered : (table : List (Option Entry)) (base e : ℕ) (buffers : List (Option Buffers)) (r : SendRecord) → base % 4096 ≡ 0 → AreAligned r.ranges → r.sender ≡ e
    → list_all (is_inside (ownership_in table base)) r.ranges ≡ true
    → list_all (is_sendable e (ownership_in table base) buffers) (pages_in (ownership_in table base) r.ranges) ≡ true
    → IsOwnOffer table base e r
checked-offered table base e buffers r whole aligned sender inside sendable =
    let placed = inside-placed table base r.ranges whole aligned inside in
    record {
      sender = sender;
      placed = placed;
      own = λ p named.
          own-entry e (entry_at table p)
          (and_parts (is_own e (ownership_in table 0) p) _
          (listed-each (is_sendable e (ownership_in table base) buffers) (in_ranges base r.ranges) (length table) (λ q. q) sendable p
          (named-within base (length table) r.ranges p placed named) named)).0;
    }

-- each of its pages has an entry
pub own-entries : {table : List (Option Entry)} {base e : ℕ} {r : SendRecord} → IsOwnOffer table base e r
    → (p : ℕ) → in_ranges base r.ranges p ≡ true → (x : Entry) × (entry_at table p ≡ Some x)
own-entries its p named = ((its.own p named).0, (its.own p named).1)

-- the checks of an offer before those that pages may be written to
abbrev pub of_sendable : ℕ → Ownership → List (Option Buffers) → ℕ → SendRecord → List (Bool × Refusal)
of_sendable endpoints ram buffers e r =
    (r.sender == e, SenderIsAnother)
    ∷ (are_known endpoints r.receivers, ReceiverUnknown)
    ∷ (list_all (is_inside ram) r.ranges, RangeOutside)
    ∷ (list_all (is_sendable e ram buffers) (pages_in ram r.ranges), PageUnsendable)
    ∷ []

module _ (endpoints : ℕ) (ram : Ownership) (buffers : List (Option Buffers)) (e : ℕ) (r : SendRecord) where
  pub sendable-pass : r.sender ≡ e → are_known endpoints r.receivers ≡ true → list_all (is_inside ram) r.ranges ≡ true
      → list_all (is_sendable e ram buffers) (pages_in ram r.ranges) ≡ true → None ≡ first_refusal (of_sendable endpoints ram buffers e r)
  sendable-pass sender known inside sendable =
      of (r.sender == e) (are_known endpoints r.receivers) (list_all (is_inside ram) r.ranges) (list_all (is_sendable e ram buffers) (pages_in ram r.ranges))
      (eq-eqb r.sender e sender) known inside sendable
    where
      of : (a b c d : Bool) → a ≡ true → b ≡ true → c ≡ true → d ≡ true
          → None ≡ first_refusal ((a, SenderIsAnother) ∷ (b, ReceiverUnknown) ∷ (c, RangeOutside) ∷ (d, PageUnsendable) ∷ [])
      of true true true true _ _ _ _ = refl
      of false b c d is _ _ _ = absurd (false≢true is)
      of true false c d _ is _ _ = absurd (false≢true is)
      of true true false d _ _ is _ = absurd (false≢true is)
      of true true true false _ _ _ is = absurd (false≢true is)

-- GRANTS
both : (m w : Bool) → (m && (not w || m)) ≡ (not true || m)
both true true = refl
both true false = refl
both false w = refl

-- grants are within the right to a page where nobody is granted rw or the page has it
page-grants : (receivers : List Receiver) (right : Rights)
    → list_all (λ (r : Receiver). is_grantable r.grant (Some right)) receivers ≡ (not (grants_writes receivers) || may_write right.level)
page-grants [] right = refl
page-grants (q ∷ receivers) right = of q.grant (page-grants receivers right)
  where
    of : (g : Option Data) → list_all (λ (r : Receiver). is_grantable r.grant (Some right)) receivers ≡ (not (grants_writes receivers) || may_write right.level)
        → (is_grantable g (Some right) && list_all (λ (r : Receiver). is_grantable r.grant (Some right)) receivers)
        ≡ (not (option_map_or may_write g false || grants_writes receivers) || may_write right.level)
    of None rest = rest
    of (Some Ro) rest = rest
    of (Some Rw) rest = ap (λ b. may_write right.level && b) rest ∙ both (may_write right.level) (grants_writes receivers)

module _ (all one keep : ℕ → Bool) (w : Bool) where
  each-grants : (xs : List ℕ) → ((p : ℕ) → keep p ≡ true → all p ≡ (not w || one p)) → list_all all (filter keep xs) ≡ (not w || list_all one (filter keep xs))
  each-grants [] each = sym (or-true (not w))
  each-grants (p ∷ xs) each = of (keep p) refl (each-grants xs each)
    where
      of : (b : Bool) → keep p ≡ b → list_all all (filter keep xs) ≡ (not w || list_all one (filter keep xs))
          → list_all all (cond b (p ∷ filter keep xs) (filter keep xs)) ≡ (not w || list_all one (cond b (p ∷ filter keep xs) (filter keep xs)))
      of true kept rest = ap (λ b. b && list_all all (filter keep xs)) (each p kept) ∙ ap (λ b. (not w || one p) && b) rest ∙ sym (or-and_distrib_left (not w) (one p) (list_all one (filter keep xs)))
      of false out rest = rest

-- so are those of all pages that an endpoint owns
pub grants-within : (table : List (Option Entry)) (base : ℕ) (r : SendRecord)
    → ((p : ℕ) → in_ranges base r.ranges p ≡ true → (x : Entry) × (entry_at table p ≡ Some x))
    → list_all (are_grants_within (ownership_in table base) r.receivers) (pages_in (ownership_in table base) r.ranges)
    ≡ (not (grants_writes r.receivers) || are_writable (ownership_in table base) r.ranges)
grants-within table base r owned =
    each-grants (are_grants_within (ownership_in table base) r.receivers) (λ p. may_store (own_right_at table p)) (in_ranges base r.ranges) (grants_writes r.receivers) (listed (length table) (λ p. p))
    (λ p named. let (x, is) = owned p named in
    ap (λ (o : Option Entry). list_all (λ (q : Receiver). is_grantable q.grant (option_map (λ (e : Entry). e.own_right) o)) r.receivers) is
    ∙ page-grants r.receivers x.own_right
    ∙ ap (λ (o : Option Entry). not (grants_writes r.receivers) || may_store (option_map (λ (e : Entry). e.own_right) o)) (sym is))

-- why pages may not be sent, of which rw is asked, where they have it or not and somebody is granted it or not
abbrev pub unwritable : (asks is granted : Bool) → Option Refusal
unwritable asks is granted = if asks then (if is then None else Some (if granted then GrantTooMuch else ZerosUnwritable)) else None

pub first-unwritable : (table : List (Option Entry)) (base : ℕ) (r : SendRecord)
    → ((p : ℕ) → in_ranges base r.ranges p ≡ true → (x : Entry) × (entry_at table p ≡ Some x)) → (asks is granted : Bool)
    → asks ≡ (r.zero || grants_writes r.receivers) → is ≡ are_writable (ownership_in table base) r.ranges → granted ≡ grants_writes r.receivers
    → unwritable asks is granted ≡ first_refusal (write_guards (ownership_in table base) r)
first-unwritable table base r owned asks is granted asked writes grants =
    ap (λ b. unwritable b is granted) asked ∙ ap (λ b. unwritable (r.zero || grants_writes r.receivers) b granted) writes
    ∙ ap (unwritable (r.zero || grants_writes r.receivers) w) grants
    ∙ of w r.zero (grants_writes r.receivers)
    ∙ ap (λ b. first_refusal ((b, GrantTooMuch) ∷ (not r.zero || w, ZerosUnwritable) ∷ [])) (sym (grants-within table base r owned))
  where
    w : Bool
    w = are_writable (ownership_in table base) r.ranges

    of : (w z g : Bool) → unwritable (z || g) w g ≡ first_refusal ((not g || w, GrantTooMuch) ∷ (not z || w, ZerosUnwritable) ∷ [])
    of true true true = refl
    of true true false = refl
    of true false true = refl
    of true false false = refl
    of false true true = refl
    of false true false = refl
    of false false true = refl
    of false false false = refl
