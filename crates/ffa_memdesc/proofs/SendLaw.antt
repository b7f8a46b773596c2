-- SPDX-License-Identifier: MIT OR Apache-2.0
-- A send: what is computed is what the relation says, both ways.
use Rattle.std.proofs.Common.{◌≡◌, ◌≢◌, ℕ, ◌<◌, ◌==◌, Bool, true, false, not, List, Some, refl, sym, ap, ◌∙◌, subst, inl, inr}
use Rattle.std.proofs.lemmas.Bool.{and_parts, and_from, or_cases, not-true, leb-true, eqb-true, eqb-false, le-leb, eq-eqb, ne_eqb}
use Rattle.std.proofs.lemmas.Option.{cond_some, same_Some}
use Rattle.ffa_model.specs.declared.manifest.Ffa.{Ffa}
use Rattle.ffa_model.specs.declared.rights.Kind.{Kind}
use Rattle.ffa_model.specs.declared.rights.Kind.TheVariants.{Donate}
use Rattle.ffa_model.specs.declared.transaction.Range.{Range}
use Rattle.ffa_model.specs.declared.transaction.Receiver.{Receiver}
use Rattle.ffa_model.specs.DescriptorPlaces.{is_header, flags_field, sender_field, tag_field, receiver_count, access_place, endpoint_field, range_count, range_place, Versioned}
use Rattle.ffa_model.specs.SendDescriptor.{flags_but_type, SendRecord, Send, IsGrant, IsAccess, IsComposite, IsRange, AreApart, is_grant, is_access, is_access_beside, is_composite, is_range, are_apart, is_range_beside, is_send_header, is_send_body, holds_at_each, send_in, send_counted, send_of, receiver_in, receivers_in, range_in, ranges_in}
use Rattle.ffa_memdesc.proofs.Listed.{holds_told, holds_again, none_told, none_again, all_told, all_again}
use Rattle.ffa_memdesc.proofs.Decisions.{cond_true, differ, differ_again, either_told, either_again, either_true}
use Rattle.ffa_memdesc.proofs.HeaderLaw.{header_told, header_again}

pub grant_told : (kind : Kind) (p : ℕ) → is_grant kind p ≡ true → IsGrant kind p
grant_told Donate p e = eqb-true _ _ e
grant_told _ p e = either_told p 1 2 e

pub grant_again : (kind : Kind) (p : ℕ) → IsGrant kind p → is_grant kind p ≡ true
grant_again Donate p e = eq-eqb _ _ e
grant_again _ p e = either_again p 1 2 e

access_told : (kind : Kind) (b : Versioned) (at : ℕ) → is_access kind b at ≡ true → IsAccess kind b at
access_told kind b at e =
    let p4 = and_parts _ _ e in
    let p3 = and_parts _ _ p4.0 in
    let p2 = and_parts _ _ p3.0 in
    let p1 = and_parts _ _ p2.0 in
    record {
      permissions = grant_told kind _ p1.0;
      flags = eqb-true _ _ p1.1;
      composite = eqb-true _ _ p2.1;
      reserved = p3.1;
      other = differ _ _ p4.1;
    }

access_again : (kind : Kind) (b : Versioned) (at : ℕ) → IsAccess kind b at → is_access kind b at ≡ true
access_again kind b at h =
    and_from _ _ (and_from _ _ (and_from _ _ (and_from _ _
    (grant_again kind _ h.permissions) (eq-eqb _ _ h.flags)) (eq-eqb _ _ h.composite)) h.reserved) (differ_again _ _ h.other)

composite_told : (b : Versioned) → is_composite b ≡ true → IsComposite b
composite_told b e =
    let p5 = and_parts _ _ e in
    let p4 = and_parts _ _ p5.0 in
    let p3 = and_parts _ _ p4.0 in
    let p2 = and_parts _ _ p3.0 in
    let p1 = and_parts _ _ p2.0 in
    record {
      aligned = eqb-true _ _ p1.0;
      behind = leb-true _ _ p1.1;
      least = leb-true _ _ p2.1;
      most = leb-true _ _ p3.1;
      reserved = eqb-true _ _ p4.1;
      inside = leb-true _ _ p5.1;
    }

composite_again : (b : Versioned) → IsComposite b → is_composite b ≡ true
composite_again b h =
    and_from _ _ (and_from _ _ (and_from _ _ (and_from _ _ (and_from _ _
    (eq-eqb _ _ h.aligned) (le-leb _ _ h.behind)) (le-leb _ _ h.least)) (le-leb _ _ h.most)) (eq-eqb _ _ h.reserved)) (le-leb _ _ h.inside)

range_told : (b : List ℕ) (at : ℕ) → is_range b at ≡ true → IsRange b at
range_told b at e =
    let p3 = and_parts _ _ e in
    let p2 = and_parts _ _ p3.0 in
    let p1 = and_parts _ _ p2.0 in
    record { least = leb-true _ _ p1.0; aligned = eqb-true _ _ p1.1; below = leb-true _ _ p2.1; reserved = eqb-true _ _ p3.1 }

range_again : (b : List ℕ) (at : ℕ) → IsRange b at → is_range b at ≡ true
range_again b at h =
    and_from _ _ (and_from _ _ (and_from _ _ (le-leb _ _ h.least) (eq-eqb _ _ h.aligned)) (le-leb _ _ h.below)) (eq-eqb _ _ h.reserved)

apart_told : (r q : Range) → are_apart r q ≡ true → AreApart r q
apart_told r q e = elim (or_cases _ _ e) [ inl a ↦ inl (leb-true _ _ a) | inr a ↦ inr (leb-true _ _ a) ]

pub apart_again : (r q : Range) → AreApart r q → are_apart r q ≡ true
apart_again r q (inl a) = either_true _ _ (inl (le-leb _ _ a))
apart_again r q (inr a) = either_true _ _ (inr (le-leb _ _ a))

-- access descriptor i, and those before it
record Receives (kind : Kind) (b : Versioned) (i : ℕ) : Type 0 where
  access : IsAccess kind b (access_place b i)
  new : (j : ℕ) → j < i → endpoint_field b.bytes (access_place b j) ≢ endpoint_field b.bytes (access_place b i)

receives : (kind : Kind) (b : Versioned) → holds_at_each (is_access_beside kind b) (receiver_count b) ≡ true → (i : ℕ) → i < receiver_count b → Receives kind b i
receives kind b e i lt =
    let (access, new) = and_parts _ _ (holds_told (is_access_beside kind b) (receiver_count b) e i lt) in
    record {
      access = access_told kind b (access_place b i) access;
      new = λ j before. eqb-false _ _ (none_told (λ (r : Receiver). r.endpoint.0 == endpoint_field b.bytes (access_place b i)) (receiver_in b) i (not-true _ new) j before);
    }

receives_again : (kind : Kind) (b : Versioned) → ((i : ℕ) → i < receiver_count b → Receives kind b i) → holds_at_each (is_access_beside kind b) (receiver_count b) ≡ true
receives_again kind b h =
    holds_again (is_access_beside kind b) (receiver_count b) (λ i lt.
    and_from _ _ (access_again kind b (access_place b i) (h i lt).access)
    (ap not (none_again (λ (r : Receiver). r.endpoint.0 == endpoint_field b.bytes (access_place b i)) (receiver_in b) i (λ j before. ne_eqb _ _ ((h i lt).new j before)))))

-- range i, and those before it
record OpenTransactions (b : Versioned) (i : ℕ) : Type 0 where
  range : IsRange b.bytes (range_place b i)
  apart : (j : ℕ) → j < i → AreApart (range_in b i) (range_in b j)

open_transactions : (b : Versioned) → holds_at_each (is_range_beside b) (range_count b) ≡ true → (i : ℕ) → i < range_count b → OpenTransactions b i
open_transactions b e i lt =
    let (range, apart) = and_parts _ _ (holds_told (is_range_beside b) (range_count b) e i lt) in
    record {
      range = range_told b.bytes (range_place b i) range;
      apart = λ j before. apart_told (range_in b i) (range_in b j) (all_told (are_apart (range_in b i)) (range_in b) i apart j before);
    }

offers_again : (b : Versioned) → ((i : ℕ) → i < range_count b → OpenTransactions b i) → holds_at_each (is_range_beside b) (range_count b) ≡ true
offers_again b h =
    holds_again (is_range_beside b) (range_count b) (λ i lt.
    and_from _ _ (range_again b.bytes (range_place b i) (h i lt).range)
    (all_again (are_apart (range_in b i)) (range_in b) i (λ j before. apart_again (range_in b i) (range_in b j) ((h i lt).apart j before))))

counted : (t : Bool) (ffa : Ffa) (kind : Kind) (b : Versioned) (r : SendRecord) → send_counted t ffa kind b ≡ Some r → (t ≡ true) × (is_send_body kind b ≡ true) × (send_in ffa kind b ≡ r)
counted true ffa kind b r e = let (body, same) = cond_some (is_send_body kind b) (send_in ffa kind b) r e in (refl, body, same)
counted false ffa kind b r e = absurd cc

counted_again : (t : Bool) (ffa : Ffa) (kind : Kind) (b : Versioned) → t ≡ true → is_send_body kind b ≡ true → send_counted t ffa kind b ≡ Some (send_in ffa kind b)
counted_again true ffa kind b e body = cond_true (is_send_body kind b) (send_in ffa kind b) body
counted_again false ffa kind b e body = absurd cc

facts : (ffa : Ffa) (kind : Kind) (b : Versioned) → is_header b ≡ true → is_send_header ffa kind b ≡ true → is_composite b ≡ true → is_send_body kind b ≡ true → Send ffa kind b (send_in ffa kind b)
unfolding is_send_header is_send_body
facts ffa kind b header e composite body =
    let p4 = and_parts _ _ e in
    let p3 = and_parts _ _ p4.0 in
    let p2 = and_parts _ _ p3.0 in
    let p1 = and_parts _ _ p2.0 in
    let q2 = and_parts _ _ body in
    let q1 = and_parts _ _ q2.0 in
    record {
      header = header_told b header;
      attributes = p1.0;
      flags = leb-true _ _ p1.1;
      handle = eqb-true _ _ p2.1;
      least = leb-true _ _ p3.1;
      most = leb-true _ _ p4.1;
      accesses = λ i lt. (receives kind b q1.0 i lt).access;
      distinct = λ i j before lt. (receives kind b q1.0 i lt).new j before;
      composite = composite_told b composite;
      each = λ i lt. (open_transactions b q1.1 i lt).range;
      apart = λ i j before lt. (open_transactions b q1.1 i lt).apart j before;
      total = eqb-true _ _ q2.1;
      sender = refl;
      zero = refl;
      tag = refl;
      receivers = refl;
      ranges = refl;
    }

header_test : (ffa : Ffa) (kind : Kind) (b : Versioned) (r : SendRecord) → Send ffa kind b r → is_send_header ffa kind b ≡ true
unfolding is_send_header
header_test ffa kind b r h =
    and_from _ _ (and_from _ _ (and_from _ _ (and_from _ _
    h.attributes (le-leb _ _ h.flags)) (eq-eqb _ _ h.handle)) (le-leb _ _ h.least)) (le-leb _ _ h.most)

body_test : (ffa : Ffa) (kind : Kind) (b : Versioned) (r : SendRecord) → Send ffa kind b r → is_send_body kind b ≡ true
unfolding is_send_body
body_test ffa kind b r h =
    and_from _ _ (and_from _ _
    (receives_again kind b (λ i lt. record { access = h.accesses i lt; new = λ j before. h.distinct i j before lt }))
    (offers_again b (λ i lt. record { range = h.each i lt; apart = λ j before. h.apart i j before lt }))) (eq-eqb _ _ h.total)

pub send_is : (ffa : Ffa) (kind : Kind) (b : Versioned) (r : SendRecord) → r.sender ≡ sender_field b → r.zero ≡ (flags_but_type ffa kind (flags_field b) == 1) → r.tag ≡ tag_field b
    → r.receivers ≡ receivers_in b (receiver_count b) → r.ranges ≡ ranges_in b (range_count b) → send_in ffa kind b ≡ r
send_is ffa kind b r s z t n f = rw (← s, ← z, ← t, ← n, ← f) refl

pub send_told : (ffa : Ffa) (kind : Kind) (b : Versioned) (r : SendRecord) → send_of ffa kind b ≡ Some r → Send ffa kind b r
unfolding send_of
send_told ffa kind b r e =
    let tests = counted _ ffa kind b r e in
    let p2 = and_parts _ _ tests.0 in
    let p1 = and_parts _ _ p2.0 in
    subst (λ (d : SendRecord). Send ffa kind b d) tests.2 (facts ffa kind b p1.0 p1.1 p2.1 tests.1)

pub send_again : (ffa : Ffa) (kind : Kind) (b : Versioned) (r : SendRecord) → Send ffa kind b r → send_of ffa kind b ≡ Some r
unfolding send_of
send_again ffa kind b r h =
    counted_again _ ffa kind b (and_from _ _ (and_from _ _ (header_again b h.header) (header_test ffa kind b r h)) (composite_again b h.composite)) (body_test ffa kind b r h)
    ∙ ap (λ (d : SendRecord). Some d) (send_is ffa kind b r h.sender h.zero h.tag h.receivers h.ranges)

-- a list of bytes fits at most one record
pub one_send : (ffa : Ffa) (kind : Kind) (b : Versioned) (r s : SendRecord) → Send ffa kind b r → Send ffa kind b s → r ≡ s
one_send ffa kind b r s h k = same_Some r s (sym (send_again ffa kind b r h) ∙ send_again ffa kind b s k)
