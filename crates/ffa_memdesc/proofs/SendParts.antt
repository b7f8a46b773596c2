-- SPDX-License-Identifier: MIT OR Apache-2.0
-- What each part of a reader tells of the whole send.
use Rattle.std.proofs.Common.{◌≡◌, ◌≢◌, ℕ, ◌+◌, ◌*◌, ◌≤◌, Bool, Option, true, false, List, Some, None, refl, sym, ap, ◌∙◌, subst, eqb, arith}
use Rattle.std.proofs.lemmas.Bool.{and_from, and_parts, leb-true, eq-eqb, ne_eqb}
use Rattle.std.proofs.lemmas.Option.{cond_some}
use Rattle.ffa_model.specs.declared.flaw.Flaw.{Flaw}
use Rattle.ffa_model.specs.declared.flaw.Flaw.TheVariants.{Composite}
use Rattle.ffa_model.specs.declared.flaw.CompositeFlaw.TheVariants.{Total}
use Rattle.ffa_model.specs.FirstFlaws.{header_flaw, send_header_flaw, access_flaw, composite_flaw, range_flaw, total_flaw, send_flaw, first_of}
use Rattle.ffa_model.specs.declared.manifest.Ffa.{Ffa}
use Rattle.ffa_model.specs.declared.rights.Kind.{Kind}
use Rattle.ffa_model.specs.declared.transaction.Range.{Range}
use Rattle.ffa_model.specs.declared.transaction.Receiver.{Receiver}
use Rattle.ffa_model.specs.declared.endpoint.Version.{Version}
use Rattle.ffa_model.specs.declared.endpoint.Version.TheVariants.{Compact, V1_1, V1_2}
use Rattle.ffa_model.specs.DescriptorPlaces.{IsHeader, accesses_size, u32_at, composite_place, array_end, receiver_count, range_count, total_field, Versioned, sender_field, array_place}
use Rattle.ffa_model.specs.SendDescriptor.{flags_but_type, is_access_beside, is_composite, is_range_beside, is_send_header, is_send_body, holds_at_each, send_in, send_counted, send_of, receivers_in, ranges_in, page_total}
use Rattle.ffa_memdesc.specs.declared.header.Header.{Header}
use Rattle.ffa_memdesc.specs.Reading.{header_in, receivers_of, range_count_of, ranges_of, access_flaw_at, access_flaw_after, composite_flaw_at, range_flaw_at, range_flaw_after}
use Rattle.ffa_memdesc.proofs.HeaderLaw.{header_again}
use Rattle.ffa_memdesc.proofs.Firsts.{or_first, or_second}

-- what stands behind the header, by the places that the bytes themselves tell
abbrev pub receivers_told : Kind → Versioned → Option (List Receiver)
receivers_told kind b = receivers_of kind (sender_field b) (composite_place b) b (array_place b) (receiver_count b)

abbrev pub range_count_told : Versioned → Option ℕ
range_count_told b = range_count_of b.bytes (array_end b) (composite_place b)

-- a reader that has these places reads the same
pub receivers_at : (kind : Kind) (b : Versioned) (h : Header) (composite : ℕ) → h ≡ header_in b → composite ≡ composite_place b
    → receivers_of kind h.sender.0 composite b h.array h.count ≡ receivers_told kind b
receivers_at kind b h composite header place = rw (header, place) refl

pub range_count_at : (b : Versioned) (h : Header) (composite : ℕ) → h ≡ header_in b → composite ≡ composite_place b
    → range_count_of b.bytes (h.array + accesses_size b.version h.count) composite ≡ range_count_told b
range_count_at b h composite header place = rw (header, place) refl

-- how many ranges are counted
pub count_is : (b : Versioned) (n : ℕ) → Some n ≡ range_count_told b → n ≡ range_count b
unfolding range_count_of
count_is b n e = sym (cond_some (is_composite b) (range_count b) n (sym e)).1

-- the two totals that a reader compares
pub record Totals (b : Versioned) (sum told : ℕ) : Type 0 where
  pub sum_is : sum ≡ page_total (ranges_in b (range_count b))
  pub told_is : told ≡ total_field b

pub totals : (b : Versioned) (xs ys : List Range) (n composite sum told : ℕ) → composite ≡ composite_place b → Some xs ≡ ranges_of b.bytes (composite_place b) n → n ≡ range_count b → ys ≡ xs → sum ≡ page_total ys → told ≡ u32_at b.bytes composite
    → Totals b sum told
unfolding ranges_of
totals b xs ys n composite sum told place ranges count same summed read =
    let (hold, are) = cond_some (holds_at_each (is_range_beside b) n) (ranges_in b n) xs (sym ranges) in
    record {
      sum_is = summed ∙ ap page_total (same ∙ sym are ∙ ap (ranges_in b) count);
      told_is = read ∙ ap (u32_at b.bytes) place;
    }

counted_true : (t : Bool) (ffa : Ffa) (kind : Kind) (b : Versioned) → t ≡ true → is_send_body kind b ≡ true → Some (send_in ffa kind b) ≡ send_counted t ffa kind b
counted_true true ffa kind b e body = rw body refl
counted_true false ffa kind b e body = absurd cc

-- what the parts gave is what the bytes say
pub whole_send : (ffa : Ffa) (kind : Kind) (b : Versioned) (h : Header) (rs : List Receiver) (n : ℕ) (xs : List Range) (sum told : ℕ) → IsHeader b → h ≡ header_in b → is_send_header ffa kind b ≡ true
    → Some rs ≡ receivers_told kind b → Some n ≡ range_count_told b → Some xs ≡ ranges_of b.bytes (composite_place b) n → Totals b sum told → sum ≡ told
    → Some (record { sender = h.sender.0; zero = eqb (flags_but_type ffa kind h.flags) 1; tag = h.tag; receivers = rs; ranges = xs }) ≡ send_of ffa kind b
unfolding receivers_of range_count_of ranges_of send_of is_send_body
whole_send ffa kind b h rs n xs sum told header header_is fits receivers count ranges totals equal =
    let (receivers_hold, receivers_are) = cond_some (holds_at_each (is_access_beside kind b) (receiver_count b)) (receivers_in b (receiver_count b)) rs (sym receivers) in
    let (composite_holds, counts) = cond_some (is_composite b) (range_count b) n (sym count) in
    let found : Some xs ≡ ranges_of b.bytes (composite_place b) (range_count b) = subst (λ (k : ℕ). Some xs ≡ ranges_of b.bytes (composite_place b) k) (sym counts) ranges in
    let (ranges_hold, ranges_are) = cond_some (holds_at_each (is_range_beside b) (range_count b)) (ranges_in b (range_count b)) xs (sym found) in
    let total : eqb (page_total (ranges_in b (range_count b))) (total_field b) ≡ true = eq-eqb _ _ (sym totals.sum_is ∙ equal ∙ totals.told_is) in
    rw (header_is, ← receivers_are, ← ranges_are)
    (counted_true _ ffa kind b (and_from _ _ (and_from _ _ (header_again b header) fits) composite_holds) (and_from _ _ (and_from _ _ receivers_hold ranges_hold) total))

-- so many access descriptors have at least 16 bytes each
some_inside : (version : Version) (count : ℕ) → 16 * count ≤ accesses_size version count
some_inside Compact count = omega arith
some_inside V1_1 count = omega arith
some_inside V1_2 count = omega arith

-- the first access descriptor is inside
pub entry_inside : (ffa : Ffa) (kind : Kind) (b : Versioned) (h : Header) (n : ℕ) → h ≡ header_in b → h.array + accesses_size b.version h.count ≤ n → is_send_header ffa kind b ≡ true → h.array + 4 + 4 ≤ n
unfolding is_send_header
entry_inside ffa kind b h n same inside e =
    let least : 1 ≤ receiver_count b = leb-true 1 (receiver_count b) (and_parts _ _ ((and_parts _ _ e).0)).1 in
    let count : h.count ≡ receiver_count b = ap (λ (x : Header). x.count) same in
    let some = some_inside b.version h.count in
    omega arith

-- what a part finds broken first is what the bytes break first there
pub receivers_first : (kind : Kind) (b : Versioned) (h : Header) (composite : ℕ) (told : Option Flaw) → h ≡ header_in b → composite ≡ composite_place b
    → told ≡ first_of h.count (access_flaw_after kind h.sender.0 composite b h.array) → told ≡ first_of (receiver_count b) (access_flaw kind b)
unfolding access_flaw access_flaw_at
receivers_first kind b h composite told header place e = rw e (rw (header, place) refl)

pub composite_first : (b : Versioned) (h : Header) (composite : ℕ) (told : Option Flaw) → h ≡ header_in b → composite ≡ composite_place b
    → told ≡ composite_flaw_at b.bytes (h.array + accesses_size b.version h.count) composite → told ≡ composite_flaw b
unfolding composite_flaw composite_flaw_at
composite_first b h composite told header place e = rw e (rw (header, place) refl)

pub ranges_first : (b : Versioned) (composite n : ℕ) (told : Option Flaw) → composite ≡ composite_place b → n ≡ range_count b
    → told ≡ first_of n (range_flaw_after b.bytes composite) → told ≡ first_of (range_count b) (range_flaw b)
unfolding range_flaw range_flaw_at
ranges_first b composite n told place count e = rw e (rw (place, count) refl)

pub total_first : (b : Versioned) (sum told : ℕ) → Totals b sum told → sum ≢ told → Some (Composite Total) ≡ total_flaw b
unfolding total_flaw
total_first b sum told t differ =
    let fails : eqb (page_total (ranges_in b (range_count b))) (total_field b) ≡ false = ne_eqb _ _ (λ e. differ (t.sum_is ∙ e ∙ sym t.told_is)) in
    rw fails refl

pub total_none : (b : Versioned) (sum told : ℕ) → Totals b sum told → sum ≡ told → None ≡ total_flaw b
unfolding total_flaw
total_none b sum told t equal =
    let holds : eqb (page_total (ranges_in b (range_count b))) (total_field b) ≡ true = eq-eqb _ _ (sym t.sum_is ∙ equal ∙ t.told_is) in
    rw holds refl

-- and the first of the whole, where the parts before break nothing
module _ (ffa : Ffa) (kind : Kind) (b : Versioned) where
  pub first_in_header : (flaw : Flaw) → Some flaw ≡ header_flaw b → Some flaw ≡ send_flaw ffa kind b
  unfolding send_flaw
  first_in_header flaw e = or_first _ _ flaw e

  pub first_in_fields : (flaw : Flaw) → None ≡ header_flaw b → Some flaw ≡ send_header_flaw ffa kind b → Some flaw ≡ send_flaw ffa kind b
  unfolding send_flaw
  first_in_fields flaw header e = or_second _ _ _ header (or_first _ _ flaw e)

  pub first_in_receivers : (flaw : Flaw) → None ≡ header_flaw b → None ≡ send_header_flaw ffa kind b
      → Some flaw ≡ first_of (receiver_count b) (access_flaw kind b) → Some flaw ≡ send_flaw ffa kind b
  unfolding send_flaw
  first_in_receivers flaw header fields e = or_second _ _ _ header (or_second _ _ _ fields (or_first _ _ flaw e))

  pub first_in_composite : (flaw : Flaw) → None ≡ header_flaw b → None ≡ send_header_flaw ffa kind b → None ≡ first_of (receiver_count b) (access_flaw kind b)
      → Some flaw ≡ composite_flaw b → Some flaw ≡ send_flaw ffa kind b
  unfolding send_flaw
  first_in_composite flaw header fields receivers e = or_second _ _ _ header (or_second _ _ _ fields (or_second _ _ _ receivers (or_first _ _ flaw e)))

  pub first_in_ranges : (flaw : Flaw) → None ≡ header_flaw b → None ≡ send_header_flaw ffa kind b → None ≡ first_of (receiver_count b) (access_flaw kind b)
      → None ≡ composite_flaw b → Some flaw ≡ first_of (range_count b) (range_flaw b) → Some flaw ≡ send_flaw ffa kind b
  unfolding send_flaw
  first_in_ranges flaw header fields receivers composite e =
      or_second _ _ _ header (or_second _ _ _ fields (or_second _ _ _ receivers (or_second _ _ _ composite (or_first _ _ flaw e))))

  pub first_in_total : (told : Option Flaw) → None ≡ header_flaw b → None ≡ send_header_flaw ffa kind b → None ≡ first_of (receiver_count b) (access_flaw kind b)
      → None ≡ composite_flaw b → None ≡ first_of (range_count b) (range_flaw b) → told ≡ total_flaw b → told ≡ send_flaw ffa kind b
  unfolding send_flaw
  first_in_total told header fields receivers composite ranges e =
      or_second _ _ _ header (or_second _ _ _ fields (or_second _ _ _ receivers (or_second _ _ _ composite (or_second _ _ _ ranges e))))
