-- SPDX-License-Identifier: MIT OR Apache-2.0
-- How many receivers and ranges a send descriptor has, and its tag.
use Rattle.std.proofs.Common.{◌≡◌, ℕ, ◌^◌, ◌<◌, ◌≤◌, Bool, true, false, cond, List, [], ◌∷◌, zero, suc, length, get_or, Some, None, refl, sym, subst, arith, ◌&&◌, nat_lt}
use Rattle.std.specs.List.{list_all}
use Rattle.std.proofs.lemmas.Bool.{and_parts, leb-true, ltb-true}
use Rattle.std.proofs.lemmas.Option.{none-some, same_Some}
use Rattle.byteorder.specs.Numbers.{little_from-lt}
use Rattle.ffa_model.specs.declared.limits.TheConstants.{MOST_RANGES}
use Rattle.ffa_model.specs.declared.manifest.Ffa.{Ffa}
use Rattle.ffa_model.specs.declared.rights.Kind.{Kind}
use Rattle.ffa_model.specs.DescriptorPlaces.{is_header, range_count, receiver_count, u64_at, Versioned}
use Rattle.ffa_model.specs.SendDescriptor.{SendRecord, is_composite, is_send_body, is_send_header, most_receivers, range_in, receiver_in, send_counted, send_in, send_of}
use Rattle.ffa_model.specs.SoundState.{are_bytes}
use Rattle.ffa_model.proofs.Listed.{length-listed}

-- the counts of a send descriptor
pub record IsCounted (kind : Kind) (r : SendRecord) : Type 0 where
  pub some_receivers : 1 ≤ length r.receivers
  pub few_receivers : length r.receivers ≤ most_receivers kind
  pub some_ranges : 1 ≤ length r.ranges
  pub few_ranges : length r.ranges ≤ MOST_RANGES

counted-in : (ffa : Ffa) (kind : Kind) (b : Versioned) → (is_header b && is_send_header ffa kind b && is_composite b) ≡ true → IsCounted kind (send_in ffa kind b)
unfolding is_send_header
counted-in ffa kind b are =
    let (headers, composite) = and_parts _ (is_composite b) are in
    let (header, send) = and_parts (is_header b) _ headers in
    let (before_most, most) = and_parts _ _ send in
    let (before_least, least) = and_parts _ _ before_most in
    let (before_inside, inside) = and_parts _ _ composite in
    let (before_reserved, reserved) = and_parts _ _ before_inside in
    let (before_few, few) = and_parts _ _ before_reserved in
    let (before_some, some) = and_parts _ _ before_few in
    let receivers = length-listed (receiver_count b) (receiver_in b) in
    let ranges = length-listed (range_count b) (range_in b) in
    record {
      some_receivers = subst (λ n. 1 ≤ n) (sym receivers) (leb-true 1 (receiver_count b) least);
      few_receivers = subst (λ n. n ≤ most_receivers kind) (sym receivers) (leb-true (receiver_count b) (most_receivers kind) most);
      some_ranges = subst (λ n. 1 ≤ n) (sym ranges) (leb-true 1 (range_count b) some);
      few_ranges = subst (λ n. n ≤ MOST_RANGES) (sym ranges) (leb-true (range_count b) MOST_RANGES few);
    }

-- bytes that are a send descriptor say what their fields say, and their counts are good
module _ (ffa : Ffa) (kind : Kind) (b : Versioned) (r : SendRecord) (is : send_of ffa kind b ≡ Some r) where
  read : ((is_header b && is_send_header ffa kind b && is_composite b) ≡ true) × (send_in ffa kind b ≡ r)
  unfolding send_of
  read = of (is_header b && is_send_header ffa kind b && is_composite b) refl is
    where
      body : (c : Bool) → cond c (Some (send_in ffa kind b)) None ≡ Some r → send_in ffa kind b ≡ r
      body true same = same_Some _ r same
      body false none = absurd (none-some r none)

      of : (c : Bool) → (is_header b && is_send_header ffa kind b && is_composite b) ≡ c → send_counted c ffa kind b ≡ Some r
          → ((is_header b && is_send_header ffa kind b && is_composite b) ≡ true) × (send_in ffa kind b ≡ r)
      of true are same = (are, body (is_send_body kind b) same)
      of false are none = absurd (none-some r none)

  pub counted : IsCounted kind r
  counted = subst (IsCounted kind) read.1 (counted-in ffa kind b read.0)

  pub tag-below : are_bytes b.bytes → r.tag < 2 ^ 64
  unfolding u64_at
  tag-below bytes = subst (λ (x : SendRecord). x.tag < 2 ^ 64) read.1 (little_from-lt 16 8 b.bytes (byte-below b.bytes bytes))
    where
      byte-below : (xs : List ℕ) → are_bytes xs → (k : ℕ) → get_or xs k 0 < 256
      byte-below [] all k = omega arith
      byte-below (x ∷ xs) all zero = ltb-true x 256 (and_parts (nat_lt x 256) (list_all (λ b. nat_lt b 256) xs) all).0
      byte-below (x ∷ xs) all (suc k) = byte-below xs (and_parts (nat_lt x 256) (list_all (λ b. nat_lt b 256) xs) all).1 k
