-- SPDX-License-Identifier: MIT OR Apache-2.0
-- A record that bytes are read as breaks no condition.
use Rattle.std.proofs.Common.{◌≡◌, ◌≢◌, ℕ, zero, suc, ◌^◌, ◌<◌, ◌≤◌, Bool, true, false, not, cond, List, [], ◌∷◌, get_or, Option, Some, None, inl, inr, refl, sym, ap, subst, arith, ◌==◌, nat_le, nat_lt}
use Rattle.std.specs.List.{list_all}
use Rattle.std.proofs.lemmas.Bool.{and_parts, and_from, eq-eqb, ne_eqb, le-leb, lt-ltb, ltb-true}
use Rattle.byteorder.specs.Numbers.{little_from-lt}
use Rattle.ffa_model.specs.declared.rights.Kind.{Kind}
use Rattle.ffa_model.specs.declared.rights.Kind.TheVariants.{Share, Lend, Donate}
use Rattle.ffa_model.specs.declared.transaction.Range.{Range}
use Rattle.ffa_model.specs.declared.transaction.Receiver.{Receiver}
use Rattle.ffa_model.specs.Lists.{listed}
use Rattle.ffa_model.specs.DescriptorPlaces.{Versioned, u32_at, data_code, data_of, composite_place, receiver_count, range_count}
use Rattle.ffa_model.specs.SendDescriptor.{SendRecord, Send, IsGrant, AreApart, is_grant, is_named, are_apart, most_flags, most_receivers, receiver_in, range_in}
use Rattle.ffa_model.specs.SoundState.{are_bytes}
use Rattle.ffa_model.proofs.Listed.{length-listed}
use Rattle.ffa_memdesc.proofs.Decisions.{either_true}
use Rattle.ffa_memdesc.proofs.Listed.{all_again, none_again}
use Rattle.ffa_memdesc.proofs.SendLaw.{send_is}
use Rattle.play_trace.specs.Conditions.{are_distinct, are_all_apart, conditions, first_broken}
use Rattle.ffa_model.specs.declared.manifest.Ffa.{Ffa}

holds : {A : Type 0} (t : Bool) (u : A) (x : Option A) → t ≡ true → x ≡ None → cond t x (Some u) ≡ None
holds true u x e none = none
holds false u x e none = absurd cc

byte_below : (xs : List ℕ) → are_bytes xs → (k : ℕ) → get_or xs k 0 < 256
byte_below [] all k = omega arith
byte_below (x ∷ xs) all zero = ltb-true x 256 (and_parts (nat_lt x 256) (list_all (λ b. nat_lt b 256) xs) all).0
byte_below (x ∷ xs) all (suc k) = byte_below xs (and_parts (nat_lt x 256) (list_all (λ b. nat_lt b 256) xs) all).1 k

u32_below : (xs : List ℕ) (at : ℕ) → are_bytes xs → u32_at xs at < 2 ^ 32
unfolding u32_at
u32_below xs at all = little_from-lt at 4 xs (byte_below xs all)

bit_below : (t : Bool) → nat_le (cond t 1 0) 1 ≡ true
bit_below true = refl
bit_below false = refl

flag_again : (kind : Kind) (flags : ℕ) → flags ≤ most_flags kind → nat_le (cond (flags == 1) 1 0) (most_flags kind) ≡ true
flag_again Share flags least = let none : flags ≡ 0 = omega arith in rw none refl
flag_again _ flags least = bit_below (flags == 1)

grant_again : (kind : Kind) (p : ℕ) → IsGrant kind p → is_grant kind (data_code (data_of p)) ≡ true
grant_again Share p (inl e) = rw e refl
grant_again Share p (inr e) = rw e refl
grant_again Lend p (inl e) = rw e refl
grant_again Lend p (inr e) = rw e refl
grant_again Donate p e = rw e refl

named_again : (e n : ℕ) (f : ℕ → Receiver) → ((i : ℕ) → i < n → (f i).endpoint.0 ≢ e) → not (is_named e (listed n f)) ≡ true
named_again e n f h = ap not (none_again (λ (x : Receiver). x.endpoint.0 == e) f n (λ i lt. ne_eqb _ _ (h i lt)))

distinct_again : (n : ℕ) (f : ℕ → Receiver) → ((i j : ℕ) → j < i → i < n → (f j).endpoint.0 ≢ (f i).endpoint.0) → are_distinct (listed n f) ≡ true
distinct_again zero f h = refl
distinct_again (suc n) f h =
    and_from _ _ (named_again (f 0).endpoint.0 n (λ i. f (suc i)) (λ i lt same. h (suc i) 0 (omega arith) (omega arith) (sym same)))
    (distinct_again n (λ i. f (suc i)) (λ i j before lt. h (suc i) (suc j) (omega arith) (omega arith)))

apart_again : (x q : Range) → AreApart q x → are_apart x q ≡ true
apart_again x q (inl a) = either_true _ _ (inr (le-leb _ _ a))
apart_again x q (inr a) = either_true _ _ (inl (le-leb _ _ a))

all_apart_again : (n : ℕ) (f : ℕ → Range) → ((i j : ℕ) → j < i → i < n → AreApart (f i) (f j)) → are_all_apart (listed n f) ≡ true
all_apart_again zero f h = refl
all_apart_again (suc n) f h =
    and_from _ _ (all_again (are_apart (f 0)) (λ i. f (suc i)) n (λ i lt. apart_again (f 0) (f (suc i)) (h (suc i) 0 (omega arith) (omega arith))))
    (all_apart_again n (λ i. f (suc i)) (λ i j before lt. h (suc i) (suc j) (omega arith) (omega arith)))

pub needs : (ffa : Ffa) (kind : Kind) (b : Versioned) (r : SendRecord) → are_bytes b.bytes → Send ffa kind b r → first_broken (conditions kind r) ≡ None
needs ffa kind b r bytes s =
    let many = length-listed (receiver_count b) (receiver_in b) in
    let much = length-listed (range_count b) (range_in b) in
    subst (λ (x : SendRecord). first_broken (conditions kind x) ≡ None) (send_is ffa kind b r s.sender s.zero s.tag s.receivers s.ranges)
    (holds _ _ _ (flag_again kind _ s.flags)
    (holds _ _ _ (le-leb _ _ (subst (λ n. 1 ≤ n) (sym many) s.least))
    (holds _ _ _ (le-leb _ _ (subst (λ n. n ≤ most_receivers kind) (sym many) s.most))
    (holds _ _ _ (all_again _ (receiver_in b) _ (λ i lt. grant_again kind _ (s.accesses i lt).permissions))
    (holds _ _ _ (named_again _ _ (receiver_in b) (λ i lt. (s.accesses i lt).other))
    (holds _ _ _ (distinct_again _ (receiver_in b) s.distinct)
    (holds _ _ _ (le-leb _ _ (subst (λ n. 1 ≤ n) (sym much) s.composite.least))
    (holds _ _ _ (all_again _ (range_in b) _ (λ i lt. le-leb _ _ (s.each i lt).least))
    (holds _ _ _ (all_again _ (range_in b) _ (λ i lt. eq-eqb _ _ (s.each i lt).aligned))
    (holds _ _ _ (all_again _ (range_in b) _ (λ i lt. le-leb _ _ (s.each i lt).below))
    (holds _ _ _ (all_apart_again _ (range_in b) s.apart)
    (holds _ _ _ (lt-ltb _ _ (subst (λ n. n < 2 ^ 32) (sym s.total) (u32_below b.bytes (composite_place b) bytes)))
    refl))))))))))))
