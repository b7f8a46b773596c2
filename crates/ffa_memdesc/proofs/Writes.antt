-- SPDX-License-Identifier: MIT OR Apache-2.0
-- Bytes that are written one number after another.
use Rattle.std.proofs.Common.{◌≡◌, ℕ, ◌+◌, ◌-◌, ◌≤◌, ◌<◌, List, [], ◌∷◌, ◌++◌, length, take, drop, set, refl, sym, ap, ◌∙◌, subst, arith, add-one, append_assoc, length-append, length-drop}
use Rattle.std.proofs.lemmas.List.{take_at, drop_at, drop-drop, drop_all, take_all, append-nil, set_split}
use borrow.Rule.Slice.PartMut.{put_mid, mid_of}
use Rattle.ffa_model.specs.ResponseBytes.{le}
use Rattle.ffa_memdesc.specs.Writing.{Wrote}

pub length-le2 : (x : ℕ) → length (le 2 x) ≡ 2
unfolding le
length-le2 x = refl

pub length-le4 : (x : ℕ) → length (le 4 x) ≡ 4
unfolding le
length-le4 x = refl

pub length-le8 : (x : ℕ) → length (le 8 x) ≡ 8
unfolding le
length-le8 x = refl

-- a part that was written is the list with that part replaced
pub put_is : (at n : ℕ) (xs bytes part : List ℕ) → at + n ≤ length xs → part ≡ bytes ++ drop n (mid_of at (length xs - at) xs) → put_mid at (length xs - at) xs part ≡ take at xs ++ (bytes ++ drop (at + n) xs)
put_is at n xs bytes part within e =
    let long = length-drop at xs in
    let none : drop (length xs - at) (drop at xs) ≡ [] = drop_all (length xs - at) (drop at xs) (omega arith) in
    let all : take (length xs - at) (drop at xs) ≡ drop at xs = take_all (length xs - at) (drop at xs) (omega arith) in
    ap (λ (l : List ℕ). take at xs ++ l) (ap (λ (l : List ℕ). part ++ l) none ∙ append-nil part ∙ e ∙ ap (λ (l : List ℕ). bytes ++ l) (ap (λ (l : List ℕ). drop n l) all ∙ drop-drop n at xs))

pub set_is : (at x : ℕ) (xs : List ℕ) → at < length xs → set xs at x ≡ take at xs ++ (x ∷ [] ++ drop (at + 1) xs)
set_is at x xs within = rw add-one (set_split xs at x within)

pub wrote_start : (old : List ℕ) → Wrote old [] 0 old
wrote_start old = record { place = refl; bytes = refl }

-- what was written stands first, and the rest stays
pub front_of : (old front new : List ℕ) (at : ℕ) → Wrote old front at new → take at new ≡ front
front_of old front new at w = ap (λ (l : List ℕ). take at l) w.bytes ∙ take_at front (drop at old) at w.place

pub rest_of : (old front new : List ℕ) (at : ℕ) → Wrote old front at new → drop at new ≡ drop at old
rest_of old front new at w = ap (λ (l : List ℕ). drop at l) w.bytes ∙ drop_at front (drop at old) at w.place

drop_front : (old front mid : List ℕ) (at n : ℕ) → Wrote old front at mid → drop (at + n) mid ≡ drop (at + n) old
drop_front old front mid at n w =
    sym (drop-drop n at mid) ∙ ap (λ (l : List ℕ). drop n l) (rest_of old front mid at w) ∙ drop-drop n at old

-- n more bytes, up to the place `to`
pub wrote_more : (old front mid new bytes : List ℕ) (at n to : ℕ) → at + n ≡ to → length bytes ≡ n → Wrote old front at mid → new ≡ take at mid ++ (bytes ++ drop (at + n) mid) → Wrote old (front ++ bytes) to new
wrote_more old front mid new bytes at n to ends len w e =
    let kept = front_of old front mid at w in
    let rest = drop_front old front mid at n w in
    let place = w.place in
    record {
      place = let joined = length-append front bytes in omega arith;
      bytes = e ∙ rw (kept, rest, ends) (sym (append_assoc front bytes (drop to old)));
    }

pub two : (old front mid new : List ℕ) (at to x : ℕ) → at + 2 ≡ to → Wrote old front at mid → new ≡ take at mid ++ (le 2 x ++ drop (at + 2) mid) → Wrote old (front ++ le 2 x) to new
two old front mid new at to x ends w e = wrote_more old front mid new (le 2 x) at 2 to ends (length-le2 x) w e

pub four : (old front mid new : List ℕ) (at to x : ℕ) → at + 4 ≡ to → Wrote old front at mid → new ≡ take at mid ++ (le 4 x ++ drop (at + 4) mid) → Wrote old (front ++ le 4 x) to new
four old front mid new at to x ends w e = wrote_more old front mid new (le 4 x) at 4 to ends (length-le4 x) w e

pub eight : (old front mid new : List ℕ) (at to x : ℕ) → at + 8 ≡ to → Wrote old front at mid → new ≡ take at mid ++ (le 8 x ++ drop (at + 8) mid) → Wrote old (front ++ le 8 x) to new
eight old front mid new at to x ends w e = wrote_more old front mid new (le 8 x) at 8 to ends (length-le8 x) w e

pub one : (old front mid new : List ℕ) (at to x : ℕ) → at + 1 ≡ to → Wrote old front at mid → new ≡ take at mid ++ (x ∷ [] ++ drop (at + 1) mid) → Wrote old (front ++ x ∷ []) to new
one old front mid new at to x ends w e = wrote_more old front mid new (x ∷ []) at 1 to ends refl w e

-- another way to write the front
pub wrote_as : (old front other new : List ℕ) (at : ℕ) → front ≡ other → Wrote old front at new → Wrote old other at new
wrote_as old front other new at same w = subst (λ (l : List ℕ). Wrote old l at new) same w

pub three_parts : (front a b c : List ℕ) → ((front ++ a) ++ b) ++ c ≡ front ++ (a ++ b ++ c)
three_parts front a b c = simp append_assoc

pub five_parts : (front a : List ℕ) (x y : ℕ) (b c : List ℕ) → ((((front ++ a) ++ x ∷ []) ++ y ∷ []) ++ b) ++ c ≡ front ++ (a ++ x ∷ y ∷ [] ++ b ++ c)
five_parts front a x y b c = simp append_assoc

-- another way to write the place
pub wrote_to : (old front new : List ℕ) (at to : ℕ) → at ≡ to → Wrote old front at new → Wrote old front to new
wrote_to old front new at to same w = subst (λ (n : ℕ). Wrote old front n new) same w
