-- SPDX-License-Identifier: MIT OR Apache-2.0
-- What is known of rights before a call on memory, by the state.
use Rattle.std.proofs.Common.{◌≡◌, ◌∙◌, ◌⊎◌, ℕ, zero, suc, ◌+◌, ◌*◌, ◌/◌, ◌<◌, ◌≤◌, ◌==◌, ◌&&◌, Bool, true, false, if◌then◌else◌, List, length, Option, Some, None, is_some, eq-eqb, refl, sym, ap, arith, inl, inr}
use Rattle.std.proofs.lemmas.Bool.{cases_lt, false≢true}
use Rattle.std.proofs.lemmas.List.{get_or_past}
use Rattle.ffa_model.specs.declared.rights.Kind.{Kind}
use Rattle.ffa_model.specs.declared.rights.Kind.TheVariants.{Share, Lend, Donate}
use Rattle.ffa_model.specs.declared.rights.Rights.{Rights}
use Rattle.ffa_model.specs.declared.transaction.Range.{Range}
use Rattle.ffa_model.specs.Access.{access, names, right_of, transaction_at}
use Rattle.ffa_model.specs.Alike.{is_same, is_same_right}
use Rattle.ffa_model.specs.Identifiers.{identifier, place}
use Rattle.ffa_model.specs.Rights.{is_share, may_write}
use Rattle.ffa_model.specs.State.{State}
use Rattle.ffa_stage2.specs.Blocks.{IsOne}
use Rattle.ffa_stage2.specs.Tables.{rights_of_block}
use Rattle.ffa_memshare.specs.Changed.{changed_sender}
use Rattle.ffa_memshare.specs.Grants.{with_rights}
use Rattle.ffa_memshare.specs.Work.{AreSplitsIn, IsTakenFrom, LosesNone}
use Rattle.ffa_spmc.specs.AccessChange.{is_whose}
use Rattle.ffa_spmc.specs.Meaning.{access_by_place}
use Rattle.ffa_spmc.specs.Work.{are_all, is_block}

all-pass : (n : ℕ) (test : ℕ → Bool) → ((j : ℕ) → j < n → test j ≡ true) → are_all n test ≡ true
unfolding are_all
all-pass zero test each = refl
all-pass (suc n) test each = (λ i. all-pass n test (λ j lt. each j (omega (arith, lt))) i && each n (omega arith) i)

-- a right is the same as itself
bool-itself : (b : Bool) → is_same b b ≡ true
bool-itself true = refl
bool-itself false = refl

right-itself : (r : Rights) → is_same_right (Some r) (Some r) ≡ true
right-itself r = λ i. bool-itself (may_write r.level) i && bool-itself r.exec i

-- a block of one right stands
block-stands : (rights : ℕ → Option Rights) (k : ℕ) (r : Rights) → IsOne (rights_of_block rights k) r → is_block rights k ≡ true
unfolding is_block
block-stands rights k r one =
    let first : rights (512 * k) ≡ Some r = (let at : 512 * k + 0 ≡ 512 * k = omega arith in ap rights (sym at)) ∙ one 0 (omega arith) in
    λ i. is_some (first i)
    && all-pass 512 (λ j. is_same_right (rights (512 * k + j)) (rights (512 * k)))
    (λ j lt. (λ i. is_same_right (one j lt i) (first i)) ∙ right-itself r) i

pub blocks-stand : (rights : ℕ → Option Rights) (named : ℕ → Bool) (right : Option Rights) → AreSplitsIn rights named right (is_block rights)
blocks-stand rights named right p r at one other = block-stands rights (p / 512) r one

pub taken-from : (kind : Kind) (rights : ℕ → Option Rights) (named : ℕ → Bool) (own : ℕ → Option Rights) (split : ℕ → Bool)
    → (is_share kind ≡ true → LosesNone rights named own) → AreSplitsIn rights named None split → IsTakenFrom kind rights named own split
taken-from Share rights named own split loses splits = loses refl
taken-from Lend rights named own split loses splits = splits
taken-from Donate rights named own split loses splits = splits

pub nobodys : (kind : Kind) (e f : ℕ) → is_share kind ≡ true → is_whose (changed_sender kind e) f ≡ false
nobodys Share e f share = refl
nobodys Lend e f share = absurd (false≢true share)
nobodys Donate e f share = absurd (false≢true share)

-- a page that is named gets its new right
gets : (rights : ℕ → ℕ → Option Rights) (index : ℕ) (named : ℕ → Bool) (new : ℕ → Option Rights) (p : ℕ) → named p ≡ true → with_rights rights index named new index p ≡ new p
gets rights index named new p is =
    let here : (index == index && named p) ≡ true = (λ i. eq-eqb index index refl i && is i) in
    ap (λ b. if b then new p else rights index p) here

-- No right is lost where, of each page of RAM that is named, there was none before, or it stays.
pub loses-by : (s after : State) (e : ℕ) (ranges : List Range) (new : ℕ → Option Rights)
    → ((i p : ℕ) → p < length s.pages → with_rights (access_by_place s) (place e) (names s ranges) new i p ≡ access_by_place after i p)
    → ((p : ℕ) → p < length s.pages → names s ranges p ≡ true
    → (access s (identifier (place e)) p ≡ None) ⊎ (access after (identifier (place e)) p ≡ access s (identifier (place e)) p))
    → LosesNone (access_by_place s (place e)) (names s ranges) new
loses-by s after e ranges new granted each p named = elim (cases_lt p (length s.pages)) [
  | inl lt ↦ elim (each p lt named) [
    | inl none ↦ inl none
    | inr kept ↦ inr (sym kept ∙ sym (granted (place e) p lt) ∙ gets (access_by_place s) (place e) (names s ranges) new p named)
  ]
  | inr past ↦ inl (ap (λ page. right_of (identifier (place e)) page (transaction_at s p)) (get_or_past s.pages p None past))
]
