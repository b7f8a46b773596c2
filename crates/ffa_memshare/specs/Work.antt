-- SPDX-License-Identifier: MIT OR Apache-2.0
-- How much calls on memory may do.
use Rattle.std.specs.Prelude.{◌≡◌, ◌+◌, ◌/◌, ◌⊎◌, ℕ, Bool, true, false, if◌then◌else◌, List, [], ◌∷◌, length, Option, None, Some}
use Rattle.ffa_model.specs.declared.rights.Kind.{Kind}
use Rattle.ffa_model.specs.declared.rights.Kind.TheVariants.{Share, Lend, Donate}
use Rattle.ffa_model.specs.declared.rights.Rights.{Rights}
use Rattle.ffa_model.specs.declared.transaction.Range.{Range}
use Rattle.ffa_model.specs.SendDescriptor.{page_total}
use Rattle.ffa_physmem.specs.Work.{Work, loans_of, no_work, plus, settles_of}
use Rattle.ffa_stage2.specs.Blocks.{IsOne}
use Rattle.ffa_stage2.specs.Tables.{rights_of_block}
use Rattle.ffa_stage2.specs.Work.{pages_work}
use Rattle.ffa_memshare.specs.Ranges.{first_page}

-- the pages of these ranges, in the RAM at an address, get a right or none, and no block is split but those that pass a test
abbrev pub ranges_work : ℕ → (ℕ → Bool) → Option Rights → List Range → Work
ranges_work base split right [] = no_work
ranges_work base split right (r ∷ ranges) =
    plus (pages_work split right (first_page base r) (first_page base r + r.pages)) (ranges_work base split right ranges)

-- zeros are one loan for each page
abbrev pub zeros_work : Bool → List Range → Work
zeros_work zero ranges = if zero then loans_of (page_total ranges) else no_work

-- rights end: then each range is settled, and zeros are written where that is asked
abbrev pub taken_work : ℕ → (ℕ → Bool) → List Range → Bool → Work
taken_work base split ranges zero =
    plus (ranges_work base split None ranges) (plus (settles_of (length ranges)) (zeros_work zero ranges))

-- rights begin, or stay as they are, so no block is split
abbrev pub given_work : ℕ → Option Rights → List Range → Bool → Work
given_work base right ranges zero = plus (zeros_work zero ranges) (ranges_work base (λ _. false) right ranges)

-- a sender keeps its own right in a share, and else none
abbrev pub sent_work : Kind → ℕ → (ℕ → Bool) → List Range → Bool → Work
sent_work Share base split ranges zero = given_work base None ranges zero
sent_work Lend base split ranges zero = taken_work base split ranges zero
sent_work Donate base split ranges zero = taken_work base split ranges zero

-- a receiver gets a right, and its RX is lent for the response
abbrev pub retrieved_work : ℕ → Rights → List Range → Work
retrieved_work base right ranges = plus (given_work base (Some right) ranges false) (loans_of 1)

-- OF RIGHTS BEFORE A CALL

-- no page that is named loses a right, or gets another for it
abbrev pub LosesNone : (ℕ → Option Rights) → (ℕ → Bool) → (ℕ → Option Rights) → Type 0
LosesNone rights named new = (p : ℕ) → named p ≡ true → (rights p ≡ None) ⊎ (rights p ≡ new p)

-- each block with a page that is named, of which all pages have one right other than a new one, passes a test
abbrev pub AreSplitsIn : (ℕ → Option Rights) → (ℕ → Bool) → Option Rights → (ℕ → Bool) → Type 0
AreSplitsIn rights named right split =
    (p : ℕ) (r : Rights) → named p ≡ true → IsOne (rights_of_block rights (p / 512)) r → (right ≡ Some r → ⊥)
    → split (p / 512) ≡ true

-- what is known of the sender's rights before a send
abbrev pub IsTakenFrom : Kind → (ℕ → Option Rights) → (ℕ → Bool) → (ℕ → Option Rights) → (ℕ → Bool) → Type 0
IsTakenFrom Share rights named own split = LosesNone rights named own
IsTakenFrom Lend rights named own split = AreSplitsIn rights named None split
IsTakenFrom Donate rights named own split = AreSplitsIn rights named None split
