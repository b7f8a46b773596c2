-- SPDX-License-Identifier: MIT OR Apache-2.0
-- What a record has to be for a send descriptor to say it: each condition, and the cause that one who breaks it is told.
use Rattle.std.specs.Prelude.{ℕ, ◌%◌, ◌^◌, ◌==◌, Bool, true, not, ◌&&◌, nat_le, nat_lt, if◌then◌else◌, List, [], ◌∷◌, ◌++◌, length, Option, Some, None}
use Rattle.std.specs.List.{list_all}
use Rattle.ffa_model.specs.declared.rights.Kind.{Kind}
use Rattle.ffa_model.specs.declared.rights.Kind.TheVariants.{Share, Lend, Donate}
use Rattle.ffa_model.specs.declared.transaction.Range.{Range}
use Rattle.ffa_model.specs.declared.transaction.Receiver.{Receiver}
use Rattle.ffa_model.specs.DescriptorPlaces.{data_code}
use Rattle.ffa_model.specs.SendDescriptor.{SendRecord, is_grant, is_named, are_apart, range_end, page_total, most_flags, most_receivers}
use Rattle.play_trace.specs.declared.unfit.Unfit.{Unfit}
use Rattle.play_trace.specs.declared.unfit.Unfit.TheVariants.{ZeroedShare, NoReceiver, SeveralReceiversOfADonate, GrantMissing, GrantOfADonate, ReceiverIsSender, ReceiverTwice, NoRange, EmptyRange, RangeUnaligned, RangeTooHigh, RangesOverlap, TooManyPages}

-- nobody is named twice, and no page stands twice
abbrev pub are_distinct : List Receiver → Bool
are_distinct [] = true
are_distinct (x ∷ xs) = not (is_named x.endpoint.0 xs) && are_distinct xs

abbrev pub are_all_apart : List Range → Bool
are_all_apart [] = true
are_all_apart (q ∷ qs) = list_all (are_apart q) qs && are_all_apart qs

abbrev pub grant_cause : Kind → Unfit
grant_cause Share = GrantMissing
grant_cause Lend = GrantMissing
grant_cause Donate = GrantOfADonate

abbrev pub receiver_conditions : Kind → ℕ → List Receiver → List (Bool × Unfit)
receiver_conditions kind sender xs =
    (nat_le 1 (length xs), NoReceiver)
    ∷ (nat_le (length xs) (most_receivers kind), SeveralReceiversOfADonate)
    ∷ (list_all (λ (x : Receiver). is_grant kind (data_code x.grant)) xs, grant_cause kind)
    ∷ (not (is_named sender xs), ReceiverIsSender)
    ∷ (are_distinct xs, ReceiverTwice)
    ∷ []

abbrev pub range_conditions : List Range → List (Bool × Unfit)
range_conditions qs =
    (nat_le 1 (length qs), NoRange)
    ∷ (list_all (λ (q : Range). nat_le 1 q.pages) qs, EmptyRange)
    ∷ (list_all (λ (q : Range). q.address % 4096 == 0) qs, RangeUnaligned)
    ∷ (list_all (λ (q : Range). nat_le (range_end q) (2 ^ 48)) qs, RangeTooHigh)
    ∷ (are_all_apart qs, RangesOverlap)
    ∷ (nat_lt (page_total qs) (2 ^ 32), TooManyPages)
    ∷ []

abbrev pub conditions : Kind → SendRecord → List (Bool × Unfit)
conditions kind r =
    (nat_le (if r.zero then 1 else 0) (most_flags kind), ZeroedShare) ∷ [] ++ receiver_conditions kind r.sender r.receivers ++ range_conditions r.ranges

-- the cause of the first condition that is broken
abbrev pub first_broken : List (Bool × Unfit) → Option Unfit
first_broken [] = None
first_broken ((holds, cause) ∷ rest) = if holds then first_broken rest else Some cause
