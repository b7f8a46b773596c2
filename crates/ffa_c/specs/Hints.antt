-- SPDX-License-Identifier: MIT OR Apache-2.0
-- What C is told of what to change after a refusal.
use Rattle.std.specs.Prelude.{ℕ, ◌+◌, [], ◌∷◌, Some}
use denote.Enum.Declared.{tag_of}
use Rattle.ffa_mend.specs.contracts.Cause as causes
use Rattle.ffa_mend.specs.declared.Cause.{Cause}
use Rattle.ffa_mend.specs.declared.Mend.{Mend}
use Rattle.ffa_mend.specs.declared.Mend.TheVariants.{Buffer, OwnRight, Granted, Access, Caller, Sender, Tag, Kind, Asked, Held, Room, Wanted, Form, Word, Message, Outside, Holder, Works, Pending, Cause as Because}
use Rattle.ffa_mend.specs.declared.Side.TheVariants.{Tx, Rx}
use Rattle.ffa_model.specs.declared.rights.Kind.{Kind as SendKind}
use Rattle.ffa_model.specs.declared.rights.Kind.TheVariants.{Share, Lend, Donate}
use Rattle.ffa_model.specs.declared.schedule.Work.TheVariants.{Run, Request}
use Rattle.ffa_model.specs.DescriptorPlaces.{told_access_size}
use Rattle.ffa_c.specs.Border.{access_code}
use Rattle.ffa_c.specs.declared.hint.CHint.{CHint}

-- a kind of hint, and its numbers
abbrev pub hint : ℕ → ℕ → ℕ → ℕ → CHint
hint kind a b c = record { kind = kind; numbers = a ∷ b ∷ c ∷ [] }

abbrev pub no_hint : CHint
no_hint = hint 0 0 0 0

abbrev pub kind_number : SendKind → ℕ
kind_number Share = 0
kind_number Lend = 1
kind_number Donate = 2

-- the number of a cause: those are counted on in the order of the variants of `Cause`
abbrev pub cause_number : Cause → ℕ
cause_number cause = 22 + tag_of causes.the_type cause

abbrev pub hint_told : Mend → CHint
hint_told (Buffer e Tx) = hint 1 e.0 0 0
hint_told (Buffer e Rx) = hint 2 e.0 0 0
hint_told (OwnRight right) = hint 3 (access_code (Some right)) 0 0
hint_told (Granted right) = hint 4 (access_code (Some right)) 0 0
hint_told (Access e right) = hint 5 e.0 (access_code (Some right)) 0
hint_told (Caller e) = hint 6 e.0 0 0
hint_told (Sender e) = hint 7 e.0 0 0
hint_told (Tag found wanted) = hint 8 found wanted 0
hint_told (Kind found wanted) = hint 9 (kind_number found) (kind_number wanted) 0
hint_told (Asked asked most) = hint 10 (access_code (Some asked)) (access_code (Some most)) 0
hint_told (Held right) = hint 11 (access_code (Some right)) 0 0
hint_told (Room bytes) = hint 12 bytes 0 0
hint_told (Wanted value) = hint 13 value 0 0
hint_told (Form caller version) = hint 14 caller.0 (told_access_size version) 0
hint_told (Word place value) = hint 15 place value 0
hint_told (Message offset size room) = hint 16 offset size room
hint_told (Outside address) = hint 17 address 0 0
hint_told (Holder e) = hint 18 e.0 0 0
hint_told (Works Run) = hint 19 0 0 0
hint_told (Works (Request by)) = hint 20 by.0 0 0
hint_told (Pending bit) = hint 21 bit 0 0
hint_told (Because cause) = hint (cause_number cause) 0 0 0
