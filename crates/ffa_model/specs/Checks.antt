-- SPDX-License-Identifier: MIT OR Apache-2.0
-- The checks of each call in their order, as its row lists them, and that its guards are these.
use Rattle.std.specs.Prelude.{◌≡◌, ℕ, ◌-◌, ◌==◌, Bool, true, false, List, [], ◌∷◌, map, if◌then◌else◌}
use Rattle.std.specs.List.{flat_map}
use Rattle.std.specs.Option.{option_map_or}
use Rattle.ffa_model.specs.declared.call.Call.{Call}
use Rattle.ffa_model.specs.declared.call.Call.TheVariants.{MemRetrieve, PartitionInfoGet}
use Rattle.ffa_model.specs.declared.refusal.Refusal.{Refusal}
use Rattle.ffa_model.specs.declared.refusal.Refusal.TheVariants.{FunctionUnknown, BuffersMissing, BuffersNeeded, DescriptorMalformed, HandleUnknown, NotReceiver, NotTheSenders, ReceiversDiffer, RxFull}
use Rattle.ffa_model.specs.HypervisorRetrieve.{asks_back}
use Rattle.ffa_model.specs.Rows.{row_of}
use Rattle.ffa_model.specs.State.{State}
use Rattle.ffa_model.specs.Step.{service}

-- those of the call that a number identifies, as its row lists them; what is no call fails at one
abbrev pub checks_of : ℕ → List Refusal
checks_of function = option_map_or (λ row. row.checks) (row_of function) (FunctionUnknown ∷ [])

-- the checks that there is what the next ones ask about: a descriptor, and the transaction of a retrieve
abbrev pub is_of_reading : Refusal → Bool
is_of_reading DescriptorMalformed = true
is_of_reading HandleUnknown = true
is_of_reading refusal = false

-- The checks of a list that are made, in order, where the first `read` of these find it: they aren't among them, and
-- the next of these, which doesn't, is the last.
abbrev pub made : ℕ → List Refusal → List Refusal
made read [] = []
made read (check ∷ list) =
    if is_of_reading check then (if read == 0 then check ∷ [] else made (read - 1) list)
    else check ∷ made read list

-- A row lists the checks that only a machine of FF-A 1.2 makes behind the others. What is made for a check of the row, in order:
-- in a receiver's retrieve, in one of a hypervisor behind the checks of its registers, and for partition information
abbrev pub for_receiver : Refusal → List Refusal
for_receiver NotReceiver = NotReceiver ∷ ReceiversDiffer ∷ []
for_receiver ReceiversDiffer = []
for_receiver NotTheSenders = []
for_receiver check = check ∷ []

abbrev pub for_hypervisor : Refusal → List Refusal
for_hypervisor DescriptorMalformed = DescriptorMalformed ∷ []
for_hypervisor RxFull = NotTheSenders ∷ RxFull ∷ []
for_hypervisor check = []

abbrev pub for_information : Refusal → List Refusal
for_information BuffersMissing = BuffersMissing ∷ BuffersNeeded ∷ []
for_information BuffersNeeded = []
for_information check = check ∷ []

abbrev pub in_order : State → Call → List Refusal → List Refusal
in_order s (MemRetrieve transfer) checks = flat_map (if asks_back s transfer then for_hypervisor else for_receiver) checks
in_order s (PartitionInfoGet uuid flags) checks = flat_map for_information checks
in_order s call checks = checks

-- the names of a call's guards in this state are those of these checks that are made
abbrev pub AreListed : State → Call → List Refusal → Type 0
AreListed s call checks = (read : ℕ) × (map (λ guard. guard.1) (service s call).guards ≡ made read (in_order s call checks))
