-- SPDX-License-Identifier: MIT OR Apache-2.0
-- FOR PROOFS ALONE
-- Why an operation is refused, with what else the machine knows of it.
use Rattle.std.specs.Prelude.{ℕ, Option, None, slice_index}
use Rattle.std.specs.Option.{option_map}
use Rattle.ffa_mend.specs.declared.explained.Explained.{Explained}
use Rattle.ffa_mend.specs.Allowed.{receivers_of}
use Rattle.ffa_mend.specs.Mend.{mend_contents, mend_fault}
use Rattle.ffa_model.specs.declared.call.Call.{Call}
use Rattle.ffa_model.specs.declared.operation.FaultKind.{FaultKind}
use Rattle.ffa_model.specs.declared.operation.Op.{Op}
use Rattle.ffa_model.specs.declared.operation.Op.TheVariants as ops
use Rattle.ffa_model.specs.declared.refusal.Refusal.{Refusal}
use Rattle.ffa_model.specs.declared.why.Why.TheVariants.{Refused, Fault}
use Rattle.ffa_model.specs.About.{about, failing_page}
use Rattle.ffa_model.specs.AboutContents.{about_contents}
use Rattle.ffa_model.specs.Calls.{first_refusal}
use Rattle.ffa_model.specs.Memory.{fetch_fault, read_fault, size_of, store_fault}
use Rattle.ffa_model.specs.Obstacles.{obstacle_of}
use Rattle.ffa_model.specs.Registers.{decode, low}
use Rattle.ffa_model.specs.State.{State}
use Rattle.ffa_model.specs.Step.{service}
use Rattle.ffa_playable.specs.declared.detail.Explanation.{Explanation}
use Rattle.ffa_playable.specs.Standing.{check_detail, detail_by}

-- what a call names of a check that fails
abbrev pub call_told : State → Call → Refusal → Explained
call_told s call refusal = record {
  about = about_contents s call refusal;
  page = failing_page s call refusal;
  mend = mend_contents s call refusal;
  receivers = receivers_of s call;
}

-- a check of a call that fails, if one does, with that
abbrev pub with_told : State → Call → Option Refusal → Option (Refusal × Explained)
with_told s call refusal = option_map (λ refusal. (refusal, call_told s call refusal)) refusal

-- a check of a call
abbrev pub check_explanation : State → ℕ → Call → Refusal → Explanation
check_explanation s w0 call refusal = record {
  why = Refused refusal (about s w0 call refusal);
  detail = check_detail s call refusal (about s w0 call refusal);
}

-- a fault at an address
abbrev pub explained_fault : State → ℕ → FaultKind → Explanation
explained_fault s address kind = record {
  why = Fault kind (obstacle_of s address kind);
  detail = detail_by None (mend_fault s address kind) None;
}

abbrev pub fault_explanation : State → ℕ → Option FaultKind → Option Explanation
fault_explanation s address fault = option_map (explained_fault s address) fault

-- an operation of the runner
abbrev pub explanation : State → Op → Option Explanation
explanation s (ops.Call x) =
    option_map (check_explanation s (low (slice_index x 0)) (decode x)) (first_refusal (service s (decode x)).guards)
explanation s (ops.Load address size) = fault_explanation s address (read_fault s address (size_of size))
explanation s (ops.Store address size value) = fault_explanation s address (store_fault s address (size_of size))
explanation s (ops.Fetch address) = fault_explanation s address (fetch_fault s address)
