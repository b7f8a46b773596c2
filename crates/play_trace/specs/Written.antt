-- SPDX-License-Identifier: MIT OR Apache-2.0
-- Lines that write a descriptor into TX and make its call.
use Rattle.std.specs.Prelude.{◌≡◌, ℕ, ◌/◌, ◌%◌, ◌^◌, if◌then◌else◌, List, [], ◌∷◌, ◌++◌, length, replicate, Option, Some, None, Result, Ok, Err}
use Rattle.ffa_model.specs.declared.endpoint.Version.{Version}
use Rattle.ffa_model.specs.declared.function.TheConstants.{FFA_MEM_DONATE, FFA_MEM_LEND, FFA_MEM_SHARE, FFA_MEM_RETRIEVE_REQ, FFA_MEM_RELINQUISH, FFA_MEM_RECLAIM}
use Rattle.ffa_model.specs.declared.operation.Op.TheVariants.{Call}
use Rattle.ffa_model.specs.declared.rights.Kind.{Kind}
use Rattle.ffa_model.specs.declared.rights.Kind.TheVariants.{Share, Lend, Donate}
use Rattle.ffa_model.specs.DescriptorPlaces.{in_version}
use Rattle.ffa_model.specs.RelinquishDescriptor.{Relinquish as IsRelinquish}
use Rattle.ffa_model.specs.RetrieveDescriptor.{Retrieve as IsRetrieve}
use Rattle.ffa_model.specs.SendDescriptor.{Send as IsSend, send_record}
use Rattle.play_trace.specs.TraceLines.{joined}
use Rattle.play_trace.specs.declared.reclaim.Reclaim.{Reclaim}
use Rattle.play_trace.specs.declared.unfit.Unfit.{Unfit}
use Rattle.play_trace.specs.Conditions.{conditions, first_broken}
use Rattle.play_trace.specs.declared.descriptor.DescriptorContents.{DescriptorContents}
use Rattle.play_trace.specs.declared.descriptor.DescriptorContents.TheVariants.{Send, Retrieve, Relinquish}
use Rattle.play_trace.specs.declared.descriptor.ScriptError.{ScriptError}
use Rattle.play_trace.specs.declared.descriptor.ScriptError.TheVariants as error
use Rattle.play_trace.specs.Script.{IsLineOf, Stores}
use Rattle.ffa_model.specs.declared.manifest.Ffa.{Ffa}

-- bytes that a caller of this version says this with, on a machine of any FF-A
abbrev pub IsDescriptor : Version → DescriptorContents → List ℕ → Type 0
IsDescriptor version (Send kind desc) bytes = (ffa : Ffa) → IsSend ffa kind (in_version version bytes) (send_record desc)
IsDescriptor version (Retrieve desc receiver) bytes = (ffa : Ffa) → IsRetrieve ffa receiver.0 (in_version version bytes) desc
IsDescriptor version (Relinquish desc) bytes = IsRelinquish bytes desc

-- why there are none
abbrev pub unfit_of : DescriptorContents → Option Unfit
unfit_of (Send kind desc) = first_broken (conditions kind (send_record desc))
unfit_of (Retrieve desc receiver) = None
unfit_of (Relinquish desc) = None

abbrev pub sends : Kind → ℕ
sends Share = FFA_MEM_SHARE
sends Lend = FFA_MEM_LEND
sends Donate = FFA_MEM_DONATE

-- the registers of the call with a descriptor of this length in TX
abbrev pub call_with : DescriptorContents → ℕ → List ℕ
call_with (Send kind desc) n = sends kind ∷ n ∷ n ∷ replicate 5 0
call_with (Retrieve desc receiver) n = FFA_MEM_RETRIEVE_REQ ∷ n ∷ n ∷ replicate 5 0
call_with (Relinquish desc) n = FFA_MEM_RELINQUISH ∷ replicate 7 0

-- the registers of a reclaim: the low half of the handle, its high half, and whether the pages are to be zeroed
abbrev pub reclaim_with : Reclaim → List ℕ
reclaim_with r =
    FFA_MEM_RECLAIM ∷ (r.handle % 2 ^ 32) ∷ (r.handle / 2 ^ 32) ∷ (if r.zero then 1 else 0) ∷ replicate 4 0

-- a text grew by lines that store a descriptor's bytes from an address on, and by the line of its call
pub record GrowsByDescriptor (version : Version) (descriptor : DescriptorContents) (tx : ℕ) (old new : List ℕ) : Type 0 where
  pub bytes : List ℕ
  pub stores : List (List ℕ)
  pub call : List ℕ
  pub longer : new ≡ old ++ joined (stores ++ call ∷ [])
  pub said : IsDescriptor version descriptor bytes
  pub stored : Stores tx stores bytes
  pub called : IsLineOf call (Call (call_with descriptor (length bytes)))

-- the cause that an error tells
abbrev pub unfit_told : {X : Type 0} → Result X ScriptError → Option Unfit
unfit_told (Ok x) = None
unfit_told (Err error.NoMemory) = None
unfit_told (Err (error.Unfit cause)) = Some cause
