-- SPDX-License-Identifier: MIT OR Apache-2.0
-- Each operation keeps a state sound, and whoever runs on another processor.
use Rattle.std.proofs.Common.{◌≡◌, ℕ, true, ◌==◌, ◌-◌, ◌/◌, ◌%◌}
use Rattle.byteorder.specs.Endian.{little_bytes}
use Rattle.ffa_model.specs.declared.operation.Op.{Op}
use Rattle.ffa_model.specs.declared.operation.Op.TheVariants.{Call, Load, Store, Fetch}
use Rattle.ffa_model.specs.declared.operation.Outcome.TheVariants.{Data, Done}
use Rattle.ffa_model.specs.declared.operation.Size.{Size}
use Rattle.ffa_model.specs.declared.call.Call as calls
use Rattle.ffa_model.specs.Registers.{decode}
use Rattle.ffa_model.specs.State.{State}
use Rattle.ffa_model.specs.Calls.{served}
use Rattle.ffa_model.specs.Memory.{fetch_fault, number_at, read_fault, size_of, store_fault, stored, written_pages}
use Rattle.ffa_model.specs.Processors.{SameElsewhere}
use Rattle.ffa_model.specs.RunStates.{schedule_of}
use Rattle.ffa_model.specs.SoundState.{IsSoundState}
use Rattle.ffa_model.specs.Step.{service, step}
use Rattle.ffa_laws.proofs.Form.{accessed-kept, served-kept}
use Rattle.ffa_laws.proofs.SoundKept.{pages-sound}
use Rattle.ffa_laws.proofs.SoundPages.{store-aligned, stored-sound}
use Rattle.ffa_laws.proofs.Services.{elsewhere-service, sound-service}
use Rattle.ffa_laws.proofs.SoundLaws.{same-elsewhere}
use Rattle.ffa_laws.proofs.Written.{rewritten-written}

module _ (s : State) (sound : IsSoundState s) where
  pub call-sound : (call : calls.Call) → IsSoundState (served s (service s call)).state
  call-sound call = served-kept IsSoundState s (service s call) sound (sound-service s sound call)

  -- a store at an aligned address, whoever stores
  pub store-sound : (address : ℕ) (size : Size) (value : ℕ) → (address % size_of size == 0) ≡ true → IsSoundState (stored s address (little_bytes (size_of size) value))
  store-sound address size value aligned =
      pages-sound s sound (written_pages s.pages ((address - s.ram_base) / 4096) (address % 4096) (little_bytes (size_of size) value))
      (rewritten-written s.pages ((address - s.ram_base) / 4096) (address % 4096) (little_bytes (size_of size) value))
      (stored-sound s sound address ((address - s.ram_base) / 4096) size value aligned)

  pub step-sound : (op : Op) → IsSoundState (step s op).state
  step-sound (Call x) = call-sound (decode x)
  step-sound (Load address size) = accessed-kept IsSoundState s s (Data (number_at s address (size_of size))) (read_fault s address (size_of size)) sound (λ none. sound)
  step-sound (Store address size value) =
      accessed-kept IsSoundState s (stored s address (little_bytes (size_of size) value)) Done (store_fault s address (size_of size)) sound
      (λ none. store-sound address size value (store-aligned s address (size_of size) none))
  step-sound (Fetch address) = accessed-kept IsSoundState s s (Data (number_at s address 4)) (fetch_fault s address) sound (λ none. sound)

  -- the same partitions run elsewhere
  abbrev StaysElsewhere : State → Type 0
  StaysElsewhere t = SameElsewhere (schedule_of s) (schedule_of t)

  pub elsewhere-step : (op : Op) → StaysElsewhere (step s op).state
  elsewhere-step (Call x) = served-kept StaysElsewhere s (service s (decode x)) (same-elsewhere (schedule_of s)) (elsewhere-service s sound (decode x))
  elsewhere-step (Load address size) = accessed-kept StaysElsewhere s s (Data (number_at s address (size_of size))) (read_fault s address (size_of size)) (same-elsewhere (schedule_of s)) (λ none. same-elsewhere (schedule_of s))
  elsewhere-step (Store address size value) =
      accessed-kept StaysElsewhere s (stored s address (little_bytes (size_of size) value)) Done (store_fault s address (size_of size)) (same-elsewhere (schedule_of s)) (λ none. same-elsewhere (schedule_of s))
  elsewhere-step (Fetch address) = accessed-kept StaysElsewhere s s (Data (number_at s address 4)) (fetch_fault s address) (same-elsewhere (schedule_of s)) (λ none. same-elsewhere (schedule_of s))
