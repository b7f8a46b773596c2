-- SPDX-License-Identifier: MIT OR Apache-2.0
-- Both services of a retrieve: a receiver's, and a hypervisor's. The latter asks for no memory, and changes only the RX of its caller.
use Rattle.std.proofs.Common.{◌≡◌, ℕ, Bool, true, false, cond, List, [], length, Option, Some, None, refl, ap, ◌==◌, ◌&&◌, nat_le}
use Rattle.std.proofs.lemmas.Bool.{and_parts, eqb-true, false≢true}
use Rattle.ffa_model.specs.declared.call.Call.TheVariants.{MemRetrieve}
use Rattle.ffa_model.specs.declared.call.Transfer.{Transfer}
use Rattle.ffa_model.specs.declared.manifest.Ffa.{Ffa}
use Rattle.ffa_model.specs.declared.manifest.Ffa.TheVariants.{V1_1, V1_2}
use Rattle.ffa_model.specs.Buffers.{filled}
use Rattle.ffa_model.specs.Calls.{Service, first_failure}
use Rattle.ffa_model.specs.DescriptorPlaces.{Versioned, flags_field, header_size, is_header, receiver_count}
use Rattle.ffa_model.specs.HypervisorRetrieve.{asks_back, handle_read, hypervisor_retrieve, is_hypervisors, memory_retrieve, read_back, retrieve_by, sent_record, told_back}
use Rattle.ffa_model.specs.MemorySend.{descriptor_in}
use Rattle.ffa_model.specs.MemoryRetrieve.{receiver_retrieve, retrieve_read}
use Rattle.ffa_model.specs.ResponseBytes.{response_bytes}
use Rattle.ffa_model.specs.RetrieveDescriptor.{has_names, is_named_count, is_retrieve_access, is_retrieve_header, retrieve_in, retrieve_of}
use Rattle.ffa_model.specs.State.{State, transaction_of, version_of}
use Rattle.ffa_laws.specs.Events.{takes, told_by}

-- ---- what a hypervisor's bytes ask for
last-false : (a b : Bool) → b ≡ false → (a && b) ≡ false
last-false true b is = is
last-false false b is = refl

-- no endpoint asks by them for what it was offered
pub names-nobody : (ffa : Ffa) (e : ℕ) (descriptor : Versioned) → is_hypervisors ffa e descriptor ≡ true → (f : ℕ) → retrieve_of ffa f descriptor ≡ None
unfolding retrieve_of is_retrieve_header
names-nobody V1_1 e descriptor is f = absurd (false≢true is)
names-nobody V1_2 e descriptor is f =
    let (long, bare) = and_parts (nat_le (header_size descriptor.version) (length descriptor.bytes)) (receiver_count descriptor == 0) (and_parts (e == 0) _ is).1 in
    let count = ap (is_named_count V1_2 (flags_field descriptor)) (eqb-true (receiver_count descriptor) 0 bare) in
    let header : is_retrieve_header V1_2 descriptor ≡ false = last-false _ (is_named_count V1_2 (flags_field descriptor) (receiver_count descriptor)) count in
    ap (λ b. cond ((b && is_retrieve_access V1_2 f descriptor) && has_names V1_2 descriptor) (Some (retrieve_in V1_2 f descriptor)) None)
    (last-false (is_header descriptor) (is_retrieve_header V1_2 descriptor) header)

-- so a call that reads back what its caller sent retrieves nothing
pub nothing-asked : (s : State) (x : Transfer) → asks_back s x ≡ true → retrieve_read s x.total ≡ None
nothing-asked s x back = names-nobody s.ffa s.runner (descriptor_in s x.total) (and_parts _ _ back).0 s.runner

-- and tells nobody an event
pub tells-nothing : (e : ℕ) (s : State) (x : Transfer) → asks_back s x ≡ true → told_by e s (MemRetrieve x) ≡ []
tells-nothing e s x back = ap (takes e s) (nothing-asked s x back)

-- ---- what holds of both services
pub by-either : (s : State) (x : Transfer) (P : Service → Type 0) → P (receiver_retrieve s x) → (asks_back s x ≡ true → P (hypervisor_retrieve s x)) → P (memory_retrieve s x)
by-either s x P own back = of (asks_back s x) refl
  where
    of : (b : Bool) → asks_back s x ≡ b → P (retrieve_by b s x)
    of true is = back is
    of false is = own

-- what holds of a state, and with any bytes in the runner's RX, holds after a hypervisor's retrieve
pub read-kept : (P : State → Type 0) (s : State) → P s → ((bytes : List ℕ) → P (filled s s.runner bytes)) → (asked : Option ℕ) → P (read_back s asked)
read-kept P s old new None = old
read-kept P s old new (Some h) =
    elim (transaction_of s h) as (λ o. P (told_back s h o)) [
      | None ↦ old
      | Some t ↦ new (response_bytes (version_of s s.runner) (sent_record h t))
    ]

-- and after both, where it holds after a receiver's
pub either-kept : (P : State → Type 0) (s : State) (x : Transfer) → P (receiver_retrieve s x).state → P s → ((bytes : List ℕ) → P (filled s s.runner bytes)) → P (memory_retrieve s x).state
either-kept P s x own old new = by-either s x (λ c. P c.state) own (λ back. read-kept P s old new (handle_read s x.total))

-- of one that nothing refuses
pub retrieve-kept : (P : State → Type 0) (s : State) (x : Transfer) → (first_failure (receiver_retrieve s x).guards ≡ None → P (receiver_retrieve s x).state)
    → P s → ((bytes : List ℕ) → P (filled s s.runner bytes)) → first_failure (memory_retrieve s x).guards ≡ None → P (memory_retrieve s x).state
retrieve-kept P s x own old new =
    by-either s x (λ c. first_failure c.guards ≡ None → P c.state) own (λ back none. read-kept P s old new (handle_read s x.total))
