-- SPDX-License-Identifier: MIT OR Apache-2.0
-- Partition information: its checks and what they leave, from what the code tests.
use Rattle.std.proofs.Common.{◌≡◌, ◌∙◌, ℕ, Bool, true, false, cond, List, length, map, get_or, Option, Some, None, refl, sym, ap}
use Rattle.std.specs.Prelude.{◌||◌, is_some, not}
use Rattle.std.proofs.lemmas.Option.{none-some}
use Rattle.ffa_model.specs.declared.endpoint.Version.{Version}
use Rattle.ffa_model.specs.declared.refusal.Refusal.{Refusal}
use Rattle.ffa_model.specs.declared.refusal.Refusal.TheVariants.{BuffersMissing, BuffersNeeded, RxFull, UuidUnknown}
use Rattle.ffa_model.specs.Buffers.{buffers_in, filled, is_full}
use Rattle.ffa_model.specs.Calls.{first_refusal, success}
use Rattle.ffa_model.specs.First.{first, party_of}
use Rattle.ffa_model.specs.declared.endpoint.Version.TheVariants.{V1_1}
use Rattle.ffa_model.specs.Identifiers.{place}
use Rattle.ffa_model.specs.Manifest.{is_nil}
use Rattle.ffa_model.specs.Setup.{info_bytes, info_get, info_guards, needs_buffers, told_info_size, informed, is_any, is_count_alone, selected, uuid_bytes}
use Rattle.ffa_model.specs.declared.call.Call.TheVariants.{PartitionInfoGet}
use Rattle.ffa_model.specs.State.{Party, Buffers, version_of}
use Rattle.ffa_model.proofs.Guards.{answers-pass}
use Rattle.ffa_physmem.specs.Moments.{Past}
use Rattle.ffa_spmc.specs.Meaning.{IsManager, Parts, state_of}
use Rattle.ffa_spmc.specs.Managed.{Managed}
use Rattle.ffa_spmc.proofs.Answered.{passed-state}
use Rattle.ffa_spmc.proofs.Fills.{after_fill, runner-there, state-filled, tables-filled}
use Rattle.ffa_spmc.proofs.Machines.{machine-called}

-- what the checks give where buffers have a check of their own, a UUID is recognized, the count alone is asked, there are buffers,
-- and RX is full
abbrev pub decided : Bool → Bool → Bool → Bool → Bool → Option Refusal
decided needs recognized alone has full =
    cond recognized
    (cond (alone || has || needs) (cond (alone || has) (cond (alone || not full) None (Some RxFull)) (Some BuffersNeeded)) (Some BuffersMissing))
    (Some UuidUnknown)

without-buffers : (needs full : Bool) → Some (cond needs BuffersNeeded BuffersMissing) ≡ decided needs true false false full
without-buffers true full = refl
without-buffers false full = refl

counted-alone : (needs has full : Bool) → None ≡ decided needs true true has full
counted-alone needs has full = refl

with-full : (needs : Bool) → Some RxFull ≡ decided needs true false true true
with-full needs = refl

with-empty : (needs : Bool) → None ≡ decided needs true false true false
with-empty needs = refl

module _ (x : Parts) {past : Past} (now : Managed) (view : record { state = state_of x; ram = x.ram; past = past } ≡ now) (e : ℕ) (at : e ≡ x.kept.chain.runner) where
  abbrev own : Option Buffers
  own = buffers_in x.kept.buffers e

  -- whether buffers have a check of their own
  abbrev needs : Bool
  needs = needs_buffers x.manifest.ffa

  pub parties-seen : map party_of x.manifest.endpoints.items ≡ now.state.parties
  unfolding first
  parties-seen = ap (λ (seen : Managed). seen.state.parties) view

  pub version-seen : get_or x.kept.versions (place e) V1_1 ≡ version_of now.state now.state.runner
  unfolding first
  version-seen = (λ i. get_or x.kept.versions (place (at i)) V1_1) ∙ ap (λ (seen : Managed). version_of seen.state seen.state.runner) view

  refusal-is : (uuid : List ℕ) (flags : ℕ)
      → decided needs (is_nil uuid || is_any (selected (map party_of x.manifest.endpoints.items) uuid)) (is_count_alone flags) (is_some own) (is_full own)
      ≡ first_refusal (info_guards now.state uuid flags)
  unfolding first
  refusal-is uuid flags =
      (λ i. decided needs (is_nil uuid || is_any (selected (map party_of x.manifest.endpoints.items) uuid)) (is_count_alone flags) (is_some (buffers_in x.kept.buffers (at i))) (is_full (buffers_in x.kept.buffers (at i))))
      ∙ ap (λ (seen : Managed). first_refusal (info_guards seen.state uuid flags)) view

  pub info-unknown : (uuid : List ℕ) (flags : ℕ) → (is_nil uuid || is_any (selected (map party_of x.manifest.endpoints.items) uuid)) ≡ false
      → Some UuidUnknown ≡ first_refusal (info_guards now.state uuid flags)
  info-unknown uuid flags unknown = sym (λ i. decided needs (unknown i) (is_count_alone flags) (is_some own) (is_full own)) ∙ refusal-is uuid flags

  module _ (uuid : List ℕ) (flags : ℕ) (known : (is_nil uuid || is_any (selected (map party_of x.manifest.endpoints.items) uuid)) ≡ true) where
    pub info-count : is_count_alone flags ≡ true → None ≡ first_refusal (info_guards now.state uuid flags)
    info-count alone = sym (λ i. decided needs (known i) (alone i) (is_some own) (is_full own)) ∙ refusal-is uuid flags

    pub info-unmapped : is_count_alone flags ≡ false → is_some own ≡ false → Some (cond needs BuffersNeeded BuffersMissing) ≡ first_refusal (info_guards now.state uuid flags)
    info-unmapped alone none =
        without-buffers needs (is_full own) ∙ sym (λ i. decided needs (known i) (alone i) (none i) (is_full own)) ∙ refusal-is uuid flags

    pub info-full : is_count_alone flags ≡ false → is_some own ≡ true → is_full own ≡ true → Some RxFull ≡ first_refusal (info_guards now.state uuid flags)
    info-full alone some full = sym (λ i. decided needs (known i) (alone i) (some i) (full i)) ∙ refusal-is uuid flags

    pub info-ready : is_count_alone flags ≡ false → is_some own ≡ true → is_full own ≡ false → None ≡ first_refusal (info_guards now.state uuid flags)
    info-ready alone some empty = sym (λ i. decided needs (known i) (alone i) (some i) (empty i)) ∙ refusal-is uuid flags

  -- the reply, by the count and whether it is all that is asked
  pub info-reply : (count : ℕ) (uuid : List ℕ) (flags : ℕ) (alone : Bool) (size : ℕ) → count ≡ length (selected (map party_of x.manifest.endpoints.items) uuid) → is_count_alone flags ≡ alone
      → size ≡ told_info_size (version_of now.state now.state.runner)
      → success count (cond alone 0 size) ≡ success (length (selected now.state.parties uuid)) (cond (is_count_alone flags) 0 (told_info_size (version_of now.state now.state.runner)))
  info-reply count uuid flags alone size is asked sized =
      λ i. success ((is ∙ ap (λ (parties : List Party). length (selected parties uuid)) parties-seen) i) (cond (sym asked i) 0 (sized i))

  -- who is given the descriptors has buffers
  pub informed-own : (uuid : List ℕ) (flags : ℕ) → first_refusal (info_guards now.state uuid flags) ≡ None → is_count_alone flags ≡ false → (b : Buffers) × (own ≡ Some b)
  informed-own uuid flags none alone =
      of own refl (is_nil uuid || is_any (selected (map party_of x.manifest.endpoints.items) uuid))
      (sym (λ i. decided needs (is_nil uuid || is_any (selected (map party_of x.manifest.endpoints.items) uuid)) (alone i) (is_some own) (is_full own)) ∙ refusal-is uuid flags ∙ none)
    where
      of : (o : Option Buffers) → own ≡ o → (recognized : Bool) → decided needs recognized false (is_some o) (is_full o) ≡ None → (b : Buffers) × (own ≡ Some b)
      of (Some b) is recognized none = (b, is)
      of None is true none = absurd (none-some (cond needs BuffersNeeded BuffersMissing) (sym (without-buffers needs false ∙ none)))
      of None is false none = absurd (none-some UuidUnknown (sym none))

  -- the descriptors in RX of the runner
  module _ (machine : IsManager x) (words : List ℕ) (flags : ℕ) (bytes : List ℕ) (version : Version) (spoken : version ≡ version_of now.state now.state.runner)
      (are : bytes ≡ info_bytes x.manifest.ffa version (map party_of x.manifest.endpoints.items) (uuid_bytes words)) (asked : is_count_alone flags ≡ false) where
    abbrev pub after_information : Parts
    after_information = after_fill x machine e (runner-there x machine e at) bytes

    version-is : version ≡ version_of (state_of x) x.kept.chain.runner
    unfolding first
    version-is = spoken ∙ sym (ap (λ (seen : Managed). version_of seen.state seen.state.runner) view)

    informed-is : state_of after_information ≡ informed (state_of x) (uuid_bytes words) flags
    unfolding first
    informed-is =
        state-filled x machine e (runner-there x machine e at) bytes
        ∙ (λ i. filled (state_of x) (at i) (are i))
        ∙ ap (λ (v : Version). filled (state_of x) x.kept.chain.runner (info_bytes x.manifest.ffa v (map party_of x.manifest.endpoints.items) (uuid_bytes words))) version-is
        ∙ (λ i. cond (sym asked i) (state_of x) (filled (state_of x) x.kept.chain.runner (info_bytes x.manifest.ffa (version_of (state_of x) x.kept.chain.runner) (map party_of x.manifest.endpoints.items) (uuid_bytes words))))

    pub state-informed : state_of after_information ≡ informed now.state (uuid_bytes words) flags
    state-informed = informed-is ∙ ap (λ (seen : Managed). informed seen.state (uuid_bytes words) flags) view

    pub machine-informed : first_refusal (info_guards now.state (uuid_bytes words) flags) ≡ None → IsManager after_information
    machine-informed none =
        machine-called x after_information.ram after_information.kept.buffers x.kept.chain machine
        (tables-filled x machine e (runner-there x machine e at) bytes) (PartitionInfoGet words flags)
        (informed-is
        ∙ sym (passed-state (state_of x) (info_get (state_of x) words flags)
        (sym (answers-pass (info_guards (state_of x) (uuid_bytes words) flags) (sym (ap (λ (seen : Managed). first_refusal (info_guards seen.state (uuid_bytes words) flags)) view ∙ none))))))
