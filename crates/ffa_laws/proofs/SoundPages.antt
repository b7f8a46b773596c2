-- SPDX-License-Identifier: MIT OR Apache-2.0
-- Pages stay sound where bytes are written: by a store, and into RX.
use Rattle.std.proofs.Common.{◌≡◌, ◌∙◌, ℕ, suc, ◌+◌, ◌≤◌, Bool, true, false, cond, List, [], ◌∷◌, ◌++◌, take, length, replicate, get_or, Option, Some, None, refl, sym, subst, arith, zero, drop, ◌==◌, ◌%◌, ◌&&◌, nat_lt, slice_get, length-take}
use Rattle.std.specs.List.{enumerate_from, list_all}
use Rattle.std.specs.Option.{option_map_or}
use Rattle.std.proofs.lemmas.Bool.{and_from, and_parts, eq-eqb, eqb-true}
use Rattle.std.proofs.lemmas.Option.{none-some, same_Some}
use Rattle.byteorder.specs.Endian.{little_bytes}
use Rattle.byteorder.specs.Numbers.{length-bytes_low_first}
use Rattle.ffa_model.proofs.Runs.{run-all}
use Rattle.ffa_model.specs.Lists.{run}
use Rattle.ffa_model.specs.declared.operation.FaultKind.{FaultKind}
use Rattle.ffa_model.specs.declared.operation.Size.{Size}
use Rattle.ffa_model.specs.declared.operation.Size.TheVariants.{B1, B2, B4, B8}
use Rattle.ffa_model.specs.declared.rights.Rights.{Rights}
use Rattle.ffa_model.specs.Identifiers.{identifier}
use Rattle.ffa_model.specs.Manifest.{is_nil}
use Rattle.ffa_model.specs.Rights.{may_store}
use Rattle.ffa_model.specs.declared.endpoint.Version.{Version}
use Rattle.ffa_model.specs.declared.endpoint.Version.TheVariants.{Compact, V1_1, V1_2}
use Rattle.ffa_model.specs.Bits.{bits}
use Rattle.ffa_model.specs.State.{State, Page, Party, Buffers, buffers_of, page_at, version_of}
use Rattle.ffa_model.specs.Memory.{access_at, fault_of, page_bytes, page_with, run_bytes, size_of, store_fault, written_pages, written_run}
use Rattle.ffa_model.specs.Buffers.{filled_pages}
use Rattle.ffa_model.specs.Setup.{info_bytes, info_of, is_selected, selected, properties_info, properties_told}
use Rattle.ffa_model.specs.Messages.{header_in, message_in, tx_bytes}
use Rattle.ffa_model.specs.SoundState.{IsSoundPage, IsSoundParty, IsSoundState, are_bytes}
use Rattle.ffa_laws.proofs.ByteLists.{all-drop, all-enumerated, all-filter, all-take, both-bytes, bytes-pieces, bytes-with_bytes, length-with_bytes, number-bytes}
use Rattle.ffa_laws.proofs.SoundKept.{AreSoundPages}
use Rattle.ffa_laws.proofs.Written.{at-changed, is_at}

module _ (s : State) (ps : List (Option Page)) (pages : AreSoundPages s ps) (bytes : List ℕ) (are : are_bytes bytes) where
  pub written-sound : (p at : ℕ) → at + length bytes ≤ 4096 → AreSoundPages s (written_pages ps p at bytes)
  written-sound p at fits q page is = of (is_at p q) (get_or ps q None) refl (sym (at-changed (page_with at bytes) ps p q refl) ∙ is)
    where
      of : (b : Bool) (o : Option Page) → get_or ps q None ≡ o → cond b (page_with at bytes o) o ≡ Some page → IsSoundPage s page
      of true None there none = absurd (none-some page none)
      of true (Some x) there some =
          let good = pages q x there in
          let inside : at + length bytes ≤ length x.bytes = omega (arith, good.size) in
          subst (λ (y : Page). IsSoundPage s y) (same_Some _ page some)
          (record { owner = good.owner; size = length-with_bytes x.bytes at bytes inside ∙ good.size; bytes = bytes-with_bytes x.bytes at bytes good.bytes are })
      of false None there none = absurd (none-some page none)
      of false (Some x) there some = pages q page (there ∙ some)

-- bytes in pages in a row
run-sound : (s : State) (n : ℕ) (ps : List (Option Page)) → AreSoundPages s ps → (first : ℕ) (bytes : List ℕ) → are_bytes bytes → AreSoundPages s (written_run n ps first bytes)
run-sound s zero ps pages first bytes are = pages
run-sound s (suc n) ps pages first bytes are =
    run-sound s n (written_pages ps first 0 (take 4096 bytes))
    (written-sound s ps pages (take 4096 bytes) (all-take (λ b. nat_lt b 256) 4096 bytes are) first 0 (let cut = length-take 4096 bytes in omega (arith, cut)))
    (first + 1) (drop 4096 bytes) (all-drop (λ b. nat_lt b 256) 4096 bytes are)

pub filled-sound : (s : State) (ps : List (Option Page)) → AreSoundPages s ps → (bytes : List ℕ) → are_bytes bytes → (b : Option Buffers) → AreSoundPages s (filled_pages ps bytes b)
filled-sound s ps pages bytes are None = pages
filled-sound s ps pages bytes are (Some b) = run-sound s b.pages ps pages b.rx bytes are

-- an access without a fault is aligned
fault-aligned : (aligned : Bool) (right : Option Rights) (allowed : Option Rights → Bool) → fault_of aligned right allowed ≡ None → aligned ≡ true
fault-aligned true right allowed none = refl
fault-aligned false right allowed none = absurd (some_none none)
  where
    some_none : {x : FaultKind} → Some x ≡ None → ⊥
    some_none e = cc

aligned-inside : (size : Size) (address : ℕ) → (address % size_of size == 0) ≡ true → address % 4096 + size_of size ≤ 4096
aligned-inside B1 address is = omega arith
aligned-inside B2 address is = let even = eqb-true (address % 2) 0 is in omega (arith, even)
aligned-inside B4 address is = let even = eqb-true (address % 4) 0 is in omega (arith, even)
aligned-inside B8 address is = let even = eqb-true (address % 8) 0 is in omega (arith, even)

-- what the manifest says of the fields of information
abbrev is_sound_party : Party → Bool
is_sound_party party = length party.uuid == 16 && list_all (λ b. nat_lt b 256) party.uuid

pub store-aligned : (s : State) (address n : ℕ) → store_fault s address n ≡ None → (address % n == 0) ≡ true
store-aligned s address n none = fault-aligned (address % n == 0) (access_at s s.runner address) may_store none

module _ (s : State) (sound : IsSoundState s) where
  pub stored-sound : (address p : ℕ) (size : Size) (value : ℕ) → (address % size_of size == 0) ≡ true
      → AreSoundPages s (written_pages s.pages p (address % 4096) (little_bytes (size_of size) value))
  stored-sound address p size value aligned =
      let inside = aligned-inside size address aligned in
      let width = length-bytes_low_first 0 (size_of size) value in
      written-sound s s.pages sound.pages (little_bytes (size_of size) value) (number-bytes 0 (size_of size) value) p (address % 4096) (omega (arith, inside, width))

  -- an indirect message
  page-are-bytes : (p : ℕ) → are_bytes (page_bytes s p)
  page-are-bytes p = of (page_at s p) refl
    where
      of : (o : Option Page) → page_at s p ≡ o → are_bytes (option_map_or (λ (page : Page). page.bytes) o [])
      of None at = refl
      of (Some page) at = (sound.pages p page at).bytes

  pub tx-are-bytes : (e : ℕ) → are_bytes (tx_bytes s e)
  tx-are-bytes e = elim (buffers_of s e) as (λ o. are_bytes (option_map_or (λ (b : Buffers). run_bytes s b.tx b.pages) o [])) [
    | None ↦ refl
    | Some b ↦ bytes-pieces (page_bytes s) (λ p. true) (run b.tx b.pages) (run-all (λ p. true) b.tx b.pages (λ i lt. refl)) (λ p is. page-are-bytes p)
  ]

  pub sent-sound : (b : Option Buffers) → AreSoundPages s (filled_pages s.pages (message_in (tx_bytes s s.runner)) b)
  sent-sound b =
      filled-sound s s.pages sound.pages (message_in tx) (all-take (λ b. nat_lt b 256) ((header_in tx).offset + (header_in tx).size) tx (tx-are-bytes s.runner)) b
    where
      tx : List ℕ
      tx = tx_bytes s s.runner

  -- partition information
  parties-sound : list_all is_sound_party s.parties ≡ true
  parties-sound = each s.parties sound.parties
    where
      each : (parties : List Party) → ((i : ℕ) (party : Party) → slice_get parties i ≡ Some party → IsSoundParty party) → list_all is_sound_party parties ≡ true
      each [] good = refl
      each (party ∷ parties) good =
          let here = good 0 party refl in
          and_from (is_sound_party party) _ (and_from (length party.uuid == 16) _ (eq-eqb (length party.uuid) 16 here.size) here.bytes) (each parties (λ i other is. good (suc i) other is))

  module _ (uuid : List ℕ) where
    abbrev passes : ℕ × Party → Bool
    passes x = is_sound_party x.1

    selected-sound : list_all passes (selected s.parties uuid) ≡ true
    selected-sound = all-filter passes (is_selected uuid) (enumerate_from 0 s.parties) (all-enumerated is_sound_party 0 s.parties parties-sound)

    -- the last 16 bytes of the information on a partition, and those behind the identifier
    abbrev shown_uuid : ℕ × Party → List ℕ
    shown_uuid x = cond (is_nil uuid) x.1.uuid (replicate 16 0)

    abbrev from_contexts : Version → ℕ × Party → List ℕ
    from_contexts version x = little_bytes 2 1 ++ properties_info s.ffa version uuid x.1

    -- in each form but the compact one
    bytes-full : (properties : ℕ) (x : ℕ × Party) → passes x ≡ true → are_bytes (little_bytes 4 (properties + 0x100) ++ shown_uuid x)
    bytes-full properties x good =
        both-bytes (little_bytes 4 (properties + 0x100)) (shown_uuid x) (number-bytes 0 4 (properties + 0x100))
        (elim (is_nil uuid) as (λ b. are_bytes (cond b x.1.uuid (replicate 16 0))) [ true ↦ (and_parts (length x.1.uuid == 16) _ good).1 | false ↦ refl ])

    bytes-properties : (version : Version) (x : ℕ × Party) → passes x ≡ true → are_bytes (properties_info s.ffa version uuid x.1)
    bytes-properties Compact x good = number-bytes 0 4 (bits 2 0 x.1.properties)
    bytes-properties V1_1 x good = bytes-full (properties_told s.ffa V1_1 x.1.properties) x good
    bytes-properties V1_2 x good = bytes-full (properties_told s.ffa V1_2 x.1.properties) x good

    bytes-info : (version : Version) (x : ℕ × Party) → passes x ≡ true → are_bytes (info_of s.ffa version uuid x)
    bytes-info version x good =
        both-bytes (little_bytes 2 (identifier x.0)) (from_contexts version x) (number-bytes 0 2 (identifier x.0))
        (both-bytes (little_bytes 2 1) (properties_info s.ffa version uuid x.1) (number-bytes 0 2 1) (bytes-properties version x good))

    pub informed-sound : (b : Option Buffers) → AreSoundPages s (filled_pages s.pages (info_bytes s.ffa (version_of s s.runner) s.parties uuid) b)
    informed-sound b =
        filled-sound s s.pages sound.pages (info_bytes s.ffa (version_of s s.runner) s.parties uuid) (bytes-pieces (info_of s.ffa (version_of s s.runner) uuid) passes (selected s.parties uuid) selected-sound (bytes-info (version_of s s.runner)))
        b
