-- SPDX-License-Identifier: MIT OR Apache-2.0
-- What processors of an endpoint write while others act, as its stores: one of each byte.
use Rattle.std.specs.Prelude.{◌≡◌, ⊤, ℕ, ◌+◌, ◌*◌, ◌==◌, Bool, true, List, [], ◌∷◌, ◌++◌, slice_set}
use Rattle.std.specs.List.{list_any}
use Rattle.std.specs.Option.{option_map}
use Rattle.ffa_model.specs.declared.operation.Op.{Op}
use Rattle.ffa_model.specs.declared.operation.Op.TheVariants.{Store}
use Rattle.ffa_model.specs.declared.operation.Size.TheVariants.{B1}
use Rattle.ffa_model.specs.Access.{access}
use Rattle.ffa_model.specs.Memory.{page_bytes}
use Rattle.ffa_model.specs.Numbers.{Identifier, PageIndex}
use Rattle.ffa_model.specs.Rights.{may_store}
use Rattle.ffa_model.specs.SoundState.{IsSoundState}
use Rattle.ffa_model.specs.State.{State, Page, is_known, page_at}
use Rattle.ffa_laws.specs.Readable.{blank}

-- bytes from an address on, each stored by e
abbrev pub stores : Identifier → ℕ → List ℕ → List (ℕ × Op)
stores e address [] = []
stores e address (byte ∷ bytes) = (e, Store address B1 byte) ∷ stores e (address + 1) bytes

-- the state in which an owned page has these bytes
abbrev pub with_bytes_of : State → PageIndex → List ℕ → State
with_bytes_of s p bytes = record s { pages = slice_set s.pages p (option_map (λ (q : Page). record q { bytes = bytes }) (page_at s p)) }

-- pages, each beside an endpoint that stores there the bytes that it has in state t
abbrev pub all_stores : State → List (Identifier × PageIndex) → List (ℕ × Op)
all_stores t [] = []
all_stores t (x ∷ xs) = stores x.0 (t.ram_base + 4096 * x.1) (page_bytes t x.1) ++ all_stores t xs

abbrev pub is_among : List (Identifier × PageIndex) → PageIndex → Bool
is_among xs p = list_any (λ (x : Identifier × PageIndex). x.1 == p) xs

-- each endpoint is one of the machine's, and has the right to write to the page beside it
abbrev pub MayAllStore : State → List (Identifier × PageIndex) → Type 0
MayAllStore s [] = ⊤
MayAllStore s (x ∷ xs) = (is_known s x.0 ≡ true) × (may_store (access s x.0 x.1) ≡ true) × MayAllStore s xs

-- what others write between two operations: to pages, to each of which some endpoint has the right to write.
-- Because they are stores, the laws about lists of any endpoints hold for them. Steps that no operation makes would
-- need their own laws.
pub record AreWritten (s t : State) : Type 0 where
  pub pages : List (Identifier × PageIndex)
  pub may : MayAllStore s pages
  pub same : blank (is_among pages) s ≡ blank (is_among pages) t
  pub sound : IsSoundState t

-- each is a store of a byte, and a test holds of who stores and where
abbrev pub AreStores : (Identifier → ℕ → Bool) → List (ℕ × Op) → Type 0
AreStores may [] = ⊤
AreStores may (x ∷ xs) = ((address byte : ℕ) × (x.1 ≡ Store address B1 byte) × (may x.0 address ≡ true)) × AreStores may xs
