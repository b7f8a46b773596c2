-- SPDX-License-Identifier: MIT OR Apache-2.0
-- What firmware is asked.
use Rattle.std.specs.Prelude.{◌≡◌, ℕ, ◌+◌, ◌*◌, ◌++◌, List, min, None}
use Rattle.byteorder.specs.Endian.{little_bytes}
use Rattle.ffa_model.specs.Identifiers.{identifier}
use Rattle.ffa_model.specs.Ram.{Ram}
use Rattle.ffa_physmem.specs.Moments.{Step}

-- what is written to have pages settled, in RAM at a base: the identifier of the endpoint at a place, the address of the first
-- page, and how many bytes the pages have, 8 bytes each
abbrev pub request_of : ℕ → ℕ → ℕ → ℕ → List ℕ
request_of endpoint base first count =
    little_bytes 8 (identifier (min endpoint 0x7FFF))
    ++ (little_bytes 8 (base + 4096 * first) ++ little_bytes 8 (4096 * count))

-- what was written before is seen before anything that is written behind
pub record IsBarrier (ram : Ram) (s : Step) : Type 0 where
  pub before : s.before ≡ ram
  pub after : s.after ≡ ram
  pub none : s.settled ≡ None
  pub unread : s.reading ≡ None
  pub words : s.words ≡ 0
  pub loans : s.loans ≡ 0
