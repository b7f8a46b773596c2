-- SPDX-License-Identifier: MIT OR Apache-2.0
-- FOR PROOFS ALONE
-- The bits of an address that one descriptor of a level leaves as they are.
use Rattle.std.specs.Prelude.{ℕ}
use Rattle.ffa_physmem.specs.declared.descriptor.Level.{Level}
use Rattle.ffa_physmem.specs.declared.descriptor.Level.TheVariants.{One, Two, Three}

abbrev pub shift : Level → ℕ
shift One = 30
shift Two = 21
shift Three = 12
