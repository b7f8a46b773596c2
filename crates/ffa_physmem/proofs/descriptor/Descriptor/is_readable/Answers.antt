-- SPDX-License-Identifier: MIT OR Apache-2.0
use Rattle.std.proofs.Common.{arith}
use Rattle.std.proofs.lemmas.Grind.{common_steps}
use Rattle.std.proofs.lemmas.Nat.Bits.{and_pow}
use Rattle.ffa_physmem.proofs.descriptor.Descriptor.is_readable.Goals as goal

pub returns : goal.returns
returns c = grind (arith, common_steps, and_pow c.args.self.0 6)
