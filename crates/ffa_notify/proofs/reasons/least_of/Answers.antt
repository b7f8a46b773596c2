-- SPDX-License-Identifier: MIT OR Apache-2.0
use Rattle.std.proofs.Common.{ℕ, ap, arith, sym}
use Rattle.std.specs.Option.{option_map}
use Rattle.ffa_mend.specs.declared.Mend.TheVariants.{Pending}
use Rattle.ffa_notify.proofs.Least.{least}
use Rattle.ffa_notify.proofs.reasons.least_of.Goals as goal

pub returns : goal.returns
returns c = ap (option_map (λ (k : ℕ). Pending k)) (sym (least c.args.bits (let other = c.if-bits-eq0.false in omega arith) c.ranges.bits.fits))
