-- SPDX-License-Identifier: MIT OR Apache-2.0
use Rattle.std.proofs.Common.{ℕ, ap, arith, sym}
use Rattle.std.specs.Option.{option_map}
use Rattle.ffa_model.specs.declared.why.About.TheVariants.{Bit}
use Rattle.ffa_notify.proofs.Least.{least}
use Rattle.ffa_notify.proofs.reasons.first_of.Goals as goal

pub returns : goal.returns
returns c = ap (option_map (λ (k : ℕ). Bit k)) (sym (least c.args.mask (let other = c.if-mask-eq0.false in omega arith) c.ranges.mask.fits))
