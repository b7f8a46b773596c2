-- SPDX-License-Identifier: MIT OR Apache-2.0
use Rattle.std.proofs.Common.{subst, sym}
use Rattle.ffa_walker.specs.Offset.{KeepsOffset}
use Rattle.ffa_walker.proofs.Offsets.{KeepsOffset-from_level1}
use Rattle.ffa_walker.proofs.translation.translate.Goals as goal

pub returns-clause-offset : goal.returns-clause-offset
returns-clause-offset g c =
    subst (KeepsOffset c.args.address) (sym c.walk_from_level1.ensures) (KeepsOffset-from_level1 _ _ c.args.address)
