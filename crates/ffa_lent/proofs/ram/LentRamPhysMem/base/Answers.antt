-- SPDX-License-Identifier: MIT OR Apache-2.0
use Rattle.std.proofs.Common.{Global, ap, arith, length}
use Rattle.ffa_physmem.specs.declared.frames.FrameRam.{FrameRam}
use Rattle.ffa_physmem.specs.FrameRam.{ram_of as frame_ram}
use Rattle.ffa_lent.specs.declared.lent.Lent.{Lent}
use Rattle.ffa_lent.proofs.Pages.{pages-seen}
use Rattle.ffa_lent.proofs.ram.LentRamPhysMem.base.Goals as goal

pub returns-clause-within : goal.returns-clause-within
returns-clause-within c =
    let same = pages-seen c.args.self.now in
    let frames = ap (λ (x : FrameRam Lent Global). length (frame_ram x).pages) c.frames.ensures in
    omega (arith, same, frames, c.base.ensures.within)
