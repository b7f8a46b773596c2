-- SPDX-License-Identifier: MIT OR Apache-2.0
use Rattle.std.proofs.Common.{◌∙◌, Global, ap, length, sym}
use Rattle.ffa_physmem.specs.declared.frames.FrameRam.{FrameRam}
use Rattle.ffa_physmem.specs.FrameRam.{ram_of as frame_ram}
use Rattle.ffa_lent.specs.declared.lent.Lent.{Lent}
use Rattle.ffa_lent.proofs.Pages.{pages-seen}
use Rattle.ffa_lent.proofs.ram.LentRamPhysMem.pages.Goals as goal

pub returns : goal.returns
returns c = c.pages.ensures ∙ ap (λ (x : FrameRam Lent Global). length (frame_ram x).pages) c.frames.ensures ∙ sym (pages-seen c.args.self.now)
