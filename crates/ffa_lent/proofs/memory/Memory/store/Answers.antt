-- SPDX-License-Identifier: MIT OR Apache-2.0
use Rattle.std.proofs.Common.{◌∙◌, List, ℕ, ap}
use Rattle.ffa_model.specs.Ram.{page_of, with_word}
use Rattle.ffa_physmem.specs.FrameRam.{ram_of as frame_ram}
use Rattle.ffa_lent.specs.Memory.{with_event, with_frame_bytes}
use Rattle.ffa_lent.specs.declared.memory.Memory.{Memory}
use Rattle.ffa_lent.proofs.memory.Memory.store.Goals as goal

pub returns : goal.returns
returns c =
    let page : ℕ = c.args.page.0 in
    ap (λ (x : Memory). with_frame_bytes x page c.put_word.new.page) c.note.ensures
    ∙ ap (with_frame_bytes (with_event c.args.self.now c.args.done.now.event) page)
    (c.put_word.ensures ∙ ap (λ (b : List ℕ). with_word b c.args.index c.args.value)
    (c.page_mut.ensures.value ∙ ap (λ (x : Memory). page_of (frame_ram x.frames) page) c.note.ensures))
