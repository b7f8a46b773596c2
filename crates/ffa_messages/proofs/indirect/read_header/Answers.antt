-- SPDX-License-Identifier: MIT OR Apache-2.0
use Rattle.std.proofs.Common.{◌∙◌, ℕ, List, sym, ap}
use Rattle.ffa_model.specs.Messages.{header_in}
use Rattle.ffa_model.specs.Ram.{page_of}
use Rattle.ffa_messages.proofs.Headers.{header-run}
use Rattle.ffa_messages.proofs.indirect.read_header.Goals as goal

pub returns : goal.returns
returns g c =
    c.read.ensures ∙ ap (λ (page : List ℕ). header_in page) c.page.ensures.value
    ∙ sym (header-run (page_of (g.M.PhysMem.ram c.args.ram.now)) c.args.from.now.tx.0 c.args.from.now.pages c.requires.some c.page.ensures.whole)
