-- SPDX-License-Identifier: MIT OR Apache-2.0
use Rattle.std.proofs.Common.{◌≡◌, ◌∙◌, ◌+◌, ◌*◌, sym, ap, Option, eqb-true, eq-eqb}
use Rattle.ffa_model.specs.Descriptor.{page_word}
use Rattle.ffa_model.specs.declared.rights.Rights.{Rights}
use Rattle.ffa_stage2.proofs.Descriptors.{same_right}
use Rattle.ffa_stage2.proofs.blocks.has_right.Goals as goal

pub returns : goal.returns
returns g c rights names =
    let page = c.args.page in
    let address = c.args.place.now.address + 4096 * page in
    let read = c.read_word.ensures ∙ names.pages page c.requires.page in
    let wanted : c.leaf-word.result ≡ page_word address c.args.right = rw c.from.ensures at c.leaf-word.ensures in (
      λ same. same_right address (rights page) c.args.right (sym read ∙ eqb-true _ _ same ∙ wanted),
      λ is. eq-eqb _ _ (read ∙ ap (λ (r : Option Rights). page_word address r) is ∙ sym wanted),
    )
