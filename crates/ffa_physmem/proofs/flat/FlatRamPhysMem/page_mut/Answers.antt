-- SPDX-License-Identifier: MIT OR Apache-2.0
use Rattle.std.proofs.Common.{◌∙◌, [], refl}
use Rattle.std.proofs.lemmas.List.{get_or_default}
use Rattle.ffa_physmem.proofs.Pieces.{with_page-there}
use Rattle.ffa_physmem.proofs.flat.FlatRamPhysMem.page_mut.Goals as goal

pub returns : goal.returns
returns g c =
    let m = c.args.self.now in
    let bytes = c.index_mut.result.now in
    let held = c.index_mut.ensures.value ∙ get_or_default m.pages.items c.args.page.0 bytes [] c.requires in
    ((refl, λ w. with_page-there m c.args.page.0 w _ _), record { value = held; writes_back = tt })
