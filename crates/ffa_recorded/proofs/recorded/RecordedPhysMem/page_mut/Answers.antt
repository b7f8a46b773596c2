-- SPDX-License-Identifier: MIT OR Apache-2.0
use Rattle.std.proofs.Common.{◌∙◌, refl, ap}
use Rattle.std.specs.Vec.{with_item}
use Rattle.ffa_model.specs.Ram.{page_of}
use Rattle.ffa_recorded.specs.Loans.{ram_of}
use Rattle.ffa_recorded.specs.declared.recorded.Recorded.{Recorded}
use Rattle.ffa_recorded.proofs.recorded.RecordedPhysMem.page_mut.Goals as goal

pub returns : goal.returns
returns c =
    let page = c.args.page.0 in (
      (
        refl,
        λ w. ap (λ (m : Recorded). let x : Recorded = record m { ram = record m.ram { pages = with_item m.ram.pages page w } } in x)
            c.note_loan.ensures,
      ),
      record {
        value = c.page_mut.ensures.value ∙ ap (λ (m : Recorded). page_of (ram_of m) page) c.note_loan.ensures;
        writes_back = tt;
      },
    )
