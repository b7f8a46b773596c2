-- SPDX-License-Identifier: MIT OR Apache-2.0
use Rattle.std.proofs.Common.{◌∙◌, ℕ, ◌*◌, Option, None, sym, arith, ext_get_or}
use Rattle.ffa_model.proofs.Listed.{length-listed, get_or-listed}
use Rattle.ffa_pages.specs.Entry.{Entry, first_entry}
use Rattle.ffa_pages.proofs.table.PageTable.fill.Goals as goal

pub returns : goal.returns
returns g c =
    let count : ℕ = 512 * c.args.manifest.now.ram_blocks in
    let first : ℕ → Option Entry = first_entry c.args.manifest.now.ram_base.0 c.args.manifest.now.endpoints.items in
    let i = c.loop-next.invariant in
    ext_get_or None _ _ (i.size ∙ sym (length-listed count first))
    (λ p within. i.like p (omega (arith, i.size, c.loop-next-test.false)) ∙ sym (get_or-listed count first p None (omega (arith, i.size))))
