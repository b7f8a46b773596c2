-- SPDX-License-Identifier: MIT OR Apache-2.0
use Rattle.std.proofs.Common.{◌≡◌, ◌∙◌, ◌+◌, ◌-◌, ◌/◌, ◌^◌, ◌≤◌, true, sym, ap, ap₂, arith, is_some, min}
use Rattle.std.proofs.lemmas.Bool.{false≢true}
use Rattle.ffa_physmem.specs.Levels.{shift}
use Rattle.ffa_walker.proofs.certification.have_access.Goals as goal
use Rattle.ffa_walker.proofs.certification.have_access.Goals.{else-is_some-via-then-is_some+else-end-first, else-is_some-via-else-is_some}
use Rattle.ffa_walker.proofs.Levels.{of_pages}
use Rattle.ffa_walker.proofs.Spans.{paged, through}

pub returns : goal.returns
returns g c =
    let ram = g.M.PhysMem.ram c.args.memory.now in
    let pages = c.from.ensures ∙ c.pages.ensures in
    let size = c.size-size.ensures in
    let by_pages = of_pages c.args.level c.args.start c.requires.start in
    let whole : is_some c.args.access ≡ true → c.page_behind-first.result + c.size-size.result / 4096 ≤ c.min-end.result =
    elim c.else-is_some.branch [
      | else-is_some-via-then-is_some+else-end-first w ↦ λ _. w.if-end-first.false
      | else-is_some-via-else-is_some w ↦ λ is. absurd (false≢true (sym w.if-is_some.false ∙ c.is_some.ensures ∙ is))
    ]
    in
    through c.have_pages.ensures
    (paged ram c.args.runs.now c.args.place c.args.start (2 ^ shift c.args.level) c.page_behind-first.result c.min-end.result c.args.access
    c.page_behind-first.ensures.base by_pages.2 by_pages.1 c.page_behind-first.ensures.page
    (c.min-end.ensures ∙ ap₂ min (c.page_behind.ensures.page ∙ ap (λ s. (c.args.start + s - ram.base) / 4096) size) pages)
    (λ is. omega (arith, whole is, size)))
