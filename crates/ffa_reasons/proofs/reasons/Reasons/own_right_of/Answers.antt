-- SPDX-License-Identifier: MIT OR Apache-2.0
use Rattle.std.proofs.Common.{◌≡◌, ◌∙◌, ◌≤◌, length, sym, ap, arith}
use Rattle.std.specs.Option.{option_map}
use Rattle.ffa_model.specs.State.{State, own_right_of}
use Rattle.ffa_pages.specs.Entry.{Entry}
use Rattle.ffa_spmc.proofs.Held.{entry-past, owners-size}
use Rattle.ffa_spmc.specs.Lent.{lent_parts}
use Rattle.ffa_spmc.proofs.Pools.{own_right-is}
use Rattle.ffa_reasons.proofs.reasons.Reasons.own_right_of.Goals as goal

pub returns-then-page-pages : goal.returns-then-page-pages
returns-then-page-pages g c =
    let x = lent_parts g.M.PhysMem.ram c.self.inside.parts in
    let view = c.self.invariant.state ∙ c.self.view_is in
    c.own_right_of.ensures
    ∙ own_right-is x c.self.invariant.managed c.args.page.0
    ∙ ap (λ (s : State). own_right_of s c.args.page.0) view

pub returns-else-page-pages : goal.returns-else-page-pages
returns-else-page-pages g c =
    let x = lent_parts g.M.PhysMem.ram c.self.inside.parts in
    let view = c.self.invariant.state ∙ c.self.view_is in
    let count : c.pages.result ≡ length x.kept.pages = c.pages.ensures.count in
    let size : length x.kept.pages ≡ length x.ram.pages = owners-size x c.self.invariant.managed in
    let past : length x.ram.pages ≤ c.args.page.0 = omega (arith, c.if-page-pages.false, count, size) in
    sym (ap (option_map (λ (e : Entry). e.own_right)) (entry-past x c.self.invariant.managed c.args.page.0 past))
    ∙ own_right-is x c.self.invariant.managed c.args.page.0
    ∙ ap (λ (s : State). own_right_of s c.args.page.0) view
