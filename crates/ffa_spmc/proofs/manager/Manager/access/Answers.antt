-- SPDX-License-Identifier: MIT OR Apache-2.0
use Rattle.std.proofs.Common.{◌≡◌, ◌∙◌, ◌<◌, ◌≤◌, length, sym, ap, arith}
use Rattle.ffa_model.specs.Access.{access}
use Rattle.ffa_model.specs.Ram.{page_of}
use Rattle.ffa_spmc.specs.Managed.{Managed}
use Rattle.ffa_spmc.proofs.Held.{access-past, owners-size}
use Rattle.ffa_spmc.proofs.Inside.{parts_of}
use Rattle.ffa_spmc.proofs.Pools.{access-kept}
use Rattle.ffa_spmc.proofs.manager.Manager.access.Goals as goal

pub returns-then-page-pages : goal.returns-then-page-pages
returns-then-page-pages g c =
    let x = parts_of g.M.PhysMem.ram c.self.inside in
    let count : c.pages.result ≡ length x.kept.pages = c.pages.ensures.count in
    let size : length x.kept.pages ≡ length x.ram.pages = owners-size x c.self.invariant in
    let inside : c.args.page.0 < length x.ram.pages = omega (arith, c.if-page-pages.true, count, size) in
    c.access.ensures (page_of x.ram c.args.page.0)
    ∙ access-kept x c.self.invariant c.args.page.0 inside c.args.endpoint.0
    ∙ ap (λ (seen : Managed). access seen.state c.args.endpoint.0 c.args.page.0) c.self.view_is

pub returns-else-page-pages : goal.returns-else-page-pages
returns-else-page-pages g c =
    let x = parts_of g.M.PhysMem.ram c.self.inside in
    let count : c.pages.result ≡ length x.kept.pages = c.pages.ensures.count in
    let size : length x.kept.pages ≡ length x.ram.pages = owners-size x c.self.invariant in
    let past : length x.ram.pages ≤ c.args.page.0 = omega (arith, c.if-page-pages.false, count, size) in
    sym (access-past x c.args.endpoint.0 c.args.page.0 past)
    ∙ ap (λ (seen : Managed). access seen.state c.args.endpoint.0 c.args.page.0) c.self.view_is
