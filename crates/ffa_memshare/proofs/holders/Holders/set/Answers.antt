-- SPDX-License-Identifier: MIT OR Apache-2.0
use Rattle.std.proofs.Common.{◌∙◌, set, sym, ap, arith}
use Rattle.ffa_memshare.specs.Held.{held_in, held_with}
use Rattle.ffa_memshare.proofs.HeldByPlace.{held-set}
use Rattle.ffa_memshare.proofs.holders.Holders.set.Goals as goal

pub returns : goal.returns
returns c =
    let e = c.args.endpoint.0 in
    let held = c.self.inside.rights in
    ap (λ k. held_in (set held k c.args.right)) c.place.ensures
    ∙ held-set held e c.args.right (sym c.requires.known) (omega (arith, c.requires.few, c.self.invariant))
    ∙ ap (λ m. held_with m e c.args.right) c.self.view_is
