-- SPDX-License-Identifier: MIT OR Apache-2.0
use Rattle.std.proofs.Common.{◌≡◌, ℕ, List, [], slice_index_or, ap, subst, arith, option_map}
use Rattle.std.proofs.lemmas.Grind.{common_steps}
use Rattle.ffa_model.specs.declared.endpoint.Region.{Region}
use Rattle.ffa_model.specs.Regions.{has_page, right_in}
use Rattle.ffa_model.proofs.Finds.{find-alike}
use Rattle.ffa_stage2.specs.Layout.{regions_in}
use Rattle.ffa_stage2.proofs.layout.Layout.right_until.Goals as goal

pub returns-clause-same : goal.returns-clause-same
returns-clause-same c = λ p low high.
    let base : ℕ = c.args.self.now.base.0 in
    let first : ℕ = c.args.first.0 in
    let regions : List Region = c.as_slice.result.now in
    let its : regions ≡ slice_index_or (regions_in c.args.self.now) c.args.index [] = grind (arith, common_steps) in
    subst (λ (rs : List Region). right_in base rs p ≡ right_in base rs first) its
    (ap (option_map (λ (r : Region). r.rights)) (find-alike (has_page base p) (has_page base first) regions (c.regions_until.ensures.alike p low high)))
