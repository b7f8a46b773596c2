-- SPDX-License-Identifier: MIT OR Apache-2.0
use Rattle.std.proofs.Common.{◌≡◌, ℕ, List, [], slice_index_or, is_some, refl, ap, subst, arith, option_map, All}
use Rattle.std.proofs.lemmas.Grind.{common_steps}
use Rattle.ffa_model.specs.declared.endpoint.Region.{Region}
use Rattle.ffa_model.specs.declared.manifest.Ffa.{Ffa}
use Rattle.ffa_model.specs.declared.manifest.Ffa.TheVariants.{V1_1, V1_2}
use Rattle.ffa_model.specs.Regions.{has_page, is_normal, normal_of}
use Rattle.ffa_model.proofs.Finds.{find-alike}
use Rattle.ffa_stage2.specs.Layout.{regions_in}
use Rattle.ffa_stage2.proofs.layout.Layout.normal_until.Goals as goal

-- pages that each region has or none does
alike-normal : (base : ℕ) (ffa : Ffa) (regions : List Region) (p first : ℕ) → All (λ (r : Region). has_page base p r ≡ has_page base first r) regions
    → is_normal base (normal_of ffa regions) p ≡ is_normal base (normal_of ffa regions) first
alike-normal base V1_1 regions p first alike = refl
alike-normal base V1_2 regions p first alike =
    ap (λ o. is_some (option_map (λ (r : Region). r.rights) o)) (find-alike (has_page base p) (has_page base first) regions alike)

pub returns-clause-alike : goal.returns-clause-alike
returns-clause-alike c = λ p low high.
    let layout = c.args.self.now in
    let base : ℕ = layout.base.0 in
    let first : ℕ = c.args.first.0 in
    let regions : List Region = c.as_slice.result.now in
    let its : regions ≡ slice_index_or (regions_in layout) 0 [] = grind (arith, common_steps) in
    subst (λ (rs : List Region). is_normal base (normal_of layout.ffa rs) p ≡ is_normal base (normal_of layout.ffa rs) first) its
    (alike-normal base layout.ffa regions p first (c.regions_until.ensures.alike p low high))
