-- SPDX-License-Identifier: MIT OR Apache-2.0
use Rattle.std.proofs.Common.{◌∙◌, List, sym, ap}
use Rattle.ffa_model.specs.declared.endpoint.Endpoint.{Endpoint}
use Rattle.ffa_model.specs.declared.endpoint.Region.{Region}
use Rattle.ffa_model.specs.Regions.{right_in, regions_at}
use Rattle.ffa_model.proofs.Owners.{regions_at-there, regions_at-past}
use Rattle.ffa_model.proofs.manifest.Manifest.right_to.Goals as goal

pub returns-then-place-endpoints : goal.returns-then-place-endpoints
returns-then-place-endpoints c =
    c.right_to.ensures
    ∙ ap (λ (rs : List Region). right_in c.args.self.now.ram_base.0 rs c.args.page.0)
    (sym (regions_at-there c.as_slice-endpoints.result.now c.args.place c.index-endpoints-place.result c.index-endpoints-place.is c.if-place-endpoints.true)
    ∙ ap (λ (es : List Endpoint). regions_at es c.args.place) c.as_slice-endpoints.ensures.value)

pub returns-else-place-endpoints : goal.returns-else-place-endpoints
returns-else-place-endpoints c =
    ap (λ (rs : List Region). right_in c.args.self.now.ram_base.0 rs c.args.page.0)
    (sym (regions_at-past c.as_slice-endpoints.result.now c.args.place c.if-place-endpoints.false)
    ∙ ap (λ (es : List Endpoint). regions_at es c.args.place) c.as_slice-endpoints.ensures.value)
