-- SPDX-License-Identifier: MIT OR Apache-2.0
use Rattle.std.proofs.Common.{◌∙◌, ◌++◌, List, [], ◌∷◌, arith, ap, sym, take, length, map}
use Rattle.std.proofs.lemmas.List.{map_more, map-append}
use Rattle.ffa_model.specs.declared.endpoint.Endpoint.{Endpoint}
use Rattle.ffa_model.specs.declared.endpoint.Region.{Region}
use Rattle.ffa_stage2.specs.declared.layout.Regions.{Regions}
use Rattle.ffa_stage2.specs.Layout.{lists_of}
use Rattle.ffa_stage2.proofs.Places.{accepted-room}
use Rattle.ffa_stage2.proofs.layout.Layout.of.Goals as goal

pub loop-endpoint-preserved : goal.loop-endpoint-preserved
loop-endpoint-preserved c =
    let i = c.loop-endpoint.invariant in
    let items = c.as_slice-endpoint-items.result.now in
    record {
      count = omega (arith, c.push.ensures.len, i.count);
      lists =
          ap lists_of c.push.ensures.items
          ∙ map-append (λ (r : Regions). r.list.items) c.loop-endpoint.regions.items (c.of.result ∷ [])
          ∙ ap (λ (before : List (List Region)). before ++ c.of.result.list.items ∷ []) i.lists
          ∙ ap (λ (last : List Region). map (λ (e : Endpoint). e.regions.items) (take c.loop-endpoint.endpoint-index items) ++ last ∷ [])
          (c.of.ensures ∙ ap (λ (e : Endpoint). e.regions.items) c.endpoint-item.is)
          ∙ sym (map_more (λ (e : Endpoint). e.regions.items) items c.loop-endpoint.endpoint-index c.endpoint-item.result c.loop-endpoint-test.true);
    }

pub invariant_of-result-clause-room : goal.invariant_of-result-clause-room
invariant_of-result-clause-room c =
    accepted-room c.args.manifest.now.ram_base.0 c.args.manifest.now.tables.0 c.args.manifest.now.ram_blocks c.args.manifest.now.endpoints.items _ c.args.manifest.now.accepted
    (omega (arith, c.loop-endpoint.invariant.count, c.loop-endpoint-test.false, c.loop-endpoint.auto.endpoint-index-end, ap length c.as_slice-endpoint-items.ensures.value))
