-- SPDX-License-Identifier: MIT OR Apache-2.0
use Rattle.std.proofs.Common.{◌≡◌, ◌∙◌, ℕ, ◌+◌, List, ◌∷◌, drop, is_some, sym, ap}
use Rattle.std.proofs.lemmas.List.{drop_more}
use Rattle.ffa_model.specs.declared.endpoint.Endpoint.{Endpoint}
use Rattle.ffa_model.proofs.Owners.{owner_from, owner-here, owner-behind}
use Rattle.ffa_model.proofs.manifest.Manifest.owner_of.Goals as goal

pub returns-then-is_some : goal.returns-then-is_some
returns-then-is_some c =
    let base : ℕ = c.args.self.now.ram_base.0 in
    let items : List Endpoint = c.as_slice-endpoint-items.result.now in
    let i : ℕ = c.loop-place.place in
    let rest : drop i items ≡ c.endpoint-item.result ∷ drop (i + 1) items =
    drop_more items i c.endpoint-item.result c.loop-place-test.true ∙ ap (λ (e : Endpoint). e ∷ drop (i + 1) items) (sym c.endpoint-item.is)
    in
    c.at.ensures
    ∙ sym (owner-here base c.args.page.0 i c.endpoint-item.result (drop (i + 1) items) (ap is_some (sym c.right_to.ensures) ∙ sym c.is_some.ensures ∙ c.if-is_some.true))
    ∙ ap (owner_from base c.args.page.0 i) (sym rest)
    ∙ c.loop-place.invariant
    ∙ ap (owner_from base c.args.page.0 0) c.as_slice-endpoint-items.ensures.value

pub loop-place-preserved : goal.loop-place-preserved
loop-place-preserved c =
    let base : ℕ = c.args.self.now.ram_base.0 in
    let items : List Endpoint = c.as_slice-endpoint-items.result.now in
    let i : ℕ = c.loop-place.place in
    let rest : drop i items ≡ c.endpoint-item.result ∷ drop (i + 1) items =
    drop_more items i c.endpoint-item.result c.loop-place-test.true ∙ ap (λ (e : Endpoint). e ∷ drop (i + 1) items) (sym c.endpoint-item.is)
    in
    sym (owner-behind base c.args.page.0 i c.endpoint-item.result (drop (i + 1) items) (ap is_some (sym c.right_to.ensures) ∙ sym c.is_some.ensures ∙ c.if-is_some.false))
    ∙ ap (owner_from base c.args.page.0 i) (sym rest)
    ∙ c.loop-place.invariant
