-- SPDX-License-Identifier: MIT OR Apache-2.0
use Rattle.std.proofs.Common.{◌∙◌, ◌↔◌, IsTrue, List, Option, true, false, refl, ap, subst, rules, tests}
use Rattle.std.proofs.lemmas.Bool.{false≢true}
use Rattle.std.proofs.lemmas.Iterator.{YieldsList-from_slice, cases_from_any}
use Rattle.ffa_model.specs.MemorySend.{is_buffer}
use Rattle.ffa_model.specs.State.{Buffers}
use Rattle.ffa_rxtx.specs.Stored.{list_of}
use Rattle.ffa_rxtx.proofs.PagesMet.{HasPage, IsAnyPage, any-buffer}
use Rattle.ffa_rxtx.proofs.buffers.Buffers.is_any_buffer.Goals as goal

pub returns : goal.returns
returns c =
    let first = c.args.first.0 in
    let end = c.args.end in
    subst (λ (all : List (Option Buffers)). IsTrue c.any.result ↔ IsAnyPage first end (is_buffer all)) (ap list_of c.as_slice.ensures.value ∙ c.self.view_is)
    (any-buffer first end c.as_slice.result.now c.any.result
    (cases_from_any _ _ c.any.result (HasPage first end) (λ own. HasPage first end own → ⊥) c.any.ensures.ran
    (YieldsList-from_slice c.as_slice.result.now cc)
    (λ x q k. (let its : IsTrue true ↔ HasPage first end x.now = search (rules, tests) in its.0 refl))
    (λ x q k. (search (rules, tests), (let its : IsTrue false ↔ HasPage first end x.now = search (rules, tests) in λ has. false≢true (its.1 has))))))
