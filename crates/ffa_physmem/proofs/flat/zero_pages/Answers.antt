-- SPDX-License-Identifier: MIT OR Apache-2.0
use Rattle.std.proofs.Common.{◌≡◌, ◌∙◌, ℕ, List, ◌++◌, ◌∷◌, [], replicate, ap, arith}
use Rattle.std.proofs.lemmas.List.{replicate-append-replicate}
use Rattle.ffa_physmem.proofs.flat.zero_pages.Goals as goal

pub loop-index-preserved : goal.loop-index-preserved
loop-index-preserved g c =
    c.in_ok-push.ensures.items ∙ ap (λ (xs : List (List ℕ)). xs ++ replicate 4096 0 ∷ []) c.loop-index.invariant
    ∙ replicate-append-replicate c.loop-index._index 1 (replicate 4096 0)

pub returns : goal.returns
returns g c =
    let e : c.loop-index._index ≡ c.args.count = omega arith in
    c.loop-index.invariant ∙ ap (λ (n : ℕ). replicate n (replicate 4096 0)) e
