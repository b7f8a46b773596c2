-- SPDX-License-Identifier: MIT OR Apache-2.0
use Rattle.std.proofs.Common.{◌≡◌, ◌∙◌, ℕ, [], length, replicate, sym, arith}
use Rattle.std.proofs.lemmas.List.{ext_get_or, get_or-replicate, length-replicate}
use Rattle.ffa_model.specs.Ram.{Ram}
use Rattle.ffa_spmc.proofs.fill.clear.Goals as goal

pub returns-clause-zeros : goal.returns-clause-zeros
returns-clause-zeros g c =
    let i = c.loop-page.invariant in
    let old : Ram = g.M.PhysMem.ram c.args.ram.now in
    let new : Ram = g.M.PhysMem.ram c.loop-page.ram in
    let n : ℕ = length old.pages in
    let pages : new.pages ≡ replicate n (replicate 4096 0) =
    ext_get_or [] new.pages (replicate n (replicate 4096 0)) (i.size ∙ sym (length-replicate n (replicate 4096 0)))
    (λ p lt. i.zeros p (omega (arith, lt, i.size)) ∙ sym (get_or-replicate n p (replicate 4096 0) [] (omega (arith, lt, i.size))))
    in
    λ k. let r : Ram = record { base = i.base k; pages = pages k } in r
