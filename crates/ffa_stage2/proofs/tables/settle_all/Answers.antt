-- SPDX-License-Identifier: MIT OR Apache-2.0
use Rattle.std.proofs.Common.{◌∙◌, ◌∷◌, ℕ, ◌^◌, arith, inl, inr, subst, sym}
use Rattle.std.proofs.lemmas.Bool.{cases_eq}
use Rattle.arrayvec.specs.ArrayVec.{array_vec_len}
use Rattle.ffa_model.proofs.Runs.{to-run}
use Rattle.ffa_physmem.specs.Moments.{IsSettledBy}
use Rattle.ffa_physmem.proofs.Moments.{settled-here, settled-still}
use Rattle.ffa_stage2.specs.Tables.{table_page}
use Rattle.ffa_stage2.proofs.tables.settle_all.Goals as goal

pub loop-index-preserved : goal.loop-index-preserved
loop-index-preserved g c =
    let i = c.loop-index.invariant in
    let index = c.loop-index.index in
    let ram = g.M.PhysMem.ram c.loop-index.memory in
    let begin : ℕ = c.args.layout.now.tables.0 in
    let end : ℕ = table_page c.args.layout.now.tables.0 c.args.layout.now.blocks (array_vec_len c.args.layout.now.regions) 0 in
    record {
      ram = c.settle.ensures.ram ∙ i.ram;
      settled = λ h there e p he hp.
          let (s, earlier, is, was, its) = c.settle.ensures.steps.each h there in
          subst (IsSettledBy begin end e p) (sym is) (elim (cases_eq e index) [
            | inl same ↦ subst (λ f. IsSettledBy begin end f p (s ∷ earlier)) (sym same) (settled-here ram begin end index 0 (2 ^ 20) p s earlier its (to-run 0 (2 ^ 20) p (omega arith) (omega (arith, hp))))
            | inr other ↦ settled-still ram begin end e index 0 (2 ^ 20) p s earlier its (i.settled earlier was e p (omega (arith, he, other)) hp)
          ]);
      site = c.settle.ensures.steps.site ∙ i.site;
    }
