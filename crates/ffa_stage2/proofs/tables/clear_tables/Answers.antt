-- SPDX-License-Identifier: MIT OR Apache-2.0
use Rattle.std.proofs.Common.{◌∙◌, ℕ, ◌+◌, ◌*◌, ap, arith, inl, inr}
use Rattle.ffa_stage2.specs.Tables.{HasRoom}
use Rattle.arrayvec.specs.ArrayVec.{array_vec_len}
use Rattle.ffa_stage2.proofs.Cleared.{cleared}
use Rattle.ffa_stage2.proofs.tables.clear_tables.Goals as goal

pub returns-clause-tables : goal.returns-clause-tables
returns-clause-tables g c =
    let i = c.loop-page.invariant in
    let l = c.args.layout.now in
    let same = i.base ∙ c.requires.base in
    let fits : HasRoom (g.M.PhysMem.ram c.loop-page.memory) (array_vec_len l.regions) l.tables.0 l.blocks =
    record { place = rw same l.place; one_table = rw same l.one_table; few = l.few; within = rw same l.within; size = i.size ∙ c.requires.size; room = l.room }
    in
    cleared (g.M.PhysMem.ram c.loop-page.memory) (array_vec_len l.regions) l.tables.0 l.blocks l.base.0 fits
    (λ q from h. i.zeros q from (omega (arith, h, ap (λ (n : ℕ). n * (2 + l.blocks)) c.len.ensures.value)))

pub returns-clause-rest : goal.returns-clause-rest
returns-clause-rest g c =
    let i = c.loop-page.invariant in
    record {
      base = i.base;
      size = i.size;
      pages = λ q h. i.rest q (elim h [
        | inl low ↦ inl low
        | inr high ↦ inr (omega (arith, high, c.loop-page.auto.page-end, ap (λ (n : ℕ). n * (2 + c.args.layout.now.blocks)) c.len.ensures.value))
      ]);
    }
