-- SPDX-License-Identifier: MIT OR Apache-2.0
use Rattle.std.proofs.Common.{◌≡◌, ◌∙◌, arith}
use Rattle.ffa_stage2.proofs.Links.{linking-first, linking-next, linked-full}
use Rattle.ffa_stage2.proofs.tables.link.Goals as goal

pub loop-block-init : goal.loop-block-init
loop-block-init g c = record {
  linking =
      linking-first (g.M.PhysMem.ram c.args.memory.now) (g.M.PhysMem.ram c.write_word.new.self) _ c.args.layout.now.tables.0 c.args.layout.now.blocks c.args.layout.now.base.0 c.args.index _ _ _
      c.requires.tables c.requires.base c.requires.index c.write_word.ensures.ram (omega arith) (omega arith) (omega arith);
  site = c.write_word.ensures.steps.site;
}

pub loop-block-preserved : goal.loop-block-preserved
loop-block-preserved g c =
    let i = c.loop-block.invariant.linking in
    record {
      linking =
          linking-next (g.M.PhysMem.ram c.args.memory.now) (g.M.PhysMem.ram c.loop-block.memory) (g.M.PhysMem.ram c.write_word-in-loop-block.new.self) _ c.args.layout.now.tables.0 c.args.layout.now.blocks c.args.layout.now.base.0 c.args.index c.loop-block.block _ _ _
          i (i.rest.base ∙ c.requires.base) c.requires.index c.loop-block-test.true c.write_word-in-loop-block.ensures.ram (omega arith) (omega arith) (omega arith);
      site = c.write_word-in-loop-block.ensures.steps.site ∙ c.loop-block.invariant.site;
    }

pub returns-clause-tables : goal.returns-clause-tables
returns-clause-tables g c =
    let all : c.loop-block.block ≡ c.args.layout.now.blocks = omega arith in
    linked-full (g.M.PhysMem.ram c.loop-block.memory) _ c.args.layout.now.tables.0 c.args.layout.now.blocks c.args.index c.args.layout.now.base.0 (rw all at c.loop-block.invariant.linking.words)
