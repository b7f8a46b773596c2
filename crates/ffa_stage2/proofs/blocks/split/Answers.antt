-- SPDX-License-Identifier: MIT OR Apache-2.0
use Rattle.std.proofs.Common.{◌≡◌, ◌∙◌, ℕ, ◌%◌, refl, ap, sym, arith, inl, inr}
use Rattle.ffa_physmem.proofs.Moments.{Only-map, Only-none, Only-then}
use Rattle.ffa_physmem.proofs.Work.{adds-more, adds-none, adds-then}
use Rattle.ffa_stage2.specs.Work.{change_work}
use Rattle.ffa_stage2.proofs.Work.{carry-few, carry-same}
use Rattle.ffa_stage2.proofs.OneBlock.{block-here, block-fits, typed, KeepsBeside-of_middle, KeepsBeside-then, IsPlace-kept}
use Rattle.ffa_stage2.proofs.Moments.{apart-same, apart-filled, cut-then, orderly-apart, orderly-more, way-filling, way-replaced}
use Rattle.ffa_stage2.specs.Places.{IsSameRun, word_at}
use Rattle.ffa_stage2.proofs.PageRuns.{block-right, with_run-same, split-changes, split-kept, split-maps, three-filled}
use Rattle.ffa_stage2.proofs.blocks.split.Goals as goal

pub returns-then-leaf-word-clause-mapped : goal.returns-then-leaf-word-clause-mapped
returns-then-leaf-word-clause-mapped g c rights maps =
    let ram = g.M.PhysMem.ram c.args.memory.now in
    let x = c.args.place.now in
    split-kept ram x rights c.args.from c.args.to c.args.right c.args.word _ c.requires.place maps
    (block-here ram x rights c.requires.place maps (typed ram x _ c.requires.word c.requires.block)) c.requires.word c.leaf.ensures c.if-leaf-word.true

pub keep-requires-clause-word : goal.keep-requires-clause-word
keep-requires-clause-word g c =
    let ram = g.M.PhysMem.ram c.args.memory.now in
    let (rights, maps) = c.requires.mapped in
    omega (arith, c.requires.word, block-fits ram c.args.place.now rights c.requires.place maps (typed ram c.args.place.now _ c.requires.word c.requires.block))

pub keep-requires-2-clause-word : goal.keep-requires-2-clause-word
keep-requires-2-clause-word g c =
    let ram = g.M.PhysMem.ram c.args.memory.now in
    let (rights, maps) = c.requires.mapped in
    omega (arith, c.requires.word, block-fits ram c.args.place.now rights c.requires.place maps (typed ram c.args.place.now _ c.requires.word c.requires.block))

pub replace-requires : goal.replace-requires
replace-requires g c =
    let old = g.M.PhysMem.ram c.args.memory.now in
    let full = g.M.PhysMem.ram c.fill.new.memory in
    record { place = IsPlace-kept old full c.args.place.now c.requires.place (three-filled old _ _ full c.args.place.now _ _ _ _ _ _ _ _ _ c.requires.place c.keep.ensures.filled c.keep-2.ensures.filled c.fill.ensures.filled); word = inl refl }

pub returns-clause-mapped : goal.returns-clause-mapped
returns-clause-mapped g c rights maps =
    let old = g.M.PhysMem.ram c.args.memory.now in
    let full = g.M.PhysMem.ram c.fill.new.memory in
    let new = g.M.PhysMem.ram c.replace.new.memory in
    let x = c.args.place.now in
    let place = c.requires.place in
    let beside = three-filled old _ _ full x _ _ _ _ _ _ _ _ _ place c.keep.ensures.filled c.keep-2.ensures.filled c.fill.ensures.filled in
    split-maps old _ _ full new x rights c.args.from c.args.to c.args.right c.args.word _ place
    (block-here old x rights place maps (typed old x _ c.requires.word c.requires.block)) c.requires.word c.leaf.ensures c.if-leaf-word.false c.requires.from c.requires.to c.requires.part
    c.keep.ensures.filled c.keep-2.ensures.filled c.fill.ensures.filled c.replace.ensures.written

pub returns-clause-beside : goal.returns-clause-beside
returns-clause-beside g c =
    let old = g.M.PhysMem.ram c.args.memory.now in
    let full = g.M.PhysMem.ram c.fill.new.memory in
    let new = g.M.PhysMem.ram c.replace.new.memory in
    let x = c.args.place.now in
    let place = c.requires.place in
    let beside = three-filled old _ _ full x _ _ _ _ _ _ _ _ _ place c.keep.ensures.filled c.keep-2.ensures.filled c.fill.ensures.filled in
    let kept = IsPlace-kept old full x place beside in
    KeepsBeside-then old full new x beside (KeepsBeside-of_middle full new x _ kept c.replace.ensures.written)

pub returns-then-leaf-word-clause-steps : goal.returns-then-leaf-word-clause-steps
returns-then-leaf-word-clause-steps g c rights maps = Only-none

-- the level 3 page is written while the block stands, and is named when it is whole
pub returns-clause-steps : goal.returns-clause-steps
returns-clause-steps g c rights maps =
    let old = g.M.PhysMem.ram c.args.memory.now in
    let low = g.M.PhysMem.ram c.keep.new.memory in
    let high = g.M.PhysMem.ram c.keep-2.new.memory in
    let new = g.M.PhysMem.ram c.replace.new.memory in
    let x = c.args.place.now in
    let from = c.args.from in
    let to = c.args.to in
    let right = c.args.right in
    let place = c.requires.place in
    let block = block-here old x rights place maps (typed old x _ c.requires.word c.requires.block) in
    let first = apart-same old x place in
    let second = apart-filled old old low x _ _ _ place first c.keep.ensures.filled in
    let third = apart-filled old low high x _ _ _ place second c.keep-2.ensures.filled in
    Only-then (Only-then (Only-then
    (Only-map c.keep.ensures.steps (λ h s some. way-filling old old s.after x rights from to right _ _ _ place block first some))
    c.keep-2.ensures.steps (λ h s some. way-filling old low s.after x rights from to right _ _ _ place block second some))
    c.fill.ensures.steps (λ h s some. way-filling old high s.after x rights from to right _ _ _ place block third some))
    c.replace.ensures.steps
    (λ h s its. way-replaced old new s.after x rights from to right (returns-clause-mapped g c rights maps) (returns-clause-beside g c)
    (elim its [ inl cut ↦ inl (cut-then old _ s.after x (apart-filled old high _ x _ _ _ place third c.fill.ensures.filled).beside cut) | inr (_, is, _) ↦ inr is ]))

pub returns-then-leaf-word-clause-orders : goal.returns-then-leaf-word-clause-orders
returns-then-leaf-word-clause-orders g c rights maps = Only-none

pub returns-clause-orders : goal.returns-clause-orders
returns-clause-orders g c rights maps =
    let old = g.M.PhysMem.ram c.args.memory.now in
    let low = g.M.PhysMem.ram c.keep.new.memory in
    let high = g.M.PhysMem.ram c.keep-2.new.memory in
    let x = c.args.place.now in
    let place = c.requires.place in
    let first = apart-same old x place in
    let second = apart-filled old old low x _ _ _ place first c.keep.ensures.filled in
    let third = apart-filled old low high x _ _ _ place second c.keep-2.ensures.filled in
    let its : word_at old x % 4 ≡ 1 = ap (λ (w : ℕ). w % 4) (sym c.requires.word) ∙ c.requires.block in
    let Same = IsSameRun rights c.args.from c.args.to c.args.right in
    let changes : Same → ⊥ =
    split-changes old x rights c.args.from c.args.to c.args.right c.args.word _ place (block-here old x rights place maps its) c.requires.word c.leaf.ensures c.if-leaf-word.false
    c.requires.from c.requires.to
    in
    Only-then (Only-then (Only-then
    (Only-map c.keep.ensures.orders (λ h s one. orderly-apart x h s old old c.args.from 0 _ Same place first its (omega (arith, c.requires.from, c.requires.to)) changes one))
    c.keep-2.ensures.orders (λ h s one. orderly-apart x h s old low 512 c.args.to _ Same place second its (omega arith) changes one))
    c.fill.ensures.orders (λ h s one. orderly-apart x h s old high c.args.to c.args.from _ Same place third its c.requires.to changes one))
    c.replace.ensures.orders (λ h s is. orderly-more x h s ⊥ Same changes is)

-- the block has the right already
pub returns-then-leaf-word-clause-few : goal.returns-then-leaf-word-clause-few
returns-then-leaf-word-clause-few g c rights maps carry is =
    let ram = g.M.PhysMem.ram c.args.memory.now in
    let x = c.args.place.now in
    let block = block-here ram x rights c.requires.place maps (typed ram x _ c.requires.word c.requires.block) in
    let same = (block-right ram x rights c.args.right c.args.word _ c.requires.place block c.requires.word c.leaf.ensures).0 c.if-leaf-word.true in
    record {
      joins = 0;
      splits = 0;
      left = carry;
      few = adds-none (change_work 0 0 0);
      balance = omega arith;
      carried = carry-same rights _ carry (with_run-same rights c.args.from c.args.to c.args.right block.right block.one same) is;
      split = inl refl;
    }

pub returns-clause-few : goal.returns-clause-few
returns-clause-few g c rights maps carry is =
    let old = g.M.PhysMem.ram c.args.memory.now in
    let x = c.args.place.now in
    let place = c.requires.place in
    let block = block-here old x rights place maps (typed old x _ c.requires.word c.requires.block) in
    record {
      joins = 0;
      splits = 1;
      left = 0;
      few = adds-more (adds-then (adds-then (adds-then c.keep.ensures.few c.keep-2.ensures.few) c.fill.ensures.few) c.replace.ensures.few)
          (record { words = omega (arith, c.requires.from, c.requires.to); settles = omega arith; loans = omega arith; readings = omega arith });
      balance = omega (arith, carry-few rights carry is);
      carried = inl refl;
      split = inr (refl, (block.right, block.one, λ same. c.if-leaf-word.false ((block-right old x rights c.args.right c.args.word _ place block c.requires.word c.leaf.ensures).1 same)));
    }
