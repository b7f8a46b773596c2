-- SPDX-License-Identifier: MIT OR Apache-2.0
use Rattle.std.proofs.Common.{◌≡◌, ◌∷◌, ◌+◌, ◌*◌, ◌/◌, ◌%◌, ◌-◌, ◌<◌, ℕ, arith, inl, inr, refl, subst, sym}
use Rattle.std.proofs.lemmas.Bool.{cases_lt}
use Rattle.arrayvec.specs.ArrayVec.{array_vec_len}
use Rattle.ffa_stage2.specs.Tables.{IsBuilt, IsSameIn, rights_of_block, with_pages}
use Rattle.ffa_stage2.specs.Places.{IsSameRun}
use Rattle.ffa_stage2.specs.Work.{IsCarryAt, IsChange, words_written}
use Rattle.ffa_stage2.proofs.Rights.{built-same, with_pages-none}
use Rattle.ffa_stage2.proofs.Work.{ArePassed, change-begins, change-ends, change-few, change-then}
use Rattle.ffa_stage2.proofs.Changes.{place-of, maps-of, others-beside, blocks-built}
use Rattle.ffa_physmem.proofs.Moments.{Only-both, Only-map, Only-none, Only-then}
use Rattle.ffa_stage2.proofs.Moments.{between-block, ordered-of, orderly-more, place-of-kept, same-run, walks-between}
use Rattle.ffa_stage2.proofs.Mixtures.{mixtures-between}
use Rattle.ffa_stage2.proofs.Rest.{mixed-along, one-changes, pages-moment}
use Rattle.ffa_stage2.proofs.RunChanges.{KeepsOthers-same, KeepsOthers-then, runs-built, runs-walk}
use Rattle.ffa_stage2.proofs.tables.set_pages.Goals as goal

pub loop-next-init : goal.loop-next-init
loop-next-init g c =
    let l = c.args.layout.now in
    record {
      from = omega arith;
      upto = omega arith;
      built = λ access h. built-same (g.M.PhysMem.ram c.args.memory.now) (array_vec_len l.regions) l.tables.0 l.blocks access _ h (λ e p _ _. with_pages-none access c.args.index c.args.first.0 c.args.right e p);
      others = KeepsOthers-same _ _ _ _;
      steps = λ access h. Only-none;
      orders = λ access h. Only-none;
      others_stay = Only-none;
      at = inr (inl refl);
      runs = λ access split carry h splits carried. change-begins (g.M.PhysMem.past c.args.memory.now) access c.args.index c.args.right split c.args.first.0 (c.args.first.0 + c.args.count) carry carried;
    }

pub of-place-requires-clause-fits : goal.of-place-requires-clause-fits
of-place-requires-clause-fits g c =
    let (access, built) = c.requires.built in
    (c.loop-next.invariant.built access built).fits

pub change-requires-clause-place : goal.change-requires-clause-place
change-requires-clause-place g c =
    let (access, built) = c.requires.built in
    let now = c.loop-next.invariant.built access built in
    let index = c.args.index in
    place-of (g.M.PhysMem.ram c.loop-next.memory) _ _ _ index (c.loop-next.next / 512) _ now.fits (λ s hs. now.whole index s c.requires.index hs)
    c.requires.index (omega (arith, c.requires.pages, c.loop-next-test.true)) c.of-place.ensures

pub change-requires-clause-mapped : goal.change-requires-clause-mapped
change-requires-clause-mapped g c =
    let (access, built) = c.requires.built in
    let now = c.loop-next.invariant.built access built in
    let k = c.loop-next.next / 512 in
    let rights = with_pages access c.args.index c.args.first.0 c.loop-next.next c.args.right c.args.index in (
      rights_of_block rights k,
      maps-of (g.M.PhysMem.ram c.loop-next.memory) _ _ c.args.index k _ rights c.of-place.ensures
          (now.each c.args.index k c.requires.index (omega (arith, c.requires.pages, c.loop-next-test.true))),
    )

pub loop-next-preserved : goal.loop-next-preserved
loop-next-preserved g c =
    let i = c.loop-next.invariant in
    let k = c.loop-next.next / 512 in
    let hk : k < c.args.layout.now.blocks = omega (arith, c.requires.pages, c.loop-next-test.true) in
    record {
      from = omega (arith, i.from, c.min-to.ensures, c.loop-next-test.true);
      upto = omega (arith, c.min-to.ensures);
      built = λ access h.
          runs-built (g.M.PhysMem.ram c.loop-next.memory) (g.M.PhysMem.ram c.change.new.memory) _ _ _ c.args.index c.args.first.0 c.loop-next.next c.min-to.result k
          (c.loop-next.next % 512) (c.min-to.result - 512 * k) access c.args.right _ (i.built access h) c.requires.index hk c.of-place.ensures c.change.ensures.beside
          i.from (omega (arith, c.min-to.ensures, c.loop-next-test.true)) (omega arith) (omega (arith, c.min-to.ensures, c.loop-next-test.true)) (omega (arith, c.min-to.ensures))
          c.change.ensures.mapped;
      others = KeepsOthers-then _ _ _ _ _ _ i.others (others-beside (g.M.PhysMem.ram c.loop-next.memory) (g.M.PhysMem.ram c.change.new.memory) _ _ c.args.index k _ hk c.of-place.ensures c.change.ensures.beside);
      steps = λ access h.
          let built = i.built access h in
          let rights = with_pages access c.args.index c.args.first.0 c.loop-next.next c.args.right c.args.index in
          Only-then (i.steps access h)
          (c.change.ensures.steps (rights_of_block rights k)
          (maps-of (g.M.PhysMem.ram c.loop-next.memory) _ _ c.args.index k _ rights c.of-place.ensures (built.each c.args.index k c.requires.index hk)))
          (λ hist s way. between-block (g.M.PhysMem.ram c.loop-next.memory) s.after _ _ _ c.args.index k c.args.first.0 c.loop-next.next c.min-to.result (c.args.first.0 + c.args.count)
          (c.loop-next.next % 512) (c.min-to.result - 512 * k) access c.args.right _ built c.requires.index hk c.of-place.ensures way
          i.from (omega (arith, c.min-to.ensures, c.loop-next-test.true)) (omega (arith, c.min-to.ensures)) (omega arith) (omega (arith, c.min-to.ensures, c.loop-next-test.true)) (omega (arith, c.min-to.ensures)));
      orders = λ access h.
          let built = i.built access h in
          let end = c.args.first.0 + c.args.count in
          let rights = with_pages access c.args.index c.args.first.0 c.loop-next.next c.args.right c.args.index in
          let Same = IsSameIn access (with_pages access c.args.index c.args.first.0 end c.args.right) c.args.index in
          Only-then (i.orders access h)
          (c.change.ensures.orders (rights_of_block rights k)
          (maps-of (g.M.PhysMem.ram c.loop-next.memory) _ _ c.args.index k _ rights c.of-place.ensures (built.each c.args.index k c.requires.index hk)))
          (λ hist s its. ordered-of (g.M.PhysMem.ram c.args.memory.now) c.args.layout.now.tables.0 c.args.layout.now.blocks c.args.index k c.of-place.result Same hk
          (place-of-kept (g.M.PhysMem.ram c.loop-next.memory) (g.M.PhysMem.ram c.args.memory.now) c.args.layout.now.tables.0 c.args.layout.now.blocks c.args.index k c.of-place.result (sym i.others.base) c.of-place.ensures)
          hist s
          (orderly-more c.of-place.result hist s (IsSameRun (rights_of_block rights k) (c.loop-next.next % 512) (c.min-to.result - 512 * k) c.args.right) (Same k)
          (same-run access c.args.index k c.args.first.0 c.loop-next.next c.min-to.result end (c.loop-next.next % 512) (c.min-to.result - 512 * k) c.args.right
          i.from (omega (arith, c.min-to.ensures, c.loop-next-test.true)) (omega (arith, c.min-to.ensures)) (omega arith) (omega (arith, c.min-to.ensures, c.loop-next-test.true)))
          its));
      others_stay =
          let (access, h) = c.requires.built in
          let built = i.built access h in
          let rights = with_pages access c.args.index c.args.first.0 c.loop-next.next c.args.right c.args.index in
          Only-then i.others_stay
          (c.change.ensures.steps (rights_of_block rights k)
          (maps-of (g.M.PhysMem.ram c.loop-next.memory) _ _ c.args.index k _ rights c.of-place.ensures (built.each c.args.index k c.requires.index hk)))
          (λ hist s way. KeepsOthers-then _ _ s.after _ _ _ i.others (others-beside (g.M.PhysMem.ram c.loop-next.memory) s.after _ _ c.args.index k _ hk c.of-place.ensures way.beside));
      at = elim (cases_lt (512 * k + 512) (c.args.first.0 + c.args.count)) [ inl less ↦ inl (omega (arith, c.min-to.ensures, less)) | inr more ↦ inr (inr (omega (arith, c.min-to.ensures, more))) ];
      runs = λ access split carry h splits carried.
          let built = i.built access h in
          let rights = with_pages access c.args.index c.args.first.0 c.loop-next.next c.args.right c.args.index in
          let its = i.runs access split carry h splits carried in
          change-then access c.args.index c.args.right split c.args.first.0 c.loop-next.next c.min-to.result (c.args.first.0 + c.args.count)
          i.from (omega (arith, c.min-to.ensures, c.loop-next-test.true)) (omega (arith, c.min-to.ensures)) (omega (arith, c.min-to.ensures))
          (elim i.at [ inl aligned ↦ inl aligned | inr (inl begins) ↦ inr begins | inr (inr ends) ↦ absurd (omega (arith, ends, c.loop-next-test.true)) ])
          (elim (cases_lt (512 * k + 512) (c.args.first.0 + c.args.count)) [ inl less ↦ inl (omega (arith, c.min-to.ensures, less)) | inr more ↦ inr (omega (arith, c.min-to.ensures, more)) ]) splits its
          (c.change.ensures.few (rights_of_block rights k)
          (maps-of (g.M.PhysMem.ram c.loop-next.memory) _ _ c.args.index k _ rights c.of-place.ensures (built.each c.args.index k c.requires.index hk)) its.left its.carried.0);
    }

pub returns-clause-built : goal.returns-clause-built
returns-clause-built g c access h =
    let i = c.loop-next.invariant in
    let l = c.args.layout.now in
    let all : c.loop-next.next ≡ c.args.first.0 + c.args.count = omega (arith, i.upto, c.loop-next-test.false) in
    subst (λ n. IsBuilt (g.M.PhysMem.ram c.loop-next.memory) (array_vec_len l.regions) l.tables.0 l.blocks (with_pages access c.args.index c.args.first.0 n c.args.right)) all (i.built access h)

pub returns-clause-walks : goal.returns-clause-walks
returns-clause-walks g c =
    let (access, built) = c.requires.built in
    let i = c.loop-next.invariant in
    let l = c.args.layout.now in
    let all : c.loop-next.next ≡ c.args.first.0 + c.args.count = omega (arith, i.upto, c.loop-next-test.false) in
    runs-walk (g.M.PhysMem.ram c.args.memory.now) (g.M.PhysMem.ram c.loop-next.memory) (array_vec_len l.regions) l.tables.0 l.blocks access c.args.index c.args.first.0 _ c.args.right built
    (subst (λ n. IsBuilt (g.M.PhysMem.ram c.loop-next.memory) (array_vec_len l.regions) l.tables.0 l.blocks (with_pages access c.args.index c.args.first.0 n c.args.right)) all (i.built access built))
    c.requires.pages i.others.base i.others.size

pub returns-clause-blocks : goal.returns-clause-blocks
returns-clause-blocks g c access h =
    let i = c.loop-next.invariant in
    let l = c.args.layout.now in
    let all : c.loop-next.next ≡ c.args.first.0 + c.args.count = omega (arith, i.upto, c.loop-next-test.false) in
    blocks-built (g.M.PhysMem.ram c.loop-next.memory) _ _ _ _
    (subst (λ n. IsBuilt (g.M.PhysMem.ram c.loop-next.memory) (array_vec_len l.regions) l.tables.0 l.blocks (with_pages access c.args.index c.args.first.0 n c.args.right)) all (i.built access h))

pub returns-clause-steps : goal.returns-clause-steps
returns-clause-steps g c access h = c.loop-next.invariant.steps access h

pub returns-clause-others_stay : goal.returns-clause-others_stay
returns-clause-others_stay g c = c.loop-next.invariant.others_stay

pub returns-clause-each_walk : goal.returns-clause-each_walk
returns-clause-each_walk g c =
    let (access, h) = c.requires.built in
    let i = c.loop-next.invariant in
    let old = g.M.PhysMem.ram c.args.memory.now in
    let new = g.M.PhysMem.ram c.loop-next.memory in
    Only-map (Only-both (i.steps access h) i.others_stay)
    (λ hist s (between, others). walks-between old new s.after _ _ _ access _ h (returns-clause-built g c access h) between others.base others.size i.others.base i.others.size)

pub returns-clause-orders : goal.returns-clause-orders
returns-clause-orders g c access h = c.loop-next.invariant.orders access h

pub returns-clause-mixtures : goal.returns-clause-mixtures
returns-clause-mixtures g c rest =
    let (access, h) = c.requires.built in
    let i = c.loop-next.invariant in
    let l = c.args.layout.now in
    let old = g.M.PhysMem.ram c.args.memory.now in
    let new = g.M.PhysMem.ram c.loop-next.memory in
    let is = returns-clause-built g c access h in
    Only-map
    (mixed-along old new _ _ _ _ _ rest (g.met.M.PhysMem.in_turn c.loop-next.memory) (Only-map (Only-both (Only-both (i.steps access h) i.others_stay) (i.orders access h))
    (λ hist s ((between, others), ordered). pages-moment old new _ _ _ access _ h is i.others.base c.args.index c.requires.index _ hist s between others.base ordered)))
    (λ hist s its. mixtures-between old new s.after _ _ _ (s ∷ hist) (one-changes old new _ _ _ c.args.index _ _ c.args.right (returns-clause-walks g c)) its)

pub returns-clause-runs : goal.returns-clause-runs
returns-clause-runs g c access split carry h splits carried =
    let i = c.loop-next.invariant in
    let end = c.args.first.0 + c.args.count in
    let all : c.loop-next.next ≡ end = omega (arith, i.upto, c.loop-next-test.false) in
    let past = g.M.PhysMem.past c.args.memory.now in
    let later = g.M.PhysMem.past c.loop-next.memory in
    change-ends past later c.args.right split c.args.first.0 end carry (with_pages access c.args.index c.args.first.0 end c.args.right c.args.index)
    (subst (λ (n : ℕ). IsChange past later (words_written c.args.right c.args.first.0 n) (n / 512 - c.args.first.0 / 512) carry
    (IsCarryAt (with_pages access c.args.index c.args.first.0 n c.args.right c.args.index) n) (ArePassed split c.args.first.0 n end)) all
    (i.runs access split carry h splits carried))

pub returns-clause-few : goal.returns-clause-few
returns-clause-few g c access split h splits =
    let end = c.args.first.0 + c.args.count in
    change-few (g.M.PhysMem.past c.args.memory.now) (g.M.PhysMem.past c.loop-next.memory) c.args.right split c.args.first.0 end
    (with_pages access c.args.index c.args.first.0 end c.args.right c.args.index) (omega arith)
    (returns-clause-runs g c access split 0 h splits (inl refl, λ _. refl))
