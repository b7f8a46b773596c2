-- SPDX-License-Identifier: MIT OR Apache-2.0
use Rattle.std.proofs.Common.{◌≡◌, ◌≢◌, ◌∙◌, ◌⊎◌, ◌+◌, ◌*◌, ◌-◌, ◌<◌, ◌≤◌, ◌++◌, ℕ, List, [], length, take, drop, refl, sym, ap, arith, inl, inr, below_more, length-set, get_or-set_other}
use Rattle.std.proofs.lemmas.Bool.{false≢true}
use Rattle.std.proofs.lemmas.List.{drop_all, length-take}
use Rattle.ffa_model.specs.Lists.{is_in_run}
use Rattle.ffa_model.specs.Ram.{Ram, page_of, with_page}
use Rattle.ffa_model.proofs.Runs.{to-run}
use Rattle.ffa_physmem.proofs.Moments.{Only-none, Only-then, beside-same, beside-then, loan-writing, page-beside, writing-then}
use Rattle.ffa_physmem.specs.Work.{loans_of}
use Rattle.ffa_physmem.proofs.Work.{adds-more, adds-none, adds-then, spends-adds}
use Rattle.ffa_rxtx.specs.Parts.{run_in, with_run}
use Rattle.ffa_rxtx.proofs.Runs.{nothing-runs}
use Rattle.ffa_messages.proofs.Copies.{next-piece, one-more}
use Rattle.ffa_messages.proofs.indirect.copy_run.Goals.{then-rest-lt-PAGE_SIZE, else-rest-lt-PAGE_SIZE}
use Rattle.ffa_messages.proofs.indirect.copy_run.Goals as goal

pub loop-i-init : goal.loop-i-init
loop-i-init g c =
    let m : c.args.to.now.pages - 0 ≡ c.args.to.now.pages = omega arith in
    let first : c.args.to.now.rx.0 + 0 ≡ c.args.to.now.rx.0 = omega arith in
    record {
      stays = beside-same _ _;
      steps = Only-none;
      few = adds-none (loans_of 0);
      size = refl;
      same = λ k lt. refl;
      whole = λ k lt. absurd (omega (arith, lt));
      rest = rw (m, first) refl;
    }

pub loop-i-preserved : goal.loop-i-preserved
loop-i-preserved g c =
    let old : Ram = g.M.PhysMem.ram c.args.ram.now in
    let now : Ram = g.M.PhysMem.ram c.loop-i.ram in
    let first : ℕ = c.args.from.now.tx.0 in
    let to : ℕ = c.args.to.now.rx.0 in
    let n : ℕ = c.args.from.now.pages in
    let m : ℕ = c.args.to.now.pages in
    let i : ℕ = c.loop-i.i in
    let size : ℕ = c.args.size in
    let rest : ℕ = size - 4096 * i in
    let count : ℕ = c.if-rest-lt-PAGE_SIZE.count in
    let test : 4096 * i < size = (let below = c.loop-i-test.true in omega arith) in
    let in_tx : i < n = (let fits = c.requires.fits in omega (arith, test, fits)) in
    let in_rx : i < m = (let room = c.requires.room in omega (arith, test, room)) in
    let copied : g.M.PhysMem.ram c.copy.new.self ≡ with_page now (to + i) (take count (page_of now (first + i)) ++ drop count (page_of now (to + i))) = c.copy.ensures.ram in
    let here : page_of now (first + i) ≡ page_of old (first + i) = c.loop-i.invariant.same i in_tx in
    let one : length (page_of old (first + i)) ≡ 4096 = ap (λ (page : List ℕ). length page) (sym here) ∙ c.page.ensures.whole in
    let whole : (k : ℕ) → k < i + 1 → length (page_of old (first + k)) ≡ 4096 = below_more (λ k. length (page_of old (first + k)) ≡ 4096) i c.loop-i.invariant.whole one in
    let which : ((rest < 4096) × (count ≡ rest)) ⊎ ((4096 ≤ rest) × (count ≡ 4096)) =
    elim c.if-rest-lt-PAGE_SIZE.branch [ then-rest-lt-PAGE_SIZE w ↦ inl (w.if-rest-lt-PAGE_SIZE.true, w.count-is) | else-rest-lt-PAGE_SIZE w ↦ inr (w.if-rest-lt-PAGE_SIZE.false, w.count-is) ] in
    let few : count ≤ 4096 = elim which [ inl a ↦ omega (arith, a.0, a.1) | inr b ↦ omega (arith, b.1) ] in
    let cut : length (take count (page_of old (first + i))) ≡ count = (let least = length-take count (page_of old (first + i)) in omega (arith, least, one, few)) in
    let its = is_in_run to m in
    let there = to-run to m (to + i) (omega arith) (omega (arith, in_rx)) in
    record {
      stays = beside-then old now (g.M.PhysMem.ram c.copy.new.self) its c.loop-i.invariant.stays (page-beside now (g.M.PhysMem.ram c.copy.new.self) (to + i) _ its there copied);
      steps = Only-then c.loop-i.invariant.steps c.copy.ensures.steps (λ _ s loan. writing-then old now s its c.loop-i.invariant.stays (loan-writing now (to + i) s its there loan));
      few = adds-more (adds-then c.loop-i.invariant.few (spends-adds c.copy.ensures.spent)) (record { words = omega arith; settles = omega arith; loans = omega arith; readings = omega arith });
      size = ap (λ (r : Ram). length r.pages) copied ∙ length-set now.pages (to + i) _ ∙ c.loop-i.invariant.size;
      same = λ k lt.
          let apart : first + k ≢ to + i = λ same.
          false≢true (sym (c.requires.apart (first + k) (to-run first n (first + k) (omega arith) (omega (arith, lt))))
          ∙ ap (is_in_run to m) same ∙ to-run to m (to + i) (omega arith) (omega (arith, in_rx))) in
          ap (λ (r : Ram). page_of r (first + k)) copied ∙ get_or-set_other now.pages (to + i) (first + k) _ [] apart ∙ c.loop-i.invariant.same k lt;
      whole = whole;
      rest =
          one-more m to i count (take size (run_in old first n)) (take count (page_of old (first + i))) now (g.M.PhysMem.ram c.copy.new.self) _ in_rx c.loop-i.invariant.rest
          (next-piece (page_of old) first n i size rest count in_tx whole (omega (arith, test)) which) cut
          (copied ∙ ap (λ (page : List ℕ). with_page now (to + i) (take count page ++ drop count (page_of now (to + i)))) here);
    }

pub returns-clause-ram : goal.returns-clause-ram
returns-clause-ram g c =
    let old : Ram = g.M.PhysMem.ram c.args.ram.now in
    let now : Ram = g.M.PhysMem.ram c.loop-i.ram in
    let m : ℕ = c.args.to.now.pages in
    let i : ℕ = c.loop-i.i in
    let msg : List ℕ = take c.args.size (run_in old c.args.from.now.tx.0 c.args.from.now.pages) in
    let done : c.args.size ≤ 4096 * i = (let test = c.loop-i-test.false in omega arith) in
    let short = length-take c.args.size (run_in old c.args.from.now.tx.0 c.args.from.now.pages) in
    let none : drop (4096 * i) msg ≡ [] = drop_all (4096 * i) msg (omega (arith, done, short)) in
    sym (nothing-runs (m - i) now (c.args.to.now.rx.0 + i)) ∙ ap (with_run (m - i) now (c.args.to.now.rx.0 + i)) (sym none) ∙ c.loop-i.invariant.rest

pub returns-clause-few : goal.returns-clause-few
returns-clause-few g c = adds-more c.loop-i.invariant.few (record { words = omega arith; settles = omega arith; loans = omega arith; readings = omega arith })
