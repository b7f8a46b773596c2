-- SPDX-License-Identifier: MIT OR Apache-2.0
use Rattle.std.proofs.Common.{◌∙◌, refl, ap, sym, subst, arith, inl, inr}
use Rattle.ffa_model.specs.Ram.{Ram}
use Rattle.ffa_physmem.proofs.Moments.{Only-behind, Only-map, Only-one, Only-then}
use Rattle.ffa_physmem.proofs.Work.{adds-then, settle-spends, spends-adds, store-spends}
use Rattle.ffa_stage2.specs.Orders.{IsWritten}
use Rattle.ffa_stage2.specs.Places.{IsCut, word_at}
use Rattle.ffa_stage2.proofs.OneBlock.{written-middle, written-again, KeepsBeside-of_middle, IsPlace-kept}
use Rattle.ffa_stage2.proofs.Moments.{cut-written, orderly-write}
use Rattle.ffa_stage2.proofs.blocks.replace.Goals as goal

pub returns-clause-written : goal.returns-clause-written
returns-clause-written g c =
    let old = g.M.PhysMem.ram c.args.memory.now in
    let cut = g.M.PhysMem.ram c.write_word.new.self in
    let seen = g.M.PhysMem.ram c.settle.new.self in
    let new = g.M.PhysMem.ram c.write_word-2.new.self in
    let x = c.args.place.now in
    let one = written-middle old cut x 0 c.requires.place (omega arith) c.write_word.ensures.ram in
    let two : IsWritten old seen x.middle.0 x.entry 0 = subst (λ r. IsWritten old r x.middle.0 x.entry 0) (sym c.settle.ensures.ram) one in
    let place = IsPlace-kept old seen x c.requires.place (KeepsBeside-of_middle old seen x 0 c.requires.place two) in
    written-again old seen new x.middle.0 x.entry 0 c.args.word two (written-middle seen new x c.args.word place (omega (arith, c.ranges.word.fits)) c.write_word-2.ensures.ram)

pub returns-clause-steps : goal.returns-clause-steps
returns-clause-steps g c =
    let old = g.M.PhysMem.ram c.args.memory.now in
    let cut = g.M.PhysMem.ram c.write_word.new.self in
    let x = c.args.place.now in
    let one = written-middle old cut x 0 c.requires.place (omega arith) c.write_word.ensures.ram in
    Only-then (Only-then
    (Only-map (Only-one c.write_word.ensures.steps) (λ h s is. inl (cut-written old s.after x c.requires.place (written-middle old s.after x 0 c.requires.place (omega arith) is.after))))
    (Only-one c.settle.ensures.steps)
    (λ h s is. inl (subst (λ r. IsCut old r x) (sym is.after) (cut-written old cut x c.requires.place one))))
    (Only-behind c.settle.ensures.steps c.write_word-2.ensures.steps)
    (λ h s (is, (f, earlier, at, forgot)). inr (
      ap (λ (r : Ram). word_at r x) (is.before ∙ c.settle.ensures.ram) ∙ one.here,
      is.after ∙ sym c.write_word-2.ensures.ram,
      (f, earlier, at, forgot.settled),
    ))

pub returns-clause-orders : goal.returns-clause-orders
returns-clause-orders g c =
    let old = g.M.PhysMem.ram c.args.memory.now in
    let cut = g.M.PhysMem.ram c.write_word.new.self in
    let seen = g.M.PhysMem.ram c.settle.new.self in
    let x = c.args.place.now in
    let one = written-middle old cut x 0 c.requires.place (omega arith) c.write_word.ensures.ram in
    let two : IsWritten old seen x.middle.0 x.entry 0 = subst (λ r. IsWritten old r x.middle.0 x.entry 0) (sym c.settle.ensures.ram) one in
    let place = IsPlace-kept old seen x c.requires.place (KeepsBeside-of_middle old seen x 0 c.requires.place two) in
    Only-then (Only-then
    (Only-map (Only-one c.write_word.ensures.steps) (λ h s is. orderly-write x h s old 0 ⊥ (λ none. none) c.requires.place (omega arith) is.before is.after
    (inl refl)))
    (Only-one c.settle.ensures.steps)
    (λ h s is. inl (is.after ∙ sym is.before)))
    (Only-behind c.settle.ensures.steps c.write_word-2.ensures.steps)
    (λ h s (is, (f, earlier, at, forgot)). orderly-write x h s seen c.args.word ⊥ (λ none. none) place (omega (arith, c.ranges.word.fits)) is.before is.after
    (inr (inl (ap (λ (r : Ram). word_at r x) (is.before ∙ c.settle.ensures.ram) ∙ one.here, (f, earlier, at, forgot.settled), c.requires.word))))

pub returns-clause-few : goal.returns-clause-few
returns-clause-few g c =
    adds-then (adds-then (spends-adds (store-spends c.write_word.ensures.steps)) (spends-adds (settle-spends c.settle.ensures.steps)))
    (spends-adds (store-spends c.write_word-2.ensures.steps))
