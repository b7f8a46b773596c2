-- SPDX-License-Identifier: MIT OR Apache-2.0
use Rattle.std.proofs.Common.{◌∙◌, ap, inr, Option, subst, sym}
use Rattle.ffa_model.specs.declared.operation.Effect.TheVariants.{Outcome, Resumed}
use Rattle.ffa_model.specs.Agreement.{Agrees}
use Rattle.ffa_model.specs.SoundState.{IsSoundState}
use Rattle.ffa_laws.proofs.ProcessorLaws.{resumed-fits}
use Rattle.ffa_spmc.specs.declared.run.Run.{Run}
use Rattle.ffa_spmc.specs.Among.{IsDoneAlone, IsDoneReading}
use Rattle.ffa_spmc.specs.Clustered.{Clustered, IsEffected}
use Rattle.ffa_spmc.specs.Unowned.{KeepsUnowned}
use Rattle.ffa_physmem.proofs.Moments.{memory-seen}
use Rattle.ffa_spmc.specs.Snapshot.{Snapshot}
use Rattle.ffa_spmc.proofs.Amongs.{left-aside, left-only, left-within, reading-done, reading-free, reading-places, reading-unowned}
use Rattle.ffa_spmc.proofs.Clusters.{kept_as, placed-effected}
use Rattle.ffa_spmc.proofs.Observing.{alone-done}
use Rattle.ffa_spmc.proofs.cluster.Cluster.op.Goals as goal

pub resume-requires-clause-normal : goal.resume-requires-clause-normal
resume-requires-clause-normal g c =
    let sound = subst (λ (seen : Clustered). IsSoundState seen.machine.state) (sym c.self.view_is) c.holds.ensures.sound in
    (resumed-fits c.self.inside.machine.state sound c.args.op.now c.in-Some.target.0 (sym c.in-Some.ensures)).0

pub resume-requires-clause-goes : goal.resume-requires-clause-goes
resume-requires-clause-goes g c =
    let sound = subst (λ (seen : Clustered). IsSoundState seen.machine.state) (sym c.self.view_is) c.holds.ensures.sound in
    inr (resumed-fits c.self.inside.machine.state sound c.args.op.now c.in-Some.target.0 (sym c.in-Some.ensures)).1

pub invariant_of-self : goal.invariant_of-self
invariant_of-self g c = (
  placed-effected (kept_as c.self.inside.current c.self.inside.runners.items) g.M.Observed.is_shared c.self.inside.machine c.resume.new.self c.args.op.now (Resumed c.in-Some.target)
      (subst (λ (seen : Clustered). IsSoundState seen.machine.state) (sym c.self.view_is) c.holds.ensures.sound) c.self.invariant.0 (sym c.in-Some.ensures, c.resume.ensures),
  ap (λ (x : Snapshot). x.past.site.copies.beneath) c.resume.ensures ∙ c.self.invariant.1,
)

pub returns-in-Some-clause-memory : goal.returns-in-Some-clause-memory
returns-in-Some-clause-memory g c =
    memory-seen c.resume.new.self.ram c.resume.new.self.past (ap (λ (x : Snapshot). x.past.site.copies.beneath) c.resume.ensures ∙ c.self.invariant.1)

pub returns-in-Some-clause-places : goal.returns-in-Some-clause-places
returns-in-Some-clause-places g c =
    ap (λ (x : Snapshot). x.past.site.places) c.resume.ensures ∙ ap (λ (seen : Clustered). seen.machine.past.site.places) c.self.view_is

pub begin_reading-read-requires : goal.begin_reading-read-requires
begin_reading-read-requires g c = record { free = c.self.invariant.1 }

pub end_reading-requires-clause-only : goal.end_reading-requires-clause-only
end_reading-requires-clause-only g c =
    left-only c.self.inside.machine c.begin_reading-read.new.self c.do_op.new.self c.args.op.now c.do_op.new.outcome c.do_op.ensures.done
    c.self.invariant.1 c.begin_reading-read.result c.begin_reading-read.ensures.read

pub returns-clause-memory : goal.returns-clause-memory
returns-clause-memory g c =
    memory-seen c.end_reading.new.self.ram c.end_reading.new.self.past
    (reading-free c.self.inside.machine c.begin_reading-read.new.self c.do_op.new.self c.args.op.now c.do_op.new.outcome c.do_op.ensures.done c.end_reading.new.self
    c.self.invariant.1 c.begin_reading-read.result c.begin_reading-read.ensures.read c.end_reading.ensures.read)

pub returns-clause-places : goal.returns-clause-places
returns-clause-places g c =
    reading-places c.self.inside.machine c.begin_reading-read.new.self c.do_op.new.self c.args.op.now c.do_op.new.outcome c.do_op.ensures.done c.end_reading.new.self
    c.begin_reading-read.result c.begin_reading-read.ensures.read c.end_reading.ensures.read
    ∙ ap (λ (seen : Clustered). seen.machine.past.site.places) c.self.view_is

pub end_reading-requires-clause-within : goal.end_reading-requires-clause-within
end_reading-requires-clause-within g c =
    left-within c.self.inside.machine c.begin_reading-read.new.self c.do_op.new.self c.args.op.now c.do_op.new.outcome c.do_op.ensures.done
    c.begin_reading-read.result c.begin_reading-read.ensures.read c.begin_reading-read.ensures.within

pub end_reading-requires-clause-aside : goal.end_reading-requires-clause-aside
end_reading-requires-clause-aside g c =
    left-aside c.self.inside.machine c.begin_reading-read.new.self c.do_op.new.self c.args.op.now c.do_op.new.outcome c.do_op.ensures.done
    c.begin_reading-read.result c.begin_reading-read.ensures.read c.begin_reading-read.ensures.aside

pub invariant_of-self-2 : goal.invariant_of-self-2
invariant_of-self-2 g c = (
  placed-effected (kept_as c.self.inside.current c.self.inside.runners.items) g.M.Observed.is_shared c.self.inside.machine c.end_reading.new.self c.args.op.now (Outcome c.do_op.new.outcome)
      (subst (λ (seen : Clustered). IsSoundState seen.machine.state) (sym c.self.view_is) c.holds.ensures.sound) c.self.invariant.0 (
        sym c.in_default.ensures,
        subst (λ (o : Option Run). IsDoneReading o c.self.inside.machine c.args.op.now c.do_op.new.outcome c.end_reading.new.self) c.begin_reading-read.ensures.pages
            (reading-done c.self.inside.machine c.begin_reading-read.new.self c.do_op.new.self c.args.op.now c.do_op.new.outcome c.do_op.ensures.done c.end_reading.new.self
            c.begin_reading-read.result c.begin_reading-read.ensures.read c.end_reading.ensures.read),
      ),
  reading-free c.self.inside.machine c.begin_reading-read.new.self c.do_op.new.self c.args.op.now c.do_op.new.outcome c.do_op.ensures.done c.end_reading.new.self
      c.self.invariant.1 c.begin_reading-read.result c.begin_reading-read.ensures.read c.end_reading.ensures.read,
)

pub returns-clause-done : goal.returns-clause-done
returns-clause-done g c =
    subst (λ (seen : Clustered). IsEffected g.M.Observed.is_shared seen.machine c.args.op.now (Outcome c.do_op.new.outcome) c.end_reading.new.self) c.self.view_is (
      sym c.in_default.ensures,
      subst (λ (o : Option Run). IsDoneReading o c.self.inside.machine c.args.op.now c.do_op.new.outcome c.end_reading.new.self) c.begin_reading-read.ensures.pages
          (reading-done c.self.inside.machine c.begin_reading-read.new.self c.do_op.new.self c.args.op.now c.do_op.new.outcome c.do_op.ensures.done c.end_reading.new.self
          c.begin_reading-read.result c.begin_reading-read.ensures.read c.end_reading.ensures.read),
    )

pub returns-clause-alone : goal.returns-clause-alone
returns-clause-alone g c = λ alone.
    let sound = subst (λ (seen : Clustered). IsSoundState seen.machine.state) (sym c.self.view_is) c.holds.ensures.sound in
    let agrees = subst (λ (seen : Clustered). Agrees seen.machine.ram seen.machine.state) (sym c.self.view_is) c.holds.ensures.agrees in
    subst (λ (seen : Clustered). IsDoneAlone seen.machine.state c.args.op.now c.do_op.new.outcome c.end_reading.new.self.state) c.self.view_is
    (alone-done g.M.Observed.is_shared c.self.inside.machine c.begin_reading-read.new.self c.do_op.new.self c.end_reading.new.self c.args.op.now c.do_op.new.outcome
    c.begin_reading-read.result sound agrees c.self.invariant.1 (sym c.begin_reading-read.ensures.pages) (c.begin_reading-read.ensures.same alone)
    (c.begin_reading-read.ensures.memory alone) (c.end_reading.ensures.memory alone) c.begin_reading-read.ensures.read c.do_op.ensures.done c.end_reading.ensures.read)

pub returns-clause-unowned : goal.returns-clause-unowned
returns-clause-unowned g c =
    subst (λ (seen : Clustered). KeepsUnowned seen.machine.state seen.machine.ram c.end_reading.new.self.ram) c.self.view_is
    (reading-unowned c.self.inside.machine c.begin_reading-read.new.self c.do_op.new.self c.args.op.now c.do_op.new.outcome c.do_op.ensures.done c.end_reading.new.self
    c.begin_reading-read.result c.begin_reading-read.ensures.read c.end_reading.ensures.read c.begin_reading-read.ensures.owned)
