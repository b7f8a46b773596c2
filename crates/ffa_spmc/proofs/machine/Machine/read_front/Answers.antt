-- SPDX-License-Identifier: MIT OR Apache-2.0
use Rattle.std.proofs.Common.{◌≡◌, ◌+◌, ◌≤◌, true, length, sym, subst}
use Rattle.ffa_spmc.specs.Among.{HaveInFront, IsRead}
use Rattle.ffa_spmc.specs.Snapshot.{Snapshot, memory_in, snapshot_of}
use Rattle.ffa_physmem.specs.Moments.{HasNoCopies}
use Rattle.std.proofs.lemmas.Bool.{true≢false}
use Rattle.ffa_spmc.specs.Unowned.{IsNoTable}
use Rattle.ffa_spmc.proofs.Observing.{holds-still, is-read}
use Rattle.ffa_spmc.proofs.machine.Machine.read_front.Goals as goal

pub begin_reading-requires-clause-within : goal.begin_reading-requires-clause-within
begin_reading-requires-clause-within g c =
    subst (λ (seen : Snapshot). c.args.front.pages.first.0 + c.args.front.pages.count ≤ length seen.ram.pages) (sym c.self.view_is) c.requires.within

pub begin_reading-requires-clause-aside : goal.begin_reading-requires-clause-aside
begin_reading-requires-clause-aside g c =
    λ p its. subst (λ (seen : Snapshot). IsNoTable seen.state p) (sym c.self.view_is) (c.requires.aside p its)

pub begin_reading-requires-clause-free : goal.begin_reading-requires-clause-free
begin_reading-requires-clause-free g c = subst (λ (seen : Snapshot). HasNoCopies seen.past) (sym c.self.view_is) c.requires.free

pub returns-clause-memory : goal.returns-clause-memory
returns-clause-memory g c = λ alone.
    let new = snapshot_of c.begin_reading.new.self (g.T.Translations.entries c.self.inside.cache) c.self.inside.news in
    subst (λ (seen : Snapshot). memory_in new ≡ memory_in seen) c.self.view_is (c.begin_reading.ensures.memory alone)

pub invariant_of-self : goal.invariant_of-self
invariant_of-self g c =
    holds-still c.args.front.pages true c.self.inside.manager c.begin_reading.new.self (g.T.Translations.entries c.self.inside.cache) c.self.inside.news
    c.holds.ensures c.holds-2.ensures c.begin_reading.ensures.state c.begin_reading.ensures.ram c.begin_reading.ensures.moments c.self.invariant

pub returns-clause-read : goal.returns-clause-read
returns-clause-read g c =
    let held = g.T.Translations.entries c.self.inside.cache in
    subst (λ (seen : Snapshot). IsRead c.args.front.pages true seen (snapshot_of c.begin_reading.new.self held c.self.inside.news)) c.self.view_is
    (is-read c.args.front.pages true c.self.inside.manager c.begin_reading.new.self held c.self.inside.news
    c.holds.ensures c.holds-2.ensures c.begin_reading.ensures.state c.begin_reading.ensures.ram c.begin_reading.ensures.moments c.self.invariant c.begin_reading.ensures.step
    c.begin_reading.ensures.places c.begin_reading.ensures.only (λ ended. absurd (true≢false ended)))

pub returns-clause-same : goal.returns-clause-same
returns-clause-same g c = λ alone.
    subst (λ (seen : Snapshot). HaveInFront c.args.front.pages c.args.front.bytes seen.state c.begin_reading.new.self.state) c.self.view_is
    (c.begin_reading.ensures.same alone)
