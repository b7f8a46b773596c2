-- SPDX-License-Identifier: MIT OR Apache-2.0
use Rattle.std.proofs.Common.{◌≡◌, ℕ, ◌+◌, ◌≤◌, true, false, length, Option, sym, subst}
use Rattle.std.specs.Prelude.{IfSome}
use Rattle.ffa_spmc.specs.declared.run.Run.{Run}
use Rattle.ffa_spmc.specs.Among.{AreRead, IsRead, is_in}
use Rattle.ffa_spmc.specs.Snapshot.{Snapshot, memory_in, snapshot_of}
use Rattle.ffa_physmem.specs.Moments.{is_copied}
use Rattle.ffa_physmem.proofs.Moments.{none-copied}
use Rattle.ffa_spmc.specs.Unowned.{IsNoTable}
use Rattle.ffa_spmc.proofs.Observing.{holds-still, is-read}
use Rattle.ffa_spmc.proofs.machine.Machine.end_reading.Goals as goal

pub end_reading-requires-clause-within : goal.end_reading-requires-clause-within
end_reading-requires-clause-within g c =
    subst (λ (seen : Snapshot). c.in-Some.run'.first.0 + c.in-Some.run'.count ≤ length seen.ram.pages) (sym c.self.view_is)
    (subst (λ (o : Option Run). IfSome o (λ run. run.first.0 + run.count ≤ length c.args.self.now.ram.pages)) c.in-Some.is c.requires.within)

pub end_reading-requires-clause-aside : goal.end_reading-requires-clause-aside
end_reading-requires-clause-aside g c =
    subst (λ (seen : Snapshot). (p : ℕ) → is_in c.in-Some.run' p ≡ true → IsNoTable seen.state p) (sym c.self.view_is)
    (subst (λ (o : Option Run). IfSome o (λ run. (p : ℕ) → is_in run p ≡ true → IsNoTable c.args.self.now.state p)) c.in-Some.is c.requires.aside)

pub end_reading-requires-clause-only : goal.end_reading-requires-clause-only
end_reading-requires-clause-only g c =
    subst (λ (seen : Snapshot). (p : ℕ) → is_copied seen.past p ≡ true → is_in c.in-Some.run' p ≡ true) (sym c.self.view_is)
    (subst (λ (o : Option Run). IfSome o (λ run. (p : ℕ) → is_copied c.args.self.now.past p ≡ true → is_in run p ≡ true)) c.in-Some.is c.requires.only)

pub returns-clause-memory : goal.returns-clause-memory
returns-clause-memory g c = λ alone.
    let new = snapshot_of c.end_reading.new.self (g.T.Translations.entries c.self.inside.cache) c.self.inside.news in
    subst (λ (seen : Snapshot). memory_in new ≡ memory_in seen) c.self.view_is (c.end_reading.ensures.memory alone)

pub invariant_of-self : goal.invariant_of-self
invariant_of-self g c =
    holds-still c.in-Some.run' false c.self.inside.manager c.end_reading.new.self (g.T.Translations.entries c.self.inside.cache) c.self.inside.news
    c.holds.ensures c.holds-2.ensures c.end_reading.ensures.state c.end_reading.ensures.ram c.end_reading.ensures.moments c.self.invariant

pub returns-clause-read : goal.returns-clause-read
returns-clause-read g c =
    let new = snapshot_of c.end_reading.new.self (g.T.Translations.entries c.self.inside.cache) c.self.inside.news in
    subst (λ (o : Option Run). AreRead o false c.args.self.now new) (sym c.in-Some.is)
    (subst (λ (seen : Snapshot). IsRead c.in-Some.run' false seen new) c.self.view_is
    (is-read c.in-Some.run' false c.self.inside.manager c.end_reading.new.self (g.T.Translations.entries c.self.inside.cache) c.self.inside.news
    c.holds.ensures c.holds-2.ensures c.end_reading.ensures.state c.end_reading.ensures.ram c.end_reading.ensures.moments c.self.invariant c.end_reading.ensures.step
    c.end_reading.ensures.places (λ p is. absurd (none-copied c.end_reading.new.self.past c.end_reading.ensures.free p is)) (λ _. c.end_reading.ensures.free)))
