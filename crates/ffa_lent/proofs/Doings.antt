-- SPDX-License-Identifier: MIT OR Apache-2.0
-- One thing more that is done.
use Rattle.std.proofs.Common.{◌≡◌, Some, ap, refl, subst, sym}
use Rattle.ffa_model.specs.Ram.{Ram}
use Rattle.ffa_physmem.specs.Moments.{One, OneMore, Step}
use Rattle.ffa_physmem.specs.FrameRam.{ram_of as frame_ram}
use Rattle.ffa_lent.specs.History.{Event, before, steps_of}
use Rattle.ffa_lent.specs.LentRam.{memory_of, past_of, ram_of}
use Rattle.ffa_lent.specs.Memory.{with_event}
use Rattle.ffa_lent.specs.Turns.{one-more}
use Rattle.ffa_lent.specs.declared.memory.Memory.{Memory}
use Rattle.ffa_lent.specs.declared.ram.LentRam.{LentRam}

pub noted :
    (m : LentRam) (new : Ram) (memory : Memory) {e : Event} {P : Step → Type 0} → memory ≡ with_event m.memory e
    → before new e ≡ ram_of m → P (record { before = ram_of m; after = new; settled = e.settled; reading = e.reading; words = e.words; loans = e.loans })
    → OneMore (Some (steps_of (ram_of m) m.memory.history.events)) (Some (steps_of new memory.history.events)) P
noted m new memory {e} {P} is back its =
    subst (λ (x : Memory). OneMore (Some (steps_of (ram_of m) m.memory.history.events)) (Some (steps_of new x.history.events)) P) (sym is)
    (one-more (ram_of m) new e m.memory.history.events P back its)

-- where RAM stays
pub noted-beside :
    (m : LentRam) (memory : Memory) {e : Event} {P : Step → Type 0} → memory ≡ with_event m.memory e
    → before (ram_of m) e ≡ ram_of m → P (record { before = ram_of m; after = ram_of m; settled = e.settled; reading = e.reading; words = e.words; loans = e.loans })
    → One (past_of m) (past_of (record m { memory = memory })) P
noted-beside m memory {e} {P} is back its =
    subst (λ (x : Memory). One (past_of m) (past_of (record m { memory = x })) P) (sym is)
    (record { each = one-more (ram_of m) (ram_of m) e m.memory.history.events P back its; site = refl })

pub noted-ram : (m : LentRam) (memory : Memory) {e : Event} → memory ≡ with_event m.memory e → ram_of (record m { memory = memory }) ≡ ram_of m
noted-ram m memory is = ap (λ (x : Memory). ram_of (record m { memory = x })) is

pub noted-memory : (m : LentRam) (memory : Memory) {e : Event} → memory ≡ with_event m.memory e → frame_ram memory.frames ≡ memory_of m
noted-memory m memory is = ap (λ (x : Memory). frame_ram x.frames) is
