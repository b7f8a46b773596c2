-- SPDX-License-Identifier: MIT OR Apache-2.0
-- What RAM of an accepted manifest gives a list of lent pages.
use Rattle.std.proofs.Common.{◌≡◌, ℕ, ◌+◌, ◌*◌, ◌^◌, ◌<◌, ◌≤◌, Bool, true, false, Option, refl, arith}
use Rattle.ffa_model.specs.declared.manifest.Manifest.{Manifest}
use Rattle.ffa_model.proofs.Accepted.{accepted}
use Rattle.ffa_spmc.specs.declared.storage.Storage.{Storage}
use Rattle.ffa_c.specs.Readiness.{ready_pages}

-- it ends below 2 ^ 32
pub ram-fits : (m : Manifest) (n : ℕ) → n ≡ 512 * m.ram_blocks → m.ram_base.0 + 4096 * n ≤ 2 ^ 32
ram-fits m n is = let a = accepted m.ram_base.0 m.tables.0 m.ram_blocks m.endpoints.items m.accepted in omega (arith, is, a.within)

-- a list that is ready for none isn't ready for it
pub ready-for-none : (m : Manifest) (ready n : ℕ) → ready ≡ 0 → n ≡ 512 * m.ram_blocks → ready < n
ready-for-none m ready n none is = let a = accepted m.ram_base.0 m.tables.0 m.ram_blocks m.endpoints.items m.accepted in omega (arith, none, is, a.some_blocks)

pub ready-without-seat : {S P O : Type 0} (copies : Bool) (storage : Option (Storage S P O)) → ready_pages copies false storage ≡ 0
ready-without-seat true storage = refl
ready-without-seat false storage = refl
