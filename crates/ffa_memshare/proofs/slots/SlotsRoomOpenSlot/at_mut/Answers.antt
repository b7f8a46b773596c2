-- SPDX-License-Identifier: MIT OR Apache-2.0
use Rattle.std.proofs.Common.{◌≡◌, ℕ, ◌≤◌, refl}
use Rattle.std.specs.Prelude.{vec_capacity}
use Rattle.std.specs.Vec.{with_item}
use Rattle.std.proofs.Math.Bridge.{le_prop}
use Rattle.std.proofs.lemmas.List.{get_or_read}
use Rattle.ffa_memshare.specs.declared.open_slot.OpenSlot.{OpenSlot}
use Rattle.ffa_memshare.specs.declared.pool.TheConstants.{MOST_SLOTS}
use Rattle.ffa_memshare.specs.declared.slots.Slots.{Slots}
use Rattle.ffa_memshare.proofs.slots.SlotsRoomOpenSlot.at_mut.Goals as goal

-- with another slot at a place they are the same slots, whatever proves that there is memory for all
with_slot-there : {A : Type 0} (m : Slots A) (i : ℕ) (slot : OpenSlot) (most : MOST_SLOTS ≤ vec_capacity m.list)
    → record { list = with_item m.list i slot; most = most } ≡ record m { list = with_item m.list i slot }
with_slot-there m i slot most = λ j. record { list = with_item m.list i slot; most = le_prop most m.most j }

pub returns : goal.returns
returns g c =
    let m = c.args.self.now in (
      (refl, λ w. with_slot-there m c.args.place w _),
      record {
        value = λ other. get_or_read m.list.items _ _ c.requires c.index_mut.ensures.value other;
        writes_back = tt;
      },
    )
