-- SPDX-License-Identifier: MIT OR Apache-2.0
-- FOR PROOFS ALONE
-- The parts that a machine lends to be read.
use Rattle.std.specs.Prelude.{◌≡◌}
use Rattle.ffa_model.specs.Ram.{Ram}
use Rattle.ffa_model.specs.State.{State}
use Rattle.ffa_spmc.specs.declared.parts.Parts.{Parts as Lent}
use Rattle.ffa_spmc.specs.Meaning.{IsManager, Parts, state_of}

-- by what a RAM of this type means
abbrev pub lent_parts : {M S P O : Type 0} → (M → Ram) → Lent M S P O → Parts
lent_parts meaning lent =
    record {
      ram = meaning lent.ram.now;
      manifest = lent.manifest.now;
      kept = record {
        layout = lent.layout.now;
        pages = lent.pages.now;
        pool = lent.pool.now;
        buffers = lent.buffers.now;
        chain = lent.chain.now;
        bitmaps = lent.bitmaps.now;
        versions = lent.versions.now;
      };
    }

-- they are those of a machine in this state
pub record AreParts (x : Parts) (s : State) : Type 0 where
  pub managed : IsManager x
  pub state : state_of x ≡ s
