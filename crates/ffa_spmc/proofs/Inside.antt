-- SPDX-License-Identifier: MIT OR Apache-2.0
-- The parts of a machine, of the fields that the code has.
use Rattle.ffa_model.specs.Ram.{Ram}
use Rattle.ffa_spmc.specs.declared.manager.Manager.TheInside.{Inside}
use Rattle.ffa_spmc.specs.KeptParts.{kept_parts}
use Rattle.ffa_spmc.specs.Meaning.{Parts}

-- by what a RAM of this type means
abbrev pub parts_of : {M S P O : Type 0} → (M → Ram) → Inside M S P O → Parts
parts_of meaning inside = record { ram = meaning inside.ram; manifest = inside.kept.manifest; kept = kept_parts inside.kept }
