-- SPDX-License-Identifier: MIT OR Apache-2.0
-- What walks in mixtures, and translation units that hold their answers until a page is settled (DDI 0487, C5.5), give while an
-- operation is done: what they gave before it, or give behind it, or a translation fault. Pages are written only while neither
-- leads there; and behind it the tables are at rest.
use Rattle.std.specs.Prelude.{length}
use Rattle.ffa_model.specs.Agreement.{blocks_of}
use Rattle.ffa_model.specs.Ram.{Ram}
use Rattle.ffa_model.specs.State.{State}
use Rattle.ffa_physmem.specs.Moments.{Only, Past}
use Rattle.ffa_stage2.specs.Held.{IsUnshaken, WritesUnheld}
use Rattle.ffa_stage2.specs.Rest.{RestIn}
use Rattle.ffa_spmc.specs.Amid.{StaysAmid}

-- the tables of all endpoints are at rest at the end of a history, where there is one
unfoldable pub TablesRest : State → Ram → Past → Type 0
TablesRest s ram past = RestIn ram (length s.parties) s.tables (blocks_of s) past

-- An operation led from one RAM and history to others. A page that is none of the tables' changes only while no translation unit may
-- hold a way there. No step disturbs an endpoint in a block to which its accesses stay. After the operation the tables are at rest.
-- Whether others write to memory meanwhile or nobody does, what the units of all endpoints may hold lies between the two RAMs (`amid`).
-- The answers of walks in mixtures are among it.
pub record DoStayMixed (s : State) (old new : Ram) (past later : Past) : Type 0 where
  pub unheld : Only past later (λ h step. WritesUnheld old new (length s.parties) s.tables (blocks_of s) h step)
  pub unshaken : Only past later (λ h step. IsUnshaken old new (length s.parties) s.tables (blocks_of s) h step)
  pub rest : TablesRest s new later
  pub amid : StaysAmid s old new past later

unfoldable pub StayMixed : State → Ram → Ram → Past → Past → Type 0
StayMixed s old new past later = DoStayMixed s old new past later
