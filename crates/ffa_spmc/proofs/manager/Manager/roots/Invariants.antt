-- SPDX-License-Identifier: MIT OR Apache-2.0
use Rattle.std.proofs.Common.{◌≡◌, true}
use Rattle.std.specs.Prelude.{All}
use Rattle.arrayvec.specs.ArrayVec.{array_vec_len}
use Rattle.ffa_model.specs.Agreement.{root}
use Rattle.ffa_model.specs.Lists.{listed}
use Rattle.ffa_model.specs.Walk.{is_page_address}
use Rattle.ffa_spmc.proofs.manager.Manager.roots.Given as goal

-- the roots so far
abbrev pub invariant-loop-place : goal.invariant-loop-place
invariant-loop-place g l = record {
  len : array_vec_len l.roots ≡ l.place;
  value : l.roots.items ≡ listed l.place (root l.self.state);
  pages : All (λ address. is_page_address l.self.ram address ≡ true) l.roots.items;
}
