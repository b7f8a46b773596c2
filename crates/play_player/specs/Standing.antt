-- SPDX-License-Identifier: MIT OR Apache-2.0
-- What a contract sees of a player: how the lines so far have left what it plays on.
use Rattle.std.specs.Prelude.{refl}
use Rattle.std.specs.Coded.{Coded, code_by}
use Rattle.ffa_playable.specs.Bench.{Bench, coded_bench}

pub record Standing : Type 0 where
  pub bench : Bench

abbrev pub coded_standing : Coded Standing
coded_standing = code_by Bench coded_bench (λ player. player.bench) (λ b. record { bench = b }) (λ _. refl)
