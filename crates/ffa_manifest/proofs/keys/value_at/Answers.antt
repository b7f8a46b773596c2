-- SPDX-License-Identifier: MIT OR Apache-2.0
use Rattle.std.proofs.Common.{refl}
use Rattle.toml.proofs.Views.{table_get}
use Rattle.ffa_manifest.specs.Keys.{value_at}
use Rattle.ffa_manifest.proofs.keys.value_at.Goals as goal

pub returns-in-None : goal.returns-in-None
unfolding value_at
returns-in-None c =
    let found = table_get c.get.result c.args.key.now c.args.table.now.entries c.get.ensures.value in
    rw (← rw c.in-None.is at found) refl

pub returns-in-Some : goal.returns-in-Some
unfolding value_at
returns-in-Some c =
    let found = table_get c.get.result c.args.key.now c.args.table.now.entries c.get.ensures.value in
    rw (← rw c.in-Some.is at found) refl
