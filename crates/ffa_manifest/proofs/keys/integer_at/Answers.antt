-- SPDX-License-Identifier: MIT OR Apache-2.0
use Rattle.std.proofs.Common.{rules, sym, ap, Ok, w64}
use mir.Val.{SFits}
use Rattle.std.proofs.lemmas.Int.{to_z-of_z}
use Rattle.ffa_manifest.specs.Keys.{integer_at}
use Rattle.ffa_manifest.proofs.keys.integer_at.Goals as goal

pub returns-in-Some : goal.returns-in-Some
unfolding integer_at
returns-in-Some c =
    let fits : SFits w64 c.in-Some.number = search rules in
    rw (c.in_ok-value_at.ensures, ← c.in-Some.ensures) (ap Ok (sym (simp to_z-of_z at c.natural.ensures)))
