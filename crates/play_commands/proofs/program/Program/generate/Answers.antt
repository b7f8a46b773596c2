-- SPDX-License-Identifier: MIT OR Apache-2.0
use Rattle.ffa_manifest.specs.Document.{parts_of}
use Rattle.play_commands.proofs.Plays.{always_ok}
use Rattle.play_commands.proofs.program.Program.generate.Goals as goal

pub returns-then-options-clause-done : goal.returns-then-options-clause-done
returns-then-options-clause-done g c =
    always_ok c.print_outcomes.result (parts_of c.in_ok-manifest.manifest, c.in_ok-manifest.ensures.described, λ printed. absurd cc)
