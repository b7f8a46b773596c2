-- SPDX-License-Identifier: MIT OR Apache-2.0
use Rattle.std.proofs.Common.{◌≡◌, ◌∙◌, ap}
use Rattle.ffa_model.specs.declared.manifest.Ffa.TheVariants.{V1_1}
use Rattle.ffa_manifest.specs.Document.{Parts, parts_of}
use Rattle.play_commands.specs.Performed.{built_in_parts}
use Rattle.play_commands.proofs.playing.machine_of.Goals as goal

pub returns-in-BuiltIn-clause-described : goal.returns-in-BuiltIn-clause-described
returns-in-BuiltIn-clause-described g c =
    let built = c.built_in.ensures in
    let first : parts_of c.built_in.result ≡ built_in_parts V1_1 = λ i. record { ram_base = built.base i; ram_blocks = built.blocks i; tables = built.tables i; endpoints = built.endpoints i; ffa = built.ffa i } in
    let is : parts_of c.with_ffa.result ≡ built_in_parts c.args.ffa = ap parts_of c.with_ffa.ensures ∙ ap (λ (parts : Parts). record parts { ffa = c.args.ffa }) first in
    rw c.in-BuiltIn.is is
