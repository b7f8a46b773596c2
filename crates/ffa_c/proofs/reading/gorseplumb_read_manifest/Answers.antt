-- SPDX-License-Identifier: MIT OR Apache-2.0
use Rattle.std.proofs.Common.{subst, sym}
use Rattle.ffa_model.specs.declared.manifest.Ffa.TheVariants.{V1_1}
use Rattle.ffa_manifest.specs.Document.{parts_of}
use Rattle.ffa_c.specs.declared.manifest.CManifest.{CManifest}
use Rattle.ffa_c.specs.Given.{Gives}
use Rattle.ffa_c.specs.Reading.{IsClear}
use Rattle.ffa_c.proofs.Numbers.{numbers-clear, numbers-give}
use Rattle.ffa_c.proofs.Versions.{text-versions}
use Rattle.ffa_c.proofs.reading.gorseplumb_read_manifest.Goals as goal

pub returns-in-Ok-clause-read : goal.returns-in-Ok-clause-read
returns-in-Ok-clause-read c ok =
    let parts = parts_of c.in-Ok.read in
    let versioned = text-versions V1_1 c.args.text.now parts c.in-Ok.ensures.described.1 in
    record {
      parts = parts;
      described = c.in-Ok.ensures.described;
      given = subst (λ (m : CManifest). Gives m parts) (sym c.numbers_of.ensures) (numbers-give parts c.in-Ok.read.accepted versioned);
    }

pub returns-in-Ok-clause-clear : goal.returns-in-Ok-clause-clear
returns-in-Ok-clause-clear c ok = subst (λ (m : CManifest). IsClear m) (sym c.numbers_of.ensures) (numbers-clear (parts_of c.in-Ok.read))
