-- SPDX-License-Identifier: MIT OR Apache-2.0
use Rattle.ffa_c.proofs.Given.{refused-in-room}
use Rattle.ffa_c.proofs.booting.CManifestManifestForm.manifest.Goals as goal

pub returns-clause-whole : goal.returns-clause-whole
returns-clause-whole c = λ _. refused-in-room c.args.self.now c.manifest_of_numbers.result c.manifest_of_numbers.ensures.refused
