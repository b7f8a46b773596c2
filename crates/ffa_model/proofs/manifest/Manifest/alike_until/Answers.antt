-- SPDX-License-Identifier: MIT OR Apache-2.0
use Rattle.std.proofs.Common.{◌≡◌, rules}
use Rattle.ffa_model.specs.declared.endpoint.Region.{Region}
use Rattle.ffa_model.specs.Regions.{has_page}
use Rattle.ffa_model.proofs.Owners.{All-owned}
use Rattle.ffa_model.proofs.manifest.Manifest.alike_until.Goals as goal

pub returns-clause-alike : goal.returns-clause-alike
returns-clause-alike c = λ p low high.
    let m = c.args.self.now in
    All-owned (λ (r : Region). has_page m.ram_base.0 p r ≡ has_page m.ram_base.0 c.args.first.0 r) 0 m.endpoints.items (search rules)
