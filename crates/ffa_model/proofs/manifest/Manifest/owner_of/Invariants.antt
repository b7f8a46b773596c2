-- SPDX-License-Identifier: MIT OR Apache-2.0
use Rattle.std.proofs.Common.{◌≡◌, drop}
use Rattle.ffa_model.proofs.Owners.{owner_from}
use Rattle.ffa_model.proofs.manifest.Manifest.owner_of.Given as goal

-- no endpoint so far has the page
abbrev pub invariant-loop-place : goal.invariant-loop-place
invariant-loop-place l =
    owner_from l.self.ram_base.0 l.page.0 l.place (drop l.place l.endpoint-items)
    ≡ owner_from l.self.ram_base.0 l.page.0 0 l.endpoint-items
