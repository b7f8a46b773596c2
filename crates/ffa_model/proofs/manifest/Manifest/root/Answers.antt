-- SPDX-License-Identifier: MIT OR Apache-2.0
use Rattle.ffa_model.specs.declared.manifest.Manifest.{Manifest}
use Rattle.ffa_model.proofs.Accepted.{Accepted, accepted}

facts : (m : Manifest) → Accepted m.ram_base.0 m.tables.0 m.ram_blocks m.endpoints.items
facts m = accepted m.ram_base.0 m.tables.0 m.ram_blocks m.endpoints.items m.accepted
