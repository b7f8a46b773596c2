-- SPDX-License-Identifier: MIT OR Apache-2.0
use Rattle.std.proofs.Common.{◌<◌, ℕ, sym, subst}
use Rattle.ffa_model.specs.declared.manifest.Manifest.{Manifest}
use Rattle.ffa_spmc.specs.Booted.{IsBootedHeld}
use Rattle.ffa_spmc.specs.KeptParts.{kept_parts}
use Rattle.ffa_spmc.specs.Meaning.{IsManager, Parts, state_of}
use Rattle.ffa_spmc.specs.Mixtures.{TablesRest}
use Rattle.ffa_spmc.proofs.Agreements.{agrees}
use Rattle.ffa_spmc.proofs.Boots.{cleared-aside, machine-first, state-first}
use Rattle.ffa_spmc.proofs.Held.{parties_are}
use Rattle.ffa_spmc.proofs.Moments.{rest-of}
use Rattle.ffa_spmc.proofs.manager.Manager.first.Goals as goal

pub invariant_of-result : goal.invariant_of-result
invariant_of-result g c =
    let are = c.first-kept.ensures.first in
    let within : Manifest → Parts = λ own. record { ram = g.M.PhysMem.ram c.build.new.memory; manifest = own; kept = kept_parts c.first-kept.result } in
    subst (λ own. IsManager (within own)) (sym are.manifest)
    (machine-first (g.M.PhysMem.ram c.args.ram) (within c.args.manifest.now) c.requires.ram are.base are.ram_blocks are.tables are.regions are.normal c.build.ensures.built c.build.ensures.rest c.first-kept.ensures.pages c.first-kept.ensures.slots c.first-kept.ensures.sent c.first-kept.ensures.buffers c.first-kept.ensures.chain c.first-kept.ensures.versions are.bitmaps are.bound are.pending are.notices are.uuids c.built_tables.ensures)

pub returns-clause-booted : goal.returns-clause-booted
returns-clause-booted g c =
    let are = c.first-kept.ensures.first in
    let within : Manifest → Parts = λ own. record { ram = g.M.PhysMem.ram c.build.new.memory; manifest = own; kept = kept_parts c.first-kept.result } in
    let x = within c.args.manifest.now in
    let first =
    machine-first (g.M.PhysMem.ram c.args.ram) x c.requires.ram are.base are.ram_blocks are.tables are.regions are.normal c.build.ensures.built c.build.ensures.rest c.first-kept.ensures.pages c.first-kept.ensures.slots c.first-kept.ensures.sent c.first-kept.ensures.buffers c.first-kept.ensures.chain c.first-kept.ensures.versions are.bitmaps are.bound are.pending are.notices are.uuids c.built_tables.ensures in
    subst (λ own. IsBootedHeld c.args.manifest.now (g.M.PhysMem.ram c.args.ram) (state_of (within own)) x.ram) (sym are.manifest)
    (record {
      state = state-first (g.M.PhysMem.ram c.args.ram) x c.requires.ram are.base are.ram_blocks are.tables are.regions are.normal c.build.ensures.built c.build.ensures.rest c.first-kept.ensures.pages c.first-kept.ensures.slots c.first-kept.ensures.sent c.first-kept.ensures.buffers c.first-kept.ensures.chain c.first-kept.ensures.versions are.bitmaps are.bound are.pending are.notices are.uuids c.built_tables.ensures;
      agrees = agrees x first;
      words = λ e k known block. first.tables.built.each e k (subst (λ (n : ℕ). e < n) (parties_are x) known) block;
      cleared = cleared-aside (g.M.PhysMem.ram c.args.ram) x c.requires.ram are.base are.ram_blocks are.tables are.regions are.normal c.build.ensures.built c.build.ensures.rest c.first-kept.ensures.pages c.first-kept.ensures.slots c.first-kept.ensures.sent c.first-kept.ensures.buffers c.first-kept.ensures.chain c.first-kept.ensures.versions are.bitmaps are.bound are.pending are.notices are.uuids c.built_tables.ensures;
      sound = first.sound;
    })

pub returns-clause-rest : goal.returns-clause-rest
returns-clause-rest g c =
    let are = c.first-kept.ensures.first in
    let within : Manifest → Parts = λ own. record { ram = g.M.PhysMem.ram c.build.new.memory; manifest = own; kept = kept_parts c.first-kept.result } in
    let x = within c.args.manifest.now in
    let first =
    machine-first (g.M.PhysMem.ram c.args.ram) x c.requires.ram are.base are.ram_blocks are.tables are.regions are.normal c.build.ensures.built c.build.ensures.rest c.first-kept.ensures.pages c.first-kept.ensures.slots c.first-kept.ensures.sent c.first-kept.ensures.buffers c.first-kept.ensures.chain c.first-kept.ensures.versions are.bitmaps are.bound are.pending are.notices are.uuids c.built_tables.ensures in
    let past = g.M.PhysMem.past c.build.new.memory in
    subst (λ own. TablesRest (state_of (within own)) x.ram past) (sym are.manifest) (rest-of x first past c.build.ensures.at_rest)
