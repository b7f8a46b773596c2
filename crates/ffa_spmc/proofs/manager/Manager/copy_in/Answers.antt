-- SPDX-License-Identifier: MIT OR Apache-2.0
use Rattle.std.proofs.Common.{◌∙◌, ◌≡◌, subst, sym}
use Rattle.ffa_model.specs.Ram.{Ram}
use Rattle.ffa_spmc.specs.KeptParts.{kept_parts}
use Rattle.ffa_spmc.specs.Meaning.{IsManager, Parts, state_of}
use Rattle.ffa_spmc.specs.Mixtures.{TablesRest}
use Rattle.ffa_spmc.proofs.Moments.{rest-of}
use Rattle.ffa_spmc.proofs.manager.Manager.copy_in.Goals as goal

pub returns-clause-rest : goal.returns-clause-rest
returns-clause-rest g c =
    let ram = g.N.PhysMem.ram c.settle_tables.new.memory in
    let past = g.N.PhysMem.past c.settle_tables.new.memory in
    let within : Ram → Parts = λ r. record { ram = r; manifest = c.self.inside.kept.manifest; kept = kept_parts c.self.inside.kept } in
    let machine : IsManager (within ram) =
    subst (λ (r : Ram). IsManager (within r)) (sym (c.settle_tables.ensures.ram ∙ c.copy_pages.ensures.same)) c.self.invariant in
    let same = c.copy_in.ensures in
    let copied : within ram ≡ record { ram = ram; manifest = c.copy_in.result.manifest; kept = kept_parts c.copy_in.result } =
    λ i. record {
      ram = ram;
      manifest = sym same.manifest i;
      kept = record {
        layout = sym same.layout i;
        pages = sym same.pages i;
        pool = sym same.pool i;
        buffers = sym same.buffers i;
        chain = sym same.chain i;
        bitmaps = sym same.bitmaps i;
        versions = sym same.versions i;
      };
    } in
    subst (λ (x : Parts). TablesRest (state_of x) x.ram past) copied (rest-of (within ram) machine past c.settle_tables.ensures.at_rest)
