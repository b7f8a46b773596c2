-- SPDX-License-Identifier: MIT OR Apache-2.0
use Rattle.std.proofs.Common.{◌≡◌, ◌∙◌, ℕ, List, Some, sym, ap}
use Rattle.ffa_model.specs.DescriptorPlaces.{in_version}
use Rattle.ffa_model.specs.HypervisorRetrieve.{handle_alone}
use Rattle.ffa_memshare.specs.Scenes.{descriptor_in}
use Rattle.ffa_memshare.specs.Stored.{view_of}
use Rattle.ffa_memshare.proofs.Asks.{asked-slot}
use Rattle.ffa_memshare.proofs.pool.Pool.check_read_back.Goals as goal

pub returns-clause-slot : goal.returns-clause-slot
returns-clause-slot g c =
    let slots = c.args.self.now.slots in
    let it = c.at-open.result.now in
    let slot = c.in-Some-find.slot in
    let h = c.in-Some.handle in
    let asked : handle_alone (descriptor_in (g.M.PhysMem.ram c.args.ram.now) c.args.buffers.now c.args.caller.0 c.args.call.now) ≡ Some h =
    sym (ap (λ (b : List ℕ). handle_alone (in_version c.args.call.now.version b)) c.in_ok-found.ensures.bytes) ∙ sym c.read_handle_alone.ensures ∙ c.in-Some.is in
    (h, view_of it, asked, asked-slot slots slot h it c.in-Some-find.ensures.found c.at-open.ensures.value)
