-- SPDX-License-Identifier: MIT OR Apache-2.0
use Rattle.std.proofs.Common.{◌∙◌, sym, ap}
use Rattle.arrayvec.specs.ArrayVec.{array_vec_len}
use Rattle.ffa_model.specs.DescriptorPlaces.{in_version}
use Rattle.ffa_model.specs.SendDescriptor.{send_of, send_record}
use Rattle.ffa_model.proofs.Places.{known-named}
use Rattle.ffa_memshare.proofs.Offered.{sent-aligned, sent-other}
use Rattle.ffa_memshare.proofs.pool.Pool.check_send.Goals as goal

pub check_offered-requires-clause-known : goal.check_offered-requires-clause-known
check_offered-requires-clause-known g c = known-named (array_vec_len c.args.layout.now.regions) c.args.caller.0 c.requires.caller.known

pub check_offered-requires-clause-aligned : goal.check_offered-requires-clause-aligned
check_offered-requires-clause-aligned g c =
    sent-aligned c.args.call.now.ffa c.args.kind (in_version c.args.call.now.version c.in_ok-found.found.bytes) (send_record c.read_send.new.offer) c.in-Ok.ensures.found

pub returns-clause-offered : goal.returns-clause-offered
returns-clause-offered g c =
    c.check_offered.ensures.offered _
    (sym (ap (λ b. send_of c.args.call.now.ffa c.args.kind (in_version c.args.call.now.version b)) c.in_ok-found.ensures.bytes) ∙ sym c.in-Ok.ensures.computed)
    (sent-other c.args.call.now.ffa c.args.kind (in_version c.args.call.now.version c.in_ok-found.found.bytes) (send_record c.read_send.new.offer) c.in-Ok.ensures.found)
