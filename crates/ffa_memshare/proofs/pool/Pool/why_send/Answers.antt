-- SPDX-License-Identifier: MIT OR Apache-2.0
use Rattle.ffa_model.specs.DescriptorPlaces.{in_version}
use Rattle.ffa_model.specs.SendDescriptor.{send_record}
use Rattle.ffa_memshare.proofs.Offered.{sent-aligned}
use Rattle.ffa_memshare.proofs.pool.Pool.why_send.Goals as goal

pub check_offered-checked-requires-clause-aligned : goal.check_offered-checked-requires-clause-aligned
check_offered-checked-requires-clause-aligned g c =
    sent-aligned c.args.call.now.ffa c.args.kind (in_version c.args.call.now.version c.in-Ok.found.bytes) (send_record c.read_send.new.offer) c.in_default.ensures.found
