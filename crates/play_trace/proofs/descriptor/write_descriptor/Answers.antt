-- SPDX-License-Identifier: MIT OR Apache-2.0
use Rattle.ffa_model.specs.SendDescriptor.{send_record}
use Rattle.play_trace.proofs.Sizes.{fits_page}
use Rattle.play_trace.proofs.descriptor.write_descriptor.Goals as goal

pub returns-in-Send-clause-inside : goal.returns-in-Send-clause-inside
returns-in-Send-clause-inside c =
    fits_page c.args.version c.in-Send.kind (send_record c.in-Send.desc) c.write_send.new.page c.write_send.result c.write_send.ensures.size c.write_send.ensures.read

pub returns-in-Send-clause-said : goal.returns-in-Send-clause-said
returns-in-Send-clause-said c = rw c.in-Send.is c.write_send.ensures.read

pub returns-in-Retrieve-clause-said : goal.returns-in-Retrieve-clause-said
returns-in-Retrieve-clause-said c = rw c.in-Retrieve.is c.write_retrieve.ensures.read
