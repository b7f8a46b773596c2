-- SPDX-License-Identifier: MIT OR Apache-2.0
use Rattle.ffa_model.specs.SendDescriptor.{send_record}
use Rattle.play_trace.proofs.Needs.{needs}
use Rattle.play_trace.proofs.send.write_send.Goals as goal

pub returns-in-Some-clause-none : goal.returns-in-Some-clause-none
returns-in-Some-clause-none c ffa b bytes is = let none = needs ffa c.args.kind b (send_record c.args.desc.now) bytes is in absurd cc
