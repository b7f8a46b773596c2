-- SPDX-License-Identifier: MIT OR Apache-2.0
use Rattle.uuid.specs.Text.{parsed}
use Rattle.play_trace.specs.Words.{uuid_in}
use Rattle.play_trace.proofs.Unparsed.{not_parsed}
use Rattle.play_trace.proofs.given.uuid_in.Goals as goal

pub returns-in-Err : goal.returns-in-Err
unfolding uuid_in
returns-in-Err c = rw (not_parsed _ (parsed c.args.text.now) _ c.in-Err.is c.try_parse_ascii.ensures.ok)
