-- SPDX-License-Identifier: MIT OR Apache-2.0
use Rattle.std.proofs.lemmas.Result.{on_ok_weaker}
use Rattle.play_report.proofs.manifest.accept.Goals as goal

pub returns-clause-done : goal.returns-clause-done
returns-clause-done g c = on_ok_weaker c.write.result (λ written. (_, c.in_ok-read_manifest.ensures.described, written)) c.write.ensures.written
