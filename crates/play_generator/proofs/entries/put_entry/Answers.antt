-- SPDX-License-Identifier: MIT OR Apache-2.0
use Rattle.std.proofs.Common.{subst, OnOk}
use Rattle.play_trace.specs.Script.{GrowsBy}
use Rattle.play_generator.proofs.Growing.{grown_operation, grown_attempt, grown_show, grown_audit}
use Rattle.play_generator.proofs.entries.put_entry.Goals as goal

pub returns-in-Operation : goal.returns-in-Operation
returns-in-Operation g c =
    let grown = subst (λ op. OnOk c.put_operation.result (GrowsBy op c.args.text.now.items c.put_operation.new.text.items)) c.fit_store.ensures c.put_operation.ensures.written in
    rw c.in-Operation.is (grown_operation _ _ _ _ grown)

pub returns-in-Attempt : goal.returns-in-Attempt
returns-in-Attempt g c = rw c.in-Attempt.is (grown_attempt _ _ _ _ c.put_attempt.ensures)

pub returns-in-Show : goal.returns-in-Show
returns-in-Show g c = rw c.in-Show.is (grown_show c.extend_from_slice.result _ _ c.extend_from_slice.ensures.items)

pub returns-in-Audit : goal.returns-in-Audit
returns-in-Audit g c = rw c.in-Audit.is (grown_audit c.extend_from_slice-in-Audit.result _ _ c.extend_from_slice-in-Audit.ensures.items)
