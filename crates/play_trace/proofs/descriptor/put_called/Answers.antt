-- SPDX-License-Identifier: MIT OR Apache-2.0
use Rattle.std.proofs.lemmas.Result.{on_ok_weaker}
use Rattle.ffa_model.specs.declared.operation.Op.TheVariants.{Call}
use Rattle.play_trace.proofs.Storing.{with_call}
use Rattle.play_trace.proofs.descriptor.put_called.Goals as goal

pub returns-else-is_err-clause-written : goal.returns-else-is_err-clause-written
returns-else-is_err-clause-written g c =
    on_ok_weaker c.put_operation-put.result
    (with_call c.args.tx.0 c.args.bytes.now c.args.text.now.items c.put_stores.new.text.items c.put_operation-put.new.text.items (Call c.args.call.now) c.in_ok-put_stores.ensures.written)
    c.put_operation-put.ensures.written
