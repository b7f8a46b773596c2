-- SPDX-License-Identifier: MIT OR Apache-2.0
use Rattle.std.proofs.Common.{length, rules}
use Rattle.ffa_model.specs.Buffers.{buffers_in, map_guards}
use Rattle.ffa_model.proofs.Guards.{answers-code, answers-pass}
use Rattle.ffa_model.proofs.Places.{known-place}
use Rattle.ffa_rxtx.specs.Parts.{ownership_in}
use Rattle.ffa_rxtx.proofs.buffers.Buffers.map.Goals as goal

pub put-requires : goal.put-requires
put-requires g c = known-place (length c.args.self.now) c.args.caller.0 c.requires.some c.requires.known

pub returns-in_err-mapped-clause-refusal : goal.returns-in_err-mapped-clause-refusal
returns-in_err-mapped-clause-refusal g c =
    answers-code (map_guards c.args.caller.0 (buffers_in c.args.self.now c.args.caller.0) (ownership_in c.args.table.now c.args.ram_base.0) c.args.tx c.args.rx c.args.pages)
    c.in_err-mapped.field-0.0 c.from_residual.result c.in_err-mapped.ensures.refusal c.from_residual.ensures.1

pub returns-clause-refusal : goal.returns-clause-refusal
returns-clause-refusal g c =
    answers-pass (map_guards c.args.caller.0 (buffers_in c.args.self.now c.args.caller.0) (ownership_in c.args.table.now c.args.ram_base.0) c.args.tx c.args.rx c.args.pages) c.in_ok-mapped.ensures.refusal

pub returns-clause-mapped : goal.returns-clause-mapped
returns-clause-mapped g c = search rules
