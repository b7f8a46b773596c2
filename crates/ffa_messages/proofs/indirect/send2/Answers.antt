-- SPDX-License-Identifier: MIT OR Apache-2.0
use Rattle.std.proofs.Common.{◌+◌, ◌/◌, ℕ, map, sym}
use Rattle.ffa_model.specs.First.{party_of}
use Rattle.ffa_model.specs.Identifiers.{place}
use Rattle.ffa_model.specs.Messages.{header_in, send2_guards}
use Rattle.ffa_model.proofs.Guards.{answers-code, answers-pass}
use Rattle.ffa_rxtx.specs.Stored.{buffers_of}
use Rattle.ffa_messages.specs.Parts.{sent_in}
use Rattle.ffa_messages.proofs.Pages.{rx_beside, rx_in_ram}
use Rattle.std.proofs.Common.{subst}
use Rattle.ffa_model.specs.Buffers.{buffers_in}
use Rattle.ffa_physmem.proofs.Moments.{Only-map, Only-none}
use Rattle.ffa_physmem.specs.Work.{AddsAtMost, loans_of}
use Rattle.ffa_physmem.proofs.Work.{adds-none}
use Rattle.ffa_rxtx.specs.Parts.{IsRxWriting}
use Rattle.ffa_messages.proofs.indirect.send2.Goals as goal

pub deliver-requires-clause-from : goal.deliver-requires-clause-from
deliver-requires-clause-from g c = c.requires.pages (place c.args.caller.0) (buffers_of c.in_ok-message.message.from) (sym c.in_ok-message.ensures.from)

pub deliver-requires-clause-to : goal.deliver-requires-clause-to
deliver-requires-clause-to g c =
    rx_in_ram _ c.in_ok-message.message.receiver.0 c.args.buffers.now c.requires.pages c.in_ok-message.ensures.buffers

pub returns-in_err-message-clause-refusal : goal.returns-in_err-message-clause-refusal
returns-in_err-message-clause-refusal g c =
    answers-code (send2_guards (map party_of c.args.manifest.now.endpoints.items) c.args.buffers.now c.args.version c.args.caller.0 (header_in (sent_in (g.M.PhysMem.ram c.args.ram.now) c.args.buffers.now c.args.caller.0))) c.in_err-message.field-0.0 c.from_residual.result c.in_err-message.ensures.refusal c.from_residual.ensures.1

pub returns-clause-refusal : goal.returns-clause-refusal
returns-clause-refusal g c =
    answers-pass (send2_guards (map party_of c.args.manifest.now.endpoints.items) c.args.buffers.now c.args.version c.args.caller.0 (header_in (sent_in (g.M.PhysMem.ram c.args.ram.now) c.args.buffers.now c.args.caller.0))) c.in_ok-message.ensures.refusal

pub deliver-requires-clause-apart : goal.deliver-requires-clause-apart
deliver-requires-clause-apart g c =
    rx_beside _ (g.M.PhysMem.ram c.args.ram.now) c.args.buffers.now c.args.version c.args.caller.0 c.in_ok-message.message.receiver.0 (buffers_of c.in_ok-message.message.from) c.requires.apart
    (answers-pass (send2_guards (map party_of c.args.manifest.now.endpoints.items) c.args.buffers.now c.args.version c.args.caller.0 (header_in (sent_in (g.M.PhysMem.ram c.args.ram.now) c.args.buffers.now c.args.caller.0))) c.in_ok-message.ensures.refusal)
    c.in_ok-message.ensures.from c.in_ok-message.ensures.receiver c.in_ok-message.ensures.buffers

pub returns-in_err-message-clause-steps : goal.returns-in_err-message-clause-steps
returns-in_err-message-clause-steps g c = Only-none

pub returns-clause-steps : goal.returns-clause-steps
returns-clause-steps g c =
    Only-map c.deliver.ensures.steps
    (λ _ s its. subst (λ e. IsRxWriting (g.M.PhysMem.ram c.args.ram.now) (buffers_in c.args.buffers.now e) s) c.in_ok-message.ensures.receiver its)

pub returns-in_err-message-clause-few : goal.returns-in_err-message-clause-few
returns-in_err-message-clause-few g c = adds-none (loans_of _)

pub returns-clause-few : goal.returns-clause-few
returns-clause-few g c =
    subst (λ (n : ℕ). AddsAtMost (g.M.PhysMem.past c.args.ram.now) (g.M.PhysMem.past c.deliver.new.ram) (loans_of ((n + 4095) / 4096))) c.in_ok-message.ensures.size c.deliver.ensures.few
