-- SPDX-License-Identifier: MIT OR Apache-2.0
use Rattle.std.proofs.Common.{◌≡◌, ◌∙◌, ◌+◌, ap, arith, length, sym, map, Option, None, Some, of_calls}
use Rattle.std.specs.Result.{result_err}
use Rattle.ffa_model.specs.First.{party_of}
use Rattle.ffa_model.specs.Identifiers.{place}
use Rattle.ffa_model.specs.Messages.{MessageHeader, header_in}
use Rattle.ffa_model.specs.State.{Buffers}
use Rattle.ffa_rxtx.specs.Parts.{tx_in}
use Rattle.ffa_rxtx.specs.Stored.{buffers_of}
use Rattle.ffa_messages.specs.Parts.{header_of}
use Rattle.ffa_messages.proofs.Known.{known_with_buffers}
use Rattle.ffa_messages.proofs.Refusals.{refused-ends, refused-header}
use Rattle.ffa_messages.proofs.checks.check_send2.Goals as goal

pub read_header-header-requires : goal.read_header-header-requires
read_header-header-requires g c = c.requires (place c.args.caller.0) (buffers_of c.in-Some.from) (sym c.in-Some.ensures)

pub returns-in_err-check-clause-refusal : goal.returns-in_err-check-clause-refusal
returns-in_err-check-clause-refusal g c =
    let failed : result_err c.from_residual.result ≡ Some c.in_err-check.field-0.0 = search of_calls in
    failed
    ∙ refused-header (map party_of c.args.manifest.now.endpoints.items) (g.M.PhysMem.ram c.args.ram.now) c.args.buffers.now c.args.version c.args.caller.0 (buffers_of c.in-Some.from) c.room.result (header_of c.read_header-header.result)
    c.in-Some.ensures c.room.ensures c.read_header-header.ensures c.in_err-check.field-0.0 c.in_err-check.ensures.refusal

pub returns-in_err-check_ends-clause-refusal : goal.returns-in_err-check_ends-clause-refusal
returns-in_err-check_ends-clause-refusal g c =
    let failed : result_err c.from_residual-in_err-check_ends.result ≡ Some c.in_err-check_ends.field-0.0 = search of_calls in
    failed
    ∙ refused-ends (map party_of c.args.manifest.now.endpoints.items) (g.M.PhysMem.ram c.args.ram.now) c.args.buffers.now c.args.version c.args.caller.0 (buffers_of c.in-Some.from) c.room.result (header_of c.read_header-header.result)
    c.in-Some.ensures c.room.ensures c.read_header-header.ensures (Some c.in_err-check_ends.field-0.0) c.in_ok-check.ensures.refusal c.in_err-check_ends.ensures.refusal

pub returns-clause-refusal : goal.returns-clause-refusal
returns-clause-refusal g c =
    refused-ends (map party_of c.args.manifest.now.endpoints.items) (g.M.PhysMem.ram c.args.ram.now) c.args.buffers.now c.args.version c.args.caller.0 (buffers_of c.in-Some.from) c.room.result (header_of c.read_header-header.result)
    c.in-Some.ensures c.room.ensures c.read_header-header.ensures None c.in_ok-check.ensures.refusal c.in_ok-check_ends.ensures.refusal

pub returns-clause-from : goal.returns-clause-from
returns-clause-from g c = c.in-Some.ensures

pub returns-clause-receiver : goal.returns-clause-receiver
returns-clause-receiver g c =
    ap (λ (m : MessageHeader). m.receiver)
    (c.read_header-header.ensures ∙ ap (λ (o : Option Buffers). header_in (tx_in (g.M.PhysMem.ram c.args.ram.now) o)) c.in-Some.ensures)

pub returns-clause-size : goal.returns-clause-size
returns-clause-size g c =
    c.end.ensures
    ∙ ap (λ (m : MessageHeader). m.offset + m.size)
    (c.read_header-header.ensures ∙ ap (λ (o : Option Buffers). header_in (tx_in (g.M.PhysMem.ram c.args.ram.now) o)) c.in-Some.ensures)

pub returns-clause-fits : goal.returns-clause-fits
returns-clause-fits g c = omega (arith, c.end.ensures, c.in_ok-check.ensures.fits, c.room.ensures)

pub returns-clause-buffers : goal.returns-clause-buffers
returns-clause-buffers g c = c.in_ok-check_ends.ensures.buffers

pub returns-clause-room : goal.returns-clause-room
returns-clause-room g c = omega (arith, c.end.ensures, c.in_ok-check_ends.ensures.room)

pub returns-clause-known : goal.returns-clause-known
returns-clause-known g c =
    known_with_buffers (length c.args.manifest.now.endpoints.items) c.args.buffers.now c.read_header-header.result.receiver.0 c.in_ok-check.ensures.known c.in_ok-check_ends.ensures.buffers
