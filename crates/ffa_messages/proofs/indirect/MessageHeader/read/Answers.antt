-- SPDX-License-Identifier: MIT OR Apache-2.0
use Rattle.ffa_messages.proofs.Headers.{header_of_numbers}
use Rattle.ffa_messages.proofs.indirect.MessageHeader.read.Goals as goal

pub returns : goal.returns
returns c =
    header_of_numbers c.args.page.now _ _ _ _ _ _ c.u32_at.ensures c.u32_at-2.ensures c.u32_at-3.ensures c.u16_at.ensures c.u16_at-2.ensures c.u32_at-4.ensures
