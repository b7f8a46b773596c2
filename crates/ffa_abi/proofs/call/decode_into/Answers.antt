-- SPDX-License-Identifier: MIT OR Apache-2.0
use Rattle.std.proofs.Common.{of_calls}
use Rattle.ffa_abi.proofs.Parts.{decode-none, decode-some}
use Rattle.ffa_abi.proofs.call.decode_into.Goals as goal

pub returns-then-not-is_called : goal.returns-then-not-is_called
returns-then-not-is_called c = search (of_calls, decode-none)

pub returns-else-not-is_called : goal.returns-else-not-is_called
returns-else-not-is_called c = search (of_calls, decode-some)
