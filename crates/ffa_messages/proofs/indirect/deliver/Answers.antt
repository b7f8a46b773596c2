-- SPDX-License-Identifier: MIT OR Apache-2.0
use Rattle.std.proofs.Common.{sym}
use Rattle.ffa_physmem.proofs.Moments.{Only-map}
use Rattle.ffa_rxtx.specs.Stored.{buffers_of}
use Rattle.ffa_messages.proofs.indirect.deliver.Goals as goal

pub returns-clause-steps : goal.returns-clause-steps
returns-clause-steps g c =
    Only-map c.copy_run.ensures.steps (λ _ s its. record { buffers = buffers_of c.in-Some.to; are = sym c.in-Some.ensures; writing = its })

pub returns-clause-few : goal.returns-clause-few
returns-clause-few g c = c.copy_run.ensures.few
