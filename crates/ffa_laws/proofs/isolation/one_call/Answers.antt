-- SPDX-License-Identifier: MIT OR Apache-2.0
use Rattle.ffa_laws.proofs.Laws.{one_call, steady-call}
use Rattle.ffa_laws.proofs.Growth.{call_never_grows}
use Rattle.ffa_laws.proofs.Integrities.{call_integrity}
use Rattle.ffa_laws.proofs.SoundOperations.{call-sound}
use Rattle.ffa_laws.proofs.isolation.one_call.Goals as goal

pub returns-clause-call : goal.returns-clause-call
returns-clause-call c = one_call

pub returns-clause-steady : goal.returns-clause-steady
returns-clause-steady c = λ s call steady. steady-call s steady call

pub returns-clause-sound : goal.returns-clause-sound
returns-clause-sound c = λ s call sound. call-sound s sound call

pub returns-clause-never_grow : goal.returns-clause-never_grow
returns-clause-never_grow c = call_never_grows

pub returns-clause-integrity : goal.returns-clause-integrity
returns-clause-integrity c = call_integrity
