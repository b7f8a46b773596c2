-- SPDX-License-Identifier: MIT OR Apache-2.0
use Rattle.ffa_laws.proofs.ProcessorRights.{confidential-interrupt, confidential-on, integrity-on, only-writers-on, own-access-on, silence-on}
use Rattle.ffa_laws.proofs.processors.rights_on.Goals as goal

pub returns-clause-integrity : goal.returns-clause-integrity
returns-clause-integrity c = integrity-on

pub returns-clause-only_writers : goal.returns-clause-only_writers
returns-clause-only_writers c = only-writers-on

pub returns-clause-own_access : goal.returns-clause-own_access
returns-clause-own_access c = own-access-on

pub returns-clause-silence : goal.returns-clause-silence
returns-clause-silence c = silence-on

pub returns-clause-confidential : goal.returns-clause-confidential
returns-clause-confidential c = confidential-on

pub returns-clause-interrupt : goal.returns-clause-interrupt
returns-clause-interrupt c = confidential-interrupt
