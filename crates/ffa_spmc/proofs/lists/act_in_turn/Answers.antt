-- SPDX-License-Identifier: MIT OR Apache-2.0
use Rattle.ffa_spmc.proofs.Acts.{acted-among, acted-run, served, unshared}
use Rattle.ffa_spmc.proofs.lists.act_in_turn.Goals as goal

pub returns-clause-served : goal.returns-clause-served
returns-clause-served c = served

pub returns-clause-unshared : goal.returns-clause-unshared
returns-clause-unshared c = unshared

pub returns-clause-alone : goal.returns-clause-alone
returns-clause-alone c = acted-run

pub returns-clause-among : goal.returns-clause-among
returns-clause-among c = acted-among
