-- SPDX-License-Identifier: MIT OR Apache-2.0
use Rattle.ffa_memdesc.proofs.SendLaw.{one_send, send_told, send_again}
use Rattle.ffa_memdesc.proofs.RetrieveLaw.{one_retrieve, retrieve_told, retrieve_again}
use Rattle.ffa_memdesc.proofs.RelinquishLaw.{one_relinquish, relinquish_told, relinquish_again}
use Rattle.ffa_memdesc.proofs.FlawLaw.{send_breaks, retrieve_breaks, relinquish_breaks}
use Rattle.ffa_memdesc.proofs.laws.one_record.Goals as goal

pub returns-clause-one_send : goal.returns-clause-one_send
returns-clause-one_send c = one_send

pub returns-clause-one_retrieve : goal.returns-clause-one_retrieve
returns-clause-one_retrieve c = one_retrieve

pub returns-clause-one_relinquish : goal.returns-clause-one_relinquish
returns-clause-one_relinquish c = one_relinquish

pub returns-clause-broken_send : goal.returns-clause-broken_send
returns-clause-broken_send c = send_breaks

pub returns-clause-broken_retrieve : goal.returns-clause-broken_retrieve
returns-clause-broken_retrieve c = retrieve_breaks

pub returns-clause-broken_relinquish : goal.returns-clause-broken_relinquish
returns-clause-broken_relinquish c = relinquish_breaks

pub returns-clause-send : goal.returns-clause-send
returns-clause-send c = λ ffa kind b r. (send_again ffa kind b r, send_told ffa kind b r)

pub returns-clause-retrieve : goal.returns-clause-retrieve
returns-clause-retrieve c = λ ffa e b r. (retrieve_again ffa e b r, retrieve_told ffa e b r)

pub returns-clause-relinquish : goal.returns-clause-relinquish
returns-clause-relinquish c = λ b r. (relinquish_again b r, relinquish_told b r)
