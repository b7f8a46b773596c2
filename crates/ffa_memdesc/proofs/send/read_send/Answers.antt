-- SPDX-License-Identifier: MIT OR Apache-2.0
use Rattle.ffa_model.specs.DescriptorPlaces.{in_version}
use Rattle.ffa_model.specs.Flaws.{SendBreaks}
use Rattle.ffa_model.specs.SendDescriptor.{send_record, Send, send_of}
use Rattle.ffa_memdesc.proofs.SendLaw.{send_told}
use Rattle.ffa_memdesc.proofs.FirstLaw.{send_flaw_breaks}
use Rattle.ffa_memdesc.proofs.FlawLaw.{send_breaks}
use Rattle.ffa_memdesc.proofs.Answered.{found, none, all, told_breaks}
use Rattle.ffa_memdesc.proofs.send.read_send.Goals as goal

pub returns-clause-found : goal.returns-clause-found
returns-clause-found g c =
    let b = in_version c.args.version (g.B.Bytes.bytes c.args.bytes.now) in
    found (λ _. send_record c.send_in.new.offer) (Send c.args.ffa c.args.kind b) (SendBreaks c.args.ffa c.args.kind b) (send_of c.args.ffa c.args.kind b) _ (send_told c.args.ffa c.args.kind b) c.send_in.ensures.found

pub returns-clause-none : goal.returns-clause-none
returns-clause-none g c =
    let b = in_version c.args.version (g.B.Bytes.bytes c.args.bytes.now) in
    let broken = told_breaks _ _ (SendBreaks c.args.ffa c.args.kind b) (send_flaw_breaks c.args.ffa c.args.kind b) c.send_in.ensures.first in
    none (λ _. send_record c.send_in.new.offer) (Send c.args.ffa c.args.kind b) (SendBreaks c.args.ffa c.args.kind b) (send_of c.args.ffa c.args.kind b) _ (send_breaks c.args.ffa c.args.kind b) broken

pub returns-clause-computed : goal.returns-clause-computed
returns-clause-computed g c =
    let b = in_version c.args.version (g.B.Bytes.bytes c.args.bytes.now) in
    let broken = told_breaks _ _ (SendBreaks c.args.ffa c.args.kind b) (send_flaw_breaks c.args.ffa c.args.kind b) c.send_in.ensures.first in
    all (λ _. send_record c.send_in.new.offer) (Send c.args.ffa c.args.kind b) (SendBreaks c.args.ffa c.args.kind b) (send_of c.args.ffa c.args.kind b) _ (send_told c.args.ffa c.args.kind b) (send_breaks c.args.ffa c.args.kind b)
    c.send_in.ensures.found broken

pub returns-clause-broken : goal.returns-clause-broken
returns-clause-broken g c =
    let b = in_version c.args.version (g.B.Bytes.bytes c.args.bytes.now) in
    told_breaks _ _ (SendBreaks c.args.ffa c.args.kind b) (send_flaw_breaks c.args.ffa c.args.kind b) c.send_in.ensures.first
