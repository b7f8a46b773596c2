-- SPDX-License-Identifier: MIT OR Apache-2.0
use Rattle.ffa_model.specs.DescriptorPlaces.{in_version}
use Rattle.ffa_model.specs.Flaws.{RetrieveBreaks}
use Rattle.ffa_model.specs.declared.descriptor.RetrieveDesc.{RetrieveDesc}
use Rattle.ffa_model.specs.RetrieveDescriptor.{Retrieve, retrieve_of}
use Rattle.ffa_memdesc.proofs.RetrieveLaw.{retrieve_told}
use Rattle.ffa_memdesc.proofs.FirstLaw.{retrieve_flaw_breaks}
use Rattle.ffa_memdesc.proofs.FlawLaw.{retrieve_breaks}
use Rattle.ffa_memdesc.proofs.Answered.{found, none, all, told_breaks, mapped}
use Rattle.ffa_memdesc.proofs.retrieve.read_retrieve.Goals as goal

pub returns-clause-found : goal.returns-clause-found
returns-clause-found g c =
    let b = in_version c.args.version (g.B.Bytes.bytes c.args.bytes.now) in
    found (λ (d : RetrieveDesc). d) (Retrieve c.args.ffa c.args.endpoint.0 b) (RetrieveBreaks c.args.ffa c.args.endpoint.0 b) (retrieve_of c.args.ffa c.args.endpoint.0 b) _
    (retrieve_told c.args.ffa c.args.endpoint.0 b) c.retrieve_by.ensures.found

pub returns-clause-none : goal.returns-clause-none
returns-clause-none g c =
    let b = in_version c.args.version (g.B.Bytes.bytes c.args.bytes.now) in
    let broken = told_breaks _ _ (RetrieveBreaks c.args.ffa c.args.endpoint.0 b) (retrieve_flaw_breaks c.args.ffa c.args.endpoint.0 b) c.retrieve_by.ensures.first in
    none (λ (d : RetrieveDesc). d) (Retrieve c.args.ffa c.args.endpoint.0 b) (RetrieveBreaks c.args.ffa c.args.endpoint.0 b) (retrieve_of c.args.ffa c.args.endpoint.0 b) _
    (retrieve_breaks c.args.ffa c.args.endpoint.0 b) broken

pub returns-clause-computed : goal.returns-clause-computed
returns-clause-computed g c =
    let b = in_version c.args.version (g.B.Bytes.bytes c.args.bytes.now) in
    let broken = told_breaks _ _ (RetrieveBreaks c.args.ffa c.args.endpoint.0 b) (retrieve_flaw_breaks c.args.ffa c.args.endpoint.0 b) c.retrieve_by.ensures.first in
    mapped _ _ (all (λ (d : RetrieveDesc). d) (Retrieve c.args.ffa c.args.endpoint.0 b) (RetrieveBreaks c.args.ffa c.args.endpoint.0 b) (retrieve_of c.args.ffa c.args.endpoint.0 b) _
    (retrieve_told c.args.ffa c.args.endpoint.0 b) (retrieve_breaks c.args.ffa c.args.endpoint.0 b) c.retrieve_by.ensures.found broken)

pub returns-clause-broken : goal.returns-clause-broken
returns-clause-broken g c =
    let b = in_version c.args.version (g.B.Bytes.bytes c.args.bytes.now) in
    told_breaks _ _ (RetrieveBreaks c.args.ffa c.args.endpoint.0 b) (retrieve_flaw_breaks c.args.ffa c.args.endpoint.0 b) c.retrieve_by.ensures.first
