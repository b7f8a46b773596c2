-- SPDX-License-Identifier: MIT OR Apache-2.0
use Rattle.std.proofs.Common.{rules}
use Rattle.ffa_messages.proofs.RequestGuards.{all-pass, not-waiting, receiver-caller, receiver-normal-world, receiver-unknown, requests-unreceived, requests-unsent}
use Rattle.ffa_messages.proofs.checks.check_direct_req.Goals as goal

pub returns-then-not-is_among-clause-refusal : goal.returns-then-not-is_among-clause-refusal
returns-then-not-is_among-clause-refusal c =
    receiver-unknown c.args.manifest.now.endpoints.items c.args.chain.now c.args.message.now (search rules) (search rules) (search rules)

pub returns-then-eq-clause-refusal : goal.returns-then-eq-clause-refusal
returns-then-eq-clause-refusal c =
    receiver-caller c.args.manifest.now.endpoints.items c.args.chain.now c.args.message.now (search rules) (search rules) (search rules) (search rules)

pub returns-then-eq-2-clause-refusal : goal.returns-then-eq-2-clause-refusal
returns-then-eq-2-clause-refusal c =
    receiver-normal-world c.args.manifest.now.endpoints.items c.args.chain.now c.args.message.now (search rules) (search rules) (search rules) (search rules) (search rules)

pub returns-then-not-sends_direct_requests-clause-refusal : goal.returns-then-not-sends_direct_requests-clause-refusal
returns-then-not-sends_direct_requests-clause-refusal c =
    requests-unsent c.args.manifest.now.endpoints.items c.args.chain.now c.args.message.now (search rules) (search rules) (search rules) (search rules) (search rules) (search rules)

pub returns-then-not-receives_direct_requests-clause-refusal : goal.returns-then-not-receives_direct_requests-clause-refusal
returns-then-not-receives_direct_requests-clause-refusal c =
    requests-unreceived c.args.manifest.now.endpoints.items c.args.chain.now c.args.message.now (search rules) (search rules) (search rules) (search rules) (search rules) (search rules) (search rules)

pub returns-then-not-is_waiting-clause-refusal : goal.returns-then-not-is_waiting-clause-refusal
returns-then-not-is_waiting-clause-refusal c =
    not-waiting c.args.manifest.now.endpoints.items c.args.chain.now c.args.message.now (search rules) (search rules) (search rules) (search rules) (search rules) (search rules) (search rules) (search rules)

pub returns-clause-refusal : goal.returns-clause-refusal
returns-clause-refusal c =
    all-pass c.args.manifest.now.endpoints.items c.args.chain.now c.args.message.now (search rules) (search rules) (search rules) (search rules) (search rules) (search rules) (search rules) (search rules)
