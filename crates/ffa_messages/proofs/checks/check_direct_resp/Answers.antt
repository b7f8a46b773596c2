-- SPDX-License-Identifier: MIT OR Apache-2.0
use Rattle.std.proofs.Common.{◌≡◌, true, false, rules, sym, eq-eqb}
use Rattle.std.specs.Prelude.{◌==◌}
use Rattle.std.proofs.lemmas.Bool.{ne_eqb}
use Rattle.ffa_messages.proofs.Refusals.{refused-flags}
use Rattle.ffa_messages.proofs.checks.check_direct_resp.Goals as goal

pub returns-then-message-ne0-clause-refusal : goal.returns-then-message-ne0-clause-refusal
returns-then-message-ne0-clause-refusal c =
    let from : (c.args.message.now.sender.0 == c.args.chain.now.runner) ≡ true = search (rules, c.ne.ensures, c.if-ne.false) in
    let to : (c.args.message.now.receiver.0 == c.in-Some.requester.0) ≡ true = search (rules, c.ne-else-ne.ensures, c.if-ne-2.false) in
    refused-flags c.args.chain.now c.args.message.now c.in-Some.requester.0 false c.in-Some.ensures.requester from to
    (sym (ne_eqb c.args.message.now.flags 0 c.if-message-ne0.true))

pub returns-clause-refusal : goal.returns-clause-refusal
returns-clause-refusal c =
    let from : (c.args.message.now.sender.0 == c.args.chain.now.runner) ≡ true = search (rules, c.ne.ensures, c.if-ne.false) in
    let to : (c.args.message.now.receiver.0 == c.in-Some.requester.0) ≡ true = search (rules, c.ne-else-ne.ensures, c.if-ne-2.false) in
    refused-flags c.args.chain.now c.args.message.now c.in-Some.requester.0 true c.in-Some.ensures.requester from to
    (sym (eq-eqb c.args.message.now.flags 0 c.if-message-ne0.false))
