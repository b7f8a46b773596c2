-- SPDX-License-Identifier: MIT OR Apache-2.0
use Rattle.std.proofs.Common.{◌≡◌, rules, sym}
use Rattle.ffa_rxtx.specs.Parts.{ownership_in}
use Rattle.ffa_model.specs.Transactions.{ceiling}
use Rattle.ffa_memshare.specs.Stored.{view_of}
use Rattle.ffa_memshare.proofs.transaction.OpenTransaction.check_retrieve.Goals as goal

pub returns-then-not-is_at_most-clause-refusal : goal.returns-then-not-is_at_most-clause-refusal
returns-then-not-is_at_most-clause-refusal g c =
    let most : c.ceiling-most.result ≡ ceiling (ownership_in c.args.pages.now c.args.base.0) (view_of c.args.self.now) c.args.caller.0 = c.ceiling-most.ensures c.args.caller.0 (sym c.in-Some.ensures.granted) in
    search (rules, most)

pub returns-then-descriptor-clause-refusal : goal.returns-then-descriptor-clause-refusal
returns-then-descriptor-clause-refusal g c =
    let most : c.ceiling-most.result ≡ ceiling (ownership_in c.args.pages.now c.args.base.0) (view_of c.args.self.now) c.args.caller.0 = c.ceiling-most.ensures c.args.caller.0 (sym c.in-Some.ensures.granted) in
    search (rules, most)

pub returns-clause-refusal : goal.returns-clause-refusal
returns-clause-refusal g c =
    let most : c.ceiling-most.result ≡ ceiling (ownership_in c.args.pages.now c.args.base.0) (view_of c.args.self.now) c.args.caller.0 = c.ceiling-most.ensures c.args.caller.0 (sym c.in-Some.ensures.granted) in
    search (rules, most)
