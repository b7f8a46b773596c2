-- SPDX-License-Identifier: MIT OR Apache-2.0
use Rattle.std.proofs.Common.{◌∙◌, sym, rules}
use Rattle.ffa_notify.proofs.SetGuards.{all-pass, another-sender, bits-of-others, flags-reserved, receiver-caller, receiver-unknown}
use Rattle.ffa_notify.proofs.bitmaps.Bitmaps.check_set.Goals as goal

pub returns-then-ne-clause-refusal : goal.returns-then-ne-clause-refusal
returns-then-ne-clause-refusal c = another-sender c.args.self.now c.args.caller.0 c.args.bits.now (search rules)

pub returns-then-not-is_among-clause-refusal : goal.returns-then-not-is_among-clause-refusal
returns-then-not-is_among-clause-refusal c = receiver-unknown c.args.self.now c.args.caller.0 c.args.bits.now (search rules) (search rules)

pub returns-then-eq-clause-refusal : goal.returns-then-eq-clause-refusal
returns-then-eq-clause-refusal c = receiver-caller c.args.self.now c.args.caller.0 c.args.bits.now (search rules) (search rules) (search rules)

pub returns-then-not-has_set_flags-clause-refusal : goal.returns-then-not-has_set_flags-clause-refusal
returns-then-not-has_set_flags-clause-refusal c =
    flags-reserved c.args.self.now c.args.caller.0 c.args.bits.now (search rules) (search rules) (search rules) (search rules)

pub returns-then-not-is_settable-clause-refusal : goal.returns-then-not-is_settable-clause-refusal
returns-then-not-is_settable-clause-refusal c =
    let fails = sym c.if-not-is_settable.true ∙ c.is_settable.ensures in
    bits-of-others c.args.self.now c.args.caller.0 c.args.bits.now (search rules) (search rules) (search rules) (search rules) (search rules) (sym fails)

pub returns-clause-refusal : goal.returns-clause-refusal
returns-clause-refusal c =
    let passes = sym c.if-not-is_settable.false ∙ c.is_settable.ensures in
    all-pass c.args.self.now c.args.caller.0 c.args.bits.now (search rules) (search rules) (search rules) (search rules) (search rules) (sym passes)
