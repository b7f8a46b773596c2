-- SPDX-License-Identifier: MIT OR Apache-2.0
use Rattle.std.proofs.Common.{◌∙◌, ℕ, Option, ap}
use Rattle.std.specs.Option.{option_and_then}
use Rattle.ffa_model.specs.Access.{access}
use Rattle.ffa_reasons.proofs.reasons.Reasons.access_at.Goals as goal

pub returns-in-Some : goal.returns-in-Some
returns-in-Some g c =
    c.access.ensures
    ∙ ap (λ (e : ℕ). access c.args.self.now e c.in-Some.page.0) c.runner.ensures
    ∙ ap (λ (o : Option ℕ). option_and_then (access c.args.self.now c.args.self.now.runner) o) c.in-Some.ensures
