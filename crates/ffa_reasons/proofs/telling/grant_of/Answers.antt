-- SPDX-License-Identifier: MIT OR Apache-2.0
use Rattle.std.proofs.Common.{◌≡◌, ◌∙◌, Bool, true, false, Option, Some, None, is_some, ap, refl}
use Rattle.std.specs.Prelude.{if◌then◌else◌}
use Rattle.ffa_model.specs.declared.why.Grant.{Grant}
use Rattle.ffa_model.specs.Access.{access, handle_at, transaction_at}
use Rattle.ffa_model.specs.State.{State}
use Rattle.ffa_model.specs.Why.{grant_by, granted}
use Rattle.ffa_reasons.proofs.telling.grant_of.Goals as goal

some-if : (b : Bool) (grant : Grant) → is_some (if b then Some grant else None) ≡ b
some-if true grant = refl
some-if false grant = refl

pub returns-clause-granted : goal.returns-clause-granted
returns-clause-granted g c = c.grant_of.ensures ∙ ap (λ (s : State). granted s c.args.endpoint.0 c.args.page.0) c.of.ensures

pub returns-clause-access : goal.returns-clause-access
returns-clause-access g c =
    let s = c.args.machine.now.state in
    let e = c.args.endpoint.0 in
    let p = c.args.page.0 in
    ap (λ (o : Option Grant). is_some o) (c.grant_of.ensures ∙ ap (λ (t : State). granted t e p) c.of.ensures)
    ∙ some-if (is_some (access s e p)) (grant_by e (handle_at s p) (transaction_at s p))
