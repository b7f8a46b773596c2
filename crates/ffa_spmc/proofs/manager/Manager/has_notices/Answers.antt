-- SPDX-License-Identifier: MIT OR Apache-2.0
use Rattle.std.proofs.Common.{◌≡◌, ◌∙◌, Ok, Err, Result, ap, is_none, refl}
use Rattle.std.specs.Result.{is_ok, result_err}
use Rattle.ffa_model.specs.Notices.{has_notices}
use Rattle.ffa_model.specs.declared.refusal.Refusal.{Refusal}
use Rattle.ffa_spmc.specs.Managed.{Managed}
use Rattle.ffa_spmc.proofs.Inside.{parts_of}
use Rattle.ffa_spmc.proofs.Notified.{notices-checked}
use Rattle.ffa_spmc.proofs.manager.Manager.has_notices.Goals as goal

ok-none : {X : Type 0} (r : Result X Refusal) → is_ok r ≡ is_none (result_err r)
ok-none (Ok x) = refl
ok-none (Err refusal) = refl

pub returns : goal.returns
returns g c =
    let x = parts_of g.M.PhysMem.ram c.self.inside in
    c.is_ok.ensures.value ∙ ok-none c.check_info.result ∙ ap is_none c.check_info.ensures.refusal ∙ notices-checked x c.self.invariant
    ∙ ap (λ (m : Managed). has_notices m.state) c.self.view_is
