-- SPDX-License-Identifier: MIT OR Apache-2.0
use Rattle.std.proofs.Common.{◌∙◌, ◌*◌, ap, length, arith}
use Rattle.ffa_model.specs.declared.limits.TheConstants.{MOST_ENDPOINTS}
use Rattle.ffa_notify.specs.Stored.{bound_in, notices_in, pending_in}
use Rattle.ffa_notify.proofs.Boots.{none-bound, none-pending}
use Rattle.ffa_notify.proofs.NoticeStores.{no-notices}
use Rattle.ffa_notify.proofs.bitmaps.Bitmaps.of.Goals as goal

pub returns-clause-bound : goal.returns-clause-bound
returns-clause-bound c =
    let n = length c.first_bitmaps-has.result.items in
    ap (bound_in n) c.repeat.ensures ∙ none-bound n (MOST_ENDPOINTS * c.len-endpoints.result) (omega (arith, c.len-endpoints.ensures.value, c.len-endpoints.ensures.fits))

pub returns-clause-pending : goal.returns-clause-pending
returns-clause-pending c =
    let n = length c.first_bitmaps-has.result.items in
    ap (pending_in n) c.repeat-2.ensures ∙ none-pending n (3 * c.len-endpoints.result)

pub returns-clause-notices : goal.returns-clause-notices
returns-clause-notices c =
    let n = length c.first_bitmaps-has.result.items in
    ap (notices_in n) c.repeat-3.ensures ∙ no-notices n (3 * c.len-endpoints.result)
