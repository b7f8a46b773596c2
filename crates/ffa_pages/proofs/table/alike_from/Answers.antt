-- SPDX-License-Identifier: MIT OR Apache-2.0
use Rattle.std.proofs.Common.{ℕ, ap, None, option_map}
use Rattle.ffa_model.specs.declared.endpoint.Region.{Region}
use Rattle.ffa_model.specs.Regions.{owned_regions}
use Rattle.ffa_model.proofs.Finds.{find-alike}
use Rattle.ffa_pages.specs.Entry.{Entry}
use Rattle.ffa_pages.proofs.table.alike_from.Goals as goal

pub returns-clause-alike : goal.returns-clause-alike
returns-clause-alike c p from to =
    let entry : ℕ × Region → Entry = λ x. record { owner = x.0; own_right = x.1.rights; slot = None } in
    ap (option_map entry) (find-alike _ _ (owned_regions c.args.manifest.now.endpoints.items) (c.alike_until.ensures.alike p from to))
