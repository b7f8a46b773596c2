-- SPDX-License-Identifier: MIT OR Apache-2.0
use Rattle.std.proofs.Common.{◌≡◌}
use Rattle.std.specs.List.{list_any}
use Rattle.ffa_model.specs.Identifiers.{identifier}
use Rattle.ffa_model.specs.Lists.{listed}
use Rattle.ffa_model.specs.Notices.{has_notice}
use Rattle.ffa_notify.proofs.bitmaps.Bitmaps.has_notices.Given as goal

-- the endpoints so far
abbrev pub invariant-loop-place : goal.invariant-loop-place
invariant-loop-place l = l.has_notices ≡ list_any (has_notice l.self) (listed l.place identifier)
