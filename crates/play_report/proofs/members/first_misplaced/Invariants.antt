-- SPDX-License-Identifier: MIT OR Apache-2.0
use Rattle.std.proofs.Common.{◌≡◌, ◌+◌, length}
use Rattle.std.specs.Option.{option_map_or}
use Rattle.play_report.specs.Cuts.{parts_left}
use Rattle.play_report.specs.Members.{comma, first_misplaced, members_of}
use Rattle.play_report.proofs.members.first_misplaced.Given as goal

-- no right before what is left is misplaced
abbrev pub invariant-members : goal.invariant-members
invariant-members l = first_misplaced l.form (members_of l.fn.text) ≡ first_misplaced l.form (parts_left comma l.rest)

abbrev pub decreases-members : goal.decreases-members
decreases-members l = option_map_or (λ text. length text.now + 1) l.rest 0
