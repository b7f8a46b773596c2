-- SPDX-License-Identifier: MIT OR Apache-2.0
use Rattle.std.proofs.Common.{◌≡◌, ◌+◌, ◌≤◌, length}
use Rattle.std.specs.Option.{option_map_or}
use Rattle.ffa_model.specs.declared.limits.TheConstants.{MOST_RECEIVERS}
use Rattle.play_report.specs.Cuts.{parts_left}
use Rattle.play_report.specs.Members.{comma, each, members_of, receiver_of}
use Rattle.play_report.proofs.Lists.{behind}
use Rattle.play_report.proofs.members.read_receivers.Given as goal

abbrev pub invariant-members : goal.invariant-members
invariant-members l = record {
  room : length l.receivers.items + length (parts_left comma l.rest) ≤ MOST_RECEIVERS;
  left : each receiver_of (members_of l.fn.text) ≡ behind l.receivers.items (each receiver_of (parts_left comma l.rest));
}

abbrev pub decreases-members : goal.decreases-members
decreases-members l = option_map_or (λ text. length text.now + 1) l.rest 0
