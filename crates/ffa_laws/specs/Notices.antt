-- SPDX-License-Identifier: MIT OR Apache-2.0
-- What an endpoint that hears of notices knows of notifications: the normal world, on a machine of FF-A 1.2.
use Rattle.std.specs.Prelude.{◌≡◌, ◌≢◌, ◌⊎◌, ◌==◌, Bool, not, ◌&&◌, ◌||◌, List, ℕ, refl, if◌then◌else◌}
use Rattle.std.specs.Ordering.{nat_cmp}
use Rattle.std.specs.Cmp.Lexicographic.{slice_cmp}
use Rattle.std.specs.FinSet as finite_set
use Rattle.ffa_model.specs.Notices.{hears_notices}
use Rattle.ffa_model.specs.Notifications.{class_of_entry, partition_class, receiver_of_entry}
use Rattle.ffa_model.specs.Numbers.{Identifier}
use Rattle.ffa_model.specs.State.{State}
use Rattle.ffa_model.proofs.Equal.{equal_bits, equal_by, equal_pair}

-- Whether e sees that a bit is pending: it does of its own. The normal world must know whether what it sets is news. So where it hears
-- of notices it also sees bits of others that it or the manager has set, and never one that a partition has set.
abbrev pub sees_bit : Bool → Identifier → List ℕ → Bool
sees_bit hears e entry = receiver_of_entry entry == e || (hears && not (class_of_entry entry == partition_class))

abbrev pub pending_seen : Identifier → State → finite_set.FinSet (slice_cmp nat_cmp)
pending_seen e s = finite_set.retain s.pending (sees_bit (hears_notices s.ffa e) e)

-- of notices it sees all, or none
abbrev pub notices_seen : Identifier → State → finite_set.FinSet (slice_cmp nat_cmp)
notices_seen e s = if hears_notices s.ffa e then s.notices else finite_set.empty

pub record NoticePart : Type 0 where
  pub pending : finite_set.FinSet (slice_cmp nat_cmp)
  pub notices : finite_set.FinSet (slice_cmp nat_cmp)

abbrev pub notice_part : Identifier → State → NoticePart
notice_part e s = record { pending = pending_seen e s; notices = notices_seen e s }

-- two of these are equal, or they aren't
abbrev pub same_notices : (a b : NoticePart) → (a ≡ b) ⊎ (a ≢ b)
same_notices =
    equal_by (λ (p : NoticePart). (p.pending, p.notices)) (λ p. record { pending = p.0; notices = p.1 }) (λ p. refl)
    (equal_pair equal_bits equal_bits)
