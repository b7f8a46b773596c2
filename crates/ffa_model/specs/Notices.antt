-- SPDX-License-Identifier: MIT OR Apache-2.0
-- FFA_NOTIFICATION_INFO_GET (DEN0077A, 10 and 16): the normal world asks whom to run, since bits became pending. It is told of each
-- endpoint once.
use Rattle.std.specs.Prelude.{ℕ, ◌+◌, ◌*◌, ◌^◌, Bool, true, false, ◌==◌, List, [], ◌∷◌, filter, is_none, length, slice_index_or, if◌then◌else◌}
use Rattle.std.specs.FinSet as finite_set
use Rattle.std.specs.List.{list_any}
use Rattle.ffa_model.specs.declared.call.Reply.{Reply}
use Rattle.ffa_model.specs.declared.call.Reply.TheVariants.{Success, WideSuccess}
use Rattle.ffa_model.specs.declared.manifest.Ffa.{Ffa}
use Rattle.ffa_model.specs.declared.manifest.Ffa.TheVariants.{V1_1, V1_2}
use Rattle.ffa_model.specs.declared.refusal.Refusal.{Refusal}
use Rattle.ffa_model.specs.declared.refusal.Refusal.TheVariants.{FunctionUnknown, NothingToTell}
use Rattle.ffa_model.specs.Calls.{Service, first_refusal}
use Rattle.ffa_model.specs.Identifiers.{identifier}
use Rattle.ffa_model.specs.Lists.{listed}
use Rattle.ffa_model.specs.Notifications.{Notifications, manager_class, normal_class, notice, notifications_of, partition_class, with_notifications}
use Rattle.ffa_model.specs.Numbers.{Identifier}
use Rattle.ffa_model.specs.State.{State}

-- whether an endpoint is told of notices: the normal world is, on a machine of FF-A 1.2
abbrev pub hears_notices : Ffa → Identifier → Bool
hears_notices V1_1 e = false
hears_notices V1_2 e = e == 0

-- whether there is a notice of an endpoint, of any class
abbrev pub has_notice : Notifications → Identifier → Bool
has_notice n e = list_any (λ class. finite_set.contains n.notices (notice e class)) (partition_class ∷ normal_class ∷ manager_class ∷ [])

-- those of which there is one, the lowest identifier first
abbrev pub endpoints_to_tell : ℕ → Notifications → List Identifier
endpoints_to_tell endpoints n = filter (has_notice n) (listed endpoints identifier)

abbrev pub notice_guards : Ffa → ℕ → Notifications → Identifier → List (Bool × Refusal)
notice_guards ffa endpoints n caller =
    (hears_notices ffa caller, FunctionUnknown)
    ∷ (list_any (has_notice n) (listed endpoints identifier), NothingToTell)
    ∷ []

-- whether the normal world would be told of an endpoint, so that its schedule receiver interrupt is to be pending
abbrev pub has_notices : State → Bool
has_notices s = is_none (first_refusal (notice_guards s.ffa (length s.parties) (notifications_of s) 0))

abbrev pub without_notices : Notifications → Notifications
without_notices n = record n { notices = finite_set.empty }

-- identifiers from the one at k on, each in 16 bits, the first in the lowest; behind the last stand zeros
abbrev pub two_from : List Identifier → ℕ → ℕ
two_from ids k = slice_index_or ids k 0 + 0x10000 * slice_index_or ids (k + 1) 0

abbrev pub four_from : List Identifier → ℕ → ℕ
four_from ids k = two_from ids k + 2 ^ 32 * two_from ids (k + 2)

-- The results of the form that fills 64-bit registers, and of the other. From bit 7 of the first on stands how many lists there
-- are. A list is an endpoint without execution contexts, as that of notifications that aren't a context's own. The identifiers
-- follow from the next result on.
abbrev pub notice_reply : Bool → List Identifier → Reply
notice_reply true ids = WideSuccess (128 * length ids ∷ listed 5 (λ i. four_from ids (4 * i)))
notice_reply false ids = Success (128 * length ids ∷ listed 5 (λ i. two_from ids (2 * i)))

abbrev pub notification_info_get : State → Bool → Service
notification_info_get s is_wide =
    record {
      guards = notice_guards s.ffa (length s.parties) (notifications_of s) s.runner;
      state = with_notifications s (without_notices (notifications_of s));
      reply = notice_reply is_wide (endpoints_to_tell (length s.parties) (notifications_of s));
    }
