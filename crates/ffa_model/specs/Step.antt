-- SPDX-License-Identifier: MIT OR Apache-2.0
-- The small machine.
use Rattle.std.specs.Prelude.{false, List, [], ◌∷◌}
use Rattle.ffa_model.specs.declared.operation.Op.{Op}
use Rattle.ffa_model.specs.declared.operation.Op.TheVariants.{Call, Load, Store, Fetch}
use Rattle.ffa_model.specs.declared.operation.ErrorCode.TheVariants.{NotSupported}
use Rattle.ffa_model.specs.declared.operation.Outcome.{Outcome}
use Rattle.ffa_model.specs.declared.rights.Kind.TheVariants.{Share, Lend, Donate}
use Rattle.ffa_model.specs.declared.call.Reply.TheVariants.{Error}
use Rattle.ffa_model.specs.declared.refusal.Refusal.TheVariants.{FunctionUnknown}
use Rattle.ffa_model.specs.declared.call.Call as calls
use Rattle.ffa_model.specs.declared.call.Call.TheVariants.{Version, Features, RxRelease, RxtxMap, RxtxUnmap, PartitionInfoGet, IdGet, MsgWait, Yield, Run, DirectRequest, DirectResponse, MemDonate, MemLend, MemShare, MemRetrieve, MemRelinquish, MemReclaim, BitmapCreate, BitmapDestroy, NotificationBind, NotificationUnbind, NotificationSet, NotificationGet, NotificationInfoGet, SpmIdGet, MsgSend2, Unknown}
use Rattle.ffa_model.specs.State.{State}
use Rattle.ffa_model.specs.Registers.{decode}
use Rattle.ffa_model.specs.Calls.{Service, Stepped, replying, served, success}
use Rattle.ffa_model.specs.Identifiers.{manager}
use Rattle.ffa_model.specs.Memory.{load, store, fetch}
use Rattle.ffa_model.specs.Setup.{ffa_version, features, info_get}
use Rattle.ffa_model.specs.Buffers.{rxtx_map, rxtx_unmap, rx_release}
use Rattle.ffa_model.specs.RunStates.{direct_request, direct_response, run_partition, msg_wait, yield_now}
use Rattle.ffa_model.specs.Messages.{msg_send2}
use Rattle.ffa_model.specs.Notices.{notification_info_get}
use Rattle.ffa_model.specs.MemorySend.{memory_send}
use Rattle.ffa_model.specs.HypervisorRetrieve.{memory_retrieve}
use Rattle.ffa_model.specs.MemoryReturn.{memory_relinquish, memory_reclaim}
use Rattle.ffa_model.specs.Notifications.{bitmap_create, bitmap_destroy, notification_bind, notification_unbind, notification_set, notification_get}

-- each call of the runner; what is no call, or isn't served, is not supported
abbrev pub service : State → calls.Call → Service
service s (Version word) = ffa_version s word
service s (Features function) = features s function
service s RxRelease = rx_release s
service s (RxtxMap tx rx pages) = rxtx_map s tx rx pages
service s (RxtxUnmap endpoint) = rxtx_unmap s endpoint
service s (PartitionInfoGet uuid flags) = info_get s uuid flags
service s IdGet = replying s (success s.runner 0)
service s SpmIdGet = replying s (success manager 0)
service s (MsgWait flags) = msg_wait s flags
service s Yield = yield_now s
service s (Run target context) = run_partition s target.0 context
service s (DirectRequest message) = direct_request s message
service s (DirectResponse message) = direct_response s message
service s (MemDonate transfer) = memory_send s Donate transfer
service s (MemLend transfer) = memory_send s Lend transfer
service s (MemShare transfer) = memory_send s Share transfer
service s (MemRetrieve transfer) = memory_retrieve s transfer
service s MemRelinquish = memory_relinquish s
service s (MemReclaim handle flags) = memory_reclaim s handle.0 flags
service s (BitmapCreate endpoint contexts) = bitmap_create s endpoint contexts
service s (BitmapDestroy endpoint) = bitmap_destroy s endpoint
service s (NotificationBind its) = notification_bind s its
service s (NotificationUnbind its) = notification_unbind s its
service s (NotificationSet its) = notification_set s its
service s (NotificationGet receiver context flags) = notification_get s receiver.0 context flags
service s MsgSend2 = msg_send2 s
service s (NotificationInfoGet is_wide) = notification_info_get s is_wide
service s Unknown = record (replying s (Error NotSupported)) { guards = (false, FunctionUnknown) ∷ [] }

abbrev pub serve : State → calls.Call → Stepped
serve s call = served s (service s call)

-- one operation of the runner
abbrev pub step : State → Op → Stepped
step s (Call x) = serve s (decode x)
step s (Load addr size) = load s addr size
step s (Store addr size value) = store s addr size value
step s (Fetch addr) = fetch s addr

-- the outcomes of a list of operations, and the state after them
abbrev pub outcomes : State → List Op → List Outcome
outcomes s [] = []
outcomes s (op ∷ ops) = (step s op).outcome ∷ outcomes (step s op).state ops

abbrev pub state_after : State → List Op → State
state_after s [] = s
state_after s (op ∷ ops) = state_after (step s op).state ops
