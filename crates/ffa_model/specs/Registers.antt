-- SPDX-License-Identifier: MIT OR Apache-2.0
-- Which calls there are, and their arguments in the registers (DEN0028, 2; DEN0077A, 11 to 16).
-- One table says it all: for reading a call, for FFA_FEATURES and for the step.
use Rattle.std.specs.Prelude.{ℕ, ◌+◌, ◌%◌, ◌^◌, ◌==◌, Bool, true, false, not, ◌&&◌, ◌||◌, List, [], ◌∷◌, ◌++◌, Option, Some, None, find, is_some, slice_index, if◌then◌else◌}
use Rattle.ffa_model.specs.declared.call.Call.{Call}
use Rattle.ffa_model.specs.declared.call.DirectMessage.{DirectMessage}
use Rattle.ffa_model.specs.declared.call.NotificationBits.{NotificationBits}
use Rattle.ffa_model.specs.declared.call.Transfer.{Transfer}
use Rattle.ffa_model.specs.declared.endpoint.EndpointId.{EndpointId}
use Rattle.ffa_model.specs.Bits.{high_half, low_half, word_of_halves}
use Rattle.ffa_model.specs.declared.call.Call.TheVariants.{Version, Features, RxRelease, RxtxMap, RxtxUnmap, PartitionInfoGet, IdGet, MsgWait, Yield, Run, DirectRequest, DirectResponse, MemDonate, MemLend, MemShare, MemRetrieve, MemRelinquish, MemReclaim, BitmapCreate, BitmapDestroy, NotificationBind, NotificationUnbind, NotificationSet, NotificationGet, NotificationInfoGet, SpmIdGet, MsgSend2, Unknown}
use Rattle.ffa_model.specs.declared.function.TheConstants.{FFA_VERSION, FFA_FEATURES, FFA_RX_RELEASE, FFA_RXTX_MAP, FFA_RXTX_UNMAP, FFA_PARTITION_INFO_GET, FFA_ID_GET, FFA_MSG_WAIT, FFA_YIELD, FFA_RUN, FFA_MSG_SEND_DIRECT_REQ, FFA_MSG_SEND_DIRECT_RESP, FFA_MEM_DONATE, FFA_MEM_LEND, FFA_MEM_SHARE, FFA_MEM_RETRIEVE_REQ, FFA_MEM_RELINQUISH, FFA_MEM_RECLAIM, FFA_NOTIFICATION_BITMAP_CREATE, FFA_NOTIFICATION_BITMAP_DESTROY, FFA_NOTIFICATION_BIND, FFA_NOTIFICATION_UNBIND, FFA_NOTIFICATION_SET, FFA_NOTIFICATION_GET, FFA_NOTIFICATION_INFO_GET, FFA_SPM_ID_GET, FFA_MSG_SEND2}

-- a register's low half
abbrev pub low : ℕ → ℕ
low x = x % 2 ^ 32

-- A call: its 32-bit identifier, whether it also has the 64-bit form, and what it is of its arguments: w gives a
-- register's low half, x the whole register in the 64-bit form and else its low half.
pub record Function : Type 0 where
  pub function : ℕ
  pub is_wide : Bool
  pub call : (ℕ → ℕ) → (ℕ → ℕ) → Call

abbrev pub narrow : ℕ → ((ℕ → ℕ) → Call) → Function
narrow function call = record { function = function; is_wide = false; call = λ w x. call w }

abbrev pub wide : ℕ → ((ℕ → ℕ) → (ℕ → ℕ) → Call) → Function
wide function call = record { function = function; is_wide = true; call = call }

-- the endpoints that the halves of a register name
abbrev pub high_endpoint : ℕ → EndpointId
high_endpoint word = record { 0 = high_half word }

abbrev pub low_endpoint : ℕ → EndpointId
low_endpoint word = record { 0 = low_half word }

-- of a direct message, which w1 addresses: its sender in the high half, its receiver in the low
abbrev pub payload : (ℕ → ℕ) → List ℕ
payload x = x 3 ∷ x 4 ∷ x 5 ∷ x 6 ∷ x 7 ∷ []

abbrev pub direct_message : (ℕ → ℕ) → (ℕ → ℕ) → DirectMessage
direct_message w x =
    record { function = w 0; sender = high_endpoint (w 1); receiver = low_endpoint (w 1); flags = w 2; payload = payload x }

-- of a call on notifications, whose ends stand in w1 in the same way; w3 has the bitmap's low half, and w4 its high half
abbrev pub notification_bits : (ℕ → ℕ) → NotificationBits
notification_bits w =
    record { sender = high_endpoint (w 1); receiver = low_endpoint (w 1); flags = w 2; bitmap = word_of_halves (w 3) (w 4) }

-- of a call whose descriptor stands in TX
abbrev pub transfer : (ℕ → ℕ) → (ℕ → ℕ) → Transfer
transfer w x = record { total = w 1; fragment = w 2; address = x 3; pages = w 4 }

abbrev pub setup : List Function
setup =
    narrow FFA_VERSION (λ w. Version (w 1))
    ∷ narrow FFA_FEATURES (λ w. Features (w 1))
    ∷ narrow FFA_RX_RELEASE (λ w. RxRelease)
    ∷ wide FFA_RXTX_MAP (λ w x. RxtxMap (x 1) (x 2) (w 3))
    ∷ narrow FFA_RXTX_UNMAP (λ w. RxtxUnmap (w 1))
    ∷ narrow FFA_PARTITION_INFO_GET (λ w. PartitionInfoGet (w 1 ∷ w 2 ∷ w 3 ∷ w 4 ∷ []) (w 5))
    ∷ narrow FFA_ID_GET (λ w. IdGet)
    ∷ []

-- those of run states, and direct messages
abbrev pub messages : List Function
messages =
    narrow FFA_MSG_WAIT (λ w. MsgWait (w 2))
    ∷ narrow FFA_YIELD (λ w. Yield)
    ∷ narrow FFA_RUN (λ w. Run (high_endpoint (w 1)) (low_half (w 1)))
    ∷ wide FFA_MSG_SEND_DIRECT_REQ (λ w x. DirectRequest (direct_message w x))
    ∷ wide FFA_MSG_SEND_DIRECT_RESP (λ w x. DirectResponse (direct_message w x))
    ∷ []

abbrev pub memory : List Function
memory =
    wide FFA_MEM_DONATE (λ w x. MemDonate (transfer w x))
    ∷ wide FFA_MEM_LEND (λ w x. MemLend (transfer w x))
    ∷ wide FFA_MEM_SHARE (λ w x. MemShare (transfer w x))
    ∷ wide FFA_MEM_RETRIEVE_REQ (λ w x. MemRetrieve (transfer w x))
    ∷ narrow FFA_MEM_RELINQUISH (λ w. MemRelinquish)
    ∷ narrow FFA_MEM_RECLAIM (λ w. MemReclaim (record { 0 = word_of_halves (w 1) (w 2) }) (w 3))
    ∷ []

abbrev pub notifications : List Function
notifications =
    narrow FFA_NOTIFICATION_BITMAP_CREATE (λ w. BitmapCreate (w 1) (w 2))
    ∷ narrow FFA_NOTIFICATION_BITMAP_DESTROY (λ w. BitmapDestroy (w 1))
    ∷ narrow FFA_NOTIFICATION_BIND (λ w. NotificationBind (notification_bits w))
    ∷ narrow FFA_NOTIFICATION_UNBIND (λ w. NotificationUnbind (notification_bits w))
    ∷ narrow FFA_NOTIFICATION_SET (λ w. NotificationSet (notification_bits w))
    ∷ narrow FFA_NOTIFICATION_GET (λ w. NotificationGet (low_endpoint (w 1)) (high_half (w 1)) (w 2))
    ∷ []

-- those that version 1.1 added beside these
abbrev pub additions : List Function
additions =
    narrow FFA_SPM_ID_GET (λ w. SpmIdGet)
    ∷ narrow FFA_MSG_SEND2 (λ w. MsgSend2)
    ∷ []

-- and that of notices, whose answer fills whole registers in the 64-bit form
abbrev pub notices : List Function
notices = wide FFA_NOTIFICATION_INFO_GET (λ w x. NotificationInfoGet (not (w 0 == FFA_NOTIFICATION_INFO_GET))) ∷ []

abbrev pub functions : List Function
functions = setup ++ messages ++ memory ++ notifications ++ additions ++ notices

-- the identifier of the 64-bit form has bit 30 set
abbrev pub wide_of : ℕ → ℕ
wide_of function = function + 2 ^ 30

abbrev pub is_form_of : ℕ → Function → Bool
is_form_of w0 f = w0 == f.function || (f.is_wide && w0 == wide_of f.function)

-- the call of which a number is the identifier, in either form that the call has
abbrev pub function_of : ℕ → Option Function
function_of w0 = find (is_form_of w0) functions

-- whether a number is the identifier of a call
abbrev pub is_function : ℕ → Bool
is_function w0 = is_some (function_of w0)

abbrev pub called : List ℕ → Option Function → Call
called registers None = Unknown
called registers (Some function) =
    function.call (λ i. low (slice_index registers i)) (λ i. if low (slice_index registers 0) == function.function then low (slice_index registers i) else slice_index registers i)

-- the call in the eight registers
unfoldable pub decode : List ℕ → Call
decode registers = called registers (function_of (low (slice_index registers 0)))
