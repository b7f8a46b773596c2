-- SPDX-License-Identifier: MIT OR Apache-2.0
-- What holds of each call that registers hold, by the rows of the definition's table and of the code's.
use Rattle.std.proofs.Common.{◌≡◌, ℕ, ◌<◌, ◌^◌, Bool, true, false, cond, List, [], ◌∷◌, length, map, not, Option, Some, None, refl, sym, ap, arith, ◌==◌, ◌&&◌, ◌||◌, find, slice_index, if◌then◌else◌}
use Rattle.std.specs.List.{list_any}
use Rattle.std.specs.Option.{option_map_or}
use Rattle.std.proofs.lemmas.Bool.{not-true}
use Rattle.std.proofs.lemmas.Bool.Decides.{nat_tests}
use Rattle.std.proofs.lemmas.Option.{none-some}
use Rattle.ffa_model.specs.declared.call.Call.{Call}
use Rattle.ffa_model.specs.declared.call.Call.TheVariants.{NotificationSet}
use Rattle.ffa_model.specs.declared.call.Reply.TheVariants as replies
use Rattle.ffa_model.specs.declared.call.Reply.TheVariants.{Error}
use Rattle.ffa_model.specs.declared.operation.ErrorCode.TheVariants.{NotSupported}
use Rattle.ffa_model.specs.declared.refusal.Refusal.TheVariants.{FunctionUnknown}
use Rattle.ffa_model.specs.declared.rights.Kind.TheVariants.{Share, Lend, Donate}
use Rattle.ffa_model.specs.declared.schedule.Status.{Status}
use Rattle.ffa_model.specs.declared.schedule.Status.TheVariants.{Waiting}
use Rattle.ffa_model.specs.Bits.{high_half, word_of_halves}
use Rattle.ffa_model.specs.Calls.{Service, first_failure, success}
use Rattle.ffa_model.specs.declared.call.Transfer.{Transfer}
use Rattle.ffa_model.specs.HypervisorRetrieve.{asks_back, retrieve_by}
use Rattle.ffa_model.specs.MemoryReturn.{relinquish_read}
use Rattle.ffa_model.specs.MemorySend.{send_read}
use Rattle.ffa_model.specs.declared.function.TheConstants.{FFA_NOTIFICATION_INFO_GET}
use Rattle.ffa_model.specs.Notices.{endpoints_to_tell, notice_reply}
use Rattle.ffa_model.specs.Notifications.{notifications_of}
use Rattle.ffa_model.specs.Refusals.{is_error, passes_no_error}
use Rattle.ffa_model.specs.Registers.{Function, called, decode, function_of, functions, is_form_of, low, transfer, wide_of}
use Rattle.ffa_model.specs.Rows.{Row, is_row_of, is_wide, row_of, rows}
use Rattle.ffa_model.specs.RunStates.{run_reply, schedule_of, status_in}
use Rattle.ffa_model.specs.declared.manifest.Ffa.{Ffa}
use Rattle.ffa_model.specs.declared.manifest.Ffa.TheVariants as served
use Rattle.ffa_model.specs.Setup.{may_call, version_answer}
use Rattle.ffa_model.specs.State.{State, buffers_of}
use Rattle.ffa_model.specs.Step.{service}
use Rattle.ffa_model.specs.Transactions.{open_of, scene_of}
use Rattle.ffa_model.specs.Checks.{AreListed, checks_of}
use Rattle.ffa_model.proofs.CheckLists.{relinquish_listed, retrieve_listed, send_listed}

run-no-error : (target : ℕ) (status : Status) → is_error (run_reply target status) ≡ false
run-no-error target Waiting = refl
run-no-error target _ = refl

version-no-error : (known : Bool) → is_error (cond known (replies.Version 0x10001) (replies.Version 0xFFFFFFFF)) ≡ false
version-no-error true = refl
version-no-error false = refl

later-no-error : (known : Bool) → is_error (cond known (replies.Version 0x10002) (replies.Version 0xFFFFFFFF)) ≡ false
later-no-error true = refl
later-no-error false = refl

answer-no-error : (ffa : Ffa) (s : State) (word : ℕ) → is_error (version_answer ffa s word) ≡ false
answer-no-error served.V1_1 s word = version-no-error _
answer-no-error served.V1_2 s word = later-no-error _

feature-no-error : (properties : ℕ) (served : Bool) → first_failure ((served, FunctionUnknown) ∷ []) ≡ None → is_error (cond served (success properties 0) (Error NotSupported)) ≡ false
feature-no-error properties true none = refl
feature-no-error properties false none = absurd (none-some NotSupported (sym none))

-- the answer of FFA_NOTIFICATION_INFO_GET is seen as FFA_SUCCESS
pub notice-no-error : (ids : List ℕ) (is_wide : Bool) → is_error (notice_reply is_wide ids) ≡ false
notice-no-error ids true = refl
notice-no-error ids false = refl

retrieve-no-error : (s : State) (x : Transfer) (back : Bool) → is_error (retrieve_by back s x).reply ≡ false
retrieve-no-error s x true = refl
retrieve-no-error s x false = refl

-- the bitmap of FFA_NOTIFICATION_SET has 64 bits
abbrev pub FitsBitmap : Call → Type 0
FitsBitmap (NotificationSet its) = its.bitmap < 2 ^ 64
FitsBitmap call = Unit {0}

fits-bitmap : (low high : ℕ) → low < 2 ^ 32 → high < 2 ^ 32 → word_of_halves low high < 2 ^ 64
fits-bitmap low high lt also = omega arith

-- what no guard refuses isn't seen as FFA_ERROR
abbrev HasNoError : Service → Type 0
HasNoError c = first_failure c.guards ≡ None → is_error c.reply ≡ false

-- a function and its row: in either form it passes no error on, it reads whole no register that the row doesn't list, its
-- guards are the checks that the row lists, what none of them refuses isn't seen as FFA_ERROR, and a bitmap has 64 bits
abbrev IsServed : Function → Row → Type 0
IsServed f row =
    ((w x : ℕ → ℕ) → is_form_of (w 0) f ≡ true → passes_no_error (f.call w x) ≡ true)
    × ((w x : ℕ → ℕ) → f.call w x ≡ f.call w (λ i. if list_any (λ whole. whole == i) row.whole then x i else w i))
    × ((s : State) (w x : ℕ → ℕ) → AreListed s (f.call w x) row.checks)
    × ((s : State) (w x : ℕ → ℕ) → passes_no_error (f.call w x) ≡ true → HasNoError (service s (f.call w x)))
    × ((w x : ℕ → ℕ) → ((i : ℕ) → w i < 2 ^ 32) → FitsBitmap (f.call w x))

-- what is so of each function and its row
abbrev pub AreAll : (Function → Row → Type 0) → List Function → List Row → Type 0
AreAll Q [] rs = Unit {0}
AreAll Q (f ∷ fs) [] = Unit {0}
AreAll Q (f ∷ fs) (row ∷ rs) = Q f row × AreAll Q fs rs

infixr 20 ◌▸◌
pub ◌▸◌ : {A B : Type 0} → A → B → A × B
a ▸ b = (a, b)

functions-served : AreAll IsServed functions rows
functions-served =
    (λ w x form. refl, λ w x. refl, λ s w x. (0, refl), λ s w x named none. answer-no-error s.ffa s (w 1), λ w x narrow. tt)
    ▸ (λ w x form. refl, λ w x. refl, λ s w x. (0, refl), λ s w x named none. feature-no-error _ (may_call s.ffa s.runner (w 1)) none, λ w x narrow. tt)
    ▸ (λ w x form. refl, λ w x. refl, λ s w x. (0, refl), λ s w x named none. refl, λ w x narrow. tt)
    ▸ (λ w x form. refl, λ w x. refl, λ s w x. (0, refl), λ s w x named none. refl, λ w x narrow. tt)
    ▸ (λ w x form. refl, λ w x. refl, λ s w x. (0, refl), λ s w x named none. refl, λ w x narrow. tt)
    ▸ (λ w x form. refl, λ w x. refl, λ s w x. (0, refl), λ s w x named none. refl, λ w x narrow. tt)
    ▸ (λ w x form. refl, λ w x. refl, λ s w x. (0, refl), λ s w x named none. refl, λ w x narrow. tt)
    ▸ (λ w x form. refl, λ w x. refl, λ s w x. (0, refl), λ s w x named none. refl, λ w x narrow. tt)
    ▸ (λ w x form. refl, λ w x. refl, λ s w x. (0, refl), λ s w x named none. refl, λ w x narrow. tt)
    ▸ (λ w x form. refl, λ w x. refl, λ s w x. (0, refl), λ s w x named none. run-no-error (high_half (w 1)) (status_in (schedule_of s) (high_half (w 1))), λ w x narrow. tt)
    ▸ (λ w x form. grind (arith, nat_tests, form), λ w x. refl, λ s w x. (0, refl), λ s w x named none. not-true _ named, λ w x narrow. tt)
    ▸ (λ w x form. grind (arith, nat_tests, form), λ w x. refl, λ s w x. (0, refl), λ s w x named none. not-true _ named, λ w x narrow. tt)
    ▸ (λ w x form. refl, λ w x. refl, λ s w x. send_listed s.ffa (scene_of s) s.runner (transfer w x) (send_read s Donate (w 1)), λ s w x named none. refl, λ w x narrow. tt)
    ▸ (λ w x form. refl, λ w x. refl, λ s w x. send_listed s.ffa (scene_of s) s.runner (transfer w x) (send_read s Lend (w 1)), λ s w x named none. refl, λ w x narrow. tt)
    ▸ (λ w x form. refl, λ w x. refl, λ s w x. send_listed s.ffa (scene_of s) s.runner (transfer w x) (send_read s Share (w 1)), λ s w x named none. refl, λ w x narrow. tt)
    ▸ (λ w x form. refl, λ w x. refl, λ s w x. retrieve_listed s (transfer w x) (asks_back s (transfer w x)), λ s w x named none. retrieve-no-error s (transfer w x) (asks_back s (transfer w x)), λ w x narrow. tt)
    ▸ (λ w x form. refl, λ w x. refl, λ s w x. relinquish_listed (buffers_of s s.runner) (open_of s) s.runner (relinquish_read s), λ s w x named none. refl, λ w x narrow. tt)
    ▸ (λ w x form. refl, λ w x. refl, λ s w x. (0, refl), λ s w x named none. refl, λ w x narrow. tt)
    ▸ (λ w x form. refl, λ w x. refl, λ s w x. (0, refl), λ s w x named none. refl, λ w x narrow. tt)
    ▸ (λ w x form. refl, λ w x. refl, λ s w x. (0, refl), λ s w x named none. refl, λ w x narrow. tt)
    ▸ (λ w x form. refl, λ w x. refl, λ s w x. (0, refl), λ s w x named none. refl, λ w x narrow. tt)
    ▸ (λ w x form. refl, λ w x. refl, λ s w x. (0, refl), λ s w x named none. refl, λ w x narrow. tt)
    ▸ (λ w x form. refl, λ w x. refl, λ s w x. (0, refl), λ s w x named none. refl, λ w x narrow. fits-bitmap (w 3) (w 4) (narrow 3) (narrow 4))
    ▸ (λ w x form. refl, λ w x. refl, λ s w x. (0, refl), λ s w x named none. refl, λ w x narrow. tt)
    ▸ (λ w x form. refl, λ w x. refl, λ s w x. (0, refl), λ s w x named none. refl, λ w x narrow. tt)
    ▸ (λ w x form. refl, λ w x. refl, λ s w x. (0, refl), λ s w x named none. refl, λ w x narrow. tt)
    ▸ (λ w x form. refl, λ w x. refl, λ s w x. (0, refl), λ s w x named none. notice-no-error (endpoints_to_tell (length s.parties) (notifications_of s)) (not (w 0 == FFA_NOTIFICATION_INFO_GET)), λ w x narrow. tt)
    ▸ tt

-- the identifier, and whether there is a 64-bit form
abbrev Key : Type 0
Key = ℕ × Bool

abbrev key_of : Function → Key
key_of f = (f.function, f.is_wide)

abbrev key_in : Row → Key
key_in row = (row.function, is_wide row)

abbrev is_key_of : ℕ → Key → Bool
is_key_of w0 key = w0 == key.0 || (key.1 && w0 == wide_of key.0)

rows-agree : map key_in rows ≡ map key_of functions
rows-agree = refl

-- what holds of each function with its row, and of none, holds of those that are found
module _ (Q : Function → Row → Type 0) (w0 : ℕ) (P : Option Function → Option Row → Type 0) (none : P None None)
    (some : (f : Function) (row : Row) → Q f row → is_form_of w0 f ≡ true → P (Some f) (Some row)) where
  found-in : (fs : List Function) (rs : List Row) → map key_in rs ≡ map key_of fs → AreAll Q fs rs → P (find (is_form_of w0) fs) (find (is_row_of w0) rs)
  found-in [] [] same are = none
  found-in [] (row ∷ rs) same are = absurd cc
  found-in (f ∷ fs) [] same are = absurd cc
  found-in (f ∷ fs) (row ∷ rs) same are =
      let key : key_in row ≡ key_of f = cc in
      let others : map key_in rs ≡ map key_of fs = cc in
      elim (is_form_of w0 f)
      as (λ b. is_row_of w0 row ≡ b → is_form_of w0 f ≡ b → P (cond b (Some f) (find (is_form_of w0) fs)) (find (is_row_of w0) (row ∷ rs))) [
        | true ↦ λ is form. rw is (some f row are.0 form)
        | false ↦ λ other form. rw other (found-in fs rs others are.1)
      ] (ap (is_key_of w0) key) refl

  pub found-all : AreAll Q functions rows → P (function_of w0) (row_of w0)
  unfolding row_of
  found-all = found-in functions rows rows-agree

found : (w0 : ℕ) (P : Option Function → Option Row → Type 0) → P None None
    → ((f : Function) (row : Row) → IsServed f row → is_form_of w0 f ≡ true → P (Some f) (Some row)) → P (function_of w0) (row_of w0)
found w0 P none some = found-all IsServed w0 P none some functions-served

-- no call passes on what is seen as FFA_ERROR
pub decode-named : (x : List ℕ) → passes_no_error (decode x) ≡ true
unfolding decode
decode-named x = found (low (slice_index x 0)) (λ o row. passes_no_error (called x o) ≡ true) refl (λ f row is form. is.0 _ _ form)

-- the guards of a call are the checks that its row lists
pub listed : (s : State) (x : List ℕ) → AreListed s (decode x) (checks_of (low (slice_index x 0)))
unfolding decode
listed s x =
    found (low (slice_index x 0)) (λ o row. AreListed s (called x o) (option_map_or (λ r. r.checks) row (FunctionUnknown ∷ []))) (0, refl) (λ f row is form. is.2 s _ _)

-- a call that no guard refuses isn't seen as FFA_ERROR
pub done-no-error : (s : State) (x : List ℕ) → HasNoError (service s (decode x))
unfolding decode
done-no-error s x =
    found (low (slice_index x 0)) (λ o row. HasNoError (service s (called x o))) (λ none. absurd (none-some NotSupported (sym none))) (λ f row is form. is.3 s _ _ (is.0 _ _ form))

pub decode-fits : (x : List ℕ) → FitsBitmap (decode x)
unfolding decode
decode-fits x = found (low (slice_index x 0)) (λ o row. FitsBitmap (called x o)) tt (λ f row is form. is.4 (λ i. low (slice_index x i)) _ (λ i. omega arith))
