-- SPDX-License-Identifier: MIT OR Apache-2.0
-- What each call's part of the manager promises follows from what it keeps where it refuses.
use Rattle.std.proofs.Common.{◌≡◌, ◌∙◌, ℕ, Bool, None, true, false, cond, List, [], ◌∷◌, Option, Some, Result, Ok, Err, refl, sym, ap, subst}
use Rattle.std.specs.Prelude.{IfOk, OnErr, OnOk}
use Rattle.std.specs.Option.{option_or}
use Rattle.std.proofs.lemmas.Bool.{true≢false}
use Rattle.ffa_laws.specs.OwnAccess.{is_memory_call}
use Rattle.ffa_model.specs.declared.call.Call as calls
use Rattle.ffa_model.specs.declared.call.DirectMessage.{DirectMessage}
use Rattle.ffa_model.specs.declared.call.Reply.{Reply}
use Rattle.ffa_model.specs.declared.call.Reply.TheVariants.{Error, Passed}
use Rattle.ffa_model.specs.declared.operation.ErrorCode.{ErrorCode}
use Rattle.ffa_model.specs.declared.operation.ErrorCode.TheVariants.{NotSupported}
use Rattle.ffa_model.specs.declared.refusal.Refusal.TheVariants.{FunctionUnknown}
use Rattle.ffa_model.specs.Access.{access}
use Rattle.ffa_model.specs.Calls.{Service, Stepped, answered, first_failure, replied, served, success}
use Rattle.ffa_model.specs.Ram.{Ram, page_of}
use Rattle.ffa_model.specs.Refusals.{is_error}
use Rattle.ffa_model.specs.Setup.{features, features_reply, may_call}
use Rattle.ffa_model.specs.State.{Buffers, State, version_of}
use Rattle.ffa_model.specs.Step.{service}
use Rattle.ffa_memshare.specs.declared.changed.Changed.{Changed}
use Rattle.ffa_memshare.specs.declared.changed.Value.{Value}
use Rattle.ffa_memshare.specs.declared.changed.Value.TheVariants.{Nothing, Handle, Size}
use Rattle.ffa_memshare.specs.Stored.{Pooled}
use Rattle.ffa_pages.specs.Entry.{Entry}
use Rattle.ffa_physmem.specs.Moments.{Past}
use Rattle.ffa_tlb.specs.declared.translations.Entry.{Entry as Held}
use Rattle.ffa_spmc.specs.AccessChange.{IsAccessChange}
use Rattle.ffa_spmc.specs.Managed.{Managed}
use Rattle.ffa_spmc.specs.Meaning.{Parts, state_of}
use Rattle.ffa_spmc.specs.Replies.{change_told, done_or_error, message_or_error, reply_of, reply_or_error, value_or_error, value_reply}
use Rattle.ffa_spmc.specs.Served.{IsAnswered, IsReplied, IsSilent, IsTold}
use Rattle.ffa_spmc.specs.Moments.{AreMoments}
use Rattle.ffa_physmem.specs.Work.{AddsAtMost, Work, no_work}
use Rattle.ffa_physmem.proofs.Work.{adds-none}
use Rattle.ffa_spmc.specs.Work.{call_work}
use Rattle.ffa_spmc.specs.Unowned.{KeepsUnowned}
use Rattle.ffa_spmc.proofs.AccessChanges.{access-served, none-changed}
use Rattle.ffa_spmc.proofs.Moments.{no-moments, still-moments}

-- what contracts see of the parts
abbrev pub managed_of : Parts → Past → Managed
managed_of x past = record { state = state_of x; ram = x.ram; past = past }

-- where what is done is told without an error, an error is a refusal
pub refused-told : {X P : Type 0} (told : X → Reply) (r : Result X ErrorCode) (reply : Reply) → reply ≡ reply_of told r
    → ((x : X) → is_error (told x) ≡ false) → OnErr r P → is_error reply ≡ true → P
refused-told told (Ok x) reply is plain kept error = absurd (true≢false (sym error ∙ ap is_error is ∙ plain x))
refused-told told (Err code) reply is plain kept error = kept

-- a value is no error
plain-value : (value : Value) → is_error (value_reply value) ≡ false
plain-value Nothing = refl
plain-value (Handle h) = refl
plain-value (Size size) = refl

pub refused-value : {P : Type 0} (r : Result Value ErrorCode) → OnErr r P → is_error (value_or_error r) ≡ true → P
refused-value r kept = refused-told value_reply r (value_or_error r) refl plain-value kept

pub refused-done : {X P : Type 0} (r : Result X ErrorCode) (reply : Reply) → reply ≡ done_or_error r → OnErr r P → is_error reply ≡ true → P
refused-done r reply is kept = refused-told (λ done. success 0 0) r reply is (λ done. refl) kept

pub refused-message : {P : Type 0} {X : Type 0} (message : DirectMessage) (r : Result X ErrorCode) (reply : Reply) → reply ≡ message_or_error message r
    → is_error (Passed message) ≡ false → OnErr r P → is_error reply ≡ true → P
refused-message message (Ok done) reply is plain kept error = absurd (true≢false (sym error ∙ ap is_error is ∙ plain))
refused-message message (Err code) reply is plain kept error = kept

pub refused-replied : {P : Type 0} (r : Result Reply ErrorCode) (reply told : Reply) → reply ≡ reply_or_error r → IfOk r (λ y. y ≡ told)
    → is_error told ≡ false → OnErr r P → is_error reply ≡ true → P
refused-replied (Ok y) reply told is so plain kept error = absurd (true≢false (sym error ∙ ap is_error (is ∙ so) ∙ plain))
refused-replied (Err code) reply told is so plain kept error = kept

-- what is done is told, and a refusal leaves what was told
pub told-of : {X : Type 0} (r : Result X ErrorCode) (before now : Option Changed) → OnErr r (now ≡ before) → OnOk r ((change : Changed) × (now ≡ Some change))
    → now ≡ option_or (change_told r now) before
told-of (Ok x) before now kept told = told.1 ∙ ap (λ o. option_or o before) (sym told.1)
told-of (Err code) before now kept told = kept

-- a refusal tells no change
silent-refusal : {X : Type 0} (r : Result X ErrorCode) (news : Option Changed) → OnErr r (change_told r news ≡ None)
silent-refusal (Ok x) news = tt
silent-refusal (Err code) news = refl

-- a refused call on memory keeps all parts
pub kept-memory : {X : Type 0} (x : Parts) (r : Result X ErrorCode) (ram : Ram) (pages : List (Option Entry)) (pool : Pooled)
    → OnErr r (ram ≡ x.ram) → OnErr r (pages ≡ x.kept.pages) → OnErr r (pool ≡ x.kept.pool)
    → OnErr r (record x { ram = ram; kept = record x.kept { pages = pages; pool = pool } } ≡ x)
kept-memory x (Ok done) ram pages pool same_ram same_pages same_pool = tt
kept-memory x (Err code) ram pages pool same_ram same_pages same_pool =
    λ i. record x { ram = same_ram i; kept = record x.kept { pages = same_pages i; pool = same_pool i } }

pub kept-buffers : {X : Type 0} (x : Parts) (r : Result X ErrorCode) (ram : Ram) (pages : List (Option Entry)) (pool : Pooled) (buffers : List (Option Buffers))
    → OnErr r (ram ≡ x.ram) → OnErr r (pages ≡ x.kept.pages) → OnErr r (pool ≡ x.kept.pool) → OnErr r (buffers ≡ x.kept.buffers)
    → OnErr r (record x { ram = ram; kept = record x.kept { pages = pages; pool = pool; buffers = buffers } } ≡ x)
kept-buffers x (Ok done) ram pages pool buffers same_ram same_pages same_pool same_buffers = tt
kept-buffers x (Err code) ram pages pool buffers same_ram same_pages same_pool same_buffers =
    λ i. record x { ram = same_ram i; kept = record x.kept { pages = same_pages i; pool = same_pool i; buffers = same_buffers i } }

-- what is so of the parts is so of what contracts see
module _ (x y : Parts) {past : Past} (now : Managed) (seen : managed_of x past ≡ now) (c : State → Service) (reply : Reply) where
  pub replied-with : (later : Past) → replied (state_of y) reply ≡ served (state_of x) (c (state_of x)) → (is_error reply ≡ true → y ≡ x) → (is_error reply ≡ true → later ≡ past)
      → KeepsUnowned (state_of x) x.ram y.ram → AreMoments (state_of x) x.ram y.ram past later → (most : State → Work) → AddsAtMost past later (most (state_of x))
      → IsReplied now (managed_of y later) (c now.state) (most now.state) reply
  replied-with later is kept kept_past unowned moments most few =
      record {
        served = is ∙ ap (λ (m : Managed). served m.state (c m.state)) seen;
        refused = λ error. (λ i. managed_of (kept error i) (kept_past error i)) ∙ seen;
        unowned = subst (λ (m : Managed). KeepsUnowned m.state m.ram y.ram) seen unowned;
        moments = subst (λ (m : Managed). AreMoments m.state m.ram y.ram m.past later) seen moments;
        few = subst (λ (m : Managed). AddsAtMost m.past later (most m.state)) seen few;
      }

  -- where RAM is left as it was
  pub replied-beside : replied (state_of y) reply ≡ served (state_of x) (c (state_of x)) → (is_error reply ≡ true → y ≡ x) → y.ram ≡ x.ram
      → IsReplied now (managed_of y past) (c now.state) no_work reply
  replied-beside is kept same = replied-with past is kept (λ error. refl) (λ p behind none. ap (λ (r : Ram). page_of r p) same)
      (still-moments (state_of x) x.ram y.ram past past same refl) (λ _. no_work) (adds-none no_work)

-- and of a call on memory, after which these are the news
module _ (x y : Parts) {past : Past} (now : Managed) (seen : managed_of x past ≡ now) (c : State → Service) (r : Result Value ErrorCode) (news : Option Changed) where
  pub told-with : (later : Past) → replied (state_of y) (value_or_error r) ≡ served (state_of x) (c (state_of x)) → OnErr r (y ≡ x) → OnErr r (later ≡ past)
      → KeepsUnowned (state_of x) x.ram y.ram → AreMoments (state_of x) x.ram y.ram past later → IsAccessChange (state_of x) (state_of y) (change_told r news)
      → (most : State → Work) → AddsAtMost past later (most (state_of x)) → IsTold now (managed_of y later) (c now.state) (most now.state) r news
  told-with later is kept kept_past unowned moments change most few =
      record {
        replied = replied-with x y now seen c (value_or_error r) later is (refused-value r kept) (refused-value r kept_past) unowned moments most few;
        access = subst (λ (m : Managed). IsAccessChange m.state (state_of y) (change_told r news)) seen change;
        unchanged = refused-value r (silent-refusal r news);
      }

-- a call that changes nothing
pub replied-still : (old : Managed) (c : Service) (reply : Reply) → replied old.state reply ≡ served old.state c → IsReplied old old c no_work reply
replied-still old c reply is =
    record { served = is; refused = λ error. refl; unowned = λ p behind none. refl; moments = no-moments old.state old.ram old.past; few = adds-none no_work }

-- FFA_FEATURES answers alike where its check fails and where it passes
featured : (may : Bool) (s : State) (told : Reply) → replied s (cond may told (Error NotSupported))
    ≡ answered (first_failure ((may, FunctionUnknown) ∷ [])) s s (cond may told (Error NotSupported))
featured true s told = refl
featured false s told = refl

pub replied-features : (old : Managed) (function : ℕ) (reply : Reply) → reply ≡ features_reply old.state.ffa old.state.runner (version_of old.state old.state.runner) function
    → IsReplied old old (features old.state function) no_work reply
replied-features old function reply is =
    replied-still old (features old.state function) reply
    (ap (replied old.state) is ∙ featured (may_call old.state.ffa old.state.runner function) old.state _)

-- a call that isn't on memory changes nobody's access, and what a cache holds stays
pub answered-beside : (old new : Managed) (held : List Held) (told : Option Changed) (call same : calls.Call) (reply : Reply) → call ≡ same → is_memory_call same ≡ false
    → IsReplied old new (service old.state same) (call_work old.state same) reply → IsAnswered old new held held told told (is_memory_call call) (service old.state call) (call_work old.state call) reply
answered-beside old new held told call same reply is beside its =
    subst (λ (a : calls.Call). IsAnswered old new held held told told (is_memory_call a) (service old.state a) (call_work old.state a) reply) (sym is)
    (record {
      changed = None;
      replied = its;
      forgotten = record {
        access = none-changed old.state new.state (λ e p. ap (λ (t : Stepped). access t.state e p) its.served ∙ access-served old.state e p same beside);
        rest = λ e p. refl;
      };
      told = refl;
      silent = subst (λ (b : Bool). IsSilent b None) (sym beside) refl;
      unchanged = λ error. refl;
      untold = λ error. refl;
    })

-- a call on memory is answered by its part
pub answered-as : (old new : Managed) (held kept : List Held) (before now : Option Changed) (call same : calls.Call) (reply : Reply) → call ≡ same
    → IsAnswered old new held kept before now (is_memory_call same) (service old.state same) (call_work old.state same) reply → IsAnswered old new held kept before now (is_memory_call call) (service old.state call) (call_work old.state call) reply
answered-as old new held kept before now call same reply is its =
    subst (λ (a : calls.Call). IsAnswered old new held kept before now (is_memory_call a) (service old.state a) (call_work old.state a) reply) (sym is) its
