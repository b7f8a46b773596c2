-- SPDX-License-Identifier: MIT OR Apache-2.0
-- Loads, stores and fetches: in the runner's view, and to others.
use Rattle.std.proofs.Common.{◌≡◌, ◌∙◌, ℕ, ◌-◌, ◌/◌, ◌%◌, Bool, true, false, cond, List, [], ◌∷◌, Option, Some, None, is_some, refl, sym, ap, arith, ◌==◌, ◌&&◌, nat_le, nat_lt, ◌^◌}
use Rattle.std.specs.Option.{option_and_then}
use Rattle.std.proofs.lemmas.Bool.{false≢true}
use Rattle.byteorder.specs.Endian.{little_bytes}
use Rattle.ffa_model.specs.declared.rights.Rights.{Rights}
use Rattle.ffa_model.specs.declared.operation.Size.{Size}
use Rattle.ffa_model.specs.declared.operation.FaultKind.{FaultKind}
use Rattle.ffa_model.specs.declared.operation.Outcome.{Outcome}
use Rattle.ffa_model.specs.declared.operation.Outcome.TheVariants.{Data, Done}
use Rattle.ffa_model.specs.Rights.{may_store, may_fetch}
use Rattle.ffa_model.specs.Ram.{number_in}
use Rattle.ffa_model.specs.State.{State}
use Rattle.ffa_model.specs.Access.{access}
use Rattle.ffa_model.specs.Memory.{access_at, accessed, fault_of, fetch, fetch_fault, load, number_at, page_of_address, read_fault, size_of, store, store_fault, stored, written_pages}
use Rattle.ffa_model.specs.RunStates.{schedule_of}
use Rattle.ffa_laws.specs.Steady.{IsSteady}
use Rattle.ffa_laws.specs.View.{view, is_near}
use Rattle.ffa_laws.specs.Events.{Event, Wrote, apply_all, where_passed, where_true, writes}
use Rattle.ffa_laws.proofs.Views.{view-access, access-near, near-bytes}
use Rattle.ffa_laws.proofs.Form.{viewed, accessed-own, accessed-kept}
use Rattle.ffa_laws.proofs.Changes.{with_parts}
use Rattle.ffa_laws.proofs.Written.{far-written, rewritten-written, view-written}
use Rattle.ffa_laws.proofs.Steadies.{steady-changed}

-- an access without a fault has a right that allows it
pub fault-none : (aligned : Bool) (right : Option Rights) (allowed : Option Rights → Bool) → fault_of aligned right allowed ≡ None → is_some right ≡ true
fault-none true (Some right) allowed none = refl
fault-none true None allowed none = absurd (some_none none)
  where
    some_none : {x : FaultKind} → Some x ≡ None → ⊥
    some_none e = cc
fault-none false right allowed none = absurd (some_none none)
  where
    some_none : {x : FaultKind} → Some x ≡ None → ⊥
    some_none e = cc

module _ (e : ℕ) (s : State) (steady : IsSteady s) where
  view-access_at : (address : ℕ) → access_at (view e s) e address ≡ access_at s e address
  view-access_at address =
      elim (page_of_address s address) as (λ o. option_and_then (access (view e s) e) o ≡ option_and_then (access s e) o) [ None ↦ refl | Some p ↦ view-access e s steady p ]

  reached-near : (address : ℕ) → is_some (access_at s e address) ≡ true → is_near e s ((address - s.ram_base) / 4096) ≡ true
  reached-near address =
      elim (nat_le s.ram_base address && nat_lt address (2 ^ 32)) as (λ b. is_some (option_and_then (access s e) (cond b (Some ((address - s.ram_base) / 4096)) None)) ≡ true → is_near e s ((address - s.ram_base) / 4096) ≡ true) [
        | true ↦ λ some. access-near e s steady ((address - s.ram_base) / 4096) some
        | false ↦ λ some. absurd (false≢true some)
      ]

  number-seen : (address n : ℕ) → is_some (access_at s e address) ≡ true → number_at (view e s) address n ≡ number_at s address n
  number-seen address n some = ap (λ bytes. number_in bytes (address % 4096) n) (near-bytes e s ((address - s.ram_base) / 4096) (reached-near address some))

module _ (s : State) (steady : IsSteady s) where
  pub own-load : (address : ℕ) (size : Size) → load (view s.runner s) address size ≡ viewed s.runner (load s address size)
  own-load address size =
      accessed-own s.runner s s (view s.runner s) _ _ (read_fault s address (size_of size)) _
      (ap (λ right. fault_of (address % size_of size == 0) right (λ r. true)) (view-access_at s.runner s steady address))
      (λ none. (refl, ap Data (number-seen s.runner s steady address (size_of size) (fault-none (address % size_of size == 0) (access_at s s.runner address) (λ r. true) none))))

  pub own-fetch : (address : ℕ) → fetch (view s.runner s) address ≡ viewed s.runner (fetch s address)
  own-fetch address =
      accessed-own s.runner s s (view s.runner s) _ _ (fetch_fault s address) _
      (ap (λ right. fault_of (address % 4 == 0) right may_fetch) (view-access_at s.runner s steady address))
      (λ none. (refl, ap Data (number-seen s.runner s steady address 4 (fault-none (address % 4 == 0) (access_at s s.runner address) may_fetch none))))

  pub own-store : (address : ℕ) (size : Size) (value : ℕ) → store (view s.runner s) address size value ≡ viewed s.runner (store s address size value)
  own-store address size value =
      accessed-own s.runner s (stored s address (little_bytes (size_of size) value)) (stored (view s.runner s) address (little_bytes (size_of size) value)) Done Done (store_fault s address (size_of size)) _
      (ap (λ right. fault_of (address % size_of size == 0) right may_store) (view-access_at s.runner s steady address))
      (λ none. (sym (view-written s.runner s ((address - s.ram_base) / 4096) (address % 4096) (little_bytes (size_of size) value)), refl))

  pub steady-store : (address : ℕ) (size : Size) (value : ℕ) → IsSteady (store s address size value).state
  steady-store address size value =
      accessed-kept IsSteady s (stored s address (little_bytes (size_of size) value)) Done (store_fault s address (size_of size)) steady
      (λ none.
      steady-changed s steady (written_pages s.pages ((address - s.ram_base) / 4096) (address % 4096) (little_bytes (size_of size) value)) s.buffers (schedule_of s)
      (rewritten-written s.pages ((address - s.ram_base) / 4096) (address % 4096) (little_bytes (size_of size) value)) refl steady.runner steady.requesters steady.buffers)

-- a fault tells nothing
accessed-other : (e : ℕ) (s new : State) (outcome : Outcome) (failure : Option FaultKind) (told : List Event) → view e new ≡ apply_all e (view e s) told
    → view e (accessed failure s new outcome).state ≡ apply_all e (view e s) (where_passed failure told)
accessed-other e s new outcome None told change = change
accessed-other e s new outcome (Some fault) told change = refl

pub other-load : (e : ℕ) (s : State) (address : ℕ) (size : Size) → view e (load s address size).state ≡ view e s
other-load e s address size = elim (read_fault s address (size_of size)) as (λ f. view e (accessed f s s (Data (number_at s address (size_of size)))).state ≡ view e s) [ None ↦ refl | Some fault ↦ refl ]

pub other-fetch : (e : ℕ) (s : State) (address : ℕ) → view e (fetch s address).state ≡ view e s
other-fetch e s address = elim (fetch_fault s address) as (λ f. view e (accessed f s s (Data (number_at s address 4))).state ≡ view e s) [ None ↦ refl | Some fault ↦ refl ]

-- a write that is told wherever its page is near
told-write : (e : ℕ) (s : State) (address : ℕ) (bytes : List ℕ) (told : Bool) → (is_near e s ((address - s.ram_base) / 4096) ≡ true → told ≡ true)
    → with_parts (view e s) (written_pages (view e s).pages ((address - s.ram_base) / 4096) (address % 4096) bytes) (view e s).buffers (schedule_of s) ≡ apply_all e (view e s) (where_true told (Wrote address bytes ∷ []))
told-write e s address bytes true near = refl
told-write e s address bytes false near =
    λ i. with_parts (view e s) (far-written e s ((address - s.ram_base) / 4096) (address % 4096) bytes (far (is_near e s ((address - s.ram_base) / 4096)) near) i) (view e s).buffers (schedule_of s)
  where
    far : (b : Bool) → (b ≡ true → false ≡ true) → b ≡ false
    far true none = sym (none refl)
    far false none = refl

pub other-store : (e : ℕ) (s : State) (address : ℕ) (size : Size) (value : ℕ)
    → view e (store s address size value).state ≡ apply_all e (view e s) (where_passed (store_fault s address (size_of size)) (writes e s address (little_bytes (size_of size) value)))
other-store e s address size value =
    accessed-other e s (stored s address bytes) Done (store_fault s address (size_of size)) (writes e s address bytes) (
    view-written e s ((address - s.ram_base) / 4096) (address % 4096) bytes ∙ told-write e s address bytes _ (λ near. grind (arith, near)))
  where
    bytes : List ℕ
    bytes = little_bytes (size_of size) value

pub steady-load : (s : State) → IsSteady s → (address : ℕ) (size : Size) → IsSteady (load s address size).state
steady-load s steady address size = accessed-kept IsSteady s s (Data (number_at s address (size_of size))) (read_fault s address (size_of size)) steady (λ none. steady)

pub steady-fetch : (s : State) → IsSteady s → (address : ℕ) → IsSteady (fetch s address).state
steady-fetch s steady address = accessed-kept IsSteady s s (Data (number_at s address 4)) (fetch_fault s address) steady (λ none. steady)
