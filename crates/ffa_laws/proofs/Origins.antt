-- SPDX-License-Identifier: MIT OR Apache-2.0
-- Where an open transaction comes from: it was open before, with the same ranges, or a send has just opened it.
use Rattle.std.proofs.Common.{◌≡◌, ◌∙◌, ◌⊎◌, ℕ, Bool, true, false, cond, Option, Some, None, refl, sym, ap, subst, inl, inr, ◌==◌, eqb-true}
use Rattle.std.specs.FinMap as finite
use Rattle.std.proofs.lemmas.Option.{none-some, same_Some}
use Rattle.byteorder.specs.Endian.{little_bytes}
use Rattle.ffa_model.specs.declared.call.Call as calls
use Rattle.ffa_model.specs.declared.call.Call.TheVariants.{PartitionInfoGet, MsgWait, MemDonate, MemLend, MemShare, MemRetrieve, MemRelinquish, MemReclaim, Version}
use Rattle.ffa_model.specs.declared.descriptor.RelinquishDesc.{RelinquishDesc}
use Rattle.ffa_model.specs.declared.operation.Op.{Op}
use Rattle.ffa_model.specs.declared.operation.Op.TheVariants.{Call, Load, Store, Fetch}
use Rattle.ffa_model.specs.declared.operation.Outcome.TheVariants.{Data, Done}
use Rattle.ffa_model.specs.declared.rights.Kind.{Kind}
use Rattle.ffa_model.specs.declared.rights.Kind.TheVariants.{Share, Lend, Donate}
use Rattle.ffa_model.specs.Buffers.{filled}
use Rattle.ffa_model.specs.Calls.{first_failure}
use Rattle.ffa_model.specs.Memory.{fetch_fault, number_at, read_fault, size_of, store_fault, stored}
use Rattle.ffa_model.specs.MemoryRetrieve.{receiver_retrieve}
use Rattle.ffa_model.specs.MemoryReturn.{relinquish_read, relinquished, relinquished_from}
use Rattle.ffa_model.specs.MemorySend.{memory_send, memory_sent, send_guards, send_read, transaction_sent}
use Rattle.ffa_model.specs.Registers.{decode}
use Rattle.ffa_model.specs.SendDescriptor.{SendRecord}
use Rattle.ffa_model.specs.Setup.{info_bytes, is_count_alone, uuid_bytes}
use Rattle.ffa_model.specs.State.{State, Transaction, transaction_of, version_of}
use Rattle.ffa_model.specs.Step.{service, step}
use Rattle.ffa_model.specs.declared.call.Transfer.{Transfer}
use Rattle.ffa_model.specs.Transactions.{holding, next_handle, not_holding, open_of, scene_of}
use Rattle.ffa_laws.proofs.Closed.{get-remove}
use Rattle.ffa_laws.proofs.Form.{accessed-kept, served-kept, waited-kept}
use Rattle.ffa_laws.proofs.Opened.{Transactions, get-insert}
use Rattle.ffa_laws.proofs.ReadBacks.{retrieve-kept}
use Rattle.ffa_laws.proofs.SendLaws.{IsOffer, no-offer, offer}
use Rattle.ffa_laws.proofs.Taken as retrieve
use Rattle.ffa_laws.proofs.Versions.{version-leaves}
use Rattle.ffa_laws.proofs.Taken.{Taken, state-taken, taken}

-- what is open under a handle was open before, and names the same pages
pub record WasOpen (m : Transactions) (h : ℕ) (u : Transaction) : Type 0 where
  pub before : Transaction
  pub there : finite.get m h ≡ Some before
  pub ranges : u.ranges ≡ before.ranges

abbrev Lasts : Transactions → Transactions → ℕ → Type 0
Lasts m n h = (u : Transaction) → finite.get n h ≡ Some u → WasOpen m h u

-- a send of the runner that has opened a handle
pub record IsOpened (s next : State) (h : ℕ) : Type 0 where
  pub kind : Kind
  pub read : SendRecord
  pub is : IsOffer s read
  pub state : next ≡ memory_sent s kind (Some read)
  pub handle : h ≡ next_handle (open_of s) s.runner

same-open : (m : Transactions) (h : ℕ) → Lasts m m h
same-open m h u is = record { before = u; there = is; ranges = refl }

with-open : (m : Transactions) (k : ℕ) (t new : Transaction) (h : ℕ) → finite.get m k ≡ Some t → new.ranges ≡ t.ranges → Lasts m (finite.insert m k new) h
with-open m k t new h there same u is = go (h == k) refl (sym (get-insert m k new h) ∙ is)
  where
    go : (b : Bool) → (h == k) ≡ b → cond b (Some new) (finite.get m h) ≡ Some u → WasOpen m h u
    go true here its = record { before = t; there = ap (finite.get m) (eqb-true h k here) ∙ there; ranges = ap (λ (x : Transaction). x.ranges) (sym (same_Some new u its)) ∙ same }
    go false beside its = record { before = u; there = its; ranges = refl }

without-open : (m : Transactions) (k h : ℕ) → Lasts m (finite.remove m k) h
without-open m k h u is = go (h == k) (sym (get-remove m k h) ∙ is)
  where
    go : (b : Bool) → cond b None (finite.get m h) ≡ Some u → WasOpen m h u
    go true none = absurd (none-some u none)
    go false its = record { before = u; there = its; ranges = refl }

abbrev pub Comes : State → ℕ → State → Type 0
Comes s h next = Lasts s.transactions next.transactions h ⊎ IsOpened s next h

module _ (s : State) (h : ℕ) where
  stays : Comes s h s
  stays = inl (same-open s.transactions h)

  comes-sent : (kind : Kind) (x : Transfer) → first_failure (memory_send s kind x).guards ≡ None → Comes s h (memory_send s kind x).state
  comes-sent kind x none = of (send_read s kind x.total) none
    where
      of : (o : Option SendRecord) → first_failure (send_guards s.ffa (scene_of s) s.runner x o) ≡ None → Comes s h (memory_sent s kind o)
      of None none = absurd (no-offer s x none)
      of (Some r) none = go (h == next_handle (open_of s) s.runner) refl
        where
          go : (b : Bool) → (h == next_handle (open_of s) s.runner) ≡ b → Comes s h (memory_sent s kind (Some r))
          go true here = inr (record { kind = kind; read = r; is = offer s x r none; state = refl; handle = eqb-true h (next_handle (open_of s) s.runner) here })
          go false beside =
              inl (λ u is. record {
                before = u;
                there = sym (get-insert s.transactions (next_handle (open_of s) s.runner) (transaction_sent s kind r) h ∙ ap (λ b. cond b (Some (transaction_sent s kind r)) (transaction_of s h)) beside) ∙ is;
                ranges = refl;
              })

  comes-retrieved : (x : Transfer) → Taken s x → Comes s h (receiver_retrieve s x).state
  comes-retrieved x its = subst (Comes s h) (sym (state-taken s x its)) (inl (of its.of.kind))
    where
      of : (kind : Kind) → Lasts s.transactions (retrieve.taken_as s x its kind).transactions h
      of Share = with-open s.transactions its.asked.handle its.of (holding its.of s.runner (retrieve.right s x its)) h its.is.there refl
      of Lend = with-open s.transactions its.asked.handle its.of (holding its.of s.runner (retrieve.right s x its)) h its.is.there refl
      of Donate = without-open s.transactions its.asked.handle h

  comes-relinquished : (o : Option RelinquishDesc) → Comes s h (relinquished s o)
  comes-relinquished None = stays
  comes-relinquished (Some d) = of (transaction_of s d.handle) refl
    where
      of : (o : Option Transaction) → transaction_of s d.handle ≡ o → Comes s h (relinquished_from s d o)
      of None there = stays
      of (Some t) there = inl (with-open s.transactions d.handle t (not_holding t s.runner) h there refl)

  comes-service : (call : calls.Call) → first_failure (service s call).guards ≡ None → Comes s h (service s call).state
  comes-service (PartitionInfoGet uuid flags) none =
      elim (is_count_alone flags) as (λ b. Comes s h (cond b s (filled s s.runner (info_bytes s.ffa (version_of s s.runner) s.parties (uuid_bytes uuid))))) [
        | true ↦ stays
        | false ↦ inl (same-open s.transactions h)
      ]
  comes-service (Version word) none = version-leaves (Comes s h) s.ffa s word (inl (same-open s.transactions h)) (λ version. inl (same-open s.transactions h))
  comes-service (MsgWait flags) none = waited-kept (Comes s h) s flags (inl (same-open s.transactions h)) (inl (same-open s.transactions h))
  comes-service (MemDonate x) none = comes-sent Donate x none
  comes-service (MemLend x) none = comes-sent Lend x none
  comes-service (MemShare x) none = comes-sent Share x none
  comes-service (MemRetrieve x) none =
      retrieve-kept (Comes s h) s x (λ passed. comes-retrieved x (taken s x passed)) stays (λ bytes. inl (same-open s.transactions h)) none
  comes-service MemRelinquish none = comes-relinquished (relinquish_read s)
  comes-service (MemReclaim handle flags) none = inl (without-open s.transactions handle.0 h)
  comes-service call none = inl (same-open s.transactions h)

  -- what is open after an operation
  pub comes : (op : Op) → Comes s h (step s op).state
  comes (Call x) = served-kept (Comes s h) s (service s (decode x)) stays (comes-service (decode x))
  comes (Load address size) = accessed-kept (Comes s h) s s (Data (number_at s address (size_of size))) (read_fault s address (size_of size)) stays (λ none. stays)
  comes (Store address size value) =
      accessed-kept (Comes s h) s (stored s address (little_bytes (size_of size) value)) Done (store_fault s address (size_of size)) stays (λ none. inl (same-open s.transactions h))
  comes (Fetch address) = accessed-kept (Comes s h) s s (Data (number_at s address 4)) (fetch_fault s address) stays (λ none. stays)
