-- SPDX-License-Identifier: MIT OR Apache-2.0
-- Nobody is offered what it has sent itself: no send descriptor says so, and each operation keeps it so.
use Rattle.std.proofs.Common.{◌≡◌, ◌∙◌, ℕ, zero, suc, Bool, true, false, cond, List, Option, Some, None, refl, sym, subst, ◌==◌, ◌&&◌, ◌||◌}
use Rattle.std.specs.List.{list_any}
use Rattle.std.specs.FinMap as finite
use Rattle.std.specs.Ordering.{nat_cmp}
use Rattle.std.proofs.lemmas.Bool.{and_parts, not-true}
use Rattle.std.proofs.lemmas.Option.{none-some, same_Some}
use Rattle.ffa_model.specs.declared.descriptor.RelinquishDesc.{RelinquishDesc}
use Rattle.ffa_model.specs.declared.endpoint.Endpoint.{Endpoint}
use Rattle.ffa_model.specs.declared.manifest.Ffa.{Ffa}
use Rattle.ffa_model.specs.declared.operation.Op.{Op}
use Rattle.ffa_model.specs.declared.operation.Op.TheVariants.{Call, Load, Store, Fetch}
use Rattle.ffa_model.specs.declared.operation.Outcome.TheVariants.{Data, Done}
use Rattle.ffa_model.specs.declared.call.Call as calls
use Rattle.ffa_model.specs.declared.call.Call.TheVariants.{PartitionInfoGet, MsgWait, MemDonate, MemLend, MemShare, MemRetrieve, MemRelinquish, MemReclaim, Version}
use Rattle.ffa_model.specs.declared.rights.Kind.{Kind}
use Rattle.ffa_model.specs.declared.rights.Kind.TheVariants.{Share, Lend, Donate}
use Rattle.ffa_model.specs.declared.transaction.Receiver.{Receiver}
use Rattle.ffa_model.specs.DescriptorPlaces.{Versioned, is_header, receiver_count, sender_field}
use Rattle.ffa_model.specs.SendDescriptor.{SendRecord, holds_at_each, is_access_beside, is_composite, is_send_body, is_send_header, receiver_in, receivers_in, send_counted, send_in, send_of}
use Rattle.ffa_model.specs.Lists.{listed}
use Rattle.ffa_model.specs.First.{first}
use Rattle.ffa_model.specs.State.{State, Transaction, transaction_of, version_of}
use Rattle.ffa_model.specs.Access.{is_receiver}
use Rattle.ffa_model.specs.Buffers.{filled}
use Rattle.ffa_model.specs.Calls.{first_failure}
use Rattle.ffa_model.specs.Memory.{fetch_fault, number_at, read_fault, size_of, store_fault, stored}
use Rattle.ffa_model.specs.MemoryRetrieve.{receiver_retrieve}
use Rattle.ffa_model.specs.MemoryReturn.{relinquish_read, relinquished, relinquished_from}
use Rattle.ffa_model.specs.MemorySend.{descriptor_in, memory_sent, send_read, transaction_sent}
use Rattle.ffa_model.specs.Registers.{decode}
use Rattle.ffa_model.specs.Setup.{info_bytes, is_count_alone, uuid_bytes}
use Rattle.ffa_model.specs.Step.{service, step}
use Rattle.ffa_model.specs.declared.call.Transfer.{Transfer}
use Rattle.ffa_model.specs.Transactions.{holding, next_handle, not_holding, open_of}
use Rattle.byteorder.specs.Endian.{little_bytes}
use Rattle.ffa_laws.specs.OwnAccess.{AreApart}
use Rattle.ffa_laws.proofs.Closed.{get-remove}
use Rattle.ffa_laws.proofs.Form.{accessed-kept, served-kept, waited-kept}
use Rattle.ffa_laws.proofs.Opened.{Transactions, get-insert}
use Rattle.ffa_laws.proofs.ReadBacks.{retrieve-kept}
use Rattle.ffa_laws.proofs.Taken as retrieve
use Rattle.ffa_laws.proofs.Versions.{version-leaves}
use Rattle.ffa_laws.proofs.Taken.{Taken, state-taken, taken}

-- ---- a send descriptor
nobody : (sender n : ℕ) (test : ℕ → Bool) (f : ℕ → Receiver) → ((i : ℕ) → test i ≡ true → ((f i).endpoint.0 == sender) ≡ false) → holds_at_each test n ≡ true
    → list_any (λ (r : Receiver). r.endpoint.0 == sender) (listed n f) ≡ false
nobody sender zero test f each all = refl
nobody sender (suc n) test f each all =
    let (here, rest) = and_parts (test 0) _ all in
    (λ i. each 0 here i || nobody sender n (λ j. test (suc j)) (λ j. f (suc j)) (λ j. each (suc j)) rest i)

body-apart : (kind : Kind) (b : Versioned) → is_send_body kind b ≡ true → list_any (λ (r : Receiver). r.endpoint.0 == sender_field b) (receivers_in b (receiver_count b)) ≡ false
unfolding is_send_body
body-apart kind b is =
    let (lists, total) = and_parts _ _ is in
    let (accesses, ranges) = and_parts _ _ lists in
    nobody (sender_field b) (receiver_count b) (is_access_beside kind b) (receiver_in b) (λ i access. (let (one, distinct) = and_parts _ _ access in not-true _ (and_parts _ _ one).1)) accesses

pub descriptor-apart : (ffa : Ffa) (kind : Kind) (b : Versioned) (r : SendRecord) → send_of ffa kind b ≡ Some r → list_any (λ (x : Receiver). x.endpoint.0 == r.sender) r.receivers ≡ false
unfolding send_of
descriptor-apart ffa kind b r is = of (is_header b && is_send_header ffa kind b && is_composite b) is
  where
    body : (c : Bool) → is_send_body kind b ≡ c → cond c (Some (send_in ffa kind b)) None ≡ Some r → list_any (λ (x : Receiver). x.endpoint.0 == r.sender) r.receivers ≡ false
    body true all same = subst (λ (x : SendRecord). list_any (λ (y : Receiver). y.endpoint.0 == x.sender) x.receivers ≡ false) (same_Some (send_in ffa kind b) r same) (body-apart kind b all)
    body false all none = absurd (none-some r none)

    of : (c : Bool) → send_counted c ffa kind b ≡ Some r → list_any (λ (x : Receiver). x.endpoint.0 == r.sender) r.receivers ≡ false
    of true same = body (is_send_body kind b) refl same
    of false none = absurd (none-some r none)

-- ---- the open transactions
abbrev Apart : Transactions → Type 0
Apart m = (h : ℕ) (t : Transaction) → finite.get m h ≡ Some t → is_receiver t.sender t ≡ false

with-one : (m : Transactions) (h : ℕ) (t : Transaction) → Apart m → is_receiver t.sender t ≡ false → Apart (finite.insert m h t)
with-one m h t all its k u is = go (k == h) (sym (get-insert m h t k) ∙ is)
  where
    go : (b : Bool) → cond b (Some t) (finite.get m k) ≡ Some u → is_receiver u.sender u ≡ false
    go true same = subst (λ (x : Transaction). is_receiver x.sender x ≡ false) (same_Some t u same) its
    go false same = all k u same

without-one : (m : Transactions) (h : ℕ) → Apart m → Apart (finite.remove m h)
without-one m h all k u is = go (k == h) (sym (get-remove m h k) ∙ is)
  where
    go : (b : Bool) → cond b None (finite.get m k) ≡ Some u → is_receiver u.sender u ≡ false
    go true none = absurd (none-some u none)
    go false same = all k u same

module _ (s : State) (apart : AreApart s) where
  apart-sent : (kind : Kind) (total : ℕ) → AreApart (memory_sent s kind (send_read s kind total))
  apart-sent kind total = of (send_read s kind total) refl
    where
      of : (o : Option SendRecord) → send_read s kind total ≡ o → AreApart (memory_sent s kind o)
      of None is = apart
      of (Some r) is = with-one s.transactions (next_handle (open_of s) s.runner) (transaction_sent s kind r) apart (descriptor-apart s.ffa kind (descriptor_in s total) r is)

  apart-retrieved : (x : Transfer) → Taken s x → AreApart (receiver_retrieve s x).state
  apart-retrieved x its = subst AreApart (sym (state-taken s x its)) (of its.of.kind)
    where
      held : Apart (finite.insert s.transactions its.asked.handle (holding its.of s.runner (retrieve.right s x its)))
      held = with-one s.transactions its.asked.handle (holding its.of s.runner (retrieve.right s x its)) apart (apart its.asked.handle its.of its.is.there)

      of : (kind : Kind) → AreApart (retrieve.taken_as s x its kind)
      of Donate = without-one s.transactions its.asked.handle apart
      of _ = held

  apart-relinquished : (o : Option RelinquishDesc) → AreApart (relinquished s o)
  apart-relinquished None = apart
  apart-relinquished (Some d) = of (transaction_of s d.handle) refl
    where
      of : (o : Option Transaction) → transaction_of s d.handle ≡ o → AreApart (relinquished_from s d o)
      of None there = apart
      of (Some t) there = with-one s.transactions d.handle (not_holding t s.runner) apart (apart d.handle t there)

  apart-service : (call : calls.Call) → first_failure (service s call).guards ≡ None → AreApart (service s call).state
  apart-service (PartitionInfoGet uuid flags) none = elim (is_count_alone flags) as (λ b. AreApart (cond b s (filled s s.runner (info_bytes s.ffa (version_of s s.runner) s.parties (uuid_bytes uuid))))) [ true ↦ apart | false ↦ apart ]
  apart-service (Version word) none = version-leaves AreApart s.ffa s word apart (λ version. apart)
  apart-service (MsgWait flags) none = waited-kept AreApart s flags apart apart
  apart-service (MemDonate x) none = apart-sent Donate x.total
  apart-service (MemLend x) none = apart-sent Lend x.total
  apart-service (MemShare x) none = apart-sent Share x.total
  apart-service (MemRetrieve x) none = retrieve-kept AreApart s x (λ passed. apart-retrieved x (taken s x passed)) apart (λ bytes. apart) none
  apart-service MemRelinquish none = apart-relinquished (relinquish_read s)
  apart-service (MemReclaim handle flags) none = without-one s.transactions handle.0 apart
  apart-service call none = apart

  apart-step : (op : Op) → AreApart (step s op).state
  apart-step (Call x) = served-kept AreApart s (service s (decode x)) apart (apart-service (decode x))
  apart-step (Load address size) = accessed-kept AreApart s s (Data (number_at s address (size_of size))) (read_fault s address (size_of size)) apart (λ none. apart)
  apart-step (Store address size value) = accessed-kept AreApart s (stored s address (little_bytes (size_of size) value)) Done (store_fault s address (size_of size)) apart (λ none. apart)
  apart-step (Fetch address) = accessed-kept AreApart s s (Data (number_at s address 4)) (fetch_fault s address) apart (λ none. apart)

pub stays_apart : (s : State) (op : Op) → AreApart s → AreApart (step s op).state
stays_apart s op apart = apart-step s apart op

pub first_apart : (ffa : Ffa) (base tables blocks : ℕ) (es : List Endpoint) → AreApart (first ffa base tables blocks es)
unfolding first
first_apart ffa base tables blocks es h t is = absurd (none-some t (sym (finite.get-empty nat_cmp h) ∙ is))
