-- SPDX-License-Identifier: MIT OR Apache-2.0
-- A hypervisor's retrieve, in the runner's view, and to others: what the runner sent stands whole in its view.
use Rattle.std.proofs.Common.{◌≡◌, ◌≢◌, ◌∙◌, ℕ, Bool, true, false, [], ◌∷◌, ◌++◌, length, take, Option, Some, None, is_some, is_none, not, refl, sym, ap, ◌==◌, ◌&&◌, nat_le}
use Rattle.std.specs.Option.{option_map_or}
use Rattle.std.proofs.lemmas.Bool.{false≢true}
use Rattle.ffa_model.specs.declared.call.Reply.TheVariants.{Retrieved}
use Rattle.ffa_model.specs.declared.call.Transfer.{Transfer}
use Rattle.ffa_model.specs.declared.refusal.Refusal.TheVariants.{BuffersMissing, Fragmented, DescriptorTooLong, BufferAddressGiven, BufferPagesGiven, NotTheSenders, RxFull}
use Rattle.ffa_model.specs.Access.{is_from}
use Rattle.ffa_model.specs.Buffers.{filled, is_full, room_of}
use Rattle.ffa_model.specs.Calls.{first_failure, first_refusal}
use Rattle.ffa_model.specs.DescriptorPlaces.{in_version}
use Rattle.ffa_model.specs.HypervisorRetrieve.{asks_back, back_guards, back_length, handle_alone, handle_read, hypervisor_retrieve, is_hypervisors, read_back, sent_record, told_back}
use Rattle.ffa_model.specs.MemorySend.{descriptor_in}
use Rattle.ffa_model.specs.MemoryRetrieve.{retrieve_read}
use Rattle.ffa_model.specs.ResponseBytes.{response_bytes, response_size}
use Rattle.ffa_model.specs.State.{State, Transaction, buffers_of, transaction_of, version_of}
use Rattle.ffa_laws.specs.Steady.{IsSteady}
use Rattle.ffa_laws.specs.View.{view}
use Rattle.ffa_laws.specs.Events.{apply_all, public_change, takes}
use Rattle.ffa_laws.proofs.BufferLaws.{own-buffers, view-filled}
use Rattle.ffa_laws.proofs.Form.{IsOwn}
use Rattle.ffa_laws.proofs.MessageLaws.{tx-seen}
use Rattle.ffa_laws.proofs.ReadBacks.{read-kept, tells-nothing}
use Rattle.ffa_laws.proofs.ReclaimLaws.{from-seen, seen-whole}
use Rattle.ffa_laws.proofs.SetupLaws.{other-filled}
use Rattle.ffa_laws.proofs.Told.{IsTold, other-same}
use Rattle.ffa_laws.proofs.Versions.{version-seen}
use Rattle.ffa_laws.proofs.Views.{shown, view-transaction}

module _ (s : State) (steady : IsSteady s) where
  abbrev v : State
  v = view s.runner s

  -- ---- what the runner's TX says
  pub descriptor-seen : (total : ℕ) → descriptor_in v total ≡ descriptor_in s total
  descriptor-seen total = λ i. in_version (version-seen s.runner s steady.runner i) (take total (tx-seen s steady i))

  pub asks-seen : (x : Transfer) → asks_back v x ≡ asks_back s x
  asks-seen x = λ i.
      is_hypervisors s.ffa s.runner (descriptor-seen x.total i)
      && is_none (first_refusal (
      (is_some (own-buffers s.runner s steady.runner i), BuffersMissing)
      ∷ (x.total == x.fragment, Fragmented)
      ∷ (nat_le x.total (room_of (own-buffers s.runner s steady.runner i)), DescriptorTooLong)
      ∷ (x.address == 0, BufferAddressGiven)
      ∷ (x.pages == 0, BufferPagesGiven)
      ∷ []))

  handle-seen : (total : ℕ) → handle_read v total ≡ handle_read s total
  handle-seen total = ap handle_alone (descriptor-seen total)

  -- ---- the guards
  is_from-seen : (o : Option Transaction) → is_from s.runner (shown s.runner o) ≡ is_from s.runner o
  is_from-seen None = refl
  is_from-seen (Some t) =
      elim (t.sender == s.runner) as (λ b. (t.sender == s.runner) ≡ b → is_from s.runner (shown s.runner (Some t)) ≡ (t.sender == s.runner)) [
        | true ↦ λ mine. ap (is_from s.runner) (seen-whole s.runner t mine)
        | false ↦ λ other. from-seen s.runner t other ∙ sym other
      ] refl

  guards-seen : (asked : Option ℕ)
      → first_failure (back_guards (is_full (buffers_of v s.runner)) s.runner (transaction_of v) asked) ≡ first_failure (back_guards (is_full (buffers_of s s.runner)) s.runner (transaction_of s) asked)
  guards-seen None = refl
  guards-seen (Some h) = λ i.
      first_failure (
      ((ap (is_from s.runner) (view-transaction s.runner s h) ∙ is_from-seen (transaction_of s h)) i, NotTheSenders)
      ∷ (not (is_full (own-buffers s.runner s steady.runner i)), RxFull)
      ∷ [])

  -- ---- the state and the reply
  first-passes : (a b : Bool) → first_failure ((a, NotTheSenders) ∷ (b, RxFull) ∷ []) ≡ None → a ≡ true
  first-passes true b none = refl
  first-passes false b none = cc

  -- a transaction that the runner sent
  module _ (h : ℕ) (t : Transaction) (there : transaction_of s h ≡ Some t) (mine : (t.sender == s.runner) ≡ true) where
    whole : transaction_of v h ≡ Some t
    whole = view-transaction s.runner s h ∙ ap (shown s.runner) there ∙ seen-whole s.runner t mine

    own-told : told_back v h (transaction_of v h) ≡ view s.runner (told_back s h (Some t))
    own-told =
        ap (told_back v h) whole
        ∙ ap (λ version. filled v s.runner (response_bytes version (sent_record h t))) (version-seen s.runner s steady.runner)
        ∙ view-filled s.runner s (response_bytes (version_of s s.runner) (sent_record h t)) steady.runner

    own-length : back_length v (Some h) ≡ option_map_or (λ (u : Transaction). response_size (version_of s s.runner) (length u.receivers) u.ranges) (Some t) 0
    own-length =
        ap (λ o. option_map_or (λ (u : Transaction). response_size (version_of v s.runner) (length u.receivers) u.ranges) o 0) whole
        ∙ ap (λ version. response_size version (length t.receivers) t.ranges) (version-seen s.runner s steady.runner)

  -- whatever is asked
  own-asked : (asked : Option ℕ) → first_failure (back_guards (is_full (buffers_of s s.runner)) s.runner (transaction_of s) asked) ≡ None
      → (read_back v asked ≡ view s.runner (read_back s asked)) × (Retrieved (back_length v asked) ≡ Retrieved (back_length s asked))
  own-asked None none = (refl, refl)
  own-asked (Some h) none = of (transaction_of s h) refl (first-passes (is_from s.runner (transaction_of s h)) (not (is_full (buffers_of s s.runner))) none)
    where
      of : (o : Option Transaction) → transaction_of s h ≡ o → is_from s.runner o ≡ true
          → (read_back v (Some h) ≡ view s.runner (told_back s h o))
          × (Retrieved (back_length v (Some h)) ≡ Retrieved (option_map_or (λ (u : Transaction). response_size (version_of s s.runner) (length u.receivers) u.ranges) o 0))
      of None there mine = absurd (false≢true mine)
      of (Some t) there mine = (own-told h t there mine, ap Retrieved (own-length h t there mine))

  pub own-back : (x : Transfer) → IsOwn s (hypervisor_retrieve v x) (hypervisor_retrieve s x)
  own-back x = (
    ap (λ asked. first_failure (back_guards (is_full (buffers_of v s.runner)) s.runner (transaction_of v) asked)) (handle-seen x.total) ∙ guards-seen (handle_read s x.total),
    λ none. (
      ap (read_back v) (handle-seen x.total) ∙ (own-asked (handle_read s x.total) none).0,
      ap (λ asked. Retrieved (back_length v asked)) (handle-seen x.total) ∙ (own-asked (handle_read s x.total) none).1,
    ),
  )

  -- ---- to another endpoint, which learns at most that RX is full
  pub other-back : (e : ℕ) → s.runner ≢ e → (x : Transfer) → asks_back s x ≡ true → IsTold e s (hypervisor_retrieve s x) (takes e s (retrieve_read s x.total))
  other-back e other x back none =
      read-kept (λ t. view e t ≡ apply_all e (view e s) (public_change s t)) s (other-same e s) (other-filled e s steady other) (handle_read s x.total)
      ∙ (λ i. apply_all e (view e s) (sym (tells-nothing e s x back) i ++ public_change s (hypervisor_retrieve s x).state))
