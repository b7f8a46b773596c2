-- SPDX-License-Identifier: MIT OR Apache-2.0
-- FFA_MEM_DONATE, FFA_MEM_LEND and FFA_MEM_SHARE change the state as the small machine's.
use Rattle.std.proofs.Common.{◌≡◌, ◌∙◌, ℕ, ◌<◌, Bool, true, false, List, length, take, Option, Some, None, Result, Ok, Err, refl, sym, ap, subst, inr, inl}
use Rattle.std.specs.Prelude.{OnErr, OnOk, ◌&&◌, IfOk, if◌then◌else◌, is_some}
use Rattle.std.specs.Result.{result_err}
use Rattle.std.proofs.lemmas.Bool.{false≢true}
use Rattle.std.proofs.lemmas.Option.{none-some}
use Rattle.arrayvec.specs.ArrayVec.{array_vec_len}
use Rattle.ffa_memshare.specs.declared.descriptor_call.DescriptorCall.{DescriptorCall}
use Rattle.ffa_model.specs.declared.refusal.Refusal.{Refusal}
use Rattle.ffa_model.specs.DescriptorPlaces.{Versioned, in_version}
use Rattle.ffa_model.specs.declared.operation.ErrorCode.{ErrorCode}
use Rattle.ffa_model.specs.declared.rights.Kind.{Kind}
use Rattle.ffa_model.specs.declared.rights.Kind.TheVariants.{Share, Lend, Donate}
use Rattle.ffa_model.specs.declared.rights.Rights.{Rights}
use Rattle.ffa_model.specs.Access.{access, is_receiver, names, ownership_of}
use Rattle.ffa_model.specs.Calls.{first_failure, replied, served}
use Rattle.ffa_model.specs.Identifiers.{place, identifier}
use Rattle.ffa_model.specs.Memory.{zeroed_if}
use Rattle.ffa_model.specs.MemorySend.{handle_reply, memory_send, memory_sent, is_told_normal, offered_in, send_guards, send_read, transaction_from, transaction_sent}
use Rattle.ffa_model.specs.Ram.{Ram}
use Rattle.ffa_model.specs.Rights.{is_share}
use Rattle.ffa_model.specs.First.{first}
use Rattle.ffa_model.specs.SendDescriptor.{SendRecord, send_of}
use Rattle.ffa_model.specs.SoundState.{IsSoundState}
use Rattle.ffa_model.specs.State.{State, Transaction, transaction_of, version_of, own_right_of}
use Rattle.ffa_model.specs.declared.call.Transfer.{Transfer}
use Rattle.ffa_model.specs.Transactions.{next_handle, open_of, scene_of, with_open}
use Rattle.ffa_model.proofs.CallAccesses.{handle-new, runner-known, sendable-unnamed}
use Rattle.ffa_laws.proofs.SendLaws.{IsOffer, offer}
use Rattle.ffa_laws.proofs.SoundSends.{send-sound}
use Rattle.ffa_pages.specs.Entry.{Entry, entry_at, slot_at, own_right_at}
use Rattle.ffa_rxtx.specs.Parts.{ownership_in}
use Rattle.ffa_stage2.specs.Layout.{normal_in}
use Rattle.ffa_memshare.specs.declared.changed.Changed.{Changed}
use Rattle.ffa_memshare.specs.declared.changed.Value.{Value}
use Rattle.ffa_memshare.specs.declared.changed.Value.TheVariants.{Handle}
use Rattle.ffa_memshare.specs.Changed.{changed_sender}
use Rattle.ffa_memshare.specs.Changes.{IsMarked, IsMoved}
use Rattle.ffa_memshare.specs.Grants.{new_right, with_rights}
use Rattle.ffa_memshare.specs.Ranges.{ArePlaced, in_ranges}
use Rattle.ffa_memshare.specs.Scenes.{descriptor_in, scene_in}
use Rattle.ffa_memshare.specs.Sent.{IsSent, right_after}
use Rattle.ffa_memshare.specs.SlotChanges.{IsOpened}
use Rattle.ffa_memshare.specs.Stored.{Pooled, open_in, pool_slot}
use Rattle.ffa_memshare.specs.declared.marks.Mark.TheVariants.{Named}
use Rattle.ffa_spmc.specs.AccessChange.{IsAccessChange, is_whose}
use Rattle.ffa_spmc.specs.Meaning.{AreOpenTransactions, IsManager, IsOffered, Parts, access_by_place, state_of}
use Rattle.ffa_spmc.specs.Replies.{change_told, value_or_error, value_reply}
use Rattle.ffa_spmc.specs.Unowned.{KeepsUnowned}
use Rattle.ffa_model.proofs.Places.{known-named}
use Rattle.ffa_spmc.proofs.Answered.{answered-by, done-so, refused-so}
use Rattle.ffa_spmc.proofs.Closes.{open-opened, slot-opened}
use Rattle.ffa_spmc.proofs.Granted.{send-granted}
use Rattle.ffa_spmc.proofs.Held.{owners-size, parties_are, size_is}
use Rattle.ffa_spmc.proofs.AccessChanges.{access-changed, none-changed, sent-kept, sent-lost}
use Rattle.ffa_spmc.proofs.Moves.{SameOwners, marked-owners, of-manifest, owners-moved, pages-moved, tables-moved}
use Rattle.ffa_spmc.proofs.Pools.{named-kept, normal-is, own_right-is, ownership-is, slot-open}
use Rattle.ffa_spmc.proofs.Retrieves.{scene-is}
use Rattle.ffa_spmc.proofs.Sends.{sent-is}
use Rattle.ffa_spmc.proofs.Unowned.{unowned-moved, unowned-same}
use Rattle.std.proofs.Math.Bool.{and-false}
use Rattle.ffa_physmem.specs.Moments.{Past}
use Rattle.ffa_physmem.specs.Work.{AddsAtMost}
use Rattle.ffa_physmem.proofs.Work.{adds-none}
use Rattle.ffa_stage2.specs.Tables.{IsBuilt}
use Rattle.ffa_memshare.specs.Work.{IsTakenFrom, sent_work}
use Rattle.ffa_spmc.specs.Work.{is_block, send_work}
use Rattle.ffa_spmc.proofs.Works.{blocks-stand, loses-by, nobodys, taken-from}
use Rattle.ffa_spmc.proofs.MemoryParts.{memory_parts_in}

-- the pool counts the sends of each endpoint
pub offer-endpoints : (x : Parts) → IsManager x → length x.kept.pool.sent ≡ array_vec_len x.kept.layout.regions
offer-endpoints x machine = machine.sound.sized.sent ∙ parties_are x ∙ sym machine.layout.endpoints

-- the code's runner is that of the run states; and it has sent what its TX describes, or was refused
module _ (x : Parts) (machine : IsManager x) (e : ℕ) (at : e ≡ x.kept.chain.runner) (kind : Kind) (call : DescriptorCall) (serves : call.ffa ≡ x.manifest.ffa) (spoken : call.version ≡ version_of (state_of x) (state_of x).runner) (ram : Ram) (pages : List (Option Entry)) (pool : Pooled) where
  abbrev s : State
  s = state_of x

  abbrev pub after_offer : Parts
  after_offer = record x { ram = ram; kept = record x.kept { pages = pages; pool = pool } }

  -- what the call tell
  abbrev a : Transfer
  a = call.transfer

  abbrev bytes : Versioned
  bytes = descriptor_in x.ram x.kept.buffers e call

  abbrev guards : List (Bool × Refusal)
  guards = (memory_send s kind a).guards

  -- what the pool has done
  abbrev IsDone : Option Changed → Type 0
  IsDone news = IsSent (memory_parts_in x) (memory_parts_in after_offer) e call.ffa kind bytes news

  read-is : send_of call.ffa kind bytes ≡ send_read s kind a.total
  unfolding first
  read-is = λ i. send_of (serves i) kind (in_version (spoken i) (take call.transfer.total (sent-is x machine e at i)))

  -- the right that the sender keeps
  kept-right : (its : Kind) (p : ℕ) → new_right (right_after its) x.kept.pages p ≡ (if is_share its then own_right_of s p else None)
  kept-right Share p = own_right-is x machine p
  kept-right Lend p = refl
  kept-right Donate p = refl

  module _ (news : Option Changed) (none : None ≡ first_failure guards) (done : IsDone news) where
    abbrev r : SendRecord
    r = done.offer

    abbrev t : Transaction
    t = transaction_sent s kind r

    abbrev h : ℕ
    h = next_handle (open_of s) e

    abbrev right : ℕ → Option Rights
    right = new_right (right_after kind) x.kept.pages

    read : send_read s kind a.total ≡ Some r
    read = sym read-is ∙ done.described

    good : IsOffer s r
    good = offer s a r (sym (none ∙ ap (λ (o : Option SendRecord). first_failure (send_guards s.ffa (scene_of s) s.runner a o)) read))

    -- what the parts say of its memory is what the state says
    told-normal : is_told_normal (ownership_in x.kept.pages x.kept.layout.base.0) (normal_in x.kept.layout) r.ranges
        ≡ is_told_normal (ownership_of s) s.normal r.ranges
    told-normal = λ i. is_told_normal ((ap (ownership_in x.kept.pages) machine.layout.base ∙ ownership-is x machine) i) (normal-is x machine i) r.ranges

    -- over the manifest and the state
    moves : IsMoved x.ram ram (length x.manifest.endpoints.items) x.manifest.tables.0 x.manifest.ram_blocks (place e) (names s r.ranges) right r.zero
    moves = of-manifest x machine (λ base n tables blocks. IsMoved x.ram ram n tables blocks (place e) (in_ranges base r.ranges) right r.zero) done.moved

    marks : IsMarked x.kept.pages pages (names s r.ranges) (Named (Some done.slot))
    marks = of-manifest x machine (λ base n tables blocks. IsMarked x.kept.pages pages (in_ranges base r.ranges) (Named (Some done.slot))) done.marks

    opened : IsOpened x.kept.pool pool done.slot h t
    opened = subst (λ (b : Bool). IsOpened x.kept.pool pool done.slot h (transaction_from kind b r)) told-normal done.opened

    owned : (p : ℕ) → names s r.ranges p ≡ true → (f : Entry) × (entry_at x.kept.pages p ≡ Some f)
    owned p named = let own = done.own.own p (subst (λ (b : ℕ). in_ranges b r.ranges p ≡ true) (sym machine.layout.base) named) in (own.0, own.1)

    owners : SameOwners x.kept.pages pages
    owners = marked-owners x.kept.pages pages (names s r.ranges) (Some done.slot) marks

    state-from : state_of after_offer ≡ memory_sent s kind (Some r)
    state-from =
        (λ i. record s {
          pages = pages-moved x machine ram pages (place e) r.ranges right r.zero moves owners i;
          transactions = (done.open_transactions i).transactions;
          sent = (done.open_transactions i).sent;
        })
        ∙ (λ i. zeroed_if r.zero (with_open s (offered_in (open_of s) (at i) kind (told-normal i) r)) r.ranges)

    pub state-sent : state_of after_offer ≡ memory_sent s kind (send_read s kind a.total)
    state-sent = state-from ∙ sym (ap (memory_sent s kind) read)

    granted : (i p : ℕ) → p < length s.pages → with_rights (access_by_place s) (place e) (names s r.ranges) right i p ≡ access_by_place (state_of after_offer) i p
    granted i p lt =
        ap (λ (f : ℕ). with_rights (access_by_place s) (place f) (names s r.ranges) right i p) at
        ∙ send-granted s machine.sound kind r right i p good.sender good.free lt (kept-right kind p)
        ∙ sym (ap (λ (z : State). access_by_place z i p) state-from)

    -- OF THE SLOT
    -- the handle is new
    fresh : (j : ℕ) (y : ℕ × Transaction) → pool_slot x.kept.pool.slots j ≡ Some y → y.0 ≡ h → ⊥
    fresh j y there same =
        none-some y.1
        (sym (ap (λ (f : ℕ). transaction_of s (next_handle (open_of s) f)) at ∙ handle-new s machine.sound s.runner (runner-known s machine.sound))
        ∙ ap (transaction_of s) (sym same) ∙ slot-open x machine j y.0 y.1 there)

    offered : IsOffered x.manifest t
    offered =
        record {
          placed =
              subst (λ (n : ℕ). ArePlaced x.manifest.ram_base.0 n r.ranges) machine.owners.size
              (subst (λ (b : ℕ). ArePlaced b (length x.kept.pages) r.ranges) machine.layout.base done.own.placed);
          other = ap (λ (f : ℕ). is_receiver f t) done.own.sender ∙ done.other;
        }

    -- a page that was sent stood in no transaction
    unnamed : (p : ℕ) → p < length x.kept.pages → names s r.ranges p ≡ true → slot_at x.kept.pages p ≡ None
    unnamed p lt named =
        let inside : p < length x.ram.pages = subst (λ (n : ℕ). p < n) (owners-size x machine) lt in
        let free = sendable-unnamed s s.runner p r.ranges good.free (subst (λ (n : ℕ). p < n) (sym (size_is x)) inside) named in
        of (slot_at x.kept.pages p) (sym (named-kept x machine p inside) ∙ ap is_some free)
      where
        of : (o : Option ℕ) → is_some o ≡ false → o ≡ None
        of None is = refl
        of (Some k) is = absurd (false≢true (sym is))

    pub machine-sent : IsManager after_offer
    machine-sent =
        record {
          laws = machine.laws;
          tables = tables-moved x machine ram pages (place e) r.ranges right r.zero moves owners (state_of after_offer) granted;
          layout = machine.layout;
          owners = owners-moved x machine ram pages (place e) r.ranges right r.zero moves owners;
          open_transactions =
              subst (AreOpenTransactions x.manifest pages) (sym opened.slots)
              (open-opened x.manifest x.kept.pages pages x.kept.pool.slots machine.open_transactions done.slot h t opened.free.within opened.free.free fresh offered unnamed
              (λ p lt. slot-opened x.kept.pages pages (names s r.ranges) done.slot marks p (owned p)) marks.size);
          sound = subst IsSoundState (sym state-sent) (send-sound s machine.sound kind a (sym none));
        }

    -- of what nobody owns
    pub unowned-sent : KeepsUnowned s x.ram ram
    unowned-sent = unowned-moved x machine ram (place e) r.ranges right r.zero moves (λ p lt named. owned p named)

    -- of access
    by-runner : (f p : ℕ) → (names s r.ranges p && is_whose (changed_sender kind s.runner) f) ≡ (names s r.ranges p && is_whose (changed_sender kind e) f)
    by-runner f p = ap (λ (g : ℕ). names s r.ranges p && is_whose (changed_sender kind g) f) (sym at)

    pub access-sent : IsAccessChange s (state_of after_offer) news
    access-sent =
        subst (IsAccessChange s (state_of after_offer)) (sym done.access)
        (access-changed x after_offer machine machine-sent refl r.ranges (changed_sender kind e) offered.placed
        (λ f p lt its. inr (ap (λ (z : State). access z f p) state-from ∙ sent-lost s machine.sound f p lt kind r good.sender good.free (by-runner f p ∙ its)))
        (λ f p lt kept. ap (λ (z : State). access z f p) state-from ∙ sent-kept s machine.sound f p lt kind r good.sender good.free (by-runner f p ∙ kept)))

    -- a share takes no right
    from-state : IsTakenFrom kind (access_by_place s (place e)) (names s r.ranges) (own_right_at x.kept.pages) (is_block (access_by_place s (place e)))
    from-state =
        taken-from kind (access_by_place s (place e)) (names s r.ranges) (own_right_at x.kept.pages) (is_block (access_by_place s (place e)))
        (λ share p named. elim (loses-by s (state_of after_offer) e r.ranges right granted
        (λ q lt its. inr (ap (λ (z : State). access z (identifier (place e)) q) state-from
        ∙ sent-kept s machine.sound (identifier (place e)) q lt kind r good.sender good.free
        (ap (λ b. names s r.ranges q && b) (nobodys kind s.runner (identifier (place e)) share) ∙ and-false (names s r.ranges q)))) p named) [
          | inl none ↦ inl none
          | inr same ↦ inr (same ∙ kept-right kind p ∙ ap (λ b. if b then own_right_of s p else None) share ∙ sym (own_right-is x machine p))
        ])
        (blocks-stand (access_by_place s (place e)) (names s r.ranges) None)

  -- the clauses of the pool's call
  module _ (result : Result Value ErrorCode) (news : Option Changed)
      (refusal : result_err result ≡ first_failure (send_guards call.ffa (scene_in (memory_parts_in x)) e a (send_of call.ffa kind bytes)))
      (kept : OnErr result (pool ≡ x.kept.pool)) (kept_pages : OnErr result (pages ≡ x.kept.pages)) (kept_ram : OnErr result (ram ≡ x.ram))
      (handle : IfOk result (λ value. value ≡ Handle (next_handle (open_in x.kept.pool) e))) (done : OnOk result (IsDone news)) where
    refuses : result_err result ≡ first_failure guards
    unfolding first
    refuses = refusal ∙ (λ i. first_failure (send_guards (serves i) (scene-is x machine i) (at i) a (read-is i)))

    unchanged : OnErr result (after_offer ≡ x)
    unchanged = of result kept kept_pages kept_ram
      where
        of : (r : Result Value ErrorCode) → OnErr r (pool ≡ x.kept.pool) → OnErr r (pages ≡ x.kept.pages) → OnErr r (ram ≡ x.ram) → OnErr r (after_offer ≡ x)
        of (Ok given) a b c = tt
        of (Err code) same_pool same_pages same_ram = λ i. record x { ram = same_ram i; kept = record x.kept { pages = same_pages i; pool = same_pool i } }

    told : IfOk result (λ value. value_reply value ≡ (memory_send s kind a).reply)
    told = of result handle
      where
        of : (r : Result Value ErrorCode) → IfOk r (λ value. value ≡ Handle (next_handle (open_in x.kept.pool) e)) → IfOk r (λ value. value_reply value ≡ (memory_send s kind a).reply)
        of (Ok sent) is = ap value_reply is ∙ ap (λ (f : ℕ). handle_reply (next_handle (open_of s) f)) at
        of (Err code) is = tt

    pub offer-served : replied (state_of after_offer) (value_or_error result) ≡ served s (memory_send s kind a)
    offer-served =
        answered-by s (state_of after_offer) (memory_send s kind a) result value_reply refuses
        (refused-so result (λ is. ap state_of is) unchanged)
        (done-so result (λ none facts. state-sent news (sym none ∙ refuses) facts) done)
        told

    pub offer-machine : IsManager after_offer
    offer-machine = of result refuses unchanged done
      where
        of : (r : Result Value ErrorCode) → result_err r ≡ first_failure guards → OnErr r (after_offer ≡ x) → OnOk r (IsDone news) → IsManager after_offer
        of (Ok sent) passes same facts = machine-sent news passes facts
        of (Err code) fails same facts = subst IsManager (sym same) machine

    pub offer-unowned : KeepsUnowned s x.ram ram
    offer-unowned = of result refuses kept_ram done
      where
        of : (r : Result Value ErrorCode) → result_err r ≡ first_failure guards → OnErr r (ram ≡ x.ram) → OnOk r (IsDone news) → KeepsUnowned s x.ram ram
        of (Ok sent) passes same facts = unowned-sent news passes facts
        of (Err code) fails same facts = unowned-same s x.ram ram same

    pub offer-changes : IsAccessChange s (state_of after_offer) (change_told result news)
    offer-changes = of result refuses unchanged done
      where
        of : (r : Result Value ErrorCode) → result_err r ≡ first_failure guards → OnErr r (after_offer ≡ x) → OnOk r (IsDone news)
            → IsAccessChange s (state_of after_offer) (change_told r news)
        of (Ok sent) passes same facts = access-sent news passes facts
        of (Err code) fails same facts = none-changed s (state_of after_offer) (λ f p. ap (λ (y : Parts). access (state_of y) f p) same)

    -- how much it does
    pub offer-few : (past later : Past) → OnErr result (later ≡ past)
        → ((offer : SendRecord) (rights : ℕ → ℕ → Option Rights) (split : ℕ → Bool) → send_of call.ffa kind bytes ≡ Some offer
        → IsBuilt x.ram (array_vec_len x.kept.layout.regions) x.kept.layout.tables.0 x.kept.layout.blocks rights
        → IsTakenFrom kind (rights (place e)) (in_ranges x.kept.layout.base.0 offer.ranges) (own_right_at x.kept.pages) split
        → AddsAtMost past later (sent_work kind x.kept.layout.base.0 split offer.ranges offer.zero))
        → AddsAtMost past later (send_work s kind (send_read s kind a.total))
    offer-few past later kept_past few = of result refuses kept_past done
      where
        of : (r : Result Value ErrorCode) → result_err r ≡ first_failure guards → OnErr r (later ≡ past) → OnOk r (IsDone news) → AddsAtMost past later (send_work s kind (send_read s kind a.total))
        of (Ok sent) passes same facts =
            subst (AddsAtMost past later)
            ((λ i. sent_work kind s.ram_base (is_block (access s ((ap (λ (f : ℕ). identifier (place f)) at ∙ known-named (length s.parties) s.runner (runner-known s machine.sound)) i))) facts.offer.ranges facts.offer.zero)
            ∙ sym (ap (send_work s kind) (read news passes facts)))
            (of-manifest x machine
            (λ base n tables blocks. (rights : ℕ → ℕ → Option Rights) (split : ℕ → Bool) → IsBuilt x.ram n tables blocks rights
            → IsTakenFrom kind (rights (place e)) (in_ranges base facts.offer.ranges) (own_right_at x.kept.pages) split
            → AddsAtMost past later (sent_work kind base split facts.offer.ranges facts.offer.zero))
            (λ rights split built from. few facts.offer rights split facts.described built from)
            (access_by_place s) (is_block (access_by_place s (place e))) machine.tables.built (from-state news passes facts))
        of (Err code) fails same facts = subst (λ (l : Past). AddsAtMost past l (send_work s kind (send_read s kind a.total))) (sym same) (adds-none (send_work s kind (send_read s kind a.total)))
