-- SPDX-License-Identifier: MIT OR Apache-2.0
-- FFA_MEM_RELINQUISH changes the state as the small machine's.
use Rattle.std.proofs.Common.{◌≡◌, ◌∙◌, ℕ, ◌<◌, Bool, true, List, length, Option, Some, None, Result, Ok, Err, refl, sym, ap, subst, inr}
use Rattle.std.specs.Prelude.{◌==◌, ◌&&◌, IfOk, OnErr, OnOk}
use Rattle.std.specs.Result.{result_err}
use Rattle.std.proofs.lemmas.Bool.{false≢true}
use Rattle.ffa_model.specs.declared.refusal.Refusal.{Refusal}
use Rattle.ffa_model.specs.declared.operation.ErrorCode.{ErrorCode}
use Rattle.ffa_model.specs.declared.descriptor.RelinquishDesc.{RelinquishDesc}
use Rattle.ffa_model.specs.Access.{access, is_offered, is_receiver, names}
use Rattle.ffa_model.specs.Buffers.{buffers_in}
use Rattle.ffa_model.specs.Calls.{first_failure, replied, served}
use Rattle.ffa_model.specs.Identifiers.{place, identifier}
use Rattle.ffa_model.specs.MemoryReturn.{memory_relinquish, relinquish_guards, relinquish_read, relinquished, relinquished_from}
use Rattle.ffa_model.specs.Memory.{zeroed_if}
use Rattle.ffa_model.specs.Ram.{Ram}
use Rattle.ffa_model.specs.RelinquishDescriptor.{relinquish_of}
use Rattle.ffa_model.specs.SoundState.{IsSoundState}
use Rattle.ffa_model.specs.State.{State, Transaction, transaction_of}
use Rattle.ffa_model.specs.Transactions.{not_holding, open_of, with_open, with_transaction}
use Rattle.ffa_model.proofs.Guards.{guard-passes}
use Rattle.ffa_model.proofs.KeptCalls.{relinquished-sound}
use Rattle.ffa_memshare.specs.declared.changed.Changed.{Changed}
use Rattle.ffa_memshare.specs.declared.changed.Value.{Value}
use Rattle.ffa_memshare.specs.declared.changed.Value.TheVariants.{Nothing}
use Rattle.ffa_memshare.specs.Changes.{IsMoved}
use Rattle.ffa_memshare.specs.Grants.{with_rights}
use Rattle.ffa_memshare.specs.Ranges.{in_ranges}
use Rattle.ffa_memshare.specs.Relinquished.{IsRelinquished}
use Rattle.ffa_memshare.specs.Stored.{Pooled, open_in, transaction_in}
use Rattle.ffa_rxtx.specs.Parts.{tx_in}
use Rattle.ffa_spmc.specs.AccessChange.{IsAccessChange}
use Rattle.ffa_spmc.specs.Meaning.{AreOpenTransactions, IsManager, Parts, access_by_place, state_of}
use Rattle.ffa_spmc.specs.Replies.{change_told, value_or_error, value_reply}
use Rattle.ffa_spmc.specs.Unowned.{KeepsUnowned}
use Rattle.std.specs.Option.{option_map_or}
use Rattle.ffa_model.specs.declared.rights.Rights.{Rights}
use Rattle.ffa_physmem.specs.Moments.{Past}
use Rattle.ffa_physmem.specs.Work.{AddsAtMost, no_work}
use Rattle.ffa_physmem.proofs.Work.{adds-none}
use Rattle.ffa_stage2.specs.Tables.{IsBuilt}
use Rattle.ffa_memshare.specs.Work.{AreSplitsIn, taken_work}
use Rattle.ffa_spmc.specs.Work.{is_block, is_runners_block, relinquish_work}
use Rattle.ffa_model.proofs.Places.{known-named}
use Rattle.ffa_model.proofs.CallAccesses.{runner-known}
use Rattle.arrayvec.specs.ArrayVec.{array_vec_len}
use Rattle.ffa_spmc.proofs.Works.{blocks-stand}
use Rattle.ffa_spmc.proofs.Answered.{answered-by, nothing-replies, done-so, refused-so}
use Rattle.ffa_spmc.proofs.Closes.{open-reheld}
use Rattle.ffa_spmc.proofs.Granted.{relinquish-granted}
use Rattle.ffa_spmc.proofs.AccessChanges.{access-changed, none-changed, relinquished-kept, relinquished-lost}
use Rattle.ffa_spmc.proofs.Moves.{of-manifest, pages-moved, same-owners, tables-moved}
use Rattle.ffa_spmc.proofs.Pools.{open-slot}
use Rattle.ffa_spmc.proofs.Sends.{sent-is}
use Rattle.ffa_spmc.proofs.Unowned.{open-entered, unowned-moved, unowned-same}
use Rattle.ffa_spmc.proofs.MemoryParts.{memory_parts_in}

-- the code's runner is that of the run states; and it has given up what its TX describes, or was refused
module _ (x : Parts) (machine : IsManager x) (e : ℕ) (at : e ≡ x.kept.chain.runner) (ram : Ram) (pool : Pooled) where
  abbrev s : State
  s = state_of x

  abbrev pub after_relinquish : Parts
  after_relinquish = record x { ram = ram; kept = record x.kept { pool = pool } }

  abbrev bytes : List ℕ
  bytes = tx_in x.ram (buffers_in x.kept.buffers e)

  abbrev guards : List (Bool × Refusal)
  guards = (memory_relinquish s).guards

  -- what the pool has done
  abbrev IsDone : Option Changed → Type 0
  IsDone news = IsRelinquished (memory_parts_in x) (memory_parts_in after_relinquish) e bytes news

  module _ (news : Option Changed) (none : None ≡ first_failure guards) (done : IsDone news) where
    abbrev d : RelinquishDesc
    d = done.asked

    abbrev t : Transaction
    t = done.transaction

    read : relinquish_read s ≡ Some d
    read = ap relinquish_of (sym (sent-is x machine e at)) ∙ done.described

    was : transaction_of s d.handle ≡ Some t
    was = done.was

    -- its receiver isn't its sender
    offered : is_receiver s.runner t ≡ true
    offered =
        sym (ap (is_offered s.runner) was)
        ∙ guard-passes (relinquish_guards (buffers_in x.kept.buffers s.runner) (open_of s) s.runner (Some d)) 2
        (none ∙ ap (λ o. first_failure (relinquish_guards (buffers_in x.kept.buffers s.runner) (open_of s) s.runner o)) read)

    other : t.sender ≡ s.runner → ⊥
    other same =
        let slot = open-slot x machine d.handle t was in
        false≢true (sym (machine.open_transactions.offered slot.0 d.handle t slot.1).other ∙ ap (λ (f : ℕ). is_receiver f t) same ∙ offered)

    moves : IsMoved x.ram ram (length x.manifest.endpoints.items) x.manifest.tables.0 x.manifest.ram_blocks (place e) (names s t.ranges) (λ p. None) d.zero
    moves = of-manifest x machine (λ base n tables blocks. IsMoved x.ram ram n tables blocks (place e) (in_ranges base t.ranges) (λ p. None) d.zero) done.moved

    state-from : state_of after_relinquish ≡ relinquished_from s d (Some t)
    state-from =
        (λ i. record s {
          pages = pages-moved x machine ram x.kept.pages (place e) t.ranges (λ p. None) d.zero moves (same-owners x.kept.pages) i;
          transactions = (done.open_transactions i).transactions;
          sent = (done.open_transactions i).sent;
        })
        ∙ (λ i. zeroed_if d.zero (with_open s (with_transaction (open_of s) d.handle (not_holding t (at i)))) t.ranges)

    pub state-relinquished : state_of after_relinquish ≡ relinquished s (relinquish_read s)
    state-relinquished = state-from ∙ sym (ap (relinquished s) read ∙ ap (relinquished_from s d) was)

    granted : (i p : ℕ) → p < length s.pages → with_rights (access_by_place s) (place e) (names s t.ranges) (λ q. None) i p ≡ access_by_place (state_of after_relinquish) i p
    granted i p lt =
        ap (λ (f : ℕ). with_rights (access_by_place s) (place f) (names s t.ranges) (λ q. None) i p) at
        ∙ relinquish-granted s machine.sound d.handle t was (λ q. None) i p lt d refl other refl
        ∙ sym (ap (λ (z : State). access_by_place z i p) state-from)

    pub machine-relinquished : IsManager after_relinquish
    machine-relinquished =
        record {
          laws = machine.laws;
          tables = tables-moved x machine ram x.kept.pages (place e) t.ranges (λ p. None) d.zero moves (same-owners x.kept.pages) (state_of after_relinquish) granted;
          layout = machine.layout;
          owners = machine.owners;
          open_transactions =
              subst (AreOpenTransactions x.manifest x.kept.pages) (sym done.slot.slots)
              (open-reheld x.manifest x.kept.pages x.kept.pool.slots machine.open_transactions done.slot.slot d.handle done.slot.transaction done.slot.was e None);
          sound = subst IsSoundState (sym state-from) (relinquished-sound s machine.sound d t was);
        }

    pub unowned-relinquished : KeepsUnowned s x.ram ram
    unowned-relinquished = unowned-moved x machine ram (place e) t.ranges (λ p. None) d.zero moves (open-entered x machine d.handle t was)

    by-runner : (f p : ℕ) → (names s t.ranges p && s.runner == f) ≡ (names s t.ranges p && e == f)
    by-runner f p = ap (λ (g : ℕ). names s t.ranges p && g == f) (sym at)

    pub access-relinquished : IsAccessChange s (state_of after_relinquish) news
    access-relinquished =
        subst (IsAccessChange s (state_of after_relinquish)) (sym done.access)
        (access-changed x after_relinquish machine machine-relinquished refl t.ranges (Some (record { 0 = e }))
        (let slot = open-slot x machine d.handle t was in (machine.open_transactions.offered slot.0 d.handle t slot.1).placed)
        (λ f p lt its. inr (ap (λ (z : State). access z f p) state-from ∙ relinquished-lost s machine.sound f p lt d.handle t was d refl other (by-runner f p ∙ its)))
        (λ f p lt kept. ap (λ (z : State). access z f p) state-from ∙ relinquished-kept s machine.sound f p lt d.handle t was d refl (by-runner f p ∙ kept)))

  -- the clauses of the pool's call
  module _ (r : Result Value ErrorCode) (news : Option Changed) (refusal : result_err r ≡ first_failure (relinquish_guards (buffers_in x.kept.buffers e) (open_in x.kept.pool) e (relinquish_of bytes)))
      (kept : OnErr r (pool ≡ x.kept.pool)) (kept_ram : OnErr r (ram ≡ x.ram))
      (nothing : IfOk r (λ value. value ≡ Nothing)) (done : OnOk r (IsDone news)) where
    refuses : result_err r ≡ first_failure guards
    refuses =
        refusal
        ∙ (λ i. first_failure (relinquish_guards (buffers_in x.kept.buffers (at i)) (open_of s) (at i) (relinquish_of (sent-is x machine e at i))))

    unchanged : OnErr r (after_relinquish ≡ x)
    unchanged = of r kept kept_ram
      where
        of : (r : Result Value ErrorCode) → OnErr r (pool ≡ x.kept.pool) → OnErr r (ram ≡ x.ram) → OnErr r (after_relinquish ≡ x)
        of (Ok d) a b = tt
        of (Err code) same_pool same_ram = λ i. record x { ram = same_ram i; kept = record x.kept { pool = same_pool i } }

    pub relinquish-served : replied (state_of after_relinquish) (value_or_error r) ≡ served s (memory_relinquish s)
    relinquish-served =
        answered-by s (state_of after_relinquish) (memory_relinquish s) r value_reply refuses
        (refused-so r (λ is. ap state_of is) unchanged)
        (done-so r (λ none facts. state-relinquished news (sym none ∙ refuses) facts) done)
        (nothing-replies r nothing)

    pub relinquish-machine : IsManager after_relinquish
    relinquish-machine = of r refuses unchanged done
      where
        of : (r : Result Value ErrorCode) → result_err r ≡ first_failure guards → OnErr r (after_relinquish ≡ x) → OnOk r (IsDone news) → IsManager after_relinquish
        of (Ok d) passes same facts = machine-relinquished news passes facts
        of (Err code) fails same facts = subst IsManager (sym same) machine

    pub relinquish-unowned : KeepsUnowned s x.ram ram
    relinquish-unowned = of r refuses kept_ram done
      where
        of : (r : Result Value ErrorCode) → result_err r ≡ first_failure guards → OnErr r (ram ≡ x.ram) → OnOk r (IsDone news) → KeepsUnowned s x.ram ram
        of (Ok d) passes same facts = unowned-relinquished news passes facts
        of (Err code) fails same facts = unowned-same s x.ram ram same

    pub relinquish-changes : IsAccessChange s (state_of after_relinquish) (change_told r news)
    relinquish-changes = of r refuses unchanged done
      where
        of : (r : Result Value ErrorCode) → result_err r ≡ first_failure guards → OnErr r (after_relinquish ≡ x) → OnOk r (IsDone news) → IsAccessChange s (state_of after_relinquish) (change_told r news)
        of (Ok d) passes same facts = access-relinquished news passes facts
        of (Err code) fails same facts = none-changed s (state_of after_relinquish) (λ f p. ap (λ (y : Parts). access (state_of y) f p) same)

    -- how much it does
    pub relinquish-few : (past later : Past) → OnErr r (later ≡ past)
        → ((asked : RelinquishDesc) (t : Transaction) (rights : ℕ → ℕ → Option Rights) (split : ℕ → Bool) → relinquish_of bytes ≡ Some asked
        → transaction_in x.kept.pool.slots asked.handle ≡ Some t
        → IsBuilt x.ram (array_vec_len x.kept.layout.regions) x.kept.layout.tables.0 x.kept.layout.blocks rights
        → AreSplitsIn (rights (place e)) (in_ranges x.kept.layout.base.0 t.ranges) None split
        → AddsAtMost past later (taken_work x.kept.layout.base.0 split t.ranges asked.zero))
        → AddsAtMost past later (relinquish_work s (relinquish_read s))
    relinquish-few past later kept_past few = of r refuses kept_past done
      where
        of : (r : Result Value ErrorCode) → result_err r ≡ first_failure guards → OnErr r (later ≡ past) → OnOk r (IsDone news) → AddsAtMost past later (relinquish_work s (relinquish_read s))
        of (Ok value) passes same facts =
            let d : RelinquishDesc = facts.asked in
            let t : Transaction = facts.transaction in
            subst (AddsAtMost past later)
            ((λ i. taken_work s.ram_base (is_block (access s ((ap (λ (f : ℕ). identifier (place f)) at ∙ known-named (length s.parties) s.runner (runner-known s machine.sound)) i))) t.ranges d.zero)
            ∙ sym (ap (λ (o : Option Transaction). option_map_or (λ (q : Transaction). taken_work s.ram_base (is_runners_block s) q.ranges d.zero) o no_work) facts.was)
            ∙ sym (ap (relinquish_work s) (read news passes facts)))
            (of-manifest x machine
            (λ base n tables blocks. (rights : ℕ → ℕ → Option Rights) (split : ℕ → Bool) → IsBuilt x.ram n tables blocks rights
            → AreSplitsIn (rights (place e)) (in_ranges base t.ranges) None split → AddsAtMost past later (taken_work base split t.ranges d.zero))
            (λ rights split built splits. few d t rights split facts.described facts.was built splits)
            (access_by_place s) (is_block (access_by_place s (place e))) machine.tables.built (blocks-stand (access_by_place s (place e)) (names s t.ranges) None))
        of (Err code) fails same facts = subst (λ (l : Past). AddsAtMost past l (relinquish_work s (relinquish_read s))) (sym same) (adds-none (relinquish_work s (relinquish_read s)))
