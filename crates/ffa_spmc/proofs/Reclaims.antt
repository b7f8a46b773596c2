-- SPDX-License-Identifier: MIT OR Apache-2.0
-- FFA_MEM_RECLAIM changes the state as the small machine's.
use Rattle.std.proofs.Common.{◌≡◌, ◌∙◌, ℕ, ◌<◌, Bool, true, List, length, Option, Some, None, Result, Ok, Err, refl, sym, ap, subst, arith, inl, inr}
use Rattle.ffa_rxtx.specs.Parts.{ownership_in}
use Rattle.std.specs.Prelude.{◌==◌, ◌&&◌, IfOk, OnOk, OnErr}
use Rattle.std.specs.Result.{result_err}
use Rattle.std.specs.FinMap as finite
use Rattle.std.proofs.lemmas.Bool.{eqb-true, leb-true, cases_Bool}
use Rattle.std.proofs.lemmas.Bool.Decides.{nat_tests}
use Rattle.arrayvec.specs.ArrayVec.{array_vec_len}
use Rattle.ffa_model.specs.declared.refusal.Refusal.{Refusal}
use Rattle.ffa_model.specs.declared.operation.ErrorCode.{ErrorCode}
use Rattle.ffa_model.specs.Access.{access, is_from, names, Ownership, ownership_of}
use Rattle.ffa_model.specs.Bits.{is_set}
use Rattle.ffa_model.specs.Calls.{first_failure, replied, served}
use Rattle.ffa_model.specs.Identifiers.{place, identifier}
use Rattle.ffa_model.specs.MemoryReturn.{is_unheld, memory_reclaim, named_ranges, reclaim_guards, reclaimed}
use Rattle.ffa_model.specs.Memory.{zeroed_if}
use Rattle.ffa_model.specs.Ram.{Ram}
use Rattle.ffa_model.specs.SoundState.{IsSoundState}
use Rattle.ffa_model.specs.State.{State, Transaction, transaction_of}
use Rattle.ffa_model.specs.Transactions.{closed, open_of, with_open}
use Rattle.ffa_model.proofs.Guards.{guard-passes}
use Rattle.ffa_model.proofs.KeptCalls.{reclaimed-sound}
use Rattle.ffa_pages.specs.Entry.{Entry, own_right_at}
use Rattle.ffa_memshare.specs.declared.changed.Changed.{Changed}
use Rattle.ffa_memshare.specs.declared.changed.Value.{Value}
use Rattle.ffa_memshare.specs.declared.changed.Value.TheVariants.{Nothing}
use Rattle.ffa_memshare.specs.Changed.{changed_reclaimer, changed_sender}
use Rattle.ffa_memshare.specs.Changes.{IsMarked, IsMoved}
use Rattle.ffa_memshare.specs.Grants.{with_rights}
use Rattle.ffa_memshare.specs.Ranges.{in_ranges}
use Rattle.ffa_memshare.specs.SlotChanges.{IsClosed}
use Rattle.ffa_memshare.specs.Stored.{Pooled, map_in, open_in}
use Rattle.ffa_memshare.specs.declared.marks.Mark.TheVariants.{Named}
use Rattle.ffa_memshare.proofs.Joined.{reclaim-access}
use Rattle.ffa_spmc.specs.AccessChange.{IsAccessChange, is_whose}
use Rattle.ffa_spmc.specs.Meaning.{AreOpenTransactions, IsManager, Parts, access_by_place, state_of}
use Rattle.ffa_spmc.specs.Replies.{change_told, value_or_error, value_reply}
use Rattle.ffa_spmc.specs.Unowned.{KeepsUnowned}
use Rattle.std.specs.Option.{option_map_or}
use Rattle.ffa_model.specs.declared.rights.Rights.{Rights}
use Rattle.ffa_physmem.specs.Moments.{Past}
use Rattle.ffa_physmem.specs.Work.{AddsAtMost, no_work}
use Rattle.ffa_physmem.proofs.Work.{adds-none}
use Rattle.ffa_stage2.specs.Tables.{IsBuilt}
use Rattle.std.proofs.Math.Bool.{and-false}
use Rattle.ffa_memshare.specs.Work.{LosesNone, given_work}
use Rattle.ffa_spmc.proofs.Works.{loses-by}
use Rattle.ffa_spmc.proofs.Answered.{answered-by, nothing-replies, done-so, refused-so}
use Rattle.ffa_spmc.proofs.Closes.{open-closed, slot-marked}
use Rattle.ffa_spmc.proofs.AccessChanges.{access-changed, none-changed, reclaimed-kept, reclaimed-new}
use Rattle.ffa_spmc.proofs.Moves.{SameOwners, marked-owners, of-manifest, owners-moved, pages-moved, tables-moved}
use Rattle.ffa_spmc.proofs.Pools.{own_right-is, ownership-is, slot-open}
use Rattle.ffa_spmc.proofs.Unowned.{open-entered, unowned-moved, unowned-same}

-- the code's runner is that of the run states; and the pool has reclaimed a handle, or refused to
module _ (x : Parts) (machine : IsManager x) (e : ℕ) (at : e ≡ x.kept.chain.runner) (h flags : ℕ) (ram : Ram) (pages : List (Option Entry)) (pool : Pooled) where
  abbrev s : State
  s = state_of x

  abbrev pub after_reclaim : Parts
  after_reclaim = record x { ram = ram; kept = record x.kept { pages = pages; pool = pool } }

  abbrev guards : List (Bool × Refusal)
  guards = reclaim_guards (ownership_of s) s.runner flags (transaction_of s h)

  -- the pages that the handle's transaction names, as the pool sees them
  abbrev named : ℕ → Bool
  named = in_ranges x.kept.layout.base.0 (named_ranges (finite.get (map_in x.kept.pool.slots) h))

  -- what the pool has done
  pub record IsReclaimed : Type 0 where
    pub slot : IsClosed x.kept.pool pool h
    pub open_transactions : open_in pool ≡ closed (open_in x.kept.pool) h
    pub moved : IsMoved x.ram ram (array_vec_len x.kept.layout.regions) x.kept.layout.tables.0 x.kept.layout.blocks (place e) named (own_right_at x.kept.pages) (flags == 1)
    pub marked : IsMarked x.kept.pages pages named (Named None)

  -- and what it tells of access, of this transaction
  abbrev told_of : Option Transaction → Option Changed
  told_of o = Some (record { ranges = named_ranges o; endpoint = changed_reclaimer o e })

  abbrev IsTold : Option Changed → Type 0
  IsTold news = news ≡ told_of (finite.get (map_in x.kept.pool.slots) h)

  module _ (none : None ≡ first_failure guards) (done : IsReclaimed) where
    abbrev t : Transaction
    t = done.slot.transaction

    was : transaction_of s h ≡ Some t
    was = slot-open x machine done.slot.slot h t done.slot.was

    asked : (flags == 1) ≡ is_set 0 flags
    asked =
        let few = leb-true flags 1 (guard-passes guards 0 none) in
        grind (arith, nat_tests)

    sender : t.sender ≡ e
    sender = eqb-true t.sender s.runner (sym (ap (is_from s.runner) was) ∙ guard-passes guards 1 none) ∙ sym at

    unheld : is_unheld (Some t) ≡ true
    unheld = sym (ap is_unheld was) ∙ guard-passes guards 2 none

    -- over the manifest and the state
    moves : IsMoved x.ram ram (length x.manifest.endpoints.items) x.manifest.tables.0 x.manifest.ram_blocks (place e) (names s t.ranges) (own_right_at x.kept.pages) (flags == 1)
    moves =
        subst (λ o. IsMoved x.ram ram (length x.manifest.endpoints.items) x.manifest.tables.0 x.manifest.ram_blocks (place e) (names s (named_ranges o)) (own_right_at x.kept.pages) (flags == 1)) was
        (of-manifest x machine (λ base n tables blocks. IsMoved x.ram ram n tables blocks (place e) (in_ranges base (named_ranges (transaction_of s h))) (own_right_at x.kept.pages) (flags == 1)) done.moved)

    marks : IsMarked x.kept.pages pages (names s t.ranges) (Named None)
    marks =
        subst (λ o. IsMarked x.kept.pages pages (names s (named_ranges o)) (Named None)) was
        (of-manifest x machine (λ base n tables blocks. IsMarked x.kept.pages pages (in_ranges base (named_ranges (transaction_of s h))) (Named None)) done.marked)

    owners : SameOwners x.kept.pages pages
    owners = marked-owners x.kept.pages pages (names s t.ranges) None marks

    pub state-reclaimed : state_of after_reclaim ≡ reclaimed s h (is_set 0 flags)
    state-reclaimed =
        (λ i. record s {
          pages = pages-moved x machine ram pages (place e) t.ranges (own_right_at x.kept.pages) (flags == 1) moves owners i;
          transactions = (done.open_transactions i).transactions;
          sent = (done.open_transactions i).sent;
        })
        ∙ (λ i. zeroed_if (asked i) (with_open s (closed (open_of s) h)) (named_ranges (sym was i)))

    granted : (i p : ℕ) → p < length s.pages → with_rights (access_by_place s) (place e) (names s t.ranges) (own_right_at x.kept.pages) i p ≡ access_by_place (state_of after_reclaim) i p
    granted i p lt =
        (λ k. with_rights (access_by_place s) (place (sym sender k)) (names s t.ranges) (λ q. own_right-is x machine q k) i p)
        ∙ reclaim-access s machine.sound h t was unheld (is_set 0 flags) i p lt
        ∙ sym (ap (λ (z : State). access_by_place z i p) state-reclaimed)

    pub machine-reclaimed : IsManager after_reclaim
    machine-reclaimed =
        record {
          laws = machine.laws;
          tables = tables-moved x machine ram pages (place e) t.ranges (own_right_at x.kept.pages) (flags == 1) moves owners (state_of after_reclaim) granted;
          layout = machine.layout;
          owners = owners-moved x machine ram pages (place e) t.ranges (own_right_at x.kept.pages) (flags == 1) moves owners;
          open_transactions =
              subst (AreOpenTransactions x.manifest pages) (sym done.slot.slots)
              (open-closed x.manifest x.kept.pages pages x.kept.pool.slots machine.open_transactions done.slot.slot h t done.slot.was (slot-marked x.kept.pages pages (names s t.ranges) marks) marks.size);
          sound = subst IsSoundState (sym state-reclaimed) (reclaimed-sound s machine.sound h t was (is_set 0 flags));
        }

    pub unowned-reclaimed : KeepsUnowned s x.ram ram
    unowned-reclaimed = unowned-moved x machine ram (place e) t.ranges (own_right_at x.kept.pages) (flags == 1) moves (open-entered x machine h t was)

    by-sender : (f p : ℕ) → (names s t.ranges p && is_whose (changed_sender t.kind t.sender) f) ≡ (names s t.ranges p && is_whose (changed_sender t.kind e) f)
    by-sender f p = ap (λ (g : ℕ). names s t.ranges p && is_whose (changed_sender t.kind g) f) sender

    -- the sender has no right to the pages before, or its own
    loses-none : LosesNone (access_by_place s (place e)) (names s t.ranges) (own_right_at x.kept.pages)
    loses-none = loses-by s (state_of after_reclaim) e t.ranges (own_right_at x.kept.pages) granted
        (λ p lt named. elim (cases_Bool (is_whose (changed_sender t.kind t.sender) (identifier (place e)))) [
          | inl its ↦ inl (reclaimed-new s machine.sound (identifier (place e)) p lt h t was unheld (λ i. named i && its i))
          | inr kept ↦ inr (ap (λ (z : State). access z (identifier (place e)) p) state-reclaimed
              ∙ reclaimed-kept s machine.sound (identifier (place e)) p lt h t was unheld (is_set 0 flags) (ap (λ b. names s t.ranges p && b) kept ∙ and-false (names s t.ranges p)))
        ])

    access-reclaimed : (news : Option Changed) → IsTold news → IsAccessChange s (state_of after_reclaim) news
    access-reclaimed news told =
        subst (IsAccessChange s (state_of after_reclaim)) (sym (told ∙ ap told_of was))
        (access-changed x after_reclaim machine machine-reclaimed refl t.ranges (changed_sender t.kind e)
        (machine.open_transactions.offered done.slot.slot h t done.slot.was).placed
        (λ f p lt its. inl (reclaimed-new s machine.sound f p lt h t was unheld (by-sender f p ∙ its)))
        (λ f p lt kept. ap (λ (z : State). access z f p) state-reclaimed ∙ reclaimed-kept s machine.sound f p lt h t was unheld (is_set 0 flags) (by-sender f p ∙ kept)))

  -- the clauses of the pool's call
  module _ (r : Result Value ErrorCode) (news : Option Changed) (refusal : result_err r ≡ first_failure (reclaim_guards (ownership_in x.kept.pages x.kept.layout.base.0) e flags (finite.get (map_in x.kept.pool.slots) h)))
      (kept : OnErr r (pool ≡ x.kept.pool)) (kept_pages : OnErr r (pages ≡ x.kept.pages)) (kept_ram : OnErr r (ram ≡ x.ram))
      (nothing : IfOk r (λ value. value ≡ Nothing))
      (slot : OnOk r (IsClosed x.kept.pool pool h)) (open_transactions : OnOk r (open_in pool ≡ closed (open_in x.kept.pool) h))
      (moved : OnOk r (IsMoved x.ram ram (array_vec_len x.kept.layout.regions) x.kept.layout.tables.0 x.kept.layout.blocks (place e) named (own_right_at x.kept.pages) (flags == 1)))
      (marked : OnOk r (IsMarked x.kept.pages pages named (Named None))) (changed : OnOk r (IsTold news)) where
    unchanged : OnErr r (after_reclaim ≡ x)
    unchanged = of r kept kept_pages kept_ram
      where
        of : (r : Result Value ErrorCode) → OnErr r (pool ≡ x.kept.pool) → OnErr r (pages ≡ x.kept.pages) → OnErr r (ram ≡ x.ram) → OnErr r (after_reclaim ≡ x)
        of (Ok told) a b c = tt
        of (Err code) same_pool same_pages same_ram = λ i. record x { ram = same_ram i; kept = record x.kept { pages = same_pages i; pool = same_pool i } }

    done : OnOk r IsReclaimed
    done = of r slot open_transactions moved marked
      where
        of : (r : Result Value ErrorCode) → OnOk r (IsClosed x.kept.pool pool h) → OnOk r (open_in pool ≡ closed (open_in x.kept.pool) h)
            → OnOk r (IsMoved x.ram ram (array_vec_len x.kept.layout.regions) x.kept.layout.tables.0 x.kept.layout.blocks (place e) named (own_right_at x.kept.pages) (flags == 1))
            → OnOk r (IsMarked x.kept.pages pages named (Named None)) → OnOk r IsReclaimed
        of (Ok told) closes leaves moves marks = record { slot = closes; open_transactions = leaves; moved = moves; marked = marks }
        of (Err code) a b c d = tt

    refuses : result_err r ≡ first_failure guards
    refuses =
        refusal
        ∙ ap (λ (b : ℕ). first_failure (reclaim_guards (ownership_in x.kept.pages b) e flags (transaction_of s h))) machine.layout.base
        ∙ ap (λ (b : Ownership). first_failure (reclaim_guards b e flags (transaction_of s h))) (ownership-is x machine)
        ∙ ap (λ (f : ℕ). first_failure (reclaim_guards (ownership_of s) f flags (transaction_of s h))) at

    pub reclaim-served : replied (state_of after_reclaim) (value_or_error r) ≡ served s (memory_reclaim s h flags)
    reclaim-served =
        answered-by s (state_of after_reclaim) (memory_reclaim s h flags) r value_reply
        refuses
        (refused-so r (λ is. ap state_of is) unchanged)
        (done-so r (λ none facts. state-reclaimed (sym none ∙ refuses) facts) done)
        (nothing-replies r nothing)

    pub reclaim-machine : IsManager after_reclaim
    reclaim-machine = of r refuses unchanged done
      where
        of : (r : Result Value ErrorCode) → result_err r ≡ first_failure guards → OnErr r (after_reclaim ≡ x) → OnOk r IsReclaimed → IsManager after_reclaim
        of (Ok told) passes same facts = machine-reclaimed passes facts
        of (Err code) fails same facts = subst IsManager (sym same) machine

    pub reclaim-unowned : KeepsUnowned s x.ram ram
    reclaim-unowned = of r refuses kept_ram done
      where
        of : (r : Result Value ErrorCode) → result_err r ≡ first_failure guards → OnErr r (ram ≡ x.ram) → OnOk r IsReclaimed → KeepsUnowned s x.ram ram
        of (Ok told) passes same facts = unowned-reclaimed passes facts
        of (Err code) fails same facts = unowned-same s x.ram ram same

    pub reclaim-changes : IsAccessChange s (state_of after_reclaim) (change_told r news)
    reclaim-changes = of r refuses unchanged done changed
      where
        of : (r : Result Value ErrorCode) → result_err r ≡ first_failure guards → OnErr r (after_reclaim ≡ x) → OnOk r IsReclaimed → OnOk r (IsTold news) → IsAccessChange s (state_of after_reclaim) (change_told r news)
        of (Ok value) passes same facts is = access-reclaimed passes facts news is
        of (Err code) fails same facts is = none-changed s (state_of after_reclaim) (λ f p. ap (λ (y : Parts). access (state_of y) f p) same)

    -- how much it does
    pub reclaim-few : (past later : Past) → OnErr r (later ≡ past)
        → ((rights : ℕ → ℕ → Option Rights) → IsBuilt x.ram (array_vec_len x.kept.layout.regions) x.kept.layout.tables.0 x.kept.layout.blocks rights
        → LosesNone (rights (place e)) named (own_right_at x.kept.pages)
        → AddsAtMost past later (given_work x.kept.layout.base.0 None (named_ranges (finite.get (map_in x.kept.pool.slots) h)) (flags == 1)))
        → AddsAtMost past later (given_work s.ram_base None (named_ranges (transaction_of s h)) (flags == 1))
    reclaim-few past later kept_past few = of r refuses kept_past done
      where
        of : (r : Result Value ErrorCode) → result_err r ≡ first_failure guards → OnErr r (later ≡ past) → OnOk r IsReclaimed
            → AddsAtMost past later (given_work s.ram_base None (named_ranges (transaction_of s h)) (flags == 1))
        of (Ok value) passes same facts =
            of-manifest x machine
            (λ base n tables blocks. (rights : ℕ → ℕ → Option Rights) → IsBuilt x.ram n tables blocks rights
            → LosesNone (rights (place e)) (in_ranges base (named_ranges (finite.get (map_in x.kept.pool.slots) h))) (own_right_at x.kept.pages)
            → AddsAtMost past later (given_work base None (named_ranges (finite.get (map_in x.kept.pool.slots) h)) (flags == 1)))
            few
            (access_by_place s) machine.tables.built
            (subst (λ (o : Option Transaction). LosesNone (access_by_place s (place e)) (names s (named_ranges o)) (own_right_at x.kept.pages)) (sym (was passes facts)) (loses-none passes facts))
        of (Err code) fails same facts =
            subst (λ (l : Past). AddsAtMost past l (given_work s.ram_base None (named_ranges (transaction_of s h)) (flags == 1))) (sym same)
            (adds-none (given_work s.ram_base None (named_ranges (transaction_of s h)) (flags == 1)))
