-- SPDX-License-Identifier: MIT OR Apache-2.0
-- The open transactions of a machine: the slot that a page's entry has is that of the transaction that names the page.
use Rattle.std.proofs.Common.{◌≡◌, ◌∙◌, ℕ, ◌*◌, ◌<◌, ◌≤◌, Bool, true, false, List, length, Option, Some, None, refl, sym, ap, subst, arith, inl, inr}
use Rattle.ffa_rxtx.specs.Parts.{ownership_in}
use Rattle.std.specs.Prelude.{is_some}
use Rattle.std.specs.Option.{option_and_then, option_map, option_map_or}
use Rattle.std.proofs.lemmas.Bool.{cases_lt, false≢true}
use Rattle.std.proofs.lemmas.Bool.Decides.{nat_tests}
use Rattle.std.proofs.lemmas.Option.{none-some}
use Rattle.ffa_model.specs.First.{first}
use Rattle.ffa_model.specs.Access.{access, handle_at, is_naming, names, right_of, transaction_at, ownership_of}
use Rattle.ffa_model.specs.Identifiers.{manager, place}
use Rattle.ffa_model.specs.Ram.{page_of}
use Rattle.ffa_model.specs.State.{State, Page, Transaction, is_known_among, owner_of, page_at, transaction_of, own_right_of}
use Rattle.ffa_model.proofs.Accesses.{IsNamedOnce, named-in, unnamed-in}
use Rattle.ffa_model.proofs.Handles.{alone-found, unpassed-none}
use Rattle.ffa_model.proofs.Places.{known-place}
use Rattle.ffa_model.proofs.Slots.{at-get, get-at}
use Rattle.ffa_laws.specs.OwnAccess.{AreApart}
use Rattle.ffa_laws.proofs.SoundSteady.{sound-steady}
use Rattle.ffa_pages.specs.Entry.{Entry, own_right_at, entry_at, slot_at}
use Rattle.ffa_stage2.specs.Layout.{normal_in}
use Rattle.ffa_stage2.specs.Tables.{IsAside}
use Rattle.ffa_memshare.specs.Memory.{Memory}
use Rattle.ffa_memshare.specs.Shared.{IsHeld, IsRoom, IsShared}
use Rattle.ffa_memshare.specs.Stored.{Slot, handle_in, named_in, page_in, pool_slot}
use Rattle.ffa_spmc.specs.Meaning.{IsManager, Parts, access_by_place, slot_names, state_of}
use Rattle.ffa_spmc.proofs.Held.{entry-past, owned-aside, owner-is, owners-size, page-held, page-past, parties_are, size_is}
use Rattle.ffa_memshare.proofs.Offered.{named-within}
use Rattle.ffa_spmc.proofs.MemoryParts.{memory_in}

module _ (x : Parts) (machine : IsManager x) where
  abbrev s : State
  s = state_of x

  abbrev slots : List Slot
  slots = x.kept.pool.slots

  abbrev pages : List (Option Entry)
  pages = x.kept.pages

  -- what is in a slot is open, and what is open is in a slot
  pub slot-open : (k h : ℕ) (t : Transaction) → pool_slot slots k ≡ Some (h, t) → transaction_of s h ≡ Some t
  slot-open k h t at = get-at slots k h t machine.open_transactions.apart at

  pub open-slot : (h : ℕ) (t : Transaction) → transaction_of s h ≡ Some t → (k : ℕ) × (pool_slot slots k ≡ Some (h, t))
  open-slot h t is = let there = at-get slots h t is in (there.0, there.2)

  -- nobody is offered what it has sent itself
  pub senders-apart : AreApart s
  senders-apart h t is = let slot = open-slot h t is in (machine.open_transactions.offered slot.0 h t slot.1).other

  once : (p : ℕ) → p < length x.ram.pages → IsNamedOnce s p
  once p lt h k at_h at_k = machine.sound.one p h k (subst (λ (n : ℕ). p < n) (sym (size_is x)) lt) at_h at_k

  module _ (p : ℕ) (lt : p < length x.ram.pages) where
    entered : p < length pages
    entered = subst (λ (n : ℕ). p < n) (sym (owners-size x machine)) lt

    pub named-marked : (k h : ℕ) (t : Transaction) → pool_slot slots k ≡ Some (h, t) → names s t.ranges p ≡ true → slot_at pages p ≡ Some k
    named-marked k h t at named = (machine.open_transactions.marks p k entered).1 (ap (slot_names x.manifest.ram_base.0 p) at ∙ named)

    pub marked-named : (k : ℕ) → slot_at pages p ≡ Some k → slot_names x.manifest.ram_base.0 p (pool_slot slots k) ≡ true
    marked-named k is = (machine.open_transactions.marks p k entered).0 is

    abbrev Agree : Option ℕ → Type 0
    Agree o = (transaction_at s p ≡ named_in slots o) × (is_some (handle_at s p) ≡ is_some o) × (handle_at s p ≡ handle_in slots o)

    unmarked : slot_at pages p ≡ None → Agree None
    unmarked none = (unnamed-in s p never, ap is_some unpassed, unpassed)
      where
        never : (h : ℕ) (t : Transaction) → transaction_of s h ≡ Some t → names s t.ranges p ≡ false
        never h t opened = by (names s t.ranges p) refl
          where
            by : (b : Bool) → names s t.ranges p ≡ b → b ≡ false
            by false is = refl
            by true is = let (k, at) = open-slot h t opened in absurd (none-some k (sym none ∙ named-marked k h t at is))

        of : (h : ℕ) (o : Option Transaction) → transaction_of s h ≡ o → is_naming s p o ≡ false
        of h None is = refl
        of h (Some t) is = never h t is

        unpassed : handle_at s p ≡ None
        unpassed = unpassed-none (is_naming s p) refl s.transactions (λ h. of h (transaction_of s h) refl)

    marked : (k : ℕ) → slot_at pages p ≡ Some k → Agree (Some k)
    marked k is = of (pool_slot slots k) refl (marked-named k is)
      where
        of : (o : Slot) → pool_slot slots k ≡ o → slot_names x.manifest.ram_base.0 p o ≡ true → Agree (Some k)
        of None at named = absurd (false≢true named)
        of (Some y) at named =
            let opened : transaction_of s y.0 ≡ Some y.1 = slot-open k y.0 y.1 at in
            let found : handle_at s p ≡ Some y.0 = alone-found (is_naming s p) refl s.transactions y.0 (once p lt) (ap (is_naming s p) opened ∙ named) in (
              named-in s p y.0 y.1 (once p lt) opened named ∙ sym (ap (option_map (λ (z : ℕ × Transaction). z.1)) at),
              ap is_some found,
              found ∙ sym (ap (option_map (λ (z : ℕ × Transaction). z.0)) at),
            )

    both : Agree (slot_at pages p)
    both = of (slot_at pages p) refl
      where
        of : (o : Option ℕ) → slot_at pages p ≡ o → Agree o
        of None is = unmarked is
        of (Some k) is = marked k is

    -- the transaction in which a page stands
    pub transaction-kept : transaction_at s p ≡ named_in slots (slot_at pages p)
    transaction-kept = both.0

    pub named-kept : is_some (handle_at s p) ≡ is_some (slot_at pages p)
    named-kept = both.1

    -- and its handle
    pub handle-kept : handle_at s p ≡ handle_in slots (slot_at pages p)
    handle-kept = both.2

    -- the access that owners and slots give
    pub access-kept : (e : ℕ) → right_of e (page_in (page_of x.ram p) (entry_at pages p)) (named_in slots (slot_at pages p)) ≡ access s e p
    access-kept e = λ i. right_of e (sym (page-held x p lt) i) (sym transaction-kept i)

  -- RAM as the checks see it
  pub own_right-is : (p : ℕ) → own_right_at pages p ≡ own_right_of s p
  own_right-is p = elim (cases_lt p (length x.ram.pages)) [
    | inl lt ↦ of (entry_at pages p) ∙ sym (ap (option_map (λ (page : Page). page.own_right)) (page-held x p lt))
    | inr past ↦ ap (option_map (λ (e : Entry). e.own_right)) (entry-past x machine p past) ∙ sym (ap (option_map (λ (page : Page). page.own_right)) (page-past x p past))
  ]
    where
      of : (o : Option Entry) → option_map (λ (e : Entry). e.own_right) o ≡ option_map (λ (page : Page). page.own_right) (page_in (page_of x.ram p) o)
      of None = refl
      of (Some e) = refl

  -- no open transaction names a page past RAM
  unnamed-past : (p : ℕ) → length x.ram.pages ≤ p → handle_at s p ≡ None
  unnamed-past p past = unpassed-none (is_naming s p) refl s.transactions (λ h. of h (transaction_of s h) refl)
    where
      never : (h : ℕ) (t : Transaction) → transaction_of s h ≡ Some t → (b : Bool) → names s t.ranges p ≡ b → b ≡ false
      never h t opened false is = refl
      never h t opened true is =
          let slot = open-slot h t opened in
          let inside = named-within x.manifest.ram_base.0 (512 * x.manifest.ram_blocks) t.ranges p (machine.open_transactions.offered slot.0 h t slot.1).placed is in
          absurd (omega (arith, inside, past, machine.tables.size))

      of : (h : ℕ) (o : Option Transaction) → transaction_of s h ≡ o → is_naming s p o ≡ false
      of h None is = refl
      of h (Some t) is = never h t is (names s t.ranges p) refl

  named-is : (p : ℕ) → is_some (slot_at pages p) ≡ is_some (handle_at s p)
  named-is p = elim (cases_lt p (length x.ram.pages)) [
    | inl lt ↦ sym (named-kept p lt)
    | inr past ↦ ap (λ o. is_some (option_and_then (λ (e : Entry). e.slot) o)) (entry-past x machine p past) ∙ sym (ap is_some (unnamed-past p past))
  ]

  pub ownership-is : ownership_in pages x.manifest.ram_base.0 ≡ ownership_of s
  ownership-is =
      λ i. record {
        base = x.manifest.ram_base.0;
        count = (owners-size x machine ∙ sym (size_is x)) i;
        owner = λ p. sym (owner-is x machine p) i;
        own_right = λ p. own_right-is p i;
        is_named = λ p. named-is p i;
      }

  -- and which memory is told to be non-secure
  pub normal-is : normal_in x.kept.layout ≡ s.normal
  unfolding first
  normal-is = machine.layout.normal

  -- what the calls of the pool ask
  abbrev of_manifest : Memory
  of_manifest =
      record {
        ram = x.ram;
        base = x.manifest.ram_base.0;
        endpoints = length x.manifest.endpoints.items;
        tables = x.manifest.tables.0;
        blocks = x.manifest.ram_blocks;
        entries = pages;
        normal = normal_in x.kept.layout;
      }

  room : IsRoom of_manifest
  room = record { place = machine.tables.base; built = (access_by_place s, machine.tables.built); size = machine.owners.size }

  -- no endpoint is the manager
  known-owner : (n e : ℕ) → is_known_among n e ≡ true → e ≡ manager → ⊥
  known-owner n e known is = grind (arith, nat_tests)

  module _ (k h : ℕ) (t : Transaction) (at : pool_slot slots k ≡ Some (h, t)) where
    opened : transaction_of s h ≡ Some t
    opened = slot-open k h t at

    known : is_known_among (length s.parties) t.sender ≡ true
    known = (machine.sound.transactions h t opened).sender

    own : (p : ℕ) → names s t.ranges p ≡ true → owner_of s p ≡ t.sender
    own p named = ((sound-steady s machine.sound).transactions h t opened).owned p named

    pub held-in : IsHeld of_manifest t
    held-in =
        record {
          room = room;
          sender = subst (λ (n : ℕ). place t.sender < n) (parties_are x) (known-place (length s.parties) t.sender machine.sound.sized.some known);
          placed = (machine.open_transactions.offered k h t at).placed;
          owned = λ p named is. known-owner (length s.parties) t.sender known (sym (own p named) ∙ owner-is x machine p ∙ is);
          aside = λ p named. of p named (page_at s p) refl;
        }
      where
        of : (p : ℕ) → names s t.ranges p ≡ true → (o : Option Page) → page_at s p ≡ o → IsAside (length x.manifest.endpoints.items) x.manifest.tables.0 x.manifest.ram_blocks p
        of p named None there = absurd (known-owner (length s.parties) t.sender known (sym (own p named) ∙ ap (λ (o : Option Page). option_map_or (λ (q : Page). q.owner) o manager) there))
        of p named (Some page) there = owned-aside x machine p page there

  memory-is : of_manifest ≡ memory_in x
  memory-is = λ i. record of_manifest {
    base = sym machine.layout.base i;
    endpoints = sym machine.layout.endpoints i;
    tables = sym machine.layout.tables i;
    blocks = sym machine.layout.blocks i;
  }

  pub pool-shared : IsShared (memory_in x) slots
  pool-shared = subst (λ (memory : Memory). IsShared memory slots) memory-is (record { room = room; each = held-in })
