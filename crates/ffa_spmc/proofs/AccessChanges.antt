-- SPDX-License-Identifier: MIT OR Apache-2.0
-- Which accesses a call changes, and which it leaves as they were.
use Rattle.std.proofs.Common.{◌≡◌, ◌∙◌, ℕ, ◌*◌, ◌<◌, ◌≤◌, Bool, true, false, cond, List, length, Option, Some, None, refl, sym, ap, subst, inl, inr}
use Rattle.std.specs.Prelude.{◌==◌, ◌&&◌, ◌⊎◌, if◌then◌else◌}
use Rattle.std.specs.Option.{option_and_then, option_map}
use Rattle.std.specs.List.{list_all}
use Rattle.std.specs.FinMap as finite
use Rattle.std.proofs.lemmas.List.{get_or_past}
use Rattle.std.proofs.lemmas.Bool.{and_parts, cases_Bool, cases_eq, cases_lt, eqb-false, eqb-true, false≢true, true≢false}
use Rattle.ffa_model.specs.declared.call.Call.{Call}
use Rattle.ffa_model.specs.declared.call.Call.TheVariants.{PartitionInfoGet, MemDonate, MemLend, MemShare, MemRetrieve, MemRelinquish, MemReclaim, MsgSend2, Version, MsgWait}
use Rattle.ffa_model.specs.declared.descriptor.RelinquishDesc.{RelinquishDesc}
use Rattle.ffa_model.specs.declared.endpoint.EndpointId.{EndpointId}
use Rattle.ffa_model.specs.declared.operation.Op.{Op}
use Rattle.ffa_model.specs.declared.rights.Kind.{Kind}
use Rattle.ffa_model.specs.declared.rights.Kind.TheVariants.{Share, Lend, Donate}
use Rattle.ffa_model.specs.declared.rights.Rights.{Rights}
use Rattle.ffa_model.specs.declared.transaction.Range.{Range}
use Rattle.ffa_model.specs.Access.{access, held_by, names, right_of, transaction_at, ownership_of}
use Rattle.ffa_model.specs.Buffers.{filled}
use Rattle.ffa_model.specs.MemoryRetrieve.{retrieved_right}
use Rattle.ffa_model.specs.MemoryReturn.{is_unheld, reclaimed, relinquished_from}
use Rattle.ffa_model.specs.MemorySend.{is_sendable, memory_sent}
use Rattle.ffa_model.specs.Messages.{header_in, message_in, tx_bytes}
use Rattle.ffa_model.specs.Rights.{is_donate, is_share}
use Rattle.ffa_model.specs.SendDescriptor.{SendRecord}
use Rattle.ffa_model.specs.Setup.{info_bytes, is_count_alone, uuid_bytes}
use Rattle.ffa_model.specs.SoundState.{IsSoundState}
use Rattle.ffa_model.specs.State.{State, Page, Transaction, page_at, transaction_of, version_of}
use Rattle.ffa_model.specs.Step.{serve, service}
use Rattle.ffa_model.specs.Transactions.{pages_in}
use Rattle.ffa_model.proofs.Accesses.{named-in}
use Rattle.ffa_model.proofs.CallAccesses.{access-filled, donate-other, reclaim-other, relinquish-beside, relinquish-named, relinquish-other, retrieve-beside, retrieve-other, send-named, send-other, sendable-unnamed}
use Rattle.ffa_laws.proofs.Form.{served-kept, waited-kept}
use Rattle.ffa_laws.specs.OwnAccess.{is_memory_call}
use Rattle.ffa_memshare.specs.declared.changed.Changed.{Changed}
use Rattle.ffa_memshare.specs.Changed.{changed_sender}
use Rattle.ffa_memshare.specs.Ranges.{ArePlaced}
use Rattle.ffa_memshare.proofs.Joined.{owners-right, reclaim-beside, reclaim-none, reclaim-share, unheld-right}
use Rattle.ffa_spmc.specs.AccessChange.{IsAccessChange, IsTelling, is_whose}
use Rattle.ffa_spmc.specs.Meaning.{IsManager, Parts, state_of}
use Rattle.ffa_spmc.proofs.Granted.{donate-beside, none-kept, own-kept, send-beside, sendable-own}
use Rattle.ffa_laws.proofs.Versions.{version-leaves}
use Rattle.ffa_spmc.proofs.Held.{size_is}

-- A CALL THAT ISN'T ON MEMORY leaves all of them as they were: of pages it changes bytes alone
module _ (s : State) (e p : ℕ) where
  left-service : (call : Call) → is_memory_call call ≡ false → access (service s call).state e p ≡ access s e p
  left-service (PartitionInfoGet uuid flags) beside =
      elim (is_count_alone flags) as (λ b. access (cond b s (filled s s.runner (info_bytes s.ffa (version_of s s.runner) s.parties (uuid_bytes uuid)))) e p ≡ access s e p) [
        | true ↦ refl
        | false ↦ access-filled s s.runner (info_bytes s.ffa (version_of s s.runner) s.parties (uuid_bytes uuid)) e p
      ]
  left-service (Version word) beside = version-leaves (λ t. access t e p ≡ access s e p) s.ffa s word refl (λ version. refl)
  left-service (MsgWait flags) beside = waited-kept (λ t. access t e p ≡ access s e p) s flags refl refl
  left-service MsgSend2 beside = access-filled s (header_in (tx_bytes s s.runner)).receiver (message_in (tx_bytes s s.runner)) e p
  left-service (MemDonate x) beside = absurd (true≢false beside)
  left-service (MemLend x) beside = absurd (true≢false beside)
  left-service (MemShare x) beside = absurd (true≢false beside)
  left-service (MemRetrieve x) beside = absurd (true≢false beside)
  left-service MemRelinquish beside = absurd (true≢false beside)
  left-service (MemReclaim handle flags) beside = absurd (true≢false beside)
  left-service call beside = refl

  pub access-served : (call : Call) → is_memory_call call ≡ false → access (serve s call).state e p ≡ access s e p
  access-served call beside = served-kept (λ t. access t e p ≡ access s e p) s (service s call) refl (λ none. left-service call beside)

-- A CALL ON MEMORY changes at most that of one endpoint to the pages of a transaction
-- a page is not named, or the endpoint is another
by-page : (P : Type 0) (named theirs : Bool) → (named && theirs) ≡ false → (named ≡ false → P) → (named ≡ true → theirs ≡ false → P) → P
by-page P true theirs is away other = other refl is
by-page P false theirs is away other = away refl

-- what a send changes, and a reclaim, is nobody's of a share alone
share-of : (kind : Kind) (e f : ℕ) → f ≡ e → is_whose (changed_sender kind e) f ≡ false → is_share kind ≡ true
share-of Share e f same none = refl
share-of Lend e f same none = absurd (eqb-false e f none (sym same))
share-of Donate e f same none = absurd (eqb-false e f none (sym same))

shareless : (kind : Kind) (e f : ℕ) → is_whose (changed_sender kind e) f ≡ true → is_share kind ≡ false
shareless Share e f its = absurd (false≢true its)
shareless Lend e f its = refl
shareless Donate e f its = refl

module _ (s : State) (sound : IsSoundState s) (f p : ℕ) (lt : p < length s.pages) where
  module _ (kind : Kind) (r : SendRecord) (own : r.sender ≡ s.runner) (all : list_all (is_sendable s.runner (ownership_of s) s.buffers) (pages_in (ownership_of s) r.ranges) ≡ true) where
    pub sent-kept : (names s r.ranges p && is_whose (changed_sender kind s.runner) f) ≡ false → access (memory_sent s kind (Some r)) f p ≡ access s f p
    sent-kept kept =
        by-page (access (memory_sent s kind (Some r)) f p ≡ access s f p) (names s r.ranges p) (is_whose (changed_sender kind s.runner) f) kept
        (λ away. send-other s sound kind r f p lt away)
        (λ named none. elim (cases_eq f s.runner) [
          | inr apart ↦ sym (send-beside s sound kind r f p own all lt named apart)
          | inl same ↦
              send-named s sound kind r f p all lt named
              ∙ sym (own-kept (is_share kind) r.sender f (page_at s p) (own ∙ sym same))
              ∙ ap (λ b. cond b (option_map (λ (q : Page). q.own_right) (page_at s p)) None) (share-of kind s.runner f same none)
              ∙ owners-right (page_at s p) f (sendable-own s s.runner p r all lt named ∙ sym same)
              ∙ sym (ap (λ h. right_of f (page_at s p) (option_and_then (finite.get s.transactions) h)) (sendable-unnamed s s.runner p r.ranges all lt named))
        ])

    -- the sender has lost its own
    pub sent-lost : (names s r.ranges p && is_whose (changed_sender kind s.runner) f) ≡ true → access (memory_sent s kind (Some r)) f p ≡ None
    sent-lost its =
        let (named, theirs) = and_parts (names s r.ranges p) (is_whose (changed_sender kind s.runner) f) its in
        send-named s sound kind r f p all lt named
        ∙ ap (λ b. option_and_then (λ (q : Page). if b && r.sender == f then Some q.own_right else None) (page_at s p)) (shareless kind s.runner f theirs)
        ∙ nothing (page_at s p)
      where
        nothing : (o : Option Page) → option_and_then (λ (q : Page). if false && r.sender == f then Some q.own_right else None) o ≡ None
        nothing None = refl
        nothing (Some q) = refl

  module _ (h : ℕ) (t : Transaction) (was : transaction_of s h ≡ Some t) where
    pub relinquished-kept : (d : RelinquishDesc) → d.handle ≡ h → (names s t.ranges p && s.runner == f) ≡ false
        → access (relinquished_from s d (Some t)) f p ≡ access s f p
    relinquished-kept d is kept =
        by-page (access (relinquished_from s d (Some t)) f p ≡ access s f p) (names s t.ranges p) (s.runner == f) kept
        (λ away. relinquish-other s sound h t was p lt d f is away)
        (λ named other. relinquish-beside s sound h t was p lt d f is named (λ same. eqb-false s.runner f other (sym same)))

    -- the receiver has lost its own
    pub relinquished-lost : (d : RelinquishDesc) → d.handle ≡ h → (t.sender ≡ s.runner → ⊥) → (names s t.ranges p && s.runner == f) ≡ true
        → access (relinquished_from s d (Some t)) f p ≡ None
    relinquished-lost d is other its =
        let (named, theirs) = and_parts (names s t.ranges p) (s.runner == f) its in
        ap (λ g. access (relinquished_from s d (Some t)) g p) (sym (eqb-true s.runner f theirs))
        ∙ relinquish-named s sound h t was p lt d is named
        ∙ sym (none-kept (is_share t.kind) t.sender s.runner (page_at s p) other)

    pub retrieved-kept : (e : ℕ) (right : Rights) → (names s t.ranges p && e == f) ≡ false → access (retrieved_right s h t e right) f p ≡ access s f p
    retrieved-kept e right kept = elim (cases_Bool (is_donate t.kind)) [
      | inl donated ↦
          by-page (access (retrieved_right s h t e right) f p ≡ access s f p) (names s t.ranges p) (e == f) kept
          (λ away. donate-other s sound h t was p lt e right f donated away)
          (λ named other. sym (donate-beside s sound h t was p lt e f right donated named (λ same. eqb-false e f other (sym same))))
      | inr borrowed ↦
          by-page (access (retrieved_right s h t e right) f p ≡ access s f p) (names s t.ranges p) (e == f) kept
          (λ away. retrieve-other s sound h t was p lt e right f borrowed away)
          (λ named other. retrieve-beside s sound h t was p lt e right f borrowed named (λ same. eqb-false e f other (sym same)))
    ]

    -- the receiver had none before
    pub retrieved-new : (e : ℕ) → held_by t e ≡ None → (t.sender ≡ e → ⊥) → (names s t.ranges p && e == f) ≡ true → access s f p ≡ None
    retrieved-new e unheld other its =
        let (named, theirs) = and_parts (names s t.ranges p) (e == f) its in
        ap (λ g. access s g p) (sym (eqb-true e f theirs))
        ∙ ap (right_of e (page_at s p)) (named-in s p h t (λ k j at_k at_j. sound.one p k j lt at_k at_j) was named)
        ∙ unheld-right (page_at s p) e t unheld other

    module _ (unheld : is_unheld (Some t) ≡ true) where
      pub reclaimed-kept : (zero : Bool) → (names s t.ranges p && is_whose (changed_sender t.kind t.sender) f) ≡ false
          → access (reclaimed s h zero) f p ≡ access s f p
      reclaimed-kept zero kept =
          by-page (access (reclaimed s h zero) f p ≡ access s f p) (names s t.ranges p) (is_whose (changed_sender t.kind t.sender) f) kept
          (λ away. reclaim-other s sound h t was p lt zero f away)
          (λ named none. elim (cases_eq f t.sender) [
            | inr apart ↦ sym (reclaim-beside s sound h t was unheld zero p lt named f (λ same. apart (sym same)))
            | inl same ↦ sym (reclaim-share s sound h t was unheld zero p lt named f (share-of t.kind t.sender f same none) (sym same))
          ])

      -- the sender had none before
      pub reclaimed-new : (names s t.ranges p && is_whose (changed_sender t.kind t.sender) f) ≡ true → access s f p ≡ None
      reclaimed-new its =
          let (named, theirs) = and_parts (names s t.ranges p) (is_whose (changed_sender t.kind t.sender) f) its in
          reclaim-none s sound h t was unheld false p lt named f (shareless t.kind t.sender f theirs)

-- A CALL THAT CHANGES NONE
pub none-changed : (s t : State) → ((e p : ℕ) → access t e p ≡ access s e p) → IsAccessChange s t None
none-changed s t same = record { placed = tt; exclusive = λ e p its. absurd (false≢true its); rest = λ e p kept. same e p }

-- what was told before stays
pub nothing-told : (op : Op) (s t : State) (before now : Option Changed) → ((e p : ℕ) → access t e p ≡ access s e p) → now ≡ before → IsTelling op s t before now
nothing-told op s t before now same still = record { changed = None; access = none-changed s t same; told = still; silent = λ _. refl }

-- WHAT CHANGED, of two managers with as many blocks of RAM, where it is so of the pages of RAM
module _ (x y : Parts) (machine : IsManager x) (next : IsManager y) (blocks : y.manifest.ram_blocks ≡ x.manifest.ram_blocks) where
  abbrev s : State
  s = state_of x

  abbrev t : State
  t = state_of y

  count : length s.pages ≡ 512 * x.manifest.ram_blocks
  count = size_is x ∙ machine.tables.size

  size : length t.pages ≡ length s.pages
  size = size_is y ∙ next.tables.size ∙ ap (λ n. 512 * n) blocks ∙ sym count

  -- no page outside RAM gives a right
  outside : (z : State) (e p : ℕ) → length z.pages ≤ p → access z e p ≡ None
  outside z e p past = ap (λ page. right_of e page (transaction_at z p)) (get_or_past z.pages p None past)

  module _ (named : List Range) (whose : Option EndpointId) (placed : ArePlaced x.manifest.ram_base.0 (512 * x.manifest.ram_blocks) named)
      (exclusive : (e p : ℕ) → p < length s.pages → (names s named p && is_whose whose e) ≡ true → (access s e p ≡ None) ⊎ (access t e p ≡ None))
      (rest : (e p : ℕ) → p < length s.pages → (names s named p && is_whose whose e) ≡ false → access t e p ≡ access s e p) where
    pub access-changed : IsAccessChange s t (Some (record { ranges = named; endpoint = whose }))
    access-changed =
        record {
          placed = subst (λ n. ArePlaced s.ram_base n named) (sym count) placed;
          exclusive = λ e p its. elim (cases_lt p (length s.pages)) [
            | inl lt ↦ exclusive e p lt its
            | inr past ↦ inl (outside s e p past)
          ];
          rest = λ e p kept. elim (cases_lt p (length s.pages)) [
            | inl lt ↦ rest e p lt kept
            | inr past ↦ outside t e p (subst (λ n. n ≤ p) (sym size) past) ∙ sym (outside s e p past)
          ];
        }
