-- SPDX-License-Identifier: MIT OR Apache-2.0
-- FFA_MEM_RETRIEVE_REQ, in the runner's view, and to others.
use Rattle.std.proofs.Common.{◌≡◌, ◌≢◌, ◌∙◌, ℕ, Bool, true, false, cond, List, [], ◌∷◌, ◌++◌, length, Option, Some, None, refl, sym, ap, subst, inl, inr, arith, length-set, ◌==◌, ◌||◌, not, is_none, nat_le}
use Rattle.std.specs.Option.{option_map, option_map_or}
use Rattle.std.specs.FinMap as finite
use Rattle.std.proofs.lemmas.Bool.{cases_Bool, false≢true}
use Rattle.ffa_model.specs.declared.descriptor.RetrieveDesc.{RetrieveDesc}
use Rattle.ffa_model.specs.declared.operation.ErrorCode.TheVariants.{InvalidParameters}
use Rattle.ffa_model.specs.declared.call.Reply.TheVariants.{Retrieved}
use Rattle.ffa_model.specs.declared.rights.Kind.{Kind}
use Rattle.ffa_model.specs.declared.rights.Kind.TheVariants.{Share, Lend, Donate}
use Rattle.ffa_model.specs.declared.rights.Rights.{Rights}
use Rattle.ffa_model.specs.Identifiers.{place}
use Rattle.ffa_model.specs.Rights.{is_at_most, is_donate}
use Rattle.ffa_model.specs.State.{State, Transaction, Buffers, buffers_of, transaction_of, version_of}
use Rattle.ffa_model.specs.Access.{held_by, is_offered, is_receiver, Ownership, ownership_of}
use Rattle.ffa_model.specs.Buffers.{buffers_in, buffers_with_rx, filled, is_full}
use Rattle.ffa_model.specs.RefusalCodes.{code_of}
use Rattle.ffa_model.specs.Calls.{first_failure}
use Rattle.ffa_model.specs.ResponseBytes.{response_bytes, response_size}
use Rattle.ffa_model.specs.RetrieveDescriptor.{endpoints_named, retrieve_of}
use Rattle.ffa_model.specs.HypervisorRetrieve.{asks_back, memory_retrieve, retrieve_by}
use Rattle.ffa_model.specs.declared.manifest.Ffa.{Ffa}
use Rattle.ffa_model.specs.declared.manifest.Ffa.TheVariants.{V1_1, V1_2}
use Rattle.ffa_model.specs.RunStates.{schedule_of}
use Rattle.ffa_model.specs.declared.call.Transfer.{Transfer}
use Rattle.ffa_model.specs.Transactions.{ceiling, holding, open_of, scene_of, with_open, with_transaction}
use Rattle.ffa_model.specs.MemoryRetrieve.{response_to, asked_right, asking_guards, donated_if, holding_guards, is_kind_right, named_read, names_receivers, receiver_retrieve, response_length, retrieve_guards, retrieve_read, retrieved, retrieved_from, retrieved_right, right_for, taken_in, with_retrieved}
use Rattle.ffa_laws.specs.Steady.{IsSteady}
use Rattle.ffa_laws.specs.View.{view, involves, is_near, kept, seen_by}
use Rattle.ffa_laws.specs.Events.{Event, apply_all, public_change, takes, takes_from, taking, where_true, with_holder}
use Rattle.ffa_model.proofs.Accesses.{held-beside, length-map_at}
use Rattle.ffa_laws.proofs.BufferLaws.{far-filled, view-filled}
use Rattle.ffa_laws.proofs.Ceilings.{ceiling-seen}
use Rattle.ffa_laws.proofs.Changes.{other-told, seen_buffers, view-changed, with_parts, with_public_parts}
use Rattle.ffa_laws.proofs.Form.{IsOwn}
use Rattle.ffa_laws.proofs.Given.{view-lost, view-taken, view-unlost}
use Rattle.ffa_laws.proofs.Holders.{Holders, reheld, seen-taken, seen-unheld, view-reheld, view-untold}
use Rattle.ffa_laws.proofs.MessageLaws.{full-seen, some-seen, room-seen}
use Rattle.ffa_laws.proofs.HypervisorLaws.{asks-seen, descriptor-seen, other-back, own-back}
use Rattle.ffa_laws.proofs.ReadBacks.{by-either}
use Rattle.ffa_laws.proofs.ReclaimLaws.{seen-whole}
use Rattle.ffa_laws.proofs.Told.{IsTold}
use Rattle.ffa_laws.proofs.Views.{held-seen, shown, view-transaction}
use Rattle.ffa_laws.proofs.Written.{rewritten-filled, rx-own, seen-filled, with_rx_full}
use Rattle.ffa_laws.proofs.Taken as retrieve
use Rattle.ffa_laws.proofs.Taken.{Taken, checks, size-before, state-taken, steady-before, taken}
use Rattle.ffa_model.proofs.Guards.{invalid, denied, busy}
use Rattle.ffa_laws.proofs.Versions.{version-seen}
use Rattle.ffa_model.specs.declared.refusal.Refusal.{Refusal}

-- ---- the guards, in the runner's view
first-fails : (a : Bool) (code : Refusal) (guards : List (Bool × Refusal)) → a ≡ false → first_failure ((a, code) ∷ guards) ≡ Some (code_of code)
first-fails false code guards is = refl
first-fails true code guards is = absurd (false≢true (sym is))

-- what e isn't offered, it can't retrieve
not-offered : (ffa : Ffa) (ram : Ownership) (full : Bool) (e : ℕ) (named : List ℕ) (d : RetrieveDesc) (o : Option Transaction) → is_offered e o ≡ false
    → first_failure (holding_guards ffa ram full e named d o) ≡ Some InvalidParameters
not-offered ffa ram full e named d None is = refl
not-offered ffa ram full e named d (Some t) is =
    first-fails (is_receiver e t) invalid
    ((names_receivers ffa named t, invalid)
    ∷ (d.sender.0 == t.sender, invalid)
    ∷ (d.tag == t.tag, invalid)
    ∷ (is_kind_right t.kind d.kind, invalid)
    ∷ (is_none (held_by t e), denied)
    ∷ (is_at_most (right_for ram t e d) (ceiling ram t e), denied)
    ∷ (not full, busy)
    ∷ [])
    is

-- whom the caller names is compared with receivers, whom it sees
names-seen : (ffa : Ffa) (e : ℕ) (named : List ℕ) (t : Transaction) → names_receivers ffa named (seen_by e t) ≡ names_receivers ffa named t
names-seen V1_1 e named t = refl
names-seen V1_2 e named t = refl

offered-involved : (e : ℕ) (t : Transaction) → is_receiver e t ≡ true → involves e (Some t) ≡ true
offered-involved e t receiver = ap (λ b. t.sender == e || b) receiver ∙ grind (arith, cases_Bool (t.sender == e))

module _ (s : State) (steady : IsSteady s) where
  abbrev v : State
  v = view s.runner s

  abbrev full : Bool
  full = is_full (buffers_in s.buffers s.runner)

  same-failure : (named : List ℕ) (d : RetrieveDesc) (o : Option Transaction) → transaction_of s d.handle ≡ o
      → first_failure (holding_guards s.ffa (ownership_of v) full s.runner named d (shown s.runner o)) ≡ first_failure (holding_guards s.ffa (ownership_of s) full s.runner named d o)
  same-failure named d None there = refl
  same-failure named d (Some t) there =
      elim (is_receiver s.runner t) as (λ b. is_receiver s.runner t ≡ b → first_failure (holding_guards s.ffa (ownership_of v) full s.runner named d (shown s.runner (Some t))) ≡ first_failure (holding_guards s.ffa (ownership_of s) full s.runner named d (Some t))) [
        | true ↦ λ receiver.
            let known = offered-involved s.runner t receiver in
            ap (λ b. first_failure (holding_guards s.ffa (ownership_of v) full s.runner named d (option_map (seen_by s.runner) (kept b (Some t))))) known
            ∙ (λ i. first_failure (
            (is_receiver s.runner t, invalid)
            ∷ (names-seen s.ffa s.runner named t i, invalid)
            ∷ (d.sender.0 == t.sender, invalid)
            ∷ (d.tag == t.tag, invalid)
            ∷ (is_kind_right t.kind d.kind, invalid)
            ∷ (is_none (held-seen s.runner t i), denied)
            ∷ (is_at_most (asked_right (ceiling-seen s.runner s steady d.handle t there known s.runner i) d) (ceiling-seen s.runner s steady d.handle t there known s.runner i), denied)
            ∷ (not full, busy)
            ∷ []))
        | false ↦ λ other.
            not-offered s.ffa (ownership_of v) full s.runner named d (shown s.runner (Some t))
            (elim (involves s.runner (Some t)) as (λ b. is_offered s.runner (option_map (seen_by s.runner) (kept b (Some t))) ≡ false) [ true ↦ other | false ↦ refl ])
            ∙ sym (not-offered s.ffa (ownership_of s) full s.runner named d (Some t) other)
      ] refl

  same-asking : (named : List ℕ) (o : Option RetrieveDesc) → first_failure (asking_guards s.ffa (scene_of v) s.runner named o) ≡ first_failure (asking_guards s.ffa (scene_of s) s.runner named o)
  same-asking named None = refl
  same-asking named (Some d) =
      (λ i. first_failure (holding_guards s.ffa (ownership_of v) (full-seen s steady s.runner i) s.runner named d (view-transaction s.runner s d.handle i)))
      ∙ same-failure named d (transaction_of s d.handle) refl

  -- checks before others that give the same
  same-checks : (x : Transfer) (rest other : List (Bool × Refusal)) → first_failure rest ≡ first_failure other → first_failure (checks v x rest) ≡ first_failure (checks s x other)
  same-checks x rest other same =
      λ i. cond (some-seen s steady s.runner i) (cond (x.total == x.fragment) (cond (nat_le x.total (room-seen s steady s.runner i)) (cond (x.address == 0) (cond (x.pages == 0) (same i) (Some InvalidParameters)) (Some InvalidParameters)) (Some InvalidParameters)) (Some InvalidParameters)) (Some InvalidParameters)

  same-read : (total : ℕ) → retrieve_read v total ≡ retrieve_read s total
  same-read total = ap (retrieve_of s.ffa s.runner) (descriptor-seen s steady total)

  same-guards : (x : Transfer) → first_failure (receiver_retrieve v x).guards ≡ first_failure (receiver_retrieve s x).guards
  same-guards x =
      let named = named_read s x.total in
      (λ i. first_failure (retrieve_guards s.ffa (scene_of v) s.runner x (endpoints_named (descriptor-seen s steady x.total i)) (same-read x.total i)))
      ∙ same-checks x (asking_guards s.ffa (scene_of v) s.runner named (retrieve_read s x.total)) (asking_guards s.ffa (scene_of s) s.runner named (retrieve_read s x.total)) (same-asking named (retrieve_read s x.total))

-- ---- the state
module _ (s : State) (steady : IsSteady s) (x : Transfer) (its : Taken s x) where
  abbrev seen : State
  seen = view s.runner s

  abbrev t : Transaction
  t = its.of

  abbrev h : ℕ
  h = its.asked.handle

  abbrev right : Rights
  right = retrieve.right s x its

  abbrev holders : Holders
  holders = retrieve.holders s x its

  abbrev taken_as : Kind → State
  taken_as kind = retrieve.taken_as s x its kind

  abbrev before : State
  before = retrieve.before s x its

  abbrev response : List ℕ
  response = retrieve.response s x its

  known : involves s.runner (Some t) ≡ true
  known = offered-involved s.runner t its.is.receiver

  seen-there : transaction_of seen h ≡ Some (seen_by s.runner t)
  seen-there = view-transaction s.runner s h ∙ ap (shown s.runner) its.is.there ∙ ap (λ b. option_map (seen_by s.runner) (kept b (Some t))) known

  own-taken : with_retrieved seen h (seen_by s.runner t) s.runner right ≡ view s.runner (with_retrieved s h t s.runner right)
  own-taken = kinds t.kind
    where
      held : with_open seen (with_transaction (open_of seen) h (holding (seen_by s.runner t) s.runner right)) ≡ view s.runner (reheld s h t holders)
      held = sym (view-reheld s steady h t its.is.there holders s.runner (holding (seen_by s.runner t) s.runner right) known (seen-taken s.runner t right))

      kinds : (kind : Kind) → with_open (donated_if (is_donate kind) seen t.ranges s.runner right) (taken_in kind (open_of seen) h (seen_by s.runner t) s.runner right)
          ≡ view s.runner (taken_as kind)
      kinds Share = held
      kinds Lend = held
      kinds Donate = sym (view-taken s steady h t its.is.there s.runner right known)

  own-state : (receiver_retrieve seen x).state ≡ view s.runner (receiver_retrieve s x).state
  own-state =
      ap (retrieved seen) (same-read s steady x.total ∙ its.read)
      ∙ ap (retrieved_from seen its.asked) seen-there
      ∙ ap (λ most. retrieved_right seen h (seen_by s.runner t) s.runner (asked_right most its.asked)) (ceiling-seen s.runner s steady h t its.is.there known s.runner)
      ∙ ap (λ version. filled (with_retrieved seen h (seen_by s.runner t) s.runner right) s.runner (response_bytes version (response_to h (seen_by s.runner t) s.runner right)))
      (version-seen s.runner s steady.runner)
      ∙ ap (λ u. filled u s.runner response) own-taken
      ∙ view-filled s.runner before response steady.runner
      ∙ sym (ap (view s.runner) (state-taken s x its))

  own-reply : (receiver_retrieve seen x).reply ≡ (receiver_retrieve s x).reply
  own-reply =
      ap Retrieved (
      ap (response_length seen) (same-read s steady x.total ∙ its.read)
      ∙ ap (λ version. option_map_or (λ (u : Transaction). response_size version 1 u.ranges) (transaction_of seen h) 0) (version-seen s.runner s steady.runner)
      ∙ ap (λ o. option_map_or (λ (u : Transaction). response_size (version_of s s.runner) 1 u.ranges) o 0) seen-there
      ∙ sym (ap (response_length s) its.read ∙ ap (λ o. option_map_or (λ (u : Transaction). response_size (version_of s s.runner) 1 u.ranges) o 0) its.is.there))

  -- ---- to another endpoint
  module _ (e : ℕ) (other : s.runner ≢ e) where
    abbrev told : Kind → List Event
    told kind = where_true (t.sender == e) (taking kind h s.runner right ∷ [])

    seen-own : (u : Transaction) → (u.sender == e) ≡ true → seen_by e u ≡ u
    seen-own u mine = λ i. record u { held = cond (mine i) u.held (finite.retain_keys u.held (λ f. f == e)) }

    held-told : view e (reheld s h t holders) ≡ apply_all e (view e s) (told Share)
    held-told =
        elim (t.sender == e) as (λ b. (t.sender == e) ≡ b → view e (reheld s h t holders) ≡ apply_all e (view e s) (where_true b (taking Share h s.runner right ∷ []))) [
          | true ↦ λ mine.
              view-reheld s steady h t its.is.there holders e (holding t s.runner right) (ap (λ b. b || is_receiver e t) mine) (seen-own (holding t s.runner right) mine)
              ∙ (λ i. with_holder (view e s) h s.runner (Some right) (sym (view-transaction e s h ∙ ap (shown e) its.is.there ∙ seen-whole e t mine) i))
          | false ↦ λ not_mine. view-untold s steady h t its.is.there holders e (seen-unheld e t holders not_mine (held-beside t s.runner right e (λ same. other (sym same))))
        ] refl

    given-told : t.kind ≡ Donate → view e (taken_as Donate) ≡ apply_all e (view e s) (told Donate)
    given-told donate =
        elim (t.sender == e) as (λ b. (t.sender == e) ≡ b → view e (taken_as Donate) ≡ apply_all e (view e s) (where_true b (taking Donate h s.runner right ∷ []))) [
          | true ↦ λ mine. view-lost s steady h t its.is.there s.runner right e other (ap (λ b. b || is_receiver e t) mine)
          | false ↦ λ not_mine. view-unlost s steady h t its.is.there s.runner right e other (λ i. not_mine i || not_offered i)
        ] refl
      where
        not_offered : is_receiver e t ≡ false
        not_offered = elim (cases_Bool (is_receiver e t)) [
          | inl offered ↦ absurd (other ((steady.transactions h t its.is.there).taker s.runner e donate its.is.receiver offered))
          | inr none ↦ none
        ]

    told-before : view e before ≡ apply_all e (view e s) (told t.kind)
    told-before = of t.kind refl
      where
        of : (kind : Kind) → t.kind ≡ kind → view e (taken_as kind) ≡ apply_all e (view e s) (told kind)
        of Donate is = given-told is
        of _ is = held-told

    abbrev new_buffers : List (Option Buffers)
    new_buffers = buffers_with_rx s.buffers s.runner true

    abbrev filled_before : State
    filled_before = filled before s.runner response

    view-after : view e filled_before ≡ with_public_parts (view e before) (schedule_of s) (seen_buffers e (length s.pages) new_buffers)
    view-after =
        view-changed e before filled_before.pages new_buffers (schedule_of s) (rewritten-filled before.pages response (buffers_of s s.runner))
        ∙ (λ i. with_parts (view e before) ((seen-filled e before response (buffers_of s s.runner) ∙ far-filled e s.runner before response (steady-before s x its steady) steady.runner other) i) (seen_buffers e (size-before s x its steady i) new_buffers) (schedule_of s))

    told-taken : view e filled_before ≡ apply_all e (view e s) (told t.kind ++ public_change s filled_before)
    told-taken =
        other-told e s filled_before (view e before) (told t.kind) (length-set s.buffers (place s.runner) (with_rx_full true (buffers_of s s.runner))) (λ i mine. rx-own (length s.pages) s.buffers s.runner true i)
        (length-map_at (λ q page. kept (is_near e before q) page) before.pages ∙ size-before s x its steady)
        (λ i. record (view e before) { buffers = seen_buffers e (size-before s x its steady i) s.buffers })
        (sym told-before) view-after

pub own-retrieve : (s : State) → IsSteady s → (x : Transfer) → IsOwn s (memory_retrieve (view s.runner s) x) (memory_retrieve s x)
own-retrieve s steady x =
    subst (λ b. IsOwn s (retrieve_by b (view s.runner s) x) (memory_retrieve s x)) (sym (asks-seen s steady x)) (of (asks_back s x))
  where
    of : (b : Bool) → IsOwn s (retrieve_by b (view s.runner s) x) (retrieve_by b s x)
    of true = own-back s steady x
    of false = (same-guards s steady x, λ none. (own-state s steady x (taken s x none), own-reply s steady x (taken s x none)))

pub other-retrieve : (e : ℕ) (s : State) → IsSteady s → s.runner ≢ e → (x : Transfer) → IsTold e s (memory_retrieve s x) (takes e s (retrieve_read s x.total))
other-retrieve e s steady other x =
    by-either s x (λ c. IsTold e s c (takes e s (retrieve_read s x.total)))
    (λ none.
    let its = taken s x none in
    ap (view e) (state-taken s x its) ∙ told-taken s steady x its e other
    ∙ (λ i. apply_all e (view e s) (sym (ap (takes e s) its.read ∙ ap (takes_from e s its.asked) its.is.there) i ++ public_change s (sym (state-taken s x its) i))))
    (other-back s steady e other x)
