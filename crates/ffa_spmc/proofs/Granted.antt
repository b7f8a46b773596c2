-- SPDX-License-Identifier: MIT OR Apache-2.0
-- The rights that tables are given by each call on memory are the access of the state after it.
use Rattle.std.proofs.Common.{◌≡◌, ◌∙◌, ℕ, ◌<◌, Bool, true, false, cond, length, Option, Some, None, refl, sym, ap, subst, inl, inr}
use Rattle.std.specs.Prelude.{◌==◌, ◌&&◌, if◌then◌else◌}
use Rattle.std.specs.List.{list_all}
use Rattle.std.specs.Option.{option_and_then, option_map, option_map_or}
use Rattle.std.specs.FinMap as finite
use Rattle.std.proofs.Math.Bool.{and-false}
use Rattle.std.proofs.lemmas.Bool.{and_parts, cases_eq, eq-eqb, ne_eqb, false≢true}
use Rattle.ffa_model.specs.declared.descriptor.RelinquishDesc.{RelinquishDesc}
use Rattle.ffa_model.specs.declared.rights.Kind.{Kind}
use Rattle.ffa_model.specs.declared.rights.Kind.TheVariants.{Share, Lend, Donate}
use Rattle.ffa_model.specs.declared.rights.Rights.{Rights}
use Rattle.ffa_model.specs.Identifiers.{identifier, manager, place}
use Rattle.ffa_model.specs.Rights.{is_donate, is_share}
use Rattle.ffa_model.specs.State.{State, Page, Transaction, is_known_among, owner_of, page_at, transaction_of, own_right_of}
use Rattle.ffa_model.specs.Access.{access, handle_at, held_by, names, right_of, ownership_of}
use Rattle.ffa_model.specs.SendDescriptor.{SendRecord}
use Rattle.ffa_model.specs.MemorySend.{is_sendable, memory_sent}
use Rattle.ffa_model.specs.MemoryRetrieve.{retrieved_right}
use Rattle.ffa_model.specs.MemoryReturn.{relinquished_from}
use Rattle.ffa_model.specs.Transactions.{pages_in}
use Rattle.ffa_memshare.specs.Grants.{with_rights}
use Rattle.ffa_model.specs.SoundState.{IsKnown, IsSoundState}
use Rattle.ffa_spmc.specs.Meaning.{access_by_place}
use Rattle.ffa_model.proofs.Accesses.{named-in}
use Rattle.ffa_model.proofs.CallAccesses.{donate-named, donate-other, relinquish-beside, relinquish-named, relinquish-other, retrieve-beside, retrieve-named, retrieve-other, runner-known, send-named, send-other, sendable-unnamed}
use Rattle.ffa_model.proofs.NamedPages.{listed-each}
use Rattle.ffa_model.proofs.Places.{known-named, place-identifier}
use Rattle.ffa_memshare.proofs.Joined.{shareless-right}
use Rattle.ffa_model.proofs.Own.{own-parts}

-- by the three cases of a page and an endpoint
granted-by : (access : ℕ → ℕ → Option Rights) (index : ℕ) (named : ℕ → Bool) (right : ℕ → Option Rights) (i p : ℕ) (target : Option Rights)
    → (i ≡ index → named p ≡ true → right p ≡ target)
    → ((i ≡ index → ⊥) → named p ≡ true → access i p ≡ target)
    → (named p ≡ false → access i p ≡ target)
    → with_rights access index named right i p ≡ target
granted-by access index named right i p target own others beside = of (named p) refl
  where
    of : (b : Bool) → named p ≡ b → cond (i == index && b) (right p) (access i p) ≡ target
    of false is = ap (λ b. cond b (right p) (access i p)) (and-false (i == index)) ∙ beside is
    of true is = elim (cases_eq i index) [
      | inl same ↦ ap (λ b. cond (b && true) (right p) (access i p)) (eq-eqb i index same) ∙ own same is
      | inr apart ↦ ap (λ b. cond (b && true) (right p) (access i p)) (ne_eqb i index apart) ∙ others apart is
    ]

-- an endpoint of a state is the one at its place, and at no other
at-place : (s : State) (e i : ℕ) → IsKnown s e → i ≡ place e → identifier i ≡ e
at-place s e i known is = ap identifier is ∙ known-named (length s.parties) e known

beside-place : (e i : ℕ) → (i ≡ place e → ⊥) → identifier i ≡ e → ⊥
beside-place e i apart is = apart (sym (place-identifier i) ∙ ap place is)

-- a page that an endpoint owns is one of the state
owned-page : (s : State) (e p : ℕ) → IsKnown s e → owner_of s p ≡ e → (q : Page) × (page_at s p ≡ Some q)
owned-page s e p known own = of (page_at s p) refl own
  where
    of : (o : Option Page) → page_at s p ≡ o → option_map_or (λ (q : Page). q.owner) o manager ≡ e → (q : Page) × (page_at s p ≡ Some q)
    of None is own = absurd (false≢true (subst (λ f. is_known_among (length s.parties) f ≡ true) (sym own) known))
    of (Some q) is own = (q, is)

-- A SEND
-- a page that may be sent is the runner's
pub sendable-own : (s : State) (e p : ℕ) (r : SendRecord) → list_all (is_sendable e (ownership_of s) s.buffers) (pages_in (ownership_of s) r.ranges) ≡ true
    → p < length s.pages → names s r.ranges p ≡ true → owner_of s p ≡ e
sendable-own s e p r all lt named = (own-parts s e p (and_parts _ _ one).0).0
  where
    one : is_sendable e (ownership_of s) s.buffers p ≡ true
    one = listed-each (is_sendable e (ownership_of s) s.buffers) (names s r.ranges) (length s.pages) (λ q. q) all p lt named

-- who doesn't own a page that no transaction names has no right to it
beside-owner : (s : State) (e f p : ℕ) → owner_of s p ≡ e → (f ≡ e → ⊥) → handle_at s p ≡ None → access s f p ≡ None
beside-owner s e f p own apart unnamed = ap (λ h. right_of f (page_at s p) (option_and_then (finite.get s.transactions) h)) unnamed ∙ of (page_at s p) own
  where
    of : (o : Option Page) → option_map_or (λ (q : Page). q.owner) o manager ≡ e → right_of f o None ≡ None
    of None own = refl
    of (Some q) own = ap (λ b. cond b (Some q.own_right) None) (ne_eqb q.owner f (λ same. apart (sym same ∙ own)))

-- the right that a sender keeps
pub own-kept : (share : Bool) (sender e : ℕ) (page : Option Page) → sender ≡ e
    → (if share then option_map (λ (q : Page). q.own_right) page else None) ≡ option_and_then (λ (q : Page). if share && sender == e then Some q.own_right else None) page
own-kept true sender e None is = refl
own-kept true sender e (Some q) is = sym (ap (λ b. cond b (Some q.own_right) None) (eq-eqb sender e is))
own-kept false sender e None is = refl
own-kept false sender e (Some q) is = refl

pub none-kept : (share : Bool) (sender e : ℕ) (page : Option Page) → (sender ≡ e → ⊥)
    → None ≡ option_and_then (λ (q : Page). if share && sender == e then Some q.own_right else None) page
none-kept share sender e None apart = refl
none-kept true sender e (Some q) apart = sym (ap (λ b. cond b (Some q.own_right) None) (ne_eqb sender e apart))
none-kept false sender e (Some q) apart = refl

-- nobody else had a right to the pages, and nobody gets one
pub send-beside : (s : State) → IsSoundState s → (kind : Kind) (r : SendRecord) (f p : ℕ)
    → r.sender ≡ s.runner
    → list_all (is_sendable s.runner (ownership_of s) s.buffers) (pages_in (ownership_of s) r.ranges) ≡ true
    → p < length s.pages → names s r.ranges p ≡ true → (f ≡ s.runner → ⊥)
    → access s f p ≡ access (memory_sent s kind (Some r)) f p
send-beside s sound kind r f p own all lt named apart =
    beside-owner s s.runner f p (sendable-own s s.runner p r all lt named) apart (sendable-unnamed s s.runner p r.ranges all lt named)
    ∙ none-kept (is_share kind) r.sender f (page_at s p) (λ same. apart (sym same ∙ own))
    ∙ sym (send-named s sound kind r f p all lt named)

-- the sender of a share keeps its own right, and of all else it has none
pub send-granted : (s : State) → IsSoundState s → (kind : Kind) (r : SendRecord) (right : ℕ → Option Rights) (i p : ℕ)
    → r.sender ≡ s.runner
    → list_all (is_sendable s.runner (ownership_of s) s.buffers) (pages_in (ownership_of s) r.ranges) ≡ true
    → p < length s.pages
    → right p ≡ (if is_share kind then own_right_of s p else None)
    → with_rights (access_by_place s) (place s.runner) (names s r.ranges) right i p ≡ access_by_place (memory_sent s kind (Some r)) i p
send-granted s sound kind r right i p own all lt is =
    granted-by (access_by_place s) (place s.runner) (names s r.ranges) right i p (access_by_place (memory_sent s kind (Some r)) i p)
    (λ at named.
    is
    ∙ own-kept (is_share kind) r.sender (identifier i) (page_at s p) (own ∙ sym (at-place s s.runner i (runner-known s sound) at))
    ∙ sym (send-named s sound kind r (identifier i) p all lt named))
    (λ apart named. send-beside s sound kind r (identifier i) p own all lt named (beside-place s.runner i apart))
    (λ other. sym (send-other s sound kind r (identifier i) p lt other))

-- OF AN OPEN TRANSACTION
-- nobody had a right to a donate, and nobody but its new owner gets one
module _ (s : State) (sound : IsSoundState s) (h : ℕ) (t : Transaction) (was : transaction_of s h ≡ Some t) (p : ℕ) (lt : p < length s.pages) where
  pub donate-beside : (e f : ℕ) (its : Rights) → is_donate t.kind ≡ true → names s t.ranges p ≡ true → (f ≡ e → ⊥)
      → access s f p ≡ access (retrieved_right s h t e its) f p
  donate-beside e f its donated named apart =
      ap (right_of f (page_at s p)) (named-in s p h t (λ k j at_k at_j. sound.one p k j lt at_k at_j) was named)
      ∙ shareless-right (page_at s p) f t (held-none t.kind donated refl) (no-share t.kind donated)
      ∙ sym (kept (page_at s p))
      ∙ sym (donate-named s sound h t was p lt e its f donated named)
    where
      kept : (o : Option Page) → option_and_then (λ (_ : Page). if e == f then Some its else None) o ≡ None
      kept None = refl
      kept (Some q) = ap (λ b. cond b (Some its) None) (ne_eqb e f (λ same. apart (sym same)))

      held-none : (kind : Kind) → is_donate kind ≡ true → t.kind ≡ kind → held_by t f ≡ None
      held-none Share is same = absurd (false≢true is)
      held-none Lend is same = absurd (false≢true is)
      held-none Donate is same = (sound.transactions h t was).donate f same

      no-share : (kind : Kind) → is_donate kind ≡ true → is_share kind ≡ false
      no-share Share is = absurd (false≢true is)
      no-share Lend is = refl
      no-share Donate is = refl

module _ (s : State) (sound : IsSoundState s) (h : ℕ) (t : Transaction) (was : transaction_of s h ≡ Some t) (right : ℕ → Option Rights) (i p : ℕ) (lt : p < length s.pages) where
  -- the runner has given up what it held
  pub relinquish-granted : (d : RelinquishDesc) → d.handle ≡ h → (t.sender ≡ s.runner → ⊥) → right p ≡ None
      → with_rights (access_by_place s) (place s.runner) (names s t.ranges) right i p ≡ access_by_place (relinquished_from s d (Some t)) i p
  relinquish-granted d is other none =
      granted-by (access_by_place s) (place s.runner) (names s t.ranges) right i p (access_by_place (relinquished_from s d (Some t)) i p)
      (λ at named.
      let e : s.runner ≡ identifier i = sym (at-place s s.runner i (runner-known s sound) at) in
      none
      ∙ none-kept (is_share t.kind) t.sender s.runner (page_at s p) other
      ∙ sym (relinquish-named s sound h t was p lt d is named)
      ∙ ap (λ f. access (relinquished_from s d (Some t)) f p) e)
      (λ apart named. sym (relinquish-beside s sound h t was p lt d (identifier i) is named (beside-place s.runner i apart)))
      (λ beside. sym (relinquish-other s sound h t was p lt d (identifier i) is beside))

  -- an endpoint has taken this right
  pub retrieve-granted : (e : ℕ) (its : Rights) → IsKnown s e → is_donate t.kind ≡ false → right p ≡ Some its
      → with_rights (access_by_place s) (place e) (names s t.ranges) right i p ≡ access_by_place (retrieved_right s h t e its) i p
  retrieve-granted e its known borrowed is =
      granted-by (access_by_place s) (place e) (names s t.ranges) right i p (access_by_place (retrieved_right s h t e its) i p)
      (λ at named.
      let good = sound.transactions h t was in
      let page = owned-page s t.sender p good.sender (good.owned p lt named) in
      is
      ∙ sym (retrieve-named s sound h t was p lt e its page.0 borrowed named page.1)
      ∙ ap (λ f. access (retrieved_right s h t e its) f p) (sym (at-place s e i known at)))
      (λ apart named. sym (retrieve-beside s sound h t was p lt e its (identifier i) borrowed named (beside-place e i apart)))
      (λ beside. sym (retrieve-other s sound h t was p lt e its (identifier i) borrowed beside))

  -- a donate is an endpoint's own, with this right; nobody else had one
  pub donate-granted : (e : ℕ) (its : Rights) → IsKnown s e → is_donate t.kind ≡ true → right p ≡ Some its
      → with_rights (access_by_place s) (place e) (names s t.ranges) right i p ≡ access_by_place (retrieved_right s h t e its) i p
  donate-granted e its known donated is =
      granted-by (access_by_place s) (place e) (names s t.ranges) right i p (access_by_place (retrieved_right s h t e its) i p)
      (λ at named.
      let good = sound.transactions h t was in
      let page = owned-page s t.sender p good.sender (good.owned p lt named) in
      is
      ∙ sym (given page.0 (identifier i) (sym (at-place s e i known at)))
      ∙ ap (λ o. option_and_then (λ (_ : Page). if e == identifier i then Some its else None) o) (sym page.1)
      ∙ sym (donate-named s sound h t was p lt e its (identifier i) donated named))
      (λ apart named. donate-beside s sound h t was p lt e (identifier i) its donated named (beside-place e i apart))
      (λ beside. sym (donate-other s sound h t was p lt e its (identifier i) donated beside))
    where
      given : (q : Page) (f : ℕ) → e ≡ f → option_and_then (λ (_ : Page). if e == f then Some its else None) (Some q) ≡ Some its
      given q f same = ap (λ b. cond b (Some its) None) (eq-eqb e f same)
