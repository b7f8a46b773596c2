-- SPDX-License-Identifier: MIT OR Apache-2.0
-- Access after each call on memory, for each page and each endpoint.
use Rattle.std.proofs.Common.{◌≡◌, ◌∙◌, ℕ, zero, suc, ◌+◌, ◌^◌, ◌<◌, ◌≤◌, Bool, true, false, cond, List, length, take, drop, Option, Some, None, refl, sym, ap, subst, arith, inl, inr, ◌==◌, ◌&&◌, if◌then◌else◌, slice_set}
use Rattle.std.specs.List.{list_all}
use Rattle.std.specs.Option.{option_and_then}
use Rattle.std.specs.Ordering.{nat_cmp}
use Rattle.std.specs.FinMap as finite
use Rattle.std.proofs.lemmas.Bool.{and_parts, cases_eq, cases_lt, false≢true, true≢false}
use Rattle.std.proofs.lemmas.List.{get_or-set_same, get_or-set_other, get_or_past, length-set}
use Rattle.ffa_model.specs.declared.limits.TheConstants.{MOST_HANDLES}
use Rattle.ffa_model.specs.declared.descriptor.RelinquishDesc.{RelinquishDesc}
use Rattle.ffa_model.specs.declared.manifest.Ffa.{Ffa}
use Rattle.ffa_model.specs.declared.manifest.Ffa.TheVariants.{V1_1, V1_2}
use Rattle.ffa_model.specs.declared.rights.Kind.{Kind}
use Rattle.ffa_model.specs.declared.rights.Kind.TheVariants.{Share, Lend, Donate}
use Rattle.ffa_model.specs.declared.rights.Rights.{Rights}
use Rattle.ffa_model.specs.declared.transaction.Range.{Range}
use Rattle.ffa_model.specs.Rights.{is_donate, is_share}
use Rattle.ffa_model.specs.State.{State, Page, Transaction, Buffers, buffers_of, is_known_among, page_at, sent_by, transaction_of, version_of}
use Rattle.ffa_model.specs.Access.{access, handle_at, held_by, names, right_by, right_of, transaction_at, ownership_of}
use Rattle.ffa_model.specs.Memory.{page_with, with_pages, written, written_pages, written_run}
use Rattle.ffa_model.specs.Buffers.{filled, filled_pages}
use Rattle.ffa_model.specs.ResponseBytes.{response_bytes}
use Rattle.ffa_model.specs.SendDescriptor.{SendRecord}
use Rattle.ffa_model.specs.Transactions.{closed, handle_of, holding, most_sends, next_handle, not_holding, open_of, with_open, with_transaction, pages_in}
use Rattle.ffa_model.specs.MemorySend.{is_told_normal, is_sendable, memory_sent, offered_in, transaction_sent}
use Rattle.ffa_model.specs.MemoryRetrieve.{donated_if, donated_page, response_to, retrieved_right, with_retrieved, taken_in}
use Rattle.ffa_model.specs.MemoryReturn.{reclaimed, relinquished_from}
use Rattle.ffa_model.specs.SoundState.{IsKnown, IsSoundState, IsSoundTransaction}
use Rattle.ffa_model.proofs.Accesses.{IsNamedOnce, access-beside, access-closed, access-given, access-holding, access-holding_beside, access-kept, access-opened, access-released, access-released_beside, access-still, access-unchanged, access-zeroed, in-closed}
use Rattle.ffa_model.proofs.NamedPages.{listed-each}
use Rattle.ffa_model.proofs.Own.{own-parts}

-- FILLS change nobody's access
right-written : (e at : ℕ) (bytes : List ℕ) (page : Option Page) (t : Option Transaction) → right_of e (page_with at bytes page) t ≡ right_of e page t
right-written e at bytes None t = refl
right-written e at bytes (Some page) None = refl
right-written e at bytes (Some page) (Some t) = of (held_by t e)
  where
    of : (o : Option Rights) → right_of e (page_with at bytes (Some page)) (Some t) ≡ right_of e (Some page) (Some t)
    of o = inner (held_by t e)
      where
        inner : (o : Option Rights) → cond true (right_by e page t o) None ≡ right_by e page t o
        inner o = refl

pub access-written : (s : State) (q at : ℕ) (bytes : List ℕ) (e p : ℕ) → access (written s q at bytes) e p ≡ access s e p
access-written s q at bytes e p = elim (cases_eq p q) [
  | inr other ↦ ap (λ page. right_of e page (transaction_at s p)) (get_or-set_other s.pages q p (page_with at bytes (page_at s q)) None other)
  | inl same ↦ subst (λ r. access (written s q at bytes) e r ≡ access s e r) (sym same) (elim (cases_lt q (length s.pages)) [
    | inl lt ↦
        ap (λ page. right_of e page (transaction_at s q)) (get_or-set_same s.pages q (page_with at bytes (page_at s q)) None lt)
        ∙ right-written e at bytes (page_at s q) (transaction_at s q)
    | inr past ↦
        ap (λ page. right_of e page (transaction_at s q))
        (get_or_past (slice_set s.pages q (page_with at bytes (page_at s q))) q None (subst (λ n. n ≤ q) (sym (length-set s.pages q (page_with at bytes (page_at s q)))) past)
        ∙ sym (get_or_past s.pages q None past))
  ])
]

pub access-written_run : (s : State) (n : ℕ) (pages : List (Option Page)) (first : ℕ) (bytes : List ℕ) (e p : ℕ)
    → access (record s { pages = written_run n pages first bytes }) e p ≡ access (record s { pages = pages }) e p
access-written_run s zero pages first bytes e p = refl
access-written_run s (suc n) pages first bytes e p =
    access-written_run s n (written_pages pages first 0 (take 4096 bytes)) (first + 1) (drop 4096 bytes) e p
    ∙ access-written (record s { pages = pages }) first 0 (take 4096 bytes) e p

pub access-filled : (s : State) (f : ℕ) (bytes : List ℕ) (e p : ℕ) → access (filled s f bytes) e p ≡ access s e p
access-filled s f bytes e p = of (buffers_of s f)
  where
    of : (o : Option Buffers) → access (record s { pages = filled_pages s.pages bytes o }) e p ≡ access s e p
    of None = refl
    of (Some b) = access-written_run s b.pages s.pages b.rx bytes e p

-- what nobody but the sender of a share has in a page whose transaction it doesn't hold
abbrev pub unheld_right : Transaction → ℕ → Option Page → Option Rights
unheld_right t e page = option_and_then (λ (q : Page). if is_share t.kind && t.sender == e then Some q.own_right else None) page

-- A SEND
-- a page that may be sent stands in no transaction
pub sendable-unnamed : (s : State) (e p : ℕ) (ranges : List Range) → list_all (is_sendable e (ownership_of s) s.buffers) (pages_in (ownership_of s) ranges) ≡ true
    → p < length s.pages → names s ranges p ≡ true → handle_at s p ≡ None
sendable-unnamed s e p ranges all lt named =
    let one : is_sendable e (ownership_of s) s.buffers p ≡ true =
    listed-each (is_sendable e (ownership_of s) s.buffers) (names s ranges) (length s.pages) (λ q. q) all p lt named in
    (own-parts s e p (and_parts _ _ one).0).1

-- two handles that are equal have one sender and one number, where the numbers are less than 2^32 apart
pub handle-parts : (e f a b : ℕ) → handle_of e a ≡ handle_of f b → a < b + 2 ^ 32 → b < a + 2 ^ 32 → (e ≡ f) × (a ≡ b)
handle-parts e f a b same near_a near_b = (omega arith, omega arith)

-- a sender has a handle for each send that it may make
pub handles-enough : (ffa : Ffa) → most_sends ffa ≤ MOST_HANDLES
handles-enough V1_1 = omega arith
handles-enough V1_2 = omega arith

-- the runner is an endpoint
pub runner-known : (s : State) → IsSoundState s → IsKnown s s.runner
runner-known s sound = subst (λ n. is_known_among n s.runner ≡ true) sound.sized.works sound.schedule.runner

-- a handle that has not been given is not open
pub handle-new : (s : State) → IsSoundState s → (e : ℕ) → IsKnown s e → transaction_of s (next_handle (open_of s) e) ≡ None
handle-new s sound e known = of (transaction_of s (next_handle (open_of s) e)) refl
  where
    of : (o : Option Transaction) → transaction_of s (next_handle (open_of s) e) ≡ o → o ≡ None
    of None is = refl
    of (Some t) is =
        let good : IsSoundTransaction s (next_handle (open_of s) e) t = sound.transactions (next_handle (open_of s) e) t is in
        let number = good.number in
        let enough : most_sends s.ffa ≤ MOST_HANDLES = handles-enough s.ffa in
        let most_e : sent_by s e ≤ most_sends s.ffa = sound.sent e known in
        let most_t : sent_by s t.sender ≤ most_sends s.ffa = sound.sent t.sender good.sender in
        let below : number.0 ≤ sent_by s t.sender = number.3 in
        let parts = handle-parts e t.sender (sent_by s e + 1) number.0 number.1 (omega (arith, enough, most_e, number.2)) (omega (arith, enough, most_t, below)) in
        let sent : sent_by s e ≡ sent_by s t.sender = ap (sent_by s) parts.0 in
        let next : sent_by s e + 1 ≡ number.0 = parts.1 in
        absurd (omega arith)

module _ (s : State) (sound : IsSoundState s) where
  once : (p : ℕ) → p < length s.pages → IsNamedOnce s p
  once p lt h k at_h at_k = sound.one p h k lt at_h at_k

  -- the pages that a send names give a right to nobody but a share's sender; others are as they were
  pub send-named : (kind : Kind) (r : SendRecord) (e p : ℕ) → list_all (is_sendable s.runner (ownership_of s) s.buffers) (pages_in (ownership_of s) r.ranges) ≡ true
      → p < length s.pages → names s r.ranges p ≡ true
      → access (memory_sent s kind (Some r)) e p ≡ unheld_right (transaction_sent s kind r) e (page_at s p)
  send-named kind r e p free lt named =
      access-zeroed r.zero (with_open s (offered_in (open_of s) s.runner kind (is_told_normal (ownership_of s) s.normal r.ranges) r)) r.ranges e p
      ∙ access-opened s (next_handle (open_of s) s.runner) (transaction_sent s kind r) (handle-new s sound s.runner (runner-known s sound)) p named
      (sendable-unnamed s s.runner p r.ranges free lt named) e (finite.get-empty nat_cmp e)

  pub send-other : (kind : Kind) (r : SendRecord) (e p : ℕ) → p < length s.pages → names s r.ranges p ≡ false
      → access (memory_sent s kind (Some r)) e p ≡ access s e p
  send-other kind r e p lt other =
      access-zeroed r.zero (with_open s (offered_in (open_of s) s.runner kind (is_told_normal (ownership_of s) s.normal r.ranges) r)) r.ranges e p
      ∙ access-beside s (next_handle (open_of s) s.runner) (transaction_sent s kind r) (handle-new s sound s.runner (runner-known s sound)) p other (once p lt) e

  module _ (h : ℕ) (t : Transaction) (was : transaction_of s h ≡ Some t) (p : ℕ) (lt : p < length s.pages) where
    -- A RECLAIM: the pages are their owner's again
    pub reclaim-named : (zeros : Bool) (e : ℕ) → names s t.ranges p ≡ true → access (reclaimed s h zeros) e p ≡ right_of e (page_at s p) None
    reclaim-named zeros e named = access-zeroed zeros (with_open s (closed (open_of s) h)) _ e p ∙ access-closed s h t was p (once p lt) named e

    pub reclaim-other : (zeros : Bool) (e : ℕ) → names s t.ranges p ≡ false → access (reclaimed s h zeros) e p ≡ access s e p
    reclaim-other zeros e other = access-zeroed zeros (with_open s (closed (open_of s) h)) _ e p ∙ access-still s h t was p (once p lt) other e

    -- A RELINQUISH by the runner
    pub relinquish-named : (d : RelinquishDesc) → d.handle ≡ h → names s t.ranges p ≡ true
        → access (relinquished_from s d (Some t)) s.runner p ≡ unheld_right t s.runner (page_at s p)
    relinquish-named d is named =
        access-zeroed d.zero (with_open s (with_transaction (open_of s) d.handle (not_holding t s.runner))) t.ranges s.runner p
        ∙ ap (λ k. access (with_open s (with_transaction (open_of s) k (not_holding t s.runner))) s.runner p) is
        ∙ access-released s h t was p (once p lt) named s.runner

    pub relinquish-beside : (d : RelinquishDesc) (f : ℕ) → d.handle ≡ h → names s t.ranges p ≡ true → (f ≡ s.runner → ⊥)
        → access (relinquished_from s d (Some t)) f p ≡ access s f p
    relinquish-beside d f is named other =
        access-zeroed d.zero (with_open s (with_transaction (open_of s) d.handle (not_holding t s.runner))) t.ranges f p
        ∙ ap (λ k. access (with_open s (with_transaction (open_of s) k (not_holding t s.runner))) f p) is
        ∙ access-released_beside s h t was p (once p lt) named s.runner f other

    pub relinquish-other : (d : RelinquishDesc) (f : ℕ) → d.handle ≡ h → names s t.ranges p ≡ false
        → access (relinquished_from s d (Some t)) f p ≡ access s f p
    relinquish-other d f is other =
        access-zeroed d.zero (with_open s (with_transaction (open_of s) d.handle (not_holding t s.runner))) t.ranges f p
        ∙ ap (λ k. access (with_open s (with_transaction (open_of s) k (not_holding t s.runner))) f p) is
        ∙ access-unchanged s h t (not_holding t s.runner) was refl p (once p lt) other f

    -- A RETRIEVE of a share or a lend by e: it has the right, and nobody else's access changes
    abbrev after_taking : ℕ → Rights → State
    after_taking e right = with_open s (with_transaction (open_of s) h (holding t e right))

    taking : (e : ℕ) (right : Rights) (f : ℕ) → is_donate t.kind ≡ false → access (with_retrieved s h t e right) f p ≡ access (after_taking e right) f p
    taking e right f borrowed = of t.kind borrowed
      where
        of : (kind : Kind) → is_donate kind ≡ false
            → access (with_open (donated_if (is_donate kind) s t.ranges e right) (taken_in kind (open_of s) h t e right)) f p ≡ access (after_taking e right) f p
        of Share borrowed = refl
        of Lend borrowed = refl
        of Donate is = absurd (true≢false is)

    pub retrieve-named : (e : ℕ) (right : Rights) (page : Page) → is_donate t.kind ≡ false → names s t.ranges p ≡ true → page_at s p ≡ Some page
        → access (retrieved_right s h t e right) e p ≡ Some right
    retrieve-named e right page borrowed named there =
        access-filled (with_retrieved s h t e right) e (response_bytes (version_of s e) (response_to h t e right)) e p
        ∙ taking e right e borrowed
        ∙ access-holding s h t was p (once p lt) named e right page there

    pub retrieve-beside : (e : ℕ) (right : Rights) (f : ℕ) → is_donate t.kind ≡ false → names s t.ranges p ≡ true → (f ≡ e → ⊥)
        → access (retrieved_right s h t e right) f p ≡ access s f p
    retrieve-beside e right f borrowed named other =
        access-filled (with_retrieved s h t e right) e (response_bytes (version_of s e) (response_to h t e right)) f p
        ∙ taking e right f borrowed
        ∙ access-holding_beside s h t was p (once p lt) named e right f other

    pub retrieve-other : (e : ℕ) (right : Rights) (f : ℕ) → is_donate t.kind ≡ false → names s t.ranges p ≡ false
        → access (retrieved_right s h t e right) f p ≡ access s f p
    retrieve-other e right f borrowed other =
        access-filled (with_retrieved s h t e right) e (response_bytes (version_of s e) (response_to h t e right)) f p
        ∙ taking e right f borrowed
        ∙ access-unchanged s h t (holding t e right) was refl p (once p lt) other f

    -- A RETRIEVE of a donate by e: it owns the pages with this right, and nobody else has any
    giving : (e : ℕ) (right : Rights) (f : ℕ) → is_donate t.kind ≡ true
        → access (with_retrieved s h t e right) f p ≡ access (with_pages (with_open s (closed (open_of s) h)) t.ranges (donated_page e right)) f p
    giving e right f donated = of t.kind donated
      where
        of : (kind : Kind) → is_donate kind ≡ true
            → access (with_open (donated_if (is_donate kind) s t.ranges e right) (taken_in kind (open_of s) h t e right)) f p
            ≡ access (with_pages (with_open s (closed (open_of s) h)) t.ranges (donated_page e right)) f p
        of Share is = absurd (false≢true is)
        of Lend is = absurd (false≢true is)
        of Donate donated = refl

    pub donate-named : (e : ℕ) (right : Rights) (f : ℕ) → is_donate t.kind ≡ true → names s t.ranges p ≡ true
        → access (retrieved_right s h t e right) f p ≡ option_and_then (λ (_ : Page). if e == f then Some right else None) (page_at s p)
    donate-named e right f donated named =
        access-filled (with_retrieved s h t e right) e (response_bytes (version_of s e) (response_to h t e right)) f p
        ∙ giving e right f donated
        ∙ access-given (with_open s (closed (open_of s) h)) t.ranges e f right p named (in-closed s h t was p (once p lt) named)

    pub donate-other : (e : ℕ) (right : Rights) (f : ℕ) → is_donate t.kind ≡ true → names s t.ranges p ≡ false
        → access (retrieved_right s h t e right) f p ≡ access s f p
    donate-other e right f donated other =
        access-filled (with_retrieved s h t e right) e (response_bytes (version_of s e) (response_to h t e right)) f p
        ∙ giving e right f donated
        ∙ access-kept (with_open s (closed (open_of s) h)) t.ranges e f right p other
        ∙ access-still s h t was p (once p lt) other f
