-- SPDX-License-Identifier: MIT OR Apache-2.0
-- Buffers: map, unmap and release, in the runner's view, and to others; and RX that is filled.
use Rattle.std.proofs.Common.{◌≡◌, ◌≢◌, ◌∙◌, ℕ, ◌<◌, Bool, true, false, cond, List, [], ◌∷◌, length, get_or, set, Option, Some, None, is_some, is_none, refl, sym, ap, subst, inl, inr, arith, length-set, get_or-set_same, get_or-set_other, ◌*◌, ◌==◌, ◌||◌, ◌&&◌, not}
use Rattle.std.specs.Option.{option_map, option_map_or}
use Rattle.std.proofs.lemmas.Bool.{cases_eq, eq-eqb, eqb-true}
use Rattle.std.specs.List.{list_all}
use Rattle.std.proofs.lemmas.Bool.Decides.{nat_tests}
use Rattle.ffa_model.specs.declared.refusal.Refusal.TheVariants.{BuffersMapped, BufferPageCount, TxMisplaced, RxMisplaced, BuffersOverlap, TxUnusable, RxUnusable}
use Rattle.ffa_model.specs.declared.limits.TheConstants.{MOST_BUFFER_PAGES}
use Rattle.ffa_model.proofs.Runs.{run-each}
use Rattle.ffa_model.specs.Manifest.{is_from_to}
use Rattle.ffa_model.specs.Rights.{may_write, may_store}
use Rattle.ffa_model.specs.Lists.{map_at, run}
use Rattle.ffa_model.specs.Identifiers.{identifier, place}
use Rattle.ffa_model.specs.State.{State, Page, Buffers, page_at, owner_of, buffers_of, is_known}
use Rattle.ffa_model.specs.Access.{handle_at, transaction_at, ownership_of}
use Rattle.ffa_model.specs.Buffers.{buffers_with, buffers_with_rx, filled, filled_pages, is_full, is_run_address, is_usable, are_runs_apart, room_of, map_guards, new_buffers, page_number, release_guards, rx_release, rxtx_map, rxtx_unmap, unmap_guards, with_buffers, with_rx}
use Rattle.ffa_model.specs.Calls.{first_failure}
use Rattle.ffa_model.specs.RunStates.{schedule_of}
use Rattle.ffa_laws.specs.Steady.{IsSteady, AreSteadyBuffers}
use Rattle.ffa_laws.specs.View.{view, buffers_seen, hidden, involves, is_near, kept}
use Rattle.ffa_laws.specs.Events.{apply_all, public_change, with_public_buffers}
use Rattle.ffa_laws.specs.Public.{public_buffers}
use Rattle.ffa_model.proofs.Guards.{guard-passes}
use Rattle.ffa_model.proofs.Places.{known-named, known-place, same-known}
use Rattle.ffa_model.proofs.Accesses.{length-map_at}
use Rattle.ffa_laws.proofs.Maps.{at-map_at, map_at-set}
use Rattle.ffa_laws.proofs.Views.{kept_none, view-named, view-page}
use Rattle.ffa_laws.proofs.Form.{IsOwn}
use Rattle.ffa_laws.proofs.Changes.{OwnKept, buffers_seen-none, identifier-place, other-changed, own_full, repaged, seen_buffers, unwritten, view-changed, with_parts}
use Rattle.ffa_laws.proofs.Written.{far-run, hidden-filled, rewritten-filled, rx-own, seen-filled, with_rx_full}
use Rattle.ffa_laws.proofs.Steadies.{steady-changed, steady-rx, usable, alone-far}

-- ---- buffers in a view
pub own-seen : (e past : ℕ) (s : State) (b : Option Buffers) → is_known s e ≡ true → buffers_seen e past (place e) b ≡ b
own-seen e past s b known = ap (λ t. cond t b (hidden past b)) (eq-eqb (identifier (place e)) e (known-named (length s.parties) e known))

pub view-buffers : (e f : ℕ) (s : State) → buffers_of (view e s) f ≡ buffers_seen e (length s.pages) (place f) (buffers_of s f)
view-buffers e f s = at-map_at (buffers_seen e (length s.pages)) s.buffers (place f) (buffers_seen-none e (length s.pages))

pub own-buffers : (e : ℕ) (s : State) → is_known s e ≡ true → buffers_of (view e s) e ≡ buffers_of s e
own-buffers e s known = view-buffers e e s ∙ own-seen e (length s.pages) s (buffers_of s e) known

-- that buffers are there, how large they are, and that RX is full is public
pub seen-some : (e past i : ℕ) (b : Option Buffers) → is_some (buffers_seen e past i b) ≡ is_some b
seen-some e past i None = ap is_some (buffers_seen-none e past i)
seen-some e past i (Some b) = elim (identifier i == e) as (λ t. is_some (cond t (Some b) (hidden past (Some b))) ≡ true) [ true ↦ refl | false ↦ refl ]

pub seen-full : (e past i : ℕ) (b : Option Buffers) → is_full (buffers_seen e past i b) ≡ is_full b
seen-full e past i None = ap is_full (buffers_seen-none e past i)
seen-full e past i (Some b) = elim (identifier i == e) as (λ t. is_full (cond t (Some b) (hidden past (Some b))) ≡ b.full) [ true ↦ refl | false ↦ refl ]

pub seen-room : (e past i : ℕ) (b : Option Buffers) → room_of (buffers_seen e past i b) ≡ room_of b
seen-room e past i None = ap room_of (buffers_seen-none e past i)
seen-room e past i (Some b) = elim (identifier i == e) as (λ t. room_of (cond t (Some b) (hidden past (Some b))) ≡ 4096 * b.pages) [ true ↦ refl | false ↦ refl ]

seen-rx : (e past i : ℕ) (full : Bool) (b : Option Buffers) → buffers_seen e past i (with_rx_full full b) ≡ with_rx_full full (buffers_seen e past i b)
seen-rx e past i full b =
    elim (identifier i == e) as (λ t. cond t (with_rx_full full b) (hidden past (with_rx_full full b)) ≡ with_rx_full full (cond t b (hidden past b))) [
      | true ↦ refl
      | false ↦ go b
    ]
  where
    go : (b : Option Buffers) → hidden past (with_rx_full full b) ≡ with_rx_full full (hidden past b)
    go None = refl
    go (Some x) = refl

-- RX of any endpoint that becomes full or empty does so in the view
pub rx-seen : (e past : ℕ) (bs : List (Option Buffers)) (f : ℕ) (full : Bool) → seen_buffers e past (buffers_with_rx bs f full) ≡ buffers_with_rx (seen_buffers e past bs) f full
rx-seen e past bs f full =
    map_at-set (buffers_seen e past) bs (place f) (with_rx_full full (get_or bs (place f) None))
    ∙ ap (set (seen_buffers e past bs) (place f)) (seen-rx e past (place f) full (get_or bs (place f) None) ∙ ap (with_rx_full full) (sym (at-map_at (buffers_seen e past) bs (place f) (buffers_seen-none e past))))

pub view-with_rx : (e : ℕ) (s : State) (f : ℕ) (full : Bool) → with_rx (view e s) f full ≡ view e (with_rx s f full)
view-with_rx e s f full = λ i. with_parts (view e s) (view e s).pages (sym (rx-seen e (length s.pages) s.buffers f full) i) (schedule_of s)

pub view-with_buffers : (e : ℕ) (s : State) (b : Option Buffers) → is_known s e ≡ true → with_buffers (view e s) e b ≡ view e (with_buffers s e b)
view-with_buffers e s b known =
    λ i. with_parts (view e s) (view e s).pages (sym (map_at-set (buffers_seen e (length s.pages)) s.buffers (place e) b ∙ ap (set (view e s).buffers (place e)) (own-seen e (length s.pages) s b known)) i) (schedule_of s)

-- ---- RX that is filled, in a view
pub view-filled : (e : ℕ) (s : State) (bytes : List ℕ) → is_known s e ≡ true → filled (view e s) e bytes ≡ view e (filled s e bytes)
view-filled e s bytes known =
    (λ i. with_parts (view e s) (pages i) (sym (rx-seen e (length s.pages) s.buffers e true) i) (schedule_of s))
    ∙ sym (view-changed e s (filled_pages s.pages bytes (buffers_of s e)) (buffers_with_rx s.buffers e true) (schedule_of s) (rewritten-filled s.pages bytes (buffers_of s e)))
  where
    pages : filled_pages (view e s).pages bytes (buffers_of (view e s) e) ≡ map_at (λ q page. kept (is_near e s q) page) (filled_pages s.pages bytes (buffers_of s e))
    pages = ap (filled_pages (view e s).pages bytes) (own-buffers e s known) ∙ sym (seen-filled e s bytes (buffers_of s e))

-- RX of another endpoint isn't near
pub far-filled : (e f : ℕ) (s : State) (bytes : List ℕ) → IsSteady s → is_known s f ≡ true → f ≢ e → filled_pages (view e s).pages bytes (buffers_of s f) ≡ (view e s).pages
far-filled e f s bytes steady known differ = go (buffers_of s f) refl
  where
    go : (o : Option Buffers) → buffers_of s f ≡ o → filled_pages (view e s).pages bytes o ≡ (view e s).pages
    go None is = refl
    go (Some b) is = far-run e s b.pages b.rx bytes (λ p its. alone-far s e f p ((steady.buffers f b known is).rx p its) differ)

pub far-repaged : (e f : ℕ) (s : State) (bytes : List ℕ) → IsSteady s → is_known s f ≡ true → f ≢ e → repaged e s (filled_pages s.pages bytes (buffers_of s f)) ≡ view e s
far-repaged e f s bytes steady known differ =
    λ i. with_parts (view e s) ((seen-filled e s bytes (buffers_of s f) ∙ far-filled e f s bytes steady known differ) i) (view e s).buffers (schedule_of s)

pub view-filled_other : (e f : ℕ) (s : State) (bytes : List ℕ) → IsSteady s → is_known s e ≡ true → is_known s f ≡ true → f ≢ e → filled (view e s) f bytes ≡ view e (filled s f bytes)
view-filled_other e f s bytes steady known_e known_f differ =
    (λ i. with_parts (view e s) (pages i) (sym (rx-seen e (length s.pages) s.buffers f true) i) (schedule_of s))
    ∙ sym (view-changed e s (filled_pages s.pages bytes (buffers_of s f)) (buffers_with_rx s.buffers f true) (schedule_of s) (rewritten-filled s.pages bytes (buffers_of s f)))
  where
    other : (identifier (place f) == e) ≡ false
    other = let same = known-named (length s.parties) f known_f in grind (arith, nat_tests)

    pages : filled_pages (view e s).pages bytes (buffers_of (view e s) f) ≡ map_at (λ q page. kept (is_near e s q) page) (filled_pages s.pages bytes (buffers_of s f))
    pages =
        ap (filled_pages (view e s).pages bytes) (view-buffers e f s ∙ ap (λ t. cond t (buffers_of s f) (hidden (length s.pages) (buffers_of s f))) other)
        ∙ hidden-filled e s bytes (buffers_of s f)
        ∙ sym (seen-filled e s bytes (buffers_of s f) ∙ far-filled e f s bytes steady known_f differ)

-- ---- which pages may be buffers, in a view
judged : ℕ → Bool → Option Page → Bool
judged e named page =
    ((is_some (option_map (λ (q : Page). q.own_right) page) && option_map_or (λ (q : Page). q.owner) page 0x8000 == e) && not named)
    && may_store (option_map (λ (q : Page). q.own_right) page)

judged-other : (e : ℕ) (named b : Bool) (q : Page) → (q.owner == e) ≡ false → judged e named (kept b (Some q)) ≡ false
unfolding judged
judged-other e named true q other = ap (λ t. (t && not named) && may_write q.own_right.level) other
judged-other e named false q other = refl

pub view-usable : (e : ℕ) (s : State) → IsSteady s → (p : ℕ) → is_usable e (ownership_of (view e s)) p ≡ is_usable e (ownership_of s) p
unfolding judged
view-usable e s steady p = ap (judged e (is_some (handle_at (view e s) p))) (view-page e s p) ∙ go (page_at s p) refl
  where
    go : (page : Option Page) → page_at s p ≡ page → judged e (is_some (handle_at (view e s) p)) (kept (is_near e s p) page) ≡ judged e (is_some (handle_at s p)) page
    go None at = ap (judged e (is_some (handle_at (view e s) p))) (kept_none (is_near e s p))
    go (Some q) at =
        elim (q.owner == e) as (λ t. (q.owner == e) ≡ t → judged e (is_some (handle_at (view e s) p)) (kept (is_near e s p) (Some q)) ≡ judged e (is_some (handle_at s p)) (Some q)) [
          | true ↦ λ mine.
              let owner : owner_of s p ≡ e = ap (λ o. option_map_or (λ (x : Page). x.owner) o 0x8000) at ∙ eqb-true q.owner e mine in
              let near : is_near e s p ≡ true = ap (λ t. t || involves e (transaction_at s p)) (eq-eqb (owner_of s p) e owner) in
              ap (λ t. judged e (is_some (handle_at (view e s) p)) (kept t (Some q))) near
              ∙ ap (λ n. judged e n (Some q)) (view-named e s steady p owner)
          | false ↦ λ other.
              judged-other e (is_some (handle_at (view e s) p)) (is_near e s p) q other ∙ sym (judged-other e (is_some (handle_at s p)) true q other)
        ] refl

same-map_guards : (s : State) → IsSteady s → (tx rx pages : ℕ)
    → map_guards s.runner (buffers_of (view s.runner s) s.runner) (ownership_of (view s.runner s)) tx rx pages ≡ map_guards s.runner (buffers_of s s.runner) (ownership_of s) tx rx pages
same-map_guards s steady tx rx pages =
    λ i. (is_none (own-buffers s.runner s steady.runner i), BuffersMapped)
    ∷ (is_from_to 1 MOST_BUFFER_PAGES pages, BufferPageCount)
    ∷ (is_run_address (record (ownership_of s) { count = size i }) pages tx, TxMisplaced)
    ∷ (is_run_address (record (ownership_of s) { count = size i }) pages rx, RxMisplaced)
    ∷ (are_runs_apart pages (page_number s.ram_base tx) (page_number s.ram_base rx), BuffersOverlap)
    ∷ (list_all (λ p. view-usable s.runner s steady p i) (run (page_number s.ram_base tx) pages), TxUnusable)
    ∷ (list_all (λ p. view-usable s.runner s steady p i) (run (page_number s.ram_base rx) pages), RxUnusable)
    ∷ []
  where
    size : length (view s.runner s).pages ≡ length s.pages
    size = length-map_at (λ q page. kept (is_near s.runner s q) page) s.pages

-- ---- the calls, in the runner's view
module _ (s : State) (steady : IsSteady s) where
  pub own-map : (tx rx pages : ℕ) → IsOwn s (rxtx_map (view s.runner s) tx rx pages) (rxtx_map s tx rx pages)
  own-map tx rx pages =
      (ap first_failure (same-map_guards s steady tx rx pages), λ none. (view-with_buffers s.runner s (Some (new_buffers s.ram_base tx rx pages)) steady.runner, refl))

  pub own-unmap : (endpoint : ℕ) → IsOwn s (rxtx_unmap (view s.runner s) endpoint) (rxtx_unmap s endpoint)
  own-unmap endpoint =
      (ap (λ b. first_failure (unmap_guards b endpoint)) (own-buffers s.runner s steady.runner), λ none. (view-with_buffers s.runner s None steady.runner, refl))

  pub own-release : IsOwn s (rx_release (view s.runner s)) (rx_release s)
  own-release = (ap (λ b. first_failure (release_guards b)) (own-buffers s.runner s steady.runner), λ none. (view-with_rx s.runner s s.runner false, refl))

  -- ---- steadiness
  steady-set : (b : Option Buffers) → ((x : Buffers) → b ≡ Some x → AreSteadyBuffers s s.runner x) → IsSteady (with_buffers s s.runner b)
  steady-set b new =
      steady-changed s steady s.pages (buffers_with s.buffers s.runner b) (schedule_of s) (unwritten s.pages) (length-set s.buffers (place s.runner) b) steady.runner steady.requesters own
    where
      inside : place s.runner < length s.buffers
      inside = let lt = known-place (length s.parties) s.runner steady.some steady.runner in let each = steady.each in omega arith

      own : (e : ℕ) (x : Buffers) → is_known s e ≡ true → get_or (set s.buffers (place s.runner) b) (place e) None ≡ Some x → AreSteadyBuffers s e x
      own e x known is = elim (cases_eq (place e) (place s.runner)) [
        | inl same ↦
            let mine : e ≡ s.runner = same-known (length s.parties) e s.runner known steady.runner same in
            subst (λ f. AreSteadyBuffers s f x) (sym mine) (new x (sym (ap (λ i. get_or (set s.buffers (place s.runner) b) i None) same ∙ get_or-set_same s.buffers (place s.runner) b None inside) ∙ is))
        | inr other ↦ steady.buffers e x known (sym (get_or-set_other s.buffers (place s.runner) (place e) b None other) ∙ is)
      ]

  pub steady-map : (tx rx pages : ℕ) → first_failure (rxtx_map s tx rx pages).guards ≡ None → IsSteady (rxtx_map s tx rx pages).state
  steady-map tx rx pages none =
      steady-set (Some (new_buffers s.ram_base tx rx pages)) (λ x is.
      let all_tx = run-each (λ p. is_usable s.runner (ownership_of s) p) (page_number s.ram_base tx) pages (guard-passes (map_guards s.runner (buffers_of s s.runner) (ownership_of s) tx rx pages) 5 (sym none)) in
      let all_rx = run-each (λ p. is_usable s.runner (ownership_of s) p) (page_number s.ram_base rx) pages (guard-passes (map_guards s.runner (buffers_of s s.runner) (ownership_of s) tx rx pages) 6 (sym none)) in
      let new : new_buffers s.ram_base tx rx pages ≡ x = cc in
      subst (AreSteadyBuffers s s.runner) new (record { tx = λ p its. usable s s.runner p (all_tx p its); rx = λ p its. usable s s.runner p (all_rx p its) }))

  pub steady-unmap : IsSteady (with_buffers s s.runner None)
  steady-unmap = steady-set None (λ x is. absurd (none_some is))
    where
      none_some : {x : Buffers} → None ≡ Some x → ⊥
      none_some e = cc

  pub steady-with_rx : (f : ℕ) (full : Bool) → IsSteady (with_rx s f full)
  steady-with_rx f full =
      steady-changed s steady s.pages (buffers_with_rx s.buffers f full) (schedule_of s) (unwritten s.pages) (length-set s.buffers (place f) (with_rx_full full (buffers_of s f))) steady.runner steady.requesters (steady-rx s steady f full)

  pub steady-filled : (f : ℕ) (bytes : List ℕ) → IsSteady (filled s f bytes)
  steady-filled f bytes =
      steady-changed s steady (filled_pages s.pages bytes (buffers_of s f)) (buffers_with_rx s.buffers f true) (schedule_of s) (rewritten-filled s.pages bytes (buffers_of s f))
      (length-set s.buffers (place f) (with_rx_full true (buffers_of s f))) steady.runner steady.requesters (steady-rx s steady f true)

  -- ---- to another endpoint
  module _ (e : ℕ) (known : is_known s e ≡ true) (other : s.runner ≢ e) where
    -- buffers of the runner aren't e's
    own-kept : (b : Option Buffers) → OwnKept e s (buffers_with s.buffers s.runner b)
    own-kept b i mine =
        let at : get_or (set s.buffers (place s.runner) b) i None ≡ get_or s.buffers i None = get_or-set_other s.buffers (place s.runner) i b None apart in
        (λ j. with_public_buffers (length s.pages) (get_or s.buffers i None) (public_buffers (at j))) ∙ own_full (length s.pages) (get_or s.buffers i None) ∙ sym at
      where
        apart : i ≢ place s.runner
        apart same = other (same-known (length s.parties) s.runner e steady.runner known (sym same ∙ sym (identifier-place i e mine)))

    pub other-buffers : (b : Option Buffers) → view e (with_buffers s s.runner b) ≡ apply_all e (view e s) (public_change s (with_buffers s s.runner b))
    other-buffers b = other-changed e s s.pages (buffers_with s.buffers s.runner b) (schedule_of s) [] (unwritten s.pages) (length-set s.buffers (place s.runner) b) (own-kept b) refl

  pub other-release : (e : ℕ) → view e (with_rx s s.runner false) ≡ apply_all e (view e s) (public_change s (with_rx s s.runner false))
  other-release e =
      other-changed e s s.pages (buffers_with_rx s.buffers s.runner false) (schedule_of s) [] (unwritten s.pages)
      (length-set s.buffers (place s.runner) (with_rx_full false (buffers_of s s.runner))) (λ i mine. rx-own (length s.pages) s.buffers s.runner false i) refl
