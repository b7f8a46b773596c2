-- SPDX-License-Identifier: MIT OR Apache-2.0
-- What an endpoint can read: its own operations, and those of others.
use Rattle.std.proofs.Common.{arith, ◌+◌, ◌*◌, ◌≡◌, ◌≢◌, ◌∙◌, ℕ, ◌-◌, ◌/◌, ◌%◌, Bool, true, false, cond, List, [], ◌∷◌, length, get_or, set, Option, Some, None, is_some, refl, sym, ap, subst, ◌++◌, option_map, ◌&&◌, is_none, not, ◌||◌}
use Rattle.std.specs.List.{list_all}
use Rattle.std.proofs.Math.Path.{fun_ext}
use Rattle.std.proofs.lemmas.Bool.{cases_Bool, false≢true, true≢false, and_parts, eq-eqb}
use Rattle.std.proofs.lemmas.List.{set-get_or}
use Rattle.std.proofs.lemmas.Option.{none-some, same_Some}
use Rattle.byteorder.specs.Endian.{little_bytes}
use Rattle.ffa_model.specs.declared.operation.Op.{Op}
use Rattle.ffa_model.specs.declared.rights.Rights.{Rights}
use Rattle.ffa_model.specs.declared.descriptor.RelinquishDesc.{RelinquishDesc}
use Rattle.ffa_model.specs.declared.operation.ErrorCode.{ErrorCode}
use Rattle.ffa_model.specs.declared.operation.Op.TheVariants.{Call, Store}
use Rattle.ffa_model.specs.declared.call.Call as calls
use Rattle.ffa_model.specs.declared.call.Call.TheVariants.{MemRelinquish}
use Rattle.ffa_model.specs.declared.rights.Kind.{Kind}
use Rattle.ffa_model.specs.declared.rights.Kind.TheVariants.{Share}
use Rattle.ffa_model.specs.Lists.{map_at}
use Rattle.ffa_model.specs.Rights.{is_within, is_lend, is_share}
use Rattle.ffa_model.specs.State.{State, Page, Transaction, buffers_of, is_known, page_at, transaction_of}
use Rattle.ffa_model.specs.Access.{is_receiver, access, names, right_of, transaction_at, covers, held_by, is_from, is_held_by}
use Rattle.ffa_model.specs.Calls.{Stepped, first_failure}
use Rattle.ffa_model.specs.Memory.{page_with, written_pages, zeroed_page, changed_pages, size_of, store_fault}
use Rattle.ffa_model.specs.MemoryReturn.{named_ranges, is_zeroable, memory_relinquish, relinquish_guards, relinquish_read}
use Rattle.ffa_model.specs.RunStates.{schedule_of}
use Rattle.ffa_model.specs.Step.{step, serve}
use Rattle.ffa_model.specs.Registers.{decode}
use Rattle.ffa_model.specs.Transactions.{open_of}
use Rattle.ffa_model.proofs.Accesses.{length-map_at, named-in}
use Rattle.ffa_model.proofs.Guards.{guard-passes}
use Rattle.ffa_laws.specs.Steady.{IsSteady}
use Rattle.ffa_laws.specs.View.{is_near, kept, view, involves, seen_by}
use Rattle.ffa_laws.specs.Events.{Event, Wrote, Message, Filled, Notices, Pending, Bound, Unbound, Opened, Held, Zeroed, Closed, Public, apply, apply_all, events, where_true, with_public_buffers, with_holder, with_opened, with_public, call_events, public_change, releases, where_passed, writes}
use Rattle.ffa_laws.specs.Moves.{by_runner}
use Rattle.ffa_laws.specs.OwnAccess.{AreApart, gives_access, is_call}
use Rattle.ffa_laws.specs.Readable.{Confidential, all_readably, blank, blank_page, blank_where, blanked, is_unreadable, readable, readably, revealed}
use Rattle.ffa_laws.specs.Silence.{may_tell}
use Rattle.ffa_laws.proofs.Blanks.{IsBlind, access-b, at-blanked, blank-none, blank-twice, blanked-twice, blind-zeroed, changed-blind, each-blind, filled-blind, step-b, written-blind}
use Rattle.ffa_laws.proofs.Changes.{AreRewritten, apply_all-append, standing, view-changed, with_parts}
use Rattle.ffa_laws.proofs.Clean.{base-after, heard-blank, ranges-after, seen-ranges}
use Rattle.ffa_laws.proofs.Form.{viewed}
use Rattle.ffa_laws.proofs.Laws.{other-step, own-step, steady-step}
use Rattle.ffa_laws.proofs.OwnAccesses.{IsApart, each-apart, other-access, own-grows, shareless}
use Rattle.ffa_laws.proofs.Rows.{all-weaker, call-rows, passed-row}
use Rattle.ffa_laws.proofs.Views.{shown, view-transaction, access-near, kept_none, view-access, view-page}
use Rattle.ffa_laws.proofs.Maps.{at-map_at, map_at-alike, map_at-same, map_at-set, map_at-twice}
use Rattle.ffa_laws.proofs.Steadies.{steady-changed}
use Rattle.ffa_laws.proofs.Publics.{either-public}

-- ---- blank pages in a view
standing-blank : (c : Bool) (page : Option Page) → standing (blank_where c page) ≡ standing page
standing-blank false page = refl
standing-blank true None = refl
standing-blank true (Some q) = refl

pub kept-blank : (k c : Bool) (page : Option Page) → kept k (blank_where c page) ≡ blank_where c (kept k page)
kept-blank true c page = refl
kept-blank false c page = sym (blank-none c)

module _ (s : State) (hides : ℕ → Bool) where
  rewritten-blanked : AreRewritten s.pages (blanked hides s.pages)
  rewritten-blanked =
      record {
        each = length-map_at (λ p page. blank_where (hides p) page) s.pages;
        same = λ p. ap standing (at-blanked hides s.pages p) ∙ standing-blank (hides p) (page_at s p);
      }

  pub view-blank : (e : ℕ) → view e (blank hides s) ≡ blank hides (view e s)
  view-blank e =
      view-changed e s (blanked hides s.pages) s.buffers (schedule_of s) rewritten-blanked
      ∙ (λ i. with_parts (view e s) (pages i) (view e s).buffers (schedule_of s))
    where
      pages : map_at (λ q page. kept (is_near e s q) page) (blanked hides s.pages) ≡ blanked hides (view e s).pages
      pages =
          map_at-twice (λ q page. kept (is_near e s q) page) (λ p page. blank_where (hides p) page) s.pages
          ∙ map_at-same _ _ s.pages (λ p page. kept-blank (is_near e s p) (hides p) page)
          ∙ sym (map_at-twice (λ p page. blank_where (hides p) page) (λ q page. kept (is_near e s q) page) s.pages)

  steady-blank : IsSteady s → IsSteady (blank hides s)
  steady-blank steady = steady-changed s steady (blanked hides s.pages) s.buffers (schedule_of s) rewritten-blanked refl steady.runner steady.requesters steady.buffers

pub some-shown : (o : Option Rights) → is_some o ≡ true → is_none o ≡ false
some-shown None is = absurd (false≢true is)
some-shown (Some right) is = refl

shown-some : (o : Option Rights) → is_none o ≡ false → is_some o ≡ true
shown-some None is = absurd (true≢false is)
shown-some (Some right) is = refl

-- the same access where pages differ in such bytes at most
pub same-access : (hides : ℕ → Bool) (s t : State) → blank hides s ≡ blank hides t → (e p : ℕ) → access s e p ≡ access t e p
same-access hides s t same e p = sym (access-b s hides e p) ∙ ap (λ u. access u e p) same ∙ access-b t hides e p

-- ---- an operation of the runner
-- what is revealed stands in place of what was there
abbrev over : Option Page → Option Page → Option Page
over None page = page
over (Some q) page = Some q

-- a state, without the bytes that e can't read, and with pages that are revealed to it
pub joined : ℕ → State → List (Option Page) → State
joined e v shown = record v { pages = map_at (λ p page. over (get_or shown p None) page) (blanked (is_unreadable v e) v.pages) }

module _ (s : State) (steady : IsSteady s) (op : Op) where
  abbrev r : ℕ
  r = s.runner

  abbrev hides : ℕ → Bool
  hides = is_unreadable s s.runner

  abbrev b : State
  b = blank hides s

  abbrev after : State
  after = (step s op).state

  abbrev after_b : State
  after_b = (step b op).state

  shows : (p : ℕ) → is_some (access s s.runner p) ≡ true → hides p ≡ false
  shows p some = some-shown (access s s.runner p) some

  steady_b : IsSteady b
  steady_b = steady-blank s hides steady

  steps : step (readable r s) op ≡ viewed r (step b op)
  steps = ap (λ v. step v op) (sym (view-blank s hides r)) ∙ own-step b steady_b op

  same : blank hides after_b ≡ blank hides after
  same = (step-b s hides steady shows op).state

  -- the outcome is that of what it can read
  pub read-outcome : (step (readable r s) op).outcome ≡ (step s op).outcome
  read-outcome = ap (λ (st : Stepped). st.outcome) steps ∙ (step-b s hides steady shows op).outcome

  -- and so is what it can read afterwards, with what is revealed
  seen-same : blank hides (view r after_b) ≡ blank hides (view r after)
  seen-same = sym (view-blank after_b hides r) ∙ ap (view r) same ∙ view-blank after hides r

  unreadable-same : is_unreadable (view r after_b) r ≡ is_unreadable after r
  unreadable-same = fun_ext (λ p. ap is_none (view-access r after_b (steady-step b steady_b op) p ∙ same-access hides after_b after same r p))

  at-view : (p : ℕ) → blank_where (hides p) (page_at (view r after_b) p) ≡ blank_where (hides p) (page_at (view r after) p)
  at-view p = sym (at-blanked hides (view r after_b).pages p) ∙ ap (λ (u : State). page_at u p) seen-same ∙ at-blanked hides (view r after).pages p

  blank-through : (c : Bool) (x y : Option Page) → blank_where c x ≡ blank_where c y → blank_page x ≡ blank_page y
  blank-through true x y is = is
  blank-through false x y is = ap blank_page is

  revealed-at : (p : ℕ) → get_or (revealed r s after) p None ≡ kept (is_unreadable s r p && not (is_unreadable after r p)) (page_at after p)
  revealed-at p = at-map_at (λ q page. kept (is_unreadable s r q && not (is_unreadable after r q)) page) after.pages p (λ q. kept_none (is_unreadable s r q && not (is_unreadable after r q)))

  and_false : (c : Bool) → (c && false) ≡ false
  and_false true = refl
  and_false false = refl

  at-page : (p : ℕ) → blank_where (is_unreadable after r p) (page_at (view r after) p) ≡ over (get_or (revealed r s after) p None) (blank_where (is_unreadable after r p) (page_at (view r after_b) p))
  at-page p =
      elim (is_unreadable after r p) as (λ l. is_unreadable after r p ≡ l → blank_where l (page_at (view r after) p) ≡ over (get_or (revealed r s after) p None) (blank_where l (page_at (view r after_b) p))) [
        | true ↦ λ is.
            sym (ap (λ o. over o (blank_page (page_at (view r after_b) p))) (revealed-at p ∙ ap (λ l. kept (is_unreadable s r p && not l) (page_at after p)) is ∙ ap (λ c. kept c (page_at after p)) (and_false (is_unreadable s r p)))
            ∙ blank-through (hides p) (page_at (view r after_b) p) (page_at (view r after) p) (at-view p))
        | false ↦ λ is.
            elim (is_unreadable s r p) as (λ h. is_unreadable s r p ≡ h → page_at (view r after) p ≡ over (get_or (revealed r s after) p None) (page_at (view r after_b) p)) [
              | true ↦ λ was. newly is was (page_at after p) refl
              | false ↦ λ was.
                  sym (ap (λ o. over o (page_at (view r after_b) p)) (revealed-at p ∙ ap (λ h. kept (h && not (is_unreadable after r p)) (page_at after p)) was)
                  ∙ ap (λ h. blank_where h (page_at (view r after_b) p)) (sym was) ∙ at-view p ∙ ap (λ h. blank_where h (page_at (view r after) p)) was)
            ] refl
      ] refl
    where
      newly : is_unreadable after r p ≡ false → is_unreadable s r p ≡ true → (page : Option Page) → page_at after p ≡ page
          → page_at (view r after) p ≡ over (get_or (revealed r s after) p None) (page_at (view r after_b) p)
      newly is was None at = absurd (true≢false (sym (ap (λ page. is_none (right_of r page (transaction_at after p))) at) ∙ is))
      newly is was (Some q) at =
          view-page r after p
          ∙ ap (λ n. kept n (page_at after p)) (access-near r after (steady-step s steady op) p (shown-some (access after r p) is))
          ∙ at
          ∙ sym (ap (λ o. over o (page_at (view r after_b) p)) (revealed-at p ∙ (λ i. kept (was i && not (is i)) (at i))))

  pages-joined : blanked (is_unreadable after r) (view r after).pages ≡ map_at (λ p page. over (get_or (revealed r s after) p None) page) (blanked (is_unreadable after r) (view r after_b).pages)
  pages-joined =
      map_at-alike (λ p page. blank_where (is_unreadable after r p) page) (λ p page. over (get_or (revealed r s after) p None) (blank_where (is_unreadable after r p) page)) (view r after).pages (view r after_b).pages None None
      (sym (length-map_at (λ p page. blank_where (hides p) page) (view r after).pages) ∙ ap (λ (u : State). length u.pages) (sym seen-same) ∙ length-map_at (λ p page. blank_where (hides p) page) (view r after_b).pages)
      at-page
      ∙ sym (map_at-twice (λ p page. over (get_or (revealed r s after) p None) page) (λ p page. blank_where (is_unreadable after r p) page) (view r after_b).pages)

  pub read-after : readable r after ≡ joined r (step (readable r s) op).state (revealed r s after)
  unfolding joined
  read-after =
      (λ i. record (sym seen-same i) { pages = pages-joined i })
      ∙ (λ i. record (view r after_b) { pages = map_at (λ p page. over (get_or (revealed r s after) p None) page) (blanked (sym unreadable-same i) (view r after_b).pages) })
      ∙ ap (λ (st : Stepped). joined r st.state (revealed r s after)) (sym steps)

  size-read : length (step (readable r s) op).state.pages ≡ length after.pages
  size-read =
      ap (λ (st : Stepped). length st.state.pages) steps
      ∙ length-map_at (λ p page. kept (is_near r after_b p) page) after_b.pages
      ∙ sym (length-map_at (λ p page. blank_where (hides p) page) after_b.pages)
      ∙ ap (λ (u : State). length u.pages) same
      ∙ length-map_at (λ p page. blank_where (hides p) page) after.pages

  -- a call that gives no access reveals nothing
  nothing-revealed : IsApart s.runner s → is_call gives_access op ≡ false → revealed r s after ≡ map_at (λ p page. None) after.pages
  nothing-revealed apart none = map_at-same _ _ after.pages (λ p page. go page (access s r p) (access after r p) (own-grows s op steady apart p none))
    where
      go : (page : Option Page) (old new : Option Rights) → is_within new old ≡ true → kept (is_none old && not (is_none new)) page ≡ None
      go page None None within = refl
      go page None (Some right) within = absurd (false≢true within)
      go page (Some right) new within = refl

-- ---- two states in which the runner can read the same
module _ (s t : State) (steady : IsSteady s) (there : IsSteady t) (alike : readable s.runner t ≡ readable s.runner s) (op : Op) where
  runner : t.runner ≡ s.runner
  runner = ap (λ (v : State). v.runner) alike

  outcome-of : (step (readable s.runner t) op).outcome ≡ (step t op).outcome
  outcome-of = subst (λ e. (step (readable e t) op).outcome ≡ (step t op).outcome) runner (read-outcome t there op)

  after-of : readable s.runner (step t op).state ≡ joined s.runner (step (readable s.runner t) op).state (revealed s.runner t (step t op).state)
  after-of = subst (λ e. readable e (step t op).state ≡ joined e (step (readable e t) op).state (revealed e t (step t op).state)) runner (read-after t there op)

  size-of : length (step (readable s.runner t) op).state.pages ≡ length (step t op).state.pages
  size-of = subst (λ e. length (step (readable e t) op).state.pages ≡ length (step t op).state.pages) runner (size-read t there op)

  nothing-of : IsApart t.runner t → is_call gives_access op ≡ false → revealed s.runner t (step t op).state ≡ map_at (λ p page. None) (step t op).state.pages
  nothing-of apart none = subst (λ e. revealed e t (step t op).state ≡ map_at (λ p page. None) (step t op).state.pages) runner (nothing-revealed t there op apart none)

  same-outcome : (step t op).outcome ≡ (step s op).outcome
  same-outcome = sym outcome-of ∙ ap (λ v. (step v op).outcome) alike ∙ read-outcome s steady op

  same-reading : revealed s.runner t (step t op).state ≡ revealed s.runner s (step s op).state → readable s.runner (step t op).state ≡ readable s.runner (step s op).state
  same-reading shown = after-of ∙ (λ i. joined s.runner (step (alike i) op).state (shown i)) ∙ sym (read-after s steady op)

  -- nor is the runner offered its own there
  apart-there : AreApart s → IsApart t.runner t
  apart-there apart = subst (λ e. IsApart e t) (sym runner) (λ h u there mine. of h u mine (transaction_of s h) refl (same h u there mine))
    where
      same : (h : ℕ) (u : Transaction) → transaction_of t h ≡ Some u → u.sender ≡ s.runner → shown s.runner (transaction_of s h) ≡ Some (seen_by s.runner u)
      same h u there mine =
          sym (view-transaction s.runner s h) ∙ ap (λ (v : State). transaction_of v h) (sym alike) ∙ view-transaction s.runner t h ∙ ap (shown s.runner) there
          ∙ ap (λ b. option_map (seen_by s.runner) (kept (b || is_receiver s.runner u) (Some u))) (eq-eqb u.sender s.runner mine)

      of : (h : ℕ) (u : Transaction) → u.sender ≡ s.runner → (o : Option Transaction) → transaction_of s h ≡ o → shown s.runner o ≡ Some (seen_by s.runner u) → is_receiver s.runner u ≡ false
      of h u mine None at is = absurd (none-some (seen_by s.runner u) is)
      of h u mine (Some w) at is = by (involves s.runner (Some w)) is
        where
          by : (b : Bool) → option_map (seen_by s.runner) (kept b (Some w)) ≡ Some (seen_by s.runner u) → is_receiver s.runner u ≡ false
          by false is = absurd (none-some (seen_by s.runner u) is)
          by true is =
              let like : seen_by s.runner w ≡ seen_by s.runner u = same_Some (seen_by s.runner w) (seen_by s.runner u) is in
              sym (ap (λ (x : Transaction). is_receiver s.runner x) like)
              ∙ ap (λ e. is_receiver e w) (sym mine ∙ sym (ap (λ (x : Transaction). x.sender) like)) ∙ apart h w at

  nothing-new : AreApart s → is_call gives_access op ≡ false → revealed s.runner t (step t op).state ≡ revealed s.runner s (step s op).state
  nothing-new apart none =
      nothing-of (apart-there apart) none
      ∙ map_at-alike (λ p page. None) (λ p page. None) (step t op).state.pages (step s op).state.pages None None
      (sym size-of ∙ ap (λ v. length (step v op).state.pages) alike ∙ size-read s steady op) (λ i. refl)
      ∙ sym (nothing-revealed s steady op (each-apart s.runner s apart) none)

-- ---- an operation of another
module _ (e : ℕ) (hides : ℕ → Bool) where
  blind-nothing : IsBlind (λ page. None)
  blind-nothing c page = refl

  blind-one : (n : Bool) (x : Option Page) → IsBlind (λ page. cond n x page)
  blind-one true x c page = refl
  blind-one false x c page = blank-twice c page

  -- an event changes what isn't blank by what isn't blank
  pub apply-blind : (v : State) (event : Event) → blank hides (apply e (blank hides v) event) ≡ blank hides (apply e v event)
  apply-blind v (Wrote address bytes) = λ i. record v { pages = written-blind hides ((address - v.ram_base) / 4096) (address % 4096) bytes v.pages i }
  apply-blind v (Message x) = λ i. record v { pages = blanked-twice hides v.pages i }
  apply-blind v (Filled bytes) = λ i. record v { pages = filled-blind hides bytes (buffers_of v e) v.pages i }
  apply-blind v (Pending class bits) = λ i. record (apply e v (Pending class bits)) { pages = blanked-twice hides v.pages i }
  apply-blind v (Notices values) = λ i. record (apply e v (Notices values)) { pages = blanked-twice hides v.pages i }
  apply-blind v (Bound receiver class bit) = λ i. record (apply e v (Bound receiver class bit)) { pages = blanked-twice hides v.pages i }
  apply-blind v (Unbound receiver class bit) = λ i. record (apply e v (Unbound receiver class bit)) { pages = blanked-twice hides v.pages i }
  apply-blind v (Opened h t pages) =
      λ i. record (apply e v (Opened h t pages)) { pages = each-blind hides (λ p page. cond (names v t.ranges p) (get_or pages p None) page) (λ p. blind-one (names v t.ranges p) (get_or pages p None)) v.pages i }
  apply-blind v (Held h f right) = of (transaction_of v h)
    where
      of : (o : Option Transaction) → blank hides (with_holder (blank hides v) h f right o) ≡ blank hides (with_holder v h f right o)
      of None = λ i. record v { pages = blanked-twice hides v.pages i }
      of (Some t) = λ i. record (with_holder v h f right (Some t)) { pages = blanked-twice hides v.pages i }
  apply-blind v (Zeroed h) = λ i. record v { pages = changed-blind hides v (named_ranges (transaction_of v h)) zeroed_page blind-zeroed i }
  apply-blind v (Closed h) = λ i. record (apply e v (Closed h)) { pages = changed-blind hides v (named_ranges (transaction_of v h)) (λ page. None) blind-nothing i }
  apply-blind v (Public values) =
      λ i. record (with_public v values) {
        pages = blanked-twice hides v.pages i;
        buffers = map_at (λ j x. with_public_buffers (length-map_at (λ p page. blank_where (hides p) page) v.pages i) x (get_or values.buffers j None)) v.buffers;
      }

  base-kept : (v : State) (event : Event) → (apply e v event).ram_base ≡ v.ram_base
  base-kept v (Held h f right) = elim (transaction_of v h) as (λ o. (with_holder v h f right o).ram_base ≡ v.ram_base) [ None ↦ refl | Some t ↦ refl ]
  base-kept v event = refl

  -- a write that can't be read
  pub write-blank : (w : State) (p at : ℕ) (bytes : List ℕ) → hides p ≡ true → blanked hides (written_pages w.pages p at bytes) ≡ blanked hides w.pages
  write-blank w p at bytes hidden =
      map_at-set (λ q page. blank_where (hides q) page) w.pages p (page_with at bytes (page_at w p))
      ∙ ap (set (blanked hides w.pages) p) (ap (λ c. blank_where c (page_with at bytes (page_at w p))) hidden ∙ without (page_at w p) ∙ sym (at-blanked hides w.pages p ∙ ap (λ c. blank_where c (page_at w p)) hidden))
      ∙ set-get_or (blanked hides w.pages) p None
    where
      without : (page : Option Page) → blank_page (page_with at bytes page) ≡ blank_page page
      without None = refl
      without (Some q) = refl

module _ (e : ℕ) (s : State) where
  abbrev hidden : ℕ → Bool
  hidden = is_unreadable s e

  -- zeros that aren't told go to pages that e can't read
  abbrev Fits : State → Event → Type 0
  Fits w (Zeroed h) = is_held_by e (transaction_of s h) ≡ false → (p : ℕ) → names w (named_ranges (transaction_of w h)) p ≡ true → is_unreadable s e p ≡ true
  Fits w event = Unit {0}

  abbrev AreFit : State → List Event → Type 0
  AreFit w [] = Unit {0}
  AreFit w (x ∷ xs) = Fits w x × AreFit (apply_all e w (readably e s x)) xs

  -- a write that isn't told goes to a page that e can't read
  written-readably : (w : State) → w.ram_base ≡ s.ram_base → (address : ℕ) (bytes : List ℕ) (told : Bool) → (told ≡ false → hidden ((address - s.ram_base) / 4096) ≡ true)
      → blank hidden (apply e w (Wrote address bytes)) ≡ blank hidden (apply_all e w (where_true told (Wrote address bytes ∷ [])))
  written-readably w base address bytes true untold = refl
  written-readably w base address bytes false untold =
      λ i. record w { pages = write-blank e hidden w ((address - w.ram_base) / 4096) (address % 4096) bytes (ap (λ base. hidden ((address - base) / 4096)) base ∙ untold refl) i }

  -- pages that are told without bytes can't be read
  opened-readably : (w : State) (h : ℕ) (t : Transaction) (pages : List (Option Page)) (without : ℕ → Bool) → ((p : ℕ) → without p ≡ true → hidden p ≡ true)
      → blank hidden (with_opened w h t pages) ≡ blank hidden (with_opened w h t (blanked without pages))
  opened-readably w h t pages without far =
      λ i. record (with_opened w h t pages) { pages = each i }
    where
      once : (c d : Bool) (page : Option Page) → (d ≡ true → c ≡ true) → blank_where c (blank_where d page) ≡ blank_where c page
      once true true page more = blank-twice true page
      once false true page more = absurd (false≢true (more refl))
      once c false page more = refl

      at : (p : ℕ) (n : Bool) (page : Option Page) → blank_where (hidden p) (cond n (get_or pages p None) page) ≡ blank_where (hidden p) (cond n (get_or (blanked without pages) p None) page)
      at p true page = sym (ap (blank_where (hidden p)) (at-blanked without pages p) ∙ once (hidden p) (without p) (get_or pages p None) (far p))
      at p false page = refl

      each : blanked hidden (with_opened w h t pages).pages ≡ blanked hidden (with_opened w h t (blanked without pages)).pages
      each =
          map_at-twice (λ p page. blank_where (hidden p) page) (λ p page. cond (names w t.ranges p) (get_or pages p None) page) w.pages
          ∙ map_at-same _ _ w.pages (λ p page. at p (names w t.ranges p) page)
          ∙ sym (map_at-twice (λ p page. blank_where (hidden p) page) (λ p page. cond (names w t.ranges p) (get_or (blanked without pages) p None) page) w.pages)

  -- what is told readably changes what isn't blank as the event does
  readably-same : (w : State) → w.ram_base ≡ s.ram_base → (event : Event) → Fits w event → blank hidden (apply e w event) ≡ blank hidden (apply_all e w (readably e s event))
  readably-same w base (Wrote address bytes) fits = written-readably w base address bytes _ (grind (arith, cases_Bool (hidden ((address - s.ram_base) / 4096))))
  readably-same w base (Opened h t pages) fits = opened-readably w h t pages _ (λ p. grind (arith, cases_Bool (hidden p)))
  readably-same w base (Zeroed h) fits =
      elim (is_held_by e (transaction_of s h)) as (λ c. is_held_by e (transaction_of s h) ≡ c → blank hidden (apply e w (Zeroed h)) ≡ blank hidden (apply_all e w (where_true c (Zeroed h ∷ [])))) [
        | true ↦ λ is. refl
        | false ↦ λ is. (λ i. record w { pages = zeros (fits is) i })
      ] refl
    where
      zero : (p : ℕ) (n c : Bool) (page : Option Page) → (n ≡ true → c ≡ true) → blank_where c (cond n (zeroed_page page) page) ≡ blank_where c page
      zero p true true None far = refl
      zero p true true (Some q) far = refl
      zero p true false page far = absurd (false≢true (far refl))
      zero p false c page far = refl

      zeros : ((p : ℕ) → names w (named_ranges (transaction_of w h)) p ≡ true → is_unreadable s e p ≡ true) → blanked hidden (changed_pages w (named_ranges (transaction_of w h)) zeroed_page) ≡ blanked hidden w.pages
      zeros far =
          map_at-twice (λ p page. blank_where (hidden p) page) (λ p page. cond (names w (named_ranges (transaction_of w h)) p) (zeroed_page page) page) w.pages
          ∙ map_at-same _ _ w.pages (λ p page. zero p (names w (named_ranges (transaction_of w h)) p) (hidden p) page (far p))
  readably-same w base event fits = refl

  -- all but a relinquish tell no zeros
  abbrev may_zero : Event → Bool
  may_zero (Zeroed h) = true
  may_zero event = false

  fit-others : (xs : List Event) (w : State) → list_all (λ x. not (may_zero x)) xs ≡ true → AreFit w xs
  fit-others [] w all = tt
  fit-others (x ∷ xs) w all = let (here, rest) = and_parts (not (may_zero x)) _ all in (one x here, fit-others xs (apply_all e w (readably e s x)) rest)
    where
      one : (x : Event) → not (may_zero x) ≡ true → Fits w x
      one (Zeroed h) not_zero = absurd (false≢true not_zero)
      one x not_zero = tt

  fit-append : (xs ys : List Event) (w : State) → AreFit w xs → AreFit (apply_all e w (all_readably e s xs)) ys → AreFit w (xs ++ ys)
  fit-append [] ys w one two = two
  fit-append (x ∷ xs) ys w one two =
      (one.0, fit-append xs ys (apply_all e w (readably e s x)) one.1 (subst (λ u. AreFit u ys) (apply_all-append e w (readably e s x) (all_readably e s xs)) two))

  told-readably : (xs : List Event) (v w : State) → blank hidden v ≡ blank hidden w → v.ram_base ≡ s.ram_base → AreFit w xs → blank hidden (apply_all e v xs) ≡ blank hidden (apply_all e w (all_readably e s xs))
  told-readably [] v w same base fit = same
  told-readably (x ∷ xs) v w same base fit =
      let base_w : w.ram_base ≡ s.ram_base = ap (λ (u : State). u.ram_base) (sym same) ∙ base in
      told-readably xs (apply e v x) (apply_all e w (readably e s x))
      (sym (apply-blind e hidden v x) ∙ ap (λ u. blank hidden (apply e u x)) same ∙ apply-blind e hidden w x ∙ readably-same w base_w x fit.0)
      (base-kept e hidden v x ∙ base) fit.1
      ∙ sym (ap (blank hidden) (apply_all-append e w (readably e s x) (all_readably e s xs)))

  -- ---- what each operation tells fits
  module _ (steady : IsSteady s) where
    -- pages of a lend that e doesn't hold
    pub lent-away : (h : ℕ) (t : Transaction) → transaction_of s h ≡ Some t → is_lend t.kind ≡ true → is_held_by e (transaction_of s h) ≡ false → (p : ℕ) → names s t.ranges p ≡ true → is_unreadable s e p ≡ true
    lent-away h t there lend unheld p named =
        ap is_none (ap (right_of e (page_at s p)) (named-in s p h t (λ k j at_k at_j. steady.one p k j at_k at_j) there named)
        ∙ shareless e (page_at s p) t (none (held_by t e) (sym (ap (is_held_by e) there) ∙ unheld)) (no-share t.kind lend))
      where
        none : (o : Option Rights) → is_some o ≡ false → o ≡ None
        none None is = refl
        none (Some right) is = absurd (true≢false is)

        no-share : (kind : Kind) → is_lend kind ≡ true → is_share kind ≡ false
        no-share Share is = absurd (false≢true is)
        no-share _ is = refl

    asks : (zero zeroable : Bool) → (not zero || zeroable) ≡ true → zero ≡ true → zeroable ≡ true
    asks true zeroable is asked = is
    asks false zeroable is asked = absurd (false≢true asked)

    fit-one : (w : State) (b : Bool) (x : Event) → (b ≡ true → Fits w x) → AreFit w (where_true b (x ∷ []))
    fit-one w true x fits = (fits refl, tt)
    fit-one w false x fits = tt

    fit-released : first_failure (memory_relinquish s).guards ≡ None → AreFit (readable e s) (releases e s (relinquish_read s))
    fit-released none = read (relinquish_read s) none
      where
        zeroing : (d : RelinquishDesc) (o : Option Transaction) → transaction_of s d.handle ≡ o → is_zeroable s.runner o ≡ true → (w : State) → w.ram_base ≡ s.ram_base
            → ((p : ℕ) → names s (named_ranges (transaction_of w d.handle)) p ≡ true → names s (named_ranges (transaction_of (readable e s) d.handle)) p ≡ true) → Fits w (Zeroed d.handle)
        zeroing d None there zeroable w base ranges unheld p named = absurd (false≢true zeroable)
        zeroing d (Some t) there zeroable w base ranges unheld p named =
            lent-away d.handle t there (and_parts (is_lend t.kind) _ zeroable).0 unheld p
            (seen-ranges e s d.handle t there (involves e (Some t)) refl p (ranges p (sym (ap (λ base. covers (named_ranges (transaction_of w d.handle)) (base + 4096 * p)) base) ∙ named)))

        read : (o : Option RelinquishDesc) → first_failure (relinquish_guards (buffers_of s s.runner) (open_of s) s.runner o) ≡ None → AreFit (readable e s) (releases e s o)
        read None none = tt
        read (Some d) none =
            let held = where_true (is_from e (transaction_of s d.handle)) (Held d.handle s.runner None ∷ []) in
            fit-append held (where_true _ (Zeroed d.handle ∷ [])) (readable e s)
            (fit-one (readable e s) (is_from e (transaction_of s d.handle)) (Held d.handle s.runner None) (λ is. fits-held d))
            (fit-one (apply_all e (readable e s) (all_readably e s held)) _ (Zeroed d.handle) (λ both.
            zeroing d (transaction_of s d.handle) refl
            (asks d.zero (is_zeroable s.runner (transaction_of s d.handle)) (guard-passes (relinquish_guards (buffers_of s s.runner) (open_of s) s.runner (Some d)) 4 (sym none)) (grind (arith, cases_Bool d.zero, both)))
            (apply_all e (readable e s) (all_readably e s held)) (base-after e s d.handle (is_from e (transaction_of s d.handle)))
            (ranges-after e s d.handle (is_from e (transaction_of s d.handle)))))
          where
            fits-held : (d : RelinquishDesc) → Fits (readable e s) (Held d.handle s.runner None)
            fits-held d = tt

    public-zeros : (next : State) → list_all (λ x. not (may_zero x)) (public_change s next) ≡ true
    public-zeros next = either-public (λ es. list_all (λ x. not (may_zero x)) es ≡ true) s next refl refl

    fit-call : (call : calls.Call) → AreFit (readable e s) (call_events e s call)
    fit-call call = of call
      where
        rest : (c : calls.Call) → ((h : ℕ) → may_tell c (Zeroed h) ≡ false) → AreFit (readable e s) (call_events e s c)
        rest c never = fit-others (call_events e s c) (readable e s) (all-weaker (may_tell c) (λ x. not (may_zero x)) (call_events e s c) (λ x may. one x may) (call-rows e s c))
          where
            one : (x : Event) → may_tell c x ≡ true → not (may_zero x) ≡ true
            one (Zeroed h) may = absurd (true≢false (sym may ∙ never h))
            one x may = refl

        passed : (o : Option ErrorCode) → (o ≡ None → AreFit (readable e s) (releases e s (relinquish_read s))) → AreFit (readable e s) (where_passed o (releases e s (relinquish_read s)))
        passed None fit = fit refl
        passed (Some code) fit = tt

        of : (c : calls.Call) → AreFit (readable e s) (call_events e s c)
        of MemRelinquish =
            fit-append (where_passed (first_failure (memory_relinquish s).guards) (releases e s (relinquish_read s))) (public_change s (serve s MemRelinquish).state) (readable e s)
            (passed (first_failure (memory_relinquish s).guards) fit-released)
            (fit-others (public_change s (serve s MemRelinquish).state) _ (public-zeros (serve s MemRelinquish).state))
        of c = rest c (λ h. refl)

    fit-op : (op : Op) → AreFit (readable e s) (events e s op)
    fit-op (Call x) = fit-call (decode x)
    fit-op (Store address size value) = fit-others (events e s (Store address size value)) (readable e s) (passed-row (λ x. not (may_zero x)) (store_fault s address (size_of size)) (writes e s address (little_bytes (size_of size) value)) (wrote _))
      where
        wrote : (b : Bool) → list_all (λ x. not (may_zero x)) (where_true b (Wrote address (little_bytes (size_of size) value) ∷ [])) ≡ true
        wrote true = refl
        wrote false = refl
    fit-op _ = tt

  pub other-reading : IsSteady s → is_known s e ≡ true → s.runner ≢ e → (op : Op)
      → readable e (step s op).state ≡ apply_all e (readable e s) (all_readably e s (events e s op))
  other-reading steady known other op =
      (λ i. blank (fun_ext {f = is_unreadable (step s op).state e} {g = is_unreadable s e} (λ p. ap is_none (other-access s op steady e p other)) i) (view e (step s op).state))
      ∙ ap (blank hidden) (other-step e s steady known other op)
      ∙ told-readably (events e s op) (view e s) (readable e s) (λ i. record (view e s) { pages = sym (blanked-twice hidden (view e s).pages) i }) refl (fit-op steady op)
      ∙ heard-blank e s steady known op

pub confidential : (s : State) (op : Op) → IsSteady s → AreApart s → Confidential (by_runner op) s
confidential s op steady apart =
    record {
      outcome = λ t there alike. same-outcome s t steady there alike op;
      own = λ t there alike shown. same-reading s t steady there alike op shown;
      quiet = λ t there alike none. same-reading s t steady there alike op (nothing-new s t steady there alike op apart none);
      others = λ e known other. other-reading e s steady known other op;
    }
