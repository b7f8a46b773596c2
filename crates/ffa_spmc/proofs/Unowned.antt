-- SPDX-License-Identifier: MIT OR Apache-2.0
-- A page that nobody owns, and that is none of the tables', keeps its bytes: where RAM is the same, where a page is written that an
-- endpoint owns, and where rights to such pages change.
use Rattle.std.proofs.Common.{◌≡◌, ◌∙◌, ℕ, zero, suc, ◌+◌, ◌<◌, ◌≤◌, Bool, true, false, List, [], length, take, drop, Option, Some, None, refl, sym, ap, subst, arith, inl, inr}
use Rattle.std.specs.Prelude.{◌&&◌, if◌then◌else◌, replicate}
use Rattle.std.specs.Option.{option_and_then, option_map}
use Rattle.std.proofs.lemmas.Bool.{cases_lt}
use Rattle.std.proofs.lemmas.List.{get_or_past, get_or-set_other}
use Rattle.std.proofs.lemmas.Option.{none-some}
use Rattle.ffa_model.specs.declared.rights.Rights.{Rights}
use Rattle.ffa_model.specs.declared.transaction.Range.{Range}
use Rattle.ffa_model.specs.Access.{names}
use Rattle.ffa_model.specs.Buffers.{buffers_in}
use Rattle.ffa_model.specs.Lists.{is_in_run}
use Rattle.ffa_model.specs.Ram.{Ram, page_of, with_page, with_bytes}
use Rattle.ffa_model.specs.State.{State, Buffers, Page, Transaction, is_known, page_at, transaction_of}
use Rattle.ffa_model.proofs.Runs.{run-wider, to-run}
use Rattle.ffa_pages.specs.Entry.{Entry, entry_at}
use Rattle.ffa_rxtx.specs.Parts.{with_run, with_rx_bytes}
use Rattle.ffa_memshare.specs.Changes.{IsMoved}
use Rattle.ffa_spmc.specs.Meaning.{IsManager, Parts, state_of}
use Rattle.ffa_spmc.specs.Unowned.{KeepsUnowned, OwnsNoTables}
use Rattle.ffa_spmc.proofs.Fills.{buffers-there}
use Rattle.ffa_spmc.proofs.Held.{by-manifest, by-state, owned-aside, page-held}
use Rattle.ffa_spmc.proofs.Pools.{named-marked, open-slot}

-- nobody owns the tables' pages
pub no-tables : (x : Parts) → IsManager x → OwnsNoTables (state_of x)
no-tables x machine p page is = by-state x machine p (owned-aside x machine p page is)

pub unowned-same : (s : State) (old new : Ram) → new ≡ old → KeepsUnowned s old new
unowned-same s old new same p aside none = ap (λ (ram : Ram). page_of ram p) same

pub unowned-then : (s : State) (old middle new : Ram) → KeepsUnowned s old middle → KeepsUnowned s middle new → KeepsUnowned s old new
unowned-then s old middle new before after p aside none = after p aside none ∙ before p aside none

-- a write to a page that an endpoint owns
pub unowned-written : (s : State) (ram : Ram) (p at : ℕ) (bytes : List ℕ) (page : Page) → page_at s p ≡ Some page
    → KeepsUnowned s ram (with_page ram p (with_bytes (page_of ram p) at bytes))
unowned-written s ram p at bytes page there q aside none =
    get_or-set_other ram.pages p q (with_bytes (page_of ram p) at bytes) [] (λ same. none-some page (sym none ∙ ap (page_at s) same ∙ there))

module _ (x : Parts) (machine : IsManager x) where
  abbrev s : State
  s = state_of x

  -- a write to pages in a row
  unowned-run : (n : ℕ) (ram : Ram) (first : ℕ) (bytes : List ℕ) → ((p : ℕ) → is_in_run first n p ≡ true → (page : Page) × (page_at s p ≡ Some page))
      → KeepsUnowned s ram (with_run n ram first bytes)
  unowned-run zero ram first bytes there = unowned-same s ram ram refl
  unowned-run (suc n) ram first bytes there =
      let (page, at) = there first (to-run first (suc n) first (omega arith) (omega arith)) in
      let next : Ram = with_page ram first (with_bytes (page_of ram first) 0 (take 4096 bytes)) in
      unowned-then s ram next (with_run n next (first + 1) (drop 4096 bytes))
      (unowned-written s ram first 0 (take 4096 bytes) page at)
      (unowned-run n next (first + 1) (drop 4096 bytes) (λ p its. there p (run-wider first n p its)))

  -- a write to an endpoint's RX
  pub unowned-filled : (f : ℕ) → is_known s f ≡ true → (ram : Ram) (bytes : List ℕ) → KeepsUnowned s ram (with_rx_bytes ram (buffers_in x.kept.buffers f) bytes)
  unowned-filled f known ram bytes = of (buffers_in x.kept.buffers f) refl
    where
      of : (o : Option Buffers) → buffers_in x.kept.buffers f ≡ o → KeepsUnowned s ram (with_rx_bytes ram o bytes)
      of None is = unowned-same s ram ram refl
      of (Some b) is = unowned-run b.pages ram b.rx bytes (buffers-there x machine f known b is).rx

  -- these pages are endpoints' own
  abbrev pub AreEntered : List Range → Type 0
  AreEntered ranges = (p : ℕ) → p < length x.ram.pages → names s ranges p ≡ true → (e : Entry) × (entry_at x.kept.pages p ≡ Some e)

  unentered : (p : ℕ) → p < length x.ram.pages → page_at s p ≡ None → (e : Entry) → entry_at x.kept.pages p ≡ Some e → ⊥
  unentered p lt none e is =
      none-some (let q : Page = record { owner = e.owner; own_right = e.own_right; bytes = page_of x.ram p } in q)
      (sym none ∙ page-held x p lt ∙ ap (option_map (λ (e : Entry). let q : Page = record { owner = e.owner; own_right = e.own_right; bytes = page_of x.ram p } in q)) is)

  -- as those that an open transaction names
  pub open-entered : (h : ℕ) (t : Transaction) → transaction_of s h ≡ Some t → AreEntered t.ranges
  open-entered h t is p lt named =
      let (k, at) = open-slot x machine h t is in
      of k (entry_at x.kept.pages p) refl (named-marked x machine p lt k h t at named)
    where
      of : (k : ℕ) (o : Option Entry) → entry_at x.kept.pages p ≡ o → option_and_then (λ (e : Entry). e.slot) o ≡ Some k → (e : Entry) × (entry_at x.kept.pages p ≡ Some e)
      of k None is at = absurd (none-some k at)
      of k (Some e) is at = (e, is)

  -- other rights to such pages, and zeros where that is asked
  pub unowned-moved : (ram : Ram) (index : ℕ) (ranges : List Range) (right : ℕ → Option Rights) (zeros : Bool)
      → IsMoved x.ram ram (length x.manifest.endpoints.items) x.manifest.tables.0 x.manifest.ram_blocks index (names s ranges) right zeros → AreEntered ranges → KeepsUnowned s x.ram ram
  unowned-moved ram index ranges right zeros moved entered p aside none = elim (cases_lt p (length x.ram.pages)) [
    | inl lt ↦ moved.bytes p (by-manifest x machine p aside) ∙ of lt zeros (names s ranges p) refl
    | inr past ↦ get_or_past ram.pages p [] (subst (λ (n : ℕ). n ≤ p) (sym moved.size) past) ∙ sym (get_or_past x.ram.pages p [] past)
  ]
    where
      of : p < length x.ram.pages → (z b : Bool) → names s ranges p ≡ b → (if z && b then replicate 4096 0 else page_of x.ram p) ≡ page_of x.ram p
      of lt true true named = let (e, is) = entered p lt named in absurd (unentered p lt none e is)
      of lt true false named = refl
      of lt false b named = refl
