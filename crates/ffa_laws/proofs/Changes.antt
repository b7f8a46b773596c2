-- SPDX-License-Identifier: MIT OR Apache-2.0
-- Changes of pages, buffers and run states, and what they do to a view.
use Rattle.std.proofs.Common.{◌≡◌, ◌∙◌, ℕ, suc, zero, ◌+◌, true, false, cond, List, [], ◌∷◌, ◌++◌, map, length, get_or, Option, Some, None, refl, sym, ap, arith, inl, inr, ◌==◌, ◌||◌, ◌⊎◌, ◌≢◌, eqb-true}
use Rattle.std.specs.Option.{option_map, option_map_or}
use Rattle.ffa_model.specs.declared.rights.Rights.{Rights}
use Rattle.ffa_model.specs.Lists.{map_at}
use Rattle.ffa_model.specs.Identifiers.{identifier, place}
use Rattle.ffa_model.specs.State.{State, Page, Buffers}
use Rattle.ffa_model.specs.Access.{transaction_at}
use Rattle.ffa_model.specs.RunStates.{Schedule, schedule_of}
use Rattle.ffa_model.proofs.Accesses.{length-map_at}
use Rattle.ffa_laws.specs.View.{view, is_near, involves, kept, buffers_seen, hidden}
use Rattle.ffa_laws.specs.Events.{Event, public_change, with_public_buffers, with_public, apply, apply_all}
use Rattle.ffa_laws.specs.Public.{public_part, public_buffers, same_public}
use Rattle.ffa_laws.proofs.Maps.{at-map_at, map_at-alike, get_or-map}
use Rattle.ffa_laws.proofs.Publics.{told-of}

-- a state with other pages, buffers and run states
abbrev pub with_parts : State → List (Option Page) → List (Option Buffers) → Schedule → State
with_parts s ps bs c = record s { pages = ps; buffers = bs; runner = c.runner; statuses = c.statuses; works = c.works }

-- the owner and the own right of a page
abbrev pub standing : Option Page → Option (ℕ × Rights)
standing page = option_map (λ (q : Page). (q.owner, q.own_right)) page

-- pages that differ in their bytes alone
pub record AreRewritten (old new : List (Option Page)) : Type 0 where
  pub each : length new ≡ length old
  pub same : (p : ℕ) → standing (get_or new p None) ≡ standing (get_or old p None)

pub unwritten : (ps : List (Option Page)) → AreRewritten ps ps
unwritten ps = record { each = refl; same = λ p. refl }

owner_in : Option (ℕ × Rights) → ℕ
owner_in x = option_map_or (λ (t : ℕ × Rights). t.0) x 0x8000

owner-standing : (page : Option Page) → option_map_or (λ (q : Page). q.owner) page 0x8000 ≡ owner_in (standing page)
unfolding owner_in
owner-standing None = refl
owner-standing (Some page) = refl

pub same_owner : (x y : Option Page) → standing x ≡ standing y → option_map_or (λ (q : Page). q.owner) x 0x8000 ≡ option_map_or (λ (q : Page). q.owner) y 0x8000
same_owner x y same = owner-standing x ∙ ap owner_in same ∙ sym (owner-standing y)

own_right_in : Option (ℕ × Rights) → Option Rights
own_right_in x = option_map (λ (t : ℕ × Rights). t.1) x

-- the own right of a page, if it is not the manager's
abbrev pub page_right : Option Page → Option Rights
page_right page = option_map (λ (q : Page). q.own_right) page

right-standing : (page : Option Page) → page_right page ≡ own_right_in (standing page)
unfolding own_right_in
right-standing None = refl
right-standing (Some page) = refl

pub same_own_right : (x y : Option Page) → standing x ≡ standing y → page_right x ≡ page_right y
same_own_right x y same = right-standing x ∙ ap own_right_in same ∙ sym (right-standing y)

-- the buffers that e sees
abbrev pub seen_buffers : ℕ → ℕ → List (Option Buffers) → List (Option Buffers)
seen_buffers e past bs = map_at (buffers_seen e past) bs

pub buffers_seen-none : (e past i : ℕ) → buffers_seen e past i None ≡ None
buffers_seen-none e past i = elim (identifier i == e) as (λ b. cond b None (hidden past None) ≡ None) [ true ↦ refl | false ↦ refl ]

-- by an endpoint's identifier
pub identifier-place : (i e : ℕ) → (identifier i == e) ≡ true → place e ≡ i
identifier-place zero e is = let same = eqb-true 0 e is in omega arith
identifier-place (suc i) e is = let same = eqb-true (0x8001 + i) e is in omega arith

-- what e sees of buffers, where its own keep their pages: their public part is the new one
seen-public : (e past i : ℕ) (old new : Option Buffers) → ((identifier i == e) ≡ true → with_public_buffers past old (public_buffers new) ≡ new)
    → with_public_buffers past (buffers_seen e past i old) (public_buffers new) ≡ buffers_seen e past i new
seen-public e past i old new own =
    elim (identifier i == e) as (λ b. (identifier i == e) ≡ b → with_public_buffers past (cond b old (hidden past old)) (public_buffers new) ≡ cond b new (hidden past new)) [
      | true ↦ own
      | false ↦ λ other. go old new
    ] refl
  where
    go : (old new : Option Buffers) → with_public_buffers past (hidden past old) (public_buffers new) ≡ hidden past new
    go old None = refl
    go None (Some b) = refl
    go (Some a) (Some b) = refl

public-buffers : (e past : ℕ) (bs cs : List (Option Buffers)) → length bs ≡ length cs
    → ((i : ℕ) → (identifier i == e) ≡ true → with_public_buffers past (get_or bs i None) (public_buffers (get_or cs i None)) ≡ get_or cs i None)
    → map_at (λ i b. with_public_buffers past b (get_or (map public_buffers cs) i None)) (seen_buffers e past bs) ≡ seen_buffers e past cs
public-buffers e past bs cs each own =
    map_at-alike (λ i b. with_public_buffers past b (get_or (map public_buffers cs) i None)) (buffers_seen e past) (seen_buffers e past bs) cs None None
    (length-map_at (buffers_seen e past) bs ∙ each)
    (λ i. (λ j. with_public_buffers past (at-map_at (buffers_seen e past) bs i (buffers_seen-none e past) j) (get_or-map public_buffers cs i refl j))
    ∙ seen-public e past i (get_or bs i None) (get_or cs i None) (own i))

module _ (e : ℕ) (s : State) (ps : List (Option Page)) (bs : List (Option Buffers)) (c : Schedule) (rewritten : AreRewritten s.pages ps) where
  pub near-kept : (q : ℕ) → is_near e (with_parts s ps bs c) q ≡ is_near e s q
  near-kept q = ap (λ o. o == e || involves e (transaction_at s q)) (same_owner (get_or ps q None) (get_or s.pages q None) (rewritten.same q))

  -- the view of the change is the change of the view
  pub view-changed : view e (with_parts s ps bs c) ≡ with_parts (view e s) (map_at (λ q page. kept (is_near e s q) page) ps) (seen_buffers e (length s.pages) bs) c
  view-changed = λ i. with_parts (view e s) (map_at (λ q page. kept (near-kept q i) page) ps) (seen_buffers e (rewritten.each i) bs) c

-- the view with the bytes of new pages alone
abbrev pub repaged : ℕ → State → List (Option Page) → State
repaged e s ps = with_parts (view e s) (map_at (λ q page. kept (is_near e s q) page) ps) (view e s).buffers (schedule_of s)

pub own_full : (past : ℕ) (b : Option Buffers) → with_public_buffers past b (public_buffers b) ≡ b
own_full past None = refl
own_full past (Some b) = refl

-- e's buffers have the pages that they had
abbrev pub OwnKept : ℕ → State → List (Option Buffers) → Type 0
OwnKept e s bs = (i : ℕ) → (identifier i == e) ≡ true → with_public_buffers (length s.pages) (get_or s.buffers i None) (public_buffers (get_or bs i None)) ≡ get_or bs i None

pub own-same : (e : ℕ) (s : State) → OwnKept e s s.buffers
own-same e s i mine = own_full (length s.pages) (get_or s.buffers i None)

pub apply_all-append : (e : ℕ) (v : State) (xs ys : List Event) → apply_all e v (xs ++ ys) ≡ apply_all e (apply_all e v xs) ys
apply_all-append e v [] ys = refl
apply_all-append e v (x ∷ xs) ys = apply_all-append e (apply e v x) xs ys

-- a state with other run states and buffers
abbrev pub with_public_parts : State → Schedule → List (Option Buffers) → State
with_public_parts v c bs = record v { buffers = bs; runner = c.runner; statuses = c.statuses; works = c.works }

-- What another's change from s to t tells e: the events before the public part lead from the view to u, which has the old
-- public part, and then the public part comes, where it is another.
module _ (e : ℕ) (s t u : State) (told : List Event) (each : length t.buffers ≡ length s.buffers) (own : OwnKept e s t.buffers)
    (size : length u.pages ≡ length s.pages) (old : u ≡ with_public_parts u (schedule_of s) (view e s).buffers)
    (by_told : apply_all e (view e s) told ≡ u)
    (new : view e t ≡ with_public_parts u (schedule_of t) (seen_buffers e (length s.pages) t.buffers)) where
  public-is : (x : State) → length x.buffers ≡ length s.buffers → OwnKept e s x.buffers
      → with_public u (public_part x) ≡ with_public_parts u (schedule_of x) (seen_buffers e (length s.pages) x.buffers)
  public-is x each_x own_x =
      (λ i. with_public (old i) (public_part x))
      ∙ (λ i. with_public_parts u (schedule_of x) (map_at (λ j b. with_public_buffers (size i) b (get_or (map public_buffers x.buffers) j None)) (view e s).buffers))
      ∙ (λ i. with_public_parts u (schedule_of x) (public-buffers e (length s.pages) s.buffers x.buffers (sym each_x) own_x i))

  pub other-told : view e t ≡ apply_all e (view e s) (told ++ public_change s t)
  other-told = sym (apply_all-append e (view e s) told (public_change s t) ∙ ap (λ v. apply_all e v (public_change s t)) by_told ∙ public)
    where
      changes : with_public u (public_part t) ≡ view e t
      changes = public-is t each own ∙ sym new

      stays : with_public u (public_part s) ≡ u
      stays = public-is s refl (own-same e s) ∙ sym old

      public : apply_all e u (public_change s t) ≡ view e t
      public = of (same_public (public_part s) (public_part t))
        where
          of : (c : (public_part s ≡ public_part t) ⊎ (public_part s ≢ public_part t)) → apply_all e u (told-of c) ≡ view e t
          of (inl same) = sym stays ∙ ap (with_public u) same ∙ changes
          of (inr differ) = changes

-- so of a change of bytes, buffers and run states
pub other-changed : (e : ℕ) (s : State) (ps : List (Option Page)) (bs : List (Option Buffers)) (c : Schedule) (told : List Event) → AreRewritten s.pages ps
    → length bs ≡ length s.buffers → OwnKept e s bs → apply_all e (view e s) told ≡ repaged e s ps
    → view e (with_parts s ps bs c) ≡ apply_all e (view e s) (told ++ public_change s (with_parts s ps bs c))
other-changed e s ps bs c told rewritten each own by_told =
    other-told e s (with_parts s ps bs c) (repaged e s ps) told each own (length-map_at (λ q page. kept (is_near e s q) page) ps ∙ rewritten.each) refl by_told
    (view-changed e s ps bs c rewritten)
