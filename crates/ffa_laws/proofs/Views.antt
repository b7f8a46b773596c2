-- SPDX-License-Identifier: MIT OR Apache-2.0
-- What a view has at a page, a handle and an endpoint.
use Rattle.std.proofs.Common.{◌≡◌, ◌∙◌, ℕ, Bool, true, false, cond, [], Option, Some, None, refl, sym, ap, inl, inr, arith, ◌==◌, ◌||◌, ◌&&◌, is_some}
use Rattle.std.specs.Option.{option_and_then, option_map, option_map_or}
use Rattle.std.specs.FinMap as map
use Rattle.std.proofs.lemmas.Bool.{cases_Bool, false≢true, true≢false, eq-eqb}
use Rattle.std.proofs.lemmas.Bool.Decides.{nat_tests}
use Rattle.std.proofs.Math.Path.{fun_ext}
use Rattle.ffa_model.specs.declared.rights.Rights.{Rights}
use Rattle.ffa_model.specs.Rights.{is_share}
use Rattle.ffa_model.specs.State.{State, Page, Transaction, page_at, owner_of, transaction_of}
use Rattle.ffa_model.specs.Access.{names, is_naming, is_receiver, held_by, first_handle, handle_at, transaction_at, right_by, right_of, access}
use Rattle.ffa_model.specs.Memory.{page_bytes}
use Rattle.ffa_laws.specs.Steady.{IsSteady}
use Rattle.ffa_laws.specs.View.{view, involves, is_near, kept, seen_by}
use Rattle.ffa_laws.proofs.Maps.{at-map_at, first_one, first_no, first_some, first_none, get-map_values}

pub kept_none : {X : Type 0} (b : Bool) → kept {X = X} b None ≡ None
kept_none true = refl
kept_none false = refl

-- what a view has of a transaction
abbrev pub shown : ℕ → Option Transaction → Option Transaction
shown e t = option_map (seen_by e) (kept (involves e t) t)

module _ (e : ℕ) (s : State) where
  pub view-page : (p : ℕ) → page_at (view e s) p ≡ kept (is_near e s p) (page_at s p)
  view-page p = at-map_at (λ q page. kept (is_near e s q) page) s.pages p (λ j. kept_none (is_near e s j))

  pub view-transaction : (h : ℕ) → transaction_of (view e s) h ≡ shown e (transaction_of s h)
  view-transaction h =
      get-map_values (seen_by e) (map.retain_keys s.transactions (λ k. involves e (transaction_of s k))) h
      ∙ ap (option_map (seen_by e)) (map.get-retain_keys s.transactions (λ k. involves e (transaction_of s k)) h (λ k tie. ap (λ j. involves e (transaction_of s j)) (sym (map.nat_cmp-IsAntisymmetric h k tie))))

  naming_same : (p : ℕ) → is_naming (view e s) p ≡ is_naming s p
  naming_same p = fun_ext (λ o. elim o as (λ o. is_naming (view e s) p o ≡ is_naming s p o) [ None ↦ refl | Some t ↦ refl ])

  naming_shown : (p : ℕ) (o : Option Transaction) (b : Bool) → is_naming s p (option_map (seen_by e) (kept b o)) ≡ (b && is_naming s p o)
  naming_shown p None true = refl
  naming_shown p None false = refl
  naming_shown p (Some t) true = refl
  naming_shown p (Some t) false = refl

  module _ (steady : IsSteady s) where
    naming_in_view : (p h : ℕ) → is_naming s p (transaction_of (view e s) h) ≡ (involves e (transaction_of s h) && is_naming s p (transaction_of s h))
    naming_in_view p h = ap (is_naming s p) (view-transaction h) ∙ naming_shown p (transaction_of s h) (involves e (transaction_of s h))

    -- the transaction that names a page is found in the view where e is involved
    pub view-handle_at : (p : ℕ) → handle_at (view e s) p ≡ kept (involves e (transaction_at s p)) (handle_at s p)
    view-handle_at p = ap (λ test. first_handle test (view e s).transactions) (naming_same p) ∙ go (handle_at s p) refl
      where
        away : (h k : ℕ) → is_naming s p (transaction_of s h) ≡ true → involves e (transaction_of s h) ≡ false
            → (involves e (transaction_of s k) && is_naming s p (transaction_of s k)) ≡ false
        away h k here unknown =
            elim (cases_Bool (is_naming s p (transaction_of s k))) [
              | inl there ↦ ap (λ b. b && is_naming s p (transaction_of s k)) (ap (λ j. involves e (transaction_of s j)) (steady.one p k h there here) ∙ unknown)
              | inr not_there ↦ grind (arith, cases_Bool (involves e (transaction_of s k)))
            ]

        go : (o : Option ℕ) → handle_at s p ≡ o → first_handle (is_naming s p) (view e s).transactions ≡ kept (involves e (option_and_then (transaction_of s) o)) o
        go None is = first_no (is_naming s p) (view e s).transactions (λ k.
            let none = first_none (is_naming s p) s.transactions refl is k in
            naming_in_view p k ∙ grind (arith, cases_Bool (involves e (transaction_of s k))))
        go (Some h) is =
            let here : is_naming s p (transaction_of s h) ≡ true = first_some (is_naming s p) s.transactions h is in
            elim (involves e (transaction_of s h)) as (λ b. involves e (transaction_of s h) ≡ b → first_handle (is_naming s p) (view e s).transactions ≡ kept b (Some h)) [
              | true ↦ λ known. first_one (is_naming s p) (view e s).transactions refl h
                  (naming_in_view p h ∙ grind (arith))
                  (λ k there.
                  let both : (involves e (transaction_of s k) && is_naming s p (transaction_of s k)) ≡ true = sym (naming_in_view p k) ∙ there in
                  steady.one p k h (grind (arith, cases_Bool (involves e (transaction_of s k)))) here)
              | false ↦ λ unknown. first_no (is_naming s p) (view e s).transactions (λ k. naming_in_view p k ∙ away h k here unknown)
            ] refl

    pub view-transaction_at : (p : ℕ) → transaction_at (view e s) p ≡ shown e (transaction_at s p)
    view-transaction_at p = ap (option_and_then (transaction_of (view e s))) (view-handle_at p) ∙ go (handle_at s p)
      where
        go : (o : Option ℕ) → option_and_then (transaction_of (view e s)) (kept (involves e (option_and_then (transaction_of s) o)) o) ≡ shown e (option_and_then (transaction_of s) o)
        go None = refl
        go (Some h) =
            elim (involves e (transaction_of s h)) as (λ b. involves e (transaction_of s h) ≡ b → option_and_then (transaction_of (view e s)) (kept b (Some h)) ≡ option_map (seen_by e) (kept b (transaction_of s h))) [
              | true ↦ λ known. view-transaction h ∙ ap (λ b. option_map (seen_by e) (kept b (transaction_of s h))) known
              | false ↦ λ unknown. refl
            ] refl

-- the open transaction of a page
pub found : (s : State) (p : ℕ) (t : Transaction) → transaction_at s p ≡ Some t → (h : ℕ) × (transaction_of s h ≡ Some t) × (names s t.ranges p ≡ true)
found s p t is = go (handle_at s p) refl is
  where
    none_some : None ≡ Some t → ⊥
    none_some e = cc

    go : (o : Option ℕ) → handle_at s p ≡ o → option_and_then (transaction_of s) o ≡ Some t → (h : ℕ) × (transaction_of s h ≡ Some t) × (names s t.ranges p ≡ true)
    go None at is = absurd (none_some is)
    go (Some h) at is = (h, is, ap (is_naming s p) (sym is) ∙ first_some (is_naming s p) s.transactions h at)

-- ---- rights, in a view
pub held-seen : (e : ℕ) (t : Transaction) → held_by (seen_by e t) e ≡ held_by t e
held-seen e t = elim (t.sender == e) as (λ b. map.get (cond b t.held (map.retain_keys t.held (λ f. f == e))) e ≡ map.get t.held e) [
  | true ↦ refl
  | false ↦ map.get-retain_keys t.held (λ f. f == e) e (λ x tie. ap (λ j. j == e) (sym (map.nat_cmp-IsAntisymmetric e x tie))) ∙ grind (arith, nat_tests)
]

right_by-seen : (e : ℕ) (page : Page) (t : Transaction) (held : Option Rights) → right_by e page (seen_by e t) held ≡ right_by e page t held
right_by-seen e page t None = refl
right_by-seen e page t (Some right) = refl

pub or_true : (b : Bool) → (b || true) ≡ true
or_true true = refl
or_true false = refl

-- an open transaction that names a page is its owner's, and its holders are its receivers
pub record IsOf (page : Option Page) (t : Option Transaction) : Type 0 where
  pub owner : (u : Transaction) → t ≡ Some u → option_map_or (λ (q : Page). q.owner) page 0x8000 ≡ u.sender
  pub holders : (u : Transaction) → t ≡ Some u → (e : ℕ) (right : Rights) → held_by u e ≡ Some right → is_receiver e u ≡ true

-- who isn't involved has no right by the transaction, and doesn't own the page
pub uninvolved : (e : ℕ) (page : Page) (u : Transaction) → IsOf (Some page) (Some u) → involves e (Some u) ≡ false
    → (right_of e (Some page) (Some u) ≡ None) × ((page.owner == e) ≡ false)
uninvolved e page u of_page unknown = (go (held_by u e) refl, other)
  where
    sender : (u.sender == e) ≡ false
    sender = grind (arith, cases_Bool (u.sender == e))

    other : (page.owner == e) ≡ false
    other = ap (λ o. o == e) (of_page.owner u refl) ∙ sender

    go : (held : Option Rights) → held_by u e ≡ held → right_by e page u held ≡ None
    go None is = grind (arith, cases_Bool (is_share u.kind), sender)
    go (Some right) is =
        let receives = of_page.holders u refl e right is in
        absurd (true≢false (sym (ap (λ b. (u.sender == e) || b) receives ∙ or_true (u.sender == e)) ∙ unknown))

pub right-shown : (e : ℕ) (page : Option Page) (t : Option Transaction) → IsOf page t
    → right_of e (kept (option_map_or (λ (q : Page). q.owner) page 0x8000 == e || involves e t) page) (shown e t) ≡ right_of e page t
right-shown e None t of_page = ap (λ q. right_of e q (shown e t)) (kept_none (0x8000 == e || involves e t))
right-shown e (Some page) None of_page =
    elim (page.owner == e) as (λ b. (page.owner == e) ≡ b → right_of e (kept (b || false) (Some page)) None ≡ right_of e (Some page) None) [
      | true ↦ λ mine. refl
      | false ↦ λ other. sym (ap (λ b. cond b (Some page.own_right) None) other)
    ] refl
right-shown e (Some page) (Some u) of_page =
    elim (involves e (Some u)) as (λ b. involves e (Some u) ≡ b → right_of e (kept (page.owner == e || b) (Some page)) (option_map (seen_by e) (kept b (Some u))) ≡ right_of e (Some page) (Some u)) [
      | true ↦ λ known.
          ap (λ b. right_of e (kept b (Some page)) (Some (seen_by e u))) (or_true (page.owner == e))
          ∙ ap (right_by e page (seen_by e u)) (held-seen e u)
          ∙ right_by-seen e page u (held_by u e)
      | false ↦ λ unknown.
          let (none, other) = uninvolved e page u of_page unknown in
          ap (λ b. right_of e (kept (b || false) (Some page)) None) other ∙ sym none
    ] refl

-- a page with a right is near
pub right-near : (e : ℕ) (page : Option Page) (t : Option Transaction) → IsOf page t → is_some (right_of e page t) ≡ true
    → (option_map_or (λ (q : Page). q.owner) page 0x8000 == e || involves e t) ≡ true
right-near e None t of_page some = absurd (false≢true some)
right-near e (Some page) None of_page some = grind (arith, cases_Bool (page.owner == e))
right-near e (Some page) (Some u) of_page some =
    elim (involves e (Some u)) as (λ b. involves e (Some u) ≡ b → (page.owner == e || b) ≡ true) [
      | true ↦ λ known. or_true (page.owner == e)
      | false ↦ λ unknown. absurd (false≢true (sym (ap is_some (uninvolved e page u of_page unknown).0) ∙ some))
    ] refl

module _ (e : ℕ) (s : State) (steady : IsSteady s) where
  pub of_page : (p : ℕ) → IsOf (page_at s p) (transaction_at s p)
  of_page p =
      record {
        owner = λ u is. (let (h, open_h, named) = found s p u is in (steady.transactions h u open_h).owned p named);
        holders = λ u is. (let (h, open_h, named) = found s p u is in (steady.transactions h u open_h).receiver);
      }

  pub view-access : (p : ℕ) → access (view e s) e p ≡ access s e p
  view-access p =
      ap (λ page. right_of e page (transaction_at (view e s) p)) (view-page e s p)
      ∙ ap (right_of e (kept (is_near e s p) (page_at s p))) (view-transaction_at e s steady p)
      ∙ right-shown e (page_at s p) (transaction_at s p) (of_page p)

  pub access-near : (p : ℕ) → is_some (access s e p) ≡ true → is_near e s p ≡ true
  access-near p some = right-near e (page_at s p) (transaction_at s p) (of_page p) some

  -- the owner of a page sees whether a transaction names it
  pub view-named : (p : ℕ) → owner_of s p ≡ e → is_some (handle_at (view e s) p) ≡ is_some (handle_at s p)
  view-named p mine = ap is_some (view-handle_at e s steady p) ∙ go (handle_at s p) refl
    where
      some_there : (o : Option Transaction) → is_naming s p o ≡ true → (u : Transaction) × (o ≡ Some u)
      some_there None is = absurd (false≢true is)
      some_there (Some u) is = (u, refl)

      go : (o : Option ℕ) → handle_at s p ≡ o → is_some (kept (involves e (option_and_then (transaction_of s) o)) o) ≡ is_some o
      go None is = refl
      go (Some h) is =
          let here : is_naming s p (transaction_of s h) ≡ true = first_some (is_naming s p) s.transactions h is in
          let (u, open_h) = some_there (transaction_of s h) here in
          let owner = (steady.transactions h u open_h).owned p (ap (is_naming s p) (sym open_h) ∙ here) in
          let sender : (u.sender == e) ≡ true = eq-eqb u.sender e (sym owner ∙ mine) in
          let known : involves e (transaction_of s h) ≡ true = ap (involves e) open_h ∙ ap (λ b. b || is_receiver e u) sender in
          ap (λ b. is_some (kept b (Some h))) known

pub near-bytes : (e : ℕ) (s : State) (p : ℕ) → is_near e s p ≡ true → page_bytes (view e s) p ≡ page_bytes s p
near-bytes e s p near = ap (λ page. option_map_or (λ (q : Page). q.bytes) page []) (view-page e s p ∙ ap (λ b. kept b (page_at s p)) near)
