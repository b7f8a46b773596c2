-- SPDX-License-Identifier: MIT OR Apache-2.0
-- A transaction that is opened: what becomes of views.
use Rattle.std.proofs.Common.{◌≡◌, ◌∙◌, ℕ, ◌+◌, ◌<◌, Bool, true, false, cond, length, get_or, set, Option, Some, None, refl, sym, ap, inl, inr, arith, ◌==◌, ◌||◌}
use Rattle.std.specs.Option.{option_and_then, option_map}
use Rattle.std.specs.Ordering.{nat_cmp}
use Rattle.std.specs.Cmp.{nat_cmp_total}
use Rattle.std.specs.FinMap as finite
use Rattle.std.proofs.lemmas.Bool.{cases_Bool, eq-eqb, eqb-true, false≢true}
use Rattle.std.proofs.Math.Path.{fun_ext}
use Rattle.std.proofs.lemmas.Bool.Decides.{nat_tests}
use Rattle.std.proofs.lemmas.List.{set-get_or}
use Rattle.ffa_model.specs.Lists.{map_at}
use Rattle.ffa_model.specs.Identifiers.{identifier, place}
use Rattle.ffa_model.specs.State.{State, Transaction, page_at, owner_of, sent_by, is_known, transaction_of}
use Rattle.ffa_model.specs.Access.{handle_at, is_naming, is_receiver, names, transaction_at}
use Rattle.ffa_laws.specs.Steady.{IsSteady}
use Rattle.ffa_laws.specs.View.{view, involves, is_near, kept, seen_by, transactions_of}
use Rattle.ffa_laws.specs.Events.{Opened, apply, named_pages, with_opened}
use Rattle.ffa_model.proofs.Places.{known-named, known-place}
use Rattle.ffa_model.proofs.Accesses.{length-map_at}
use Rattle.ffa_laws.proofs.Maps.{first_none, first_no, first_one, first_some, get_or-map_at, map_at-alike, map_at-set, at-map_at}
use Rattle.ffa_laws.proofs.Views.{kept_none, shown, view-page, view-transaction}

abbrev pub Transactions : Type 0
Transactions = finite.FinMap nat_cmp Transaction

pub get-insert : (m : Transactions) (h : ℕ) (t : Transaction) (k : ℕ) → finite.get (finite.insert m h t) k ≡ cond (k == h) (Some t) (finite.get m k)
get-insert m h t k = finite.get-insert nat_cmp_total m h t k ∙ ap (λ b. cond b (Some t) (finite.get m k)) (grind (arith, nat_tests))

pub same_transactions : (m n : Transactions) → ((k : ℕ) → finite.get m k ≡ finite.get n k) → m ≡ n
same_transactions m n same = finite.same_map nat_cmp_total finite.nat_cmp-IsAntisymmetric m n same

-- the sender has sent once more
abbrev pub opened : State → ℕ → Transaction → State
opened s h t = record s { transactions = finite.insert s.transactions h t; sent = set s.sent (place t.sender) (sent_by s t.sender + 1) }

-- a transaction that nobody holds is seen whole
seen_by-unheld : (e : ℕ) (t : Transaction) → t.held ≡ finite.empty → seen_by e t ≡ t
seen_by-unheld e t none = λ i. record t { held = (elim (t.sender == e) as (λ b. cond b t.held (finite.retain_keys t.held (λ f. f == e)) ≡ t.held) [ true ↦ refl | false ↦ nothing ]) i }
  where
    nothing : finite.retain_keys t.held (λ f. f == e) ≡ t.held
    nothing =
        finite.same_map nat_cmp_total finite.nat_cmp-IsAntisymmetric (finite.retain_keys t.held (λ f. f == e)) t.held (λ k.
        finite.get-retain_keys t.held (λ f. f == e) k (λ x tie. ap (λ j. j == e) (sym (finite.nat_cmp-IsAntisymmetric k x tie)))
        ∙ ap (λ o. cond (k == e) o None) (ap (λ m. finite.get m k) none ∙ finite.get-empty nat_cmp k)
        ∙ elim (k == e) as (λ b. cond b None None ≡ finite.get t.held k) [ true ↦ sym (ap (λ m. finite.get m k) none ∙ finite.get-empty nat_cmp k) | false ↦ sym (ap (λ m. finite.get m k) none ∙ finite.get-empty nat_cmp k) ])

module _ (s : State) (steady : IsSteady s) (h : ℕ) (t : Transaction) (fresh : transaction_of s h ≡ None) (free : (p : ℕ) → names s t.ranges p ≡ true → handle_at s p ≡ None) where
  -- no open transaction names a page of the new one
  unnamed : (p k : ℕ) → names s t.ranges p ≡ true → is_naming s p (transaction_of s k) ≡ false
  unnamed p k named = first_none (is_naming s p) s.transactions refl (free p named) k

  naming-opened : (p k : ℕ) → is_naming s p (transaction_of (opened s h t) k) ≡ cond (k == h) (names s t.ranges p) (is_naming s p (transaction_of s k))
  naming-opened p k =
      ap (is_naming s p) (get-insert s.transactions h t k)
      ∙ elim (k == h) as (λ b. is_naming s p (cond b (Some t) (transaction_of s k)) ≡ cond b (names s t.ranges p) (is_naming s p (transaction_of s k))) [ true ↦ refl | false ↦ refl ]

  pub one-opened : (p i k : ℕ) → is_naming s p (transaction_of (opened s h t) i) ≡ true → is_naming s p (transaction_of (opened s h t) k) ≡ true → i ≡ k
  one-opened p i k a b =
      let a' = sym (naming-opened p i) ∙ a in
      let b' = sym (naming-opened p k) ∙ b in
      let f = unnamed p i in
      let g = unnamed p k in
      let o = steady.one p i k in
      grind (arith, nat_tests, cases_Bool (i == h), cases_Bool (k == h), cases_Bool (names s t.ranges p))

  pub transaction_at-opened : (p : ℕ) → transaction_at (opened s h t) p ≡ cond (names s t.ranges p) (Some t) (transaction_at s p)
  transaction_at-opened p =
      elim (names s t.ranges p) as (λ b. names s t.ranges p ≡ b → transaction_at (opened s h t) p ≡ cond b (Some t) (transaction_at s p)) [
        | true ↦ λ named.
            let here : transaction_of (opened s h t) h ≡ Some t = get-insert s.transactions h t h ∙ ap (λ b. cond b (Some t) (transaction_of s h)) (eq-eqb h h refl) in
            ap (option_and_then (transaction_of (opened s h t))) (first_one (is_naming s p) (opened s h t).transactions refl h (ap (is_naming s p) here ∙ named) (λ k there. one-opened p k h there (ap (is_naming s p) here ∙ named)))
            ∙ here
        | false ↦ λ away. go away (handle_at s p) refl
      ] refl
    where
      kept_off : names s t.ranges p ≡ false → (k : ℕ) → is_naming s p (transaction_of (opened s h t) k) ≡ is_naming s p (transaction_of s k)
      kept_off away k =
          naming-opened p k
          ∙ elim (k == h) as (λ b. (k == h) ≡ b → cond b (names s t.ranges p) (is_naming s p (transaction_of s k)) ≡ is_naming s p (transaction_of s k)) [
            | true ↦ λ same. away ∙ sym (ap (λ j. is_naming s p (transaction_of s j)) (eqb-true k h same) ∙ ap (is_naming s p) fresh)
            | false ↦ λ other. refl
          ] refl

      go : names s t.ranges p ≡ false → (o : Option ℕ) → handle_at s p ≡ o → transaction_at (opened s h t) p ≡ option_and_then (transaction_of s) o
      go away None is = ap (option_and_then (transaction_of (opened s h t))) (first_no (is_naming s p) (opened s h t).transactions (λ k. kept_off away k ∙ first_none (is_naming s p) s.transactions refl is k))
      go away (Some k) is =
          let here : is_naming s p (transaction_of s k) ≡ true = first_some (is_naming s p) s.transactions k is in
          let not_h : (k == h) ≡ false = apart k here in
          ap (option_and_then (transaction_of (opened s h t))) (first_one (is_naming s p) (opened s h t).transactions refl k (kept_off away k ∙ here) (λ j there. steady.one p j k (sym (kept_off away j) ∙ there) here))
          ∙ get-insert s.transactions h t k ∙ ap (λ b. cond b (Some t) (transaction_of s k)) not_h
        where
          apart : (k : ℕ) → is_naming s p (transaction_of s k) ≡ true → (k == h) ≡ false
          apart k here =
              elim (cases_Bool (k == h)) [
                | inl same ↦ absurd (false≢true (sym (ap (λ j. is_naming s p (transaction_of s j)) (eqb-true k h same) ∙ ap (is_naming s p) fresh) ∙ here))
                | inr other ↦ other
              ]

  -- a page beside the new transaction's is named as little as before
  pub unnamed-opened : (p : ℕ) → names s t.ranges p ≡ false → handle_at s p ≡ None → handle_at (opened s h t) p ≡ None
  unnamed-opened p away none =
      first_no (is_naming s p) (opened s h t).transactions (λ k.
      naming-opened p k ∙ (λ i. cond (k == h) (away i) (first_none (is_naming s p) s.transactions refl none k i)) ∙ same-either (k == h))
    where
      same-either : (b : Bool) → cond b false false ≡ false
      same-either true = refl
      same-either false = refl

  -- which pages come near
  pub near-opened : (e p : ℕ) → is_near e (opened s h t) p ≡ (owner_of s p == e || cond (names s t.ranges p) (involves e (Some t)) (involves e (transaction_at s p)))
  near-opened e p =
      ap (λ o. owner_of s p == e || involves e o) (transaction_at-opened p)
      ∙ ap (λ b. owner_of s p == e || b) (elim (names s t.ranges p) as (λ b. involves e (cond b (Some t) (transaction_at s p)) ≡ cond b (involves e (Some t)) (involves e (transaction_at s p))) [ true ↦ refl | false ↦ refl ])

  -- ---- transactions in views
  module _ (e : ℕ) (unheld : t.held ≡ finite.empty) where
    seen-opened : (k : ℕ) → finite.get (transactions_of e (opened s h t)) k ≡ cond (k == h) (shown e (Some t)) (finite.get (transactions_of e s) k)
    seen-opened k =
        view-transaction e (opened s h t) k ∙ ap (shown e) (get-insert s.transactions h t k)
        ∙ elim (k == h) as (λ b. shown e (cond b (Some t) (transaction_of s k)) ≡ cond b (shown e (Some t)) (finite.get (transactions_of e s) k)) [ true ↦ refl | false ↦ sym (view-transaction e s k) ]

    pub transactions-known : involves e (Some t) ≡ true → transactions_of e (opened s h t) ≡ finite.insert (transactions_of e s) h t
    transactions-known known = same_transactions _ _ (λ k.
        seen-opened k
        ∙ ap (λ o. cond (k == h) o (finite.get (transactions_of e s) k)) (ap (λ b. option_map (seen_by e) (kept b (Some t))) known ∙ ap Some (seen_by-unheld e t unheld))
        ∙ sym (get-insert (transactions_of e s) h t k))

    pub transactions-unknown : involves e (Some t) ≡ false → transactions_of e (opened s h t) ≡ transactions_of e s
    transactions-unknown unknown = same_transactions _ _ (λ k.
        seen-opened k
        ∙ ap (λ o. cond (k == h) o (finite.get (transactions_of e s) k)) (ap (λ b. option_map (seen_by e) (kept b (Some t))) unknown)
        ∙ elim (k == h) as (λ b. (k == h) ≡ b → cond b None (finite.get (transactions_of e s) k) ≡ finite.get (transactions_of e s) k) [
          | true ↦ λ same. sym (view-transaction e s k ∙ ap (shown e) (ap (transaction_of s) (eqb-true k h same) ∙ fresh))
          | false ↦ λ other. refl
        ] refl)

    -- ---- the law of other endpoints
    module _ (known_e : is_known s e ≡ true) (known_sender : is_known s t.sender ≡ true) (other : (t.sender == e) ≡ false) (each : length s.sent ≡ length s.parties) (mine : (p : ℕ) → names s t.ranges p ≡ true → owner_of s p ≡ t.sender) where
      sent-same : (view e (opened s h t)).sent ≡ (view e s).sent
      sent-same =
          map_at-set (λ i n. cond (identifier i == e) n 0) s.sent (place t.sender) (sent_by s t.sender + 1)
          ∙ ap (set (view e s).sent (place t.sender)) (ap (λ b. cond b (sent_by s t.sender + 1) 0) away ∙ sym (get_or-map_at (λ i n. cond (identifier i == e) n 0) s.sent (place t.sender) 0 0 inside ∙ ap (λ b. cond b (get_or s.sent (place t.sender) 0) 0) away))
          ∙ set-get_or (view e s).sent (place t.sender) 0
        where
          away : (identifier (place t.sender) == e) ≡ false
          away = ap (λ f. f == e) (known-named (length s.parties) t.sender known_sender) ∙ other

          inside : place t.sender < length s.sent
          inside = let lt = known-place (length s.parties) t.sender steady.some known_sender in omega (arith, each)

      -- the pages that the event brings
      pub pages-opened : involves e (Some t) ≡ true → (view e (opened s h t)).pages ≡ (with_opened (view e s) h t (named_pages s t.ranges)).pages
      pages-opened known =
          map_at-alike (λ q page. kept (is_near e (opened s h t) q) page) (λ q page. cond (names s t.ranges q) (get_or (named_pages s t.ranges) q None) page) s.pages (view e s).pages None None
          (sym (length-map_at (λ q page. kept (is_near e s q) page) s.pages))
          (λ q. at q (names s t.ranges q) refl)
        where
          at : (q : ℕ) (b : Bool) → names s t.ranges q ≡ b → kept (is_near e (opened s h t) q) (page_at s q) ≡ cond b (get_or (named_pages s t.ranges) q None) (page_at (view e s) q)
          at q true named =
              let near : is_near e (opened s h t) q ≡ true = near-opened e q ∙ ap (λ b. owner_of s q == e || cond b (involves e (Some t)) (involves e (transaction_at s q))) named ∙ ap (λ b. owner_of s q == e || b) known ∙ grind (arith, cases_Bool (owner_of s q == e)) in
              ap (λ b. kept b (page_at s q)) near
              ∙ sym (at-map_at (λ r page. kept (names s t.ranges r) page) s.pages q (λ r. kept_none (names s t.ranges r)) ∙ ap (λ b. kept b (page_at s q)) named)
          at q false away =
              ap (λ b. kept b (page_at s q)) (near-opened e q ∙ ap (λ b. owner_of s q == e || cond b (involves e (Some t)) (involves e (transaction_at s q))) away)
              ∙ sym (view-page e s q)

      pub pages-closed_to : involves e (Some t) ≡ false → (view e (opened s h t)).pages ≡ (view e s).pages
      pages-closed_to unknown = ap (λ (near : ℕ → Bool). map_at (λ q page. kept (near q) page) s.pages) (fun_ext at)
        where
          at : (q : ℕ) → is_near e (opened s h t) q ≡ is_near e s q
          at q =
              near-opened e q
              ∙ elim (names s t.ranges q) as (λ b. names s t.ranges q ≡ b → (owner_of s q == e || cond b (involves e (Some t)) (involves e (transaction_at s q))) ≡ (owner_of s q == e || involves e (transaction_at s q))) [
                | true ↦ λ named. ap (λ b. owner_of s q == e || b) (unknown ∙ sym (ap (involves e) (ap (option_and_then (transaction_of s)) (free q named))))
                | false ↦ λ away. refl
              ] refl

      pub other-opened : involves e (Some t) ≡ true → view e (opened s h t) ≡ apply e (view e s) (Opened h t (named_pages s t.ranges))
      other-opened known = λ i. record (view e s) { pages = pages-opened known i; transactions = transactions-known known i; sent = sent-same i }

      pub other-untold : involves e (Some t) ≡ false → view e (opened s h t) ≡ view e s
      other-untold unknown = λ i. record (view e s) { pages = pages-closed_to unknown i; transactions = transactions-unknown unknown i; sent = sent-same i }

    -- ---- the law of the sender
    module _ (known_e : is_known s e ≡ true) (own : t.sender ≡ e) (each : length s.sent ≡ length s.parties) (mine : (p : ℕ) → names s t.ranges p ≡ true → owner_of s p ≡ e) where
      pub own-opened : opened (view e s) h t ≡ view e (opened s h t)
      own-opened = λ i. record (view e s) { pages = sym pages i; transactions = sym (transactions-known knows) i; sent = sym sent i }
        where
          knows : involves e (Some t) ≡ true
          knows = ap (λ b. b || is_receiver e t) (eq-eqb t.sender e own)

          sent : (view e (opened s h t)).sent ≡ set (view e s).sent (place t.sender) (sent_by (view e s) t.sender + 1)
          sent =
              map_at-set (λ i n. cond (identifier i == e) n 0) s.sent (place t.sender) (sent_by s t.sender + 1)
              ∙ ap (set (view e s).sent (place t.sender)) (ap (λ b. cond b (sent_by s t.sender + 1) 0) own_place ∙ sym (ap (λ n. n + 1) (get_or-map_at (λ i n. cond (identifier i == e) n 0) s.sent (place t.sender) 0 0 inside ∙ ap (λ b. cond b (sent_by s t.sender) 0) own_place)))
            where
              own_place : (identifier (place t.sender) == e) ≡ true
              own_place = eq-eqb (identifier (place t.sender)) e (ap (λ f. identifier (place f)) own ∙ known-named (length s.parties) e known_e)

              inside : place t.sender < length s.sent
              inside = let lt = known-place (length s.parties) e steady.some known_e in let same = ap place own in omega (arith, each)

          pages : (view e (opened s h t)).pages ≡ (view e s).pages
          pages = ap (λ (near : ℕ → Bool). map_at (λ q page. kept (near q) page) s.pages) (fun_ext at)
            where
              at : (q : ℕ) → is_near e (opened s h t) q ≡ is_near e s q
              at q =
                  near-opened e q
                  ∙ elim (names s t.ranges q) as (λ b. names s t.ranges q ≡ b → (owner_of s q == e || cond b (involves e (Some t)) (involves e (transaction_at s q))) ≡ (owner_of s q == e || involves e (transaction_at s q))) [
                    | true ↦ λ named. (let owner = eq-eqb (owner_of s q) e (mine q named) in ap (λ b. b || involves e (Some t)) owner ∙ sym (ap (λ b. b || involves e (transaction_at s q)) owner))
                    | false ↦ λ away. refl
                  ] refl
