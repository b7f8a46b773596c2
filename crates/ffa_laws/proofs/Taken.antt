-- SPDX-License-Identifier: MIT OR Apache-2.0
-- A retrieve that nothing refuses: the state before RX is filled, and that a state stays steady.
use Rattle.std.proofs.Common.{◌≡◌, ◌∙◌, ℕ, Bool, true, false, cond, List, ◌∷◌, length, Option, Some, None, is_some, refl, sym, ap, subst, ◌==◌, is_none, nat_le}
use Rattle.std.specs.FinMap as finite
use Rattle.std.proofs.lemmas.Bool.{eqb-true, false≢true}
use Rattle.std.proofs.lemmas.Option.{same_Some}
use Rattle.ffa_model.specs.declared.descriptor.RetrieveDesc.{RetrieveDesc}
use Rattle.ffa_model.specs.declared.rights.Kind.{Kind}
use Rattle.ffa_model.specs.declared.rights.Kind.TheVariants.{Donate}
use Rattle.ffa_model.specs.declared.rights.Rights.{Rights}
use Rattle.ffa_model.specs.Rights.{is_at_most, is_donate, is_within}
use Rattle.ffa_model.specs.State.{State, Page, Transaction, page_at, transaction_of, version_of, own_right_of}
use Rattle.ffa_model.specs.Access.{handle_at, held_by, is_receiver, names, ownership_of}
use Rattle.ffa_model.specs.Buffers.{buffers_in, filled, is_full, room_of}
use Rattle.ffa_model.specs.Calls.{first_failure}
use Rattle.ffa_model.specs.ResponseBytes.{response_bytes}
use Rattle.ffa_model.specs.declared.call.Transfer.{Transfer}
use Rattle.ffa_model.specs.Transactions.{ceiling, open_of, scene_of, with_open}
use Rattle.ffa_model.specs.HypervisorRetrieve.{memory_retrieve}
use Rattle.ffa_model.specs.MemoryRetrieve.{asking_guards, donated_if, donated_page, holding_guards, named_read, receiver_retrieve, response_to, retrieve_read, retrieved, retrieved_from, right_for, taken_in}
use Rattle.ffa_laws.specs.Steady.{IsSteady}
use Rattle.ffa_model.proofs.Guards.{guard-passes, invalid}
use Rattle.ffa_laws.proofs.BufferLaws.{steady-filled}
use Rattle.ffa_laws.proofs.Changes.{page_right}
use Rattle.ffa_laws.proofs.Given.{page-given, page-same, size-given, steady-given, unnamed-away}
use Rattle.ffa_laws.proofs.Holders.{Holders, get-taken, reheld, steady-reheld}
use Rattle.ffa_laws.proofs.ReadBacks.{retrieve-kept}
use Rattle.ffa_laws.proofs.Within.{within-same, within-through}
use Rattle.ffa_model.specs.declared.refusal.Refusal.{Refusal}

-- ---- what a retrieve that nothing refuses has asked for
pub record IsTaking (s : State) (d : RetrieveDesc) (t : Transaction) : Type 0 where
  pub there : transaction_of s d.handle ≡ Some t
  pub receiver : is_receiver s.runner t ≡ true
  pub unheld : is_none (held_by t s.runner) ≡ true
  pub within : is_at_most (right_for (ownership_of s) t s.runner d) (ceiling (ownership_of s) t s.runner) ≡ true

-- what a retrieve reads, and the transaction it is of
pub record Taken (s : State) (x : Transfer) : Type 0 where
  pub asked : RetrieveDesc
  pub of : Transaction
  pub read : retrieve_read s x.total ≡ Some asked
  pub is : IsTaking s asked of

-- the first checks, and the others
abbrev pub checks : State → Transfer → List (Bool × Refusal) → List (Bool × Refusal)
checks s x rest =
    (is_some (buffers_in s.buffers s.runner), invalid)
    ∷ (x.total == x.fragment, invalid)
    ∷ (nat_le x.total (room_of (buffers_in s.buffers s.runner)), invalid)
    ∷ (x.address == 0, invalid)
    ∷ (x.pages == 0, invalid)
    ∷ rest

pub taken : (s : State) (x : Transfer) → first_failure (receiver_retrieve s x).guards ≡ None → Taken s x
taken s x none = read (retrieve_read s x.total) refl none
  where
    full : Bool
    full = is_full (buffers_in s.buffers s.runner)

    naming : (d : RetrieveDesc) (o : Option Transaction) → retrieve_read s x.total ≡ Some d → transaction_of s d.handle ≡ o
        → first_failure (checks s x (holding_guards s.ffa (ownership_of s) full s.runner (named_read s x.total) d o)) ≡ None → Taken s x
    naming d None is there passed = absurd (false≢true (guard-passes (checks s x (holding_guards s.ffa (ownership_of s) full s.runner (named_read s x.total) d None)) 5 (sym passed)))
    naming d (Some t) is there passed =
        record {
          asked = d;
          of = t;
          read = is;
          is =
              record {
                there = there;
                receiver = guard-passes (checks s x (holding_guards s.ffa (ownership_of s) full s.runner (named_read s x.total) d (Some t))) 5 (sym passed);
                unheld = guard-passes (checks s x (holding_guards s.ffa (ownership_of s) full s.runner (named_read s x.total) d (Some t))) 10 (sym passed);
                within = guard-passes (checks s x (holding_guards s.ffa (ownership_of s) full s.runner (named_read s x.total) d (Some t))) 11 (sym passed);
              };
        }

    read : (o : Option RetrieveDesc) → retrieve_read s x.total ≡ o → first_failure (checks s x (asking_guards s.ffa (scene_of s) s.runner (named_read s x.total) o)) ≡ None → Taken s x
    read None is passed = absurd (false≢true (guard-passes (checks s x (asking_guards s.ffa (scene_of s) s.runner (named_read s x.total) None)) 5 (sym passed)))
    read (Some d) is passed = naming d (transaction_of s d.handle) is refl passed

module _ (s : State) (x : Transfer) (its : Taken s x) where
  abbrev pub t : Transaction
  t = its.of

  abbrev pub h : ℕ
  h = its.asked.handle

  abbrev pub right : Rights
  right = right_for (ownership_of s) t s.runner its.asked

  -- who holds it then
  abbrev pub holders : Holders
  holders = finite.insert t.held s.runner right

  -- the state before RX is filled, by the kind
  abbrev pub taken_as : Kind → State
  taken_as kind = with_open (donated_if (is_donate kind) s t.ranges s.runner right) (taken_in kind (open_of s) h t s.runner right)

  abbrev pub before : State
  before = taken_as t.kind

  abbrev pub response : List ℕ
  response = response_bytes (version_of s s.runner) (response_to h t s.runner right)

  pub state-taken : (receiver_retrieve s x).state ≡ filled before s.runner response
  state-taken = ap (retrieved s) its.read ∙ ap (retrieved_from s its.asked) its.is.there

  module _ (steady : IsSteady s) where
    pub size-before : length before.pages ≡ length s.pages
    size-before = of t.kind
      where
        of : (kind : Kind) → length (taken_as kind).pages ≡ length s.pages
        of Donate = size-given s steady h t its.is.there s.runner right
        of _ = refl

    -- the right is within each page's own right
    right-within : (p : ℕ) → names s t.ranges p ≡ true → is_within (Some right) (own_right_of s p) ≡ true
    right-within p named =
        within-through (Some right) (Some (ceiling (ownership_of s) t s.runner)) (own_right_of s p) its.is.within ((steady.transactions h t its.is.there).ceilings p s.runner named)

    -- ---- steadiness
    each-holder : (P : ℕ → Rights → Type 0) → P s.runner right → ((e : ℕ) (other : Rights) → held_by t e ≡ Some other → P e other)
        → (e : ℕ) (other : Rights) → finite.get holders e ≡ Some other → P e other
    each-holder P new old e other is =
        elim (e == s.runner) as (λ b. (e == s.runner) ≡ b → cond b (Some right) (held_by t e) ≡ Some other → P e other) [
          | true ↦ λ same holds. subst (λ f. P f other) (sym (eqb-true e s.runner same)) (subst (P s.runner) (same_Some right other holds) new)
          | false ↦ λ differs holds. old e other holds
        ] refl (sym (get-taken t.held s.runner right e) ∙ is)

    steady-held : IsSteady (reheld s h t holders)
    steady-held =
        let good = steady.transactions h t its.is.there in
        steady-reheld s steady h t its.is.there holders
        (each-holder (λ e other. is_receiver e t ≡ true) its.is.receiver good.receiver)
        (λ p e other named. each-holder (λ f one. is_within (Some one) (own_right_of s p) ≡ true) (right-within p named) (λ f one. good.within p f one named) e other)

    pub steady-before : IsSteady before
    steady-before = of t.kind
      where
        of : (kind : Kind) → IsSteady (taken_as kind)
        of Donate = steady-given s steady h t its.is.there s.runner right
        of _ = steady-held

    -- ---- pages: an own right is no more than before, the manager's pages stay, and so do those in no transaction
    pub right-before : (p : ℕ) → is_within (own_right_of before p) (own_right_of s p) ≡ true
    right-before p = of t.kind
      where
        given-within : (page : Option Page) → page_at s p ≡ page → names s t.ranges p ≡ true → is_within (page_right (donated_page s.runner right page)) (page_right page) ≡ true
        given-within None at named = refl
        given-within (Some q) at named = ap (λ page. is_within (Some right) (page_right page)) (sym at) ∙ right-within p named

        of : (kind : Kind) → is_within (own_right_of (taken_as kind) p) (own_right_of s p) ≡ true
        of Donate =
            ap (λ page. is_within (page_right page) (own_right_of s p)) (page-given s steady h t its.is.there s.runner right p)
            ∙ elim (names s t.ranges p) as (λ b. names s t.ranges p ≡ b → is_within (page_right (cond b (donated_page s.runner right (page_at s p)) (page_at s p))) (own_right_of s p) ≡ true) [
              | true ↦ given-within (page_at s p) refl
              | false ↦ λ away. within-same (own_right_of s p)
            ] refl
        of _ = within-same (own_right_of s p)

    pub manager-before : (p : ℕ) → page_at s p ≡ None → page_at before p ≡ None
    manager-before p none = of t.kind
      where
        of : (kind : Kind) → page_at (taken_as kind) p ≡ None
        of Donate =
            page-given s steady h t its.is.there s.runner right p
            ∙ ap (λ page. cond (names s t.ranges p) (donated_page s.runner right page) page) none
            ∙ elim (names s t.ranges p) as (λ b. cond b (donated_page s.runner right None) None ≡ None) [ true ↦ refl | false ↦ refl ]
        of _ = none

    pub unnamed-before : (p : ℕ) → handle_at s p ≡ None → page_at before p ≡ page_at s p
    unnamed-before p unnamed = of t.kind
      where
        of : (kind : Kind) → page_at (taken_as kind) p ≡ page_at s p
        of Donate = page-same s steady h t its.is.there s.runner right p (unnamed-away s steady h t its.is.there s.runner right p unnamed)
        of _ = refl

pub steady-retrieve : (s : State) → IsSteady s → (x : Transfer) → first_failure (memory_retrieve s x).guards ≡ None → IsSteady (memory_retrieve s x).state
steady-retrieve s steady x =
    retrieve-kept IsSteady s x
    (λ none.
    let its = taken s x none in
    subst IsSteady (sym (state-taken s x its)) (steady-filled (before s x its) (steady-before s x its steady) s.runner (response s x its)))
    steady (λ bytes. steady-filled s steady s.runner bytes)
