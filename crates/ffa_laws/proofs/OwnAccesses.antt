-- SPDX-License-Identifier: MIT OR Apache-2.0
-- Nobody's access changes but the runner's, and the runner's grows and shrinks only by certain calls.
use Rattle.std.proofs.Common.{◌≡◌, ◌≢◌, ◌∙◌, ℕ, ◌-◌, ◌/◌, ◌%◌, Bool, true, false, cond, Option, Some, None, refl, sym, ap, subst, inl, inr, ◌==◌, ◌&&◌, is_none}
use Rattle.std.specs.Option.{option_and_then, option_map_or}
use Rattle.std.specs.FinMap as finite
use Rattle.std.specs.Ordering.{nat_cmp}
use Rattle.std.proofs.lemmas.Bool.{eq-eqb, eqb-true, false≢true, ne_eqb, true≢false}
use Rattle.byteorder.specs.Endian.{little_bytes}
use Rattle.ffa_model.specs.declared.descriptor.RelinquishDesc.{RelinquishDesc}
use Rattle.ffa_model.specs.declared.operation.Op.{Op}
use Rattle.ffa_model.specs.declared.operation.Op.TheVariants.{Call, Load, Store, Fetch}
use Rattle.ffa_model.specs.declared.operation.Outcome.TheVariants.{Data, Done}
use Rattle.ffa_model.specs.declared.call.Call as calls
use Rattle.ffa_model.specs.declared.call.Call.TheVariants.{PartitionInfoGet, MsgWait, MemDonate, MemLend, MemShare, MemRetrieve, MemRelinquish, MemReclaim, MsgSend2, Version}
use Rattle.ffa_model.specs.declared.rights.Kind.{Kind}
use Rattle.ffa_model.specs.declared.rights.Kind.TheVariants.{Share, Lend, Donate}
use Rattle.ffa_model.specs.declared.rights.Rights.{Rights}
use Rattle.ffa_model.specs.Bits.{is_set}
use Rattle.ffa_model.specs.Rights.{is_share, is_within}
use Rattle.ffa_model.specs.SendDescriptor.{SendRecord}
use Rattle.ffa_model.specs.State.{State, Page, Transaction, page_at, owner_of, buffers_of, transaction_of, version_of, with_version}
use Rattle.ffa_model.specs.Access.{access, held_by, is_offered, is_receiver, names, right_by, right_of, transaction_at, ownership_of}
use Rattle.ffa_model.specs.Buffers.{filled}
use Rattle.ffa_model.specs.Calls.{first_failure}
use Rattle.ffa_model.specs.Memory.{fetch_fault, number_at, read_fault, size_of, store_fault, stored, with_pages}
use Rattle.ffa_model.specs.MemoryRetrieve.{donated_page, receiver_retrieve}
use Rattle.ffa_model.specs.MemoryReturn.{is_unheld, memory_reclaim, memory_relinquish, named_ranges, reclaim_guards, reclaimed, relinquish_guards, relinquish_read, relinquished, relinquished_from}
use Rattle.ffa_model.specs.MemorySend.{memory_send, memory_sent, send_guards, send_read, transaction_sent}
use Rattle.ffa_model.specs.Messages.{header_in, message_in, tx_bytes}
use Rattle.ffa_model.specs.Registers.{decode}
use Rattle.ffa_model.specs.RunStates.{waited}
use Rattle.ffa_model.specs.Setup.{info_bytes, is_count_alone, uuid_bytes}
use Rattle.ffa_model.specs.Step.{serve, service, step}
use Rattle.ffa_model.specs.declared.call.Transfer.{Transfer}
use Rattle.ffa_model.specs.Transactions.{closed, holding, next_handle, not_holding, open_of, scene_of, with_open, with_transaction}
use Rattle.ffa_model.proofs.Accesses.{IsNamedOnce, access-closed, access-given, access-holding_beside, access-kept, access-released, access-released_beside, access-still, access-unchanged, access-zeroed, in-closed, named-in}
use Rattle.ffa_model.proofs.CallAccesses.{access-filled, access-written}
use Rattle.ffa_model.proofs.Guards.{guard-passes}
use Rattle.ffa_model.proofs.Holders.{unheld-by}
use Rattle.ffa_laws.specs.Steady.{IsSteady}
use Rattle.ffa_laws.specs.Moves.{by_runner}
use Rattle.ffa_laws.specs.OwnAccess.{AreApart, IsSameOrNone, OwnAccess, gives_access, is_call, takes_access}
use Rattle.ffa_laws.proofs.Form.{accessed-kept, served-kept, waited-kept}
use Rattle.ffa_laws.proofs.Opened.{opened, transaction_at-opened}
use Rattle.ffa_laws.proofs.ReadBacks.{retrieve-kept}
use Rattle.ffa_laws.proofs.SendLaws.{IsOffer, alone, free, fresh, no-offer, offer}
use Rattle.ffa_laws.proofs.Taken as retrieve
use Rattle.ffa_laws.proofs.Taken.{Taken, state-taken, taken}
use Rattle.ffa_laws.proofs.Versions.{version-leaves}
use Rattle.ffa_laws.proofs.Within.{within-same}

-- e is not offered what it has sent itself
abbrev pub IsApart : ℕ → State → Type 0
IsApart e s = (h : ℕ) (t : Transaction) → transaction_of s h ≡ Some t → t.sender ≡ e → is_receiver e t ≡ false

pub each-apart : (e : ℕ) (s : State) → AreApart s → IsApart e s
each-apart e s apart h t there mine = ap (λ f. is_receiver f t) (sym mine) ∙ apart h t there

-- the same of any later state, for calls that may give and take, or may not
record Own (s t : State) (gives takes : Bool) : Type 0 where
  pub others : (e p : ℕ) → s.runner ≢ e → access t e p ≡ access s e p
  pub grows : IsApart s.runner s → (p : ℕ) → gives ≡ false → is_within (access t s.runner p) (access s s.runner p) ≡ true
  pub shrinks : IsApart s.runner s → (p : ℕ) → takes ≡ false → is_within (access s s.runner p) (access t s.runner p) ≡ true
  pub keeps : IsApart s.runner s → (p : ℕ) → IsSameOrNone (access s s.runner p) (access t s.runner p)

pub same-within : (a b : Option Rights) → a ≡ b → is_within a b ≡ true
same-within a b same = ap (is_within a) (sym same) ∙ within-same a

none-within : (a b : Option Rights) → a ≡ None → is_within a b ≡ true
none-within a b none = ap (λ o. is_within o b) none

as_before : (s t : State) (gives takes : Bool) → ((e p : ℕ) → access t e p ≡ access s e p) → Own s t gives takes
as_before s t gives takes same =
    record {
      others = λ e p apart. same e p;
      grows = λ apart p none. same-within _ _ (same s.runner p);
      shrinks = λ apart p none. same-within _ _ (sym (same s.runner p));
      keeps = λ apart p. inr (inr (same s.runner p));
    }

-- by pages: all other pages are as before, and of those that a test picks is known what follows
by_pages : (s t : State) (picked : ℕ → Bool) (gives takes : Bool)
    → ((e p : ℕ) → picked p ≡ false → access t e p ≡ access s e p)
    → ((e p : ℕ) → picked p ≡ true → s.runner ≢ e → access t e p ≡ access s e p)
    → (IsApart s.runner s → (p : ℕ) → picked p ≡ true → gives ≡ false → is_within (access t s.runner p) (access s s.runner p) ≡ true)
    → (IsApart s.runner s → (p : ℕ) → picked p ≡ true → takes ≡ false → is_within (access s s.runner p) (access t s.runner p) ≡ true)
    → (IsApart s.runner s → (p : ℕ) → picked p ≡ true → IsSameOrNone (access s s.runner p) (access t s.runner p))
    → Own s t gives takes
by_pages s t picked gives takes away others grows shrinks keeps =
    record {
      others = λ e p apart. elim (picked p) as (λ b. picked p ≡ b → access t e p ≡ access s e p) [ true ↦ λ is. others e p is apart | false ↦ away e p ] refl;
      grows = λ apart p none. elim (picked p) as (λ b. picked p ≡ b → is_within (access t s.runner p) (access s s.runner p) ≡ true) [ true ↦ λ is. grows apart p is none | false ↦ λ is. same-within _ _ (away s.runner p is) ] refl;
      shrinks = λ apart p none. elim (picked p) as (λ b. picked p ≡ b → is_within (access s s.runner p) (access t s.runner p) ≡ true) [ true ↦ λ is. shrinks apart p is none | false ↦ λ is. same-within _ _ (sym (away s.runner p is)) ] refl;
      keeps = λ apart p. elim (picked p) as (λ b. picked p ≡ b → IsSameOrNone (access s s.runner p) (access t s.runner p)) [ true ↦ λ is. keeps apart p is | false ↦ λ is. inr (inr (away s.runner p is)) ] refl;
    }

-- ---- rights to a page
-- by a transaction that e neither holds nor has sent
pub strangers : (e : ℕ) (page : Option Page) (t : Transaction) → held_by t e ≡ None → (t.sender == e) ≡ false → right_of e page (Some t) ≡ None
strangers e None t unheld other = refl
strangers e (Some q) t unheld other = ap (right_by e q t) unheld ∙ shut (is_share t.kind)
  where
    shut : (b : Bool) → cond (b && t.sender == e) (Some q.own_right) None ≡ None
    shut true = ap (λ b. cond b (Some q.own_right) None) other
    shut false = refl

-- by what is no share and isn't held
pub shareless : (e : ℕ) (page : Option Page) (t : Transaction) → held_by t e ≡ None → is_share t.kind ≡ false → right_of e page (Some t) ≡ None
shareless e None t unheld none = refl
shareless e (Some q) t unheld none = ap (right_by e q t) unheld ∙ ap (λ b. cond (b && t.sender == e) (Some q.own_right) None) none

-- the sender's own, by a share
sharers : (e : ℕ) (page : Option Page) (t : Transaction) → held_by t e ≡ None → (t.sender == e) ≡ true → is_share t.kind ≡ true → option_map_or (λ (q : Page). q.owner) page 0x8000 ≡ e
    → right_of e page (Some t) ≡ right_of e page None
sharers e None t unheld sender share own = refl
sharers e (Some q) t unheld sender share own =
    ap (right_by e q t) unheld ∙ (λ i. cond (share i && sender i) (Some q.own_right) None) ∙ sym (ap (λ b. cond b (Some q.own_right) None) (eq-eqb q.owner e own))

-- no owner
pub ownerless : (e : ℕ) (page : Option Page) → (option_map_or (λ (q : Page). q.owner) page 0x8000 == e) ≡ false → right_of e page None ≡ None
ownerless e None other = refl
ownerless e (Some q) other = ap (λ b. cond b (Some q.own_right) None) other

is_none-None : (o : Option Rights) → is_none o ≡ true → o ≡ None
is_none-None None is = refl
is_none-None (Some right) is = absurd (false≢true is)

module _ (s : State) (steady : IsSteady s) where
  once : (p : ℕ) → IsNamedOnce s p
  once p k j at_k at_j = steady.one p k j at_k at_j

  -- ---- a send
  module _ (kind : Kind) (r : SendRecord) (good : IsOffer s r) where
    abbrev h : ℕ
    h = next_handle (open_of s) s.runner

    abbrev t : Transaction
    t = transaction_sent s kind r

    after-send : (e p : ℕ) (b : Bool) → names s r.ranges p ≡ b → access (memory_sent s kind (Some r)) e p ≡ cond b (right_of e (page_at s p) (Some t)) (access s e p)
    after-send e p true named =
        access-zeroed r.zero (opened s h t) r.ranges e p
        ∙ ap (right_of e (page_at s p)) (transaction_at-opened s steady h t (fresh s steady kind r good) (free s steady kind r good) p ∙ ap (λ b. cond b (Some t) (transaction_at s p)) named)
    after-send e p false away =
        access-zeroed r.zero (opened s h t) r.ranges e p
        ∙ ap (right_of e (page_at s p)) (transaction_at-opened s steady h t (fresh s steady kind r good) (free s steady kind r good) p ∙ ap (λ b. cond b (Some t) (transaction_at s p)) away)

    before-send : (e p : ℕ) → names s r.ranges p ≡ true → access s e p ≡ right_of e (page_at s p) None
    before-send e p named = ap (λ o. right_of e (page_at s p) (option_and_then (transaction_of s) o)) (free s steady kind r good p named)

    unheld : (e : ℕ) → held_by t e ≡ None
    unheld e = finite.get-empty nat_cmp e

    owner : (p : ℕ) → names s r.ranges p ≡ true → owner_of s p ≡ s.runner
    owner p named = (alone s steady kind r good p named).2.owner

    sent-own : (takes : Bool) → (takes ≡ false → is_share kind ≡ true) → Own s (memory_sent s kind (Some r)) false takes
    sent-own takes shared =
        by_pages s (memory_sent s kind (Some r)) (names s r.ranges) false takes
        (λ e p away. after-send e p false away)
        (λ e p named apart.
        after-send e p true named
        ∙ strangers e (page_at s p) t (unheld e) (ap (λ f. f == e) good.sender ∙ ne_eqb s.runner e apart)
        ∙ sym (before-send e p named ∙ ownerless e (page_at s p) (ap (λ f. f == e) (owner p named) ∙ ne_eqb s.runner e apart)))
        (λ mine p named none. elim (is_share kind) as (λ b. is_share kind ≡ b → is_within (access (memory_sent s kind (Some r)) s.runner p) (access s s.runner p) ≡ true) [
          | true ↦ λ share. same-within _ _ (same p named share)
          | false ↦ λ other. none-within _ _ (after-send s.runner p true named ∙ shareless s.runner (page_at s p) t (unheld s.runner) other)
        ] refl)
        (λ mine p named none. same-within _ _ (sym (same p named (shared none))))
        (λ mine p named. elim (is_share kind) as (λ b. is_share kind ≡ b → IsSameOrNone (access s s.runner p) (access (memory_sent s kind (Some r)) s.runner p)) [
          | true ↦ λ share. inr (inr (same p named share))
          | false ↦ λ other. inl (after-send s.runner p true named ∙ shareless s.runner (page_at s p) t (unheld s.runner) other)
        ] refl)
      where
        same : (p : ℕ) → names s r.ranges p ≡ true → is_share kind ≡ true → access (memory_sent s kind (Some r)) s.runner p ≡ access s s.runner p
        same p named share =
            after-send s.runner p true named
            ∙ sharers s.runner (page_at s p) t (unheld s.runner) (eq-eqb r.sender s.runner good.sender) share (owner p named)
            ∙ sym (before-send s.runner p named)

  send-own : (kind : Kind) (x : Transfer) (takes : Bool) → (takes ≡ false → is_share kind ≡ true) → first_failure (memory_send s kind x).guards ≡ None → Own s (memory_send s kind x).state false takes
  send-own kind x takes shared none = of (send_read s kind x.total) none
    where
      of : (o : Option SendRecord) → first_failure (send_guards s.ffa (scene_of s) s.runner x o) ≡ None → Own s (memory_sent s kind o) false takes
      of None none = absurd (no-offer s x none)
      of (Some r) none = sent-own kind r (offer s x r none) takes shared

  -- ---- a relinquish
  relinquished-own : (d : RelinquishDesc) (t : Transaction) → transaction_of s d.handle ≡ Some t → is_receiver s.runner t ≡ true → Own s (relinquished_from s d (Some t)) false true
  relinquished-own d t there offered =
      by_pages s (relinquished_from s d (Some t)) (names s t.ranges) false true
      (λ e p away. zeroes e p ∙ access-unchanged s d.handle t (not_holding t s.runner) there refl p (once p) away e)
      (λ e p named other. zeroes e p ∙ access-released_beside s d.handle t there p (once p) named s.runner e (λ same. other (sym same)))
      (λ mine p named none.
      none-within _ _ (zeroes s.runner p ∙ access-released s d.handle t there p (once p) named s.runner ∙ nothing mine (page_at s p)))
      (λ mine p named none. absurd (true≢false none))
      (λ mine p named. inl (zeroes s.runner p ∙ access-released s d.handle t there p (once p) named s.runner ∙ nothing mine (page_at s p)))
    where
      zeroes : (e p : ℕ) → access (relinquished_from s d (Some t)) e p ≡ access (with_open s (with_transaction (open_of s) d.handle (not_holding t s.runner))) e p
      zeroes e p = access-zeroed d.zero (with_open s (with_transaction (open_of s) d.handle (not_holding t s.runner))) t.ranges e p

      not_sender : IsApart s.runner s → (t.sender == s.runner) ≡ false
      not_sender mine = ne_eqb t.sender s.runner (λ same. false≢true (sym (mine d.handle t there same) ∙ offered))

      nothing : IsApart s.runner s → (page : Option Page) → option_and_then (λ (q : Page). cond (is_share t.kind && t.sender == s.runner) (Some q.own_right) None) page ≡ None
      nothing mine None = refl
      nothing mine (Some q) = elim (is_share t.kind) as (λ b. cond (b && t.sender == s.runner) (Some q.own_right) None ≡ None) [ true ↦ ap (λ b. cond b (Some q.own_right) None) (not_sender mine) | false ↦ refl ]

  relinquish-own : first_failure (memory_relinquish s).guards ≡ None → Own s (memory_relinquish s).state false true
  relinquish-own none = read (relinquish_read s) none
    where
      of : (d : RelinquishDesc) (o : Option Transaction) → transaction_of s d.handle ≡ o → first_failure (relinquish_guards (buffers_of s s.runner) (open_of s) s.runner (Some d)) ≡ None → Own s (relinquished_from s d o) false true
      of d None there none = absurd (false≢true (sym (ap (is_offered s.runner) there) ∙ guard-passes (relinquish_guards (buffers_of s s.runner) (open_of s) s.runner (Some d)) 2 (sym none)))
      of d (Some t) there none = relinquished-own d t there (sym (ap (is_offered s.runner) there) ∙ guard-passes (relinquish_guards (buffers_of s s.runner) (open_of s) s.runner (Some d)) 2 (sym none))

      read : (o : Option RelinquishDesc) → first_failure (relinquish_guards (buffers_of s s.runner) (open_of s) s.runner o) ≡ None → Own s (relinquished s o) false true
      read None none = absurd (false≢true (guard-passes (relinquish_guards (buffers_of s s.runner) (open_of s) s.runner None) 1 (sym none)))
      read (Some d) none = of d (transaction_of s d.handle) refl none

  -- ---- a reclaim
  reclaimed-own : (h : ℕ) (zero : Bool) (t : Transaction) → transaction_of s h ≡ Some t → t.sender ≡ s.runner → is_unheld (Some t) ≡ true → Own s (reclaimed s h zero) true false
  reclaimed-own h zero t there mine unheld =
      by_pages s (reclaimed s h zero) (names s t.ranges) true false
      (λ e p away. zeroes e p ∙ access-still s h t there p (once p) away e)
      (λ e p named apart.
      zeroes e p ∙ access-closed s h t there p (once p) named e
      ∙ ownerless e (page_at s p) (ap (λ f. f == e) (owner p named) ∙ ne_eqb s.runner e apart)
      ∙ sym (in-it e p named ∙ strangers e (page_at s p) t (none-held e) (ap (λ f. f == e) mine ∙ ne_eqb s.runner e apart)))
      (λ apart p named none. absurd (true≢false none))
      (λ apart p named none.
      elim (is_share t.kind) as (λ b. is_share t.kind ≡ b → is_within (access s s.runner p) (access (reclaimed s h zero) s.runner p) ≡ true) [
        | true ↦ λ share. same-within _ _ (in-it s.runner p named ∙ sharers s.runner (page_at s p) t (none-held s.runner) (eq-eqb t.sender s.runner mine) share (owner p named) ∙ sym (zeroes s.runner p ∙ access-closed s h t there p (once p) named s.runner))
        | false ↦ λ other. none-within _ _ (in-it s.runner p named ∙ shareless s.runner (page_at s p) t (none-held s.runner) other)
      ] refl)
      (λ apart p named.
      elim (is_share t.kind) as (λ b. is_share t.kind ≡ b → IsSameOrNone (access s s.runner p) (access (reclaimed s h zero) s.runner p)) [
        | true ↦ λ share. inr (inr (sym (in-it s.runner p named ∙ sharers s.runner (page_at s p) t (none-held s.runner) (eq-eqb t.sender s.runner mine) share (owner p named) ∙ sym (zeroes s.runner p ∙ access-closed s h t there p (once p) named s.runner))))
        | false ↦ λ other. inr (inl (in-it s.runner p named ∙ shareless s.runner (page_at s p) t (none-held s.runner) other))
      ] refl)
    where
      zeroes : (e p : ℕ) → access (reclaimed s h zero) e p ≡ access (with_open s (closed (open_of s) h)) e p
      zeroes e p = access-zeroed zero (with_open s (closed (open_of s) h)) (named_ranges (transaction_of s h)) e p

      owner : (p : ℕ) → names s t.ranges p ≡ true → owner_of s p ≡ s.runner
      owner p named = (steady.transactions h t there).owned p named ∙ mine

      none-held : (e : ℕ) → held_by t e ≡ None
      none-held e = unheld-by t e unheld (λ right held. (steady.transactions h t there).receiver e right held)

      in-it : (e p : ℕ) → names s t.ranges p ≡ true → access s e p ≡ right_of e (page_at s p) (Some t)
      in-it e p named = ap (right_of e (page_at s p)) (named-in s p h t (once p) there named)

  reclaim-own : (handle flags : ℕ) → first_failure (memory_reclaim s handle flags).guards ≡ None → Own s (memory_reclaim s handle flags).state true false
  reclaim-own handle flags none = of (transaction_of s h) refl none
    where
      h : ℕ
      h = handle

      of : (o : Option Transaction) → transaction_of s h ≡ o → first_failure (reclaim_guards (ownership_of s) s.runner flags o) ≡ None → Own s (reclaimed s h (is_set 0 flags)) true false
      of None there none = absurd (false≢true (guard-passes (reclaim_guards (ownership_of s) s.runner flags None) 1 (sym none)))
      of (Some t) there none =
          reclaimed-own h (is_set 0 flags) t there
          (eqb-true t.sender s.runner (guard-passes (reclaim_guards (ownership_of s) s.runner flags (Some t)) 1 (sym none)))
          (guard-passes (reclaim_guards (ownership_of s) s.runner flags (Some t)) 2 (sym none))

  -- ---- a retrieve
  module _ (x : Transfer) (its : Taken s x) where
    abbrev u : Transaction
    u = its.of

    abbrev k : ℕ
    k = its.asked.handle

    abbrev right : Rights
    right = retrieve.right s x its

    abbrev there : transaction_of s k ≡ Some u
    there = its.is.there

    after : State
    after = filled (retrieve.before s x its) s.runner (retrieve.response s x its)

    response : (e p : ℕ) → access (filled (retrieve.before s x its) s.runner (retrieve.response s x its)) e p ≡ access (retrieve.before s x its) e p
    response e p = access-filled (retrieve.before s x its) s.runner (retrieve.response s x its) e p

    not_sender : IsApart s.runner s → (u.sender == s.runner) ≡ false
    not_sender mine = ne_eqb u.sender s.runner (λ same. false≢true (sym (mine k u there same) ∙ its.is.receiver))

    in-it : (e p : ℕ) → names s u.ranges p ≡ true → access s e p ≡ right_of e (page_at s p) (Some u)
    in-it e p named = ap (right_of e (page_at s p)) (named-in s p k u (once p) there named)

    nothing-before : IsApart s.runner s → (p : ℕ) → names s u.ranges p ≡ true → access s s.runner p ≡ None
    nothing-before mine p named = in-it s.runner p named ∙ strangers s.runner (page_at s p) u (is_none-None (held_by u s.runner) its.is.unheld) (not_sender mine)

    held-own : Own s (with_open s (with_transaction (open_of s) k (holding u s.runner right))) true false
    held-own =
        by_pages s (with_open s (with_transaction (open_of s) k (holding u s.runner right))) (names s u.ranges) true false
        (λ e p away. access-unchanged s k u (holding u s.runner right) there refl p (once p) away e)
        (λ e p named other. access-holding_beside s k u there p (once p) named s.runner right e (λ same. other (sym same)))
        (λ mine p named none. absurd (true≢false none))
        (λ mine p named none. none-within _ _ (nothing-before mine p named))
        (λ mine p named. inr (inl (nothing-before mine p named)))

    given-own : u.kind ≡ Donate → Own s (with_pages (with_open s (closed (open_of s) k)) u.ranges (donated_page s.runner right)) true false
    given-own donate =
        by_pages s (with_pages (with_open s (closed (open_of s) k)) u.ranges (donated_page s.runner right)) (names s u.ranges) true false
        (λ e p away. access-kept (with_open s (closed (open_of s) k)) u.ranges s.runner e right p away ∙ access-still s k u there p (once p) away e)
        (λ e p named other.
        access-given (with_open s (closed (open_of s) k)) u.ranges s.runner e right p named (in-closed s k u there p (once p) named)
        ∙ nobody (page_at s p) (ne_eqb s.runner e other)
        ∙ sym (in-it e p named ∙ shareless e (page_at s p) u (unheld e other) (ap is_share donate)))
        (λ mine p named none. absurd (true≢false none))
        (λ mine p named none. none-within _ _ (nothing-before mine p named))
        (λ mine p named. inr (inl (nothing-before mine p named)))
      where
        nobody : {b : Bool} (page : Option Page) → b ≡ false → option_and_then (λ (_ : Page). cond b (Some right) None) page ≡ None
        nobody None is = refl
        nobody (Some q) is = ap (λ b. cond b (Some right) None) is

        unheld : (e : ℕ) → s.runner ≢ e → held_by u e ≡ None
        unheld e other = of (held_by u e) refl
          where
            of : (o : Option Rights) → held_by u e ≡ o → o ≡ None
            of None is = refl
            of (Some one) is = absurd (other ((steady.transactions k u there).taker s.runner e donate its.is.receiver ((steady.transactions k u there).receiver e one is)))

    before-own : Own s (retrieve.before s x its) true false
    before-own = of u.kind refl
      where
        of : (kind : Kind) → u.kind ≡ kind → Own s (retrieve.taken_as s x its kind) true false
        of Donate is = given-own is
        of _ is = held-own

    retrieved-own : Own s (receiver_retrieve s x).state true false
    retrieved-own =
        subst (λ t. Own s t true false) (sym (state-taken s x its))
        (record {
          others = λ e p other. response e p ∙ before-own.others e p other;
          grows = λ mine p none. absurd (true≢false none);
          shrinks = λ mine p none. ap (is_within (access s s.runner p)) (response s.runner p) ∙ before-own.shrinks mine p none;
          keeps = λ mine p. subst (IsSameOrNone (access s s.runner p)) (sym (response s.runner p)) (before-own.keeps mine p);
        })

  -- ---- any call, and any operation
  own-service : (call : calls.Call) → first_failure (service s call).guards ≡ None → Own s (service s call).state (gives_access call) (takes_access call)
  own-service (PartitionInfoGet uuid flags) none =
      elim (is_count_alone flags) as (λ b. Own s (cond b s (filled s s.runner (info_bytes s.ffa (version_of s s.runner) s.parties (uuid_bytes uuid)))) false false) [
        | true ↦ as_before s s false false (λ e p. refl)
        | false ↦ as_before s (filled s s.runner (info_bytes s.ffa (version_of s s.runner) s.parties (uuid_bytes uuid))) false false (access-filled s s.runner (info_bytes s.ffa (version_of s s.runner) s.parties (uuid_bytes uuid)))
      ]
  own-service (Version word) none = version-leaves (λ t. Own s t false false) s.ffa s word (as_before s s false false (λ e p. refl)) (λ version. as_before s (with_version s s.runner version) false false (λ e p. refl))
  own-service (MsgWait flags) none =
      waited-kept (λ t. Own s t false false) s flags (as_before s (waited s true) false false (λ e p. refl)) (as_before s (waited s false) false false (λ e p. refl))
  own-service (MemDonate x) none = send-own Donate x true (λ is. absurd (true≢false is)) none
  own-service (MemLend x) none = send-own Lend x true (λ is. absurd (true≢false is)) none
  own-service (MemShare x) none = send-own Share x false (λ is. refl) none
  own-service (MemRetrieve x) none =
      retrieve-kept (λ t. Own s t true false) s x (λ passed. retrieved-own x (taken s x passed)) (as_before s s true false (λ e p. refl))
      (λ bytes. as_before s (filled s s.runner bytes) true false (access-filled s s.runner bytes)) none
  own-service MemRelinquish none = relinquish-own none
  own-service (MemReclaim handle flags) none = reclaim-own handle.0 flags none
  own-service MsgSend2 none =
      as_before s (service s MsgSend2).state false false (access-filled s (header_in (tx_bytes s s.runner)).receiver (message_in (tx_bytes s s.runner)))
  own-service call none = as_before s (service s call).state (gives_access call) (takes_access call) (λ e p. refl)

  own-call : (call : calls.Call) → Own s (serve s call).state (gives_access call) (takes_access call)
  own-call call = served-kept (λ t. Own s t (gives_access call) (takes_access call)) s (service s call) (as_before s s (gives_access call) (takes_access call) (λ e p. refl)) (own-service call)

  own-op : (op : Op) → Own s (step s op).state (is_call gives_access op) (is_call takes_access op)
  own-op (Call x) = own-call (decode x)
  own-op (Load address size) = accessed-kept (λ t. Own s t false false) s s (Data (number_at s address (size_of size))) (read_fault s address (size_of size)) (as_before s s false false (λ e p. refl)) (λ none. as_before s s false false (λ e p. refl))
  own-op (Store address size value) =
      accessed-kept (λ t. Own s t false false) s (stored s address (little_bytes (size_of size) value)) Done (store_fault s address (size_of size)) (as_before s s false false (λ e p. refl))
      (λ none. as_before s (stored s address (little_bytes (size_of size) value)) false false (access-written s ((address - s.ram_base) / 4096) (address % 4096) (little_bytes (size_of size) value)))
  own-op (Fetch address) = accessed-kept (λ t. Own s t false false) s s (Data (number_at s address 4)) (fetch_fault s address) (as_before s s false false (λ e p. refl)) (λ none. as_before s s false false (λ e p. refl))

-- of any steady state, nobody's access changes but the runner's; and the runner's doesn't grow where it isn't offered its own
pub other-access : (s : State) (op : Op) → IsSteady s → (e p : ℕ) → s.runner ≢ e → access (step s op).state e p ≡ access s e p
other-access s op steady = (own-op s steady op).others

pub own-grows : (s : State) (op : Op) → IsSteady s → IsApart s.runner s → (p : ℕ) → is_call gives_access op ≡ false
    → is_within (access (step s op).state s.runner p) (access s s.runner p) ≡ true
own-grows s op steady = (own-op s steady op).grows

pub own_access : (s : State) (op : Op) → IsSteady s → AreApart s → OwnAccess (by_runner op) s
own_access s op steady apart =
    let own = own-op s steady op in
    let mine = each-apart s.runner s apart in
    record { others = own.others; grows = own.grows mine; shrinks = own.shrinks mine; keeps = own.keeps mine }
