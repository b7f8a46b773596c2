-- SPDX-License-Identifier: MIT OR Apache-2.0
-- A sound state is steady: so the laws of isolation hold of each sound state.
use Rattle.std.proofs.Common.{◌≡◌, ◌≢◌, ◌∙◌, ℕ, ◌<◌, ◌≤◌, true, length, Option, Some, None, refl, sym, ap, subst, arith, ◌&&◌, ◌||◌, nat_le}
use Rattle.std.specs.Option.{option_map_or}
use Rattle.std.proofs.lemmas.Bool.{false≢true, le-leb}
use Rattle.std.proofs.lemmas.Option.{none-some}
use Rattle.ffa_model.specs.declared.limits.TheConstants.{MOST_ENDPOINTS}
use Rattle.ffa_model.specs.declared.rights.Kind.{Kind}
use Rattle.ffa_model.specs.declared.rights.Kind.TheVariants.{Share, Lend, Donate}
use Rattle.ffa_model.specs.declared.rights.Rights.{Rights}
use Rattle.ffa_model.specs.Identifiers.{manager}
use Rattle.ffa_model.specs.Rights.{is_lend, is_share, is_within}
use Rattle.ffa_model.specs.State.{State, Page, Transaction, is_known, is_known_among, owner_of, page_at, transaction_of}
use Rattle.ffa_model.specs.Access.{held_by, is_naming, names, ownership_of}
use Rattle.ffa_model.specs.RunStates.{schedule_of}
use Rattle.ffa_model.specs.Transactions.{ceiling}
use Rattle.ffa_model.specs.SoundState.{IsSoundState, IsSoundTransaction}
use Rattle.ffa_laws.specs.Steady.{IsSteady, IsSteadyTransaction, is_joint}
use Rattle.ffa_laws.proofs.Grants.{covered-inside, granted-ceiling, one-taker}
use Rattle.ffa_laws.proofs.Within.{within-through}
use Rattle.ffa_laws.proofs.SoundLaws.{requester-known}
use Rattle.ffa_laws.proofs.Steadies.{two-receivers, usable}
use Rattle.ffa_laws.proofs.Changes.{page_right}

module _ (s : State) (sound : IsSoundState s) where
  module _ (h : ℕ) (t : Transaction) (open_t : transaction_of s h ≡ Some t) where
    good : IsSoundTransaction s h t
    good = sound.transactions h t open_t

    named-inside : (p : ℕ) → names s t.ranges p ≡ true → p < length s.pages
    named-inside p named = covered-inside (ownership_of s) t.ranges p good.inside named

    owned : (p : ℕ) → names s t.ranges p ≡ true → owner_of s p ≡ t.sender
    owned p named = good.owned p (named-inside p named) named

    -- the manager's pages stand in no open transaction
    named-page : (p : ℕ) → names s t.ranges p ≡ true → (page : Page) × (page_at s p ≡ Some page)
    named-page p named = of (page_at s p) refl
      where
        of : (o : Option Page) → page_at s p ≡ o → (page : Page) × (page_at s p ≡ Some page)
        of (Some page) at = (page, at)
        of None at =
            let nobody : manager ≡ t.sender = sym (ap (λ o. option_map_or (λ (page : Page). page.owner) o manager) at) ∙ owned p named in
            absurd (false≢true (subst (λ e. is_known_among (length s.parties) e ≡ true) (sym nobody) good.sender))

    -- a ceiling is within the own right of each page
    pub ceiling-within : (p e : ℕ) → names s t.ranges p ≡ true → is_within (Some (ceiling (ownership_of s) t e)) (page_right (page_at s p)) ≡ true
    ceiling-within p e named =
        let (page, at) = named-page p named in
        granted-ceiling s t p e page at (named-inside p named) named good.grants

    steady-transaction : IsSteadyTransaction s t
    steady-transaction =
        record {
          owned = owned;
          receiver = good.holder;
          within = λ p e right named held. within-through (Some right) (Some (ceiling (ownership_of s) t e)) (page_right (page_at s p)) (good.within e right held) (ceiling-within p e named);
          alone = λ e f one other differ of_e of_f. joint e f one other differ of_e of_f t.kind refl;
          ceilings = ceiling-within;
          taker = λ e f is of_e of_f. one-taker t good.few_receivers e f is of_e of_f;
        }
      where
        joint : (e f : ℕ) (one other : Rights) → e ≢ f → held_by t e ≡ Some one → held_by t f ≡ Some other → (kind : Kind) → t.kind ≡ kind → is_joint t ≡ true
        joint e f one other differ of_e of_f Share is = ap (λ k. is_share k || (is_lend k && nat_le 2 (length t.receivers))) is
        joint e f one other differ of_e of_f Lend is =
            ap (λ k. is_share k || (is_lend k && nat_le 2 (length t.receivers))) is
            ∙ le-leb 2 (length t.receivers) (two-receivers t.receivers e f differ (good.holder e one of_e) (good.holder f other of_f))
        joint e f one other differ of_e of_f Donate is = absurd (none-some one (sym (good.donate e is) ∙ of_e))

  naming-inside : (p h : ℕ) → is_naming s p (transaction_of s h) ≡ true → p < length s.pages
  naming-inside p h is = of (transaction_of s h) refl is
    where
      of : (o : Option Transaction) → transaction_of s h ≡ o → is_naming s p o ≡ true → p < length s.pages
      of None at is = absurd (false≢true is)
      of (Some t) at is = named-inside h t at p is

  pub sound-steady : IsSteady s
  sound-steady =
      let sized = sound.sized in
      let some : 1 ≤ length s.works = let least = sized.some in omega (arith, sized.works) in
      let few : length s.works ≤ MOST_ENDPOINTS = let most = sized.few in omega (arith, sized.works) in
      record {
        some = sized.some;
        few = sized.few;
        each = sized.buffers;
        runner = subst (λ n. is_known_among n s.runner ≡ true) sized.works sound.schedule.runner;
        requesters = λ i by asked. subst (λ n. is_known_among n by ≡ true) sized.works (requester-known (schedule_of s) sound.schedule some i by asked);
        one = λ p h k at_h at_k. sound.one p h k (naming-inside p h at_h) at_h at_k;
        transactions = λ h t is. steady-transaction h t is;
        sends = sized.sent;
        numbers = λ h t is.
            let good = sound.transactions h t is in
            let number = good.number in
            let most = sound.sent t.sender good.sender in
            (number.0, number.1, number.3, omega (arith, most));
        buffers = λ e b known is.
            let own = sound.buffers e b known is in
            record { tx = λ p its. usable s e p (own.tx p its); rx = λ p its. usable s e p (own.rx p its) };
        bound = λ entry is.
            let own = sound.bound entry is in
            record { receiver = own.receiver; bit = own.bit; sender = own.sender; is = own.is; in_word = own.in_word };
      }

  -- whoever runs is an endpoint
  pub runner-known : is_known s s.runner ≡ true
  runner-known = sound-steady.runner
