-- SPDX-License-Identifier: MIT OR Apache-2.0
-- Other holders of an open transaction: what becomes of views, and that a state stays steady.
use Rattle.std.proofs.Common.{◌≡◌, ◌≢◌, ◌∙◌, ℕ, ◌≤◌, Bool, true, false, cond, length, Option, Some, None, refl, sym, ap, subst, ◌==◌, ◌||◌, ◌&&◌, nat_le, eqb-true, le-leb}
use Rattle.std.specs.Option.{option_and_then, option_map}
use Rattle.std.specs.Ordering.{nat_cmp}
use Rattle.std.specs.Cmp.{nat_cmp_total, unsigned_tied}
use Rattle.std.specs.FinMap as finite
use Rattle.std.proofs.Math.Path.{fun_ext}
use Rattle.std.proofs.lemmas.Option.{same_Some}
use Rattle.ffa_model.specs.declared.rights.Kind.{Kind}
use Rattle.ffa_model.specs.declared.rights.Kind.TheVariants.{Share, Lend, Donate}
use Rattle.ffa_model.specs.declared.rights.Rights.{Rights}
use Rattle.ffa_model.specs.Lists.{map_at}
use Rattle.ffa_model.specs.Rights.{is_lend, is_share, is_within}
use Rattle.ffa_model.specs.State.{State, Transaction, owner_of, sent_by, transaction_of, own_right_of}
use Rattle.ffa_model.specs.Access.{handle_at, held_by, is_naming, is_receiver, names, ownership_of}
use Rattle.ffa_model.specs.Transactions.{handle_of, holding, most_sends, not_holding}
use Rattle.ffa_laws.specs.Steady.{IsSteady, IsSteadyTransaction, is_joint}
use Rattle.ffa_laws.specs.View.{view, involves, is_near, kept, seen_by, transactions_of}
use Rattle.ffa_laws.proofs.Maps.{first_no, first_none, first_one, first_some}
use Rattle.ffa_laws.proofs.Views.{shown, view-transaction}
use Rattle.ffa_laws.proofs.Opened.{get-insert, same_transactions}
use Rattle.ffa_laws.proofs.Steadies.{two-receivers}
use Rattle.ffa_model.proofs.Kept.{ceiling-held}

abbrev pub Holders : Type 0
Holders = finite.FinMap nat_cmp Rights

abbrev pub reheld : State → ℕ → Transaction → Holders → State
reheld s h t held = record s { transactions = finite.insert s.transactions h (record t { held = held }) }

same-holders : (m n : Holders) → ((k : ℕ) → finite.get m k ≡ finite.get n k) → m ≡ n
same-holders m n same = finite.same_map nat_cmp_total finite.nat_cmp-IsAntisymmetric m n same

-- what a receiver sees of the holders
get-own : (e : ℕ) (m : Holders) (k : ℕ) → finite.get (finite.retain_keys m (λ f. f == e)) k ≡ cond (k == e) (finite.get m k) None
get-own e m k = finite.get-retain_keys m (λ f. f == e) k (λ x tie. ap (λ j. j == e) (sym (finite.nat_cmp-IsAntisymmetric k x tie)))

get-left : (m : Holders) (f k : ℕ) → finite.get (finite.remove m f) k ≡ cond (k == f) None (finite.get m k)
get-left m f k = finite.get-remove nat_cmp_total m f k ∙ ap (λ b. cond b None (finite.get m k)) (unsigned_tied k f)

pub get-taken : (m : Holders) (f : ℕ) (right : Rights) (k : ℕ) → finite.get (finite.insert m f right) k ≡ cond (k == f) (Some right) (finite.get m k)
get-taken m f right k = finite.get-insert nat_cmp_total m f right k ∙ ap (λ b. cond b (Some right) (finite.get m k)) (unsigned_tied k f)

-- who takes a right takes it in its own view
pub seen-taken : (e : ℕ) (t : Transaction) (right : Rights) → seen_by e (holding t e right) ≡ holding (seen_by e t) e right
seen-taken e t right =
    λ i. record t {
      held = (elim (t.sender == e) as (λ b. cond b (finite.insert t.held e right) (finite.retain_keys (finite.insert t.held e right) (λ g. g == e)) ≡ finite.insert (cond b t.held (finite.retain_keys t.held (λ g. g == e))) e right) [
        | true ↦ refl
        | false ↦ same-holders _ _ commutes
      ]) i;
    }
  where
    commutes : (k : ℕ) → finite.get (finite.retain_keys (finite.insert t.held e right) (λ g. g == e)) k ≡ finite.get (finite.insert (finite.retain_keys t.held (λ g. g == e)) e right) k
    commutes k =
        get-own e (finite.insert t.held e right) k
        ∙ ap (λ o. cond (k == e) o None) (get-taken t.held e right k)
        ∙ both (k == e)
        ∙ sym (get-taken (finite.retain_keys t.held (λ g. g == e)) e right k ∙ ap (λ o. cond (k == e) (Some right) o) (get-own e t.held k))
      where
        both : (b : Bool) → cond b (cond b (Some right) (finite.get t.held k)) None ≡ cond b (Some right) (cond b (finite.get t.held k) None)
        both true = refl
        both false = refl

-- what is given up is given up in a view
pub seen-released : (e f : ℕ) (t : Transaction) → seen_by e (not_holding t f) ≡ not_holding (seen_by e t) f
seen-released e f t =
    λ i. record t {
      held = (elim (t.sender == e) as (λ b. cond b (finite.remove t.held f) (finite.retain_keys (finite.remove t.held f) (λ g. g == e)) ≡ finite.remove (cond b t.held (finite.retain_keys t.held (λ g. g == e))) f) [
        | true ↦ refl
        | false ↦ same-holders _ _ commutes
      ]) i;
    }
  where
    commutes : (k : ℕ) → finite.get (finite.retain_keys (finite.remove t.held f) (λ g. g == e)) k ≡ finite.get (finite.remove (finite.retain_keys t.held (λ g. g == e)) f) k
    commutes k =
        get-own e (finite.remove t.held f) k
        ∙ ap (λ o. cond (k == e) o None) (get-left t.held f k)
        ∙ both (k == e) (k == f)
        ∙ sym (get-left (finite.retain_keys t.held (λ g. g == e)) f k ∙ ap (λ o. cond (k == f) None o) (get-own e t.held k))
      where
        both : (a b : Bool) → cond a (cond b None (finite.get t.held k)) None ≡ cond b None (cond a (finite.get t.held k) None)
        both true b = refl
        both false true = refl
        both false false = refl

-- who isn't the sender, and holds what it held, sees the holders as before
pub seen-unheld : (e : ℕ) (t : Transaction) (held : Holders) → (t.sender == e) ≡ false → finite.get held e ≡ held_by t e → seen_by e (record t { held = held }) ≡ seen_by e t
seen-unheld e t held other same = λ i. record t { held = hidden i }
  where
    own : (k : ℕ) (b : Bool) → (k == e) ≡ b → cond b (finite.get held k) None ≡ cond b (finite.get t.held k) None
    own k true at = let is = eqb-true k e at in ap (finite.get held) is ∙ same ∙ sym (ap (finite.get t.held) is)
    own k false differ = refl

    hidden : cond (t.sender == e) held (finite.retain_keys held (λ f. f == e)) ≡ cond (t.sender == e) t.held (finite.retain_keys t.held (λ f. f == e))
    hidden =
        ap (λ b. cond b held (finite.retain_keys held (λ f. f == e))) other
        ∙ same-holders _ _ (λ k. get-own e held k ∙ own k (k == e) refl ∙ sym (get-own e t.held k))
        ∙ sym (ap (λ b. cond b t.held (finite.retain_keys t.held (λ f. f == e))) other)

module _ (s : State) (steady : IsSteady s) (h : ℕ) (t : Transaction) (there : transaction_of s h ≡ Some t) (held : Holders) where
  abbrev changed : Transaction
  changed = record t { held = held }

  abbrev after : State
  after = reheld s h t held

  -- what doesn't ask for the holders is as it was
  as-before : {X : Type 0} (ask : Option Transaction → X) → ask (Some changed) ≡ ask (Some t) → (k : ℕ) → ask (transaction_of after k) ≡ ask (transaction_of s k)
  as-before ask same k =
      ap ask (get-insert s.transactions h changed k)
      ∙ elim (k == h) as (λ b. (k == h) ≡ b → ask (cond b (Some changed) (transaction_of s k)) ≡ ask (transaction_of s k)) [
        | true ↦ λ it. same ∙ sym (ap ask (ap (transaction_of s) (eqb-true k h it) ∙ there))
        | false ↦ λ other. refl
      ] refl

  naming-reheld : (p k : ℕ) → is_naming s p (transaction_of after k) ≡ is_naming s p (transaction_of s k)
  naming-reheld p k = as-before (is_naming s p) refl k

  pub handle_at-reheld : (p : ℕ) → handle_at after p ≡ handle_at s p
  handle_at-reheld p = go (handle_at s p) refl
    where
      go : (o : Option ℕ) → handle_at s p ≡ o → handle_at after p ≡ o
      go None is = first_no (is_naming s p) after.transactions (λ k. naming-reheld p k ∙ first_none (is_naming s p) s.transactions refl is k)
      go (Some k) is =
          let here : is_naming s p (transaction_of s k) ≡ true = first_some (is_naming s p) s.transactions k is in
          first_one (is_naming s p) after.transactions refl k (naming-reheld p k ∙ here) (λ j now. steady.one p j k (sym (naming-reheld p j) ∙ now) here)

  pub near-reheld : (e p : ℕ) → is_near e after p ≡ is_near e s p
  near-reheld e p =
      ap (λ o. owner_of s p == e || involves e (option_and_then (transaction_of after) o)) (handle_at-reheld p)
      ∙ ap (λ b. owner_of s p == e || b)
      (elim (handle_at s p) as (λ o. involves e (option_and_then (transaction_of after) o) ≡ involves e (option_and_then (transaction_of s) o)) [ None ↦ refl | Some k ↦ as-before (involves e) refl k ])

  pages-reheld : (e : ℕ) → (view e after).pages ≡ (view e s).pages
  pages-reheld e = ap (λ (near : ℕ → Bool). map_at (λ p page. kept (near p) page) s.pages) (fun_ext (near-reheld e))

  -- who knows the transaction sees its holders so
  pub view-reheld : (e : ℕ) (seen : Transaction) → involves e (Some t) ≡ true → seen_by e changed ≡ seen
      → view e after ≡ record (view e s) { transactions = finite.insert (transactions_of e s) h seen }
  view-reheld e seen known is = λ i. record (view e s) { pages = pages-reheld e i; transactions = transactions i }
    where
      transactions : transactions_of e after ≡ finite.insert (transactions_of e s) h seen
      transactions = same_transactions _ _ (λ k.
          view-transaction e after k ∙ ap (shown e) (get-insert s.transactions h changed k)
          ∙ elim (k == h) as (λ b. shown e (cond b (Some changed) (transaction_of s k)) ≡ cond b (Some seen) (finite.get (transactions_of e s) k)) [
            | true ↦ ap (λ b. option_map (seen_by e) (kept b (Some changed))) known ∙ ap Some is
            | false ↦ sym (view-transaction e s k)
          ]
          ∙ sym (get-insert (transactions_of e s) h seen k))

  -- who sees no change of them sees nothing
  pub view-untold : (e : ℕ) → seen_by e changed ≡ seen_by e t → view e after ≡ view e s
  view-untold e same = λ i. record (view e s) { pages = pages-reheld e i; transactions = transactions i }
    where
      transactions : transactions_of e after ≡ transactions_of e s
      transactions = same_transactions _ _ (λ k.
          view-transaction e after k
          ∙ as-before (shown e) (elim (involves e (Some t)) as (λ b. option_map (seen_by e) (kept b (Some changed)) ≡ option_map (seen_by e) (kept b (Some t))) [ true ↦ ap Some same | false ↦ refl ]) k
          ∙ sym (view-transaction e s k))

  -- ---- steadiness
  module _ (receivers : (e : ℕ) (right : Rights) → finite.get held e ≡ Some right → is_receiver e t ≡ true)
      (rights : (p e : ℕ) (right : Rights) → names s t.ranges p ≡ true → finite.get held e ≡ Some right → is_within (Some right) (own_right_of s p) ≡ true) where
    good : IsSteadyTransaction s t
    good = steady.transactions h t there

    joint : (e f : ℕ) → e ≢ f → is_receiver e t ≡ true → is_receiver f t ≡ true → (kind : Kind) → t.kind ≡ kind → is_joint t ≡ true
    joint e f differ of_e of_f Share is = ap (λ k. is_share k || (is_lend k && nat_le 2 (length t.receivers))) is
    joint e f differ of_e of_f Lend is =
        ap (λ k. is_share k || (is_lend k && nat_le 2 (length t.receivers))) is ∙ le-leb 2 (length t.receivers) (two-receivers t.receivers e f differ of_e of_f)
    joint e f differ of_e of_f Donate is = absurd (differ (good.taker e f is of_e of_f))

    itself : IsSteadyTransaction after changed
    itself =
        record {
          owned = good.owned;
          receiver = receivers;
          within = rights;
          alone = λ e f one other differ of_e of_f. joint e f differ (receivers e one of_e) (receivers f other of_f) t.kind refl;
          ceilings = λ p e named. subst (λ (most : Rights). is_within (Some most) (own_right_of s p) ≡ true) (sym (ceiling-held (ownership_of s) t held e)) (good.ceilings p e named);
          taker = good.taker;
        }

    each : (k : ℕ) (u : Transaction) → transaction_of after k ≡ Some u → IsSteadyTransaction after u
    each k u is =
        elim (k == h) as (λ b. cond b (Some changed) (transaction_of s k) ≡ Some u → IsSteadyTransaction after u) [
          | true ↦ λ its. subst (IsSteadyTransaction after) (same_Some changed u its) itself
          | false ↦ λ old. (let was = steady.transactions k u old in record { owned = was.owned; receiver = was.receiver; within = was.within; alone = was.alone; ceilings = was.ceilings; taker = was.taker })
        ] (sym (get-insert s.transactions h changed k) ∙ is)

    pub steady-reheld : IsSteady after
    steady-reheld =
        record {
          some = steady.some;
          few = steady.few;
          each = steady.each;
          runner = steady.runner;
          requesters = steady.requesters;
          one = λ p i k at_i at_k. steady.one p i k (sym (naming-reheld p i) ∙ at_i) (sym (naming-reheld p k) ∙ at_k);
          transactions = each;
          sends = steady.sends;
          numbers = numbered;
          buffers = λ e b known is.
              let own = steady.buffers e b known is in
              record {
                tx = λ q its. record { owner = (own.tx q its).owner; unnamed = handle_at-reheld q ∙ (own.tx q its).unnamed };
                rx = λ q its. record { owner = (own.rx q its).owner; unnamed = handle_at-reheld q ∙ (own.rx q its).unnamed };
              };
          bound = steady.bound;
        }
      where
        numbered : (k : ℕ) (u : Transaction) → transaction_of after k ≡ Some u → (n : ℕ) × (k ≡ handle_of u.sender n) × (n ≤ sent_by s u.sender) × (n ≤ most_sends s.ffa)
        numbered k u is =
            elim (k == h) as (λ b. (k == h) ≡ b → cond b (Some changed) (transaction_of s k) ≡ Some u → (n : ℕ) × (k ≡ handle_of u.sender n) × (n ≤ sent_by s u.sender) × (n ≤ most_sends s.ffa)) [
              | true ↦ λ same its.
                  subst (λ f. (n : ℕ) × (k ≡ handle_of f n) × (n ≤ sent_by s f) × (n ≤ most_sends s.ffa)) (ap (λ (v : Transaction). v.sender) (same_Some changed u its))
                  (steady.numbers k t (ap (transaction_of s) (eqb-true k h same) ∙ there))
              | false ↦ λ other old. steady.numbers k u old
            ] refl (sym (get-insert s.transactions h changed k) ∙ is)
