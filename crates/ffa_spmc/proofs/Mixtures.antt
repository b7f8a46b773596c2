-- SPDX-License-Identifier: MIT OR Apache-2.0
-- What an operation changes of the walks, and so of those in mixtures.
use Rattle.std.proofs.Common.{◌≡◌, ◌≢◌, ◌∙◌, ℕ, zero, suc, ◌-◌, ◌/◌, ◌^◌, ◌<◌, true, refl, ap, sym, subst, arith, List, ◌∷◌, length, Option, Some, None, inl, inr}
use Rattle.std.specs.Prelude.{nat_le, nat_lt, ◌&&◌, if◌then◌else◌, is_ok}
use Rattle.std.specs.Option.{option_and_then}
use Rattle.std.proofs.lemmas.Bool.{cases_eq, false≢true}
use Rattle.ffa_model.specs.declared.operation.Op.{Op}
use Rattle.ffa_model.specs.declared.rights.Rights.{Rights}
use Rattle.ffa_model.specs.Access.{access}
use Rattle.ffa_model.specs.Agreement.{blocks_of}
use Rattle.ffa_model.specs.Identifiers.{identifier, place}
use Rattle.ffa_model.specs.Memory.{access_at, page_of_address}
use Rattle.ffa_model.specs.State.{Party, State}
use Rattle.ffa_model.specs.Step.{step}
use Rattle.ffa_model.specs.Walk.{mapped_answer}
use Rattle.ffa_laws.specs.Moves.{by_runner}
use Rattle.ffa_laws.specs.OwnAccess.{IsSameOrNone, OwnAccess}
use Rattle.ffa_laws.proofs.Kept.{step-fixed}
use Rattle.ffa_physmem.specs.Moments.{Only}
use Rattle.ffa_physmem.proofs.Moments.{Only-map}
use Rattle.ffa_stage2.specs.Held.{HeldBetween}
use Rattle.ffa_stage2.specs.Mixed.{WalksSameOrNone}
use Rattle.ffa_stage2.specs.Moments.{walk_at}
use Rattle.ffa_stage2.specs.Rest.{RestIn}
use Rattle.ffa_stage2.proofs.Amid.{held-between}
use Rattle.ffa_stage2.proofs.Mixtures.{OneDiffers, mixtures-between}
use Rattle.ffa_stage2.proofs.Rest.{Only-turn}
use Rattle.ffa_spmc.specs.Machines.{IsManaged}
use Rattle.ffa_spmc.specs.Managed.{Managed}
use Rattle.ffa_spmc.specs.Mixtures.{StayMixed, TablesRest}
use Rattle.ffa_spmc.specs.Moments.{AreMoments, IsMixed}
use Rattle.ffa_spmc.proofs.Amid.{seen, stays-amid}
use Rattle.ffa_spmc.proofs.Besides.{placement}
use Rattle.ffa_spmc.proofs.Sizes.{pages-step}

-- who isn't at the place of an identifier has another one
far-id : (e r : ℕ) → (e ≡ place r → ⊥) → r ≢ identifier e
far-id zero r far same = far (omega (arith, same))
far-id (suc i) r far same = far (omega (arith, same))

at-none : (r : Option Rights) (a : ℕ) → r ≡ None → is_ok (mapped_answer r a) ≡ true → ⊥
unfolding mapped_answer
at-none r a none ok = false≢true (sym (ap (λ (q : Option Rights). is_ok (mapped_answer q a)) none) ∙ ok)

and-then-same : (f g : ℕ → Option Rights) → ((p : ℕ) → f p ≡ g p) → (o : Option ℕ) → option_and_then f o ≡ option_and_then g o
and-then-same f g same None = refl
and-then-same f g same (Some p) = same p

and-then-kept : (f g : ℕ → Option Rights) → ((p : ℕ) → IsSameOrNone (f p) (g p)) → (o : Option ℕ) → IsSameOrNone (option_and_then f o) (option_and_then g o)
and-then-kept f g same None = inl refl
and-then-kept f g same (Some p) = same p

module _ (m n : Managed) (was : IsManaged m) (is : IsManaged n) (parties : length n.state.parties ≡ length m.state.parties) (placed : placement n.state ≡ placement m.state)
    (size : length n.state.pages ≡ length m.state.pages) (r : ℕ) (others : (e p : ℕ) → r ≢ e → access n.state e p ≡ access m.state e p)
    (keeps : (p : ℕ) → IsSameOrNone (access m.state r p) (access n.state r p)) where
  base : n.state.ram_base ≡ m.state.ram_base
  base = ap (λ (at : ℕ × ℕ). at.0) placed

  stand : n.state.tables ≡ m.state.tables
  stand = ap (λ (at : ℕ × ℕ). at.1) placed

  before : (e a : ℕ) → e < length m.state.parties → a < 2 ^ 32 → walk_at m.ram m.state.tables (blocks_of m.state) e a ≡ mapped_answer (access_at m.state (identifier e) a) a
  before e a he ha = seen m.state m.ram m.state.tables (blocks_of m.state) e a was.agrees refl refl he ha

  behind : (e a : ℕ) → e < length m.state.parties → a < 2 ^ 32 → walk_at n.ram m.state.tables (blocks_of m.state) e a ≡ mapped_answer (option_and_then (access n.state (identifier e)) (page_of_address m.state a)) a
  behind e a he ha =
      seen n.state n.ram m.state.tables (blocks_of m.state) e a is.agrees stand (ap (λ (n : ℕ). n / 512) size) (subst (λ (n : ℕ). e < n) (sym parties) he) ha
      ∙ ap (λ (c : ℕ). mapped_answer (option_and_then (access n.state (identifier e)) (if nat_le c a && nat_lt a (2 ^ 32) then Some ((a - c) / 4096) else None)) a) base

  one-differs : OneDiffers m.ram n.ram (length m.state.parties) m.state.tables (blocks_of m.state)
  one-differs = (
    place r,
    λ e a he ha far.
        behind e a he ha
        ∙ ap (λ (o : Option Rights). mapped_answer o a) (and-then-same (access n.state (identifier e)) (access m.state (identifier e)) (λ p. others (identifier e) p (far-id e r far)) (page_of_address m.state a))
        ∙ sym (before e a he ha),
  )

  each-keeps : (e p : ℕ) → IsSameOrNone (access m.state e p) (access n.state e p)
  each-keeps e p = elim (cases_eq r e) [
    | inl same ↦ subst (λ (f : ℕ). IsSameOrNone (access m.state f p) (access n.state f p)) same (keeps p)
    | inr far ↦ inr (inr (others e p far))
  ]

  is-steady : WalksSameOrNone m.ram n.ram (length m.state.parties) m.state.tables (blocks_of m.state)
  is-steady e a he ha ok ok' = elim (and-then-kept (access m.state (identifier e)) (access n.state (identifier e)) (each-keeps (identifier e)) (page_of_address m.state a)) [
    | inl none ↦ absurd (at-none _ a none (ap is_ok (sym (behind e a he ha)) ∙ ok'))
    | inr (inl none) ↦ absurd (at-none _ a none (ap is_ok (sym (before e a he ha)) ∙ ok))
    | inr (inr same) ↦ behind e a he ha ∙ ap (λ (o : Option Rights). mapped_answer o a) same ∙ sym (before e a he ha)
  ]

  all-held : AreMoments m.state m.ram n.ram m.past n.past → TablesRest m.state m.ram m.past
      → Only m.past n.past (λ h step. HeldBetween m.ram n.ram (length m.state.parties) m.state.tables (blocks_of m.state) (step ∷ h) step.after)
  unfolding IsMixed TablesRest
  all-held moments rest = Only-map (Only-turn n.ram is.turn (moments.mixtures.each rest)) (λ h step its.
      let (turn, between) = its in
      held-between m.ram n.ram step.after (length m.state.parties) m.state.tables (blocks_of m.state) (step ∷ h) turn
      (mixtures-between m.ram n.ram step.after (length m.state.parties) m.state.tables (blocks_of m.state) (step ∷ h) one-differs between))

  -- So it is while the operation is done, and behind it the tables are at rest by either state.
  pub mixed : AreMoments m.state m.ram n.ram m.past n.past → TablesRest m.state m.ram m.past
      → StayMixed m.state m.ram n.ram m.past n.past × TablesRest n.state n.ram n.past
  unfolding StayMixed IsMixed TablesRest
  mixed moments rest =
      let still = moments.mixtures.rest rest is-steady in (
        record {
          unheld = moments.mixtures.unheld rest;
          unshaken = moments.mixtures.unshaken rest;
          rest = still;
          amid =
              stays-amid m.state n.state m.ram n.ram was.agrees is.agrees parties placed size was.sound was.tables is.tables m.past n.past is.turn rest still
              (moments.mixtures.each rest) (all-held moments rest);
        },
        subst (λ (n' : ℕ). RestIn n.ram n' n.state.tables (blocks_of n.state) n.past) (sym parties)
            (subst (λ (k : ℕ). RestIn n.ram (length m.state.parties) k (blocks_of n.state) n.past) (sym stand)
            (subst (λ (k : ℕ). RestIn n.ram (length m.state.parties) m.state.tables (k / 512) n.past) (sym size) still)),
      )

-- where access is the same
pub mixed-alike : (m n : Managed) → IsManaged m → IsManaged n → length n.state.parties ≡ length m.state.parties → placement n.state ≡ placement m.state
    → length n.state.pages ≡ length m.state.pages → ((e p : ℕ) → access n.state e p ≡ access m.state e p)
    → AreMoments m.state m.ram n.ram m.past n.past → TablesRest m.state m.ram m.past → StayMixed m.state m.ram n.ram m.past n.past × TablesRest n.state n.ram n.past
mixed-alike m n was is parties placed size same = mixed m n was is parties placed size 0 (λ e p _. same e p) (λ p. inr (inr (same 0 p)))

-- of an operation
pub op-mixed : (m n : Managed) (op : Op) → IsManaged m → IsManaged n → n.state ≡ (step m.state op).state → OwnAccess (by_runner op) m.state
    → AreMoments m.state m.ram n.ram m.past n.past → TablesRest m.state m.ram m.past → StayMixed m.state m.ram n.ram m.past n.past × TablesRest n.state n.ram n.past
op-mixed m n op was is state own =
    mixed m n was is
    (ap (λ (s : State). length s.parties) state ∙ ap (λ (f : List Party × (ℕ × ℕ)). length f.0) (step-fixed m.state op))
    (ap placement state ∙ ap (λ (f : List Party × (ℕ × ℕ)). f.1) (step-fixed m.state op))
    (ap (λ (s : State). length s.pages) state ∙ pages-step m.state op) m.state.runner
    (λ e p far. ap (λ (s : State). access s e p) state ∙ own.others e p far)
    (λ p. subst (λ (s : State). IsSameOrNone (access m.state m.state.runner p) (access s m.state.runner p)) (sym state) (own.keeps p))
