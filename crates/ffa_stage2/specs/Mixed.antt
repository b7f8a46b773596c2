-- SPDX-License-Identifier: MIT OR Apache-2.0
-- FOR PROOFS ALONE
-- What walks in mixtures give on the way from one RAM to another, and what else holds there at each step.
use Rattle.std.specs.Prelude.{◌≡◌, true, ℕ, ◌^◌, ◌<◌, ◌⊎◌, is_ok, List, ◌∷◌, Err}
use Rattle.ffa_model.specs.Ram.{Ram}
use Rattle.ffa_model.specs.declared.operation.FaultKind.TheVariants.{Translation}
use Rattle.ffa_physmem.specs.Moments.{Only, Past, Step}
use Rattle.ffa_stage2.specs.Held.{IsUnshaken, WritesUnheld}
use Rattle.ffa_stage2.specs.Mixtures.{IsMixture, page_at}
use Rattle.ffa_stage2.specs.Moments.{walk_at}
use Rattle.ffa_stage2.specs.Rest.{RestIn}

-- of one endpoint: at every address and in each mixture for its page, the walk gives what it gives in the one RAM, or what it
-- gives in the other, or a translation fault
abbrev pub MixedBetween : Ram → Ram → ℕ → ℕ → ℕ → List Step → Ram → Type 0
MixedBetween old new endpoints tables blocks h ram =
    (e address : ℕ) (mixed : Ram) → e < endpoints → address < 2 ^ 32
    → IsMixture tables blocks e (page_at ram address) h ram mixed
    → (walk_at mixed tables blocks e address ≡ walk_at old tables blocks e address)
    ⊎ ((walk_at mixed tables blocks e address ≡ walk_at new tables blocks e address)
    ⊎ (walk_at mixed tables blocks e address ≡ Err Translation))

-- each endpoint's walk, in a mixture of its own, gives what it gives in another RAM, or a translation fault
abbrev pub MixedAlike : (ℕ → Ram) → Ram → ℕ → ℕ → ℕ → ℕ → Type 0
MixedAlike mixed other endpoints tables blocks address =
    (e : ℕ) → e < endpoints
    → (walk_at (mixed e) tables blocks e address ≡ walk_at other tables blocks e address)
    ⊎ (walk_at (mixed e) tables blocks e address ≡ Err Translation)

-- Of all endpoints at once: at every address, and in any mixtures for its page, the walks of all give what they give in the one
-- RAM or a translation fault, or all give what they give in the other or a translation fault.
abbrev pub MixturesBetween : Ram → Ram → ℕ → ℕ → ℕ → List Step → Ram → Type 0
MixturesBetween old new endpoints tables blocks h ram =
    (address : ℕ) (mixed : ℕ → Ram) → address < 2 ^ 32
    → ((e : ℕ) → e < endpoints → IsMixture tables blocks e (page_at ram address) h ram (mixed e))
    → MixedAlike mixed old endpoints tables blocks address ⊎ MixedAlike mixed new endpoints tables blocks address

-- where the tables were at rest: at each step, the walks of all endpoints in mixtures give what they gave before all steps, or
-- what they give behind all, or a translation fault
abbrev pub WalksMixed : Ram → Ram → ℕ → ℕ → ℕ → Past → Past → Type 0
WalksMixed old new endpoints tables blocks past later =
    RestIn old endpoints tables blocks past → Only past later (λ h s. MixturesBetween old new endpoints tables blocks (s ∷ h) s.after)

-- where an endpoint's walk leads somewhere in both of two RAMs, it gives the same in both
abbrev pub WalksSameOrNone : Ram → Ram → ℕ → ℕ → ℕ → Type 0
WalksSameOrNone old new endpoints tables blocks =
    (e address : ℕ) → e < endpoints → address < 2 ^ 32 → is_ok (walk_at old tables blocks e address) ≡ true
    → is_ok (walk_at new tables blocks e address) ≡ true
    → walk_at new tables blocks e address ≡ walk_at old tables blocks e address

-- The same of each endpoint for itself. No step disturbs an endpoint in a block to which its accesses stay. Pages but those of tables
-- change only while no translation unit may hold a way there. And the tables are at rest again, where nobody got another right in the
-- place of one.
pub record AreMixed (old new : Ram) (endpoints tables blocks : ℕ) (past later : Past) : Type 0 where
  pub each :
      RestIn old endpoints tables blocks past → Only past later (λ h s. MixedBetween old new endpoints tables blocks (s ∷ h) s.after)
  pub unheld :
      RestIn old endpoints tables blocks past → Only past later (λ h s. WritesUnheld old new endpoints tables blocks h s)
  pub unshaken :
      RestIn old endpoints tables blocks past → Only past later (λ h s. IsUnshaken old new endpoints tables blocks h s)
  pub rest :
      RestIn old endpoints tables blocks past → WalksSameOrNone old new endpoints tables blocks → RestIn new endpoints tables blocks later
