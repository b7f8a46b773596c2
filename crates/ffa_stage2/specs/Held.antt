-- SPDX-License-Identifier: MIT OR Apache-2.0
-- What a translation unit may hold for a page: the answer of any walk since the page was last settled, each in a mixture of its
-- own time (DDI 0487, C5.5, TLBI IPAS2E1IS and TLBI VMALLE1IS).
use Rattle.std.specs.Prelude.{◌≡◌, true, ℕ, ◌+◌, ◌*◌, ◌^◌, ◌<◌, ◌⊎◌, is_ok, List, [], ◌∷◌, Err}
use Rattle.ffa_model.specs.Ram.{Ram, page_of}
use Rattle.ffa_model.specs.Walk.{Answer}
use Rattle.ffa_model.specs.declared.operation.FaultKind.TheVariants.{Translation}
use Rattle.ffa_physmem.specs.Moments.{Settles, Step}
use Rattle.ffa_stage2.specs.Mixtures.{IsMixture, page_at}
use Rattle.ffa_stage2.specs.Moments.{WalksSameIn, walk_at}
use Rattle.ffa_stage2.specs.Tables.{IsAside}

-- the answer of a walk in a mixture now
abbrev pub IsMixedAnswer : ℕ → ℕ → ℕ → ℕ → ℕ → List Step → Ram → Answer → Type 0
IsMixedAnswer tables blocks e p address h ram answer =
    (mixed : Ram) × IsMixture tables blocks e p h ram mixed × (answer ≡ walk_at mixed tables blocks e address)

-- An answer that it may give at an address of page p for an endpoint: such a one now; or one that it might hold before the last step,
-- unless that settled the page.
abbrev pub MayHold : ℕ → ℕ → ℕ → ℕ → ℕ → List Step → Ram → Answer → Type 0
MayHold tables blocks e p address [] ram answer = IsMixedAnswer tables blocks e p address [] ram answer
MayHold tables blocks e p address (s ∷ earlier) ram answer =
    IsMixedAnswer tables blocks e p address (s ∷ earlier) ram answer
    ⊎ ((Settles e p s → ⊥) × MayHold tables blocks e p address earlier s.before answer)

-- all that a translation unit may hold for an endpoint at the addresses of page p is a translation fault
abbrev pub HoldsNothing : ℕ → ℕ → ℕ → ℕ → ℕ → List Step → Ram → Type 0
HoldsNothing base tables blocks e p h ram =
    (i : ℕ) (answer : Answer) → i < 4096 → MayHold tables blocks e p (base + 4096 * p + i) h ram answer
    → answer ≡ Err Translation

-- A page that is none of a table's changes at a step only while no translation unit may hold a way there for any endpoint, but for one
-- whose walk leads there both before the operation and behind it.
abbrev pub WritesUnheld : Ram → Ram → ℕ → ℕ → ℕ → List Step → Step → Type 0
WritesUnheld old new endpoints tables blocks h s =
    (p : ℕ) → IsAside endpoints tables blocks p → p < 512 * blocks
    → (page_of s.after p ≡ page_of s.before p)
    ⊎ ((e : ℕ) → e < endpoints
    → HoldsNothing old.base tables blocks e p h s.before
    ⊎ ((is_ok (walk_at old tables blocks e (old.base + 4096 * p)) ≡ true)
    × (is_ok (walk_at new tables blocks e (old.base + 4096 * p)) ≡ true)))

-- Who is undisturbed at a step of an operation: an endpoint whose walks to the pages of a block give the same before the operation and
-- behind it. The step changes no walk of it into the block. What a translation unit may hold for it there behind the step, it might
-- hold before the step; so it is of what a walk in a mixture gives.
pub record IsUnshaken (old new : Ram) (endpoints tables blocks : ℕ) (h : List Step) (s : Step) : Type 0 where
  pub walks :
      (e k j i : ℕ) → e < endpoints → k < blocks → j < 512 → i < 4096 → WalksSameIn old new tables blocks e k
      → walk_at s.after tables blocks e (old.base + 4096 * (512 * k + j) + i)
      ≡ walk_at s.before tables blocks e (old.base + 4096 * (512 * k + j) + i)
  pub held :
      (e k j i : ℕ) (answer : Answer) → e < endpoints → k < blocks → j < 512 → i < 4096 → WalksSameIn old new tables blocks e k
      → MayHold tables blocks e (512 * k + j) (old.base + 4096 * (512 * k + j) + i) (s ∷ h) s.after answer
      → MayHold tables blocks e (512 * k + j) (old.base + 4096 * (512 * k + j) + i) h s.before answer

-- each endpoint is answered what its walk gives in a RAM, or a translation fault
abbrev pub AnswersAlike : (ℕ → Answer) → Ram → ℕ → ℕ → ℕ → ℕ → Type 0
AnswersAlike answer ram endpoints tables blocks address =
    (e : ℕ) → e < endpoints → (answer e ≡ walk_at ram tables blocks e address) ⊎ (answer e ≡ Err Translation)

-- At every address, whatever answer a translation unit may hold for each endpoint, all are what walks give in the one RAM or a
-- translation fault, or all are what they give in the other or a translation fault.
abbrev pub HeldBetween : Ram → Ram → ℕ → ℕ → ℕ → List Step → Ram → Type 0
HeldBetween old new endpoints tables blocks h ram =
    (address : ℕ) (answer : ℕ → Answer) → address < 2 ^ 32
    → ((e : ℕ) → e < endpoints → MayHold tables blocks e (page_at ram address) address h ram (answer e))
    → AnswersAlike answer old endpoints tables blocks address ⊎ AnswersAlike answer new endpoints tables blocks address
