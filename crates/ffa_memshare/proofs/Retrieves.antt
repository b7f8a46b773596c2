-- SPDX-License-Identifier: MIT OR Apache-2.0
-- What an endpoint has taken.
use Rattle.std.proofs.Common.{◌≡◌, ◌⊎◌, Bool, Option, ℕ, suc, ◌+◌, ◌*◌, ◌^◌, ◌<◌, ◌≤◌, List, [], ◌∷◌, length, Some, refl, arith, inl, inr}
use Rattle.std.proofs.lemmas.List.Sums.{sum_by-cons}
use Rattle.ffa_model.specs.declared.limits.TheConstants.{MOST_BLOCKS, MOST_PAGES, MOST_RANGES}
use Rattle.ffa_model.specs.declared.endpoint.EndpointId.{EndpointId}
use Rattle.ffa_model.specs.declared.rights.Kind.{Kind}
use Rattle.ffa_model.specs.declared.rights.Kind.TheVariants.{Share, Lend, Donate}
use Rattle.ffa_model.specs.declared.rights.Rights.{Rights}
use Rattle.ffa_model.specs.declared.transaction.Range.{Range}
use Rattle.ffa_model.specs.MemoryRetrieve.{taken_in}
use Rattle.ffa_model.specs.SendDescriptor.{page_total}
use Rattle.ffa_model.specs.State.{Transaction}
use Rattle.ffa_model.specs.Transactions.{OpenTransactions, holding, with_transaction}
use Rattle.ffa_pages.specs.Entry.{Entry}
use Rattle.ffa_memshare.specs.Ranges.{ArePlaced, IsPlaced}
use Rattle.ffa_memshare.specs.Retrieved.{IsPassedOn, IsTaken}
use Rattle.ffa_memshare.specs.SlotChanges.{IsHeldBy}
use Rattle.ffa_memshare.specs.Stored.{Pooled}

not-donate : {P : Type 0} → ((Donate ≡ Share) ⊎ (Donate ≡ Lend)) → P
not-donate (inl is) = cc
not-donate (inr is) = cc

-- what is held is taken, where it is no donate
pub held-taken : (kind : Kind) → ((kind ≡ Share) ⊎ (kind ≡ Lend)) → (old new : Pooled) (h e : ℕ) (right : Rights) → IsHeldBy old new h e (Some right) → IsTaken kind old new h e right
held-taken Share kinds old new h e right held = held
held-taken Lend kinds old new h e right held = held
held-taken Donate kinds old new h e right held = not-donate kinds

pub taken-open : (kind : Kind) → ((kind ≡ Share) ⊎ (kind ≡ Lend)) → (o : OpenTransactions) (h : ℕ) (t : Transaction) (e : ℕ) (right : Rights)
    → with_transaction o h (holding t e right) ≡ taken_in kind o h t e right
taken-open Share kinds o h t e right = refl
taken-open Lend kinds o h t e right = refl
taken-open Donate kinds o h t e right = not-donate kinds

-- and its pages stay whose they were
pub kept-passed : (kind : Kind) → ((kind ≡ Share) ⊎ (kind ≡ Lend)) → (table : List (Option Entry)) (named : ℕ → Bool) (e : EndpointId) (right : Rights) → IsPassedOn kind table table named e right
kept-passed Share kinds table named e right = refl
kept-passed Lend kinds table named e right = refl
kept-passed Donate kinds table named e right = not-donate kinds

-- the pages of ranges in RAM are few
placed-total : (base blocks : ℕ) (ranges : List Range) → blocks ≤ MOST_BLOCKS → ArePlaced base (512 * blocks) ranges → page_total ranges ≤ MOST_PAGES * length ranges
placed-total base blocks [] few placed = omega arith
placed-total base blocks (range ∷ ranges) few placed =
    let one : IsPlaced base (512 * blocks) range = placed 0 range (omega arith) refl in
    let rest = placed-total base blocks ranges few (λ i r lt is. placed (suc i) r (omega arith) is) in
    let step : page_total (range ∷ ranges) ≡ range.pages + page_total ranges = sum_by-cons (λ (r : Range). r.pages) range ranges in
    let pages : range.pages ≤ MOST_PAGES = omega (arith, one.within, few) in
    omega (arith, step, pages, rest)

pub few-pages : (base blocks : ℕ) (ranges : List Range) → blocks ≤ MOST_BLOCKS → length ranges ≤ MOST_RANGES → ArePlaced base (512 * blocks) ranges → page_total ranges < 2 ^ 32
few-pages base blocks ranges few most placed = let total = placed-total base blocks ranges few placed in omega (arith, total)
