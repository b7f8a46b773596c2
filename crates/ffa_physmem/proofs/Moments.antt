-- SPDX-License-Identifier: MIT OR Apache-2.0
-- Steps that follow one another.
use Rattle.std.proofs.Common.{◌≡◌, ◌∙◌, arith, if◌then◌else◌, ◌<◌, ◌≤◌, ℕ, Bool, true, false, List, [], ◌∷◌, length, Option, Some, refl, sym, ap, subst, inl, inr, get_or-set_other, length-set}
use Rattle.std.proofs.lemmas.Bool.{cases_Bool, false≢true}
use Rattle.ffa_model.specs.Lists.{is_in_run}
use Rattle.ffa_model.specs.Ram.{Ram, page_of, with_page}
use Rattle.ffa_physmem.specs.Moments.{Past, Step, IsInLoan, IsBeside, IsWriting, IsSettling, IsSettledBy, KeepsPages, Adds, One, Only, HasNoCopies, is_copied, memory_of, with_beneath}
use Rattle.ffa_model.proofs.Runs.{in-run}

-- nothing was added
pub Adds-none : (old : Option (List Step)) (P : List Step → Step → Type 0) (h : List Step) → old ≡ Some h → Adds old P h
Adds-none old P [] there = there
Adds-none old P (s ∷ h) there = inl there

-- what holds of each step implies something else
Adds-map : (old : Option (List Step)) (P Q : List Step → Step → Type 0) → ((h : List Step) (s : Step) → P h s → Q h s)
    → (h : List Step) → Adds old P h → Adds old Q h
Adds-map old P Q implies [] there = there
Adds-map old P Q implies (s ∷ h) (inl there) = inl there
Adds-map old P Q implies (s ∷ h) (inr (its, rest)) = inr (implies h s its, Adds-map old P Q implies h rest)

-- steps behind steps
Adds-join : (old middle : Option (List Step)) (P Q : List Step → Step → Type 0) → ((h : List Step) → middle ≡ Some h → Adds old P h)
    → ((h : List Step) (s : Step) → Q h s → P h s) → (h : List Step) → Adds middle Q h → Adds old P h
Adds-join old middle P Q first implies [] there = first [] there
Adds-join old middle P Q first implies (s ∷ h) (inl there) = first (s ∷ h) there
Adds-join old middle P Q first implies (s ∷ h) (inr (its, rest)) = inr (implies h s its, Adds-join old middle P Q first implies h rest)

-- two things that hold of each step
Adds-both : (old : Option (List Step)) (P Q : List Step → Step → Type 0) (h : List Step) → Adds old P h → Adds old Q h → Adds old (λ h s. P h s × Q h s) h
Adds-both old P Q [] there also = there
Adds-both old P Q (s ∷ h) (inl there) also = inl there
Adds-both old P Q (s ∷ h) (inr (its, rest)) (inl there) = inl there
Adds-both old P Q (s ∷ h) (inr (its, rest)) (inr (other, others)) = inr ((its, other), Adds-both old P Q h rest others)

-- where nothing is written
pub Only-none : {old : Past} {P : List Step → Step → Type 0} → Only old old P
Only-none {old} {P} = record { each = λ h there. Adds-none old.steps P h there; site = refl }

pub Only-one : {old new : Past} {P : Step → Type 0} → One old new P → Only old new (λ _ s. P s)
Only-one {old} {new} {P} one = record {
  each = λ h there. let (s, earlier, is, was, its) = one.each h there in
      subst (Adds old.steps (λ _ s. P s)) (sym is) (inr (its, Adds-none old.steps (λ _ s. P s) earlier was));
  site = one.site;
}

-- one step, and another right behind it
pub Only-behind : {old middle new : Past} {P Q : Step → Type 0} → One old middle P → One middle new Q
    → Only middle new (λ h s. Q s × ((f : Step) × (earlier : List Step) × (h ≡ f ∷ earlier) × P f))
Only-behind {old} {middle} {new} {P} {Q} first second = record {
  each = λ h there.
      let (s, earlier, is, was, its) = second.each h there in
      subst (Adds middle.steps (λ h s. Q s × ((f : Step) × (e : List Step) × (h ≡ f ∷ e) × P f))) (sym is)
      (inr ((its, (let (f, e, at, _, holds) = first.each earlier was in (f, e, at, holds))), Adds-none middle.steps _ earlier was));
  site = second.site;
}

pub Only-map : {old new : Past} {P Q : List Step → Step → Type 0} → Only old new P
    → ((h : List Step) (s : Step) → P h s → Q h s) → Only old new Q
Only-map {old} {new} {P} {Q} only implies = record { each = λ h there. Adds-map old.steps P Q implies h (only.each h there); site = only.site }

-- one way behind another
pub Only-then : {old middle new : Past} {P Q : List Step → Step → Type 0} → Only old middle P → Only middle new Q
    → ((h : List Step) (s : Step) → Q h s → P h s) → Only old new P
Only-then {old} {middle} {new} {P} {Q} first second implies =
    record { each = λ h there. Adds-join old.steps middle.steps P Q first.each implies h (second.each h there); site = second.site ∙ first.site }

pub Only-both : {old new : Past} {P Q : List Step → Step → Type 0} → Only old new P → Only old new Q → Only old new (λ h s. P h s × Q h s)
Only-both {old} {new} {P} {Q} one other = record { each = λ h there. Adds-both old.steps P Q h (one.each h there) (other.each h there); site = one.site }

-- what holds of the history so far holds before each step, and behind the last, where each step keeps it
Adds-along : (old : Option (List Step)) (P : List Step → Step → Type 0) (Q : List Step → Type 0) → ((h : List Step) → old ≡ Some h → Q h)
    → ((h : List Step) (s : Step) → P h s → Q h → Q (s ∷ h)) → (h : List Step) → Adds old P h → Adds old (λ h s. Q h × P h s) h × Q h
Adds-along old P Q first keeps [] there = (there, first [] there)
Adds-along old P Q first keeps (s ∷ h) (inl there) = (inl there, first (s ∷ h) there)
Adds-along old P Q first keeps (s ∷ h) (inr (its, rest)) =
    let (more, now) = Adds-along old P Q first keeps h rest in (inr ((now, its), more), keeps h s its now)

pub Only-along : {old new : Past} {P : List Step → Step → Type 0} (Q : List Step → Type 0) → ((h : List Step) → old.steps ≡ Some h → Q h)
    → ((h : List Step) (s : Step) → P h s → Q h → Q (s ∷ h)) → Only old new P → Only old new (λ h s. Q h × P h s)
Only-along {old} {new} {P} Q first keeps only = record { each = λ h there. (Adds-along old.steps P Q first keeps h (only.each h there)).0; site = only.site }

pub Only-behind-all : {old new : Past} {P : List Step → Step → Type 0} (Q : List Step → Type 0) → ((h : List Step) → old.steps ≡ Some h → Q h)
    → ((h : List Step) (s : Step) → P h s → Q h → Q (s ∷ h)) → Only old new P → (h : List Step) → new.steps ≡ Some h → Q h
Only-behind-all {old} {new} {P} Q first keeps only h there = (Adds-along old.steps P Q first keeps h (only.each h there)).1

-- of each step, that so it is of all up to it
Adds-each : (old : Option (List Step)) (P : List Step → Step → Type 0) (h : List Step) → Adds old P h → Adds old (λ h s. Adds old P (s ∷ h)) h
Adds-each old P [] there = there
Adds-each old P (s ∷ h) (inl there) = inl there
Adds-each old P (s ∷ h) (inr (its, rest)) = inr (inr (its, rest), Adds-each old P h rest)

pub Only-each : {old new : Past} {P : List Step → Step → Type 0} → Only old new P → Only old new (λ h s. Adds old.steps P (s ∷ h))
Only-each {old} {new} {P} only = record { each = λ h there. Adds-each old.steps P h (only.each h there); site = only.site }

-- ---- what is settled

-- a step that settles pages settles each of them, and what was settled before stays so
pub settled-here : (old : Ram) (begin end e first count p : ℕ) (s : Step) (h : List Step) → IsSettling old e first count s → is_in_run first count p ≡ true → IsSettledBy begin end e p (s ∷ h)
settled-here old begin end e first count p s h settles inside = inl (record { endpoint = e; first = first; count = count }, settles.settled, refl, inside)

pub settled-still : (old : Ram) (begin end e d first count p : ℕ) (s : Step) (h : List Step) → IsSettling old d first count s → IsSettledBy begin end e p h → IsSettledBy begin end e p (s ∷ h)
settled-still old begin end e d first count p s h settles before = inr (λ q _ _. ap (λ (r : Ram). page_of r q) (settles.after ∙ sym settles.before), before)

-- ---- pages that may differ

pub beside-same : (ram : Ram) (named : ℕ → Bool) → IsBeside ram ram named
beside-same ram named = record { base = refl; size = refl; pages = λ _ _. refl }

pub beside-then : (old middle new : Ram) (named : ℕ → Bool) → IsBeside old middle named → IsBeside middle new named → IsBeside old new named
beside-then old middle new named first second = record {
  base = second.base ∙ first.base;
  size = second.size ∙ first.size;
  pages = λ p off. second.pages p off ∙ first.pages p off;
}

pub beside-more : (old new : Ram) (named all : ℕ → Bool) → ((p : ℕ) → named p ≡ true → all p ≡ true) → IsBeside old new named → IsBeside old new all
beside-more old new named all more beside = record {
  base = beside.base;
  size = beside.size;
  pages = λ p off. elim (cases_Bool (named p)) [
    | inl is ↦ absurd (false≢true (sym off ∙ more p is))
    | inr other ↦ beside.pages p other
  ];
}

-- one page
pub page-beside : (old new : Ram) (page : ℕ) (bytes : List ℕ) (named : ℕ → Bool) → named page ≡ true → new ≡ with_page old page bytes → IsBeside old new named
page-beside old new page bytes named is wrote = record {
  base = ap (λ (r : Ram). r.base) wrote;
  size = ap (λ (r : Ram). length r.pages) wrote ∙ length-set old.pages page bytes;
  pages = λ p off. ap (λ (r : Ram). page_of r p) wrote ∙ get_or-set_other old.pages page p bytes [] (λ same. false≢true (sym off ∙ ap named same ∙ is));
}

pub loan-writing : (old : Ram) (page : ℕ) (s : Step) (named : ℕ → Bool) → named page ≡ true → IsInLoan old page s → IsWriting old named s
loan-writing old page s named is loan = record {
  before = page-beside old s.before page loan.from named is loan.before;
  after = page-beside old s.after page loan.to named is loan.after;
}

pub writing-then : (old middle : Ram) (s : Step) (named : ℕ → Bool) → IsBeside old middle named → IsWriting middle named s → IsWriting old named s
writing-then old middle s named first its = record {
  before = beside-then old middle s.before named first its.before;
  after = beside-then old middle s.after named first its.after;
}

pub writing-more : (old : Ram) (s : Step) (named all : ℕ → Bool) → ((p : ℕ) → named p ≡ true → all p ≡ true) → IsWriting old named s → IsWriting old all s
writing-more old s named all more its = record {
  before = beside-more old s.before named all more its.before;
  after = beside-more old s.after named all more its.after;
}

-- pages that aren't named stay at such a step
pub writing-keeps : (old : Ram) (s : Step) (named : ℕ → Bool) → IsWriting old named s → (p : ℕ) → named p ≡ false → page_of s.after p ≡ page_of s.before p
writing-keeps old s named its p off = its.after.pages p off ∙ sym (its.before.pages p off)

pub writing-aside : (old : Ram) (s : Step) (named : ℕ → Bool) (first end : ℕ) → ((p : ℕ) → first ≤ p → p < end → named p ≡ false) → IsWriting old named s → KeepsPages first end s
writing-aside old s named first end aside its p from below = writing-keeps old s named its p (aside p from below)

-- ---- copies

-- where no page is in a copy, memory is RAM as it is seen
pub memory-seen : (ram : Ram) (past : Past) → HasNoCopies past → memory_of ram past ≡ ram
memory-seen ram past free = ap (λ (beneath : List (List ℕ)). with_beneath ram past.site.copies.first beneath) free

-- pages that were read at once are the only ones in copies, where any is
pub copied-only : (copying : Bool) (past : Past) (first count : ℕ) → (copying ≡ true → past.site.copies.first ≡ first)
    → length past.site.copies.beneath ≡ (if copying then count else 0) → (p : ℕ) → is_copied past p ≡ true → is_in_run first count p ≡ true
copied-only true past first count at many p is =
    ap (λ n. is_in_run n count p) (sym (at refl)) ∙ ap (λ n. is_in_run past.site.copies.first n p) (sym many) ∙ is
copied-only false past first count at many p is =
    let (low, high) = in-run past.site.copies.first (length past.site.copies.beneath) p is in absurd (omega (arith, low, high, many))

-- no page is in a copy, where none is
pub none-copied : (past : Past) → HasNoCopies past → (p : ℕ) → is_copied past p ≡ true → ⊥
none-copied past free p is =
    let (low, high) = in-run past.site.copies.first (length past.site.copies.beneath) p is in omega (arith, low, high, ap length free)
