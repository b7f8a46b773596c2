-- SPDX-License-Identifier: MIT OR Apache-2.0
-- On the way of a call: rights and zeros between two writes.
use Rattle.std.proofs.Common.{◌≡◌, ◌∙◌, ℕ, zero, suc, ◌+◌, ◌*◌, ◌≤◌, ◌<◌, Bool, true, false, List, [], ◌∷◌, length, take, replicate, Option, Some, None, cond, refl, sym, ap, subst, arith, inl, inr, ◌⊎◌}
use Rattle.std.specs.Prelude.{◌==◌, ◌&&◌, ◌||◌, is_some}
use Rattle.std.proofs.Math.Bool.{or-true}
use Rattle.std.proofs.lemmas.Bool.{cases_Bool, cases_eq, false≢true, false_from_ne_true, true≢false}
use Rattle.std.proofs.lemmas.List.{get_or-set_other, get_or-set_same, length-set}
use Rattle.std.proofs.lemmas.Bool.Decides.{nat_tests}
use Rattle.ffa_model.specs.Ram.{Ram, page_of, with_page}
use Rattle.ffa_model.specs.declared.rights.Rights.{Rights}
use Rattle.ffa_model.specs.declared.transaction.Range.{Range}
use Rattle.ffa_model.specs.Lists.{is_in_run}
use Rattle.ffa_model.specs.State.{Buffers}
use Rattle.ffa_physmem.specs.Moments.{IsBeside, IsSettledBy, IsWriting, KeepsPages, Only, Past, Step}
use Rattle.ffa_physmem.proofs.Moments.{Only-map, Only-then, writing-aside, writing-keeps}
use Rattle.ffa_rxtx.specs.Parts.{IsBesideRx, IsRxWriting}
use Rattle.ffa_stage2.specs.Moments.{EndsSettled, IsBetween, IsMoment, IsOutOrStays, IsUnchanged}
use Rattle.ffa_stage2.specs.Orders.{IsOrdered}
use Rattle.ffa_stage2.specs.Tables.{IsBuilt, IsSameIn, table_page}
use Rattle.ffa_stage2.specs.Blocks.{IsEither}
use Rattle.ffa_stage2.proofs.Kept.{built-kept, built_by-kept}
use Rattle.ffa_stage2.proofs.Places.{not-both}
use Rattle.ffa_stage2.proofs.Walks.{standing-of_built}
use Rattle.ffa_stage2.proofs.Moments.{between-beside, between-last as between-behind, between-then, ends-of-rights, no-right-ends, ordered-aside, ordered-kept, ordered-more}
use Rattle.ffa_memshare.specs.Callers.{IsRxApart}
use Rattle.ffa_memshare.specs.Memory.{Memory}
use Rattle.ffa_memshare.specs.Changes.{AreAside, IsCleared}
use Rattle.ffa_memshare.specs.Grants.{with_rights}
use Rattle.ffa_memshare.specs.Ranges.{in_range, in_ranges}
use Rattle.ffa_memshare.proofs.Places.{between, between-last, between-next, between-none}
use Rattle.ffa_memshare.proofs.Rights.{no-rights, same-rights}

-- some of the pages that are named in the end
pub between-more : (first next end p : ℕ) → next ≤ end → between first next p ≡ true → between first end p ≡ true
between-more first next end p high inside = grind (arith, inside, nat_tests)

pub some-ranges : (base : ℕ) (ranges : List Range) (k p : ℕ) → in_ranges base (take k ranges) p ≡ true → in_ranges base ranges p ≡ true
some-ranges base [] zero p is = is
some-ranges base [] (suc k) p is = is
some-ranges base (q ∷ ranges) zero p is = absurd (false≢true is)
some-ranges base (q ∷ ranges) (suc k) p is = elim (cases_Bool (in_range base q p)) [
  | inl its ↦ ap (λ b. b || in_ranges base ranges p) its
  | inr other ↦
      ap (λ b. in_range base q p || b) (some-ranges base ranges k p (sym (ap (λ b. b || in_ranges base (take k ranges) p) other) ∙ is))
      ∙ or-true (in_range base q p)
]

-- have the right already
pub rights-part : (access : ℕ → ℕ → Option Rights) (index : ℕ) (named all : ℕ → Bool) (right : ℕ → Option Rights) → ((p : ℕ) → named p ≡ true → all p ≡ true)
    → (f : ℕ → ℕ → Option Rights) → ((e p : ℕ) → f e p ≡ with_rights access index named right e p) → (p : ℕ)
    → ((e : ℕ) → f e p ≡ access e p) ⊎ ((e : ℕ) → f e p ≡ with_rights access index all right e p)
rights-part access index named all right more f is p = elim (cases_Bool (named p)) [
  | inl its ↦ inr (λ e. is e p ∙ same-rights access index named all right e p (its ∙ sym (more p its)))
  | inr other ↦ inl (λ e. is e p ∙ sym (no-rights access index named right e p other))
]

its-right : (access : ℕ → ℕ → Option Rights) (index : ℕ) (named : ℕ → Bool) (right : ℕ → Option Rights) (p : ℕ) → named p ≡ true → with_rights access index named right index p ≡ right p
its-right access index named right p is = let here : (index == index && named p) ≡ true = grind (arith, is, nat_tests) in rw here

-- so a moment on the way to some of these rights is one on the way to all
pub between-part : (ram : Ram) (n tables b : ℕ) (access : ℕ → ℕ → Option Rights) (index : ℕ) (named more all : ℕ → Bool) (right : ℕ → Option Rights) (g : ℕ → ℕ → Option Rights)
    → ((p : ℕ) → named p ≡ true → all p ≡ true) → ((p : ℕ) → more p ≡ true → all p ≡ true) → ((e p : ℕ) → g e p ≡ with_rights access index more right e p)
    → IsBetween ram n tables b (with_rights access index named right) g → IsBetween ram n tables b access (with_rights access index all right)
between-part ram n tables b access index named more all right g first second is between =
    between-then ram n tables b access (with_rights access index named right) g (with_rights access index all right) between
    (rights-part access index named all right first (with_rights access index named right) (λ e p. refl))
    (rights-part access index more all right second g is)

-- and a block to whose pages no right changes in the end is one where none changes on the way
pub ordered-part : (old middle : Ram) (tables b : ℕ) (access : ℕ → ℕ → Option Rights) (index : ℕ) (named more all : ℕ → Bool) (right : ℕ → Option Rights) (g : ℕ → ℕ → Option Rights)
    → ((p : ℕ) → named p ≡ true → all p ≡ true) → ((p : ℕ) → more p ≡ true → all p ≡ true) → ((e p : ℕ) → g e p ≡ with_rights access index more right e p)
    → (h : List Step) (s : Step) → middle.base ≡ old.base → IsOrdered middle tables b (IsSameIn (with_rights access index named right) g index) index h s
    → IsOrdered old tables b (IsSameIn access (with_rights access index all right) index) index h s
ordered-part old middle tables b access index named more all right g first second is h s base its =
    let Same = IsSameIn access (with_rights access index all right) index in
    ordered-kept middle old tables b index Same h s (sym base)
    (ordered-more middle tables b index (IsSameIn (with_rights access index named right) g index) Same h s
    (λ k _ same j hj. kept g more second is k same j hj ∙ sym (kept (with_rights access index named right) named first (λ e p. refl) k same j hj)) its)
  where
    kept : (f : ℕ → ℕ → Option Rights) (part : ℕ → Bool) → ((p : ℕ) → part p ≡ true → all p ≡ true) → ((e p : ℕ) → f e p ≡ with_rights access index part right e p)
        → (k : ℕ) → IsSameIn access (with_rights access index all right) index k → (j : ℕ) → j < 512 → f index (512 * k + j) ≡ access index (512 * k + j)
    kept f part some at k same j hj = elim (rights-part access index part all right some f at (512 * k + j)) [ inl a ↦ a index | inr a ↦ a index ∙ same j hj ]

-- zeros change no other page
pub cleared-beside : (old new : Ram) (named : ℕ → Bool) → IsCleared old new named → IsBeside old new named
cleared-beside old new named cleared = record {
  base = cleared.base;
  size = cleared.size;
  pages = λ p off. cleared.pages p ∙ ap (λ t. cond t (replicate 4096 0) (page_of old p)) off;
}

-- pages of a run become zeros one by one
pub cleared-none : (ram : Ram) (first next : ℕ) → next ≡ first → IsCleared ram ram (between first next)
cleared-none ram first next is = record {
  base = refl;
  size = refl;
  pages = λ p. let off : between first next p ≡ false = rw is (between-none first p) in rw off;
}

pub cleared-page : (old middle new : Ram) (first next : ℕ) → first ≤ next → next < length middle.pages → IsCleared old middle (between first next)
    → new ≡ with_page middle next (replicate 4096 0) → IsCleared old new (between first (next + 1))
cleared-page old middle new first next low inside cleared wrote = record {
  base = ap (λ (r : Ram). r.base) wrote ∙ cleared.base;
  size = ap (λ (r : Ram). length r.pages) wrote ∙ length-set middle.pages next (replicate 4096 0) ∙ cleared.size;
  pages = λ p. ap (λ (r : Ram). page_of r p) wrote ∙ elim (cases_eq p next) [
    | inl same ↦
        let here : between first (next + 1) p ≡ true = rw same (between-last first next low) in
        rw here (rw same (get_or-set_same middle.pages next (replicate 4096 0) [] inside))
    | inr other ↦
        let here : between first (next + 1) p ≡ between first next p = between-next first next p (λ same. other same) in
        rw here (get_or-set_other middle.pages next p (replicate 4096 0) [] other ∙ cleared.pages p)
  ];
}

-- ---- each step on the way of a call

-- a right that is the same before, now and behind
pub stays-same : (now before behind : Option Rights) (settled unchanged : Type 0) → now ≡ before → behind ≡ before → IsOutOrStays now before behind settled unchanged
stays-same now None behind settled unchanged same still = inl (same, λ none. absurd (false≢true none), λ some. absurd (false≢true (sym (ap is_some still) ∙ some)))
stays-same now (Some r) behind settled unchanged same still = inr (refl, ap is_some still)

-- or that there wasn't, or is
stays-some : (before behind : Option Rights) (settled unchanged : Type 0) → is_some behind ≡ true → unchanged → IsOutOrStays before before behind settled unchanged
stays-some None behind settled unchanged some begins = inl (refl, λ none. absurd (false≢true none), λ _. begins)
stays-some (Some r) behind settled unchanged some begins = inr (refl, some)

other-right : (access : ℕ → ℕ → Option Rights) (index : ℕ) (named : ℕ → Bool) (right : ℕ → Option Rights) (e p : ℕ) → (e ≡ index → ⊥) → with_rights access index named right e p ≡ access e p
other-right access index named right e p other = let off : (e == index && named p) ≡ false = grind (arith, nat_tests) in rw off

module _ (old new : Ram) (n tables b : ℕ) (access after : ℕ → ℕ → Option Rights) (built : IsBuilt old n tables b access) (is : IsBuilt new n tables b after) (stays : new.base ≡ old.base) where
  -- a word of an endpoint's tables
  pub granted-moment : (index : ℕ) → index < n → (past : Past) (h : List Step) (s : Step) → IsBetween s.after n tables b access after → s.after.base ≡ old.base
      → IsOrdered old tables b (IsSameIn access after index) index h s
      → IsMoment old new n tables b past h s
  granted-moment index lt past h s between base ordered = record {
    access = access;
    after = after;
    was = built;
    is = is;
    between = between;
    order = inr (index, lt, ordered);
    unreached = inl (ordered-aside old tables b index n (IsSameIn access after index) h s ordered lt);
    place = base;
    stays = stays;
  }

  -- nothing, while the tables give the rights in the end
  pub settled-moment : (middle : Ram) → IsBuilt middle n tables b after → middle.base ≡ old.base → (past : Past) (h : List Step) (s : Step) → s.after ≡ s.before → s.after ≡ middle → IsMoment old new n tables b past h s
  settled-moment middle done base past h s same at = record {
    access = access;
    after = after;
    was = built;
    is = is;
    between = subst (λ r. IsBetween r n tables b access after) (sym at) (between-behind middle n tables b access after done);
    order = inl (λ p _ _. ap (λ (r : Ram). page_of r p) same);
    unreached = inl (λ p _. ap (λ (r : Ram). page_of r p) same);
    place = ap (λ (r : Ram). r.base) at ∙ base;
    stays = stays;
  }

  -- pages aside from the tables, while these give one of the two
  pub written-moment : (middle : Ram) (named : ℕ → Bool) (rights : ℕ → ℕ → Option Rights) → AreAside n tables b named → IsBuilt middle n tables b rights → IsBetween middle n tables b access after → middle.base ≡ old.base
      → (past : Past) (h : List Step) (s : Step) → IsWriting middle named s
      → ((p : ℕ) → named p ≡ true → (e : ℕ) → e < n
      → IsOutOrStays (rights e p) (access e p) (after e p) (IsSettledBy tables (table_page tables b n 0) e p h) (IsUnchanged tables (table_page tables b n 0) past h))
      → IsMoment old new n tables b past h s
  written-moment middle named rights aside now between base past h s writing each = record {
    access = access;
    after = after;
    was = built;
    is = is;
    between = between-beside middle s.after n tables b named access after aside between writing.after;
    order = inl (writing-aside middle s named tables (table_page tables b n 0) unnamed writing);
    unreached = inr (record {
      rights = rights;
      stands = built_by-kept IsEither middle s.before n tables b rights (standing-of_built middle n tables b rights now) writing.before.base writing.before.size
          (λ p from below. writing.before.pages p (unnamed p from below));
      place = writing.before.base ∙ base;
      each = λ p at. elim (cases_Bool (named p)) [ inl there ↦ inr (each p there) | inr off ↦ inl (writing-keeps middle s named writing p off) ];
    });
    place = writing.after.base ∙ base;
    stays = stays;
  }
    where
      unnamed : (p : ℕ) → tables ≤ p → p < table_page tables b n 0 → named p ≡ false
      unnamed p from below = false_from_ne_true (named p) (λ at. not-both n tables b p (from, below) (aside p at))

-- rights that end: nobody who had one has it any more, and it is settled
pub taken-each : (access : ℕ → ℕ → Option Rights) (index : ℕ) (named : ℕ → Bool) (right : ℕ → Option Rights) (e p : ℕ) (settled unchanged : Type 0)
    → named p ≡ true → right p ≡ None → (e ≡ index → settled)
    → IsOutOrStays (with_rights access index named right e p) (access e p) (with_rights access index named right e p) settled unchanged
taken-each access index named right e p settled unchanged at none is = elim (cases_eq e index) [
  | inl same ↦
      let gone : with_rights access index named right e p ≡ None = rw same (its-right access index named right p at ∙ none) in
      inl (gone, λ _. is same, λ some. absurd (false≢true (sym (ap is_some gone) ∙ some)))
  | inr other ↦ stays-same _ (access e p) _ settled unchanged (other-right access index named right e p (λ same. other same)) (other-right access index named right e p (λ same. other same))
]

-- rights that begin, when no table has changed yet
pub given-each : (access : ℕ → ℕ → Option Rights) (index : ℕ) (named : ℕ → Bool) (right : ℕ → Option Rights) (e p : ℕ) (settled unchanged : Type 0)
    → named p ≡ true → is_some (right p) ≡ true → unchanged
    → IsOutOrStays (access e p) (access e p) (with_rights access index named right e p) settled unchanged
given-each access index named right e p settled unchanged at some begins = elim (cases_eq e index) [
  | inl same ↦ stays-some (access e p) _ settled unchanged (ap is_some (rw same (its-right access index named right p at)) ∙ some) begins
  | inr other ↦ stays-same (access e p) (access e p) _ settled unchanged refl (other-right access index named right e p (λ same. other same))
]

-- no table changes while other pages are written
pub unchanged-first : (first end : ℕ) (past : Past) (h : List Step) → past.steps ≡ Some h → IsUnchanged first end past h
unchanged-first first end past [] there = there
unchanged-first first end past (s ∷ h) there = inl there

tables-keep : (ram : Ram) (named : ℕ → Bool) (n tables b : ℕ) → AreAside n tables b named → (s : Step) → IsWriting ram named s → KeepsPages tables (table_page tables b n 0) s
tables-keep ram named n tables b aside s writing =
    writing-aside ram s named tables (table_page tables b n 0)
    (λ q from below. false_from_ne_true (named q) (λ at. not-both n tables b q (from, below) (aside q at))) writing

pub unchanged-along : (ram : Ram) (named : ℕ → Bool) (n tables b : ℕ) (past : Past) → AreAside n tables b named → (h : List Step) (s : Step) → IsWriting ram named s
    → IsUnchanged tables (table_page tables b n 0) past h → IsUnchanged tables (table_page tables b n 0) past (s ∷ h)
unchanged-along ram named n tables b past aside h s writing so_far = inr (tables-keep ram named n tables b aside s writing, so_far)

-- what is settled stays so while other pages are written
pub settled-along : (ram : Ram) (named : ℕ → Bool) (n tables b e p : ℕ) → AreAside n tables b named → (h : List Step) (s : Step) → IsWriting ram named s
    → IsSettledBy tables (table_page tables b n 0) e p h → IsSettledBy tables (table_page tables b n 0) e p (s ∷ h)
settled-along ram named n tables b e p aside h s writing so_far = inr (tables-keep ram named n tables b aside s writing, so_far)

-- nobody's rights end but those of one endpoint, to pages that are settled
pub taken-ends : (old new : Ram) (n tables b index : ℕ) (access : ℕ → ℕ → Option Rights) (named : ℕ → Bool) (right : ℕ → Option Rights)
    → IsBuilt old n tables b access → IsBuilt new n tables b (with_rights access index named right) → (past : Past)
    → ((h : List Step) → past.steps ≡ Some h → (p : ℕ) → named p ≡ true → IsSettledBy tables (table_page tables b n 0) index p h) → EndsSettled old new n tables b past
taken-ends old new n tables b index access named right built is past settled =
    ends-of-rights old new n tables b access (with_rights access index named right) built is past
    (λ h there e p he was gone. elim (cases_Bool (e == index && named p)) [
      | inl both ↦
          let same : e ≡ index = grind (arith, both, nat_tests) in
          let at : named p ≡ true = grind (arith, both, nat_tests) in
          subst (λ i. IsSettledBy tables (table_page tables b n 0) i p h) (sym same) (settled h there p at)
      | inr other ↦
          let kept : with_rights access index named right e p ≡ access e p = rw other in
          absurd (true≢false (sym was ∙ ap is_some (sym kept) ∙ gone))
    ])

-- or nobody's
pub given-stays : (access : ℕ → ℕ → Option Rights) (index : ℕ) (named : ℕ → Bool) (right : ℕ → Option Rights) → ((p : ℕ) → named p ≡ true → is_some (right p) ≡ true)
    → (e p : ℕ) → is_some (access e p) ≡ true → is_some (with_rights access index named right e p) ≡ true
given-stays access index named right some e p was = elim (cases_Bool (e == index && named p)) [
  | inl both ↦ let at : named p ≡ true = grind (arith, both, nat_tests) in rw both (some p at)
  | inr other ↦ rw other was
]

-- rights, and then a response in RX, whose pages aren't named
module _ (memory : Memory) (granted new : Ram) (index : ℕ) (named : ℕ → Bool) (right : ℕ → Option Rights) (own : Option Buffers) (rx : IsRxApart memory own named)
    (access : ℕ → ℕ → Option Rights) (built : IsBuilt memory.ram memory.endpoints memory.tables memory.blocks access)
    (done : (f : ℕ → ℕ → Option Rights) → IsBuilt memory.ram memory.endpoints memory.tables memory.blocks f → IsBuilt granted memory.endpoints memory.tables memory.blocks (with_rights f index named right))
    (base : granted.base ≡ memory.ram.base) (beside : IsBesideRx granted new own) where
  abbrev old : Ram
  old = memory.ram

  abbrev n : ℕ
  n = memory.endpoints

  abbrev tables : ℕ
  tables = memory.tables

  abbrev b : ℕ
  b = memory.blocks

  kept : (ram : Ram) → IsBesideRx granted ram own → (after : ℕ → ℕ → Option Rights) → IsBuilt granted n tables b after → IsBuilt ram n tables b after
  kept ram its after is =
      let x = its.buffers in
      built-kept granted ram n tables b after is its.beside.base its.beside.size
      (λ p from below. its.beside.pages p (false_from_ne_true (is_in_run x.rx x.pages p) (λ at. not-both n tables b p (from, below) (rx.aside x its.are p at))))

  pub then-responded : (past middle last : Past) → Only past middle (λ h s. IsMoment old granted n tables b past h s) → Only middle last (λ _ s. IsRxWriting granted own s)
      → Only past last (λ h s. IsMoment old new n tables b past h s)
  then-responded past middle last first second =
      let after : ℕ → ℕ → Option Rights = with_rights access index named right in
      let is : IsBuilt granted n tables b after = done access built in
      Only-then (Only-map first (λ _ s m. record {
        access = m.access;
        after = m.after;
        was = m.was;
        is = kept new beside m.after m.is;
        between = m.between;
        order = m.order;
        unreached = m.unreached;
        place = m.place;
        stays = beside.beside.base ∙ base;
      }))
      second
      (λ h s its.
      let x = its.buffers in
      written-moment old new n tables b access after built (kept new beside after is) (beside.beside.base ∙ base) granted (is_in_run x.rx x.pages) after
      (rx.aside x its.are) is (between-behind granted n tables b access after is) base past h s its.writing
      (λ p at e he. let same : after e p ≡ access e p = sym (no-rights access index named right e p (rx.apart x its.are p at)) in stays-same (after e p) (access e p) (after e p) _ _ same same))

  -- and nobody's rights end
  pub responded-ends : ((p : ℕ) → named p ≡ true → is_some (right p) ≡ true) → (last : Past) → EndsSettled old new n tables b last
  responded-ends some last =
      let after : ℕ → ℕ → Option Rights = with_rights access index named right in
      no-right-ends old new n tables b access after built (kept new beside after (done access built)) last (given-stays access index named right some)
