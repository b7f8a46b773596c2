-- SPDX-License-Identifier: MIT OR Apache-2.0
-- Steps on the way from one RAM to another: what walks in mixtures give at each, and that the tables are at rest behind the last.
use Rattle.std.proofs.Common.{◌≡◌, ◌∙◌, ℕ, ◌+◌, ◌-◌, ◌*◌, ◌/◌, ◌^◌, ◌<◌, ◌≤◌, Bool, true, false, refl, ap, sym, subst, arith, List, [], ◌∷◌, length, Option, Some, None, Err, inl, inr, ◌⊎◌, ◌==◌, ◌&&◌, is_some, is_ok, if◌then◌else◌}
use Rattle.std.proofs.lemmas.Bool.{cases_Bool, true≢false}
use Rattle.std.proofs.lemmas.Bool.Decides.{nat_tests}
use Rattle.ffa_model.specs.declared.limits.TheConstants.{MOST_BLOCKS}
use Rattle.ffa_model.specs.Ram.{Ram, page_of, word_of}
use Rattle.ffa_model.specs.Walk.{Answer, is_in_ram, mapped_answer}
use Rattle.ffa_model.specs.declared.rights.Rights.{Rights}
use Rattle.ffa_model.specs.declared.operation.FaultKind.TheVariants.{Translation}
use Rattle.ffa_physmem.specs.Moments.{Adds, AreInTurn, IsSettledBy, KeepsPages, Only, Past, Settles, StaysPlaced, Step, TurnsIn}
use Rattle.ffa_physmem.proofs.Moments.{Only-along, Only-behind-all, Only-map, Only-none}
use Rattle.ffa_stage2.specs.Held.{IsUnshaken, MayHold, WritesUnheld}
use Rattle.ffa_stage2.specs.Mixed.{AreMixed, MixedBetween, WalksSameOrNone}
use Rattle.ffa_stage2.specs.Mixtures.{IsMixture, MayRead, page_at}
use Rattle.ffa_stage2.specs.Moments.{EndsSettled, IsBetween, IsMoment, IsUnchanged, walk_at}
use Rattle.ffa_stage2.specs.Orders.{IsOrdered}
use Rattle.ffa_stage2.specs.Rest.{AllSettled, AreAtRest, IsAsIn, IsWalked, Reads, ReadsBlock, ReadsTable, RestIn}
use Rattle.ffa_stage2.specs.Tables.{HasRoom, IsBuilt, IsSameIn, IsStanding, WalksChange, is_in_pages, level2_place, table_page}
use Rattle.ffa_stage2.proofs.Mixtures.{IsAsInEither, OneDiffers, may-kept, mixed-between, reads-behind, walk-mixed, walk-words}
use Rattle.ffa_stage2.proofs.Moments.{ordered-aside, answer-none, answer-some}
use Rattle.ffa_stage2.proofs.Places.{IsTablePage, table_page-there}
use Rattle.ffa_stage2.proofs.Unshaken.{moment-unshaken}
use Rattle.ffa_stage2.proofs.Walks.{walk-built}

-- ---- many steps

-- the walk to a byte of a page gives the right to the page
walk-byte : (ram : Ram) (n tables b : ℕ) (rights : ℕ → ℕ → Option Rights) (e p i : ℕ) → IsBuilt ram n tables b rights → e < n → p < 512 * b → i < 4096
    → walk_at ram tables b e (ram.base + 4096 * p + i) ≡ mapped_answer (rights e p) (ram.base + 4096 * p + i)
walk-byte ram n tables b rights e p i built he hp hi =
    let a : ℕ = ram.base + 4096 * p + i in
    let size : length ram.pages ≡ 512 * b = built.fits.size in
    let within : ram.base + 0x200000 * b ≤ 2 ^ 32 = built.fits.within in
    let inside : is_in_ram ram a ≡ true = grind (arith, nat_tests) in
    let page : (a - ram.base) / 4096 ≡ p = omega arith in
    walk-built ram n tables b rights e a built he (omega arith)
    ∙ ap (λ (t : Bool). mapped_answer (if t then rights e ((a - ram.base) / 4096) else None) a) inside
    ∙ ap (λ (q : ℕ). mapped_answer (rights e q) a) page

walked-of : (ram : Ram) (n tables b : ℕ) (rights : ℕ → ℕ → Option Rights) (e p : ℕ) (r : Option Rights) → IsBuilt ram n tables b rights → e < n → p < 512 * b → r ≡ rights e p → IsWalked ram tables b e p r
walked-of ram n tables b rights e p r built he hp is i hi =
    ap (λ (q : Option Rights). mapped_answer q (ram.base + 4096 * p + i)) is ∙ sym (walk-byte ram n tables b rights e p i built he hp hi)

-- the rights at a moment are those before all steps, or behind all, or none
moment-either : (old new : Ram) (n tables b : ℕ) (past : Past) (h : List Step) (s : Step) (m : IsMoment old new n tables b past h s) (e p : ℕ) → e < n → p < 512 * b → IsAsInEither old new tables b e p (m.between.rights e p)
moment-either old new n tables b past h s m e p he hp = elim (m.between.each p) [
  | inl kept ↦ elim (kept e) [ inl is ↦ inl (inr (walked-of old n tables b m.access e p (m.between.rights e p) m.was he hp is)) | inr none ↦ inl (inl none) ]
  | inr changed ↦ elim (changed e) [ inl is ↦ inr (inr (walked-of new n tables b m.after e p (m.between.rights e p) m.is he hp is)) | inr none ↦ inl (inl none) ]
]

-- the RAM is told by the steps
same-turn : (s : Step) (earlier h : List Step) (ram other : Ram) → h ≡ s ∷ earlier → AreInTurn h ram → AreInTurn h other → ram ≡ other
same-turn s earlier h ram other is first second =
    let (at, _, _) = subst (λ (g : List Step). AreInTurn g ram) is first in
    let (there, _, _) = subst (λ (g : List Step). AreInTurn g other) is second in
    sym at ∙ there

pub reads-more : (base n tables b : ℕ) (h : List Step) (ram : Ram) (Is More : ℕ → ℕ → Option Rights → Type 0)
    → ((e k j : ℕ) → e < n → k < b → j < 512 → (r : Option Rights) → Is e (512 * k + j) r → More e (512 * k + j) r)
    → Reads base n tables b h ram Is → Reads base n tables b h ram More
reads-more base n tables b h ram Is More more reads = record {
  level1 = reads.level1;
  outside = reads.outside;
  each = λ e k j he hk hj. elim (reads.each e k j he hk hj) [
    | inl x ↦ inl (record {
      middle = λ v read. elim (x.middle v read) [ inl none ↦ inl none | inr (r, its, is) ↦ inr (r, more e k j he hk hj (Some r) its, is) ];
    })
    | inr x ↦ inr (record {
      middle = x.middle;
      leaf = λ v read. let (r, its, is) = x.leaf v read in (r, more e k j he hk hj r its, is);
    })
  ];
}

-- the steps behind a history follow one another, where all do
Adds-turn : (past : Option (List Step)) (P : List Step → Step → Type 0) (h : List Step) (ram : Ram) → AreInTurn h ram → Adds past P h → Adds past (λ h s. AreInTurn (s ∷ h) s.after × P h s) h
Adds-turn past P [] ram turn there = there
Adds-turn past P (s ∷ h) ram turn (inl there) = inl there
Adds-turn past P (s ∷ h) ram (at, placed, turn) (inr (its, rest)) = inr (((refl, placed, turn), its), Adds-turn past P h s.before turn rest)

pub Only-turn : {past later : Past} {P : List Step → Step → Type 0} (new : Ram) → TurnsIn new later → Only past later P → Only past later (λ h s. AreInTurn (s ∷ h) s.after × P h s)
Only-turn {past} {later} {P} new turns only = record { each = λ h there. Adds-turn past.steps P h new (turns h there) (only.each h there); site = only.site }

-- ---- what is read as it stands

-- what was settled since a table changed is read as it stands
may-unchanged : (n tables b e p : ℕ) (h : List Step) (ram : Ram) → AreInTurn h ram → IsSettledBy tables (table_page tables b n 0) e p h → (page i v : ℕ) → IsTablePage n tables b page → MayRead e p h ram page i v
    → v ≡ word_of (page_of ram page) i
may-unchanged n tables b e p [] ram turn settled page i v there read = absurd settled
may-unchanged n tables b e p (s ∷ h) ram (at, placed, turn) (inl settles) page i v there read = elim read [ inl now ↦ now | inr (off, was) ↦ absurd (off settles) ]
may-unchanged n tables b e p (s ∷ h) ram (at, placed, turn) (inr (kept, settled)) page i v there read = elim read [
  | inl now ↦ now
  | inr (off, was) ↦
      may-unchanged n tables b e p h s.before turn settled page i v there was ∙ sym (ap (λ (bytes : List ℕ). word_of bytes i) (kept page there.0 there.1))
      ∙ ap (λ (r : Ram). word_of (page_of r page) i) at
]

none-of : (r : Option Rights) → is_some r ≡ false → r ≡ None
none-of None h = refl
none-of (Some r) h = absurd (true≢false h)

-- ---- translation units

mixture-still : (tables b e p : ℕ) (s : Step) (h : List Step) (mixed : Ram) → s.after.base ≡ s.before.base → length s.after.pages ≡ length s.before.pages → (Settles e p s → ⊥)
    → IsMixture tables b e p h s.before mixed → IsMixture tables b e p (s ∷ h) s.after mixed
mixture-still tables b e p s h mixed base size off mix = record {
  base = mix.base ∙ sym base;
  size = mix.size ∙ sym size;
  words = λ t i ht hi. inr (off, mix.words t i ht hi);
}

-- whatever a translation unit may hold is the answer of a walk in a mixture now
pub held-mixed : (tables b e p a : ℕ) (h : List Step) (ram : Ram) (answer : Answer) → AreInTurn h ram → MayHold tables b e p a h ram answer
    → (mixed : Ram) × IsMixture tables b e p h ram mixed × (answer ≡ walk_at mixed tables b e a)
held-mixed tables b e p a [] ram answer turn held = held
held-mixed tables b e p a (s ∷ h) ram answer turn (inl held) = held
held-mixed tables b e p a (s ∷ h) ram answer (at, placed, turn) (inr (off, held)) =
    let (mixed, mix, is) = held-mixed tables b e p a h s.before answer turn held in
    (mixed, subst (λ (r : Ram). IsMixture tables b e p (s ∷ h) r mixed) at (mixture-still tables b e p s h mixed placed.base placed.size off mix), is)

-- ---- a page that is written

-- where a walk into a page leads
some-walked : (ram : Ram) (n tables b : ℕ) (rights : ℕ → ℕ → Option Rights) (e p : ℕ) → IsBuilt ram n tables b rights → e < n → p < 512 * b
    → is_ok (walk_at ram tables b e (ram.base + 4096 * p)) ≡ is_some (rights e p)
some-walked ram n tables b rights e p built he hp =
    let zero : ram.base + 4096 * p + 0 ≡ ram.base + 4096 * p = omega arith in
    ap (λ (y : ℕ). is_ok (walk_at ram tables b e y)) (sym zero) ∙ ap is_ok (walk-byte ram n tables b rights e p 0 built he hp (omega arith)) ∙ sym (answer-some (rights e p) (ram.base + 4096 * p + 0))

-- a right that is none, or what walks give where there is none
as-none : (ram : Ram) (n tables b : ℕ) (rights : ℕ → ℕ → Option Rights) (e p i x : ℕ) (q : Option Rights) → IsBuilt ram n tables b rights → e < n → p < 512 * b → i < 4096 → is_some (rights e p) ≡ false
    → x ≡ ram.base + 4096 * p + i → IsAsIn ram tables b e p q → mapped_answer q x ≡ Err Translation
as-none ram n tables b rights e p i x q built he hp hi gone at (inl none) = answer-none q x none
as-none ram n tables b rights e p i x q built he hp hi gone at (inr walked) =
    ap (mapped_answer q) at ∙ walked i hi ∙ walk-byte ram n tables b rights e p i built he hp hi ∙ answer-none (rights e p) (ram.base + 4096 * p + i) (none-of (rights e p) gone)

-- so the walk in a mixture gives nothing, where all that is read leads nowhere
mixed-none : (ram m : Ram) (n tables b e p i : ℕ) (h : List Step) (Is : ℕ → ℕ → Option Rights → Type 0) → HasRoom ram n tables b → e < n → p < 512 * b → i < 4096 → Reads ram.base n tables b h ram Is
    → IsMixture tables b e p h ram m → ((q : Option Rights) → Is e p q → mapped_answer q (ram.base + 4096 * p + i) ≡ Err Translation) → walk_at m tables b e (ram.base + 4096 * p + i) ≡ Err Translation
mixed-none ram m n tables b e p i h Is room he hp hi reads mix none =
    let a : ℕ = ram.base + 4096 * p + i in
    let at : page_at ram a ≡ p = omega arith in
    let within : ram.base + 0x200000 * b ≤ 2 ^ 32 = room.within in
    elim (walk-mixed ram m n tables b e a h Is room he (omega arith) reads (subst (λ (x : ℕ). IsMixture tables b e x h ram m) (sym at) mix)) [
      | inl nothing ↦ nothing
      | inr (q, its, low, is) ↦ is ∙ none q (subst (λ (x : ℕ). Is e x q) at its)
    ]

-- where the page was settled since a table changed
settled-none : (ram m : Ram) (n tables b e p i : ℕ) (h : List Step) (rights : ℕ → ℕ → Option Rights) → IsStanding ram n tables b rights → AreInTurn h ram → IsSettledBy tables (table_page tables b n 0) e p h
    → rights e p ≡ None → e < n → p < 512 * b → i < 4096 → IsMixture tables b e p h ram m → walk_at m tables b e (ram.base + 4096 * p + i) ≡ Err Translation
settled-none ram m n tables b e p i h rights stands turn settled none he hp hi mix =
    let a : ℕ = ram.base + 4096 * p + i in
    let at : page_at ram a ≡ p = omega arith in
    let within : ram.base + 0x200000 * b ≤ 2 ^ 32 = stands.fits.within in
    elim (walk-words ram m n tables b e a rights stands he (omega arith) mix.base mix.size
    (λ t j ht hj. may-unchanged n tables b e p h ram turn settled (table_page tables b e t) j _ (table_page-there n tables b e t he ht) (mix.words t j ht hj))) [
      | inl nothing ↦ nothing
      | inr (q, its, low, is) ↦ is ∙ answer-none q a (its ∙ ap (rights e) at ∙ none)
    ]

-- a mixture is one of what was before a step that changes no table
mixture-before : (n tables b e p : ℕ) (s : Step) (h : List Step) (ram m : Ram) → e < n → s.after ≡ ram → StaysPlaced s → KeepsPages tables (table_page tables b n 0) s → IsMixture tables b e p (s ∷ h) ram m
    → IsMixture tables b e p h s.before m
mixture-before n tables b e p s h ram m he at placed kept mix = record {
  base = mix.base ∙ ap (λ (r : Ram). r.base) (sym at) ∙ placed.base;
  size = mix.size ∙ ap (λ (r : Ram). length r.pages) (sym at) ∙ placed.size;
  words = λ t i ht hi.
      let (from, below) = table_page-there n tables b e t he ht in
      may-kept e p s h (table_page tables b e t) i _ (ap (λ (bytes : List ℕ). word_of bytes i) (kept (table_page tables b e t) from below))
      (subst (λ (r : Ram). MayRead e p (s ∷ h) r (table_page tables b e t) i (word_of (page_of m (table_page tables b e t)) i)) (sym at) (mix.words t i ht hi));
}

-- where no table has changed since all were at rest
unchanged-none : (old m : Ram) (n tables b e p i : ℕ) (access : ℕ → ℕ → Option Rights) (past : Past) → RestIn old n tables b past → IsBuilt old n tables b access → is_some (access e p) ≡ false
    → e < n → p < 512 * b → i < 4096 → (h : List Step) (ram : Ram) → AreInTurn h ram → IsUnchanged tables (table_page tables b n 0) past h → IsMixture tables b e p h ram m
    → walk_at m tables b e (old.base + 4096 * p + i) ≡ Err Translation
unchanged-none old m n tables b e p i access past rest built gone he hp hi = along
  where
    first : (h : List Step) (ram : Ram) → AreInTurn h ram → past.steps ≡ Some h → IsMixture tables b e p h ram m → walk_at m tables b e (old.base + 4096 * p + i) ≡ Err Translation
    first h ram turn there mix =
        let at_rest = rest h there in
        let (s, earlier, is) = at_rest.begun in
        mixed-none old m n tables b e p i h (IsAsIn old tables b) built.fits he hp hi at_rest.reads
        (subst (λ (r : Ram). IsMixture tables b e p h r m) (sym (same-turn s earlier h old ram is at_rest.turn turn)) mix)
        (λ q its. as-none old n tables b access e p i (old.base + 4096 * p + i) q built he hp hi gone refl its)

    along : (h : List Step) (ram : Ram) → AreInTurn h ram → IsUnchanged tables (table_page tables b n 0) past h → IsMixture tables b e p h ram m → walk_at m tables b e (old.base + 4096 * p + i) ≡ Err Translation
    along [] ram turn there mix = first [] ram turn there mix
    along (s ∷ h) ram turn (inl there) mix = first (s ∷ h) ram turn there mix
    along (s ∷ h) ram (at, placed, turn) (inr (kept, more)) mix = along h s.before turn more (mixture-before n tables b e p s h ram m he at placed kept mix)

-- so a page is written only while nothing is held that leads there
moment-unheld : (old new : Ram) (n tables b : ℕ) (past : Past) → RestIn old n tables b past → (h : List Step) (s : Step) → AreInTurn h s.before
    → Reads old.base n tables b h s.before (IsAsInEither old new tables b) → IsMoment old new n tables b past h s → WritesUnheld old new n tables b h s
moment-unheld old new n tables b past rest h s turn reads m p aside hp = elim m.unreached [
  | inl kept ↦ inl (kept p aside)
  | inr free ↦ elim (free.each p aside) [
    | inl kept ↦ inl kept
    | inr each ↦ inr (λ e he. elim (each e he) [
      | inr (one, other) ↦ inr (
        some-walked old n tables b m.access e p m.was he hp ∙ one,
        subst (λ (c : ℕ). is_ok (walk_at new tables b e (c + 4096 * p)) ≡ true) m.stays (some-walked new n tables b m.after e p m.is he hp ∙ other),
      )
      | inl (none, settled, unchanged) ↦ inl (λ i answer hi held.
          let (mixed, mix, is) = held-mixed tables b e p (old.base + 4096 * p + i) h s.before answer turn held in
          is ∙ elim (cases_Bool (is_some (m.access e p))) [
            | inl there ↦ subst (λ (c : ℕ). walk_at mixed tables b e (c + 4096 * p + i) ≡ Err Translation) free.place
                (settled-none s.before mixed n tables b e p i h free.rights free.stands turn (settled there) none he hp hi mix)
            | inr gone ↦ elim (cases_Bool (is_some (m.after e p))) [
              | inl here ↦ unchanged-none old mixed n tables b e p i m.access past rest m.was gone he hp hi h s.before turn (unchanged here) mix
              | inr over ↦ subst (λ (c : ℕ). walk_at mixed tables b e (c + 4096 * p + i) ≡ Err Translation) free.place
                  (mixed-none s.before mixed n tables b e p i h (IsAsInEither old new tables b) free.stands.fits he hp hi
                  (subst (λ (c : ℕ). Reads c n tables b h s.before (IsAsInEither old new tables b)) (sym free.place) reads) mix
                  (λ q either. elim either [
                    | inl its ↦ as-none old n tables b m.access e p i (s.before.base + 4096 * p + i) q m.was he hp hi gone (ap (λ (c : ℕ). c + 4096 * p + i) free.place) its
                    | inr its ↦ as-none new n tables b m.after e p i (s.before.base + 4096 * p + i) q m.is he hp hi over (ap (λ (c : ℕ). c + 4096 * p + i) (free.place ∙ sym m.stays)) its
                  ]))
            ]
          ])
    ])
  ]
]

-- ---- all steps of a history

module _ (old new : Ram) (n tables b : ℕ) (past later : Past) (rest : RestIn old n tables b past) (turns : TurnsIn new later) (only : Only past later (λ h s. IsMoment old new n tables b past h s)) where
  abbrev AllRead : List Step → Type 0
  AllRead h = (ram : Ram) → AreInTurn h ram → Reads old.base n tables b h ram (IsAsInEither old new tables b)

  first-read : (h : List Step) → past.steps ≡ Some h → AllRead h
  first-read h there ram turn =
      let its = rest h there in
      let (s, earlier, is) = its.begun in
      subst (λ (r : Ram). Reads old.base n tables b h r (IsAsInEither old new tables b)) (same-turn s earlier h old ram is its.turn turn)
      (reads-more old.base n tables b h old (IsAsIn old tables b) (IsAsInEither old new tables b) (λ e k j he hk hj r its. inl its) its.reads)

  next-read : (h : List Step) (s : Step) → AreInTurn (s ∷ h) s.after × IsMoment old new n tables b past h s → AllRead h → AllRead (s ∷ h)
  next-read h s ((_, _, turn), m) reads ram (at, _, _) =
      subst (λ (r : Ram). Reads old.base n tables b (s ∷ h) r (IsAsInEither old new tables b)) at
      (reads-behind old n tables b h s (IsAsInEither old new tables b) m.between.rights m.between.stands m.place (moment-either old new n tables b past h s m) (IsSameIn m.access m.after) m.order (reads s.before turn))

  pub reads-at : Only past later (λ h s. Reads old.base n tables b (s ∷ h) s.after (IsAsInEither old new tables b) × IsMoment old new n tables b past h s)
  reads-at = Only-map (Only-along AllRead first-read next-read (Only-turn new turns only)) (λ h s its.
      let (reads, (turn, m)) = its in
      (next-read h s (turn, m) reads s.after turn, m))

  pub mixed-along : Only past later (λ h s. MixedBetween old new n tables b (s ∷ h) s.after)
  mixed-along = Only-map reads-at (λ h s its.
      let (reads, m) = its in
      mixed-between old new s.after n tables b (s ∷ h) m.between.stands.fits m.place m.stays
      (subst (λ (c : ℕ). Reads c n tables b (s ∷ h) s.after (IsAsInEither old new tables b)) (sym m.place) reads))

  -- and each writes a page only while nothing is held that leads there
  pub unheld-along : Only past later (λ h s. WritesUnheld old new n tables b h s)
  unheld-along = Only-map (Only-along AllRead first-read next-read (Only-turn new turns only)) (λ h s its.
      let (reads, ((_, _, turn), m)) = its in
      moment-unheld old new n tables b past rest h s turn (reads s.before turn) m)

  -- nobody is disturbed who keeps its accesses to a block
  pub unshaken-along : Only past later (λ h s. IsUnshaken old new n tables b h s)
  unshaken-along = Only-map (Only-along AllRead first-read next-read (Only-turn new turns only)) (λ h s its.
      let (reads, ((_, placed, turn), m)) = its in
      moment-unshaken old new n tables b past h s (IsAsInEither old new tables b) placed (reads s.before turn) m)

  pub reads-last : (h : List Step) → later.steps ≡ Some h → Reads old.base n tables b h new (IsAsInEither old new tables b)
  reads-last h there = Only-behind-all AllRead first-read next-read (Only-turn new turns only) h there new (turns h there)

-- ---- at rest again

-- a page of which nobody else reads anything
settled-reads : (ram : Ram) (n tables b : ℕ) (access : ℕ → ℕ → Option Rights) → IsBuilt ram n tables b access → (h : List Step) → AreInTurn h ram
    → (e k j : ℕ) → e < n → k < b → j < 512 → IsSettledBy tables (table_page tables b n 0) e (512 * k + j) h
    → ReadsBlock ram.base tables b e k j h ram (IsAsIn ram tables b e (512 * k + j)) ⊎ ReadsTable ram.base tables b e k j h ram (IsAsIn ram tables b e (512 * k + j))
settled-reads ram n tables b access built h turn e k j he hk hj its =
    let hp : 512 * k + j < 512 * b = omega (arith, hk, hj) in
    let second = table_page-there n tables b e 1 he (omega arith) in
    let third = table_page-there n tables b e (2 + k) he (omega (arith, hk)) in
    elim (built.each e k he hk) [
      | inl it ↦ inl (record {
        middle = λ v read. inr (
          it.right,
          inr (walked-of ram n tables b access e (512 * k + j) (Some it.right) built he hp (sym (it.one j hj))),
          may-unchanged n tables b e (512 * k + j) h ram turn its (table_page tables b e 1) (level2_place ram.base + k) v second read ∙ it.is,
        );
      })
      | inr (it, _) ↦ inr (record {
        middle = λ v read. inr (may-unchanged n tables b e (512 * k + j) h ram turn its (table_page tables b e 1) (level2_place ram.base + k) v second read ∙ it.is);
        leaf = λ v read. (
          access e (512 * k + j),
          inr (walked-of ram n tables b access e (512 * k + j) (access e (512 * k + j)) built he hp refl),
          may-unchanged n tables b e (512 * k + j) h ram turn its (table_page tables b e (2 + k)) j v third read ∙ it.pages j hj,
        );
      })
    ]

module _ (old new : Ram) (n tables b : ℕ) (access after : ℕ → ℕ → Option Rights) (was : IsBuilt old n tables b access) (is : IsBuilt new n tables b after) (stays : new.base ≡ old.base) (h : List Step)
    (turn : AreInTurn h new)
    (ended : (e p : ℕ) → e < n → p < 512 * b → is_ok (walk_at old tables b e (old.base + 4096 * p)) ≡ true → is_ok (walk_at new tables b e (new.base + 4096 * p)) ≡ false
    → IsSettledBy tables (table_page tables b n 0) e p h)
    (steady : WalksSameOrNone old new n tables b) where
  -- a right that is what it was
  as-new : (e p : ℕ) → e < n → p < 512 * b → ((is_some (access e p) ≡ false) ⊎ ((is_some (access e p) ≡ true) × (is_some (after e p) ≡ true)))
      → (r : Option Rights) → IsAsInEither old new tables b e p r → IsAsIn new tables b e p r
  as-new e p he hp kind r (inr its) = its
  as-new e p he hp kind r (inl (inl none)) = inl none
  as-new e p he hp kind r (inl (inr walked)) = elim kind [
    | inl gone ↦
        let first = walked 0 (omega arith) in
        let same : is_some r ≡ is_some (access e p) =
        answer-some r (old.base + 4096 * p + 0) ∙ ap is_ok (first ∙ walk-byte old n tables b access e p 0 was he hp (omega arith)) ∙ sym (answer-some (access e p) (old.base + 4096 * p + 0))
        in
        inl (none-of r (same ∙ gone))
    | inr (there, here) ↦ inr (λ i hi.
        let within : old.base + 0x200000 * b ≤ 2 ^ 32 = was.fits.within in
        let x : ℕ = old.base + 4096 * p + i in
        let same : new.base + 4096 * p + i ≡ x = ap (λ (c : ℕ). c + 4096 * p + i) stays in
        let ok : is_ok (walk_at old tables b e x) ≡ true = ap is_ok (walk-byte old n tables b access e p i was he hp hi) ∙ sym (answer-some (access e p) x) ∙ there in
        let ok' : is_ok (walk_at new tables b e x) ≡ true =
        ap (λ (y : ℕ). is_ok (walk_at new tables b e y)) (sym same) ∙ ap is_ok (walk-byte new n tables b after e p i is he hp hi) ∙ sym (answer-some (after e p) (new.base + 4096 * p + i)) ∙ here
        in
        subst (λ (y : ℕ). mapped_answer r y ≡ walk_at new tables b e y) (sym same) (walked i hi ∙ sym (steady e x he (omega arith) ok ok')))
  ]

  pub rest-reads : Reads new.base n tables b h new (IsAsInEither old new tables b) → Reads new.base n tables b h new (IsAsIn new tables b)
  rest-reads reads = record {
    level1 = reads.level1;
    outside = reads.outside;
    each = λ e k j he hk hj.
        let hp : 512 * k + j < 512 * b = omega (arith, hk, hj) in
        elim (cases_Bool (is_some (access e (512 * k + j)))) [
          | inr gone ↦ more e k j he hk hj (inl gone) (reads.each e k j he hk hj)
          | inl there ↦ elim (cases_Bool (is_some (after e (512 * k + j)))) [
            | inl here ↦ more e k j he hk hj (inr (there, here)) (reads.each e k j he hk hj)
            | inr over ↦ settled-reads new n tables b after is h turn e k j he hk hj (ended e (512 * k + j) he hp (some-walked old n tables b access e (512 * k + j) was he hp ∙ there) (some-walked new n tables b after e (512 * k + j) is he hp ∙ over))
          ]
        ];
  }
    where
      more : (e k j : ℕ) → e < n → k < b → j < 512
          → ((is_some (access e (512 * k + j)) ≡ false) ⊎ ((is_some (access e (512 * k + j)) ≡ true) × (is_some (after e (512 * k + j)) ≡ true)))
          → (ReadsBlock new.base tables b e k j h new (IsAsInEither old new tables b e (512 * k + j)) ⊎ ReadsTable new.base tables b e k j h new (IsAsInEither old new tables b e (512 * k + j)))
          → ReadsBlock new.base tables b e k j h new (IsAsIn new tables b e (512 * k + j)) ⊎ ReadsTable new.base tables b e k j h new (IsAsIn new tables b e (512 * k + j))
      more e k j he hk hj kind (inl x) = inl (record {
        middle = λ v read. elim (x.middle v read) [ inl none ↦ inl none | inr (r, its, same) ↦ inr (r, as-new e (512 * k + j) he (omega (arith, hk, hj)) kind (Some r) its, same) ];
      })
      more e k j he hk hj kind (inr x) = inr (record {
        middle = x.middle;
        leaf = λ v read. let (r, its, same) = x.leaf v read in (r, as-new e (512 * k + j) he (omega (arith, hk, hj)) kind r its, same);
      })

-- all of it, of steps that are moments on the way from one RAM to another, where what ended is settled
module _ (old new : Ram) (n tables b : ℕ) (past later : Past) (turns : TurnsIn new later) (only : Only past later (λ h s. IsMoment old new n tables b past h s))
    (ended : EndsSettled old new n tables b later) where
  still-at-rest : RestIn old n tables b past → (h : List Step) → later.steps ≡ Some h → past.steps ≡ Some h → AreAtRest new n tables b h
  still-at-rest rest h there was =
      let its = rest h was in
      let (s, earlier, is) = its.begun in
      subst (λ (r : Ram). AreAtRest r n tables b h) (same-turn s earlier h old new is its.turn (turns h there)) its

  at-rest : RestIn old n tables b past → WalksSameOrNone old new n tables b → (h : List Step) → later.steps ≡ Some h → Adds past.steps (λ h s. IsMoment old new n tables b past h s) h → AreAtRest new n tables b h
  at-rest rest steady [] there was = still-at-rest rest [] there was
  at-rest rest steady (s ∷ h) there (inl was) = still-at-rest rest (s ∷ h) there was
  at-rest rest steady (s ∷ h) there (inr (m, more)) = record {
    begun = (s, h, refl);
    turn = turns (s ∷ h) there;
    reads = rest-reads old new n tables b m.access m.after m.was m.is m.stays (s ∷ h) (turns (s ∷ h) there) (ended (s ∷ h) there) steady
        (subst (λ (c : ℕ). Reads c n tables b (s ∷ h) new (IsAsInEither old new tables b)) (sym m.stays) (reads-last old new n tables b past later rest turns only (s ∷ h) there));
  }

  pub mixed-of : AreMixed old new n tables b past later
  mixed-of = record {
    each = λ rest. mixed-along old new n tables b past later rest turns only;
    unheld = λ rest. unheld-along old new n tables b past later rest turns only;
    unshaken = λ rest. unshaken-along old new n tables b past later rest turns only;
    rest = λ rest steady h there. at-rest rest steady h there (only.each h there);
  }

-- where nothing was written
pub mixed-still : (old new : Ram) (n tables b : ℕ) (past later : Past) → new ≡ old → later ≡ past → AreMixed old new n tables b past later
mixed-still old new n tables b past later same same_past = record {
  each = λ _. subst (λ (l : Past). Only past l (λ h s. MixedBetween old new n tables b (s ∷ h) s.after)) (sym same_past) Only-none;
  unheld = λ _. subst (λ (l : Past). Only past l (λ h s. WritesUnheld old new n tables b h s)) (sym same_past) Only-none;
  unshaken = λ _. subst (λ (l : Past). Only past l (λ h s. IsUnshaken old new n tables b h s)) (sym same_past) Only-none;
  rest = λ rest _ h there. subst (λ (r : Ram). AreAtRest r n tables b h) (sym same) (rest h (ap (λ (x : Past). x.steps) (sym same_past) ∙ there));
}

-- ---- of pages that follow one another

pub pages-moment : (old new : Ram) (n tables b : ℕ) (access after : ℕ → ℕ → Option Rights) → IsBuilt old n tables b access → IsBuilt new n tables b after → new.base ≡ old.base → (e : ℕ) → e < n
    → (past : Past) (h : List Step) (s : Step) → IsBetween s.after n tables b access after → s.after.base ≡ old.base → IsOrdered old tables b (IsSameIn access after e) e h s → IsMoment old new n tables b past h s
pages-moment old new n tables b access after was is stays e he past h s between place ordered = record {
  access = access;
  after = after;
  was = was;
  is = is;
  between = between;
  order = inr (e, he, ordered);
  unreached = inl (ordered-aside old tables b e n (IsSameIn access after e) h s ordered he);
  place = place;
  stays = stays;
}

pub one-changes : (old new : Ram) (n tables b endpoint first end : ℕ) (right : Option Rights) → WalksChange old new n tables b endpoint first end right → OneDiffers old new n tables b
one-changes old new n tables b endpoint first end right changes = (
  endpoint,
  λ e a he ha far.
      let off : (e == endpoint && is_in_pages old first end a) ≡ false = grind (arith, nat_tests) in
      changes e a he ha ∙ rw off refl,
)

-- tables that are built, where every page was settled since a table changed
pub rest-of-settled : (ram : Ram) (n tables b : ℕ) (access : ℕ → ℕ → Option Rights) (h : List Step) → IsBuilt ram n tables b access → AreInTurn h ram
    → ((s : Step) × (earlier : List Step) × (h ≡ s ∷ earlier))
    → ((e p : ℕ) → e < n → p < 2 ^ 20 → IsSettledBy tables (table_page tables b n 0) e p h) → AreAtRest ram n tables b h
rest-of-settled ram n tables b access h built turn begun settled = record {
  begun = begun;
  turn = turn;
  reads = record {
    level1 = λ e p i v he hp hi read.
        may-unchanged n tables b e p h ram turn (settled e p he hp) (table_page tables b e 0) i v (table_page-there n tables b e 0 he (omega arith)) read ∙ built.level1 e i he hi;
    outside = λ e p i v he hp hi off read.
        may-unchanged n tables b e p h ram turn (settled e p he hp) (table_page tables b e 1) i v (table_page-there n tables b e 1 he (omega arith)) read ∙ built.outside e i he hi off;
    each = λ e k j he hk hj.
        let few : b ≤ MOST_BLOCKS = built.fits.few in
        let hp : 512 * k + j < 512 * b = omega (arith, hk, hj) in
        settled-reads ram n tables b access built h turn e k j he hk hj (settled e (512 * k + j) he (omega (arith, hp, few)));
  };
}

begun-of : (first end e p : ℕ) (h : List Step) → IsSettledBy first end e p h → (s : Step) × (earlier : List Step) × (h ≡ s ∷ earlier)
begun-of first end e p [] none = absurd none
begun-of first end e p (s ∷ h) settled = (s, h, refl)

pub rest-settled : (ram : Ram) (n tables b : ℕ) (access : ℕ → ℕ → Option Rights) (past : Past) → IsBuilt ram n tables b access → 0 < n → TurnsIn ram past
    → AllSettled n tables b past → RestIn ram n tables b past
rest-settled ram n tables b access past built some turns settled h there =
    rest-of-settled ram n tables b access h built (turns h there) (begun-of tables (table_page tables b n 0) 0 0 h (settled h there 0 0 some (omega arith))) (settled h there)
