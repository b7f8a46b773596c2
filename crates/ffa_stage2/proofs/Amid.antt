-- SPDX-License-Identifier: MIT OR Apache-2.0
-- Memory to which others write: its tables are those of the RAM that the steps led to, and so are its walks.
use Rattle.std.proofs.Common.{◌≡◌, ◌∙◌, ℕ, ◌+◌, ◌-◌, ◌*◌, ◌/◌, ◌%◌, ◌^◌, ◌<◌, ◌≤◌, true, false, refl, ap, sym, subst, arith, List, [], ◌∷◌, length, Option, Some, Ok, Err, inl, inr, ◌⊎◌, Bool, ◌==◌, ◌||◌, nat_lt, is_ok}
use Rattle.std.proofs.lemmas.Bool.{cases_lt, cases_eq, false_from_ne_true, false≢true, true≢false}
use Rattle.std.proofs.lemmas.Bool.Decides.{nat_tests}
use Rattle.std.proofs.lemmas.Option.{same_Some}
use Rattle.ffa_model.specs.declared.limits.TheConstants.{MOST_BLOCKS}
use Rattle.ffa_model.specs.declared.leaf.Leaf.{Leaf}
use Rattle.ffa_model.specs.declared.rights.Rights.{Rights}
use Rattle.ffa_model.specs.Bits.{bits}
use Rattle.ffa_model.specs.Manifest.{root_of, table_pages}
use Rattle.ffa_model.specs.Ram.{Ram, page_of, word_of}
use Rattle.ffa_model.specs.declared.operation.FaultKind.TheVariants.{Translation}
use Rattle.ffa_model.specs.Walk.{Answer, entry, from_level1, from_level2, from_level3, is_page_address, mapped_answer, walk}
use Rattle.ffa_physmem.specs.Moments.{Adds, AreInTurn, IsBeside, Settles, Step}
use Rattle.ffa_stage2.specs.Amid.{Amid, AreTheirs, Begun, CouldWrite, IsAmong, IsOthers, IsPage, MayWrite, Moment, Others, Own, before, behind, is_one_of}
use Rattle.ffa_stage2.specs.Blocks.{block_word}
use Rattle.ffa_stage2.specs.Held.{HeldBetween, MayHold}
use Rattle.ffa_stage2.specs.Mixed.{MixedBetween, MixturesBetween}
use Rattle.ffa_stage2.specs.Mixtures.{IsMixture, MayRead, page_at}
use Rattle.ffa_stage2.specs.Moments.{walk_at}
use Rattle.ffa_stage2.specs.Rest.{AreAtRest, IsAsIn, Reads}
use Rattle.ffa_stage2.specs.Tables.{HasRoom, IsAside, KeepsTables, level1_place, level2_place, table_link, table_page}
use Rattle.ffa_stage2.proofs.Descriptors.{entry-page, from_level1-table, from_level1-zero, from_level2-block_word, from_level2-table, from_level2-zero}
use Rattle.ffa_stage2.proofs.Kept.{HasRoom-kept}
use Rattle.ffa_stage2.proofs.Mixtures.{IsAsInEither, may-now, mixed-between}
use Rattle.ffa_stage2.proofs.Places.{IsTablePage, not-both, table_page-address, table_page-below_end, table_page-there}
use Rattle.ffa_stage2.proofs.Rest.{held-mixed, reads-more}
use Rattle.ffa_stage2.proofs.Unshaken.{hold-now}

-- a walk that leads through the tables, where other RAM has the same tables
module _ (m o : Ram) (n tables b e a : ℕ) (h : List Step) (fits : HasRoom m n tables b) (keeps : KeepsTables m o n tables b) (he : e < n) (ha : a < 2 ^ 32) (reads : Reads m.base n tables b h m (IsAsIn m tables b)) where
  other : HasRoom o n tables b
  other = HasRoom-kept m o n tables b fits keeps.base keeps.size

  same-page : (t : ℕ) → t < table_pages b → page_of o (table_page tables b e t) ≡ page_of m (table_page tables b e t)
  same-page t ht = let (from, below) = table_page-there n tables b e t he ht in keeps.pages (table_page tables b e t) from below

  same-entry : (t j : ℕ) → t < table_pages b → entry o (o.base + 4096 * table_page tables b e t) j ≡ entry m (m.base + 4096 * table_page tables b e t) j
  same-entry t j ht =
      entry-page o (table_page tables b e t) j ∙ ap (λ (bytes : List ℕ). word_of bytes j) (same-page t ht) ∙ sym (entry-page m (table_page tables b e t) j)

  -- from a word of level 2 that walks may read
  from-zero : (word : ℕ) → word ≡ 0 → from_level2 o word a ≡ from_level2 m word a
  from-zero word is = ap (λ (w : ℕ). from_level2 o w a) is ∙ from_level2-zero o a ∙ sym (ap (λ (w : ℕ). from_level2 m w a) is ∙ from_level2-zero m a)

  from-block : (k : ℕ) → k < b → (r : Rights) (word : ℕ) → word ≡ block_word (m.base + 0x200000 * k) r → from_level2 o word a ≡ from_level2 m word a
  from-block k hk r word is =
      let g : ℕ = (m.base + 0x200000 * k) / 0x200000 in
      let aligned : m.base % 0x200000 ≡ 0 = fits.place in
      let one : m.base % 2 ^ 30 + 0x200000 * b ≤ 2 ^ 30 = fits.one_table in
      let within : m.base + 0x200000 * b ≤ 2 ^ 32 = fits.within in
      let address : m.base + 0x200000 * k ≡ 0x200000 * g = omega arith in
      let at : word ≡ block_word (0x200000 * g) r = is ∙ ap (λ (x : ℕ). block_word x r) address in
      let small : g < 2 ^ 27 = omega arith in
      ap (λ (w : ℕ). from_level2 o w a) at ∙ from_level2-block_word o r g a small
      ∙ sym (ap (λ (w : ℕ). from_level2 m w a) at ∙ from_level2-block_word m r g a small)

  from-table : (k : ℕ) → k < b → (word : ℕ) → word ≡ table_link m.base tables b e (2 + k) → from_level2 o word a ≡ from_level2 m word a
  from-table k hk word is =
      let t : ℕ = m.base + 4096 * table_page tables b e (2 + k) in
      let aligned : m.base % 0x200000 ≡ 0 = fits.place in
      let one : m.base % 2 ^ 30 + 0x200000 * b ≤ 2 ^ 30 = fits.one_table in
      let within : m.base + 0x200000 * b ≤ 2 ^ 32 = fits.within in
      let size : length m.pages ≡ 512 * b = fits.size in
      let room : tables + n * table_pages b ≤ 512 * b = fits.room in
      let below = table_page-below_end n tables b e (2 + k) he (omega (arith, hk)) in
      let small : t < 2 ^ 48 = omega (arith, below) in
      let even : t % 4096 ≡ 0 = omega arith in
      let there : o.base + 4096 * table_page tables b e (2 + k) ≡ t = ap (λ (c : ℕ). c + 4096 * table_page tables b e (2 + k)) keeps.base in
      ap (λ (w : ℕ). from_level2 o w a) is
      ∙ from_level2-table o t a small even (subst (λ (x : ℕ). is_page_address o x ≡ true) there (table_page-address o n tables b e (2 + k) other he (omega (arith, hk))))
      ∙ ap (λ (w : ℕ). from_level3 w a) (ap (λ (x : ℕ). entry o x (bits 20 12 a)) (sym there) ∙ same-entry (2 + k) (bits 20 12 a) (omega (arith, hk)))
      ∙ sym (ap (λ (w : ℕ). from_level2 m w a) is
      ∙ from_level2-table m t a small even (table_page-address m n tables b e (2 + k) fits he (omega (arith, hk))))

  -- the word of level 2 on the way
  in-second : (j word : ℕ) → j < 512 → word ≡ word_of (page_of m (table_page tables b e 1)) j → from_level2 o word a ≡ from_level2 m word a
  in-second j word hj at =
      let first : ℕ = level2_place m.base in
      let few : b ≤ MOST_BLOCKS = fits.few in
      elim (cases_lt j first) [
        | inl low ↦ from-zero word (at ∙ reads.outside e 0 j _ he (omega arith) hj (inl low) (may-now e 0 h m (table_page tables b e 1) j))
        | inr from ↦ elim (cases_lt j (first + b)) [
          | inr high ↦ from-zero word (at ∙ reads.outside e 0 j _ he (omega arith) hj (inr high) (may-now e 0 h m (table_page tables b e 1) j))
          | inl below ↦
              let k : ℕ = j - first in
              let hk : k < b = omega arith in
              let jk : j ≡ first + k = omega arith in
              let here : word ≡ word_of (page_of m (table_page tables b e 1)) (first + k) = at ∙ ap (λ (i : ℕ). word_of (page_of m (table_page tables b e 1)) i) jk in
              elim (reads.each e k 0 he hk (omega arith)) [
                | inl x ↦ elim (x.middle _ (may-now e (512 * k + 0) h m (table_page tables b e 1) (first + k))) [
                  | inl none ↦ from-zero word (here ∙ none)
                  | inr (r, its, is) ↦ from-block k hk r word (here ∙ is)
                ]
                | inr x ↦ elim (x.middle _ (may-now e (512 * k + 0) h m (table_page tables b e 1) (first + k))) [
                  | inl none ↦ from-zero word (here ∙ none)
                  | inr link ↦ from-table k hk word (here ∙ link)
                ]
              ]
        ]
      ]

  pub walk-kept : walk_at o tables b e a ≡ walk_at m tables b e a
  unfolding walk
  walk-kept =
      let j : ℕ = bits 31 30 a in
      let hj : j < 512 = omega arith in
      let fits' : nat_lt a (2 ^ 32) ≡ true = grind (arith, nat_tests) in
      let aligned : m.base % 0x200000 ≡ 0 = fits.place in
      let one : m.base % 2 ^ 30 + 0x200000 * b ≤ 2 ^ 30 = fits.one_table in
      let within : m.base + 0x200000 * b ≤ 2 ^ 32 = fits.within in
      let size : length m.pages ≡ 512 * b = fits.size in
      let room : tables + n * table_pages b ≤ 512 * b = fits.room in
      let root : root_of m.base tables b e ≡ m.base + 4096 * table_page tables b e 0 = omega arith in
      let root' : root_of o.base tables b e ≡ o.base + 4096 * table_page tables b e 0 = omega arith in
      let top : entry o (root_of o.base tables b e) j ≡ entry m (root_of m.base tables b e) j =
      ap (λ (t : ℕ). entry o t j) root' ∙ same-entry 0 j (omega arith) ∙ sym (ap (λ (t : ℕ). entry m t j) root)
      in
      let word = ap (λ (t : ℕ). entry m t j) root ∙ entry-page m (table_page tables b e 0) j ∙ reads.level1 e 0 j _ he (omega arith) hj (may-now e 0 h m (table_page tables b e 0) j) in
      rw fits' (ap (λ (w : ℕ). from_level1 o w a) top ∙ elim (cases_eq j (level1_place m.base)) [
        | inl at ↦
            let t : ℕ = m.base + 4096 * table_page tables b e 1 in
            let below = table_page-below_end n tables b e 1 he (omega arith) in
            let small : t < 2 ^ 48 = omega (arith, below) in
            let even : t % 4096 ≡ 0 = omega arith in
            let here : (j == level1_place m.base) ≡ true = grind (arith, nat_tests) in
            let there : o.base + 4096 * table_page tables b e 1 ≡ t = ap (λ (c : ℕ). c + 4096 * table_page tables b e 1) keeps.base in
            let link : entry m (root_of m.base tables b e) j ≡ table_link m.base tables b e 1 = word ∙ rw here refl in
            ap (λ (w : ℕ). from_level1 o w a) link
            ∙ from_level1-table o t a small even (subst (λ (x : ℕ). is_page_address o x ≡ true) there (table_page-address o n tables b e 1 other he (omega arith)))
            ∙ ap (λ (w : ℕ). from_level2 o w a) (ap (λ (x : ℕ). entry o x (bits 29 21 a)) (sym there) ∙ same-entry 1 (bits 29 21 a) (omega arith))
            ∙ in-second (bits 29 21 a) _ (omega arith) (entry-page m (table_page tables b e 1) (bits 29 21 a))
            ∙ sym (ap (λ (w : ℕ). from_level1 m w a) link ∙ from_level1-table m t a small even (table_page-address m n tables b e 1 fits he (omega arith)))
        | inr off ↦
            let none : (j == level1_place m.base) ≡ false = grind (arith, nat_tests) in
            let zero : entry m (root_of m.base tables b e) j ≡ 0 = word ∙ rw none refl in
            ap (λ (w : ℕ). from_level1 o w a) zero ∙ from_level1-zero o a ∙ sym (ap (λ (w : ℕ). from_level1 m w a) zero ∙ from_level1-zero m a)
      ])

-- ---- memory amid others

page-or : (p : ℕ) (pages : List ℕ) (q : ℕ) → is_one_of (p ∷ pages) q ≡ true → (q ≡ p) ⊎ (is_one_of pages q ≡ true)
page-or p pages q is = elim (cases_eq p q) [
  | inl same ↦ inl (sym same)
  | inr far ↦ inr (let off : (p == q) ≡ false = grind (arith, nat_tests) in subst (λ (c : Bool). (c || is_one_of pages q) ≡ true) off is)
]

page-nor : (p : ℕ) (pages : List ℕ) (q : ℕ) → is_one_of (p ∷ pages) q ≡ false → (q ≡ p → ⊥) × (is_one_of pages q ≡ false)
page-nor p pages q none = elim (cases_eq p q) [
  | inl same ↦ let here : (p == q) ≡ true = grind (arith, nat_tests) in absurd (true≢false (subst (λ (c : Bool). (c || is_one_of pages q) ≡ false) here none))
  | inr far ↦
      let off : (p == q) ≡ false = grind (arith, nat_tests) in
      ((λ same. far (sym same)), subst (λ (c : Bool). (c || is_one_of pages q) ≡ false) off none)
]

-- what lets an endpoint write at a moment is what lets it before all steps or behind all
abbrev pub Leads : Ram → Ram → ℕ → ℕ → ℕ → List Step → Ram → Type 0
Leads old new n tables b h ram =
    (e a : ℕ) (leaf : Leaf) → e < n → a < 2 ^ 32 → MayHold tables b e (page_at ram a) a h ram (Ok leaf)
    → (walk_at old tables b e a ≡ Ok leaf) ⊎ (walk_at new tables b e a ≡ Ok leaf)

-- so it is of a step that follows on what is before it
abbrev pub LeadsBehind : Ram → Ram → ℕ → ℕ → ℕ → List Step → Step → Type 0
LeadsBehind old new n tables b h s = AreInTurn (s ∷ h) s.after × Leads old new n tables b (s ∷ h) s.after × HeldBetween old new n tables b (s ∷ h) s.after

settles-too : (e p : ℕ) (s x : Step) → x.settled ≡ s.settled → Settles e p s → Settles e p x
settles-too e p s x same (its, is, whose, inside) = (its, same ∙ is, whose, inside)

module _ (old new : Ram) (n tables b : ℕ) (g : List Step) (begun : (s : Step) × (earlier : List Step) × (g ≡ s ∷ earlier)) (turn : AreInTurn g old) (first : Leads old new n tables b g old) (at_rest : HeldBetween old new n tables b g old)
    (far : (e a : ℕ) (leaf : Leaf) → e < n → a < 2 ^ 32 → (walk_at old tables b e a ≡ Ok leaf) ⊎ (walk_at new tables b e a ≡ Ok leaf) → IsAside n tables b (page_at old leaf.phys)) where
  abbrev origin : Moment
  origin = record { history = g; ram = old }

  -- what memory has in common with the RAM that nobody else wrote to
  pub record Along (alone memory : Moment) (written : List ℕ) : Type 0 where
    pub place : memory.ram.base ≡ old.base
    pub some : (s : Step) × (earlier : List Step) × (memory.history ≡ s ∷ earlier)
    pub follow : AreInTurn memory.history memory.ram
    pub leads : Leads old new n tables b alone.history alone.ram
    pub between : HeldBetween old new n tables b alone.history alone.ram
    pub reads :
        (e p page i v : ℕ) → IsTablePage n tables b page → MayRead e p memory.history memory.ram page i v
        → MayRead e p alone.history alone.ram page i v
    pub holds :
        (e p a : ℕ) (answer : Answer) → e < n → MayHold tables b e p a memory.history memory.ram answer → MayHold tables b e p a alone.history alone.ram answer
    pub theirs : AreTheirs old new n tables b written
    pub beside : IsBeside alone.ram memory.ram (is_one_of written)
    pub bytes : (p : ℕ) → is_one_of written p ≡ true → IsPage (page_of memory.ram p)

  off-tables : (written : List ℕ) → AreTheirs old new n tables b written → (page : ℕ) → IsTablePage n tables b page → is_one_of written page ≡ false
  off-tables written theirs page low = false_from_ne_true (is_one_of written page) (λ is. not-both n tables b page low (theirs.aside page is))

  -- a mixture of memory is one of the RAM
  pub mixture-alone : (alone memory : Moment) (e p : ℕ) (mixed : Ram) → e < n → memory.ram.base ≡ alone.ram.base → length memory.ram.pages ≡ length alone.ram.pages
      → ((e p page i v : ℕ) → IsTablePage n tables b page → MayRead e p memory.history memory.ram page i v → MayRead e p alone.history alone.ram page i v)
      → IsMixture tables b e p memory.history memory.ram mixed → IsMixture tables b e p alone.history alone.ram mixed
  mixture-alone alone memory e p mixed he base size reads mix = record {
    base = mix.base ∙ base;
    size = mix.size ∙ size;
    words = λ t i ht hi. reads e p (table_page tables b e t) i _ (table_page-there n tables b e t he ht) (mix.words t i ht hi);
  }

  at-first : Along origin origin []
  at-first = record {
    place = refl;
    some = begun;
    follow = turn;
    leads = first;
    between = at_rest;
    reads = λ e p page i v low read. read;
    holds = λ e p a answer he held. held;
    theirs = record { aside = λ p none. absurd (false≢true none); could = λ p none. absurd (false≢true none) };
    beside = record { base = refl; size = refl; pages = λ p off. refl };
    bytes = λ p none. absurd (false≢true none);
  }

  -- a step as it is done in memory
  module _ (s : Step) (h : List Step) (x : Step) (memory : List Step) (written kept : List ℕ) (along : Along (before s h) (before x memory) written)
      (among : IsAmong written kept s x) (here : LeadsBehind old new n tables b h s) where
    still-theirs : AreTheirs old new n tables b kept
    still-theirs = record { aside = λ p is. along.theirs.aside p (among.fewer p is); could = λ p is. along.theirs.could p (among.fewer p is) }

    now-reads : (e p page i v : ℕ) → IsTablePage n tables b page → MayRead e p (x ∷ memory) x.after page i v → MayRead e p (s ∷ h) s.after page i v
    now-reads e p page i v low (inl is) = inl (is ∙ ap (λ (bytes : List ℕ). word_of bytes i) (among.pages page (off-tables kept still-theirs page low)))
    now-reads e p page i v low (inr (off, read)) = inr ((λ settles. off (settles-too e p s x among.settled settles)), along.reads e p page i v low read)

    base-same : x.after.base ≡ s.after.base
    base-same = among.placed.base ∙ along.beside.base ∙ sym here.0.1.base

    size-same : length x.after.pages ≡ length s.after.pages
    size-same = among.placed.size ∙ along.beside.size ∙ sym here.0.1.size

    now-holds : (e p a : ℕ) (answer : Answer) → e < n → MayHold tables b e p a (x ∷ memory) x.after answer → MayHold tables b e p a (s ∷ h) s.after answer
    now-holds e p a answer he (inl (mixed, mix, is)) = inl (mixed, mixture-alone (behind s h) (behind x memory) e p mixed he base-same size-same now-reads mix, is)
    now-holds e p a answer he (inr (off, held)) = inr ((λ settles. off (settles-too e p s x among.settled settles)), along.holds e p a answer he held)

    own-step : Along (behind s h) (behind x memory) kept
    own-step = record {
      place = among.placed.base ∙ along.place;
      some = (x, memory, refl);
      follow = (refl, among.placed, along.follow);
      leads = here.1;
      between = here.2;
      reads = now-reads;
      holds = now-holds;
      theirs = still-theirs;
      beside = record { base = base-same; size = size-same; pages = among.pages };
      bytes = among.bytes;
    }

  -- a step of others
  module _ (alone : Moment) (p : ℕ) (x : Step) (memory : List Step) (written : List ℕ) (along : Along alone (before x memory) written) (may : MayWrite n tables b p (before x memory))
      (others : IsOthers p x) where
    same-place : x.before.base ≡ alone.ram.base
    same-place = along.beside.base

    led : (walk_at old tables b may.endpoint may.address ≡ Ok may.leaf) ⊎ (walk_at new tables b may.endpoint may.address ≡ Ok may.leaf)
    led =
        along.leads may.endpoint may.address may.leaf may.one may.low
        (subst (λ (c : ℕ). MayHold tables b may.endpoint ((may.address - c) / 4096) may.address alone.history alone.ram (Ok may.leaf)) same-place
        (along.holds may.endpoint (page_at x.before may.address) may.address (Ok may.leaf) may.one may.held))

    their-page : page_at old may.leaf.phys ≡ p
    their-page = ap (λ (c : ℕ). (may.leaf.phys - c) / 4096) (sym along.place) ∙ may.lets.page

    theirs-aside : IsAside n tables b p
    theirs-aside = subst (IsAside n tables b) their-page (far may.endpoint may.address may.leaf may.one may.low led)

    theirs-could : CouldWrite old new n tables b p
    theirs-could = record {
      endpoint = may.endpoint;
      one = may.one;
      address = may.address;
      low = may.low;
      leaf = may.leaf;
      walk = led;
      lets = record { write = may.lets.write; page = their-page };
    }

    others-reads : (e q page i v : ℕ) → IsTablePage n tables b page → MayRead e q (x ∷ memory) x.after page i v → MayRead e q alone.history alone.ram page i v
    others-reads e q page i v low (inl is) =
        along.reads e q page i v low
        (subst (MayRead e q memory x.before page i) (sym (is ∙ ap (λ (bytes : List ℕ). word_of bytes i) (others.pages page (λ same. not-both n tables b p (subst (IsTablePage n tables b) same low) theirs-aside))))
        (may-now e q memory x.before page i))
    others-reads e q page i v low (inr (off, read)) = along.reads e q page i v low read

    others-holds : (e q a : ℕ) (answer : Answer) → e < n → MayHold tables b e q a (x ∷ memory) x.after answer → MayHold tables b e q a alone.history alone.ram answer
    others-holds e q a answer he (inl (mixed, mix, is)) =
        hold-now tables b e q a alone.history alone.ram answer
        (mixed, mixture-alone alone (behind x memory) e q mixed he (others.placed.base ∙ along.beside.base) (others.placed.size ∙ along.beside.size) others-reads mix, is)
    others-holds e q a answer he (inr (off, held)) = along.holds e q a answer he held

    others-step : Along alone (behind x memory) (p ∷ written)
    others-step = record {
      place = others.placed.base ∙ along.place;
      some = (x, memory, refl);
      follow = (refl, others.placed, along.follow);
      leads = along.leads;
      between = along.between;
      reads = others-reads;
      holds = others-holds;
      theirs = record {
        aside = λ q is. elim (page-or p written q is) [
          | inl same ↦ subst (IsAside n tables b) (sym same) theirs-aside
          | inr earlier ↦ along.theirs.aside q earlier
        ];
        could = λ q is. elim (page-or p written q is) [
          | inl same ↦ subst (CouldWrite old new n tables b) (sym same) theirs-could
          | inr earlier ↦ along.theirs.could q earlier
        ];
      };
      beside = record {
        base = others.placed.base ∙ along.beside.base;
        size = others.placed.size ∙ along.beside.size;
        pages = λ q off. let (far', rest) = page-nor p written q off in others.pages q far' ∙ along.beside.pages q rest;
      };
      bytes = λ q is. elim (cases_eq q p) [
        | inl same ↦ subst (λ (r : ℕ). IsPage (page_of x.after r)) (sym same) others.bytes
        | inr far' ↦ elim (page-or p written q is) [
          | inl same ↦ absurd (far' same)
          | inr earlier ↦ subst IsPage (sym (others.pages q far')) (along.bytes q earlier)
        ]
      ];
    }

  -- there are at least the steps that there were at first
  longer : (alone memory : Moment) (written : List ℕ) → Amid n tables b origin alone memory written → length g ≤ length alone.history
  longer alone memory written Begun = omega arith
  longer alone memory written (Own s h x earlier pages kept amid among) = omega (arith, longer (before s h) (before x earlier) pages amid)
  longer alone memory written (Others alone' p x earlier rest amid may others) = longer alone (before x earlier) rest amid

  -- so it is of memory amid others
  pub along-amid : (alone memory : Moment) (written : List ℕ) → Amid n tables b origin alone memory written → Adds (Some g) (λ h s. LeadsBehind old new n tables b h s) alone.history
      → Along alone memory written
  along-amid alone memory written Begun adds = at-first
  along-amid alone memory written (Own s h x earlier pages kept amid among) (inl was) =
      absurd (omega (arith, longer (before s h) (before x earlier) pages amid, ap (λ (l : List Step). length l) (same_Some g (s ∷ h) was)))
  along-amid alone memory written (Own s h x earlier pages kept amid among) (inr (here, adds)) =
      own-step s h x earlier pages kept (along-amid (before s h) (before x earlier) pages amid adds) among here
  along-amid alone memory written (Others alone' p x earlier rest amid may others) adds =
      others-step alone p x earlier rest (along-amid alone (before x earlier) rest amid adds) may others

  -- what may be held of memory
  pub held-amid : (alone memory : Moment) (written : List ℕ) → Along alone memory written → HeldBetween old new n tables b memory.history memory.ram
  held-amid alone memory written along a answer ha each =
      along.between a answer ha (λ e he.
      along.holds e (page_at alone.ram a) a (answer e) he
      (subst (λ (c : ℕ). MayHold tables b e ((a - c) / 4096) a memory.history memory.ram (answer e)) along.beside.base (each e he)))

  -- at the end of all steps memory has the tables of the other RAM, and they are at rest in it
  module _ (room : HasRoom new n tables b) (h : List Step) (memory : Moment) (written : List ℕ) (rest : AreAtRest new n tables b h) (along : Along (record { history = h; ram = new }) memory written) where
    pub keeps-amid : KeepsTables new memory.ram n tables b
    keeps-amid = record {
      base = along.beside.base;
      size = along.beside.size;
      pages = λ p from below. along.beside.pages p (off-tables written along.theirs p (from, below));
    }

    pub walks-amid : (e a : ℕ) → e < n → a < 2 ^ 32 → walk_at memory.ram tables b e a ≡ walk_at new tables b e a
    walks-amid e a he ha = walk-kept new memory.ram n tables b e a h room keeps-amid he ha rest.reads

    as-amid : (e p : ℕ) → e < n → p < 512 * b → (r : Option Rights) → IsAsIn new tables b e p r → IsAsIn memory.ram tables b e p r
    as-amid e p he hp r (inl none) = inl none
    as-amid e p he hp r (inr walked) = inr (λ i hi.
        let within : new.base + 0x200000 * b ≤ 2 ^ 32 = room.within in
        subst (λ (c : ℕ). mapped_answer r (c + 4096 * p + i) ≡ walk_at memory.ram tables b e (c + 4096 * p + i)) (sym along.beside.base)
        (walked i hi ∙ sym (walks-amid e (new.base + 4096 * p + i) he (omega (arith, within, hp, hi)))))

    low-page : (e t : ℕ) → e < n → t < table_pages b → IsTablePage n tables b (table_page tables b e t)
    low-page e t he ht = table_page-there n tables b e t he ht

    reads-amid : Reads new.base n tables b memory.history memory.ram (IsAsIn memory.ram tables b)
    reads-amid = record {
      level1 = λ e p i v he hp hi read. rest.reads.level1 e p i v he hp hi (along.reads e p (table_page tables b e 0) i v (low-page e 0 he (omega arith)) read);
      outside = λ e p i v he hp hi off read. rest.reads.outside e p i v he hp hi off (along.reads e p (table_page tables b e 1) i v (low-page e 1 he (omega arith)) read);
      each = λ e k j he hk hj.
          let second = along.reads e (512 * k + j) (table_page tables b e 1) (level2_place new.base + k) in
          let third = along.reads e (512 * k + j) (table_page tables b e (2 + k)) j in
          let more = as-amid e (512 * k + j) he (omega (arith, hk, hj)) in
          elim (rest.reads.each e k j he hk hj) [
            | inl x ↦ inl (record {
              middle = λ v read. elim (x.middle v (second v (low-page e 1 he (omega arith)) read)) [ inl none ↦ inl none | inr (r, its, is) ↦ inr (r, more (Some r) its, is) ];
            })
            | inr x ↦ inr (record {
              middle = λ v read. x.middle v (second v (low-page e 1 he (omega arith)) read);
              leaf = λ v read. let (r, its, is) = x.leaf v (third v (low-page e (2 + k) he (omega (arith, hk))) read) in (r, more r its, is);
            })
          ];
    }

    pub rest-amid : AreAtRest memory.ram n tables b memory.history
    rest-amid = record {
      begun = along.some;
      turn = along.follow;
      reads = subst (λ (c : ℕ). Reads c n tables b memory.history memory.ram (IsAsIn memory.ram tables b)) (sym along.beside.base) reads-amid;
    }

-- what a translation unit may hold, where walks in mixtures give what they give in either of two RAMs
pub leads-mixed : (old new ram : Ram) (n tables b : ℕ) (h : List Step) → AreInTurn h ram → MixedBetween old new n tables b h ram → Leads old new n tables b h ram
leads-mixed old new ram n tables b h turn between e a leaf he ha held =
    let (mixed, mix, is) = held-mixed tables b e (page_at ram a) a h ram (Ok leaf) turn held in
    elim (between e a mixed he ha mix) [
      | inl was ↦ inl (sym was ∙ sym is)
      | inr (inl now) ↦ inr (sym now ∙ sym is)
      | inr (inr none) ↦ absurd (ok-err leaf (is ∙ none))
    ]
  where
    ok-err : (leaf : Leaf) → (let ok : Answer = Ok leaf in ok) ≡ Err Translation → ⊥
    ok-err leaf same = false≢true (sym (ap (λ (x : Answer). is_ok x) same))

-- at rest, of each endpoint
pub mixed-rest : (old new : Ram) (n tables b : ℕ) (h : List Step) → HasRoom old n tables b → new.base ≡ old.base → AreAtRest old n tables b h → MixedBetween old new n tables b h old
mixed-rest old new n tables b h room base rest =
    mixed-between old new old n tables b h room refl base (reads-more old.base n tables b h old (IsAsIn old tables b) (IsAsInEither old new tables b) (λ e k j he hk hj r its. inl its) rest.reads)

-- at rest, of all endpoints at once
pub held-rest : (old new : Ram) (n tables b : ℕ) (h : List Step) → HasRoom old n tables b → AreAtRest old n tables b h → HeldBetween old new n tables b h old
held-rest old new n tables b h room rest a answer ha each = inl (λ e he.
    let (mixed, mix, is) = held-mixed tables b e (page_at old a) a h old (answer e) rest.turn (each e he) in
    elim (mixed-rest old old n tables b h room refl rest e a mixed he ha mix) [
      | inl same ↦ inl (is ∙ same)
      | inr (inl same) ↦ inl (is ∙ same)
      | inr (inr none) ↦ inr (is ∙ none)
    ])

-- what may be held is the answer of a walk in a mixture
pub held-between : (old new ram : Ram) (n tables b : ℕ) (h : List Step) → AreInTurn h ram → MixturesBetween old new n tables b h ram → HeldBetween old new n tables b h ram
held-between old new ram n tables b h turn between a answer ha held =
    elim (between a (λ e. (pick e).0) ha (λ e he. ((pick e).1 he).0)) [
      | inl each ↦ inl (λ e he. elim (each e he) [ inl is ↦ inl (((pick e).1 he).1 ∙ is) | inr none ↦ inr (((pick e).1 he).1 ∙ none) ])
      | inr each ↦ inr (λ e he. elim (each e he) [ inl is ↦ inl (((pick e).1 he).1 ∙ is) | inr none ↦ inr (((pick e).1 he).1 ∙ none) ])
    ]
  where
    pick : (e : ℕ) → (m : Ram) × (e < n → IsMixture tables b e (page_at ram a) h ram m × (answer e ≡ walk_at m tables b e a))
    pick e = elim (cases_lt e n) [
      | inl lt ↦ let (m, mix, is) = held-mixed tables b e (page_at ram a) a h ram (answer e) turn (held e lt) in (m, λ _. (mix, is))
      | inr out ↦ (ram, λ lt. absurd (omega (arith, out, lt)))
    ]
