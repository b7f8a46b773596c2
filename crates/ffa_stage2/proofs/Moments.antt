-- SPDX-License-Identifier: MIT OR Apache-2.0
-- On the way to other rights: what stands between two writes.
use Rattle.std.proofs.Common.{◌≡◌, ◌≢◌, ◌∙◌, ℕ, ◌+◌, ◌-◌, ◌*◌, ◌/◌, ◌%◌, ◌^◌, ◌<◌, ◌≤◌, true, false, refl, ap, sym, subst, arith, List, length, Option, Some, None, Ok, Err, inl, inr, ◌⊎◌, ◌==◌, ◌&&◌, nat_le, nat_lt, if◌then◌else◌, Bool, is_some, is_ok}
use Rattle.std.proofs.lemmas.Bool.{cases_lt, cases_eq, cases_Bool, false_from_ne_true, false≢true, true≢false}
use Rattle.std.proofs.lemmas.Bool.Decides.{nat_tests}
use Rattle.ffa_model.specs.Ram.{Ram, page_of, with_page, word_of, with_word}
use Rattle.ffa_model.specs.Rights.{may_write}
use Rattle.ffa_model.specs.Walk.{Answer, is_in_ram, mapped_answer}
use Rattle.ffa_model.specs.Descriptor.{page_word}
use Rattle.ffa_model.specs.declared.operation.FaultKind.TheVariants.{Translation}
use Rattle.ffa_model.specs.declared.rights.Data.{Data}
use Rattle.ffa_model.specs.declared.rights.Data.TheVariants.{Ro, Rw}
use Rattle.ffa_model.specs.declared.rights.Rights.{Rights}
use Rattle.ffa_stage2.specs.declared.blocks.BlockPlace.{BlockPlace}
use Rattle.ffa_physmem.specs.Moments.{IsBeside, IsSettledBy, Past, Step}
use Rattle.ffa_stage2.specs.Blocks.{IsBlock, IsEither, block_word}
use Rattle.ffa_stage2.specs.Moments.{EndsSettled, IsBetween, IsInOrder, IsMoment, IsNoMore, KeepsAside, WalksBetween, WalksSameIn, WritesUnreached, walk_at}
use Rattle.ffa_stage2.specs.Tables.{IsAside, IsBuilt, IsSameIn, IsStanding, rights_of_block, table_page, with_pages}
use Rattle.ffa_stage2.specs.Orders.{IsBlockWrite, IsLeafWrite, IsLinkOrBlock, IsOrdered, IsSettledLast, IsWritten, KeepsWords}
use Rattle.ffa_stage2.specs.Places.{IsPlace, IsPlaceOf, Maps, Names, KeepsBeside, IsCut, IsOneOf, IsOrderly, IsFilled, IsFilling, IsOnTheWay, IsSameRun, with_run, word_at}
use Rattle.ffa_stage2.proofs.Changes.{standing-beside}
use Rattle.ffa_stage2.proofs.Kept.{built_by-kept}
use Rattle.ffa_stage2.proofs.OneBlock.{IsPlace-kept, IsEither-rights, KeepsBeside-of_middle, KeepsBeside-then, stands-of_maps, written, written-middle}
use Rattle.ffa_stage2.proofs.PageRuns.{KeepsBeside-of_filled, with_run-here, with_run-low, with_run-high}
use Rattle.ffa_stage2.proofs.Rights.{with_pages-other, with_pages-more}
use Rattle.ffa_stage2.proofs.RunChanges.{with_pages-block}
use Rattle.ffa_stage2.proofs.Walks.{walk-standing, standing-of_built, walk-built}
use Rattle.ffa_stage2.proofs.Places.{IsTablePage, not-both, table_page-there}

-- ---- at one place

-- nothing changed but words of the level 3 page
pub record IsApart (old ram : Ram) (x : BlockPlace) : Type 0 where
  pub beside : KeepsBeside old ram x
  pub middle : page_of ram x.middle.0 ≡ page_of old x.middle.0

pub apart-same : (old : Ram) (x : BlockPlace) → IsPlace old x → IsApart old old x
apart-same old x place = record {
  beside = record {
    base = refl;
    size = refl;
    pages = λ _ _ _. refl;
    words = λ _ _ _. refl;
    whole_middle = place.whole_middle;
    whole_table = place.whole_table;
  };
  middle = refl;
}

pub apart-filled : (old middle ram : Ram) (x : BlockPlace) (from to : ℕ) (word : ℕ → ℕ) → IsPlace old x → IsApart old middle x → IsFilled middle ram x.table.0 from to word → IsApart old ram x
apart-filled old middle ram x from to word place apart filled = record {
  beside = KeepsBeside-then old middle ram x apart.beside (KeepsBeside-of_filled middle ram x from to word (IsPlace-kept old middle x place apart.beside) filled);
  middle = filled.pages x.middle.0 place.apart ∙ apart.middle;
}

-- while a block stands its level 3 page may be written
pub way-apart : (old ram : Ram) (x : BlockPlace) (rights : ℕ → Option Rights) (from to : ℕ) (right : Option Rights) → IsBlock (word_at old x) x.address rights
    → IsApart old ram x → IsOnTheWay old ram x rights from to right
way-apart old ram x rights from to right block apart =
    let word : word_at ram x ≡ word_at old x = ap (λ (bytes : List ℕ). word_of bytes x.entry) apart.middle in
    record {
      now = rights;
      stands = inl (record { right = block.right; one = block.one; is = word ∙ block.is });
      each = λ j. inl refl;
      beside = apart.beside;
    }

pub way-filling : (old middle ram : Ram) (x : BlockPlace) (rights : ℕ → Option Rights) (from to : ℕ) (right : Option Rights) (low high : ℕ) (word : ℕ → ℕ) → IsPlace old x
    → IsBlock (word_at old x) x.address rights → IsApart old middle x → IsFilling middle ram x.table.0 low high word → IsOnTheWay old ram x rights from to right
way-filling old middle ram x rights from to right low high word place block apart (next, _, _, filled) =
    way-apart old ram x rights from to right block (apart-filled old middle ram x low next word place apart filled)

-- a table some of whose words were written
pub names-filled : (old ram : Ram) (x : BlockPlace) (rights : ℕ → Option Rights) (from next : ℕ) (right : Option Rights) → IsPlace old x → Names old x rights
    → IsFilled old ram x.table.0 from next (λ j. page_word (x.address + 4096 * j) right) → Names ram x (with_run rights from next right)
names-filled old ram x rights from next right place names filled = record {
  is = ap (λ (bytes : List ℕ). word_of bytes x.entry) (filled.pages x.middle.0 place.apart) ∙ names.is;
  pages = λ j hj. elim (cases_lt j from) [
    | inl under ↦ rw (with_run-low rights from next right j under) (filled.beside j (inl under) ∙ names.pages j hj)
    | inr above ↦ elim (cases_lt j next) [
      | inl inside ↦ rw (with_run-here rights from next right j (omega (arith, above)) inside) (filled.here j (omega (arith, above)) inside)
      | inr over ↦ rw (with_run-high rights from next right j (omega (arith, over))) (filled.beside j (inr (omega (arith, over))) ∙ names.pages j hj)
    ]
  ];
}

-- while a table stands its words are written one by one
pub way-table : (old ram : Ram) (x : BlockPlace) (rights : ℕ → Option Rights) (from to : ℕ) (right : Option Rights) → IsPlace old x → Names old x rights → to ≤ 512
    → IsFilling old ram x.table.0 from to (λ j. page_word (x.address + 4096 * j) right) → IsOnTheWay old ram x rights from to right
way-table old ram x rights from to right place names few (next, low, high, filled) =
    record {
      now = with_run rights from next right;
      stands = inr (inl (names-filled old ram x rights from next right place names filled));
      each = λ j. elim (run-part rights from next to right j high) [ inl kept ↦ inl kept | inr changed ↦ inr (inl changed) ];
      beside = KeepsBeside-of_filled old ram x from next _ place filled;
    }
  where
    run-part : (rights : ℕ → Option Rights) (from next to : ℕ) (right : Option Rights) (j : ℕ) → next ≤ to
        → (with_run rights from next right j ≡ rights j) ⊎ (with_run rights from next right j ≡ with_run rights from to right j)
    run-part rights from next to right j high = elim (cases_lt j from) [
      | inl under ↦ inl (with_run-low rights from next right j under)
      | inr above ↦ elim (cases_lt j next) [
        | inl inside ↦ inr (with_run-here rights from next right j (omega (arith, above)) inside ∙ sym (with_run-here rights from to right j (omega (arith, above)) (omega (arith, inside, high))))
        | inr over ↦ inl (with_run-high rights from next right j (omega (arith, over)))
      ]
    ]

-- and in the end the rights are the other ones
pub way-end : (old new ram : Ram) (x : BlockPlace) (rights : ℕ → Option Rights) (from to : ℕ) (right : Option Rights) → Maps new x (with_run rights from to right) → KeepsBeside old new x
    → ram ≡ new → IsOnTheWay old ram x rights from to right
way-end old new ram x rights from to right maps beside is = subst (λ r. IsOnTheWay old r x rights from to right) (sym is) (record {
  now = with_run rights from to right;
  stands = stands-of_maps new x (with_run rights from to right) maps;
  each = λ j. inr (inl refl);
  beside = beside;
})

-- while nothing stands no page has a right
pub way-cut : (old ram : Ram) (x : BlockPlace) (rights : ℕ → Option Rights) (from to : ℕ) (right : Option Rights) → IsCut old ram x → IsOnTheWay old ram x rights from to right
way-cut old ram x rights from to right cut = record {
  now = λ j. None;
  stands = inr (inr (record { is = cut.nothing; none = λ j hj. refl }));
  each = λ j. inr (inr refl);
  beside = cut.beside;
}

pub cut-written : (old ram : Ram) (x : BlockPlace) → IsPlace old x → IsWritten old ram x.middle.0 x.entry 0 → IsCut old ram x
cut-written old ram x place write = record { beside = KeepsBeside-of_middle old ram x 0 place write; nothing = write.here }

-- nothing yet, or the end
pub way-replaced : (old new ram : Ram) (x : BlockPlace) (rights : ℕ → Option Rights) (from to : ℕ) (right : Option Rights) → Maps new x (with_run rights from to right) → KeepsBeside old new x
    → (IsCut old ram x ⊎ (ram ≡ new)) → IsOnTheWay old ram x rights from to right
way-replaced old new ram x rights from to right maps beside (inl cut) = way-cut old ram x rights from to right cut
way-replaced old new ram x rights from to right maps beside (inr is) = way-end old new ram x rights from to right maps beside is

-- what was cut of a RAM that is beside another
pub cut-then : (old middle ram : Ram) (x : BlockPlace) → KeepsBeside old middle x → IsCut middle ram x → IsCut old ram x
cut-then old middle ram x beside cut = record { beside = KeepsBeside-then old middle ram x beside cut.beside; nothing = cut.nothing }

-- ---- in order

-- a word of a run
pub one-of-store : (s : Step) (old middle : Ram) (page from place : ℕ) (word : ℕ → ℕ) → page < length middle.pages → length (page_of middle page) ≡ 4096 → place < 512 → word place < 2 ^ 64
    → from ≤ place → IsFilled old middle page from place word → s.before ≡ middle → s.after ≡ with_page middle page (with_word (page_of middle page) place (word place))
    → IsOneOf old page from (place + 1) word s
one-of-store s old middle page from place word below whole few fits low filled before after = record {
  place = place;
  low = low;
  high = omega arith;
  write = subst (λ r. IsWritten r s.after page place (word place)) (sym before) (written middle page place (word place) below whole few fits s.after after);
  was = ap (λ (r : Ram). word_of (page_of r page) place) before ∙ filled.beside place (inr (omega arith));
  others = λ p other. ap (λ (r : Ram). page_of r p) before ∙ filled.pages p other;
}

pub one-more : (old : Ram) (page from to : ℕ) (word : ℕ → ℕ) (s : Step) → IsOneOf old page from to word s → IsOneOf old page from (to + 1) word s
one-more old page from to word s one = record {
  place = one.place;
  low = one.low;
  high = omega (arith, one.high);
  write = one.write;
  was = one.was;
  others = one.others;
}

pub one-up-to : (old : Ram) (page from end to : ℕ) (word : ℕ → ℕ) (s : Step) → end ≤ to → IsOneOf old page from end word s → IsOneOf old page from to word s
one-up-to old page from end to word s high one = record {
  place = one.place;
  low = one.low;
  high = omega (arith, one.high, high);
  write = one.write;
  was = one.was;
  others = one.others;
}

pub one-same : (old : Ram) (page from to : ℕ) (word other : ℕ → ℕ) (s : Step) → to ≤ 512 → IsOneOf old page from to word s → ((j : ℕ) → j < 512 → word j ≡ other j)
    → IsOneOf old page from to other s
one-same old page from to word other s few one same = record {
  place = one.place;
  low = one.low;
  high = one.high;
  write = subst (IsWritten s.before s.after page one.place) (same one.place (omega (arith, one.high, few))) one.write;
  was = one.was;
  others = one.others;
}

-- what is stored was there already
keeps-of-written : (s : Step) (page place value : ℕ) → IsWritten s.before s.after page place value → value ≡ word_of (page_of s.before page) place → KeepsWords s
keeps-of-written s page place value write same p i = elim (cases_eq p page) [
  | inr far ↦ ap (λ (bytes : List ℕ). word_of bytes i) (write.pages p far)
  | inl here ↦ elim (cases_eq i place) [ inl at ↦ rw (here, at) (write.here ∙ same) | inr other ↦ rw here (write.words i other) ]
]

-- a step is orderly where fewer places stay
pub orderly-more : (x : BlockPlace) (h : List Step) (s : Step) (P Q : Type 0) → (Q → P) → IsOrderly x P h s → IsOrderly x Q h s
orderly-more x h s P Q fewer (inl same) = inl same
orderly-more x h s P Q fewer (inr (keeps, write)) = inr ((λ stays. keeps (fewer stays)), write)

-- of the level 3 page while a block stands, which doesn't name it
pub orderly-apart : (x : BlockPlace) (h : List Step) (s : Step) (old ram : Ram) (to from : ℕ) (word : ℕ → ℕ) (Stays : Type 0) → IsPlace old x → IsApart old ram x → word_at old x % 4 ≡ 1 → to ≤ 512
    → (Stays → ⊥) → IsOneOf ram x.table.0 from to word s → IsOrderly x Stays h s
orderly-apart x h s old ram to from word Stays place apart typed few moves one = inr (
  (λ stays. absurd (moves stays)),
  inl (record {
    place = one.place;
    value = word one.place;
    few = omega (arith, one.high, few);
    write = one.write;
    stands = λ none.
        let here : word_at s.before x ≡ word_at old x =
        ap (λ (bytes : List ℕ). word_of bytes x.entry) (one.others x.middle.0 place.apart ∙ apart.middle) in
        omega (arith, typed, ap (λ (w : ℕ). w % 4) (sym here ∙ none));
    alike = λ named.
        let here : word_at s.before x ≡ word_at old x =
        ap (λ (bytes : List ℕ). word_of bytes x.entry) (one.others x.middle.0 place.apart ∙ apart.middle) in
        absurd (omega (arith, place.link, typed, ap (λ (w : ℕ). w % 4) (sym here ∙ named)));
  }),
)

-- of the table that stands
pub orderly-table : (x : BlockPlace) (h : List Step) (s : Step) (old : Ram) (to from : ℕ) (right : Option Rights) (rights : ℕ → Option Rights) → IsPlace old x → Names old x rights → to ≤ 512
    → IsOneOf old x.table.0 from to (λ j. page_word (x.address + 4096 * j) right) s → IsOrderly x (IsSameRun rights from to right) h s
orderly-table x h s old to from right rights place names few one = inr (
  (λ same.
      let hj : one.place < 512 = omega (arith, one.high, few) in
      keeps-of-written s x.table.0 one.place (page_word (x.address + 4096 * one.place) right) one.write
      (ap (λ (q : Option Rights). page_word (x.address + 4096 * one.place) q) (sym (with_run-here rights from to right one.place one.low one.high) ∙ same one.place hj)
      ∙ sym (one.was ∙ names.pages one.place hj))),
  inl (record {
    place = one.place;
    value = page_word (x.address + 4096 * one.place) right;
    few = omega (arith, one.high, few);
    write = one.write;
    stands = λ none.
        let here : word_at s.before x ≡ word_at old x =
        ap (λ (bytes : List ℕ). word_of bytes x.entry) (one.others x.middle.0 place.apart) in
        omega (arith, place.link, ap (λ (w : ℕ). w % 4) (sym names.is ∙ sym here ∙ none));
    alike = λ _. (rights one.place, right, one.was ∙ names.pages one.place (omega (arith, one.high, few)), refl);
  }),
)

-- a write of the level 2 word, as the code does it
pub orderly-write : (x : BlockPlace) (h : List Step) (s : Step) (old : Ram) (value : ℕ) (Stays : Type 0) → (Stays → ⊥) → IsPlace old x → value < 2 ^ 64 → s.before ≡ old
    → s.after ≡ with_page old x.middle.0 (with_word (page_of old x.middle.0) x.entry value)
    → ((value ≡ 0) ⊎ (((word_at s.before x ≡ 0) × IsSettledLast x.endpoint x.first.0 h × IsLinkOrBlock x.link x.address value)
    ⊎ ((r : Rights) × (q : Rights) × (word_at s.before x ≡ block_word x.address r) × (value ≡ block_word x.address q))))
    → IsOrderly x Stays h s
orderly-write x h s old value Stays moves place fits before after order = inr (
  (λ stays. absurd (moves stays)),
  inr (record {
    value = value;
    write = subst (λ r. IsWritten r s.after x.middle.0 x.entry value) (sym before) (written-middle old s.after x value place fits after);
    order = order;
  }),
)

-- a place is the same in RAM that stands alike
pub place-of-kept : (old new : Ram) (tables b e k : ℕ) (x : BlockPlace) → new.base ≡ old.base → IsPlaceOf old tables b e k x → IsPlaceOf new tables b e k x
place-of-kept old new tables b e k x base at = record {
  middle = at.middle;
  entry = rw base at.entry;
  table = at.table;
  link = rw base at.link;
  address = rw base at.address;
  endpoint = at.endpoint;
  first = at.first;
}

-- ---- in the tables of all endpoints

-- fewer pages of a run have the right already
pages-part : (access : ℕ → ℕ → Option Rights) (e first next end : ℕ) (right : Option Rights) (e' p : ℕ) → next ≤ end
    → (with_pages access e first next right e' p ≡ access e' p) ⊎ (with_pages access e first next right e' p ≡ with_pages access e first end right e' p)
pages-part access e first next end right e' p high = elim (cases_Bool (e' == e && (nat_le first p && nat_lt p next))) [
  | inl inside ↦
      let its : (e' == e && (nat_le first p && nat_lt p end)) ≡ true = grind (arith, inside, nat_tests) in
      inr (rw (inside, its))
  | inr off ↦ inl (rw off)
]

-- where one endpoint's rights alone change, all rights to a page are of one of two accesses
pub pagewise : (e : ℕ) (now access after : ℕ → ℕ → Option Rights) (p : ℕ) → (((now e p ≡ access e p) ⊎ (now e p ≡ after e p)) ⊎ (now e p ≡ None))
    → ((e' : ℕ) → e' ≢ e → now e' p ≡ access e' p) → ((e' : ℕ) → e' ≢ e → after e' p ≡ access e' p)
    → ((e' : ℕ) → IsNoMore (now e' p) (access e' p)) ⊎ ((e' : ℕ) → IsNoMore (now e' p) (after e' p))
pagewise e now access after p own now-far after-far = elim own [
  | inl (inl kept) ↦ inl (λ e'. elim (cases_eq e' e) [ inl same ↦ inl (rw same kept) | inr far ↦ inl (now-far e' far) ])
  | inl (inr changed) ↦ inr (λ e'. elim (cases_eq e' e) [ inl same ↦ inl (rw same changed) | inr far ↦ inl (now-far e' far ∙ sym (after-far e' far)) ])
  | inr nothing ↦ inl (λ e'. elim (cases_eq e' e) [ inl same ↦ inr (rw same nothing) | inr far ↦ inl (now-far e' far) ])
]

module _ (old ram : Ram) (n tables b e k first next until end from to : ℕ) (access : ℕ → ℕ → Option Rights) (right : Option Rights) (x : BlockPlace)
    (built : IsBuilt old n tables b (with_pages access e first next right)) (he : e < n) (hk : k < b) (at : IsPlaceOf old tables b e k x)
    (way : IsOnTheWay old ram x (rights_of_block (with_pages access e first next right e) k) from to right)
    (low : first ≤ next) (high : next ≤ until) (all : until ≤ end) (start : 512 * k + from ≡ next) (stop : 512 * k + to ≡ until) (few : to ≤ 512) where
  abbrev before : ℕ → ℕ → Option Rights
  before = with_pages access e first next right

  abbrev now : ℕ → ℕ → Option Rights
  now e' p = if e' == e && (nat_le (512 * k) p && nat_lt p (512 * k + 512)) then way.now (p - 512 * k) else before e' p

  now-here : (j : ℕ) → j < 512 → way.now j ≡ now e (512 * k + j)
  now-here j hj =
      let here : (e == e && (nat_le (512 * k) (512 * k + j) && nat_lt (512 * k + j) (512 * k + 512))) ≡ true = grind (arith, nat_tests) in
      let number : 512 * k + j - 512 * k ≡ j = omega arith in
      rw (here, number)

  now-other : (e' k' j : ℕ) → j < 512 → ((e' ≢ e) ⊎ (k' ≢ k)) → before e' (512 * k' + j) ≡ now e' (512 * k' + j)
  now-other e' k' j hj far =
      let off : (e' == e && (nat_le (512 * k) (512 * k' + j) && nat_lt (512 * k' + j) (512 * k + 512))) ≡ false = elim far [
        | inl other ↦ grind (arith, nat_tests)
        | inr other ↦ elim (cases_lt k' k) [ inl less ↦ grind (arith, nat_tests) | inr more ↦ grind (arith, nat_tests) ]
      ] in
      rw off

  part : (p : ℕ) (r : Option Rights) → ((r ≡ before e p) ⊎ (r ≡ with_pages access e first until right e p))
      → (r ≡ access e p) ⊎ (r ≡ with_pages access e first end right e p)
  part p r (inl is) = elim (pages-part access e first next end right e p (omega (arith, high, all))) [ inl a ↦ inl (is ∙ a) | inr a ↦ inr (is ∙ a) ]
  part p r (inr is) = elim (pages-part access e first until end right e p all) [ inl a ↦ inl (is ∙ a) | inr a ↦ inr (is ∙ a) ]

  in-run : (j : ℕ) → with_run (rights_of_block (before e) k) from to right j ≡ with_pages access e first until right e (512 * k + j)
  in-run j =
      with_pages-block before e k from to right j
      ∙ rw (start, stop) (with_pages-more access e first next until right e (512 * k + j) low high)

  now-own : (p : ℕ) → ((now e p ≡ access e p) ⊎ (now e p ≡ with_pages access e first end right e p)) ⊎ (now e p ≡ None)
  now-own p = elim (cases_Bool (e == e && (nat_le (512 * k) p && nat_lt p (512 * k + 512)))) [
    | inr off ↦ inl (part p (now e p) (inl (rw off)))
    | inl here ↦
        let j : ℕ = p - 512 * k in
        let above : 512 * k ≤ p = grind (arith, here, nat_tests) in
        let number : 512 * k + j ≡ p = omega arith in
        let is : now e p ≡ way.now j = rw here in
        elim (way.each j) [
          | inl kept ↦ inl (part p (now e p) (inl (is ∙ kept ∙ ap (before e) number)))
          | inr (inl changed) ↦ inl (part p (now e p) (inr (is ∙ changed ∙ in-run j ∙ ap (with_pages access e first until right e) number)))
          | inr (inr nothing) ↦ inr (is ∙ nothing)
        ]
  ]

  now-far : (e' p : ℕ) → e' ≢ e → now e' p ≡ access e' p
  now-far e' p far =
      let off : (e' == e && (nat_le (512 * k) p && nat_lt p (512 * k + 512))) ≡ false = grind (arith, nat_tests) in
      rw off (with_pages-other access e first next right e' p (inl far))

  -- one block on its way
  pub between-block : IsBetween ram n tables b access (with_pages access e first end right)
  between-block = record {
    rights = now;
    stands = standing-beside old ram n tables b e k before now x (standing-of_built old n tables b before built) he hk at way.beside
        (IsEither-rights _ _ _ _ way.now (rights_of_block (now e) k) now-here way.stands)
        (λ e' k' j _ _ hj far. now-other e' k' j hj far);
    each = λ p. pagewise e now access (with_pages access e first end right) p (now-own p) (λ e' far. now-far e' p far)
        (λ e' far. with_pages-other access e first end right e' p (inl far));
  }

no-more : {r s t : Option Rights} → IsNoMore r s → s ≡ t → IsNoMore r t
no-more (inl is) same = inl (is ∙ same)
no-more (inr none) same = inr none

-- the other access, told in another way
pub between-same : (ram : Ram) (n tables b : ℕ) (access f g : ℕ → ℕ → Option Rights) → IsBetween ram n tables b access f → ((e p : ℕ) → f e p ≡ g e p) → IsBetween ram n tables b access g
between-same ram n tables b access f g between same = record {
  rights = between.rights;
  stands = between.stands;
  each = λ p. elim (between.each p) [ inl kept ↦ inl kept | inr changed ↦ inr (λ e. no-more (changed e) (same e p)) ];
}

nothing-there : (inside : Bool) (r : Option Rights) (a : ℕ) → r ≡ None → mapped_answer (if inside then r else None) a ≡ Err Translation
unfolding mapped_answer
nothing-there true r a none = ap (λ (q : Option Rights). mapped_answer q a) none
nothing-there false r a none = refl

-- so each walk is one of two, or gives nothing
pub walks-between : (old new ram : Ram) (n tables b : ℕ) (access after : ℕ → ℕ → Option Rights) → IsBuilt old n tables b access → IsBuilt new n tables b after → IsBetween ram n tables b access after
    → ram.base ≡ old.base → length ram.pages ≡ length old.pages → new.base ≡ old.base → length new.pages ≡ length old.pages → WalksBetween old new n tables b ram
walks-between old new ram n tables b access after built built' between base size base' size' a ha =
    let page : ℕ = (a - old.base) / 4096 in
    elim (between.each page) [
      | inl kept ↦ inl (λ e he. elim (kept e) [
        | inl is ↦ inl (walk-standing ram n tables b between.rights e a between.stands he ha
            ∙ rw (base, size) (ap (λ (r : Option Rights). mapped_answer (if is_in_ram old a then r else None) a) is)
            ∙ sym (walk-built old n tables b access e a built he ha))
        | inr none ↦ inr (walk-standing ram n tables b between.rights e a between.stands he ha ∙ rw (base, size) (nothing-there (is_in_ram old a) (between.rights e page) a none))
      ])
      | inr changed ↦ inr (λ e he. elim (changed e) [
        | inl is ↦ inl (walk-standing ram n tables b between.rights e a between.stands he ha
            ∙ rw (base, size, base', size') (ap (λ (r : Option Rights). mapped_answer (if is_in_ram old a then r else None) a) is)
            ∙ sym (walk-built new n tables b after e a built' he ha))
        | inr none ↦ inr (walk-standing ram n tables b between.rights e a between.stands he ha ∙ rw (base, size) (nothing-there (is_in_ram old a) (between.rights e page) a none))
      ])
    ]

pub moment-walks : (old new : Ram) (n tables b : ℕ) (past : Past) (h : List Step) (s : Step) → IsMoment old new n tables b past h s → WalksBetween old new n tables b s.after
moment-walks old new n tables b past h s m =
    walks-between old new s.after n tables b m.access m.after m.was m.is m.between m.place (m.between.stands.fits.size ∙ sym m.was.fits.size) m.stays (m.is.fits.size ∙ sym m.was.fits.size)

-- ---- pages that nobody reaches

-- the walk of a page's first address gives the right to the page
walk-page : (ram : Ram) (n tables b : ℕ) (rights : ℕ → ℕ → Option Rights) (e p base : ℕ) → IsStanding ram n tables b rights → base ≡ ram.base → e < n → p < 512 * b
    → walk_at ram tables b e (base + 4096 * p) ≡ mapped_answer (rights e p) (base + 4096 * p)
walk-page ram n tables b rights e p base stands is he hp =
    let size : length ram.pages ≡ 512 * b = stands.fits.size in
    let within : ram.base + 0x200000 * b ≤ 2 ^ 32 = stands.fits.within in
    let inside : is_in_ram ram (base + 4096 * p) ≡ true = grind (arith, nat_tests) in
    let page : (base + 4096 * p - ram.base) / 4096 ≡ p = omega arith in
    walk-standing ram n tables b rights e (base + 4096 * p) stands he (omega arith)
    ∙ ap (λ (t : Bool). mapped_answer (if t then rights e ((base + 4096 * p - ram.base) / 4096) else None) (base + 4096 * p)) inside
    ∙ ap (λ (q : ℕ). mapped_answer (rights e q) (base + 4096 * p)) page

pub answer-none : (r : Option Rights) (a : ℕ) → r ≡ None → mapped_answer r a ≡ Err Translation
unfolding mapped_answer
answer-none r a none = ap (λ (q : Option Rights). mapped_answer q a) none

pub answer-some : (r : Option Rights) (a : ℕ) → is_some r ≡ is_ok (mapped_answer r a)
unfolding mapped_answer
answer-some None a = refl
answer-some (Some r) a = refl

pub moment-unreached : (old new : Ram) (n tables b : ℕ) (past : Past) (h : List Step) (s : Step) → IsMoment old new n tables b past h s → WritesUnreached old new n tables b h s
moment-unreached old new n tables b past h s m p aside hp = elim m.unreached [
  | inl kept ↦ inl (kept p aside)
  | inr free ↦ elim (free.each p aside) [
    | inl kept ↦ inl kept
    | inr each ↦ inr (λ e he.
        let a : ℕ = old.base + 4096 * p in
        let some-then : is_ok (walk_at old tables b e a) ≡ is_some (m.access e p) =
        ap is_ok (walk-page old n tables b m.access e p old.base (standing-of_built old n tables b m.access m.was) refl he hp) ∙ sym (answer-some (m.access e p) a)
        in
        let some-now : is_ok (walk_at new tables b e a) ≡ is_some (m.after e p) =
        ap is_ok (walk-page new n tables b m.after e p old.base (standing-of_built new n tables b m.after m.is) (sym m.stays) he hp) ∙ sym (answer-some (m.after e p) a)
        in
        elim (each e he) [
          | inl (none, settled, _) ↦ inl (walk-page s.before n tables b free.rights e p old.base free.stands (sym free.place) he hp ∙ answer-none (free.rights e p) a none, λ ok. settled (sym some-then ∙ ok))
          | inr (one, other) ↦ inr (some-then ∙ one, some-now ∙ other)
        ])
  ]
]

-- rights that end, as walks tell it
pub ends-of-rights : (old new : Ram) (n tables b : ℕ) (access after : ℕ → ℕ → Option Rights) → IsBuilt old n tables b access → IsBuilt new n tables b after → (past : Past)
    → ((h : List Step) → past.steps ≡ Some h → (e p : ℕ) → e < n → is_some (access e p) ≡ true → is_some (after e p) ≡ false → IsSettledBy tables (table_page tables b n 0) e p h)
    → EndsSettled old new n tables b past
ends-of-rights old new n tables b access after built is past each h there e p he hp was gone =
    each h there e p he (some old access built ∙ was) (some new after is ∙ gone)
  where
    some : (ram : Ram) (rights : ℕ → ℕ → Option Rights) → IsBuilt ram n tables b rights → is_some (rights e p) ≡ is_ok (walk_at ram tables b e (ram.base + 4096 * p))
    some ram rights its =
        answer-some (rights e p) (ram.base + 4096 * p)
        ∙ sym (ap is_ok (walk-page ram n tables b rights e p ram.base (standing-of_built ram n tables b rights its) refl he hp))

-- where none end
pub no-right-ends : (old new : Ram) (n tables b : ℕ) (access after : ℕ → ℕ → Option Rights) → IsBuilt old n tables b access → IsBuilt new n tables b after → (past : Past)
    → ((e p : ℕ) → is_some (access e p) ≡ true → is_some (after e p) ≡ true) → EndsSettled old new n tables b past
no-right-ends old new n tables b access after built is past stays =
    ends-of-rights old new n tables b access after built is past (λ h there e p he was gone. absurd (true≢false (sym (stays e p was) ∙ gone)))

-- where RAM is the same
pub nothing-ends : (old new : Ram) (n tables b : ℕ) (past : Past) → new ≡ old → EndsSettled old new n tables b past
nothing-ends old new n tables b past same h there e p he hp was gone =
    absurd (true≢false (sym was ∙ ap (λ (r : Ram). is_ok (walk_at r tables b e (r.base + 4096 * p))) (sym same) ∙ gone))

-- at the place of a block
pub ordered-of : (old : Ram) (tables b e k : ℕ) (x : BlockPlace) (Stays : ℕ → Type 0) → k < b → IsPlaceOf old tables b e k x → (h : List Step) (s : Step) → IsOrderly x (Stays k) h s
    → IsOrdered old tables b Stays e h s
ordered-of old tables b e k x Stays hk at h s (inl same) = inl same
ordered-of old tables b e k x Stays hk at h s (inr (keeps, inl leaf)) = inr (k, hk, keeps, inl (leaf-at at.middle at.entry at.link at.table at.address leaf))
  where
    leaf-at : {m m' n n' l l' t t' a a' : ℕ} → m ≡ m' → n ≡ n' → l ≡ l' → t ≡ t' → a ≡ a' → IsLeafWrite m n l t a s → IsLeafWrite m' n' l' t' a' s
    leaf-at p q r u v = subst (λ z. z) (λ i. IsLeafWrite (p i) (q i) (r i) (u i) (v i) s)
ordered-of old tables b e k x Stays hk at h s (inr (keeps, inr block)) = inr (k, hk, keeps, inr (block-at at.middle at.entry at.link at.address at.endpoint at.first block))
  where
    block-at : {m m' n n' l l' a a' d d' f f' : ℕ} → m ≡ m' → n ≡ n' → l ≡ l' → a ≡ a' → d ≡ d' → f ≡ f' → IsBlockWrite m n l a d f h s → IsBlockWrite m' n' l' a' d' f' h s
    block-at p q r t u v = subst (λ z. z) (λ i. IsBlockWrite (p i) (q i) (r i) (t i) (u i) (v i) h s)

-- it is one where fewer blocks stay
pub ordered-more : (old : Ram) (tables b e : ℕ) (P Q : ℕ → Type 0) (h : List Step) (s : Step) → ((k : ℕ) → k < b → Q k → P k) → IsOrdered old tables b P e h s → IsOrdered old tables b Q e h s
ordered-more old tables b e P Q h s fewer (inl same) = inl same
ordered-more old tables b e P Q h s fewer (inr (k, hk, keeps, write)) = inr (k, hk, (λ stays. keeps (fewer k hk stays)), write)

-- a step in an endpoint's tables changes no other page
pub ordered-aside : (old : Ram) (tables b e n : ℕ) (Stays : ℕ → Type 0) (h : List Step) (s : Step) → IsOrdered old tables b Stays e h s → e < n → KeepsAside n tables b s
ordered-aside old tables b e n Stays h s (inl same) he p aside = ap (λ (r : Ram). page_of r p) same
ordered-aside old tables b e n Stays h s (inr (k, hk, keeps, inl leaf)) he p aside =
    leaf.write.pages p (λ same. not-both n tables b p (subst (IsTablePage n tables b) (sym same) (table_page-there n tables b e (2 + k) he (omega (arith, hk)))) aside)
ordered-aside old tables b e n Stays h s (inr (k, hk, keeps, inr block)) he p aside =
    block.write.pages p (λ same. not-both n tables b p (subst (IsTablePage n tables b) (sym same) (table_page-there n tables b e 1 he (omega arith))) aside)

-- it is one in RAM that stands alike
pub ordered-kept : (old new : Ram) (tables b e : ℕ) (Stays : ℕ → Type 0) (h : List Step) (s : Step) → new.base ≡ old.base → IsOrdered old tables b Stays e h s → IsOrdered new tables b Stays e h s
ordered-kept old new tables b e Stays h s base (inl same) = inl same
ordered-kept old new tables b e Stays h s base (inr (k, hk, keeps, inl leaf)) = inr (k, hk, keeps, inl (rw base leaf))
ordered-kept old new tables b e Stays h s base (inr (k, hk, keeps, inr block)) = inr (k, hk, keeps, inr (rw base block))

-- where no right to a block's pages changes in the end, none changes in a run
pub same-run : (access : ℕ → ℕ → Option Rights) (e k first next until end from to : ℕ) (right : Option Rights) → first ≤ next → next ≤ until → until ≤ end → 512 * k + from ≡ next → 512 * k + to ≡ until
    → IsSameIn access (with_pages access e first end right) e k → IsSameRun (rights_of_block (with_pages access e first next right e) k) from to right
same-run access e k first next until end from to right low high all start stop same j hj =
    with_pages-block (with_pages access e first next right) e k from to right j
    ∙ rw (start, stop) (with_pages-more access e first next until right e (512 * k + j) low high)
    ∙ kept until all ∙ sym (kept next (omega (arith, high, all)))
  where
    kept : (m : ℕ) → m ≤ end → with_pages access e first m right e (512 * k + j) ≡ access e (512 * k + j)
    kept m hm = elim (pages-part access e first m end right e (512 * k + j) hm) [ inl a ↦ a | inr a ↦ a ∙ same j hj ]

-- ---- what walks tell of rights

abbrev lets-write : Answer → Bool
lets-write (Ok leaf) = leaf.write
lets-write (Err fault) = false

abbrev lets-run : Answer → Bool
lets-run (Ok leaf) = leaf.exec
lets-run (Err fault) = false

same-fields : (l m : Data) (x y : Bool) → may_write l ≡ may_write m → x ≡ y
    → ◌≡◌ {A = Option Rights} (Some (record { level = l; exec = x })) (Some (record { level = m; exec = y }))
same-fields Ro Ro x y write run = ap (λ (z : Bool). Some (record { level = Ro; exec = z })) run
same-fields Rw Rw x y write run = ap (λ (z : Bool). Some (record { level = Rw; exec = z })) run
same-fields Ro Rw x y write run = absurd (false≢true write)
same-fields Rw Ro x y write run = absurd (true≢false write)

right-of : (r q : Option Rights) (a : ℕ) → mapped_answer r a ≡ mapped_answer q a → r ≡ q
unfolding mapped_answer
right-of None None a same = refl
right-of None (Some q) a same = absurd (false≢true (ap (λ (x : Answer). is_ok x) same))
right-of (Some r) None a same = absurd (true≢false (ap (λ (x : Answer). is_ok x) same))
right-of (Some r) (Some q) a same = same-fields r.level q.level r.exec q.exec (ap lets-write same) (ap lets-run same)

walks-rights : (old new : Ram) (n tables b : ℕ) (access after : ℕ → ℕ → Option Rights) → IsBuilt old n tables b access → IsBuilt new n tables b after → new.base ≡ old.base
    → (e k : ℕ) → e < n → k < b → WalksSameIn old new tables b e k → IsSameIn access after e k
walks-rights old new n tables b access after was is stays e k he hk same j hj =
    let p : ℕ = 512 * k + j in
    let hp : p < 512 * b = omega (arith, hk, hj) in
    right-of (after e p) (access e p) (old.base + 4096 * p)
    (sym (walk-page new n tables b after e p old.base (standing-of_built new n tables b after is) (sym stays) he hp)
    ∙ same j hj
    ∙ walk-page old n tables b access e p old.base (standing-of_built old n tables b access was) refl he hp)

-- where an endpoint's walks into a block are the same before and behind, each word of it stays
pub moment-order : (old new : Ram) (n tables b : ℕ) (past : Past) (h : List Step) (s : Step) → IsMoment old new n tables b past h s → IsInOrder old n tables b (WalksSameIn old new tables b) h s
moment-order old new n tables b past h s m = elim m.order [
  | inl kept ↦ inl kept
  | inr (e, he, ordered) ↦ inr (
    e,
    he,
    ordered-more old tables b e (IsSameIn m.access m.after e) (WalksSameIn old new tables b e) h s
        (λ k hk. walks-rights old new n tables b m.access m.after m.was m.is m.stays e k he hk) ordered,
  )
]

-- a moment of fewer changes is one of more
pub between-then : (ram : Ram) (n tables b : ℕ) (access f g after : ℕ → ℕ → Option Rights) → IsBetween ram n tables b f g
    → ((p : ℕ) → ((e : ℕ) → f e p ≡ access e p) ⊎ ((e : ℕ) → f e p ≡ after e p))
    → ((p : ℕ) → ((e : ℕ) → g e p ≡ access e p) ⊎ ((e : ℕ) → g e p ≡ after e p)) → IsBetween ram n tables b access after
between-then ram n tables b access f g after between first second = record {
  rights = between.rights;
  stands = between.stands;
  each = λ p. elim (between.each p) [
    | inl kept ↦ elim (first p) [ inl a ↦ inl (λ e. no-more (kept e) (a e)) | inr a ↦ inr (λ e. no-more (kept e) (a e)) ]
    | inr changed ↦ elim (second p) [ inl a ↦ inl (λ e. no-more (changed e) (a e)) | inr a ↦ inr (λ e. no-more (changed e) (a e)) ]
  ];
}

-- where tables are built for the one access or for the other
pub between-first : (ram : Ram) (n tables b : ℕ) (access after : ℕ → ℕ → Option Rights) → IsBuilt ram n tables b access → IsBetween ram n tables b access after
between-first ram n tables b access after built = record { rights = access; stands = standing-of_built ram n tables b access built; each = λ p. inl (λ e. inl refl) }

pub between-last : (ram : Ram) (n tables b : ℕ) (access after : ℕ → ℕ → Option Rights) → IsBuilt ram n tables b after → IsBetween ram n tables b access after
between-last ram n tables b access after built = record { rights = after; stands = standing-of_built ram n tables b after built; each = λ p. inr (λ e. inl refl) }

-- pages that are none of a table's may differ
pub between-beside : (old ram : Ram) (n tables b : ℕ) (named : ℕ → Bool) (access after : ℕ → ℕ → Option Rights) → ((p : ℕ) → named p ≡ true → IsAside n tables b p)
    → IsBetween old n tables b access after → IsBeside old ram named → IsBetween ram n tables b access after
between-beside old ram n tables b named access after aside between beside = record {
  rights = between.rights;
  stands = built_by-kept IsEither old ram n tables b between.rights between.stands beside.base beside.size
      (λ p from below. beside.pages p (false_from_ne_true (named p) (λ at. not-both n tables b p (from, below) (aside p at))));
  each = between.each;
}
