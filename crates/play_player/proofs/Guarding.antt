-- SPDX-License-Identifier: MIT OR Apache-2.0
-- Guards, as lines come one after another.
use Rattle.std.proofs.Common.{◌≡◌, ◌+◌, ◌≤◌, ℕ, true, false, List, [], ◌∷◌, ◌++◌, length, drop, Option, None, Some, inl, inr, sym, ap, ◌∙◌, subst, arith, append_assoc, append-nil, length-append, refl, Bool, not, filter, nat_eq, ◌⊎◌, ◌&&◌, ◌||◌, if◌then◌else◌}
use Rattle.std.specs.Option.{option_map_or}
use Rattle.std.proofs.Math.Seq.{drop-nil}
use Rattle.std.proofs.lemmas.Bool.{and_parts, and_from, cases_Bool, eqb-true}
use Rattle.std.proofs.lemmas.List.{drop-drop}
use Rattle.std.proofs.lemmas.List.Elements.{filter-append}
use Rattle.std.proofs.lemmas.List.Folds.{list_all-append}
use Rattle.std.proofs.lemmas.Slice.Eq.{bytes_eq-Decides}
use Rattle.ffa_playable.specs.Bench.{Bench, processors_of}
use Rattle.play_trace.specs.TraceLines.{Line, skip, hash, line_in, line_of}
use Rattle.play_trace.specs.TraceText.{hex, line_text, text_of, after_all}
use Rattle.play_player.specs.Asking.{asked_by, came_by, found_by, is_met_by}
use Rattle.play_player.specs.Guards.{AreMet, IsFound, IsMet, IsUnasked, Leaves, are_silent, asking_among, asks_line, guard_of, guards_among, is_guard, is_near, lines_in, meets_first, near_from, prints, speaks}
use Rattle.play_player.specs.Past.{IsBroken, IsKept, UnmetAmong}
use Rattle.play_player.specs.Patterns.{came_of, line_came, nothing}
use Rattle.play_player.specs.declared.guards.Asks.{Asks}
use Rattle.play_player.specs.declared.guards.Asks.TheVariants.{Printed, Runner}
use Rattle.play_player.specs.declared.patterns.Came.{Came}
use Rattle.play_player.proofs.Behind.{meant-behind}

never : true ≡ false → ⊥
never same = cc

-- WHERE LINES ARE SPLIT

-- lines with one more, split at a line: it is the last, or it is one of those before
split_last : (lines : List (List ℕ)) (last : List ℕ) (front : List (List ℕ)) (line : List ℕ) (back : List (List ℕ)) → lines ++ last ∷ [] ≡ front ++ line ∷ back
    → ((front ≡ lines) × (line ≡ last)) ⊎ ((more : List (List ℕ)) × (lines ≡ front ++ line ∷ more))
split_last [] last [] line back same = inl (refl, cc)
split_last [] last (c ∷ front) line back same = absurd (omega (arith, ap length same, length-append front (line ∷ back)))
split_last (x ∷ lines) last [] line back same =
    let head : x ≡ line = cc in
    inr (lines, ap (λ l. l ∷ lines) head)
split_last (x ∷ lines) last (c ∷ front) line back same =
    let head : x ≡ c = cc in
    let tail : lines ++ last ∷ [] ≡ front ++ line ∷ back = cc in
    of head (split_last lines last front line back tail)
  where
    of : x ≡ c → ((front ≡ lines) × (line ≡ last)) ⊎ ((more : List (List ℕ)) × (lines ≡ front ++ line ∷ more))
        → ((c ∷ front ≡ x ∷ lines) × (line ≡ last)) ⊎ ((more : List (List ℕ)) × (x ∷ lines ≡ c ∷ front ++ line ∷ more))
    of head (inl (fronts, is)) = inl (ap (λ l. l ∷ front) (sym head) ∙ ap (λ ls. x ∷ ls) fronts, is)
    of head (inr (more, are)) = inr (more, ap (λ l. l ∷ lines) head ∙ ap (λ ls. c ∷ ls) are)

-- no line that prints is among silent ones
loud_inside : (processors : Option ℕ) (front : List (List ℕ)) (line : List ℕ) (back : List (List ℕ)) → prints processors line ≡ true → are_silent processors (front ++ line ∷ back) ≡ true → ⊥
loud_inside processors front line back loud silent =
    let rest : are_silent processors (line ∷ back) ≡ true = (and_parts (are_silent processors front) (are_silent processors (line ∷ back)) (sym (list_all-append (λ l. not (prints processors l)) front (line ∷ back)) ∙ silent)).1 in
    let other : not (prints processors line) ≡ true = (and_parts (not (prints processors line)) (are_silent processors back) rest).0 in
    let none : not true ≡ true = ap not (sym loud) ∙ other in
    absurd cc

-- the last line that prints
same_last : (processors : Option ℕ) (front : List (List ℕ)) (line : List ℕ) (back front₂ : List (List ℕ)) (line₂ : List ℕ) (back₂ : List (List ℕ)) → front ++ line ∷ back ≡ front₂ ++ line₂ ∷ back₂
    → prints processors line ≡ true → are_silent processors back ≡ true → prints processors line₂ ≡ true → are_silent processors back₂ ≡ true → (front ≡ front₂) × (line ≡ line₂) × (back ≡ back₂)
same_last processors [] line back [] line₂ back₂ same loud silent loud₂ silent₂ = (refl, cc, cc)
same_last processors [] line back (c ∷ front₂) line₂ back₂ same loud silent loud₂ silent₂ =
    let tail : back ≡ front₂ ++ line₂ ∷ back₂ = cc in
    absurd (loud_inside processors front₂ line₂ back₂ loud₂ (ap (are_silent processors) (sym tail) ∙ silent))
same_last processors (c ∷ front) line back [] line₂ back₂ same loud silent loud₂ silent₂ =
    let tail : front ++ line ∷ back ≡ back₂ = cc in
    absurd (loud_inside processors front line back loud (ap (are_silent processors) tail ∙ silent₂))
same_last processors (c ∷ front) line back (d ∷ front₂) line₂ back₂ same loud silent loud₂ silent₂ =
    let head : c ≡ d = cc in
    let tail : front ++ line ∷ back ≡ front₂ ++ line₂ ∷ back₂ = cc in
    let both = same_last processors front line back front₂ line₂ back₂ tail loud silent loud₂ silent₂ in
    (ap (λ l. l ∷ front) head ∙ ap (λ ls. d ∷ ls) both.0, both.1, both.2)

-- what is left behind the last line that prints
same_left : (start : Bench) (lines : List (List ℕ)) (came coming : Came) (left other : List (List ℕ)) → Leaves start lines came left → Leaves start lines coming other → (came ≡ coming) × (left ≡ other)
same_left start lines came coming left other a b =
    let last = same_last (processors_of start) a.before a.last a.behind b.before b.last b.behind (sym a.whole ∙ b.whole) a.loud a.silent b.loud b.silent in
    let count = length (asking_among a.behind) in (
      a.comes ∙ ap (λ f. came_of (after_all start f) a.last) last.0 ∙ ap (λ l. came_of (after_all start b.before) l) last.1 ∙ sym b.comes,
      a.rest ∙ ap (λ f. drop count (lines_in (text_of (after_all start f) a.last))) last.0 ∙ ap (λ l. drop count (lines_in (text_of (after_all start b.before) l))) last.1
          ∙ ap (λ ls. drop (length (asking_among ls)) (lines_in (text_of (after_all start b.before) b.last))) last.2 ∙ sym b.rest,
    )

-- GUARDS

-- a guard is a comment
hash_first : (c : ℕ) (line : List ℕ) → is_guard (c ∷ line) ≡ true → c ≡ hash
hash_first c line guards = of (cases_Bool (nat_eq 35 c))
  where
    of : (nat_eq 35 c ≡ true) ⊎ (nat_eq 35 c ≡ false) → c ≡ hash
    of (inl so) = sym (eqb-true 35 c so)
    of (inr other) =
        let none : is_guard (c ∷ line) ≡ false = rw other refl in
        let both : true ≡ false = sym guards ∙ none in
        absurd cc

comment_is_skip : (processors : Option ℕ) (line : List ℕ) → line_in processors (hash ∷ line) ≡ Some skip
unfolding line_of line_in
comment_is_skip None line = refl
comment_is_skip (Some count) line = refl

pub guard_skips : (processors : Option ℕ) (line : List ℕ) → is_guard line ≡ true → line_in processors line ≡ Some skip
guard_skips processors [] guards = absurd (cc guards)
guard_skips processors (c ∷ line) guards = ap (λ d. line_in processors (d ∷ line)) (hash_first c line guards) ∙ comment_is_skip processors line

-- how many lines one asks for
pub asked_one : (line : List ℕ) (asks : Asks) (wants : List ℕ) → guard_of line ≡ Some (asks, wants) → length (asking_among (line ∷ [])) ≡ asked_by asks
asked_one line Printed wants is = rw is refl
asked_one line Runner wants is = rw is refl

pub asked_none : (line : List ℕ) → guard_of line ≡ None → length (asking_among (line ∷ [])) ≡ 0
asked_none line is = rw is refl

-- GUARDS THAT ARE MET

pub met_none : (start : Bench) → AreMet start []
met_none start = λ front line back guard same is. absurd (omega (arith, ap length same, length-append front (line ∷ back)))

pub met_more : (start : Bench) (lines : List (List ℕ)) (last : List ℕ) → AreMet start lines → ((guard : Asks × List ℕ) → guard_of last ≡ Some guard → IsMet start lines guard)
    → AreMet start (lines ++ last ∷ [])
met_more start lines last met one = λ front line back guard same is. of front line guard is (split_last lines last front line back same)
  where
    of : (front : List (List ℕ)) (line : List ℕ) (guard : Asks × List ℕ) → guard_of line ≡ Some guard
        → ((front ≡ lines) × (line ≡ last)) ⊎ ((more : List (List ℕ)) × (lines ≡ front ++ line ∷ more)) → IsMet start front guard
    of front line guard is (inl (fronts, same)) = subst (λ f. IsMet start f guard) (sym fronts) (one guard (ap guard_of (sym same) ∙ is))
    of front line guard is (inr (more, are)) = met front line more guard are is

module _ (start mid : Bench) (lines : List (List ℕ)) (state : mid ≡ after_all start lines) (came : Came) (left : List (List ℕ)) (unasked : IsUnasked start lines came left) where
  pub met_now : (guard : Asks × List ℕ) → is_met_by mid came left guard ≡ true → IsMet start lines guard
  met_now (Printed, wants) meets = of unasked
    where
      of : IsUnasked start lines came left → IsMet start lines (Printed, wants)
      of (inl leaves) = (came, left, leaves, meets)
      of (inr (silent, none)) = absurd (never (sym meets ∙ ap (meets_first wants came) none))
  met_now (Runner, wants) meets = (bytes_eq-Decides wants (hex 4 mid.state.runner)).0 meets ∙ ap (λ s. hex 4 s.state.runner) state

  pub unmet_now : (guard : Asks × List ℕ) → is_met_by mid came left guard ≡ false → IsMet start lines guard → ⊥
  unmet_now (Printed, wants) misses (coming, other, met, meets) = of unasked
    where
      of : IsUnasked start lines came left → ⊥
      of (inl leaves) =
          let same = same_left start lines came coming left other leaves met in
          never (sym meets ∙ sym (ap (λ c. meets_first wants c other) same.0) ∙ sym (ap (meets_first wants came) same.1) ∙ misses)
      of (inr (silent, none)) = loud_inside (processors_of start) met.before met.last met.behind met.loud (ap (are_silent (processors_of start)) (sym met.whole) ∙ silent)
  unmet_now (Runner, wants) misses met =
      never (sym ((bytes_eq-Decides wants (hex 4 mid.state.runner)).1 (met ∙ sym (ap (λ s. hex 4 s.state.runner) state))) ∙ misses)

  -- what it finds
  pub found_now : (asks : Asks) (wants found : List ℕ) → found ≡ found_by mid came left (asks, wants) → IsFound start lines (asks, wants) found
  found_now Printed wants found is = (came, left, unasked, is)
  found_now Runner wants found is = is ∙ ap (λ s. hex 4 s.state.runner) state

-- WHAT IS UNASKED

pub unasked_none : (start : Bench) (came : Came) → IsUnasked start [] came []
unasked_none start came = inr (refl, refl)

-- a line that prints
pub unasked_loud : (start mid : Bench) (lines : List (List ℕ)) → mid ≡ after_all start lines → (line : List ℕ) (meant : Line) (came : Came) (left : List (List ℕ)) → Some meant ≡ line_in (processors_of start) line → speaks meant ≡ true
    → came ≡ line_came mid meant → left ≡ lines_in (line_text mid meant) → IsUnasked start (lines ++ line ∷ []) came left
unfolding text_of came_of
unasked_loud start mid lines state line meant came left is loud comes makes = inl (record {
  before = lines;
  last = line;
  behind = [];
  whole = refl;
  loud = ap (λ l. option_map_or speaks l false) (sym is) ∙ loud;
  silent = refl;
  comes =
      comes ∙ ap (λ l. option_map_or (line_came mid) l nothing) (meant-behind start mid lines state line (Some meant) is) ∙ ap (λ s. came_of s line) state;
  rest =
      makes ∙ ap (λ l. lines_in (option_map_or (line_text mid) l [])) (meant-behind start mid lines state line (Some meant) is) ∙ ap (λ s. lines_in (text_of s line)) state;
})

-- a line that doesn't print
pub unasked_silent : (start : Bench) (lines : List (List ℕ)) (line : List ℕ) (came : Came) (old new : List (List ℕ)) → prints (processors_of start) line ≡ false → new ≡ drop (length (asking_among (line ∷ []))) old
    → IsUnasked start lines came old → IsUnasked start (lines ++ line ∷ []) came new
unasked_silent start lines line came old new quiet taken (inl leaves) = inl (record {
  before = leaves.before;
  last = leaves.last;
  behind = leaves.behind ++ line ∷ [];
  whole = ap (λ ls. ls ++ line ∷ []) leaves.whole ∙ append_assoc leaves.before (leaves.last ∷ leaves.behind) (line ∷ []);
  loud = leaves.loud;
  silent = list_all-append (λ l. not (prints (processors_of start) l)) leaves.behind (line ∷ []) ∙ and_from _ _ leaves.silent (and_from _ _ (ap not quiet) refl);
  comes = leaves.comes;
  rest =
      let behind = asking_among leaves.behind in
      let more = asking_among (line ∷ []) in
      let said = lines_in (text_of (after_all start leaves.before) leaves.last) in
      let both : length (asking_among (leaves.behind ++ line ∷ [])) ≡ length behind + length more =
      ap length (filter-append (λ l. asks_line (guard_of l)) leaves.behind (line ∷ [])) ∙ length-append behind more in
      taken ∙ ap (drop (length more)) leaves.rest ∙ drop-drop (length more) (length behind) said ∙ sym (ap (λ n. drop n said) both);
})
unasked_silent start lines line came old new quiet taken (inr (silent, none)) =
    inr (list_all-append (λ l. not (prints (processors_of start) l)) lines (line ∷ []) ∙ and_from _ _ silent (and_from _ _ (ap not quiet) refl), taken ∙ ap (drop (length (asking_among (line ∷ [])))) none ∙ drop-nil _)

pub unasked_more : (start mid : Bench) (lines : List (List ℕ)) → mid ≡ after_all start lines → (line : List ℕ) (meant : Line) (came coming : Came) (old between new : List (List ℕ)) → Some meant ≡ line_in (processors_of start) line
    → IsUnasked start lines came old → between ≡ drop (length (asking_among (line ∷ []))) old → new ≡ (if speaks meant then lines_in (line_text mid meant) else between) → coming ≡ came_by mid meant came
    → IsUnasked start (lines ++ line ∷ []) coming new
unasked_more start mid lines state line meant came coming old between new is unasked taken makes comes = of (cases_Bool (speaks meant))
  where
    of : (speaks meant ≡ true) ⊎ (speaks meant ≡ false) → IsUnasked start (lines ++ line ∷ []) coming new
    of (inl loud) =
        unasked_loud start mid lines state line meant coming new is loud (comes ∙ ap (λ b. if b then line_came mid meant else came) loud) (makes ∙ ap (λ b. if b then lines_in (line_text mid meant) else between) loud)
    of (inr silent) =
        subst (λ c. IsUnasked start (lines ++ line ∷ []) c new) (sym (comes ∙ ap (λ b. if b then line_came mid meant else came) silent))
        (unasked_silent start lines line came old new (ap (λ l. option_map_or speaks l false) (sym is) ∙ silent) (makes ∙ ap (λ b. if b then lines_in (line_text mid meant) else between) silent ∙ taken) unasked)

-- whether text was printed
pub loud_more : (processors : Option ℕ) (lines : List (List ℕ)) (line : List ℕ) (meant : Line) (before after : Bool) → before ≡ not (are_silent processors lines) → Some meant ≡ line_in processors line → after ≡ (speaks meant || before)
    → after ≡ not (are_silent processors (lines ++ line ∷ []))
loud_more processors lines line meant before after was is goes =
    let own : prints processors line ≡ speaks meant = ap (λ l. option_map_or speaks l false) (sym is) in
    let more : are_silent processors (lines ++ line ∷ []) ≡ (are_silent processors lines && are_silent processors (line ∷ [])) = list_all-append (λ l. not (prints processors l)) lines (line ∷ []) in
    goes ∙ ap (λ b. speaks meant || b) was ∙ either (speaks meant) (are_silent processors lines)
    ∙ sym (ap not (more ∙ ap (λ b. are_silent processors lines && (not b && true)) own))
  where
    either : (a b : Bool) → (a || not b) ≡ not (b && (not a && true))
    either true true = refl
    either true false = refl
    either false true = refl
    either false false = refl

-- COUNTS

near_split : (n : ℕ) (x : List ℕ) (xs ys : List (List ℕ)) → near_from (n + 1) (xs ++ ys) ≡ near_from (n + 1) xs ++ near_from (n + length (x ∷ xs)) ys
    → near_from n (x ∷ xs ++ ys) ≡ near_from n (x ∷ xs) ++ near_from (n + length (x ∷ xs)) ys
near_split n x xs ys more = of (cases_Bool (is_near x))
  where
    of : (is_near x ≡ true) ⊎ (is_near x ≡ false) → near_from n (x ∷ xs ++ ys) ≡ near_from n (x ∷ xs) ++ near_from (n + length (x ∷ xs)) ys
    of (inl so) = rw so (ap (λ ns. n ∷ ns) more)
    of (inr other) = rw other more

pub near_from-append : (n : ℕ) (xs ys : List (List ℕ)) → near_from n (xs ++ ys) ≡ near_from n xs ++ near_from (n + length xs) ys
near_from-append n [] ys = ap (λ k. near_from k ys) (omega arith)
near_from-append n (x ∷ xs) ys =
    let count : n + 1 + length xs ≡ n + length (x ∷ xs) = omega arith in
    near_split n x xs ys (near_from-append (n + 1) xs ys ∙ ap (λ k. near_from (n + 1) xs ++ near_from k ys) count)

pub guards_last : (lines : List (List ℕ)) (line : List ℕ) → guards_among (lines ++ line ∷ []) ≡ guards_among lines + guards_among (line ∷ [])
guards_last lines line = ap length (filter-append is_guard lines (line ∷ [])) ∙ length-append (filter is_guard lines) (filter is_guard (line ∷ []))

pub one_guard : (line : List ℕ) → is_guard line ≡ true → guards_among (line ∷ []) ≡ 1
one_guard line guards = rw guards refl

one_more_guard : (line : List ℕ) (lines : List (List ℕ)) → guards_among lines ≤ length lines → guards_among (line ∷ lines) ≤ length (line ∷ lines)
one_more_guard line lines few = of (cases_Bool (is_guard line))
  where
    of : (is_guard line ≡ true) ⊎ (is_guard line ≡ false) → guards_among (line ∷ lines) ≤ length (line ∷ lines)
    of (inl so) = rw so (omega (arith, few))
    of (inr other) = rw other (omega (arith, few))

pub few_guards : (lines : List (List ℕ)) → guards_among lines ≤ length lines
few_guards [] = omega arith
few_guards (line ∷ lines) = one_more_guard line lines (few_guards lines)

-- GUARDS THAT AREN'T MET

pub kept_more : (start : Bench) (front lines : List (List ℕ)) (last : List ℕ) (numbers : List ℕ) → UnmetAmong start front lines numbers → IsKept start (front ++ lines) last → UnmetAmong start front (lines ++ last ∷ []) numbers
kept_more start front [] last numbers none kept = inl (subst (λ f. IsKept start f last) (append-nil front) kept, none)
kept_more start front (l ∷ ls) last numbers (inl (own, more)) kept =
    inl (own, kept_more start (front ++ l ∷ []) ls last numbers more (subst (λ f. IsKept start f last) (sym (append_assoc front (l ∷ []) ls)) kept))
kept_more start front (l ∷ ls) last numbers (inr (own, (rest, is, more))) kept =
    inr (own, (rest, is, kept_more start (front ++ l ∷ []) ls last rest more (subst (λ f. IsKept start f last) (sym (append_assoc front (l ∷ []) ls)) kept)))

pub broken_more : (start : Bench) (front lines : List (List ℕ)) (last : List ℕ) (numbers : List ℕ) (number : ℕ) → UnmetAmong start front lines numbers → IsBroken start (front ++ lines) last → number ≡ 1 + length (front ++ lines)
    → UnmetAmong start front (lines ++ last ∷ []) (numbers ++ number ∷ [])
broken_more start front [] last numbers number none broken count =
    let own : number ≡ 1 + length front = count ∙ ap (λ f. 1 + length f) (append-nil front) in
    inr (subst (λ f. IsBroken start f last) (append-nil front) broken, ([], ap (λ ns. ns ++ number ∷ []) none ∙ ap (λ n. n ∷ []) own, refl))
broken_more start front (l ∷ ls) last numbers number (inl (own, more)) broken count =
    let seam = sym (append_assoc front (l ∷ []) ls) in
    inl (own, broken_more start (front ++ l ∷ []) ls last numbers number more (subst (λ f. IsBroken start f last) seam broken) (count ∙ ap (λ f. 1 + length f) seam))
broken_more start front (l ∷ ls) last numbers number (inr (own, (rest, is, more))) broken count =
    let seam = sym (append_assoc front (l ∷ []) ls) in
    inr (own, (rest ++ number ∷ [], ap (λ ns. ns ++ number ∷ []) is, broken_more start (front ++ l ∷ []) ls last rest number more (subst (λ f. IsBroken start f last) seam broken) (count ∙ ap (λ f. 1 + length f) seam)))

-- where no guard isn't met, all are
none_unmet : (start : Bench) (before lines : List (List ℕ)) → UnmetAmong start before lines []
    → (front : List (List ℕ)) (line : List ℕ) (back : List (List ℕ)) (guard : Asks × List ℕ) → lines ≡ front ++ line ∷ back → guard_of line ≡ Some guard → IsMet start (before ++ front) guard
none_unmet start before [] none front line back guard same is = absurd (omega (arith, ap length same, length-append front (line ∷ back)))
none_unmet start before (l ∷ ls) (inl (own, more)) [] line back guard same is =
    let head : l ≡ line = cc in
    subst (λ f. IsMet start f guard) (sym (append-nil before)) (own guard (ap guard_of head ∙ is))
none_unmet start before (l ∷ ls) (inl (own, more)) (c ∷ front) line back guard same is =
    let head : l ≡ c = cc in
    let tail : ls ≡ front ++ line ∷ back = cc in
    subst (λ f. IsMet start f guard) (append_assoc before (l ∷ []) front ∙ ap (λ x. before ++ x ∷ front) head) (none_unmet start (before ++ l ∷ []) ls more front line back guard tail is)
none_unmet start before (l ∷ ls) (inr (own, (rest, none, more))) front line back guard same is = absurd cc

pub all_met : (start : Bench) (lines : List (List ℕ)) → UnmetAmong start [] lines [] → AreMet start lines
all_met start lines none = none_unmet start [] lines none
