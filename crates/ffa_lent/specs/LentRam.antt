-- SPDX-License-Identifier: MIT OR Apache-2.0
-- Lent RAM, as its clauses see it: frames, copies of the observed pages, and a history.
use Rattle.std.proofs.Common.{◌≡◌, ◌≢◌, ◌∙◌, ℕ, zero, suc, ◌-◌, ◌<◌, Bool, true, false, cond, List, [], ◌∷◌, None, Some, length, map, take, drop, set, get_or, refl, ap, subst, sym, arith, inl, inr}
use Rattle.std.specs.Prelude.{slice_index_or, if◌then◌else◌}
use Rattle.std.proofs.lemmas.Bool.{cases_Bool}
use Rattle.std.proofs.lemmas.List.{get_or-set_other, get_or-set_same, set-get_or}
use Rattle.std.proofs.lemmas.Option.{same_Some}
use Rattle.std.specs.Vec.{with_item}
use Rattle.ffa_model.specs.Lists.{is_in_run, map_at}
use Rattle.ffa_model.specs.Ram.{Ram, with_page}
use Rattle.ffa_model.proofs.Runs.{in-run, to-run}
use denote.RawPtr.{Ptr}
use Rattle.ffa_physmem.specs.FrameRam.{frames_of, frames_of-with_frame, ram_of as frame_ram, ram_of-with_frame}
use Rattle.ffa_physmem.specs.Moments.{Copies, IsInLoan, One, Only, Past, Site, Step, TurnsIn, AreInTurn, with_beneath}
use Rattle.ffa_physmem.specs.Work.{Spends, loans_of, no_work, work_of}
use Rattle.ffa_physmem.proofs.Moments.{Only-one, Only-then, beside-same, page-beside}
use Rattle.ffa_physmem.proofs.Work.{one-spends, spends-then}
use Rattle.ffa_lent.specs.Beneath.{beneath-seen, slice-kept, went-back}
use Rattle.ffa_lent.specs.History.{changed, lent, steps_of}
use Rattle.ffa_lent.specs.Places.{place_of}
use Rattle.ffa_lent.specs.Memory.{with_event, with_frame_bytes}
use Rattle.ffa_lent.specs.Turns.{in-turn, one-more}
use Rattle.ffa_lent.specs.declared.ram.LentRam.{LentRam}

-- whether a page is observed
abbrev pub is_observed : LentRam → ℕ → Bool
is_observed m p = is_in_run m.first.0 m.count p

-- the bytes of a page: those of its copy while it is observed, and else those of its frame
abbrev pub bytes_seen : LentRam → ℕ → List ℕ → List ℕ
bytes_seen m p frame = if is_observed m p then slice_index_or m.copies.items (p - m.first.0) [] else frame

-- the bytes of memory itself
abbrev pub memory_of : LentRam → Ram
memory_of m = frame_ram m.memory.frames

abbrev pub ram_of : LentRam → Ram
ram_of m = let frames = frame_ram m.memory.frames in record { base = frames.base; pages = map_at (bytes_seen m) frames.pages }

-- `count` of these pages from `first` on, as they are in memory
abbrev pub copies_from : ℕ → ℕ → List (List ℕ) → Copies
copies_from first count pages = record { first = first; beneath = take count (drop first pages) }

-- the observed pages, with the bytes that memory has beneath each copy
abbrev pub copies_of : LentRam → Copies
copies_of m = copies_from m.first.0 m.count (frame_ram m.memory.frames).pages

-- where its pages lie
abbrev pub places_of : LentRam → List Ptr
places_of m = map place_of (frames_of m.memory.frames)

-- what no step changes
abbrev pub site_of : LentRam → Site
site_of m = record { places = places_of m; copies = copies_of m }

-- the same RAM with other bytes in one page: in its copy, or in its frame
abbrev put_bytes : LentRam → ℕ → List ℕ → LentRam
put_bytes m i bytes =
    if is_observed m i
    then record m { copies = with_item m.copies (i - m.first.0) bytes }
    else record m { memory = with_frame_bytes m.memory i bytes }

-- the same, with the event that changes this page, which stores so many words
abbrev pub written : LentRam → ℕ → List ℕ → ℕ → LentRam
written m i bytes words =
    let put : LentRam = put_bytes m i bytes in
    record put { memory = with_event (record m.memory { frames = put.memory.frames }) (record (changed (ram_of m) i 1) { words = words }) }

-- a loan of a page begins with an event of its own
abbrev pub begun : LentRam → ℕ → LentRam
begun m i = record m { memory = with_event m.memory (lent (ram_of m) i) }

-- the same RAM after a loan that leaves these bytes in a page
abbrev pub with_bytes : LentRam → ℕ → List ℕ → LentRam
with_bytes m i bytes = written (begun m i) i bytes 0

-- the steps so far, where pages lie, and which are observed
abbrev pub past_of : LentRam → Past
past_of m = record { steps = Some (steps_of (ram_of m) m.memory.history.events); site = site_of m }

-- ---- lists that are changed at one place

map_at-same :
    {X Y : Type 0} (f g : ℕ → X → Y) (xs : List X) → ((q : ℕ) (x : X) → g q x ≡ f q x) → map_at g xs ≡ map_at f xs
map_at-same f g [] same = refl
map_at-same f g (x ∷ xs) same = λ k. same 0 x k ∷ map_at-same (λ q. f (suc q)) (λ q. g (suc q)) xs (λ q. same (suc q)) k

pub map_at-but :
    {X Y : Type 0} (f g : ℕ → X → Y) (xs : List X) (i : ℕ) (y : Y)
    → ((x : X) → g i x ≡ y) → ((q : ℕ) (x : X) → q ≢ i → g q x ≡ f q x) → map_at g xs ≡ set (map_at f xs) i y
map_at-but f g [] i y here there = refl
map_at-but f g (x ∷ xs) zero y here there =
    λ k. here x k
    ∷ map_at-same (λ q. f (suc q)) (λ q. g (suc q)) xs (λ q z. there (suc q) z (λ same. absurd (omega (arith, same)))) k
map_at-but f g (x ∷ xs) (suc i) y here there =
    λ k. there 0 x (λ same. absurd (omega (arith, same))) k
    ∷ map_at-but (λ q. f (suc q)) (λ q. g (suc q)) xs i y here
    (λ q z off. there (suc q) z (λ same. off (omega (arith, same)))) k

pub map_at-set :
    {X Y : Type 0} (f : ℕ → X → Y) (xs : List X) (i : ℕ) (x : X) → map_at f (set xs i x) ≡ set (map_at f xs) i (f i x)
map_at-set f [] i x = refl
map_at-set f (y ∷ ys) zero x = refl
map_at-set f (y ∷ ys) (suc i) x = ap (λ zs. f 0 y ∷ zs) (map_at-set (λ j. f (suc j)) ys i x)

-- ---- only that page changes

module _ (m : LentRam) (i : ℕ) (bytes : List ℕ) where
  abbrev frames : Ram
  frames = frame_ram m.memory.frames

  abbrev ram_with : List (List ℕ) → Ram
  ram_with pages = record { base = frames.base; pages = pages }

  -- the copy of an observed page
  abbrev copied : LentRam
  copied = record m { copies = with_item m.copies (i - m.first.0) bytes }

  copied-there : is_observed m i ≡ true → (q : ℕ) (b : List ℕ) → q ≢ i → bytes_seen copied q b ≡ bytes_seen m q b
  copied-there at q b other = elim (cases_Bool (is_observed m q)) [
    | inl is ↦
        (let (low, high) = in-run m.first.0 m.count i at in
        let (from, to) = in-run m.first.0 m.count q is in
        let apart : q - m.first.0 ≢ i - m.first.0 = λ same. other (omega (arith, same, low, from)) in
        ap (λ c. cond c (get_or copied.copies.items (q - m.first.0) []) b) is
        ∙ get_or-set_other m.copies.items (i - m.first.0) (q - m.first.0) bytes [] apart
        ∙ sym (ap (λ c. cond c (get_or m.copies.items (q - m.first.0) []) b) is))
    | inr off ↦
        ap (λ c. cond c (get_or copied.copies.items (q - m.first.0) []) b) off
        ∙ sym (ap (λ c. cond c (get_or m.copies.items (q - m.first.0) []) b) off)
  ]

  copied-here : is_observed m i ≡ true → (b : List ℕ) → bytes_seen copied i b ≡ bytes
  copied-here at b =
      let (low, high) = in-run m.first.0 m.count i at in
      let inside : i - m.first.0 < length m.copies.items = omega (arith, low, high, m.held, m.copies.ok) in
      ap (λ c. cond c (get_or copied.copies.items (i - m.first.0) []) b) at
      ∙ get_or-set_same m.copies.items (i - m.first.0) bytes [] inside

  ram_of-copied : is_observed m i ≡ true → ram_of copied ≡ with_page (ram_of m) i bytes
  ram_of-copied at =
      ap ram_with
      (map_at-but (bytes_seen m) (bytes_seen copied) frames.pages i bytes (copied-here at) (copied-there at))

  -- the frame of another one
  abbrev framed : LentRam
  framed = record m { memory = with_frame_bytes m.memory i bytes }

  ram_of-framed : is_observed m i ≡ false → ram_of framed ≡ with_page (ram_of m) i bytes
  ram_of-framed off =
      let copy : List ℕ = get_or m.copies.items (i - m.first.0) [] in
      ap (λ (r : Ram). let seen : Ram = record { base = r.base; pages = map_at (bytes_seen m) r.pages } in seen)
      (ram_of-with_frame m.memory.frames i bytes)
      ∙ ap ram_with (map_at-set (bytes_seen m) frames.pages i bytes
      ∙ ap (λ c. set (map_at (bytes_seen m) frames.pages) i (cond c copy bytes)) off)

pub ram_of-written :
    (m : LentRam) (i : ℕ) (bytes : List ℕ) (words : ℕ) → ram_of (written m i bytes words) ≡ with_page (ram_of m) i bytes
ram_of-written m i bytes words = elim (cases_Bool (is_observed m i)) [
  | inl at ↦ ap (λ c. ram_of (cond c (copied m i bytes) (framed m i bytes))) at ∙ ram_of-copied m i bytes at
  | inr off ↦ ap (λ c. ram_of (cond c (copied m i bytes) (framed m i bytes))) off ∙ ram_of-framed m i bytes off
]

-- ---- memory

-- memory is RAM with the bytes beneath each copy
pub memory-beneath : (m : LentRam) → frame_ram m.memory.frames ≡ with_beneath (ram_of m) m.first.0 (copies_of m).beneath
memory-beneath m = beneath-seen (frame_ram m.memory.frames) m.copies.items m.first.0 m.count

-- no write changes the bytes beneath copies
copies_of-written : (m : LentRam) (i : ℕ) (bytes : List ℕ) (words : ℕ) → copies_of (written m i bytes words) ≡ copies_of m
copies_of-written m i bytes words = elim (cases_Bool (is_observed m i)) [
  | inl at ↦ ap (λ c. copies_of (cond c (copied m i bytes) (framed m i bytes))) at
  | inr off ↦
      ap (λ c. copies_of (cond c (copied m i bytes) (framed m i bytes))) off
      ∙ ap (λ (r : Ram). copies_from m.first.0 m.count r.pages) (ram_of-with_frame m.memory.frames i bytes)
      ∙ ap (λ (b : List (List ℕ)). let c : Copies = record { first = m.first.0; beneath = b } in c)
      (slice-kept (frame_ram m.memory.frames).pages m.first.0 m.count i bytes off)
]

places_of-written : (m : LentRam) (i : ℕ) (bytes : List ℕ) (words : ℕ) → places_of (written m i bytes words) ≡ places_of m
places_of-written m i bytes words = elim (cases_Bool (is_observed m i)) [
  | inl at ↦ ap (λ c. places_of (cond c (copied m i bytes) (framed m i bytes))) at
  | inr off ↦
      ap (λ c. places_of (cond c (copied m i bytes) (framed m i bytes))) off
      ∙ frames_of-with_frame place_of m.memory.frames i bytes (λ b. refl)
]

pub site_of-written : (m : LentRam) (i : ℕ) (bytes : List ℕ) (words : ℕ) → site_of (written m i bytes words) ≡ site_of m
site_of-written m i bytes words = λ j. record { places = places_of-written m i bytes words j; copies = copies_of-written m i bytes words j }

-- ---- its steps

-- other bytes in a page are one step
pub one-write :
    (m : LentRam) (i : ℕ) (bytes : List ℕ) (words : ℕ) (P : Step → Type 0)
    → P (record { before = ram_of m; after = with_page (ram_of m) i bytes; settled = None; reading = None; words = words; loans = 0 })
    → One (past_of m) (past_of (written m i bytes words)) P
one-write m i bytes words P its =
    let new = ram_of-written m i bytes words in
    record {
      each = one-more (ram_of m) (ram_of (written m i bytes words)) (record (changed (ram_of m) i 1) { words = words }) m.memory.history.events P
          (went-back (ram_of m) (ram_of (written m i bytes words)) i 1 (page-beside (ram_of m) (ram_of (written m i bytes words)) i bytes (is_in_run i 1) (to-run i 1 i (omega arith) (omega arith)) new))
          (subst (λ (r : Ram). P (record { before = ram_of m; after = r; settled = None; reading = None; words = words; loans = 0 })) (sym new) its);
      site = site_of-written m i bytes words;
    }

pub ram_of-with_bytes : (m : LentRam) (i : ℕ) (bytes : List ℕ) → ram_of (with_bytes m i bytes) ≡ with_page (ram_of m) i bytes
ram_of-with_bytes m i bytes = ram_of-written (begun m i) i bytes 0

-- a loan begins with a step
begun-one :
    (m : LentRam) (i : ℕ) (P : Step → Type 0)
    → P (record { before = ram_of m; after = ram_of m; settled = None; reading = None; words = 0; loans = 1 }) → One (past_of m) (past_of (begun m i)) P
begun-one m i P its = record {
  each = one-more (ram_of m) (ram_of m) (lent (ram_of m) i) m.memory.history.events P
      (went-back (ram_of m) (ram_of m) i 1 (beside-same (ram_of m) (is_in_run i 1))) its;
  site = refl;
}

-- while a page is lent, nothing else changes
pub in_loan :
    (m : LentRam) (i : ℕ) (bytes : List ℕ) → Only (past_of m) (past_of (with_bytes m i bytes)) (λ _ s. IsInLoan (ram_of m) i s)
in_loan m i bytes =
    let old : List ℕ = get_or (ram_of m).pages i [] in
    let same : ram_of m ≡ with_page (ram_of m) i old =
    ap (λ (p : List (List ℕ)). let r : Ram = record { base = (ram_of m).base; pages = p } in r) (sym (set-get_or (ram_of m).pages i [])) in
    Only-then (Only-one (begun-one m i (IsInLoan (ram_of m) i) (record { from = old; to = old; before = same; after = same; none = refl; unread = refl })))
    (Only-one (one-write (begun m i) i bytes 0 (IsInLoan (ram_of m) i) (record { from = old; to = bytes; before = same; after = refl; none = refl; unread = refl })))
    (λ _ s its. its)

-- and its first step counts it
pub one_loan : (m : LentRam) (i : ℕ) (bytes : List ℕ) → Spends (past_of m) (past_of (with_bytes m i bytes)) (loans_of 1)
one_loan m i bytes =
    spends-then (loans_of 1) no_work (loans_of 1) refl
    (one-spends (past_of m) (past_of (begun m i)) (loans_of 1) (begun-one m i (λ s. work_of s ≡ loans_of 1) refl).each (λ s its. its))
    (one-spends (past_of (begun m i)) (past_of (with_bytes m i bytes)) no_work (one-write (begun m i) i bytes 0 (λ s. work_of s ≡ no_work) refl).each (λ s its. its))

pub turns : (m : LentRam) → TurnsIn (ram_of m) (past_of m)
turns m h there = subst (λ h. AreInTurn h (ram_of m)) (same_Some _ h there) (in-turn (ram_of m) m.memory.history.events)
