-- SPDX-License-Identifier: MIT OR Apache-2.0
-- Bytes of a page are stored one by one, by who may write there.
use Rattle.std.proofs.Common.{◌≡◌, ◌∙◌, ℕ, zero, suc, ◌+◌, ◌-◌, ◌*◌, ◌/◌, ◌%◌, ◌^◌, ◌<◌, ◌≤◌, Bool, true, false, cond, List, [], ◌∷◌, ◌++◌, length, get_or, set, Option, Some, None, refl, sym, ap, subst, arith, inl, inr, length-set, get_or-set_other, get_or-set_same, set-set, ◌==◌, ◌||◌, nat_le, nat_lt}
use Rattle.std.specs.Option.{option_and_then, option_map, option_map_or}
use Rattle.std.proofs.lemmas.Bool.{and_from, and_parts, cases_eq, cases_lt, eq-eqb, eqb-true, ne_eqb, false≢true, le-leb, lt-ltb, ltb-true}
use Rattle.std.proofs.lemmas.Option.{none-some, same_Some}
use Rattle.std.proofs.lemmas.List.{get_or_past, set-get_or}
use Rattle.byteorder.specs.Endian.{little_bytes}
use Rattle.ffa_model.specs.declared.operation.FaultKind.{FaultKind}
use Rattle.ffa_model.specs.declared.operation.FaultKind.TheVariants.{Permission}
use Rattle.ffa_model.specs.declared.operation.Op.{Op}
use Rattle.ffa_model.specs.declared.operation.Op.TheVariants.{Store}
use Rattle.ffa_model.specs.declared.operation.Outcome.TheVariants.{Done}
use Rattle.ffa_model.specs.declared.operation.Size.TheVariants.{B1}
use Rattle.ffa_model.specs.declared.rights.Rights.{Rights}
use Rattle.ffa_model.specs.Access.{access, held_by, right_by, right_of, transaction_at}
use Rattle.ffa_model.specs.Calls.{Stepped}
use Rattle.ffa_model.specs.Elsewhere.{as_run_by, state_after_as, step_as}
use Rattle.ffa_model.specs.Memory.{access_at, accessed, fault_of, page_bytes, page_of_address, page_with, store_fault, stored, written, written_pages}
use Rattle.ffa_model.specs.Ram.{with_bytes}
use Rattle.ffa_model.specs.Rights.{may_store}
use Rattle.ffa_model.specs.SoundState.{IsSoundState, are_bytes}
use Rattle.ffa_model.specs.State.{State, Page, Transaction, page_at}
use Rattle.ffa_model.proofs.Accesses.{length-map_at}
use Rattle.ffa_model.proofs.CallAccesses.{access-written}
use Rattle.ffa_laws.specs.Readable.{blank, blank_where}
use Rattle.ffa_laws.specs.Reads.{AreBeside}
use Rattle.ffa_laws.specs.Stores.{AreWritten, MayAllStore, all_stores, is_among, stores, with_bytes_of}
use Rattle.ffa_laws.proofs.Blanks.{at-blanked}
use Rattle.ffa_laws.proofs.ByteLists.{length-with_bytes}
use Rattle.ffa_laws.proofs.ElsewhereLaws.{step_as-rests, step_as-runs}
use Rattle.ffa_laws.proofs.ElsewhereRunLaws.{sound_after_as}
use Rattle.ffa_laws.proofs.Maps.{map_at-alike, map_at-id}

-- ---- lists
-- one byte is written, and then those behind it
one-more : (page : List ℕ) (at : ℕ) (b : ℕ) (bs : List ℕ) → at < length page
    → with_bytes (with_bytes page at (b ∷ [])) (suc at) bs ≡ with_bytes page at (b ∷ bs)
one-more [] at b bs within = absurd (omega (arith, within))
one-more (x ∷ page) zero b bs within = refl
one-more (x ∷ page) (suc at) b bs within = ap (λ ys. x ∷ ys) (one-more page at b bs (omega (arith, within)))

-- nothing is written
none-more : (page : List ℕ) (at : ℕ) → with_bytes page at [] ≡ page
none-more [] zero = refl
none-more (x ∷ page) (suc at) = ap (λ ys. x ∷ ys) (none-more page at)
none-more _ _ = refl

-- all is written
all-written : (page bytes : List ℕ) → length page ≡ length bytes → with_bytes page 0 bytes ≡ bytes
all-written [] [] same = refl
all-written (x ∷ page) (b ∷ bytes) same = ap (λ ys. b ∷ ys) (all-written page bytes (omega (arith, same)))
all-written _ _ same = absurd (omega (arith, same))

-- ---- one byte
one-byte : (b : ℕ) → b < 256 → little_bytes 1 b ≡ b ∷ []
one-byte b small = ap (λ (x : ℕ). x ∷ []) (omega (arith, small))

-- an access that is allowed
allowed : (o : Option Rights) → may_store o ≡ true → fault_of true o may_store ≡ None
allowed None may = absurd (false≢true may)
allowed (Some right) may = ap (λ (b : Bool). cond b None (Some Permission)) may

passed : (o : Option FaultKind) (old new : State) → o ≡ None → (accessed o old new Done).state ≡ new
passed None old new none = refl
passed (Some fault) old new none = absurd (none-some fault (sym none))

-- a store of a byte where e may store, whoever runs
module _ (s : State) (e address byte : ℕ) (from : s.ram_base ≤ address) (below : address < 2 ^ 32)
    (may : may_store (access s e ((address - s.ram_base) / 4096)) ≡ true) where
  there : page_of_address s address ≡ Some ((address - s.ram_base) / 4096)
  there =
      ap (λ (b : Bool). cond b (Some ((address - s.ram_base) / 4096)) None)
      (and_from (nat_le s.ram_base address) (nat_lt address (2 ^ 32)) (le-leb s.ram_base address from) (lt-ltb address (2 ^ 32) below))

  no-fault : (r : ℕ) → r ≡ e → store_fault (as_run_by r s) address 1 ≡ None
  no-fault r is =
      ap (λ (b : Bool). fault_of b (access_at s r address) may_store) (eq-eqb (address % 1) 0 (omega arith))
      ∙ allowed (access_at s r address)
      (ap (λ (o : Option ℕ). may_store (option_and_then (access s r) o)) there ∙ ap (λ (f : ℕ). may_store (access s f ((address - s.ram_base) / 4096))) is ∙ may)

  store-byte : (step_as s e (Store address B1 byte)).state ≡ stored s address (little_bytes 1 byte)
  store-byte = elim (cases_eq s.runner e) [
    | inl runs ↦
        ap (λ (t : Stepped). t.state) (step_as-runs s e (Store address B1 byte) runs)
        ∙ passed (store_fault s address 1) s (stored s address (little_bytes 1 byte)) (no-fault s.runner runs)
    | inr rests ↦
        ap (λ (t : Stepped). t.state) (step_as-rests s e (Store address B1 byte) rests)
        ∙ ap (as_run_by s.runner) (passed (store_fault (as_run_by e s) address 1) (as_run_by e s) (stored (as_run_by e s) address (little_bytes 1 byte)) (no-fault e refl))
  ]

-- ---- all of them
page-none : (o : Option Page) (at : ℕ) → page_with at [] o ≡ o
page-none None at = refl
page-none (Some q) at = ap (λ (bytes : List ℕ). Some (record q { bytes = bytes })) (none-more q.bytes at)

page-more : (o : Option Page) (at b : ℕ) (bs : List ℕ) → at < length (option_map_or (λ (q : Page). q.bytes) o [])
    → page_with (suc at) bs (page_with at (b ∷ []) o) ≡ page_with at (b ∷ bs) o
page-more None at b bs within = refl
page-more (Some q) at b bs within = ap (λ (bytes : List ℕ). Some (record q { bytes = bytes })) (one-more q.bytes at b bs within)

page-all : (o : Option Page) (bytes : List ℕ) → length (option_map_or (λ (q : Page). q.bytes) o []) ≡ length bytes
    → page_with 0 bytes o ≡ option_map (λ (q : Page). record q { bytes = bytes }) o
page-all None bytes same = refl
page-all (Some q) bytes same = ap (λ (all : List ℕ). Some (record q { bytes = all })) (all-written q.bytes bytes same)

page-length : (o : Option Page) (at : ℕ) (bs : List ℕ) → at + length bs ≤ length (option_map_or (λ (q : Page). q.bytes) o [])
    → length (option_map_or (λ (q : Page). q.bytes) (page_with at bs o) []) ≡ length (option_map_or (λ (q : Page). q.bytes) o [])
page-length None at bs fits = refl
page-length (Some q) at bs fits = length-with_bytes q.bytes at bs fits

-- what stands in a page that was written
written-page : (ps : List (Option Page)) (p at : ℕ) (bs : List ℕ) → p < length ps → get_or (written_pages ps p at bs) p None ≡ page_with at bs (get_or ps p None)
written-page ps p at bs within = get_or-set_same ps p (page_with at bs (get_or ps p None)) None within

written-more : (ps : List (Option Page)) (p at b : ℕ) (bs : List ℕ) → p < length ps → at < length (option_map_or (λ (q : Page). q.bytes) (get_or ps p None) [])
    → written_pages (written_pages ps p at (b ∷ [])) p (suc at) bs ≡ written_pages ps p at (b ∷ bs)
written-more ps p at b bs within inside =
    set-set ps p (page_with at (b ∷ []) (get_or ps p None)) (page_with (suc at) bs (get_or (written_pages ps p at (b ∷ [])) p None))
    ∙ ap (set ps p) (ap (page_with (suc at) bs) (written-page ps p at (b ∷ []) within) ∙ page-more (get_or ps p None) at b bs inside)

stores-from : (bs : List ℕ) (s : State) (e p at : ℕ) → p < length s.pages → s.ram_base % 4096 ≡ 0 → s.ram_base + 4096 * length s.pages ≤ 2 ^ 32
    → may_store (access s e p) ≡ true → are_bytes bs → at + length bs ≤ 4096 → length (page_bytes s p) ≡ 4096
    → state_after_as s (stores e (s.ram_base + 4096 * p + at) bs) ≡ written s p at bs
stores-from [] s e p at within aligned fits may bytes room whole =
    sym (ap (λ (ps : List (Option Page)). record s { pages = ps }) (ap (set s.pages p) (page-none (page_at s p) at) ∙ set-get_or s.pages p None))
stores-from (b ∷ bs) s e p at within aligned fits may bytes room whole =
    let (small, rest) = and_parts (nat_lt b 256) _ bytes in
    let lt : b < 256 = ltb-true b 256 small in
    let address : ℕ = s.ram_base + 4096 * p + at in
    let page : (address - s.ram_base) / 4096 ≡ p = omega (arith, room) in
    let place : address % 4096 ≡ at = omega (arith, room, aligned) in
    let one : (step_as s e (Store address B1 b)).state ≡ written s p at (b ∷ []) =
    store-byte s e address b (omega arith) (omega (arith, within, fits, room)) (ap (λ (q : ℕ). may_store (access s e q)) page ∙ may)
    ∙ ap (λ (q : ℕ). written s q (address % 4096) (little_bytes 1 b)) page
    ∙ ap (λ (i : ℕ). written s p i (little_bytes 1 b)) place
    ∙ ap (written s p at) (one-byte b lt) in
    let next : State = written s p at (b ∷ []) in
    ap (λ (t : State). state_after_as t (stores e (address + 1) bs)) one
    ∙ ap (λ (a : ℕ). state_after_as next (stores e a bs)) (omega arith)
    ∙ stores-from bs next e p (suc at) (subst (λ (n : ℕ). p < n) (sym (length-set s.pages p (page_with at (b ∷ []) (page_at s p)))) within) aligned
    (subst (λ (n : ℕ). s.ram_base + 4096 * n ≤ 2 ^ 32) (sym (length-set s.pages p (page_with at (b ∷ []) (page_at s p)))) fits)
    (ap may_store (access-written s p at (b ∷ []) e p) ∙ may) rest (omega (arith, room))
    (ap (λ (o : Option Page). length (option_map_or (λ (q : Page). q.bytes) o [])) (written-page s.pages p at (b ∷ []) within)
    ∙ page-length (page_at s p) at (b ∷ []) (omega (arith, room, whole)) ∙ whole)
    ∙ ap (λ (ps : List (Option Page)). record s { pages = ps }) (written-more s.pages p at b bs within (omega (arith, room, whole)))

-- a page into which somebody may store has its bytes
page-size : (s : State) (e p : ℕ) → IsSoundState s → may_store (access s e p) ≡ true → length (page_bytes s p) ≡ 4096
page-size s e p sound may = of (page_at s p) refl
  where
    of : (o : Option Page) → page_at s p ≡ o → length (option_map_or (λ (q : Page). q.bytes) o []) ≡ 4096
    of None at = absurd (false≢true (ap (λ (o : Option Page). may_store (right_of e o (transaction_at s p))) (sym at) ∙ may))
    of (Some q) at = (sound.pages p q at).size

-- bytes of a page of a sound state that e stores there
pub bytes-stored : (s : State) (e p : ℕ) (bytes : List ℕ) → IsSoundState s → p < length s.pages → may_store (access s e p) ≡ true → length bytes ≡ 4096 → are_bytes bytes
    → state_after_as s (stores e (s.ram_base + 4096 * p) bytes) ≡ with_bytes_of s p bytes
bytes-stored s e p bytes sound within may size are =
    let aligned : s.ram_base % 0x200000 ≡ 0 = eqb-true _ _ (and_parts _ _ sound.sized.base).0 in
    let most : s.ram_base + 4096 * length s.pages ≤ 2 ^ 32 = sound.sized.within in
    let room = page-size s e p sound may in
    ap (λ (a : ℕ). state_after_as s (stores e a bytes)) (omega arith)
    ∙ stores-from bytes s e p 0 within (omega (arith, aligned)) (omega (arith, most, within)) may are (omega (arith, size)) room
    ∙ ap (λ (o : Option Page). record s { pages = set s.pages p o }) (page-all (page_at s p) bytes (room ∙ sym size))

-- ---- pages in a row
pub after-both : (s : State) (xs ys : List (ℕ × Op)) → state_after_as s (xs ++ ys) ≡ state_after_as (state_after_as s xs) ys
after-both s [] ys = refl
after-both s (x ∷ xs) ys = after-both (step_as s x.0 x.1).state xs ys

abbrev given : List ℕ → Option Page → Option Page
given bytes o = option_map (λ (q : Page). record q { bytes = bytes }) o

right-given : (e : ℕ) (bytes : List ℕ) (o : Option Page) (t : Option Transaction) → right_of e (given bytes o) t ≡ right_of e o t
right-given e bytes None t = refl
right-given e bytes (Some q) None = refl
right-given e bytes (Some q) (Some t) = of (held_by t e)
  where
    of : (o : Option Rights) → right_by e (record q { bytes = bytes }) t o ≡ right_by e q t o
    of None = refl
    of (Some right) = refl

access-given : (s : State) (q : ℕ) (bytes : List ℕ) (e p : ℕ) → q < length s.pages → access (with_bytes_of s q bytes) e p ≡ access s e p
access-given s q bytes e p within = elim (cases_eq p q) [
  | inr other ↦ ap (λ (o : Option Page). right_of e o (transaction_at s p)) (get_or-set_other s.pages q p (given bytes (page_at s q)) None other)
  | inl same ↦
      subst (λ (r : ℕ). access (with_bytes_of s q bytes) e r ≡ access s e r) (sym same)
      (ap (λ (o : Option Page). right_of e o (transaction_at s q)) (get_or-set_same s.pages q (given bytes (page_at s q)) None within) ∙ right-given e bytes (page_at s q) (transaction_at s q))
]

-- a page into which somebody may store is one of RAM
page-within : (s : State) (e p : ℕ) → may_store (access s e p) ≡ true → p < length s.pages
page-within s e p may = elim (cases_lt p (length s.pages)) [
  | inl lt ↦ lt
  | inr past ↦ absurd (false≢true (ap (λ (o : Option Page). may_store (right_of e o (transaction_at s p))) (sym (get_or_past s.pages p None past)) ∙ may))
]

some-there : (s : State) (e p : ℕ) (o : Option Page) → page_at s p ≡ o → may_store (access s e p) ≡ true → o ≡ None → ⊥
some-there s e p o at may none = false≢true (ap (λ (o : Option Page). may_store (right_of e o (transaction_at s p))) (sym (at ∙ none)) ∙ may)

-- two pages that differ in bytes alone
given-alike : (o q : Option Page) → blank_where true o ≡ blank_where true q → given (option_map_or (λ (x : Page). x.bytes) q []) o ≡ q
given-alike None None same = refl
given-alike None (Some q) same = absurd (none-some _ same)
given-alike (Some o) None same = absurd (none-some _ (sym same))
given-alike (Some o) (Some q) same = ap (λ (x : Page). Some (record x { bytes = q.bytes })) (same_Some _ _ same)

page-sound : (t : State) (p : ℕ) → IsSoundState t → (o : Option Page) → page_at t p ≡ o → (o ≡ None → ⊥)
    → (length (option_map_or (λ (x : Page). x.bytes) o []) ≡ 4096) × are_bytes (option_map_or (λ (x : Page). x.bytes) o [])
page-sound t p sound None at some = absurd (some refl)
page-sound t p sound (Some q) at some = let good = sound.pages p q at in (good.size, good.bytes)

-- what is alike but for bytes of some pages is alike there
page-alike : (hides : ℕ → Bool) (s t : State) → blank hides s ≡ blank hides t → (p : ℕ) → blank_where (hides p) (page_at s p) ≡ blank_where (hides p) (page_at t p)
page-alike hides s t same p =
    sym (at-blanked hides s.pages p) ∙ ap (λ (x : State). page_at x p) same ∙ at-blanked hides t.pages p

own-given : (o : Option Page) → given (option_map_or (λ (x : Page). x.bytes) o []) o ≡ o
own-given None = refl
own-given (Some q) = refl

-- who differs in bytes of some pages alone, and in none of them, is the same
pub same-beside : (s t : State) (named : ℕ → Bool) → AreBeside s t named → ((p : ℕ) → named p ≡ true → page_bytes t p ≡ page_bytes s p) → t ≡ s
same-beside s t named beside bytes = sym (λ i. record (beside.same i) { pages = pages i })
  where
    each : (p : ℕ) → page_at s p ≡ page_at t p
    each p = of (named p) refl
      where
        of : (b : Bool) → named p ≡ b → page_at s p ≡ page_at t p
        of false is = subst (λ (b : Bool). blank_where b (page_at s p) ≡ blank_where b (page_at t p)) is (page-alike named s t beside.same p)
        of true is =
            sym (own-given (page_at s p)) ∙ ap (λ (x : List ℕ). given x (page_at s p)) (sym (bytes p is))
            ∙ given-alike (page_at s p) (page_at t p) (subst (λ (b : Bool). blank_where b (page_at s p) ≡ blank_where b (page_at t p)) is (page-alike named s t beside.same p))

    pages : s.pages ≡ t.pages
    pages =
        sym (map_at-id (λ p page. page) s.pages None (λ p. refl))
        ∙ map_at-alike (λ p page. page) (λ p page. page) s.pages t.pages None None
        (sym (length-map_at _ s.pages) ∙ ap (λ (x : State). length x.pages) beside.same ∙ length-map_at _ t.pages) each
        ∙ map_at-id (λ p page. page) t.pages None (λ p. refl)

none-none : (o : Option Page) → None ≡ blank_where true o → o ≡ None
none-none None is = refl
none-none (Some q) is = absurd (none-some _ is)

-- one page more is as in t
next-alike : (s t : State) (first : ℕ) (others : ℕ → Bool) (bytes : List ℕ) → blank (λ p. first == p || others p) s ≡ blank (λ p. first == p || others p) t → first < length s.pages
    → given bytes (page_at s first) ≡ page_at t first → blank others (with_bytes_of s first bytes) ≡ blank others t
next-alike s t first others bytes same within is = λ i. record (same i) {
  pages =
      map_at-alike (λ p page. blank_where (others p) page) (λ p page. blank_where (others p) page)
      (set s.pages first (given bytes (page_at s first))) t.pages None None
      (length-set s.pages first (given bytes (page_at s first)) ∙ sym (length-map_at _ s.pages) ∙ ap (λ (x : State). length x.pages) same ∙ length-map_at _ t.pages)
      each i;
}
  where
    each : (p : ℕ) → blank_where (others p) (get_or (set s.pages first (given bytes (page_at s first))) p None) ≡ blank_where (others p) (page_at t p)
    each p = elim (cases_eq p first) [
      | inl at ↦
          ap (blank_where (others p))
          (subst (λ (q : ℕ). get_or (set s.pages first (given bytes (page_at s first))) q None ≡ page_at t q) (sym at)
          (get_or-set_same s.pages first (given bytes (page_at s first)) None within ∙ is))
      | inr other ↦
          ap (blank_where (others p)) (get_or-set_other s.pages first p (given bytes (page_at s first)) None other)
          ∙ subst (λ (b : Bool). blank_where b (page_at s p) ≡ blank_where b (page_at t p))
          (ap (λ (b : Bool). b || others p) (ne_eqb first p (λ is. other (sym is)))) (page-alike (λ q. first == q || others q) s t same p)
    ]

may-given : (xs : List (ℕ × ℕ)) (s : State) (q : ℕ) (bytes : List ℕ) → q < length s.pages → MayAllStore s xs → MayAllStore (with_bytes_of s q bytes) xs
may-given [] s q bytes within may = tt
may-given (x ∷ xs) s q bytes within (known, one, may) = (known, ap may_store (access-given s q bytes x.0 x.1 within) ∙ one, may-given xs s q bytes within may)

-- who differs from t in bytes of pages alone, into which endpoints store what t has, is t
pub all-stored : (xs : List (ℕ × ℕ)) (s t : State) → IsSoundState s → IsSoundState t → blank (is_among xs) s ≡ blank (is_among xs) t → MayAllStore s xs
    → state_after_as s (all_stores t xs) ≡ t
all-stored [] s t sound good same may = sym (nothing-hidden s) ∙ same ∙ nothing-hidden t
  where
    nothing-hidden : (x : State) → blank (is_among []) x ≡ x
    nothing-hidden x = ap (λ (ps : List (Option Page)). record x { pages = ps }) (map_at-id (λ p page. blank_where (is_among [] p) page) x.pages None (λ p. refl))
all-stored (x ∷ xs) s t sound good same (known, one, may) =
    let e : ℕ = x.0 in
    let first : ℕ = x.1 in
    let base : s.ram_base ≡ t.ram_base = ap (λ (x : State). x.ram_base) same in
    let within = page-within s e first one in
    let here : is_among (x ∷ xs) first ≡ true = ap (λ (b : Bool). b || is_among xs first) (eq-eqb first first refl) in
    let alike : blank_where true (page_at s first) ≡ blank_where true (page_at t first) =
    subst (λ (b : Bool). blank_where b (page_at s first) ≡ blank_where b (page_at t first)) here (page-alike (is_among (x ∷ xs)) s t same first) in
    let some : (page_at t first ≡ None → ⊥) = λ none. some-there s e first (page_at s first) refl one
    (none-none (page_at s first) (sym (alike ∙ ap (blank_where true) none))) in
    let (size, are) = page-sound t first good (page_at t first) refl some in
    let stored : state_after_as s (stores e (t.ram_base + 4096 * first) (page_bytes t first)) ≡ with_bytes_of s first (page_bytes t first) =
    ap (λ (b : ℕ). state_after_as s (stores e (b + 4096 * first) (page_bytes t first))) (sym base)
    ∙ bytes-stored s e first (page_bytes t first) sound within one size are in
    after-both s (stores e (t.ram_base + 4096 * first) (page_bytes t first)) (all_stores t xs)
    ∙ ap (λ (u : State). state_after_as u (all_stores t xs)) stored
    ∙ all-stored xs (with_bytes_of s first (page_bytes t first)) t
    (subst IsSoundState stored (sound_after_as s (stores e (t.ram_base + 4096 * first) (page_bytes t first)) sound)) good
    (next-alike s t first (is_among xs) (page_bytes t first) same within (given-alike (page_at s first) (page_at t first) alike))
    (may-given xs s first (page_bytes t first) within may)

-- what others write is stores of theirs
pub written-stored : (s t : State) → IsSoundState s → (written : AreWritten s t) → state_after_as s (all_stores t written.pages) ≡ t
written-stored s t sound written = all-stored written.pages s t sound written.sound written.same written.may
