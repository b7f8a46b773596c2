-- SPDX-License-Identifier: MIT OR Apache-2.0
-- An operation reads no more than the bytes that it is said to read.
use Rattle.std.proofs.Common.{◌≡◌, ◌∙◌, ℕ, zero, suc, ◌+◌, ◌-◌, ◌*◌, ◌/◌, ◌<◌, ◌≤◌, Bool, true, false, List, [], ◌++◌, length, take, Option, Some, None, is_some, refl, sym, ap, subst, arith, inl, inr, ◌⊎◌, length-take, nat_le}
use Rattle.std.specs.List.{flat_map}
use Rattle.std.specs.Option.{option_map, option_map_or}
use Rattle.std.proofs.Math.Seq.{take-append-add}
use Rattle.std.proofs.lemmas.Bool.{and_parts, cases_lt, false≢true}
use Rattle.std.proofs.lemmas.Bool.Decides.{nat_tests}
use Rattle.std.proofs.lemmas.List.{length-append, take-append-le, take_all}
use Rattle.byteorder.specs.Numbers.{little_from-take}
use Rattle.ffa_model.specs.declared.call.Call as calls
use Rattle.ffa_model.specs.declared.call.Call.TheVariants.{MemDonate, MemLend, MemShare, MemRetrieve, MemRelinquish, MsgSend2}
use Rattle.ffa_model.specs.declared.operation.Op.{Op}
use Rattle.ffa_model.specs.declared.operation.Op.TheVariants.{Call, Load, Fetch}
use Rattle.ffa_model.specs.DescriptorPlaces.{u16_at, u32_at, u64_at}
use Rattle.ffa_model.specs.Lists.{is_in_run, listed, run}
use Rattle.ffa_model.specs.Memory.{page_bytes, run_bytes}
use Rattle.ffa_model.specs.Messages.{tx_bytes}
use Rattle.ffa_model.specs.Registers.{decode}
use Rattle.ffa_model.specs.RelinquishDescriptor.{relinquish_of}
use Rattle.ffa_model.specs.SoundState.{IsSoundState}
use Rattle.ffa_model.specs.State.{State, Buffers, Page, buffers_of, own_right_of, page_at}
use Rattle.ffa_model.specs.Step.{step}
use Rattle.ffa_model.proofs.Runs.{to-run}
use Rattle.ffa_laws.specs.Readable.{blank, blank_where, blanked}
use Rattle.ffa_laws.specs.Reads.{AreBeside, AreReadSame, HaveInTx, ReadsNoMore, bytes_read, pages_holding, tx_bytes_read, tx_pages_read}
use Rattle.ffa_laws.proofs.Blanks.{AreReadAlike, IsReadAlike, IsSameTo, Steps, outcome-o, page-b, read-same}
use Rattle.ffa_laws.proofs.SoundOperations.{step-sound}
use Rattle.ffa_laws.proofs.SoundSteady.{sound-steady}
use Rattle.ffa_model.specs.Access.{ownership_of}
use Rattle.ffa_model.specs.Buffers.{is_usable}
use Rattle.ffa_model.specs.Rights.{may_store}

-- the first bytes of pieces that agree in them, as far as these are whole pages
listed-front : (f g : ℕ → List ℕ) (pages : ℕ) (h : ℕ → ℕ) (count n : ℕ) → ((i : ℕ) → i < count → take (n - 4096 * i) (f (h i)) ≡ take (n - 4096 * i) (g (h i)))
    → ((i : ℕ) → i < count → (length (f (h i)) ≡ 4096) × (length (g (h i)) ≡ 4096))
    → (n ≤ 4096 * count) ⊎ (pages ≤ count) → take n (flat_map f (listed pages h)) ≡ take n (flat_map g (listed pages h))
listed-front f g zero h count n same whole far = refl
listed-front f g (suc pages) h zero zero same whole far = refl
listed-front f g (suc pages) h zero (suc n) same whole (inl few) = absurd (omega (arith, few))
listed-front f g (suc pages) h zero (suc n) same whole (inr all) = absurd (omega (arith, all))
listed-front f g (suc pages) h (suc count) n same whole far =
    let behind : take (n - 4096) (flat_map f later) ≡ take (n - 4096) (flat_map g later) =
    listed-front f g pages (λ i. h (suc i)) count (n - 4096)
    (λ i lt. subst (λ (m : ℕ). take m (f (h (suc i))) ≡ take m (g (h (suc i)))) (omega arith) (same (suc i) (omega (arith, lt))))
    (λ i lt. whole (suc i) (omega (arith, lt))) (less far) in
    elim (cases_lt n 4096) [
      | inl lt ↦
          take-append-le n (f (h 0)) _ (omega (arith, lt, wide.0)) ∙ first ∙ sym (take-append-le n (g (h 0)) _ (omega (arith, lt, wide.1)))
      | inr from ↦
          let at : n ≡ length (f (h 0)) + (n - 4096) = omega (arith, from, wide.0) in
          let to : n ≡ length (g (h 0)) + (n - 4096) = omega (arith, from, wide.1) in
          ap (λ (m : ℕ). take m (f (h 0) ++ flat_map f later)) at
          ∙ take-append-add (f (h 0)) (flat_map f later) (n - 4096)
          ∙ (λ i. both from i ++ behind i)
          ∙ sym (ap (λ (m : ℕ). take m (g (h 0) ++ flat_map g later)) to
          ∙ take-append-add (g (h 0)) (flat_map g later) (n - 4096))
    ]
  where
    later : List ℕ
    later = listed pages (λ i. h (suc i))

    wide : (length (f (h 0)) ≡ 4096) × (length (g (h 0)) ≡ 4096)
    wide = whole 0 (omega arith)

    first : take n (f (h 0)) ≡ take n (g (h 0))
    first = subst (λ (m : ℕ). take m (f (h 0)) ≡ take m (g (h 0))) (omega arith) (same 0 (omega arith))

    both : 4096 ≤ n → f (h 0) ≡ g (h 0)
    both from = sym (take_all n (f (h 0)) (omega (arith, from, wide.0))) ∙ first ∙ take_all n (g (h 0)) (omega (arith, from, wide.1))

    less : (n ≤ 4096 * suc count) ⊎ (suc pages ≤ suc count) → (n - 4096 ≤ 4096 * count) ⊎ (pages ≤ count)
    less (inl few) = inl (omega (arith, few))
    less (inr all) = inr (omega (arith, all))

-- and so of pages in a row, of which as many as hold the bytes agree in them
pub holding-front : (f g : ℕ → List ℕ) (first pages n : ℕ)
    → ((p : ℕ) → is_in_run first (pages_holding pages n) p ≡ true → take (n - 4096 * (p - first)) (f p) ≡ take (n - 4096 * (p - first)) (g p))
    → ((p : ℕ) → is_in_run first pages p ≡ true → (length (f p) ≡ 4096) × (length (g p) ≡ 4096)) → take n (flat_map f (run first pages)) ≡ take n (flat_map g (run first pages))
holding-front f g first pages n same whole =
    let few : pages_holding pages n ≤ pages = grind (arith, nat_tests) in
    listed-front f g pages (λ i. first + i) (pages_holding pages n) n
    (λ i lt. subst (λ (m : ℕ). take (n - 4096 * m) (f (first + i)) ≡ take (n - 4096 * m) (g (first + i))) (omega arith)
    (same (first + i) (to-run first (pages_holding pages n) (first + i) (omega arith) (omega (arith, lt)))))
    (λ i lt. whole (first + i) (to-run first pages (first + i) (omega arith) (omega (arith, lt, few))))
    (elim (cases_lt pages ((n + 4095) / 4096)) [
      | inl lt ↦ inr (grind (arith, nat_tests))
      | inr from ↦ inl (let count : pages_holding pages n ≡ (n + 4095) / 4096 = grind (arith, nat_tests) in omega (arith, count))
    ])

-- pieces of at most a page have together at most as many pages
length-most : (f : ℕ → List ℕ) → ((p : ℕ) → length (f p) ≤ 4096) → (pages : ℕ) (h : ℕ → ℕ) → length (flat_map f (listed pages h)) ≤ 4096 * pages
length-most f each zero h = omega arith
length-most f each (suc pages) h =
    let one = each (h 0) in
    let rest = length-most f each pages (λ i. h (suc i)) in
    let both = length-append (f (h 0)) (flat_map f (listed pages (λ i. h (suc i)))) in
    omega (arith, one, rest, both)

-- a relinquish descriptor is in the first 18 bytes
relinquish-front : (bytes : List ℕ) → relinquish_of (take 18 bytes) ≡ relinquish_of bytes
unfolding relinquish_of u16_at u32_at u64_at
relinquish-front bytes =
    simp (little_from-take 0 8 18 bytes (omega arith), little_from-take 8 4 18 bytes (omega arith), little_from-take 12 4 18 bytes (omega arith), little_from-take 16 2 18 bytes (omega arith), long)
  where
    long : nat_le 18 (length (take 18 bytes)) ≡ nat_le 18 (length bytes)
    long = let cut = length-take 18 bytes in grind (arith, nat_tests)

-- sound states that differ in bytes have as many in each page
module _ (s t : State) (sound : IsSoundState s) (there : IsSoundState t) (named : ℕ → Bool) (same : blank named s ≡ blank named t) where
  pub whole-beside : AreBeside s t named
  whole-beside = record {
    same = same;
    whole = λ p. of (named p) p (page_at s p) (page_at t p) refl refl (sym (page-b s named p) ∙ ap (λ (u : State). page_at u p) same ∙ page-b t named p);
  }
    where
      of : (c : Bool) (p : ℕ) (o q : Option Page) → page_at s p ≡ o → page_at t p ≡ q → blank_where c o ≡ blank_where c q
          → length (option_map_or (λ (x : Page). x.bytes) q []) ≡ length (option_map_or (λ (x : Page). x.bytes) o [])
      of c p None None at at' is = refl
      of c p (Some x) (Some y) at at' is = (there.pages p y at').size ∙ sym (sound.pages p x at).size
      of true p None (Some y) at at' is = absurd (false≢true (ap is_some is))
      of true p (Some x) None at at' is = absurd (false≢true (ap is_some (sym is)))
      of false p None (Some y) at at' is = absurd (false≢true (ap is_some is))
      of false p (Some x) None at at' is = absurd (false≢true (ap is_some (sym is)))

-- ---- pages of sound states, and TX by where its buffers are
abbrev tx_in : State → Option Buffers → List ℕ
tx_in s at = option_map_or (λ (b : Buffers). run_bytes s b.tx b.pages) at []

page-most : (s : State) → IsSoundState s → (p : ℕ) → length (page_bytes s p) ≤ 4096
page-most s sound p = of (page_at s p) refl
  where
    of : (at : Option Page) → page_at s p ≡ at → length (option_map_or (λ (q : Page). q.bytes) at []) ≤ 4096
    of None at = omega arith
    of (Some q) at = let size = (sound.pages p q at).size in omega (arith, size)

-- a page that is usable as a buffer is whole
whole-page : (s : State) → IsSoundState s → (e p : ℕ) → is_usable e (ownership_of s) p ≡ true → length (page_bytes s p) ≡ 4096
whole-page s sound e p usable = of (page_at s p) refl (and_parts _ (may_store (own_right_of s p)) usable).1
  where
    of : (o : Option Page) → page_at s p ≡ o → may_store (option_map (λ (q : Page). q.own_right) o) ≡ true → length (option_map_or (λ (q : Page). q.bytes) o []) ≡ 4096
    of None at may = absurd (false≢true may)
    of (Some q) at may = (sound.pages p q at).size

-- ---- two states that differ in bytes alone
module _ (s t : State) (named : ℕ → Bool) (beside : AreBeside s t named) where
  -- the one with the other's pages
  as-other : record s { pages = t.pages } ≡ t
  as-other = λ i. record (beside.same i) { pages = t.pages }

  pages-beside : blanked named t.pages ≡ blanked named s.pages
  pages-beside = ap (λ (u : State). u.pages) (sym beside.same)

  abbrev o : State
  o = record s { pages = t.pages }

  -- what a call makes of TX, where what it reads is the same
  module _ (sound : IsSoundState s) (there : IsSoundState t) where
    call-read : (call : calls.Call) → HaveInTx s o (tx_bytes_read s call) → AreReadAlike call (tx_bytes o s.runner) (tx_bytes s s.runner)
    call-read call = of (buffers_of s s.runner) call
      where
        of : (at : Option Buffers) (call : calls.Call) → let count = option_map_or (λ (b : Buffers). bytes_read call (4096 * b.pages)) at 0 in take count (tx_in o at) ≡ take count (tx_in s at)
            → AreReadAlike call (tx_in o at) (tx_in s at)
        of None call read = read-same call [] [] refl
        of (Some b) (MemDonate x) read = read
        of (Some b) (MemLend x) read = read
        of (Some b) (MemShare x) read = read
        of (Some b) (MemRetrieve x) read = read
        of (Some b) MemRelinquish read = sym (relinquish-front (tx_in o (Some b))) ∙ ap relinquish_of read ∙ relinquish-front (tx_in s (Some b))
        of (Some b) MsgSend2 read =
            sym (take_all (4096 * b.pages) (tx_in o (Some b)) (length-most (page_bytes o) (λ p. page-most t there p) b.pages (λ i. b.tx + i)))
            ∙ read ∙ take_all (4096 * b.pages) (tx_in s (Some b)) (length-most (page_bytes s) (page-most s sound) b.pages (λ i. b.tx + i))
        of (Some b) call read = tt

    op-read : (op : Op) → AreReadSame s o op → IsReadAlike op (tx_bytes o s.runner) (tx_bytes s s.runner)
    op-read (Call x) read = call-read (decode x) read
    op-read _ read = tt

  same-to : (op : Op) → AreReadSame s o op → IsSameTo s named t.pages pages-beside op
  same-to (Load address size) read = λ some. read
  same-to (Fetch address) read = λ some. read
  same-to _ read = tt

  -- an operation is alike
  steps-alike : IsSoundState s → IsSoundState t → (op : Op) → AreReadSame s t op → Steps s named (step t op) (step s op)
  steps-alike sound there op read =
      let here : AreReadSame s o op = subst (λ (u : State). AreReadSame s u op) (sym as-other) read in
      subst (λ (u : State). Steps s named (step u op) (step s op)) as-other
      (outcome-o s named t.pages pages-beside op (op-read sound there op here) (same-to op here))

-- the same first bytes in TX, where its pages have the same ones
pub same-in-front : (s t : State) (named : ℕ → Bool) → AreBeside s t named → IsSoundState s → (call : calls.Call) (b : Buffers) → buffers_of s s.runner ≡ Some b
    → ((p : ℕ) → is_in_run b.tx (tx_pages_read b call) p ≡ true
    → take (bytes_read call (4096 * b.pages) - 4096 * (p - b.tx)) (page_bytes t p) ≡ take (bytes_read call (4096 * b.pages) - 4096 * (p - b.tx)) (page_bytes s p))
    → HaveInTx s t (tx_bytes_read s call)
same-in-front s t named beside sound call b is same =
    let good = sound.buffers s.runner b (sound-steady s sound).runner is in
    let there : buffers_of t s.runner ≡ Some b = ap (λ (u : State). buffers_of u s.runner) (sym beside.same) ∙ is in
    let front =
    holding-front (page_bytes t) (page_bytes s) b.tx b.pages (bytes_read call (4096 * b.pages)) same
    (λ p its. let whole = whole-page s sound s.runner p (good.tx p its) in (beside.whole p ∙ whole, whole)) in
    (λ i. take (option_map_or (λ (x : Buffers). bytes_read call (4096 * x.pages)) (is i) 0) (tx_in t (there i)))
    ∙ front ∙ sym (λ i. take (option_map_or (λ (x : Buffers). bytes_read call (4096 * x.pages)) (is i) 0) (tx_in s (is i)))

pub reads_no_more : (s : State) (op : Op) → IsSoundState s → ReadsNoMore s op
reads_no_more s op sound = record {
  outcome = λ t named there beside read. (steps-alike s t named beside sound there op read).outcome;
  state = λ t named there beside read.
      whole-beside (step s op).state (step t op).state (step-sound s sound op) (step-sound t there op) named (sym (steps-alike s t named beside sound there op read).state);
}
