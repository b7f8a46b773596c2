-- SPDX-License-Identifier: MIT OR Apache-2.0
-- The pages of TX that an operation reads, and what others write there, as stores of who runs.
use Rattle.std.proofs.Common.{◌≡◌, ◌∙◌, ℕ, zero, suc, ◌+◌, ◌-◌, ◌*◌, ◌/◌, ◌<◌, ◌≤◌, Bool, true, false, cond, List, [], ◌∷◌, ◌++◌, length, get_or, Option, Some, None, refl, sym, ap, subst, arith, inl, inr}
use Rattle.std.specs.Prelude.{◌==◌, ◌&&◌, ◌||◌, ◌^◌, nat_le, nat_lt}
use Rattle.std.proofs.lemmas.List.{get_or_past}
use Rattle.std.specs.Option.{option_and_then, option_map, option_map_or}
use Rattle.std.proofs.lemmas.Bool.{and_from, cases_Bool, cases_eq, cases_lt, eq-eqb, false_from_ne_true, false≢true, le-leb, lt-ltb, ne_eqb}
use Rattle.std.proofs.Math.Path.{fun_ext}
use Rattle.std.proofs.lemmas.Bool.Decides.{nat_tests}
use Rattle.std.proofs.lemmas.Option.{none-some, same_Some}
use Rattle.ffa_model.specs.declared.call.Call as calls
use Rattle.ffa_model.specs.declared.call.Call.TheVariants.{MemDonate, MemLend, MemShare, MemRetrieve, MemRelinquish, MsgSend2}
use Rattle.ffa_model.specs.declared.descriptor.RelinquishDesc.{RelinquishDesc}
use Rattle.ffa_model.specs.declared.descriptor.RetrieveDesc.{RetrieveDesc}
use Rattle.ffa_model.specs.declared.operation.Op.{Op}
use Rattle.ffa_model.specs.declared.operation.Op.TheVariants.{Call, Load, Store, Fetch}
use Rattle.ffa_model.specs.declared.rights.Kind.{Kind}
use Rattle.ffa_model.specs.declared.rights.Kind.TheVariants.{Share, Lend, Donate}
use Rattle.ffa_model.specs.Access.{access, right_of, transaction_at}
use Rattle.ffa_model.specs.Buffers.{buffers_with_rx}
use Rattle.ffa_model.specs.Calls.{Stepped}
use Rattle.ffa_model.specs.Identifiers.{place}
use Rattle.ffa_model.specs.Lists.{is_in_run}
use Rattle.ffa_model.specs.Memory.{page_bytes, page_of_address}
use Rattle.ffa_model.specs.MemoryRetrieve.{retrieve_read, retrieved, retrieved_from}
use Rattle.ffa_model.specs.MemoryReturn.{relinquish_read, relinquished, relinquished_from}
use Rattle.ffa_model.specs.MemorySend.{memory_sent, send_read}
use Rattle.ffa_model.specs.Messages.{header_in, tx_bytes}
use Rattle.ffa_model.specs.Registers.{decode}
use Rattle.ffa_model.specs.Rights.{may_store}
use Rattle.ffa_model.specs.SendDescriptor.{SendRecord}
use Rattle.ffa_model.specs.SoundState.{IsSoundState}
use Rattle.ffa_model.specs.State.{State, Buffers, Page, Party, buffers_of, is_known, page_at, transaction_of}
use Rattle.ffa_model.specs.Step.{service, step}
use Rattle.ffa_model.proofs.Runs.{in-run, run-wider, to-run}
use Rattle.ffa_laws.specs.Readable.{blank}
use Rattle.ffa_laws.specs.Reads.{AreBeside, AreReadSame, bytes_read, pages_holding, tx_pages_read}
use Rattle.ffa_laws.proofs.NoMore.{same-in-front}
use Rattle.ffa_physmem.specs.Moments.{AgreeInFirst}
use Rattle.ffa_laws.specs.Stores.{AreStores, AreWritten, MayAllStore, all_stores, is_among, stores}
use Rattle.ffa_laws.proofs.ElsewhereLaws.{step_as-runner}
use Rattle.ffa_laws.proofs.ElsewhereRunLaws.{known-as}
use Rattle.ffa_laws.proofs.Form.{served-kept}
use Rattle.ffa_laws.proofs.Kept.{step-fixed}
use Rattle.ffa_laws.proofs.OwnTx.{leaves_tx}
use Rattle.ffa_laws.proofs.ReadBacks.{either-kept}
use Rattle.ffa_laws.proofs.SoundOperations.{step-sound}
use Rattle.ffa_laws.proofs.SoundSteady.{runner-known}
use Rattle.ffa_laws.proofs.Writers.{usable-writes}
use Rattle.ffa_laws.proofs.Written.{at-changed, is_at, with_rx_full}
use Rattle.ffa_spmc.specs.declared.run.Run.{Run}
use Rattle.ffa_spmc.specs.Among.{HaveInFront, bytes_read_by, front_of, is_in, pages_read}
use Rattle.ffa_spmc.specs.Clustered.{IsSeen}
use Rattle.ffa_spmc.proofs.Readings.{holding-few}

-- ---- where TX stands

abbrev tx_place : Buffers → ℕ × ℕ
tx_place b = (b.tx, b.pages)

abbrev tx_in : List (Option Buffers) → ℕ → Option (ℕ × ℕ)
tx_in bs e = option_map tx_place (get_or bs (place e) None)

tx-filled : (bs : List (Option Buffers)) (f : ℕ) (full : Bool) (e : ℕ) → tx_in (buffers_with_rx bs f full) e ≡ tx_in bs e
tx-filled bs f full e =
    ap (λ (o : Option Buffers). option_map tx_place o) (at-changed (with_rx_full full) bs (place f) (place e) refl)
    ∙ of (is_at (place f) (place e)) (get_or bs (place e) None)
  where
    of : (b : Bool) (o : Option Buffers) → option_map tx_place (cond b (with_rx_full full o) o) ≡ option_map tx_place o
    of true None = refl
    of true (Some x) = refl
    of false o = refl

-- the calls that read it
abbrev reads_tx : calls.Call → Bool
reads_tx (MemDonate x) = true
reads_tx (MemLend x) = true
reads_tx (MemShare x) = true
reads_tx (MemRetrieve x) = true
reads_tx MemRelinquish = true
reads_tx MsgSend2 = true
reads_tx call = false

no-pages : (pages : ℕ) → pages_holding pages 0 ≡ 0
no-pages pages = grind (arith, nat_tests)

front-none : (b : Buffers) (n : ℕ) (run : Run) → n ≡ 0 → front_of b n ≡ Some run → ⊥
front-none b n run none some = none-some run (ap (front_of b) (sym none) ∙ some)

-- leave it where it is
module _ (s : State) (e : ℕ) where
  abbrev IsKept : State → Type 0
  IsKept t = tx_in t.buffers e ≡ tx_in s.buffers e

  tx-sent : (kind : Kind) (o : Option SendRecord) → IsKept (memory_sent s kind o)
  tx-sent kind None = refl
  tx-sent kind (Some r) = refl

  tx-retrieved : (o : Option RetrieveDesc) → IsKept (retrieved s o)
  tx-retrieved None = refl
  tx-retrieved (Some d) = elim (transaction_of s d.handle) as (λ o. IsKept (retrieved_from s d o)) [ None ↦ refl | Some t ↦ tx-filled s.buffers s.runner true e ]

  tx-relinquished : (o : Option RelinquishDesc) → IsKept (relinquished s o)
  tx-relinquished None = refl
  tx-relinquished (Some d) = elim (transaction_of s d.handle) as (λ o. IsKept (relinquished_from s d o)) [ None ↦ refl | Some t ↦ refl ]

  tx-service : (call : calls.Call) → reads_tx call ≡ true → IsKept (service s call).state
  tx-service (MemDonate x) reads = tx-sent Donate (send_read s Donate x.total)
  tx-service (MemLend x) reads = tx-sent Lend (send_read s Lend x.total)
  tx-service (MemShare x) reads = tx-sent Share (send_read s Share x.total)
  tx-service (MemRetrieve x) reads = either-kept IsKept s x (tx-retrieved (retrieve_read s x.total)) refl (λ bytes. tx-filled s.buffers s.runner true e)
  tx-service MemRelinquish reads = tx-relinquished (relinquish_read s)
  tx-service MsgSend2 reads = tx-filled s.buffers (header_in (tx_bytes s s.runner)).receiver true e
  tx-service call reads = absurd (false≢true reads)

-- pages are read by such a call alone, of TX
record IsOfTx (s : State) (op : Op) (run : Run) : Type 0 where
  buffers : Buffers
  has : buffers_of s s.runner ≡ Some buffers
  first : run.first.0 ≡ buffers.tx
  few : run.count ≤ buffers.pages
  kept : tx_in (step s op).state.buffers s.runner ≡ tx_in s.buffers s.runner
  leaves : IsSoundState s → (p : ℕ) → is_in_run buffers.tx buffers.pages p ≡ true → page_bytes (step s op).state p ≡ page_bytes s p

reads-some : (call : calls.Call) (b : Buffers) (run : Run) → front_of b (pages_holding b.pages (bytes_read call (4096 * b.pages))) ≡ Some run → reads_tx call ≡ true
reads-some (MemDonate x) b run is = refl
reads-some (MemLend x) b run is = refl
reads-some (MemShare x) b run is = refl
reads-some (MemRetrieve x) b run is = refl
reads-some MemRelinquish b run is = refl
reads-some MsgSend2 b run is = refl
reads-some call b run is = absurd (front-none b (pages_holding b.pages 0) run (no-pages b.pages) is)

front-parts : (b : Buffers) (n : ℕ) (run : Run) → front_of b n ≡ Some run → (run.first.0 ≡ b.tx) × (run.count ≡ n)
front-parts b n run is = go (n == 0) is
  where
    go : (z : Bool) → cond z None (Some (record { first = record { 0 = b.tx }; count = n })) ≡ Some run → (run.first.0 ≡ b.tx) × (run.count ≡ n)
    go true none = absurd (none-some run none)
    go false some = (ap (λ (r : Run). r.first.0) (sym (same_Some _ _ some)), ap (λ (r : Run). r.count) (sym (same_Some _ _ some)))

of-tx : (s : State) (op : Op) (run : Run) → pages_read s op ≡ Some run → IsOfTx s op run
of-tx s (Load address size) run is = absurd (none-some run is)
of-tx s (Store address size value) run is = absurd (none-some run is)
of-tx s (Fetch address) run is = absurd (none-some run is)
of-tx s (Call x) run is = of (buffers_of s s.runner) refl is
  where
    of : (o : Option Buffers) → buffers_of s s.runner ≡ o
        → option_and_then (λ (b : Buffers). front_of b (pages_holding b.pages (bytes_read (decode x) (4096 * b.pages)))) o ≡ Some run → IsOfTx s (Call x) run
    of None at none = absurd (none-some run none)
    of (Some b) at some =
        let bytes : ℕ = bytes_read (decode x) (4096 * b.pages) in
        let (first, count) = front-parts b (pages_holding b.pages bytes) run some in
        let most = holding-few b.pages bytes in
        record {
          buffers = b;
          has = at;
          first = first;
          few = omega (arith, count, most);
          kept =
              served-kept (λ t. tx_in t.buffers s.runner ≡ tx_in s.buffers s.runner) s (service s (decode x)) refl
              (λ none. tx-service s s.runner (decode x) (reads-some (decode x) b run some));
          leaves = λ sound p. leaves_tx s (decode x) sound b p at;
        }

-- what an operation reads is the same where its pages of TX have the same first bytes
pub read-in-front : (s t : State) (op : Op) (run : Run) (bytes : ℕ) → IsSoundState s → AreBeside s t (is_in run) → pages_read s op ≡ Some run → bytes ≡ bytes_read_by s op
    → HaveInFront run bytes s t → AreReadSame s t op
read-in-front s t (Load address size) run bytes sound beside is many same = absurd (none-some run is)
read-in-front s t (Store address size value) run bytes sound beside is many same = absurd (none-some run is)
read-in-front s t (Fetch address) run bytes sound beside is many same = absurd (none-some run is)
read-in-front s t (Call x) run bytes sound beside is many same = of (buffers_of s s.runner) refl is
  where
    of : (o : Option Buffers) → buffers_of s s.runner ≡ o
        → option_and_then (λ (b : Buffers). front_of b (tx_pages_read b (decode x))) o ≡ Some run → AreReadSame s t (Call x)
    of None at none = absurd (none-some run none)
    of (Some b) at some =
        let (first, count) = front-parts b (tx_pages_read b (decode x)) run some in
        let all : bytes ≡ bytes_read (decode x) (4096 * b.pages) =
        many ∙ ap (λ (o : Option Buffers). option_map_or (λ (c : Buffers). bytes_read (decode x) (4096 * c.pages)) o 0) at in
        same-in-front s t (is_in run) beside sound (decode x) b at (λ p its.
        subst (λ (n : ℕ). AgreeInFirst n b.tx p (page_bytes t p) (page_bytes s p)) all
        (subst (λ (n : ℕ). AgreeInFirst bytes n p (page_bytes t p) (page_bytes s p)) first
        (same p (subst (λ (n : ℕ). is_in_run run.first.0 n p ≡ true) (sym count) (subst (λ (n : ℕ). is_in_run n (tx_pages_read b (decode x)) p ≡ true) (sym first) its)))))

tx-some : (o : Option Buffers) (b : Buffers) → option_map tx_place o ≡ Some (b.tx, b.pages) → (c : Buffers) × (o ≡ Some c) × (c.tx ≡ b.tx) × (c.pages ≡ b.pages)
tx-some None b is = absurd (none-some _ is)
tx-some (Some c) b is = let same = same_Some _ _ is in (c, refl, ap (λ (x : ℕ × ℕ). x.0) same, ap (λ (x : ℕ × ℕ). x.1) same)

-- into which its endpoint may store, before and behind
module _ (s : State) (sound : IsSoundState s) (op : Op) (run : Run) (is : pages_read s op ≡ Some run) where
  within : (b : Buffers) → run.first.0 ≡ b.tx → run.count ≤ b.pages → (p : ℕ) → is_in run p ≡ true → is_in_run b.tx b.pages p ≡ true
  within b first few p its = let (low, high) = in-run run.first.0 run.count p its in to-run b.tx b.pages p (omega (arith, low, first)) (omega (arith, high, first, few))

  pub may-before : (p : ℕ) → is_in run p ≡ true → may_store (access s s.runner p) ≡ true
  may-before p its =
      let tx = of-tx s op run is in
      usable-writes s s.runner p ((sound.buffers s.runner tx.buffers (runner-known s sound) tx.has).tx p (within tx.buffers tx.first tx.few p its))

  pub may-behind : is_known (step s op).state s.runner ≡ true → (p : ℕ) → is_in run p ≡ true → may_store (access (step s op).state s.runner p) ≡ true
  may-behind known p its =
      let tx = of-tx s op run is in
      let next = (step s op).state in
      let (c, has, first, pages) = tx-some (buffers_of next s.runner) tx.buffers (tx.kept ∙ ap (option_map tx_place) tx.has) in
      usable-writes next s.runner p
      (((step-sound s sound op).buffers s.runner c known has).tx p (within c (tx.first ∙ sym first) (omega (arith, tx.few, pages)) p its))

  pub run-inside : (p : ℕ) → is_in run p ≡ true → p < length s.pages
  run-inside p its = elim (cases_lt p (length s.pages)) [
    | inl lt ↦ lt
    | inr past ↦
        absurd (false≢true (sym (ap (λ (o : Option Page). may_store (right_of s.runner o (transaction_at s p))) (get_or_past s.pages p None past)) ∙ may-before p its))
  ]

  -- they are whole, and the operation changes no byte of them
  pub front-whole : (p : ℕ) → is_in run p ≡ true → length (page_bytes s p) ≡ 4096
  front-whole p its = of (page_at s p) refl (may-before p its)
    where
      of : (o : Option Page) → page_at s p ≡ o → may_store (right_of s.runner o (transaction_at s p)) ≡ true → length (option_map_or (λ (q : Page). q.bytes) o []) ≡ 4096
      of None at may = absurd (false≢true may)
      of (Some q) at may = (sound.pages p q at).size

  pub front-kept : (p : ℕ) → is_in run p ≡ true → page_bytes (step s op).state p ≡ page_bytes s p
  front-kept p its =
      let tx = of-tx s op run is in tx.leaves sound p (within tx.buffers tx.first tx.few p its)

-- ---- stores
pub both-stores : (may : ℕ → ℕ → Bool) (xs ys : List (ℕ × Op)) → AreStores may xs → AreStores may ys → AreStores may (xs ++ ys)
both-stores may [] ys front back = back
both-stores may (x ∷ xs) ys (one, front) back = (one, both-stores may xs ys front back)

-- of bytes in a row, where their endpoint may store each
page-stores : (bytes : List ℕ) (may : ℕ → ℕ → Bool) (e start at : ℕ) → ((i : ℕ) → i < at + length bytes → may e (start + i) ≡ true)
    → AreStores may (stores e (start + at) bytes)
page-stores [] may e start at lets = tt
page-stores (b ∷ bytes) may e start at lets = (
  (start + at, b, refl, lets at (omega arith)),
  subst (λ (a : ℕ). AreStores may (stores e a bytes)) (omega arith) (page-stores bytes may e start (suc at) (λ i low. lets i (omega (arith, low)))),
)

first-stores : (bytes : List ℕ) (may : ℕ → ℕ → Bool) (e start : ℕ) → ((i : ℕ) → i < length bytes → may e (start + i) ≡ true) → AreStores may (stores e start bytes)
first-stores bytes may e start lets =
    subst (λ (a : ℕ). AreStores may (stores e a bytes)) (omega arith) (page-stores bytes may e start 0 (λ i low. lets i (omega (arith, low))))

-- of any pages, where anybody may store
pub any-stores : (t : State) (xs : List (ℕ × ℕ)) → AreStores (λ e address. true) (all_stores t xs)
any-stores t [] = tt
any-stores t (x ∷ xs) =
    both-stores (λ e address. true) (stores x.0 (t.ram_base + 4096 * x.1) (page_bytes t x.1)) (all_stores t xs)
    (first-stores (page_bytes t x.1) (λ e address. true) x.0 (t.ram_base + 4096 * x.1) (λ i low. refl)) (any-stores t xs)

page-few : (t : State) → IsSoundState t → (p : ℕ) → length (page_bytes t p) ≤ 4096
page-few t sound p = of (page_at t p) refl
  where
    of : (o : Option Page) → page_at t p ≡ o → length (option_map_or (λ (q : Page). q.bytes) o []) ≤ 4096
    of None at = omega arith
    of (Some q) at = (let size = (sound.pages p q at).size in omega (arith, size))

-- whether who acts is e, and the address is in one of these pages
abbrev pub is_into : Option Run → State → ℕ → ℕ → Bool
is_into o s e address = e == s.runner && option_map_or (λ run. option_map_or (is_in run) (page_of_address s address) false) o false

-- an address in a page of RAM
page-of : (s : State) → IsSoundState s → (base p i : ℕ) → base ≡ s.ram_base → p < length s.pages → i < 4096 → page_of_address s (base + 4096 * p + i) ≡ Some p
page-of s sound base p i same inside low =
    let high : s.ram_base + 4096 * length s.pages ≤ 2 ^ 32 = sound.sized.within in
    let below : base + 4096 * p + i < 2 ^ 32 = omega (arith, same, high, inside, low) in
    ap (λ (b : Bool). cond b (Some ((base + 4096 * p + i - s.ram_base) / 4096)) None)
    (and_from (nat_le s.ram_base (base + 4096 * p + i)) (nat_lt (base + 4096 * p + i) (2 ^ 32))
    (le-leb s.ram_base (base + 4096 * p + i) (omega (arith, same))) (lt-ltb (base + 4096 * p + i) (2 ^ 32) below))
    ∙ ap Some (omega (arith, same, low))

into-there : (run : Run) (s : State) → IsSoundState s → (e base p i : ℕ) → e ≡ s.runner → base ≡ s.ram_base → p < length s.pages → is_in run p ≡ true → i < 4096
    → is_into (Some run) s e (base + 4096 * p + i) ≡ true
into-there run s sound e base p i runs same inside its low =
    and_from (e == s.runner) (option_map_or (is_in run) (page_of_address s (base + 4096 * p + i)) false) (eq-eqb e s.runner runs)
    (ap (λ (o : Option ℕ). option_map_or (is_in run) o false) (page-of s sound base p i same inside low) ∙ its)

-- ---- what others write there
-- pages in a row, all beside one endpoint
abbrev beside : ℕ → ℕ → ℕ → List (ℕ × ℕ)
beside e first zero = []
beside e first (suc n) = (e, first) ∷ beside e (first + 1) n

among-beside : (n : ℕ) (e first p : ℕ) → is_among (beside e first n) p ≡ is_in_run first n p
among-beside zero e first p = sym (false_from_ne_true (is_in_run first 0 p) (λ is. let (low, high) = in-run first 0 p is in absurd (omega (arith, low, high))))
among-beside (suc n) e first p = ap (λ (b : Bool). first == p || b) (among-beside n e (first + 1) p) ∙ elim (cases_eq first p) [
  | inl at ↦
      ap (λ (b : Bool). b || is_in_run (first + 1) n p) (eq-eqb first p at)
      ∙ sym (to-run first (suc n) p (omega (arith, at)) (omega (arith, at)))
  | inr off ↦ ap (λ (b : Bool). b || is_in_run (first + 1) n p) (ne_eqb first p off) ∙ elim (cases_Bool (is_in_run (first + 1) n p)) [
    | inl its ↦ its ∙ sym (run-wider first n p its)
    | inr out ↦
        out ∙ sym (false_from_ne_true (is_in_run first (suc n) p) (λ its. let (low, high) = in-run first (suc n) p its in
        false≢true (sym out ∙ to-run (first + 1) n p (omega (arith, low, off)) (omega (arith, high)))))
  ]
]

may-beside : (n : ℕ) (s : State) (e first : ℕ) → is_known s e ≡ true → ((p : ℕ) → is_in_run first n p ≡ true → may_store (access s e p) ≡ true) → MayAllStore s (beside e first n)
may-beside zero s e first known may = tt
may-beside (suc n) s e first known may = (
  known,
  may first (to-run first (suc n) first (omega arith) (omega arith)),
  may-beside n s e (first + 1) known (λ p its. may p (run-wider first n p its)),
)

-- stores of one endpoint into pages in a row
run-stores : (n : ℕ) (may : ℕ → ℕ → Bool) (e : ℕ) (t : State) → IsSoundState t → (first : ℕ)
    → ((p i : ℕ) → is_in_run first n p ≡ true → i < 4096 → may e (t.ram_base + 4096 * p + i) ≡ true) → AreStores may (all_stores t (beside e first n))
run-stores zero may e t sound first lets = tt
run-stores (suc n) may e t sound first lets =
    both-stores may (stores e (t.ram_base + 4096 * first) (page_bytes t first)) (all_stores t (beside e (first + 1) n))
    (first-stores (page_bytes t first) may e (t.ram_base + 4096 * first)
    (λ i low. lets first i (to-run first (suc n) first (omega arith) (omega arith)) (let few = page-few t sound first in omega (arith, few, low))))
    (run-stores n may e t sound (first + 1) (λ p i its low. lets p i (run-wider first n p its) low))

-- who differs in bytes of a run alone, into which an endpoint may store
abbrev run-written : (s t : State) (e : ℕ) (run : Run) → IsSoundState t → is_known s e ≡ true → blank (is_in run) s ≡ blank (is_in run) t
    → ((p : ℕ) → is_in run p ≡ true → may_store (access s e p) ≡ true) → AreWritten s t
run-written s t e run sound known same may =
    record {
      pages = beside e run.first.0 run.count;
      may = may-beside run.count s e run.first.0 known may;
      same =
          subst (λ (f : ℕ → Bool). blank f s ≡ blank f t) (fun_ext (λ p. sym (among-beside run.count e run.first.0 p))) same;
      sound = sound;
    }

read-same : (s t : State) (hides : ℕ → Bool) (op : Op) → blank hides s ≡ blank hides t → pages_read t op ≡ pages_read s op
read-same s t hides (Call x) same = ap (λ (u : State). pages_read u (Call x)) (sym same)
read-same s t hides (Load address size) same = refl
read-same s t hides (Store address size value) same = refl
read-same s t hides (Fetch address) same = refl

known-step : (s : State) (op : Op) → IsSoundState s → is_known (step s op).state s.runner ≡ true
known-step s op sound =
    subst (λ (t : Stepped). is_known t.state s.runner ≡ true) (step_as-runner s op) (known-as s s.runner op s.runner (runner-known s sound))

-- what others wrote is stores of who acts into these pages
pub record IsWrittenBy (o : Option Run) (s t u : State) : Type 0 where
  pub written : AreWritten t u
  pub stores : AreStores (is_into o s) (all_stores u written.pages)

none-written : (s t u : State) → IsSoundState t → u ≡ t → IsWrittenBy None s t u
none-written s t u sound same = record {
  written = record { pages = []; may = tt; same = ap (blank (is_among [])) (sym same); sound = subst IsSoundState (sym same) sound };
  stores = tt;
}

run-written-by : (run : Run) (s t u : State) (e : ℕ) → IsSoundState s → ((p : ℕ) → is_in run p ≡ true → p < length s.pages) → e ≡ s.runner → u.ram_base ≡ s.ram_base → IsSoundState u → is_known t e ≡ true → blank (is_in run) t ≡ blank (is_in run) u
    → ((p : ℕ) → is_in run p ≡ true → may_store (access t e p) ≡ true) → IsWrittenBy (Some run) s t u
run-written-by run s t u e good inside runs base sound known same may = record {
  written = run-written t u e run sound known same may;
  stores = run-stores run.count (is_into (Some run) s) e u sound run.first.0 (λ p i its low. into-there run s good e u.ram_base p i runs base (inside p its) its low);
}

-- what was seen there is what its endpoint stored before the operation, and what others wrote is what it stores behind it
module _ (s seen : State) (op : Op) where
  pub seen-written : IsSoundState s → (o : Option Run) → pages_read s op ≡ o → IsSeen o s seen → IsWrittenBy o s s seen
  seen-written sound None is same = none-written s s seen sound same
  seen-written sound (Some run) is (beside, good) =
      run-written-by run s s seen s.runner sound (run-inside s sound op run is) refl (ap (λ (t : State). t.ram_base) (sym beside.same)) good (runner-known s sound) beside.same (may-before s sound op run is)

  pub left-written : IsSoundState s → IsSoundState seen → (o : Option Run) → pages_read s op ≡ o → IsSeen o s seen → (new : State) → IsSeen o (step seen op).state new
      → IsWrittenBy o s (step seen op).state new
  left-written first sound None is same new left = none-written s (step seen op).state new (step-sound seen sound op) left
  left-written first sound (Some run) is (before, good) new (left, good_then) =
      let known = known-step seen op sound in
      run-written-by run s (step seen op).state new seen.runner first (run-inside s first op run is) (ap (λ (t : State). t.runner) (sym before.same))
      (ap (λ (t : State). t.ram_base) (sym left.same) ∙ ap (λ (parts : List Party × (ℕ × ℕ)). parts.1.0) (step-fixed seen op) ∙ ap (λ (t : State). t.ram_base) (sym before.same))
      good_then known left.same (may-behind seen sound op run (read-same s seen (is_in run) op before.same ∙ is) known)
