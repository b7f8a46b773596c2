-- SPDX-License-Identifier: MIT OR Apache-2.0
-- All that an event says, but for a message, goes into the view.
use Rattle.std.proofs.Common.{◌≡◌, ◌≢◌, ◌∙◌, ℕ, ◌+◌, ◌-◌, ◌/◌, ◌%◌, ◌^◌, ◌≤◌, ◌<◌, suc, length, get_or, Bool, true, false, cond, List, [], ◌∷◌, ◌++◌, map, take, Option, Some, None, is_some, refl, sym, ap, subst, arith, inl, inr, ◌==◌, ◌&&◌, nat_le, nat_lt, not, length-take}
use Rattle.std.specs.List.{list_all}
use Rattle.std.specs.Option.{option_and_then}
use Rattle.byteorder.specs.Endian.{little_bytes}
use Rattle.std.proofs.lemmas.Bool.{and_parts, cases_Bool, eq-eqb, eqb-true, false≢true, leb-true, true≢false}
use Rattle.ffa_model.specs.declared.operation.Op.{Op}
use Rattle.ffa_model.specs.declared.operation.Op.TheVariants.{Call, Store}
use Rattle.ffa_model.specs.declared.operation.Size.{Size}
use Rattle.ffa_model.specs.declared.operation.Size.TheVariants.{B1}
use Rattle.ffa_model.specs.declared.rights.Kind.{Kind}
use Rattle.ffa_model.specs.declared.rights.Kind.TheVariants.{Share, Lend, Donate}
use Rattle.ffa_model.specs.declared.call.Call as calls
use Rattle.ffa_model.specs.declared.call.Call.TheVariants.{MemDonate, MemLend, MemShare, NotificationSet, NotificationGet, MsgSend2}
use Rattle.ffa_model.specs.Access.{access, is_receiver, names}
use Rattle.ffa_model.specs.declared.call.NotificationBits.{NotificationBits}
use Rattle.ffa_model.specs.Bits.{bits_of}
use Rattle.ffa_model.specs.Buffers.{room_of}
use Rattle.ffa_model.specs.Calls.{first_failure}
use Rattle.ffa_model.specs.Identifiers.{identifier}
use Rattle.ffa_model.specs.Lists.{map_at}
use Rattle.ffa_model.specs.Memory.{access_at, size_of, store_fault}
use Rattle.ffa_model.specs.MemorySend.{memory_sent, send_read, transaction_sent}
use Rattle.ffa_model.specs.Messages.{MessageHeader, header_in, message_in, msg_send2, send2_guards, tx_bytes}
use Rattle.ffa_model.specs.Notifications.{class_of, has_bitmaps_in, manager_class, message_bits, notification_get, notification_set, notifications_of, set_guards}
use Rattle.ffa_model.specs.Registers.{decode}
use Rattle.ffa_model.specs.Rights.{may_store}
use Rattle.ffa_model.specs.SendDescriptor.{SendRecord}
use Rattle.ffa_model.specs.State.{State, Page, Buffers, buffers_of, is_known, version_of}
use Rattle.ffa_model.specs.Step.{serve, service}
use Rattle.ffa_model.specs.Transactions.{next_handle, open_of}
use Rattle.ffa_model.proofs.Accesses.{length-map_at}
use Rattle.ffa_model.proofs.Guards.{guard-passes}
use Rattle.ffa_laws.specs.Steady.{IsSteady}
use Rattle.ffa_laws.specs.View.{buffers_seen, hidden, is_near, kept, view}
use Rattle.ffa_laws.specs.Events.{Event, Wrote, Filled, Pending, Opened, Public, Notices, apply, apply_all, call_events, delivers, events, named_pages, notified, opens, pages_with, public_change, sets, told_by, where_passed, where_true, writes}
use Rattle.ffa_laws.specs.Public.{public_buffers, public_part, same_public}
use Rattle.ffa_laws.specs.Silence.{AreBare, IsBare, may_change_public}
use Rattle.ffa_laws.proofs.BufferLaws.{own-buffers}
use Rattle.ffa_laws.proofs.Changes.{apply_all-append}
use Rattle.ffa_laws.proofs.Laws.{other-call}
use Rattle.ffa_laws.proofs.Maps.{at-map_at, map_at-alike, map_at-twice}
use Rattle.ffa_laws.proofs.Meets.{zero-word}
use Rattle.ffa_model.proofs.Served.{FitsBitmap, decode-fits}
use Rattle.ffa_laws.proofs.MemoryLaws.{fault-none}
use Rattle.ffa_laws.proofs.Notices.{either-notified, notice-seen}
use Rattle.ffa_laws.proofs.Rows.{all-weaker, row-of, told_row}
use Rattle.ffa_laws.proofs.SendLaws.{rewritten-sent}
use Rattle.ffa_laws.proofs.Views.{kept_none}
use Rattle.ffa_laws.proofs.Publics.{told-of}

-- ---- lists of events
pub bare-append : (e : ℕ) (v : State) (xs ys : List Event) → AreBare e v xs → AreBare e (apply_all e v xs) ys → AreBare e v (xs ++ ys)
bare-append e v [] ys one two = two
bare-append e v (x ∷ xs) ys one two = (one.0, bare-append e (apply e v x) xs ys one.1 two)

bare-where : (e : ℕ) (v : State) (b : Bool) (es : List Event) → (b ≡ true → AreBare e v es) → AreBare e v (where_true b es)
bare-where e v true es bare = bare refl
bare-where e v false es bare = tt

bare-passed : {X : Type 0} (e : ℕ) (v : State) (o : Option X) (es : List Event) → (o ≡ None → AreBare e v es) → AreBare e v (where_passed o es)
bare-passed e v None es bare = bare refl
bare-passed e v (Some failure) es bare = tt

-- events of which nothing is asked
abbrev is_plain : Event → Bool
is_plain (Wrote address bytes) = false
is_plain (Filled bytes) = false
is_plain (Pending class bits) = false
is_plain (Opened h t pages) = false
is_plain (Public values) = false
is_plain (Notices values) = false
is_plain event = true

plain-bare : (e : ℕ) (v : State) (event : Event) → is_plain event ≡ true → IsBare e v event
plain-bare e v (Wrote address bytes) plain = absurd (false≢true plain)
plain-bare e v (Filled bytes) plain = absurd (false≢true plain)
plain-bare e v (Pending class bits) plain = absurd (false≢true plain)
plain-bare e v (Opened h t pages) plain = absurd (false≢true plain)
plain-bare e v (Public values) plain = absurd (false≢true plain)
plain-bare e v (Notices values) plain = absurd (false≢true plain)
plain-bare e v event plain = tt

all-plain : (e : ℕ) (es : List Event) (v : State) → list_all is_plain es ≡ true → AreBare e v es
all-plain e [] v plain = tt
all-plain e (x ∷ es) v plain = let (here, rest) = and_parts (is_plain x) (list_all is_plain es) plain in (plain-bare e (apply e v x) x here, all-plain e es (apply e v x) rest)

some≢nothing : {X : Type 0} {x : X} {xs : List X} → x ∷ xs ≡ [] → ⊥
some≢nothing same = cc

-- ---- a write
some-bytes : (size : Size) (value : ℕ) → little_bytes (size_of size) value ≡ [] → ⊥
some-bytes B1 value none = some≢nothing none
some-bytes _ value none = some≢nothing none

-- an endpoint reaches no address below RAM
above-base : (e : ℕ) (s : State) (address : ℕ) → is_some (access_at s e address) ≡ true → s.ram_base ≤ address
above-base e s address =
    elim (nat_le s.ram_base address && nat_lt address (2 ^ 32))
    as (λ b. (nat_le s.ram_base address && nat_lt address (2 ^ 32)) ≡ b → is_some (option_and_then (access s e) (cond b (Some ((address - s.ram_base) / 4096)) None)) ≡ true → s.ram_base ≤ address) [
      | true ↦ λ both some. leb-true s.ram_base address (and_parts _ _ both).0
      | false ↦ λ both some. absurd (false≢true some)
    ] refl

-- ---- the public part
pub public-seen : (e : ℕ) (s : State) → public_part (view e s) ≡ public_part s
public-seen e s = λ i. record { runner = s.runner; statuses = s.statuses; works = s.works; buffers = go s.buffers (buffers_seen e (length s.pages)) (λ j b. at j b) i }
  where
    at : (j : ℕ) (b : Option Buffers) → public_buffers (buffers_seen e (length s.pages) j b) ≡ public_buffers b
    at j b = elim (identifier j == e) as (λ c. public_buffers (cond c b (hidden (length s.pages) b)) ≡ public_buffers b) [ true ↦ refl | false ↦ (elim b as (λ o. public_buffers (hidden (length s.pages) o) ≡ public_buffers o) [ None ↦ refl | Some x ↦ refl ]) ]

    go : (bs : List (Option Buffers)) (f : ℕ → Option Buffers → Option Buffers) → ((j : ℕ) (b : Option Buffers) → public_buffers (f j b) ≡ public_buffers b) → map public_buffers (map_at f bs) ≡ map public_buffers bs
    go [] f same = refl
    go (b ∷ bs) f same = λ i. same 0 b i ∷ go bs (λ j. f (suc j)) (λ j. same (suc j)) i

pub bare-public : (e : ℕ) (s next : State) (told : List Event) → view e next ≡ apply_all e (view e s) (told ++ public_change s next) → AreBare e (apply_all e (view e s) told) (public_change s next)
bare-public e s next told =
    elim (same_public (public_part s) (public_part next))
    as (λ b. view e next ≡ apply_all e (view e s) (told ++ told-of b) → AreBare e (apply_all e (view e s) told) (told-of b)) [
      | inl same ↦ λ leads. tt
      | inr differ ↦ λ leads. (sym (public-seen e next) ∙ ap public_part leads ∙ ap public_part (apply_all-append e (view e s) told (Public (public_part next) ∷ [])), tt)
    ]

-- ---- a transaction that is opened, with the pages that its ranges name
module _ (e : ℕ) (s : State) (kind : Kind) (r : SendRecord) where
  abbrev sent : State
  sent = memory_sent s kind (Some r)

  abbrev told : List (Option Page)
  told = named_pages sent r.ranges

  named-alone : told ≡ map_at (λ p page. kept (names s r.ranges p) page) (pages_with (view e s) r.ranges told)
  named-alone =
      map_at-alike (λ p page. kept (names s r.ranges p) page) (λ p page. kept (names s r.ranges p) (cond (names s r.ranges p) (get_or told p None) page)) sent.pages (view e s).pages None None
      ((rewritten-sent s kind (Some r)).each ∙ sym (length-map_at (λ p page. kept (is_near e s p) page) s.pages))
      (λ p. at p (names s r.ranges p) refl)
      ∙ sym (map_at-twice (λ p page. kept (names s r.ranges p) page) (λ p page. cond (names s r.ranges p) (get_or told p None) page) (view e s).pages)
    where
      at : (p : ℕ) (b : Bool) → names s r.ranges p ≡ b → kept b (get_or sent.pages p None) ≡ kept b (cond b (get_or told p None) (get_or (view e s).pages p None))
      at p true named =
          sym (at-map_at (λ q page. kept (names s r.ranges q) page) sent.pages p (λ q. kept_none (names s r.ranges q)) ∙ ap (λ b. kept b (get_or sent.pages p None)) named)
      at p false away = refl

  bare-opened : AreBare e (view e s) (opens e s kind (Some r))
  bare-opened =
      bare-where e (view e s) (is_receiver e (transaction_sent s kind r)) (Opened (next_handle (open_of s) s.runner) (transaction_sent s kind r) told ∷ []) (λ offered. (named-alone, tt))

-- ---- what each operation tells
take-most : (n : ℕ) (xs : List ℕ) → length (take n xs) ≤ n
take-most n xs = let cut = length-take n xs in omega (arith, cut)

module _ (e : ℕ) (s : State) where
  abbrev v : State
  v = view e s

  pub bare-store : (address : ℕ) (size : Size) (value : ℕ) → AreBare e v (where_passed (store_fault s address (size_of size)) (writes e s address (little_bytes (size_of size) value)))
  bare-store address size value =
      bare-passed e v (store_fault s address (size_of size)) (writes e s address (little_bytes (size_of size) value)) (λ none.
      bare-where e v _ (Wrote address (little_bytes (size_of size) value) ∷ []) (λ near. (
        (above-base s.runner s address (fault-none (address % size_of size == 0) (access_at s s.runner address) may_store none), some-bytes size value),
        tt,
      )))

  bare-sent : (kind : Kind) (o : Option SendRecord) → AreBare e v (opens e s kind o)
  bare-sent kind None = tt
  bare-sent kind (Some r) = bare-opened e s kind r

  abbrev header : MessageHeader
  header = header_in (tx_bytes s s.runner)

  fits : is_known s e ≡ true → first_failure (msg_send2 s).guards ≡ None → (header.receiver == e) ≡ true → length (message_in (tx_bytes s s.runner)) ≤ room_of (buffers_of v e)
  fits known none mine =
      let room : header.offset + header.size ≤ room_of (buffers_of s header.receiver) =
      leb-true (header.offset + header.size) (room_of (buffers_of s header.receiver)) (guard-passes (send2_guards s.parties s.buffers (version_of s s.runner) s.runner header) 13 (sym none)) in
      let cut : length (message_in (tx_bytes s s.runner)) ≤ header.offset + header.size = take-most (header.offset + header.size) (tx_bytes s s.runner) in
      subst (λ o. length (message_in (tx_bytes s s.runner)) ≤ room_of o) (ap (buffers_of s) (eqb-true header.receiver e mine) ∙ sym (own-buffers e s known)) (omega (arith, room, cut))

  -- what is heard of notices is what e sees of them
  bare-notified : (w next : State) (own : List Event) → w.ffa ≡ s.ffa → next.ffa ≡ s.ffa → AreBare e w own → AreBare e w (notified e s next own)
  bare-notified w next own same after bare = either-notified (AreBare e w) e s next own tt (λ differ. (notice-seen e w next (same ∙ sym after), tt)) bare

  same-ffa : (mine : Bool) (bytes : List ℕ) → (apply_all e v (where_true mine (Filled bytes ∷ []))).ffa ≡ s.ffa
  same-ffa true bytes = refl
  same-ffa false bytes = refl

  bare-delivered : is_known s e ≡ true → first_failure (msg_send2 s).guards ≡ None → AreBare e v (delivers e s (tx_bytes s s.runner))
  bare-delivered known none =
      let filling = Filled (message_in (tx_bytes s s.runner)) in
      let bit = Pending manager_class message_bits in
      let told = where_true (header.receiver == e) (filling ∷ []) in
      let both = header.receiver == e && has_bitmaps_in (notifications_of s) e in
      bare-append e v told _
      (bare-where e v (header.receiver == e) (filling ∷ []) (λ mine. (fits known none mine, tt)))
      (bare-notified (apply_all e v told) (msg_send2 s).state (where_true both (bit ∷ [])) (same-ffa (header.receiver == e) (message_in (tx_bytes s s.runner))) refl
      (bare-where e (apply_all e v told) both (bit ∷ []) (λ _. ((some≢nothing, (1, refl)), tt))))

  bare-set : (its : NotificationBits) → its.bitmap < 2 ^ 64 → first_failure (notification_set s its).guards ≡ None
      → AreBare e v (sets e s its)
  bare-set its lt none =
      let asked : not (its.bitmap == 0) ≡ true = guard-passes (set_guards (length s.parties) (notifications_of s) s.runner its) 4 (sym none) in
      bare-notified v (notification_set s its).state _ refl refl (bare-where e v (its.receiver.0 == e) (Pending (class_of s.runner) (bits_of its.bitmap) ∷ []) (λ mine. (
        (λ nothing. true≢false (sym asked ∙ ap not (eq-eqb its.bitmap 0 (zero-word its.bitmap lt nothing))), (its.bitmap, refl)),
        tt,
      )))

  bare-told : is_known s e ≡ true → (call : calls.Call) → FitsBitmap call → first_failure (service s call).guards ≡ None → AreBare e v (told_by e s call)
  bare-told known (MemDonate x) fits none = bare-sent Donate (send_read s Donate x.total)
  bare-told known (MemLend x) fits none = bare-sent Lend (send_read s Lend x.total)
  bare-told known (MemShare x) fits none = bare-sent Share (send_read s Share x.total)
  bare-told known (NotificationSet its) fits none = bare-set its fits none
  bare-told known (NotificationGet receiver context flags) fits none = bare-notified v (notification_get s receiver.0 context flags).state [] refl refl tt
  bare-told known MsgSend2 fits none = bare-delivered known none
  bare-told known call fits none = all-plain e (told_by e s call) v (all-weaker (told_row call) is_plain (told_by e s call) plain (row-of e s call))
    where
      neither : (b : Bool) → (b && false) ≡ false
      neither true = refl
      neither false = refl

      untold : (event : Event) → is_plain event ≡ false → told_row call event ≡ false
      untold (Wrote address bytes) laden = refl
      untold (Filled bytes) laden = refl
      untold (Pending class bits) laden = refl
      untold (Opened h t pages) laden = refl
      untold (Public values) laden = neither (may_change_public call)
      untold (Notices values) laden = refl
      untold event laden = absurd (true≢false laden)

      plain : (event : Event) → told_row call event ≡ true → is_plain event ≡ true
      plain event may = elim (cases_Bool (is_plain event)) [
        | inl is ↦ is
        | inr laden ↦ absurd (true≢false (sym may ∙ untold event laden))
      ]

  module _ (steady : IsSteady s) (known : is_known s e ≡ true) (other : s.runner ≢ e) where
    bare-call : (call : calls.Call) → FitsBitmap call → AreBare e v (call_events e s call)
    bare-call call fits =
        let told = where_passed (first_failure (service s call).guards) (told_by e s call) in
        bare-append e v told (public_change s (serve s call).state)
        (bare-passed e v (first_failure (service s call).guards) (told_by e s call) (bare-told known call fits))
        (bare-public e s (serve s call).state told (other-call e s steady known other call))

    pub are-bare : (op : Op) → AreBare e v (events e s op)
    are-bare (Call x) = bare-call (decode x) (decode-fits x)
    are-bare (Store address size value) = bare-store address size value
    are-bare _ = tt
