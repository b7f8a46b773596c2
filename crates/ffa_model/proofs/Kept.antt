-- SPDX-License-Identifier: MIT OR Apache-2.0
-- The state stays sound through the changes that calls on memory make to the open transactions.
use Rattle.std.proofs.Common.{◌≡◌, ◌∙◌, ℕ, ◌+◌, ◌*◌, ◌%◌, ◌^◌, ◌<◌, ◌≤◌, Bool, true, false, cond, not, List, length, Option, Some, None, refl, sym, ap, subst, arith, inl, inr, ◌==◌, is_some, if◌then◌else◌, ◌&&◌}
use Rattle.std.specs.List.{list_all}
use Rattle.std.specs.Option.{option_map, option_map_or}
use Rattle.std.specs.Ordering.{nat_cmp}
use Rattle.std.specs.FinMap as finite
use Rattle.std.proofs.lemmas.Bool.{and_from, and_parts, cases_eq, false≢true, true≢false}
use Rattle.std.proofs.lemmas.List.{length-replicate}
use Rattle.std.proofs.lemmas.Option.{none-some, same_Some}
use Rattle.ffa_model.specs.declared.limits.TheConstants.{MOST_OPEN}
use Rattle.ffa_model.specs.declared.rights.Rights.{Rights}
use Rattle.ffa_model.specs.declared.rights.Kind.{Kind}
use Rattle.ffa_model.specs.declared.rights.Kind.TheVariants.{Share, Lend, Donate}
use Rattle.ffa_model.specs.declared.transaction.Range.{Range}
use Rattle.ffa_model.specs.declared.endpoint.Region.{Region}
use Rattle.ffa_model.specs.Identifiers.{manager}
use Rattle.ffa_model.specs.Regions.{is_normal}
use Rattle.ffa_model.specs.Rights.{may_store, is_at_most, is_donate}
use Rattle.ffa_model.specs.State.{State, Page, Transaction, is_known_among, owner_of, page_at, sent_by, transaction_of, own_right_of}
use Rattle.ffa_model.specs.Access.{covers, handle_at, held_by, is_naming, is_receiver, names, ownership_of, Ownership}
use Rattle.ffa_model.specs.Memory.{with_pages, zeroed_page}
use Rattle.ffa_model.specs.Buffers.{is_usable}
use Rattle.ffa_model.specs.Transactions.{are_executable, are_writable, ceiling, ceiling_in, closed, holding, not_holding, open_of, open_count, pages_in, with_open, with_transaction}
use Rattle.ffa_model.specs.MemorySend.{are_grants_within, are_known, is_inside, is_told_normal}
use Rattle.ffa_model.specs.SoundState.{IsKnown, IsSoundPage, IsSoundState, IsSoundTransaction, is_secure}
use Rattle.ffa_model.proofs.Accesses.{held-beside, held-itself, length-map_at, page-changed, released-beside, released-itself}
use Rattle.ffa_model.proofs.Counts.{open-changed, open-closed}
use Rattle.ffa_model.proofs.Handles.{get-beside, get-left, get-put, get-taken, none-passes, unpassed-none}
use Rattle.ffa_model.proofs.Own.{none-there, with_rights_of}

-- a page is of the same world in the same RAM
pub same-secure : (s z : State) (p : ℕ) → ownership_of z ≡ with_rights_of s z → z.normal ≡ s.normal → is_secure z p ≡ is_secure s p
same-secure s z p own_rights normal =
    ap (λ (n : Option (List Region)). is_some n && not (is_normal z.ram_base n p)) normal
    ∙ ap (λ (b : Ownership). is_some s.normal && not (is_normal b.base s.normal p)) own_rights

-- a transaction stays sound where RAM, its owners and their rights are the same, and no send is taken back
pub same-transaction : (s z : State) (h : ℕ) (t : Transaction) → ownership_of z ≡ with_rights_of s z → z.normal ≡ s.normal → ((p : ℕ) → owner_of z p ≡ owner_of s p)
    → length z.parties ≡ length s.parties → sent_by s t.sender ≤ sent_by z t.sender → IsSoundTransaction s h t → IsSoundTransaction z h t
same-transaction s z h t own_rights normal owners parties sent good =
    let number = good.number in
    record {
      sender = subst (λ n. is_known_among n t.sender ≡ true) (sym parties) good.sender;
      number = (number.0, number.1, number.2, omega (arith, number.3, sent));
      inside = subst (λ (b : Ownership). list_all (is_inside b) t.ranges ≡ true) (sym own_rights) good.inside;
      owned = λ p lt named. owners p ∙ good.owned p (subst (λ (b : Ownership). p < b.count) own_rights lt) (subst (λ (b : Ownership). covers t.ranges (b.base + 4096 * p) ≡ true) own_rights named);
      grants = subst (λ (b : Ownership). list_all (are_grants_within b t.receivers) (pages_in b t.ranges) ≡ true) (sym own_rights) good.grants;
      zeroed = λ zero. subst (λ (b : Ownership). are_writable b t.ranges ≡ true) (sym own_rights) (good.zeroed zero);
      holder = good.holder;
      within = λ e right held. subst (λ (b : Ownership). is_at_most right (ceiling b t e) ≡ true) (sym own_rights) (good.within e right held);
      donate = good.donate;
      receivers = subst (λ n. are_known n t.receivers ≡ true) (sym parties) good.receivers;
      some_receivers = good.some_receivers;
      few_receivers = good.few_receivers;
      some_ranges = good.some_ranges;
      few_ranges = good.few_ranges;
      tag = good.tag;
      worlds = λ p lt named secure.
          good.worlds p (subst (λ (b : Ownership). p < b.count) own_rights lt) (subst (λ (b : Ownership). covers t.ranges (b.base + 4096 * p) ≡ true) own_rights named)
          (sym (same-secure s z p own_rights normal) ∙ secure);
      told =
          good.told ∙ sym (ap (λ (n : Option (List Region)). is_told_normal (ownership_of z) n t.ranges) normal
          ∙ ap (λ (b : Ownership). is_told_normal b s.normal t.ranges) own_rights);
    }

-- a page may be a buffer where its owner and right are the same and no transaction has come to name it
pub same-usable : (s z : State) (e p : ℕ) → own_right_of z p ≡ own_right_of s p → owner_of z p ≡ owner_of s p
    → (handle_at s p ≡ None → handle_at z p ≡ None) → is_usable e (ownership_of s) p ≡ true → is_usable e (ownership_of z) p ≡ true
same-usable s z e p base owner unnamed usable =
    let (own, writable) = and_parts _ _ usable in
    let (mine, free) = and_parts _ _ own in
    let (owned, by) = and_parts _ _ mine in
    and_from _ _
    (and_from _ _ (and_from _ _ (ap is_some base ∙ owned) (ap (λ n. n == e) owner ∙ by)) (ap (λ o. not (is_some o)) (unnamed (none-there (handle_at s p) free))))
    (ap may_store base ∙ writable)

-- zeros change no owner and no right
module _ (s : State) (ranges : List Range) where
  abbrev zeros : State
  zeros = with_pages s ranges zeroed_page

  zeros-size : length zeros.pages ≡ length s.pages
  zeros-size = length-map_at (λ p page. if names s ranges p then zeroed_page page else page) s.pages

  pub zeros-own_rights : ownership_of zeros ≡ with_rights_of s zeros
  zeros-own_rights = λ i. record (with_rights_of s zeros) { count = zeros-size i; own_right = λ p. same p i }
    where
      same : (p : ℕ) → own_right_of zeros p ≡ own_right_of s p
      same p = ap (option_map (λ (page : Page). page.own_right)) (page-changed s ranges zeroed_page p refl) ∙ of (names s ranges p) (page_at s p)
        where
          of : (b : Bool) (o : Option Page) → option_map (λ (page : Page). page.own_right) (cond b (zeroed_page o) o) ≡ option_map (λ (page : Page). page.own_right) o
          of true None = refl
          of true (Some page) = refl
          of false o = refl

  pub zeros-owner : (p : ℕ) → owner_of zeros p ≡ owner_of s p
  zeros-owner p = ap (λ o. option_map_or (λ (page : Page). page.owner) o manager) (page-changed s ranges zeroed_page p refl) ∙ of (names s ranges p) (page_at s p)
    where
      of : (b : Bool) (o : Option Page) → option_map_or (λ (page : Page). page.owner) (cond b (zeroed_page o) o) manager ≡ option_map_or (λ (page : Page). page.owner) o manager
      of true None = refl
      of true (Some page) = refl
      of false o = refl

  zeros-page : (p : ℕ) (page : Page) → IsSoundState s → page_at zeros p ≡ Some page → IsSoundPage zeros page
  zeros-page p page sound is = of (names s ranges p) (page_at s p) refl (sym (page-changed s ranges zeroed_page p refl) ∙ is)
    where
      of : (b : Bool) (o : Option Page) → page_at s p ≡ o → cond b (zeroed_page o) o ≡ Some page → IsSoundPage zeros page
      of true None there none = absurd (none-some page none)
      of true (Some q) there some =
          let good = sound.pages p q there in
          subst (λ (r : Page). IsSoundPage zeros r) (same_Some _ page some)
          (record { owner = good.owner; size = length-replicate {A = ℕ} 4096 0; bytes = refl })
      of false None there none = absurd (none-some page none)
      of false (Some q) there some =
          let good = sound.pages p q there in
          subst (λ (r : Page). IsSoundPage zeros r) (same_Some q page some) (record { owner = good.owner; size = good.size; bytes = good.bytes })

  pub zeros-sound : IsSoundState s → IsSoundState zeros
  zeros-sound sound =
      let blocks = sound.sized.blocks in
      record {
        sized =
            record {
              some = sound.sized.some;
              few = sound.sized.few;
              base = sound.sized.base;
              within = subst (λ n. s.ram_base + 4096 * n ≤ 2 ^ 32) (sym zeros-size) sound.sized.within;
              one_table = subst (λ n. s.ram_base % 2 ^ 30 + 4096 * n ≤ 2 ^ 30) (sym zeros-size) sound.sized.one_table;
              blocks = (blocks.0, zeros-size ∙ blocks.1, blocks.2, blocks.3, blocks.4);
              versions = sound.sized.versions;
              sent = sound.sized.sent;
              buffers = sound.sized.buffers;
              works = sound.sized.works;
              bitmaps = sound.sized.bitmaps;
            };
        parties = sound.parties;
        pages = λ p page is. zeros-page p page sound is;
        worlds = λ p secure owner. sound.worlds p (sym (same-secure s zeros p zeros-own_rights refl) ∙ secure) (sym (zeros-owner p) ∙ owner);
        transactions = λ h t is. same-transaction s zeros h t zeros-own_rights refl zeros-owner refl (omega arith) (sound.transactions h t is);
        one = λ p h k lt at_h at_k. sound.one p h k (subst (λ n. p < n) zeros-size lt) at_h at_k;
        few = sound.few;
        sent = sound.sent;
        buffers = λ e b known is.
            let good = sound.buffers e b known is in
            record {
              count = good.count;
              tx = λ p its. same-usable s zeros e p (λ i. (zeros-own_rights i).own_right p) (zeros-owner p) (λ none. none) (good.tx p its);
              rx = λ p its. same-usable s zeros e p (λ i. (zeros-own_rights i).own_right p) (zeros-owner p) (λ none. none) (good.rx p its);
              apart = good.apart;
            };
        schedule = sound.schedule;
        bound = λ entry is. let good = sound.bound entry is in record { receiver = good.receiver; bit = good.bit; sender = good.sender; is = good.is; to_known = good.to_known; from_known = good.from_known; in_word = good.in_word; bitmaps = good.bitmaps; alone = good.alone };
        pending = λ entry is. let good = sound.pending entry is in record { receiver = good.receiver; class = good.class; bit = good.bit; is = good.is; to_known = good.to_known; of_class = good.of_class; in_word = good.in_word; bound = good.bound };
      }

-- A CLOSE
module _ (s : State) (sound : IsSoundState s) (h : ℕ) (t : Transaction) (was : transaction_of s h ≡ Some t) where
  abbrev after : State
  after = with_open s (closed (open_of s) h)

  -- what is open then was open before, under another handle
  still : (k : ℕ) (u : Transaction) → transaction_of after k ≡ Some u → transaction_of s k ≡ Some u
  still k u is = elim (cases_eq k h) [
    | inl same ↦ absurd (none-some u (sym (ap (transaction_of after) same ∙ get-taken s.transactions h) ∙ is))
    | inr apart ↦ sym (get-left s.transactions h k apart) ∙ is
  ]

  naming : (p k : ℕ) → is_naming s p (transaction_of after k) ≡ true → is_naming s p (transaction_of s k) ≡ true
  naming p k passes = of (transaction_of after k) refl passes
    where
      of : (o : Option Transaction) → transaction_of after k ≡ o → is_naming s p o ≡ true → is_naming s p (transaction_of s k) ≡ true
      of None is h = absurd (false≢true h)
      of (Some u) is h = ap (is_naming s p) (still k u is) ∙ h

  unnamed : (p : ℕ) → handle_at s p ≡ None → handle_at after p ≡ None
  unnamed p none = unpassed-none (is_naming s p) refl (finite.remove s.transactions h) (λ k. of k (is_naming s p (transaction_of after k)) refl)
    where
      of : (k : ℕ) (b : Bool) → is_naming s p (transaction_of after k) ≡ b → is_naming s p (transaction_of after k) ≡ false
      of k false is = is
      of k true is = absurd (true≢false (sym (naming p k is) ∙ none-passes (is_naming s p) refl s.transactions k none))

  fewer : (e : ℕ) → IsKnown s e → open_count (open_of after) e ≤ MOST_OPEN
  fewer e known =
      let before : open_count (open_of s) e ≤ MOST_OPEN = sound.few e known in
      let one = open-closed (open_of s) h e t was in
      omega (arith, before, one)

  pub closed-sound : IsSoundState after
  closed-sound =
      record {
        sized = record { some = sound.sized.some; few = sound.sized.few; base = sound.sized.base; within = sound.sized.within; one_table = sound.sized.one_table; blocks = sound.sized.blocks; versions = sound.sized.versions; sent = sound.sized.sent; buffers = sound.sized.buffers; works = sound.sized.works; bitmaps = sound.sized.bitmaps };
        parties = sound.parties;
        pages = λ p page is. let good = sound.pages p page is in record { owner = good.owner; size = good.size; bytes = good.bytes };
        worlds = sound.worlds;
        transactions = λ k u is. same-transaction s after k u refl refl (λ p. refl) refl (omega arith) (sound.transactions k u (still k u is));
        one = λ p k j lt at_k at_j. sound.one p k j lt (naming p k at_k) (naming p j at_j);
        few = fewer;
        sent = sound.sent;
        buffers = λ e b known is.
            let good = sound.buffers e b known is in
            record {
              count = good.count;
              tx = λ p its. same-usable s after e p refl refl (unnamed p) (good.tx p its);
              rx = λ p its. same-usable s after e p refl refl (unnamed p) (good.rx p its);
              apart = good.apart;
            };
        schedule = sound.schedule;
        bound = λ entry is. let good = sound.bound entry is in record { receiver = good.receiver; bit = good.bit; sender = good.sender; is = good.is; to_known = good.to_known; from_known = good.from_known; in_word = good.in_word; bitmaps = good.bitmaps; alone = good.alone };
        pending = λ entry is. let good = sound.pending entry is in record { receiver = good.receiver; class = good.class; bit = good.bit; is = good.is; to_known = good.to_known; of_class = good.of_class; in_word = good.in_word; bound = good.bound };
      }

-- A CHANGE of who holds an open transaction
pub ceiling-held : (b : Ownership) (t : Transaction) (held : finite.FinMap nat_cmp Rights) (e : ℕ) → ceiling b (record t { held = held }) e ≡ ceiling b t e
ceiling-held b t held e = of t.kind
  where
    of : (kind : Kind) → ceiling_in kind (are_writable b t.ranges) (are_executable b t.ranges) (record t { held = held }) e ≡ ceiling_in kind (are_writable b t.ranges) (are_executable b t.ranges) t e
    of Share = refl
    of Lend = refl
    of Donate = refl

module _ (s : State) (sound : IsSoundState s) (h : ℕ) (t : Transaction) (was : transaction_of s h ≡ Some t)
    (held : finite.FinMap nat_cmp Rights)
    (holders : (e : ℕ) (right : Rights) → finite.get held e ≡ Some right → (is_receiver e t ≡ true) × (is_at_most right (ceiling (ownership_of s) t e) ≡ true))
    (donate : (e : ℕ) → t.kind ≡ Donate → finite.get held e ≡ None) where
  abbrev changed : Transaction
  changed = record t { held = held }

  abbrev after_change : State
  after_change = with_open s (with_transaction (open_of s) h changed)

  itself : IsSoundTransaction after_change h changed
  itself =
      let good = sound.transactions h t was in
      record {
        sender = good.sender;
        number = good.number;
        inside = good.inside;
        owned = good.owned;
        grants = good.grants;
        zeroed = good.zeroed;
        holder = λ e right is. (holders e right is).0;
        within = λ e right is. subst (λ (most : Rights). is_at_most right most ≡ true) (sym (ceiling-held (ownership_of s) t held e)) (holders e right is).1;
        donate = donate;
        receivers = good.receivers;
        some_receivers = good.some_receivers;
        few_receivers = good.few_receivers;
        some_ranges = good.some_ranges;
        few_ranges = good.few_ranges;
        tag = good.tag;
        worlds = good.worlds;
        told = good.told;
      }

  each-sound : (k : ℕ) (u : Transaction) → transaction_of after_change k ≡ Some u → IsSoundTransaction after_change k u
  each-sound k u is = elim (cases_eq k h) [
    | inl same ↦
        subst (λ (v : Transaction). IsSoundTransaction after_change k v) (same_Some changed u (sym (ap (transaction_of after_change) same ∙ get-put s.transactions h changed) ∙ is))
        (subst (λ j. IsSoundTransaction after_change j changed) (sym same) itself)
    | inr apart ↦ same-transaction s after_change k u refl refl (λ p. refl) refl (omega arith) (sound.transactions k u (sym (get-beside s.transactions h changed k apart) ∙ is))
  ]

  naming-before : (p k : ℕ) → is_naming s p (transaction_of after_change k) ≡ is_naming s p (transaction_of s k)
  naming-before p k = elim (cases_eq k h) [
    | inl same ↦ subst (λ j. is_naming s p (transaction_of after_change j) ≡ is_naming s p (transaction_of s j)) (sym same)
        (ap (is_naming s p) (get-put s.transactions h changed) ∙ sym (ap (is_naming s p) was))
    | inr apart ↦ ap (is_naming s p) (get-beside s.transactions h changed k apart)
  ]

  unnamed-still : (p : ℕ) → handle_at s p ≡ None → handle_at after_change p ≡ None
  unnamed-still p none =
      unpassed-none (is_naming s p) refl (finite.insert s.transactions h changed)
      (λ k. naming-before p k ∙ none-passes (is_naming s p) refl s.transactions k none)

  pub changed-sound : IsSoundState after_change
  changed-sound =
      record {
        sized = record { some = sound.sized.some; few = sound.sized.few; base = sound.sized.base; within = sound.sized.within; one_table = sound.sized.one_table; blocks = sound.sized.blocks; versions = sound.sized.versions; sent = sound.sized.sent; buffers = sound.sized.buffers; works = sound.sized.works; bitmaps = sound.sized.bitmaps };
        parties = sound.parties;
        pages = λ p page is. let good = sound.pages p page is in record { owner = good.owner; size = good.size; bytes = good.bytes };
        worlds = sound.worlds;
        transactions = each-sound;
        one = λ p k j lt at_k at_j. sound.one p k j lt (sym (naming-before p k) ∙ at_k) (sym (naming-before p j) ∙ at_j);
        few = λ e known. subst (λ n. n ≤ MOST_OPEN) (sym (open-changed (open_of s) h e t changed was refl)) (sound.few e known);
        sent = sound.sent;
        buffers = λ e b known is.
            let good = sound.buffers e b known is in
            record {
              count = good.count;
              tx = λ p its. same-usable s after_change e p refl refl (unnamed-still p) (good.tx p its);
              rx = λ p its. same-usable s after_change e p refl refl (unnamed-still p) (good.rx p its);
              apart = good.apart;
            };
        schedule = sound.schedule;
        bound = λ entry is. let good = sound.bound entry is in record { receiver = good.receiver; bit = good.bit; sender = good.sender; is = good.is; to_known = good.to_known; from_known = good.from_known; in_word = good.in_word; bitmaps = good.bitmaps; alone = good.alone };
        pending = λ entry is. let good = sound.pending entry is in record { receiver = good.receiver; class = good.class; bit = good.bit; is = good.is; to_known = good.to_known; of_class = good.of_class; in_word = good.in_word; bound = good.bound };
      }

-- e takes a right that its ceiling allows, or gives up what it holds
module _ (s : State) (sound : IsSoundState s) (h : ℕ) (t : Transaction) (was : transaction_of s h ≡ Some t) (e : ℕ) where
  pub holding-sound : (right : Rights) → is_receiver e t ≡ true → is_at_most right (ceiling (ownership_of s) t e) ≡ true → is_donate t.kind ≡ false
      → IsSoundState (with_open s (with_transaction (open_of s) h (holding t e right)))
  holding-sound right receiver within borrowed =
      changed-sound s sound h t was (finite.insert t.held e right) holders (λ f is. absurd (true≢false (sym (ap is_donate is) ∙ borrowed)))
    where
      holders : (f : ℕ) (its : Rights) → finite.get (finite.insert t.held e right) f ≡ Some its → (is_receiver f t ≡ true) × (is_at_most its (ceiling (ownership_of s) t f) ≡ true)
      holders f its is = elim (cases_eq f e) [
        | inl same ↦ (
          subst (λ g. is_receiver g t ≡ true) (sym same) receiver,
          subst (λ g. is_at_most its (ceiling (ownership_of s) t g) ≡ true) (sym same)
              (subst (λ (r : Rights). is_at_most r (ceiling (ownership_of s) t e) ≡ true) (same_Some right its (sym (held-itself t e right) ∙ sym (ap (held_by (holding t e right)) same) ∙ is)) within),
        )
        | inr other ↦ (
            let good = sound.transactions h t was in
            let before : held_by t f ≡ Some its = sym (held-beside t e right f other) ∙ is in
            (good.holder f its before, good.within f its before))
      ]

  pub released-sound : IsSoundState (with_open s (with_transaction (open_of s) h (not_holding t e)))
  released-sound = changed-sound s sound h t was (finite.remove t.held e) holders donate
    where
      left : (f : ℕ) (its : Rights) → finite.get (finite.remove t.held e) f ≡ Some its → held_by t f ≡ Some its
      left f its is = elim (cases_eq f e) [
        | inl same ↦ absurd (none-some its (sym (ap (held_by (not_holding t e)) same ∙ released-itself t e) ∙ is))
        | inr other ↦ sym (released-beside t e f other) ∙ is
      ]

      holders : (f : ℕ) (its : Rights) → finite.get (finite.remove t.held e) f ≡ Some its → (is_receiver f t ≡ true) × (is_at_most its (ceiling (ownership_of s) t f) ≡ true)
      holders f its is =
          let good = sound.transactions h t was in
          (good.holder f its (left f its is), good.within f its (left f its is))

      donate : (f : ℕ) → t.kind ≡ Donate → finite.get (finite.remove t.held e) f ≡ None
      donate f is = of (finite.get (finite.remove t.held e) f) refl
        where
          of : (o : Option Rights) → finite.get (finite.remove t.held e) f ≡ o → o ≡ None
          of None at = refl
          of (Some right) at = absurd (none-some right (sym ((sound.transactions h t was).donate f is) ∙ left f right at))
