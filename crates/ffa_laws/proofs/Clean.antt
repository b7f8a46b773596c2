-- SPDX-License-Identifier: MIT OR Apache-2.0
-- What is told readably brings no bytes into pages that an endpoint can't read.
use Rattle.std.proofs.Common.{arith, ◌+◌, ◌*◌, ◌≡◌, ◌∙◌, ℕ, zero, suc, ◌-◌, ◌/◌, ◌%◌, Bool, true, false, cond, List, [], ◌∷◌, ◌++◌, take, drop, length, get_or, set, Option, Some, None, is_some, refl, sym, ap, subst, ◌==◌, ◌&&◌, is_none, not, append_assoc}
use Rattle.std.specs.List.{list_all}
use Rattle.std.specs.Option.{option_and_then, option_map_or}
use Rattle.std.proofs.lemmas.Bool.{and_parts, eq-eqb, false≢true, true≢false}
use Rattle.std.proofs.lemmas.Bool.Decides.{nat_tests}
use Rattle.byteorder.specs.Endian.{little_bytes}
use Rattle.ffa_model.specs.declared.operation.Op.{Op}
use Rattle.ffa_model.specs.declared.operation.Op.TheVariants.{Call, Store}
use Rattle.ffa_model.specs.declared.call.Call as calls
use Rattle.ffa_model.specs.declared.call.Call.TheVariants.{MemRelinquish, MsgSend2}
use Rattle.ffa_model.specs.declared.descriptor.RelinquishDesc.{RelinquishDesc}
use Rattle.ffa_model.specs.declared.rights.Rights.{Rights}
use Rattle.ffa_model.specs.Lists.{is_in_run, map_at}
use Rattle.ffa_model.specs.State.{State, Page, Buffers, Transaction, buffers_of, is_known, is_known_among, page_at, transaction_of}
use Rattle.ffa_model.specs.Access.{access, covers, held_by, is_from, is_held_by, names, right_by, right_of}
use Rattle.ffa_model.specs.Buffers.{filled_pages}
use Rattle.ffa_model.specs.Calls.{first_failure}
use Rattle.ffa_model.specs.Memory.{page_with, size_of, store_fault, written_pages, written_run, zeroed_page}
use Rattle.ffa_model.specs.MemoryReturn.{memory_relinquish, named_ranges, relinquish_read}
use Rattle.ffa_model.specs.Messages.{header_in, message_in, msg_send2, tx_bytes}
use Rattle.ffa_model.specs.Notifications.{has_bitmaps_in, manager_class, message_bits, notifications_of}
use Rattle.ffa_model.specs.Registers.{decode}
use Rattle.ffa_model.specs.Step.{serve}
use Rattle.ffa_model.specs.Transactions.{not_holding}
use Rattle.ffa_model.proofs.Accesses.{named-in}
use Rattle.ffa_laws.specs.Steady.{IsAlone, IsSteady}
use Rattle.ffa_laws.specs.View.{involves, is_near, kept, seen_by, view}
use Rattle.ffa_laws.specs.Events.{Event, Wrote, Filled, Pending, Opened, Held, Zeroed, Closed, apply, apply_all, call_events, delivers, events, notified, public_change, releases, where_passed, where_true, with_holder, writes}
use Rattle.ffa_laws.specs.Readable.{all_readably, blank, blank_where, blanked, is_unreadable, readable, readably}
use Rattle.ffa_laws.specs.Silence.{may_tell}
use Rattle.ffa_laws.proofs.Blanks.{at-blanked, blank-none, blanked-twice}
use Rattle.ffa_laws.proofs.BufferLaws.{own-buffers}
use Rattle.ffa_laws.proofs.Maps.{map_at-alike, map_at-set, map_at-twice}
use Rattle.ffa_laws.proofs.Notices.{either-notified}
use Rattle.ffa_laws.proofs.Opened.{get-insert}
use Rattle.ffa_laws.proofs.Rows.{all-weaker, call-rows}
use Rattle.ffa_laws.proofs.Views.{kept_none, shown, view-page, view-transaction}
use Rattle.std.specs.Option.{option_map}
use Rattle.ffa_laws.proofs.Publics.{either-public}

pub readably-append : (e : ℕ) (s : State) (xs ys : List Event) → all_readably e s (xs ++ ys) ≡ all_readably e s xs ++ all_readably e s ys
readably-append e s [] ys = refl
readably-append e s (x ∷ xs) ys = ap (λ zs. readably e s x ++ zs) (readably-append e s xs ys) ∙ sym (append_assoc (readably e s x) (all_readably e s xs) (all_readably e s ys))

module _ (e : ℕ) (s : State) where
  abbrev hidden : ℕ → Bool
  hidden = is_unreadable s e

  abbrev IsBlank : State → Type 0
  IsBlank w = blanked hidden w.pages ≡ w.pages

  -- bytes go to pages that e can read, and pages that it can't read come without bytes
  abbrev IsClean : State → Event → Type 0
  IsClean w (Wrote address bytes) = hidden ((address - w.ram_base) / 4096) ≡ false
  IsClean w (Filled bytes) = (x : Buffers) → buffers_of w e ≡ Some x → (p : ℕ) → is_in_run x.rx x.pages p ≡ true → hidden p ≡ false
  IsClean w (Opened h t pages) = blanked hidden pages ≡ pages
  IsClean w (Zeroed h) = (p : ℕ) → names w (named_ranges (transaction_of w h)) p ≡ true → hidden p ≡ true → page_at w p ≡ None
  IsClean w event = Unit {0}

  abbrev AreClean : State → List Event → Type 0
  AreClean w [] = Unit {0}
  AreClean w (x ∷ xs) = IsClean w x × AreClean (apply e w x) xs

  set-clean : (ps : List (Option Page)) (p : ℕ) (page : Option Page) → blanked hidden ps ≡ ps → hidden p ≡ false → blanked hidden (set ps p page) ≡ set ps p page
  set-clean ps p page blank shown = map_at-set (λ q x. blank_where (hidden q) x) ps p page ∙ (λ i. set (blank i) p (blank_where (shown i) page))

  run-clean : (n first : ℕ) (bytes : List ℕ) (ps : List (Option Page)) → blanked hidden ps ≡ ps → ((p : ℕ) → is_in_run first n p ≡ true → hidden p ≡ false) → blanked hidden (written_run n ps first bytes) ≡ written_run n ps first bytes
  run-clean zero first bytes ps blank shown = blank
  run-clean (suc n) first bytes ps blank shown =
      run-clean n (first + 1) (drop 4096 bytes) (written_pages ps first 0 (take 4096 bytes))
      (set-clean ps first (page_with 0 (take 4096 bytes) (get_or ps first None)) blank (shown first (here first n)))
      (λ p its. shown p (later first n p its))
    where
      here : (first n : ℕ) → is_in_run first (suc n) first ≡ true
      here first n = grind (arith, nat_tests)

      later : (first n p : ℕ) → is_in_run (first + 1) n p ≡ true → is_in_run first (suc n) p ≡ true
      later first n p its = grind (arith, nat_tests, its)

  each-clean : (f : ℕ → Option Page → Option Page) (ps : List (Option Page)) → ((p : ℕ) → blank_where (hidden p) (f p (get_or ps p None)) ≡ f p (get_or ps p None)) → blanked hidden (map_at f ps) ≡ map_at f ps
  each-clean f ps same = map_at-twice (λ p page. blank_where (hidden p) page) f ps ∙ map_at-alike (λ p page. blank_where (hidden p) (f p page)) f ps ps None None refl same

  module _ (w : State) (blank : IsBlank w) where
    at-blank : (p : ℕ) → blank_where (hidden p) (page_at w p) ≡ page_at w p
    at-blank p = sym (at-blanked hidden w.pages p) ∙ ap (λ ps. get_or ps p None) blank

    keeps-blank : (x : Event) → IsClean w x → IsBlank (apply e w x)
    keeps-blank (Wrote address bytes) clean = set-clean w.pages ((address - w.ram_base) / 4096) (page_with (address % 4096) bytes (page_at w ((address - w.ram_base) / 4096))) blank clean
    keeps-blank (Filled bytes) clean = of (buffers_of w e) refl
      where
        of : (o : Option Buffers) → buffers_of w e ≡ o → blanked hidden (filled_pages w.pages bytes o) ≡ filled_pages w.pages bytes o
        of None is = blank
        of (Some x) is = run-clean x.pages x.rx bytes w.pages blank (clean x is)
    keeps-blank (Opened h t pages) clean =
        each-clean (λ p page. cond (names w t.ranges p) (get_or pages p None) page) w.pages (λ p. one (names w t.ranges p) p)
      where
        one : (n : Bool) (p : ℕ) → blank_where (hidden p) (cond n (get_or pages p None) (page_at w p)) ≡ cond n (get_or pages p None) (page_at w p)
        one true p = sym (at-blanked hidden pages p) ∙ ap (λ ps. get_or ps p None) clean
        one false p = at-blank p
    keeps-blank (Zeroed h) clean =
        each-clean (λ p page. cond (names w (named_ranges (transaction_of w h)) p) (zeroed_page page) page) w.pages (λ p. one p (names w (named_ranges (transaction_of w h)) p) refl (hidden p) refl)
      where
        one : (p : ℕ) (n : Bool) → names w (named_ranges (transaction_of w h)) p ≡ n → (c : Bool) → hidden p ≡ c → blank_where c (cond n (zeroed_page (page_at w p)) (page_at w p)) ≡ cond n (zeroed_page (page_at w p)) (page_at w p)
        one p true named true away = ap (λ page. blank_where true (zeroed_page page)) (clean p named away) ∙ sym (ap zeroed_page (clean p named away))
        one p true named false shown = refl
        one p false named c is = ap (λ b. blank_where b (page_at w p)) (sym is) ∙ at-blank p
    keeps-blank (Held h f right) clean = of (transaction_of w h)
      where
        of : (o : Option Transaction) → IsBlank (with_holder w h f right o)
        of None = blank
        of (Some t) = blank
    keeps-blank (Closed h) clean = each-clean (λ p page. cond (names w (named_ranges (transaction_of w h)) p) None page) w.pages (λ p. one (names w (named_ranges (transaction_of w h)) p) p)
      where
        one : (n : Bool) (p : ℕ) → blank_where (hidden p) (cond n None (page_at w p)) ≡ cond n None (page_at w p)
        one true p = blank-none (hidden p)
        one false p = at-blank p
    keeps-blank x clean = blank

  all-blank : (xs : List Event) (w : State) → IsBlank w → AreClean w xs → IsBlank (apply_all e w xs)
  all-blank [] w blank clean = blank
  all-blank (x ∷ xs) w blank clean = all-blank xs (apply e w x) (keeps-blank w blank x clean.0) clean.1

  clean-append : (xs ys : List Event) (w : State) → AreClean w xs → AreClean (apply_all e w xs) ys → AreClean w (xs ++ ys)
  clean-append [] ys w one two = two
  clean-append (x ∷ xs) ys w one two = (one.0, clean-append xs ys (apply e w x) one.1 two)

  -- events that bring no bytes but with pages
  abbrev is_plain : Event → Bool
  is_plain (Wrote address bytes) = false
  is_plain (Filled bytes) = false
  is_plain (Zeroed h) = false
  is_plain event = true

  clean-plain : (xs : List Event) (w : State) → list_all is_plain xs ≡ true → AreClean w (all_readably e s xs)
  clean-plain [] w all = tt
  clean-plain (x ∷ xs) w all = let (here, rest) = and_parts (is_plain x) _ all in one x here (λ u. clean-plain xs u rest) w
    where
      one : (x : Event) → is_plain x ≡ true → ((u : State) → AreClean u (all_readably e s xs)) → (w : State) → AreClean w (readably e s x ++ all_readably e s xs)
      one (Wrote address bytes) plain rest w = absurd (false≢true plain)
      one (Filled bytes) plain rest w = absurd (false≢true plain)
      one (Zeroed h) plain rest w = absurd (false≢true plain)
      one (Opened h t pages) plain rest w = (blanked-twice hidden pages, rest _)
      one x plain rest w = (tt, rest _)

  clean-two : (xs ys : List Event) (w : State) → AreClean w (all_readably e s xs) → list_all is_plain ys ≡ true → AreClean w (all_readably e s (xs ++ ys))
  clean-two xs ys w one plain =
      subst (AreClean w) (sym (readably-append e s xs ys)) (clean-append (all_readably e s xs) (all_readably e s ys) w one (clean-plain ys _ plain))

  public-plain : (next : State) → list_all is_plain (public_change s next) ≡ true
  public-plain next = either-public (λ es. list_all is_plain es ≡ true) s next refl refl

  abbrev v : State
  v = readable e s

  -- who holds a transaction doesn't matter to which pages it names
  abbrev pub held_after : ℕ → Bool → State
  held_after h b = apply_all e v (all_readably e s (where_true b (Held h s.runner None ∷ [])))

  pub base-after : (h : ℕ) (b : Bool) → (held_after h b).ram_base ≡ s.ram_base
  base-after h false = refl
  base-after h true = elim (transaction_of v h) as (λ o. (with_holder v h s.runner None o).ram_base ≡ s.ram_base) [ None ↦ refl | Some t ↦ refl ]

  pages-after : (h : ℕ) (b : Bool) → (held_after h b).pages ≡ v.pages
  pages-after h false = refl
  pages-after h true = elim (transaction_of v h) as (λ o. (with_holder v h s.runner None o).pages ≡ v.pages) [ None ↦ refl | Some t ↦ refl ]

  pub ranges-after : (h : ℕ) (b : Bool) (p : ℕ) → names s (named_ranges (transaction_of (held_after h b) h)) p ≡ true → names s (named_ranges (transaction_of v h)) p ≡ true
  ranges-after h false p named = named
  ranges-after h true p named = of (transaction_of v h) refl named
    where
      of : (o : Option Transaction) → transaction_of v h ≡ o → names s (named_ranges (transaction_of (with_holder v h s.runner None o) h)) p ≡ true → names s (named_ranges o) p ≡ true
      of None is named = sym (ap (λ o. names s (named_ranges o) p) is) ∙ named
      of (Some t) is named = sym (ap (λ o. names s (named_ranges o) p) (get-insert v.transactions h (not_holding t s.runner) h ∙ ap (λ b. cond b (Some (not_holding t s.runner)) (transaction_of v h)) (eq-eqb h h refl))) ∙ named

  pub seen-ranges : (h : ℕ) (t : Transaction) → transaction_of s h ≡ Some t → (b : Bool) → (involves e (Some t)) ≡ b → (p : ℕ) → names s (named_ranges (transaction_of v h)) p ≡ true → names s t.ranges p ≡ true
  seen-ranges h t there true known p named = sym (ap (λ o. names s (named_ranges o) p) (view-transaction e s h ∙ ap (shown e) there ∙ ap (λ b. option_map (seen_by e) (kept b (Some t))) known)) ∙ named
  seen-ranges h t there false unknown p named = absurd (false≢true (sym (ap (λ o. names s (named_ranges o) p) (view-transaction e s h ∙ ap (shown e) there ∙ ap (λ b. option_map (seen_by e) (kept b (Some t))) unknown)) ∙ named))

  -- ---- what each operation tells
  module _ (steady : IsSteady s) (known : is_known s e ≡ true) where
    -- pages of a transaction that e holds
    held-there : (h : ℕ) (t : Transaction) → transaction_of s h ≡ Some t → is_held_by e (Some t) ≡ true → (p : ℕ) → names s t.ranges p ≡ true → hidden p ≡ true → page_at s p ≡ None
    held-there h t there held p named away = of (page_at s p) refl
      where
        by : access s e p ≡ right_of e (page_at s p) (Some t)
        by = ap (right_of e (page_at s p)) (named-in s p h t (λ k j at_k at_j. steady.one p k j at_k at_j) there named)

        has : (q : Page) (o : Option Rights) → is_some o ≡ true → is_none (right_by e q t o) ≡ false
        has q None is = absurd (false≢true is)
        has q (Some right) is = refl

        of : (o : Option Page) → page_at s p ≡ o → page_at s p ≡ None
        of None at = at
        of (Some q) at = absurd (false≢true (sym (ap is_none (by ∙ ap (λ o. right_of e o (Some t)) at) ∙ has q (held_by t e) held) ∙ away))

    -- a page that e has alone
    alone-shown : (p : ℕ) → IsAlone s e p → hidden p ≡ false
    alone-shown p alone = ap (λ o. is_none (right_of e (page_at s p) (option_and_then (transaction_of s) o))) alone.unnamed ∙ of (page_at s p) alone.owner
      where
        of : (o : Option Page) → option_map_or (λ (q : Page). q.owner) o 0x8000 ≡ e → is_none (right_of e o None) ≡ false
        of None own = absurd (false≢true (subst (λ f. is_known_among (length s.parties) f ≡ true) (sym own) known))
        of (Some q) own = ap (λ b. is_none (cond b (Some q.own_right) None)) (eq-eqb q.owner e own)

    fill-clean : (bytes : List ℕ) → IsClean v (Filled bytes)
    fill-clean bytes x is p its = alone-shown p ((steady.buffers e x known (sym (own-buffers e s known) ∙ is)).rx p its)

    zero-clean : (h : ℕ) (b : Bool) → is_held_by e (transaction_of s h) ≡ true → IsClean (held_after h b) (Zeroed h)
    zero-clean h b held p named away =
        ap (λ ps. get_or ps p None) (pages-after h b) ∙ at-blanked hidden (view e s).pages p
        ∙ ap (blank_where (hidden p)) (view-page e s p ∙ ap (kept (is_near e s p)) (of (transaction_of s h) refl held) ∙ kept_none (is_near e s p))
        ∙ blank-none (hidden p)
      where
        there : names s (named_ranges (transaction_of (held_after h b) h)) p ≡ true
        there = sym (ap (λ base. covers (named_ranges (transaction_of (held_after h b) h)) (base + 4096 * p)) (base-after h b)) ∙ named

        of : (o : Option Transaction) → transaction_of s h ≡ o → is_held_by e o ≡ true → page_at s p ≡ None
        of None is held = absurd (false≢true held)
        of (Some t) is held = held-there h t is held p (seen-ranges h t is (involves e (Some t)) refl p (ranges-after h b p there)) away

    released : (d : RelinquishDesc) (b c : Bool) → AreClean v (all_readably e s (where_true b (Held d.handle s.runner None ∷ []) ++ where_true c (Zeroed d.handle ∷ [])))
    released d b c =
        subst (AreClean v) (sym (readably-append e s (where_true b (Held d.handle s.runner None ∷ [])) (where_true c (Zeroed d.handle ∷ []))))
        (clean-append (all_readably e s (where_true b (Held d.handle s.runner None ∷ []))) (all_readably e s (where_true c (Zeroed d.handle ∷ []))) v
        (clean-plain (where_true b (Held d.handle s.runner None ∷ [])) v (plain b)) (zeros c))
      where
        plain : (b : Bool) → list_all is_plain (where_true b (Held d.handle s.runner None ∷ [])) ≡ true
        plain true = refl
        plain false = refl

        zeros : (c : Bool) → AreClean (held_after d.handle b) (all_readably e s (where_true c (Zeroed d.handle ∷ [])))
        zeros false = tt
        zeros true = by (is_held_by e (transaction_of s d.handle)) refl
          where
            by : (held : Bool) → is_held_by e (transaction_of s d.handle) ≡ held → AreClean (held_after d.handle b) (where_true held (Zeroed d.handle ∷ []) ++ [])
            by true is = (zero-clean d.handle b is, tt)
            by false is = tt

    passed : {X : Type 0} (o : Option X) (xs : List Event) → AreClean v (all_readably e s xs) → AreClean v (all_readably e s (where_passed o xs))
    passed None xs clean = clean
    passed (Some failure) xs clean = tt

    clean-call : (call : calls.Call) → AreClean v (all_readably e s (call_events e s call))
    clean-call MemRelinquish =
        clean-two (where_passed (first_failure (memory_relinquish s).guards) (releases e s (relinquish_read s))) (public_change s (serve s MemRelinquish).state) v
        (passed (first_failure (memory_relinquish s).guards) (releases e s (relinquish_read s)) (of (relinquish_read s))) (public-plain (serve s MemRelinquish).state)
      where
        of : (o : Option RelinquishDesc) → AreClean v (all_readably e s (releases e s o))
        of None = tt
        of (Some d) = released d (is_from e (transaction_of s d.handle)) (d.zero && involves e (transaction_of s d.handle))
    clean-call MsgSend2 =
        clean-two (where_passed (first_failure (msg_send2 s).guards) (delivers e s (tx_bytes s s.runner))) (public_change s (serve s MsgSend2).state) v
        (passed (first_failure (msg_send2 s).guards) (delivers e s (tx_bytes s s.runner)) (clean-two (where_true ((header_in (tx_bytes s s.runner)).receiver == e) (Filled (message_in (tx_bytes s s.runner)) ∷ [])) _ v (of ((header_in (tx_bytes s s.runner)).receiver == e)) heard)) (public-plain (serve s MsgSend2).state)
      where
        raised : (c : Bool) → list_all is_plain (where_true c (Pending manager_class message_bits ∷ [])) ≡ true
        raised true = refl
        raised false = refl

        heard : list_all is_plain (notified e s (msg_send2 s).state (where_true ((header_in (tx_bytes s s.runner)).receiver == e && has_bitmaps_in (notifications_of s) e) (Pending manager_class message_bits ∷ []))) ≡ true
        heard = either-notified (λ es. list_all is_plain es ≡ true) e s (msg_send2 s).state _ refl (λ differ. refl) (raised ((header_in (tx_bytes s s.runner)).receiver == e && has_bitmaps_in (notifications_of s) e))

        of : (b : Bool) → AreClean v (all_readably e s (where_true b (Filled (message_in (tx_bytes s s.runner)) ∷ [])))
        of false = tt
        of true = (fill-clean (message_in (tx_bytes s s.runner)), tt)
    clean-call call = rest call (λ h. refl) (λ bytes. refl) (λ address bytes. refl)
      where
        rest : (c : calls.Call) → ((h : ℕ) → may_tell c (Zeroed h) ≡ false) → ((bytes : List ℕ) → may_tell c (Filled bytes) ≡ false) → ((address : ℕ) (bytes : List ℕ) → may_tell c (Wrote address bytes) ≡ false)
            → AreClean v (all_readably e s (call_events e s c))
        rest c zeroes fills writes = clean-plain (call_events e s c) v (all-weaker (may_tell c) is_plain (call_events e s c) one (call-rows e s c))
          where
            one : (x : Event) → may_tell c x ≡ true → is_plain x ≡ true
            one (Wrote address bytes) may = absurd (true≢false (sym may ∙ writes address bytes))
            one (Filled bytes) may = absurd (true≢false (sym may ∙ fills bytes))
            one (Zeroed h) may = absurd (true≢false (sym may ∙ zeroes h))
            one x may = refl

    clean-op : (op : Op) → AreClean v (all_readably e s (events e s op))
    clean-op (Call x) = clean-call (decode x)
    clean-op (Store address size value) = passed (store_fault s address (size_of size)) (writes e s address (little_bytes (size_of size) value)) (of (is_near e s ((address - s.ram_base) / 4096)))
      where
        of : (near : Bool) → AreClean v (all_readably e s (where_true near (Wrote address (little_bytes (size_of size) value) ∷ [])))
        of false = tt
        of true = by (hidden ((address - s.ram_base) / 4096)) refl
          where
            by : (c : Bool) → hidden ((address - s.ram_base) / 4096) ≡ c → AreClean v (where_true (not c) (Wrote address (little_bytes (size_of size) value) ∷ []) ++ [])
            by true is = tt
            by false is = (is, tt)
    clean-op _ = tt

    -- so the view without the bytes that e can't read stays without them
    pub heard-blank : (op : Op) → blank hidden (apply_all e v (all_readably e s (events e s op))) ≡ apply_all e v (all_readably e s (events e s op))
    heard-blank op =
        let after = apply_all e v (all_readably e s (events e s op)) in
        let same = all-blank (all_readably e s (events e s op)) v (blanked-twice hidden (view e s).pages) (clean-op op) in
        λ i. record after { pages = same i }
