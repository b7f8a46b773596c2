-- SPDX-License-Identifier: MIT OR Apache-2.0
-- The state stays sound when pages that stand in no transaction and no buffer are given to another endpoint.
use Rattle.std.proofs.Common.{◌≡◌, ◌≢◌, ◌∙◌, ℕ, zero, suc, ◌+◌, ◌*◌, ◌%◌, ◌^◌, ◌≤◌, ◌<◌, Bool, true, false, cond, List, ◌∷◌, length, Option, Some, None, refl, sym, ap, subst, arith, ◌&&◌, filter, if◌then◌else◌, true≢false, inl, inr}
use Rattle.std.specs.List.{list_all}
use Rattle.std.specs.Option.{option_map, option_map_or}
use Rattle.std.proofs.lemmas.Bool.{cases_lt}
use Rattle.std.proofs.lemmas.List.{get_or_past}
use Rattle.std.proofs.lemmas.Option.{none-some, same_Some}
use Rattle.ffa_model.specs.declared.rights.Rights.{Rights}
use Rattle.ffa_model.specs.declared.transaction.Range.{Range}
use Rattle.ffa_model.specs.declared.transaction.Receiver.{Receiver}
use Rattle.ffa_model.specs.Identifiers.{manager}
use Rattle.ffa_model.specs.Lists.{is_in_run, listed}
use Rattle.ffa_model.specs.Rights.{is_at_most, may_fetch, may_store}
use Rattle.ffa_model.specs.State.{State, Page, Transaction, Buffers, buffers_of, owner_of, page_at, transaction_of, own_right_of}
use Rattle.ffa_model.specs.Access.{handle_at, is_naming, names, Ownership, ownership_of}
use Rattle.ffa_model.specs.Memory.{with_pages}
use Rattle.ffa_model.specs.Transactions.{are_writable, ceiling, ceiling_in, pages_in}
use Rattle.ffa_model.specs.MemorySend.{are_grants_within, is_grantable, is_inside, is_told_normal}
use Rattle.ffa_model.specs.MemoryRetrieve.{donated_page}
use Rattle.ffa_model.specs.SoundState.{IsKnown, IsSoundPage, IsSoundState, IsSoundTransaction, is_secure}
use Rattle.ffa_model.proofs.Accesses.{length-map_at, page-changed}
use Rattle.ffa_model.proofs.Handles.{none-passes}
use Rattle.ffa_model.proofs.Kept.{same-usable}
use Rattle.ffa_model.proofs.Own.{owned_by}

-- two tests that agree wherever they are asked
pub same-tests : (test also keep : ℕ → Bool) (n : ℕ) (f : ℕ → ℕ) → ((i : ℕ) → i < n → keep (f i) ≡ true → test (f i) ≡ also (f i))
    → list_all test (filter keep (listed n f)) ≡ list_all also (filter keep (listed n f))
same-tests test also keep zero f same = refl
same-tests test also keep (suc n) f same = of (keep (f 0)) refl (same-tests test also keep n (λ i. f (suc i)) (λ i lt kept. same (suc i) (omega arith) kept))
  where
    of : (b : Bool) → keep (f 0) ≡ b
        → list_all test (filter keep (listed n (λ i. f (suc i)))) ≡ list_all also (filter keep (listed n (λ i. f (suc i))))
        → list_all test (cond b (f 0 ∷ filter keep (listed n (λ i. f (suc i)))) (filter keep (listed n (λ i. f (suc i)))))
        ≡ list_all also (cond b (f 0 ∷ filter keep (listed n (λ i. f (suc i)))) (filter keep (listed n (λ i. f (suc i)))))
    of true kept rest = λ i. same 0 (omega arith) kept i && rest i
    of false left rest = rest

module _ (s : State) (sound : IsSoundState s) (ranges : List Range) (e : ℕ) (right : Rights) (known : IsKnown s e)
    (free : (p : ℕ) → p < length s.pages → names s ranges p ≡ true → handle_at s p ≡ None)
    (worlds : (p : ℕ) → p < length s.pages → names s ranges p ≡ true → is_secure s p ≡ true → e ≢ 0)
    (unbuffered : (f : ℕ) (b : Buffers) → IsKnown s f → buffers_of s f ≡ Some b
    → ((p : ℕ) → is_in_run b.tx b.pages p ≡ true → names s ranges p ≡ false) × ((p : ℕ) → is_in_run b.rx b.pages p ≡ true → names s ranges p ≡ false)) where
  abbrev pub after_giving : State
  after_giving = with_pages s ranges (donated_page e right)

  size : length after_giving.pages ≡ length s.pages
  size = length-map_at (λ p page. if names s ranges p then donated_page e right page else page) s.pages

  -- other pages are as they were
  page-same : (p : ℕ) → names s ranges p ≡ false → page_at after_giving p ≡ page_at s p
  page-same p other = page-changed s ranges (donated_page e right) p refl ∙ ap (λ b. cond b (donated_page e right (page_at s p)) (page_at s p)) other

  base-same : (p : ℕ) → names s ranges p ≡ false → own_right_of after_giving p ≡ own_right_of s p
  base-same p other = ap (option_map (λ (page : Page). page.own_right)) (page-same p other)

  owner-same : (p : ℕ) → names s ranges p ≡ false → owner_of after_giving p ≡ owner_of s p
  owner-same p other = ap (λ o. option_map_or (λ (page : Page). page.owner) o manager) (page-same p other)

  -- RAM as it is then, by the number of pages before
  abbrev given_own_rights : Ownership
  given_own_rights = record (ownership_of after_giving) { count = length s.pages }

  given_own_rights-are : ownership_of after_giving ≡ given_own_rights
  given_own_rights-are = λ i. record (ownership_of after_giving) { count = size i }

  module _ (h : ℕ) (t : Transaction) (is : transaction_of s h ≡ Some t) where
    good : IsSoundTransaction s h t
    good = sound.transactions h t is

    -- no page of an open transaction is given
    other : (p : ℕ) → p < length s.pages → names s t.ranges p ≡ true → names s ranges p ≡ false
    other p lt named = of (names s ranges p) refl
      where
        of : (b : Bool) → names s ranges p ≡ b → names s ranges p ≡ false
        of false is_other = is_other
        of true given = absurd (true≢false (sym (ap (is_naming s p) is ∙ named) ∙ none-passes (is_naming s p) refl s.transactions h (free p lt given)))

    same-all : (test : Option Rights → Bool) → list_all (λ p. test (own_right_of after_giving p)) (pages_in given_own_rights t.ranges) ≡ list_all (λ p. test (own_right_of s p)) (pages_in given_own_rights t.ranges)
    same-all test = same-tests (λ p. test (own_right_of after_giving p)) (λ p. test (own_right_of s p)) (names s t.ranges) (length s.pages) (λ p. p) (λ p lt named. ap test (base-same p (other p lt named)))

    ceiling-same : (f : ℕ) → ceiling given_own_rights t f ≡ ceiling (ownership_of s) t f
    ceiling-same f = λ i. ceiling_in t.kind (same-all may_store i) (same-all may_fetch i) t f

    given-transaction : IsSoundTransaction after_giving h t
    given-transaction =
        record {
          sender = good.sender;
          number = good.number;
          inside = subst (λ (b : Ownership). list_all (is_inside b) t.ranges ≡ true) (sym given_own_rights-are) good.inside;
          owned = λ p lt named.
              let within : p < length s.pages = subst (λ n. p < n) size lt in
              owner-same p (other p within named) ∙ good.owned p within named;
          grants = subst (λ (b : Ownership). list_all (are_grants_within b t.receivers) (pages_in b t.ranges) ≡ true) (sym given_own_rights-are)
              (same-all (λ o. list_all (λ (r : Receiver). is_grantable r.grant o) t.receivers) ∙ good.grants);
          zeroed = λ zero. subst (λ (b : Ownership). are_writable b t.ranges ≡ true) (sym given_own_rights-are) (same-all may_store ∙ good.zeroed zero);
          holder = good.holder;
          within = λ f its held. subst (λ (b : Ownership). is_at_most its (ceiling b t f) ≡ true) (sym given_own_rights-are)
              (subst (λ (most : Rights). is_at_most its most ≡ true) (sym (ceiling-same f)) (good.within f its held));
          donate = good.donate;
          receivers = good.receivers;
          some_receivers = good.some_receivers;
          few_receivers = good.few_receivers;
          some_ranges = good.some_ranges;
          few_ranges = good.few_ranges;
          tag = good.tag;
          worlds = λ p lt named secure. good.worlds p (subst (λ n. p < n) size lt) named secure;
          told = good.told ∙ sym (ap (λ (b : Ownership). is_told_normal b s.normal t.ranges) given_own_rights-are);
        }

  given-pages : (p : ℕ) (page : Page) → page_at after_giving p ≡ Some page → IsSoundPage after_giving page
  given-pages p page is = of (names s ranges p) (page_at s p) refl (sym (page-changed s ranges (donated_page e right) p refl) ∙ is)
    where
      of : (b : Bool) (o : Option Page) → page_at s p ≡ o → cond b (donated_page e right o) o ≡ Some page → IsSoundPage after_giving page
      of true None there none = absurd (none-some page none)
      of true (Some q) there some =
          let before = sound.pages p q there in
          subst (λ (r : Page). IsSoundPage after_giving r) (same_Some _ page some) (record { owner = known; size = before.size; bytes = before.bytes })
      of false None there none = absurd (none-some page none)
      of false (Some q) there some =
          let before = sound.pages p q there in
          subst (λ (r : Page). IsSoundPage after_giving r) (same_Some q page some) (record { owner = before.owner; size = before.size; bytes = before.bytes })

  -- no secure page is given to the normal world
  given-worlds : (p : ℕ) → is_secure after_giving p ≡ true → owner_of after_giving p ≢ 0
  given-worlds p secure first = of (names s ranges p) (page_at s p) refl refl (sym (ap owned_by (page-changed s ranges (donated_page e right) p refl)) ∙ first)
    where
      within : (q : Page) → page_at s p ≡ Some q → p < length s.pages
      within q there = elim (cases_lt p (length s.pages)) [
        | inl lt ↦ lt
        | inr past ↦ absurd (none-some q (sym (get_or_past s.pages p None past) ∙ there))
      ]

      of : (b : Bool) (o : Option Page) → names s ranges p ≡ b → page_at s p ≡ o → owned_by (cond b (donated_page e right o) o) ≡ 0 → ⊥
      of true None named there is = omega (arith, is)
      of true (Some q) named there is = worlds p (within q there) named secure is
      of false o named there is = sound.worlds p secure (ap owned_by there ∙ is)

  pub given-sound : IsSoundState after_giving
  given-sound =
      let blocks = sound.sized.blocks in
      record {
        sized = record { some = sound.sized.some; few = sound.sized.few; base = sound.sized.base; within = subst (λ n. s.ram_base + 4096 * n ≤ 2 ^ 32) (sym size) sound.sized.within; one_table = subst (λ n. s.ram_base % 2 ^ 30 + 4096 * n ≤ 2 ^ 30) (sym size) sound.sized.one_table; blocks = (blocks.0, size ∙ blocks.1, blocks.2, blocks.3, blocks.4); versions = sound.sized.versions; sent = sound.sized.sent; buffers = sound.sized.buffers; works = sound.sized.works; bitmaps = sound.sized.bitmaps };
        parties = sound.parties;
        pages = given-pages;
        worlds = given-worlds;
        transactions = given-transaction;
        one = λ p h k lt at_h at_k. sound.one p h k (subst (λ n. p < n) size lt) at_h at_k;
        few = sound.few;
        sent = sound.sent;
        buffers = λ f b is_known is.
            let its = sound.buffers f b is_known is in
            let apart = unbuffered f b is_known is in
            record {
              count = its.count;
              tx = λ p in_tx. same-usable s after_giving f p (base-same p (apart.0 p in_tx)) (owner-same p (apart.0 p in_tx)) (λ none. none) (its.tx p in_tx);
              rx = λ p in_rx. same-usable s after_giving f p (base-same p (apart.1 p in_rx)) (owner-same p (apart.1 p in_rx)) (λ none. none) (its.rx p in_rx);
              apart = its.apart;
            };
        schedule = sound.schedule;
        bound = λ entry is. let its = sound.bound entry is in record { receiver = its.receiver; bit = its.bit; sender = its.sender; is = its.is; to_known = its.to_known; from_known = its.from_known; in_word = its.in_word; bitmaps = its.bitmaps; alone = its.alone };
        pending = λ entry is. let its = sound.pending entry is in record { receiver = its.receiver; class = its.class; bit = its.bit; is = its.is; to_known = its.to_known; of_class = its.of_class; in_word = its.in_word; bound = its.bound };
      }
