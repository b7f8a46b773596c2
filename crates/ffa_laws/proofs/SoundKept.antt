-- SPDX-License-Identifier: MIT OR Apache-2.0
-- What keeps a state sound: its parts, one by one.
use Rattle.ffa_model.specs.Access.{ownership_of}
use Rattle.std.proofs.Common.{◌≡◌, ◌∙◌, ℕ, ◌+◌, ◌*◌, ◌%◌, ◌^◌, ◌<◌, ◌≤◌, true, List, length, length-set, get_or, Option, Some, None, refl, sym, subst, arith}
use Rattle.std.specs.FinSet as finite_set
use Rattle.ffa_model.specs.Identifiers.{place}
use Rattle.ffa_model.specs.State.{State, Page, Buffers, owner_of, page_at, with_version}
use Rattle.ffa_model.specs.declared.endpoint.Version.{Version}
use Rattle.ffa_model.specs.RunStates.{Schedule, schedule_of, with_schedule}
use Rattle.ffa_model.specs.Notifications.{Notifications, with_notifications}
use Rattle.ffa_model.specs.Sound.{IsSound}
use Rattle.ffa_model.specs.SoundState.{IsKnown, IsSoundBinding, IsSoundBuffers, IsSoundPage, IsSoundPending, IsSoundState}
use Rattle.ffa_model.proofs.Kept.{same-secure, same-transaction, same-usable}
use Rattle.ffa_laws.proofs.Changes.{AreRewritten, same_own_right, same_owner, unwritten, with_parts}
use Rattle.ffa_model.proofs.Own.{with_rights_of}

-- pages whose owners are endpoints, and that hold bytes
abbrev pub AreSoundPages : State → List (Option Page) → Type 0
AreSoundPages s ps = (p : ℕ) (page : Page) → get_or ps p None ≡ Some page → IsSoundPage s page

abbrev pub AreSoundBuffers : State → List (Option Buffers) → Type 0
AreSoundBuffers s bs = (e : ℕ) (b : Buffers) → IsKnown s e → get_or bs (place e) None ≡ Some b → IsSoundBuffers s e b

module _ (s : State) (sound : IsSoundState s) where
  module _ (ps : List (Option Page)) (bs : List (Option Buffers)) (c : Schedule) (rewritten : AreRewritten s.pages ps) where
    abbrev z : State
    z = with_parts s ps bs c

    same-own-rights : ownership_of z ≡ with_rights_of s z
    same-own-rights =
        λ i. record (with_rights_of s z) { count = rewritten.each i; own_right = λ p. same_own_right (get_or ps p None) (page_at s p) (rewritten.same p) i }

    same-owners : (p : ℕ) → owner_of z p ≡ owner_of s p
    same-owners p = same_owner (get_or ps p None) (page_at s p) (rewritten.same p)

    -- other bytes, buffers and run states
    pub parts-sound : AreSoundPages s ps → length bs ≡ length s.parties → AreSoundBuffers s bs → length c.works ≡ length s.parties → IsSound c → IsSoundState z
    parts-sound pages each buffers works schedule =
        let sized = sound.sized in
        record {
          sized =
              record {
                some = sized.some;
                few = sized.few;
                base = sized.base;
                within = subst (λ n. s.ram_base + 4096 * n ≤ 2 ^ 32) (sym rewritten.each) sized.within;
                one_table = subst (λ n. s.ram_base % 2 ^ 30 + 4096 * n ≤ 2 ^ 30) (sym rewritten.each) sized.one_table;
                blocks = (sized.blocks.0, rewritten.each ∙ sized.blocks.1, sized.blocks.2, sized.blocks.3, sized.blocks.4);
                versions = sized.versions;
                sent = sized.sent;
                buffers = each;
                works = works;
                bitmaps = sized.bitmaps;
              };
          parties = sound.parties;
          pages = λ p page is. let good = pages p page is in record { owner = good.owner; size = good.size; bytes = good.bytes };
          worlds = λ p secure owner. sound.worlds p (sym (same-secure s z p same-own-rights refl) ∙ secure) (sym (same-owners p) ∙ owner);
          transactions = λ h t is. same-transaction s z h t same-own-rights refl same-owners refl (omega arith) (sound.transactions h t is);
          one = λ p h k lt at_h at_k. sound.one p h k (subst (λ n. p < n) rewritten.each lt) at_h at_k;
          few = sound.few;
          sent = sound.sent;
          buffers = λ e b known is.
              let good = buffers e b known is in
              record {
                count = good.count;
                tx = λ p its. same-usable s z e p (λ i. (same-own-rights i).own_right p) (same-owners p) (λ none. none) (good.tx p its);
                rx = λ p its. same-usable s z e p (λ i. (same-own-rights i).own_right p) (same-owners p) (λ none. none) (good.rx p its);
                apart = good.apart;
              };
          schedule = schedule;
          bound = λ entry is. let good = sound.bound entry is in record { receiver = good.receiver; bit = good.bit; sender = good.sender; is = good.is; to_known = good.to_known; from_known = good.from_known; in_word = good.in_word; bitmaps = good.bitmaps; alone = good.alone };
          pending = λ entry is. let good = sound.pending entry is in record { receiver = good.receiver; class = good.class; bit = good.bit; is = good.is; to_known = good.to_known; of_class = good.of_class; in_word = good.in_word; bound = good.bound };
        }

  -- bytes alone, buffers alone, run states alone
  pub pages-sound : (ps : List (Option Page)) → AreRewritten s.pages ps → AreSoundPages s ps → IsSoundState (record s { pages = ps })
  pages-sound ps rewritten pages = parts-sound ps s.buffers (schedule_of s) rewritten pages sound.sized.buffers sound.buffers sound.sized.works sound.schedule

  pub buffers-sound : (bs : List (Option Buffers)) → length bs ≡ length s.parties → AreSoundBuffers s bs → IsSoundState (record s { buffers = bs })
  buffers-sound bs each buffers = parts-sound s.pages bs (schedule_of s) (unwritten s.pages) sound.pages each buffers sound.sized.works sound.schedule

  pub schedule-sound : (c : Schedule) → length c.works ≡ length s.parties → IsSound c → IsSoundState (with_schedule s c)
  schedule-sound c works schedule = parts-sound s.pages s.buffers c (unwritten s.pages) sound.pages sound.sized.buffers sound.buffers works schedule

  -- notifications
  pub notifications-sound : (n : Notifications) → length n.bitmaps ≡ length s.parties
      → ((entry : List ℕ) → finite_set.contains n.bound entry ≡ true → IsSoundBinding (with_notifications s n) entry)
      → ((entry : List ℕ) → finite_set.contains n.pending entry ≡ true → IsSoundPending (with_notifications s n) entry)
      → IsSoundState (with_notifications s n)
  notifications-sound n bitmaps bound pending =
      let sized = sound.sized in
      record {
        sized = record { some = sized.some; few = sized.few; base = sized.base; within = sized.within; one_table = sized.one_table; blocks = sized.blocks; versions = sized.versions; sent = sized.sent; buffers = sized.buffers; works = sized.works; bitmaps = bitmaps };
        parties = sound.parties;
        pages = λ p page is. let good = sound.pages p page is in record { owner = good.owner; size = good.size; bytes = good.bytes };
        worlds = sound.worlds;
        transactions = λ h t is. same-transaction s (with_notifications s n) h t refl refl (λ p. refl) refl (omega arith) (sound.transactions h t is);
        one = sound.one;
        few = sound.few;
        sent = sound.sent;
        buffers = λ e b known is. let good = sound.buffers e b known is in record { count = good.count; tx = good.tx; rx = good.rx; apart = good.apart };
        schedule = sound.schedule;
        bound = bound;
        pending = pending;
      }

  -- another form of an endpoint
  pub version-sound : (e : ℕ) (version : Version) → IsSoundState (with_version s e version)
  version-sound e version =
      let sized = sound.sized in
      record {
        sized = record { some = sized.some; few = sized.few; base = sized.base; within = sized.within; one_table = sized.one_table; blocks = sized.blocks; versions = length-set s.versions (place e) version ∙ sized.versions; sent = sized.sent; buffers = sized.buffers; works = sized.works; bitmaps = sized.bitmaps };
        parties = sound.parties;
        pages = λ p page is. let good = sound.pages p page is in record { owner = good.owner; size = good.size; bytes = good.bytes };
        worlds = sound.worlds;
        transactions = λ h t is. same-transaction s (with_version s e version) h t refl refl (λ p. refl) refl (omega arith) (sound.transactions h t is);
        one = sound.one;
        few = sound.few;
        sent = sound.sent;
        buffers = λ f b known is. let good = sound.buffers f b known is in record { count = good.count; tx = good.tx; rx = good.rx; apart = good.apart };
        schedule = sound.schedule;
        bound = λ entry is. let good = sound.bound entry is in record { receiver = good.receiver; bit = good.bit; sender = good.sender; is = good.is; to_known = good.to_known; from_known = good.from_known; in_word = good.in_word; bitmaps = good.bitmaps; alone = good.alone };
        pending = λ entry is. let good = sound.pending entry is in record { receiver = good.receiver; class = good.class; bit = good.bit; is = good.is; to_known = good.to_known; of_class = good.of_class; in_word = good.in_word; bound = good.bound };
      }
