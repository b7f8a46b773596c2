-- SPDX-License-Identifier: MIT OR Apache-2.0
-- One page, as it is read or lent, and what is observed.
use Rattle.std.proofs.Common.{◌≡◌, ◌∙◌, ℕ, ◌+◌, ◌-◌, ◌*◌, ◌<◌, ◌≤◌, Bool, true, false, cond, List, [], None, Some, length, get_or, take, drop, vec_len, refl, ap, sym, arith}
use Rattle.std.proofs.lemmas.Bool.{false_from_ne_true, false≢true}
use Rattle.std.proofs.Math.Nat.{ℕ_set, min-eq_left}
use Rattle.std.proofs.Math.Bridge.{le_prop}
use Rattle.std.specs.Vec.{with_item, with_items}
use Rattle.std.proofs.lemmas.List.{with_items_is}
use Rattle.ffa_model.specs.declared.limits.TheConstants.{MOST_BUFFER_PAGES}
use Rattle.ffa_model.specs.Lists.{is_in_run, map_at}
use Rattle.ffa_model.specs.Ram.{Ram, page_of}
use Rattle.ffa_model.proofs.Accesses.{length-map_at}
use Rattle.ffa_model.proofs.Runs.{in-run, to-run}
use Rattle.ffa_physmem.specs.FrameRam.{ram_of as frame_ram}
use Rattle.ffa_physmem.specs.Moments.{AgreeInFirst, IsBeside, with_beneath}
use Rattle.ffa_lent.specs.LentRam.{bytes_seen, copies_of, is_observed, memory-beneath, ram_of, written}
use Rattle.ffa_lent.specs.Memory.{with_event, with_frame_bytes}
use Rattle.ffa_lent.specs.History.{Event, changed}
use Rattle.ffa_lent.specs.declared.memory.Memory.{Memory}
use Rattle.ffa_lent.specs.Beneath.{beneath-off, get_or-map_at, seen-beside, seen_by, slice-size}
use Rattle.ffa_lent.proofs.Observed.{frame-of, observed-in, observed-whole}
use Rattle.ffa_lent.specs.declared.ram.LentRam.{LentRam}

-- there are as many pages as frames
pub pages-seen : (m : LentRam) → length (ram_of m).pages ≡ length (frame_ram m.memory.frames).pages
pages-seen m = length-map_at (bytes_seen m) (frame_ram m.memory.frames).pages

module _ (m : LentRam) (i : ℕ) (inside : i < length (ram_of m).pages) where
  pub frame-inside : i < length (frame_ram m.memory.frames).pages
  frame-inside = let same = pages-seen m in omega (arith, inside, same)

  -- an observed page has the bytes of its copy
  pub page_of-copy : is_observed m i ≡ true → page_of (ram_of m) i ≡ get_or m.copies.items (i - m.first.0) []
  page_of-copy at =
      get_or-map_at (bytes_seen m) (frame_ram m.memory.frames).pages i frame-inside
      ∙ ap (λ c. cond c (get_or m.copies.items (i - m.first.0) []) (page_of (frame_ram m.memory.frames) i)) at

  -- any other one has those of its frame
  pub page_of-frame : is_observed m i ≡ false → page_of (ram_of m) i ≡ page_of (frame_ram m.memory.frames) i
  page_of-frame off =
      get_or-map_at (bytes_seen m) (frame_ram m.memory.frames).pages i frame-inside
      ∙ ap (λ c. cond c (get_or m.copies.items (i - m.first.0) []) (page_of (frame_ram m.memory.frames) i)) off

-- what is lent to be written is that of the RAM with these bytes, whatever proves that this is RAM
module _ (m : LentRam) (i : ℕ) (w : List ℕ) (words : ℕ) (room : vec_len m.copies ≡ MOST_BUFFER_PAGES) (held : m.count ≤ vec_len m.copies) where
  abbrev as_is : Bool → LentRam
  as_is c =
      let put : LentRam = cond c (record m { copies = with_item m.copies (i - m.first.0) w }) (record m { memory = with_frame_bytes m.memory i w }) in
      record put { memory = with_event (record m.memory { frames = put.memory.frames }) (record (changed (ram_of m) i 1) { words = words }) }

  pub with_copy-there : (memory : Memory) → memory ≡ with_event m.memory (record (changed (ram_of m) i 1) { words = words }) → is_observed m i ≡ true → (place : ℕ) → place ≡ i - m.first.0
      → record { memory = memory; copies = with_item m.copies place w; first = m.first; count = m.count; room = room; held = held } ≡ written m i w words
  with_copy-there memory noted at place same =
      (λ j. record { memory = noted j; copies = with_item m.copies (same j) w; first = m.first; count = m.count; room = ℕ_set _ _ room m.room j; held = le_prop held m.held j })
      ∙ sym (ap as_is at)

  pub with_frame-there : (memory : Memory) → memory ≡ with_frame_bytes (with_event m.memory (record (changed (ram_of m) i 1) { words = words })) i w → is_observed m i ≡ false
      → record { memory = memory; copies = m.copies; first = m.first; count = m.count; room = room; held = held } ≡ written m i w words
  with_frame-there memory noted off =
      (λ j. record { memory = noted j; copies = m.copies; first = m.first; count = m.count; room = ℕ_set _ _ room m.room j; held = le_prop held m.held j })
      ∙ sym (ap as_is off)

-- the place of a page's copy says whether it is observed
pub observed-at : (m : LentRam) (p place : ℕ) → Some place ≡ (cond (is_observed m p) (Some (p - m.first.0)) None) → (is_observed m p ≡ true) × (place ≡ p - m.first.0)
observed-at m p place is = of (is_observed m p) is
  where
    of : (c : Bool) → Some place ≡ (cond c (Some (p - m.first.0)) None) → (c ≡ true) × (place ≡ p - m.first.0)
    of true same = (refl, cc)
    of false same = absurd cc

pub observed-no : (m : LentRam) (p : ℕ) → None ≡ (cond (is_observed m p) (Some (p - m.first.0)) None) → is_observed m p ≡ false
observed-no m p is = of (is_observed m p) is
  where
    of : (c : Bool) → None ≡ (cond c (Some (p - m.first.0)) None) → c ≡ false
    of true same = absurd cc
    of false same = refl

-- where no page is in a copy, RAM is what stands in memory
pub memory-seen : (m : LentRam) → (copies_of m).beneath ≡ [] → frame_ram m.memory.frames ≡ ram_of m
memory-seen m free = memory-beneath m ∙ ap (with_beneath (ram_of m) m.first.0) free

-- a page that is in no copy has what stands in memory
pub beside-copies : (m : LentRam) (p : ℕ) → (is_in_run m.first.0 (length (copies_of m).beneath) p ≡ false) → page_of (frame_ram m.memory.frames) p ≡ page_of (ram_of m) p
beside-copies m p off =
    ap (λ (r : Ram). page_of r p) (memory-beneath m)
    ∙ beneath-off (ram_of m) m.first.0 (copies_of m).beneath p (λ k few same. false≢true (sym off ∙ to-run m.first.0 _ p (omega (arith, same)) (omega (arith, same, few))))

-- where no page is in a copy, and these are the copies of frames from one on
module _ (m : LentRam) (free : (copies_of m).beneath ≡ []) (first count : ℕ) (copies : List (List ℕ)) (room : length copies ≡ vec_len m.copies) (within : first + count ≤ length (ram_of m).pages) where
  abbrev seen : List (List ℕ)
  seen = map_at (seen_by (with_items m.copies copies).items first count) (frame_ram m.memory.frames).pages

  are : (with_items m.copies copies).items ≡ copies
  are = with_items_is m.copies copies room

  inside : first + count ≤ length (frame_ram m.memory.frames).pages
  inside = let same = pages-seen m in omega (arith, within, same)

  pub copied-all : length (take count (drop first (frame_ram m.memory.frames).pages)) ≡ count
  copied-all = slice-size (frame_ram m.memory.frames).pages first count ∙ min-eq_left (omega (arith, inside))

  pub copied-size : length seen ≡ length (ram_of m).pages
  copied-size = length-map_at (seen_by (with_items m.copies copies).items first count) (frame_ram m.memory.frames).pages ∙ sym (pages-seen m)

  -- a page of these has the first bytes that its copy has of its frame
  pub copied-in : (bytes p : ℕ) → is_in_run first count p ≡ true
      → ((k : ℕ) → k < count → take (bytes - 4096 * k) (get_or copies k []) ≡ take (bytes - 4096 * k) (page_of (frame_ram m.memory.frames) (first + k)))
      → AgreeInFirst bytes first p (get_or seen p []) (page_of (frame_ram m.memory.frames) p)
  copied-in bytes p at copied =
      let (low, high) = in-run first count p at in
      ap (take (bytes - 4096 * (p - first)))
      (observed-in (frame_ram m.memory.frames).pages (with_items m.copies copies).items first count inside p at ∙ ap (λ (xs : List (List ℕ)). get_or xs (p - first) []) are)
      ∙ copied (p - first) (omega (arith, low, high))
      ∙ ap (take (bytes - 4096 * (p - first))) (frame-of (frame_ram m.memory.frames).pages copies first count inside p at)

  -- any other one is what it was
  pub copied-off : (p : ℕ) → is_in_run first count p ≡ false → get_or seen p [] ≡ page_of (ram_of m) p
  copied-off p off =
      seen-beside (frame_ram m.memory.frames).pages (with_items m.copies copies).items first count p off
      ∙ ap (λ (r : Ram). page_of r p) (memory-seen m free)

  pub copied-whole : ((k : ℕ) → k < count → length (get_or copies k []) ≡ length (page_of (frame_ram m.memory.frames) (first + k))) → (p : ℕ)
      → length (get_or seen p []) ≡ length (page_of (ram_of m) p)
  copied-whole whole p =
      observed-whole (frame_ram m.memory.frames).pages (with_items m.copies copies).items first count
      (λ k lt _. ap (λ (xs : List (List ℕ)). length (get_or xs k [])) are ∙ whole k lt) p
      ∙ ap (λ (r : Ram). length (page_of r p)) (memory-seen m free)

-- where the copies of these pages alone are let go
module _ (m : LentRam) where
  abbrev released : LentRam
  released = record m { count = 0; held = omega arith }

  pub released-seen : ram_of released ≡ frame_ram m.memory.frames
  released-seen = sym (memory-beneath released)

  pub released-beside : (first count : ℕ) → ((p : ℕ) → is_in_run m.first.0 (length (copies_of m).beneath) p ≡ true → is_in_run first count p ≡ true)
      → IsBeside (ram_of m) (ram_of released) (is_in_run first count)
  released-beside first count only = record {
    base = refl;
    size = pages-seen released ∙ sym (pages-seen m);
    pages = λ p off. ap (λ (r : Ram). page_of r p) released-seen ∙ beside-copies m p (false_from_ne_true _ (λ at. false≢true (sym off ∙ only p at)));
  }

  pub released-whole : ((k : ℕ) → k < m.count → m.first.0 + k < length (frame_ram m.memory.frames).pages → length (get_or m.copies.items k []) ≡ length (page_of (frame_ram m.memory.frames) (m.first.0 + k)))
      → (p : ℕ) → length (page_of (ram_of released) p) ≡ length (page_of (ram_of m) p)
  released-whole whole p =
      ap (λ (r : Ram). length (page_of r p)) released-seen
      ∙ sym (observed-whole (frame_ram m.memory.frames).pages m.copies.items m.first.0 m.count whole p)
