-- SPDX-License-Identifier: MIT OR Apache-2.0
-- Bytes that are written into a page, into pages in a row, and into RX.
use Rattle.std.proofs.Common.{◌≡◌, ◌≢◌, ◌∙◌, ℕ, suc, zero, Bool, true, false, cond, List, [], ◌∷◌, length, get_or, set, Option, Some, None, refl, sym, ap, arith, length-set, get_or-set_other, ◌+◌, take, drop}
use Rattle.std.specs.Option.{option_map}
use Rattle.std.proofs.lemmas.List.{set-get_or, get_or_past}
use Rattle.ffa_model.proofs.Runs.{in-run, run-wider, to-run}
use Rattle.ffa_model.specs.Lists.{map_at, is_in_run}
use Rattle.ffa_model.specs.Identifiers.{place}
use Rattle.ffa_model.specs.State.{State, Page, Buffers, page_at}
use Rattle.ffa_model.specs.Memory.{page_with, written, written_pages, written_run}
use Rattle.ffa_model.specs.Buffers.{buffers_with_rx, filled_pages}
use Rattle.ffa_model.specs.RunStates.{schedule_of}
use Rattle.ffa_model.proofs.Accesses.{length-map_at}
use Rattle.ffa_laws.specs.View.{view, is_near, kept, hidden}
use Rattle.ffa_laws.specs.Events.{with_public_buffers}
use Rattle.ffa_laws.specs.Public.{public_buffers}
use Rattle.ffa_laws.proofs.Maps.{at-map_at, map_at-set}
use Rattle.ffa_laws.proofs.Views.{kept_none, view-page}
use Rattle.ffa_laws.proofs.Changes.{AreRewritten, standing, unwritten, with_parts, view-changed}

standing-with : (at : ℕ) (bytes : List ℕ) (page : Option Page) → standing (page_with at bytes page) ≡ standing page
standing-with at bytes None = refl
standing-with at bytes (Some page) = refl

standing-written : (ps : List (Option Page)) (p at : ℕ) (bytes : List ℕ) (q : ℕ) → standing (get_or (written_pages ps p at bytes) q None) ≡ standing (get_or ps q None)
standing-written [] p at bytes q = refl
standing-written (x ∷ ps) zero at bytes zero = standing-with at bytes x
standing-written (x ∷ ps) zero at bytes (suc q) = refl
standing-written (x ∷ ps) (suc p) at bytes zero = refl
standing-written (x ∷ ps) (suc p) at bytes (suc q) = standing-written ps p at bytes q

pub rewritten-written : (ps : List (Option Page)) (p at : ℕ) (bytes : List ℕ) → AreRewritten ps (written_pages ps p at bytes)
rewritten-written ps p at bytes =
    record { each = length-set ps p (page_with at bytes (get_or ps p None)); same = standing-written ps p at bytes }

kept-with : (b : Bool) (at : ℕ) (bytes : List ℕ) (page : Option Page) → kept b (page_with at bytes page) ≡ page_with at bytes (kept b page)
kept-with true at bytes page = refl
kept-with false at bytes page = refl

-- of pages of which some are kept, the written page is that page, written
near-written : (near : ℕ → Bool) (ps : List (Option Page)) (p at : ℕ) (bytes : List ℕ)
    → map_at (λ q page. kept (near q) page) (written_pages ps p at bytes) ≡ written_pages (map_at (λ q page. kept (near q) page) ps) p at bytes
near-written near ps p at bytes =
    map_at-set (λ q page. kept (near q) page) ps p (page_with at bytes (get_or ps p None))
    ∙ ap (set (map_at (λ q page. kept (near q) page) ps) p)
    (kept-with (near p) at bytes (get_or ps p None) ∙ ap (page_with at bytes) (sym (at-map_at (λ q page. kept (near q) page) ps p (λ q. kept_none (near q)))))

-- the view of the written page is that page of the view, written
pub seen-written : (e : ℕ) (s : State) (p at : ℕ) (bytes : List ℕ) → map_at (λ q page. kept (is_near e s q) page) (written_pages s.pages p at bytes) ≡ written_pages (view e s).pages p at bytes
seen-written e s p at bytes = near-written (is_near e s) s.pages p at bytes

-- no page, nothing written
pub nothing-written : (ps : List (Option Page)) (p at : ℕ) (bytes : List ℕ) → get_or ps p None ≡ None → written_pages ps p at bytes ≡ ps
nothing-written ps p at bytes none =
    ap (set ps p) (ap (page_with at bytes) none ∙ sym none) ∙ set-get_or ps p None

pub far-written : (e : ℕ) (s : State) (p at : ℕ) (bytes : List ℕ) → is_near e s p ≡ false → written_pages (view e s).pages p at bytes ≡ (view e s).pages
far-written e s p at bytes far = nothing-written (view e s).pages p at bytes (view-page e s p ∙ ap (λ b. kept b (page_at s p)) far)

pub view-written : (e : ℕ) (s : State) (p at : ℕ) (bytes : List ℕ) → view e (written s p at bytes) ≡ written (view e s) p at bytes
view-written e s p at bytes =
    view-changed e s (written_pages s.pages p at bytes) s.buffers (schedule_of s) (rewritten-written s.pages p at bytes)
    ∙ (λ i. with_parts (view e s) (seen-written e s p at bytes i) (view e s).buffers (schedule_of s))

-- a page that isn't written
pub elsewhere : (ps : List (Option Page)) (q p at : ℕ) (bytes : List ℕ) → p ≢ q → get_or (written_pages ps q at bytes) p None ≡ get_or ps p None
elsewhere ps q p at bytes differ = get_or-set_other ps q p _ None differ

-- ---- pages in a row
pub elsewhere-run : (n : ℕ) (ps : List (Option Page)) (first p : ℕ) (bytes : List ℕ) → ((q : ℕ) → is_in_run first n q ≡ true → p ≢ q) → get_or (written_run n ps first bytes) p None ≡ get_or ps p None
elsewhere-run zero ps first p bytes differ = refl
elsewhere-run (suc n) ps first p bytes differ =
    elsewhere-run n (written_pages ps first 0 (take 4096 bytes)) (first + 1) p (drop 4096 bytes) (λ q its. differ q (run-wider first n q its))
    ∙ elsewhere ps first p 0 (take 4096 bytes) (differ first (to-run first (suc n) first (omega arith) (omega arith)))

rewritten-run : (n : ℕ) (ps : List (Option Page)) (first : ℕ) (bytes : List ℕ) → AreRewritten ps (written_run n ps first bytes)
rewritten-run zero ps first bytes = unwritten ps
rewritten-run (suc n) ps first bytes =
    let one = rewritten-written ps first 0 (take 4096 bytes) in
    let rest = rewritten-run n (written_pages ps first 0 (take 4096 bytes)) (first + 1) (drop 4096 bytes) in
    record { each = rest.each ∙ one.each; same = λ q. rest.same q ∙ one.same q }

near-run : (near : ℕ → Bool) (n : ℕ) (ps : List (Option Page)) (first : ℕ) (bytes : List ℕ)
    → map_at (λ q page. kept (near q) page) (written_run n ps first bytes) ≡ written_run n (map_at (λ q page. kept (near q) page) ps) first bytes
near-run near zero ps first bytes = refl
near-run near (suc n) ps first bytes =
    near-run near n (written_pages ps first 0 (take 4096 bytes)) (first + 1) (drop 4096 bytes)
    ∙ ap (λ qs. written_run n qs (first + 1) (drop 4096 bytes)) (near-written near ps first 0 (take 4096 bytes))

-- no pages, nothing written
nothing-run : (n : ℕ) (ps : List (Option Page)) (first : ℕ) (bytes : List ℕ) → ((p : ℕ) → is_in_run first n p ≡ true → get_or ps p None ≡ None) → written_run n ps first bytes ≡ ps
nothing-run zero ps first bytes none = refl
nothing-run (suc n) ps first bytes none =
    ap (λ qs. written_run n qs (first + 1) (drop 4096 bytes)) (nothing-written ps first 0 (take 4096 bytes) (none first (to-run first (suc n) first (omega arith) (omega arith))))
    ∙ nothing-run n ps (first + 1) (drop 4096 bytes) (λ p its. none p (run-wider first n p its))

pub far-run : (e : ℕ) (s : State) (n first : ℕ) (bytes : List ℕ) → ((p : ℕ) → is_in_run first n p ≡ true → is_near e s p ≡ false)
    → written_run n (view e s).pages first bytes ≡ (view e s).pages
far-run e s n first bytes far =
    nothing-run n (view e s).pages first bytes (λ p its. view-page e s p ∙ ap (λ b. kept b (page_at s p)) (far p its))

-- ---- RX
pub rewritten-filled : (ps : List (Option Page)) (bytes : List ℕ) (o : Option Buffers) → AreRewritten ps (filled_pages ps bytes o)
rewritten-filled ps bytes None = unwritten ps
rewritten-filled ps bytes (Some b) = rewritten-run b.pages ps b.rx bytes

pub seen-filled : (e : ℕ) (s : State) (bytes : List ℕ) (o : Option Buffers) → map_at (λ q page. kept (is_near e s q) page) (filled_pages s.pages bytes o) ≡ filled_pages (view e s).pages bytes o
seen-filled e s bytes None = refl
seen-filled e s bytes (Some b) = near-run (is_near e s) b.pages s.pages b.rx bytes

-- buffers that are past RAM hold nothing
pub hidden-filled : (e : ℕ) (s : State) (bytes : List ℕ) (o : Option Buffers) → filled_pages (view e s).pages bytes (hidden (length s.pages) o) ≡ (view e s).pages
hidden-filled e s bytes None = refl
hidden-filled e s bytes (Some b) =
    let size = length-map_at (λ q page. kept (is_near e s q) page) s.pages in
    nothing-run b.pages (view e s).pages (length s.pages) bytes (λ p its.
    let (past, _) = in-run (length s.pages) b.pages p its in get_or_past (view e s).pages p None (omega (arith, size, past)))

-- whether two indexes are the same, by recursion
abbrev pub is_at : ℕ → ℕ → Bool
is_at zero zero = true
is_at (suc j) (suc i) = is_at j i
is_at _ _ = false

-- an element that is changed in its place
pub at-changed : {X : Type 0} (f : Option X → Option X) (xs : List (Option X)) (j i : ℕ) → f None ≡ None
    → get_or (set xs j (f (get_or xs j None))) i None ≡ cond (is_at j i) (f (get_or xs i None)) (get_or xs i None)
at-changed f [] j i none = elim (is_at j i) as (λ b. None ≡ cond b (f None) None) [ true ↦ sym none | false ↦ refl ]
at-changed f (x ∷ xs) zero zero none = refl
at-changed f (x ∷ xs) (suc j) (suc i) none = at-changed f xs j i none
at-changed f _ _ _ none = refl

abbrev pub with_rx_full : Bool → Option Buffers → Option Buffers
with_rx_full full o = option_map (λ (b : Buffers). record b { full = full }) o

-- RX that is full or empty leaves the pages of buffers
pub rx-own : (past : ℕ) (bs : List (Option Buffers)) (f : ℕ) (full : Bool) (i : ℕ)
    → with_public_buffers past (get_or bs i None) (public_buffers (get_or (buffers_with_rx bs f full) i None)) ≡ get_or (buffers_with_rx bs f full) i None
rx-own past bs f full i =
    ap (λ o. with_public_buffers past (get_or bs i None) (public_buffers o)) (at-changed (with_rx_full full) bs (place f) i refl)
    ∙ go (is_at (place f) i) (get_or bs i None)
    ∙ sym (at-changed (with_rx_full full) bs (place f) i refl)
  where
    go : (b : Bool) (o : Option Buffers) → with_public_buffers past o (public_buffers (cond b (with_rx_full full o) o)) ≡ cond b (with_rx_full full o) o
    go true None = refl
    go true (Some x) = refl
    go false None = refl
    go false (Some x) = refl
