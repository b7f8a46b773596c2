-- SPDX-License-Identifier: MIT OR Apache-2.0
-- Memory while others write to it, at any time between two steps of who writes the tables: into any page to which their walks, or
-- what their translation units hold, give them write then.
use Rattle.std.specs.Prelude.{◌≡◌, ◌⊎◌, ◌<◌, ◌^◌, ◌==◌, ℕ, Bool, true, false, List, [], ◌∷◌, length, None, Ok}
use Rattle.std.specs.List.{list_any}
use Rattle.ffa_model.specs.declared.leaf.Leaf.{Leaf}
use Rattle.ffa_model.specs.Ram.{Ram, page_of}
use Rattle.ffa_model.specs.SoundState.{are_bytes}
use Rattle.ffa_physmem.specs.Moments.{StaysPlaced, Step}
use Rattle.ffa_stage2.specs.Held.{MayHold}
use Rattle.ffa_stage2.specs.Mixtures.{page_at}
use Rattle.ffa_stage2.specs.Moments.{walk_at}
use Rattle.ffa_stage2.specs.Tables.{IsAside}

-- a RAM, and the steps that led to it, the last first
pub record Moment : Type 0 where
  pub history : List Step
  pub ram : Ram

abbrev pub before : Step → List Step → Moment
before s h = record { history = h; ram = s.before }

abbrev pub behind : Step → List Step → Moment
behind s h = record { history = s ∷ h; ram = s.after }

-- 4096 bytes
abbrev pub IsPage : List ℕ → Type 0
IsPage bytes = (length bytes ≡ 4096) × are_bytes bytes

-- whether a page is one of these
abbrev pub is_one_of : List ℕ → ℕ → Bool
is_one_of pages p = list_any (λ q. q == p) pages

-- a leaf lets write into page p of a RAM
pub record LetsWrite (ram : Ram) (p : ℕ) (leaf : Leaf) : Type 0 where
  pub write : leaf.write ≡ true
  pub page : page_at ram leaf.phys ≡ p

-- others may write into page p: what a translation unit may hold for some endpoint at some address lets them
pub record MayWrite (endpoints tables blocks p : ℕ) (now : Moment) : Type 0 where
  pub endpoint : ℕ
  pub one : endpoint < endpoints
  pub address : ℕ
  pub low : address < 2 ^ 32
  pub leaf : Leaf
  pub held : MayHold tables blocks endpoint (page_at now.ram address) address now.history now.ram (Ok leaf)
  pub lets : LetsWrite now.ram p leaf

-- a step of others: any bytes stand in page p behind it, and it changes nothing else
pub record IsOthers (p : ℕ) (x : Step) : Type 0 where
  pub placed : StaysPlaced x
  pub pages : (q : ℕ) → (q ≡ p → ⊥) → page_of x.after q ≡ page_of x.before q
  pub bytes : IsPage (page_of x.after p)
  pub none : x.settled ≡ None
  pub unread : x.reading ≡ None

-- A step s as it is done in memory to which others write. After it each page is as s leaves it, except those that others wrote and
-- that are still theirs (`kept`). A page may stop being theirs if memory then has what s leaves there, as after zeros. The step
-- settles, or reads at once, what s does.
pub record IsAmong (written kept : List ℕ) (s x : Step) : Type 0 where
  pub placed : StaysPlaced x
  pub fewer : (q : ℕ) → is_one_of kept q ≡ true → is_one_of written q ≡ true
  pub pages : (q : ℕ) → is_one_of kept q ≡ false → page_of x.after q ≡ page_of s.after q
  pub bytes : (q : ℕ) → is_one_of kept q ≡ true → IsPage (page_of x.after q)
  pub settled : x.settled ≡ s.settled
  pub reading : x.reading ≡ s.reading

-- Where steps have led from one moment to another while nobody else wrote, memory may stand at this moment, and these pages are
-- theirs: others have written to them. At first it is as it was. A step of theirs leads on, or a step as it is done in that memory.
-- It is a relation over the history. If pages of RAM changed by themselves, no clause of `page` would be true. If each
-- read required that its page is steady, each reader of RAM would have to prove that.
pub data Amid (endpoints tables blocks : ℕ) (begun : Moment) : Moment → Moment → List ℕ → Type 0 where
  Begun : Amid endpoints tables blocks begun begun begun []
  Own :
      (s : Step) (h : List Step) (x : Step) (memory : List Step) (written kept : List ℕ)
      → Amid endpoints tables blocks begun (before s h) (before x memory) written → IsAmong written kept s x
      → Amid endpoints tables blocks begun (behind s h) (behind x memory) kept
  Others :
      (alone : Moment) (p : ℕ) (x : Step) (memory : List Step) (written : List ℕ)
      → Amid endpoints tables blocks begun alone (before x memory) written → MayWrite endpoints tables blocks p (before x memory) → IsOthers p x
      → Amid endpoints tables blocks begun alone (behind x memory) (p ∷ written)

-- in one RAM or in the other an endpoint's walk lets write into page p
pub record CouldWrite (old new : Ram) (endpoints tables blocks p : ℕ) : Type 0 where
  pub endpoint : ℕ
  pub one : endpoint < endpoints
  pub address : ℕ
  pub low : address < 2 ^ 32
  pub leaf : Leaf
  pub walk : (walk_at old tables blocks endpoint address ≡ Ok leaf) ⊎ (walk_at new tables blocks endpoint address ≡ Ok leaf)
  pub lets : LetsWrite old p leaf

-- of pages that others wrote: each is none of a table's, and to each some endpoint could write before all steps, or can behind all
pub record AreTheirs (old new : Ram) (endpoints tables blocks : ℕ) (written : List ℕ) : Type 0 where
  pub aside : (p : ℕ) → is_one_of written p ≡ true → IsAside endpoints tables blocks p
  pub could : (p : ℕ) → is_one_of written p ≡ true → CouldWrite old new endpoints tables blocks p
