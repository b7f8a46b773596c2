-- SPDX-License-Identifier: MIT OR Apache-2.0
-- A write to one page of RAM, in the state that RAM means.
use Rattle.std.proofs.Common.{◌≡◌, ◌≢◌, ◌∙◌, ℕ, ◌<◌, List, [], length, set, Option, Some, None, refl, sym, ap, length-set}
use Rattle.std.specs.Option.{option_map}
use Rattle.std.proofs.lemmas.List.{get_or-set_same, get_or-set_other}
use Rattle.ffa_model.specs.Lists.{listed}
use Rattle.ffa_model.specs.Memory.{page_with, written}
use Rattle.ffa_model.specs.Ram.{Ram, page_of, with_page, with_bytes}
use Rattle.ffa_pages.specs.Entry.{Entry, entry_at}
use Rattle.ffa_model.specs.State.{Page, page_at}
use Rattle.ffa_model.proofs.Listed.{listed-but}
use Rattle.ffa_spmc.specs.Meaning.{Parts, held_page, state_of}
use Rattle.ffa_spmc.proofs.Held.{page-held}

module _ (x : Parts) (p at : ℕ) (bytes : List ℕ) (inside : p < length x.ram.pages) where
  abbrev new : Ram
  new = with_page x.ram p (with_bytes (page_of x.ram p) at bytes)

  page-here : page_of new p ≡ with_bytes (page_of x.ram p) at bytes
  page-here = get_or-set_same x.ram.pages p (with_bytes (page_of x.ram p) at bytes) [] inside

  page-there : (q : ℕ) → q ≢ p → page_of new q ≡ page_of x.ram q
  page-there q other = get_or-set_other x.ram.pages p q (with_bytes (page_of x.ram p) at bytes) [] other

  held-here : held_page new x.kept.pages p ≡ page_with at bytes (held_page x.ram x.kept.pages p)
  held-here = of (entry_at x.kept.pages p)
    where
      of : (o : Option Entry)
          → option_map (λ (e : Entry). let q : Page = record { owner = e.owner; own_right = e.own_right; bytes = page_of new p } in q) o
          ≡ page_with at bytes (option_map (λ (e : Entry). let q : Page = record { owner = e.owner; own_right = e.own_right; bytes = page_of x.ram p } in q) o)
      of None = refl
      of (Some e) = ap (λ (content : List ℕ). Some (let q : Page = record { owner = e.owner; own_right = e.own_right; bytes = content } in q)) page-here

  held-there : (q : ℕ) → q ≢ p → held_page new x.kept.pages q ≡ held_page x.ram x.kept.pages q
  held-there q other = ap (λ (content : List ℕ). option_map (λ (e : Entry). let r : Page = record { owner = e.owner; own_right = e.own_right; bytes = content } in r) (entry_at x.kept.pages q)) (page-there q other)

  pages-written : listed (length new.pages) (held_page new x.kept.pages) ≡ set (listed (length x.ram.pages) (held_page x.ram x.kept.pages)) p (page_with at bytes (page_at (state_of x) p))
  pages-written =
      ap (λ (n : ℕ). listed n (held_page new x.kept.pages)) (length-set x.ram.pages p (with_bytes (page_of x.ram p) at bytes))
      ∙ listed-but (length x.ram.pages) (held_page x.ram x.kept.pages) (held_page new x.kept.pages) p (λ q _ other. held-there q other)
      ∙ ap (set (listed (length x.ram.pages) (held_page x.ram x.kept.pages)) p) (held-here ∙ ap (page_with at bytes) (sym (page-held x p inside)))

  -- the state is written alike
  pub state-written : state_of (record x { ram = new }) ≡ written (state_of x) p at bytes
  state-written = λ i. record (state_of x) { pages = pages-written i }
