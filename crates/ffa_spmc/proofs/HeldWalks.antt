-- SPDX-License-Identifier: MIT OR Apache-2.0
-- A leaf that is held for a page of an endpoint stays the walk's answer as long as the endpoint's access to the page stays,
-- and gives the walk's answer at each address of the page.
use Rattle.std.proofs.Common.{◌≡◌, ◌∙◌, ℕ, ◌+◌, ◌-◌, ◌*◌, ◌/◌, ◌%◌, ◌^◌, ◌<◌, ◌≤◌, Bool, true, false, cond, List, length, Option, Some, None, Ok, Err, refl, sym, ap, subst, arith, inl, inr}
use Rattle.std.specs.Prelude.{◌==◌, ◌&&◌, is_some, nat_le, nat_lt}
use Rattle.std.specs.Option.{option_and_then}
use Rattle.std.proofs.lemmas.Bool.{and_parts, eqb-true, leb-true}
use Rattle.std.proofs.lemmas.Bool.Decides.{nat_tests}
use Rattle.std.proofs.lemmas.Option.{none-some, same_Some}
use Rattle.ffa_model.specs.declared.leaf.Leaf.{Leaf}
use Rattle.ffa_model.specs.declared.operation.FaultKind.{FaultKind}
use Rattle.ffa_model.specs.declared.operation.FaultKind.TheVariants.{Translation}
use Rattle.ffa_model.specs.declared.rights.Rights.{Rights}
use Rattle.ffa_model.specs.Access.{access}
use Rattle.ffa_model.specs.Agreement.{Agrees}
use Rattle.ffa_model.specs.Identifiers.{place}
use Rattle.ffa_model.specs.Memory.{access_at, page_of_address}
use Rattle.ffa_model.specs.Ram.{Ram}
use Rattle.ffa_model.specs.Rights.{may_write}
use Rattle.ffa_model.specs.SoundState.{IsSoundState}
use Rattle.ffa_model.specs.State.{State, address_of, is_known}
use Rattle.ffa_model.specs.Walk.{Answer, mapped_answer}
use Rattle.ffa_model.proofs.Places.{known-named, known-place}
use Rattle.ffa_laws.proofs.SoundSteady.{runner-known}
use Rattle.ffa_tlb.specs.declared.translations.Entry.{Entry}
use Rattle.ffa_tlb.specs.Lookups.{IsFilled, is_pair, lookup}
use Rattle.ffa_physmem.specs.Unrecorded.{no_site, unrecorded}
use Rattle.ffa_spmc.specs.Cached.{AreWalks, IsWalk, missed_page}
use Rattle.ffa_spmc.specs.Caching.{moved_back, moved_to}
use Rattle.ffa_spmc.specs.Snapshot.{Snapshot}
use Rattle.ffa_spmc.specs.Walks.{walk_of}
use Rattle.ffa_spmc.proofs.Reaches.{access-owned, owned-in, walk-is}

-- the leaf that the walk of an address has to answer where an endpoint has this right
abbrev pub leaf_at : Rights → ℕ → Leaf
leaf_at r address = record { phys = address; read = true; write = may_write r.level; exec = r.exec }

leaf_in : Leaf → Answer → Leaf
leaf_in other (Ok leaf) = leaf
leaf_in other (Err fault) = other

same_leaf : (a b : Leaf) → let x : Answer = Ok a in x ≡ Ok b → a ≡ b
unfolding leaf_in
same_leaf a b same = ap (leaf_in a) same

no_leaf : (fault : FaultKind) (leaf : Leaf) → let x : Answer = Err fault in x ≡ Ok leaf → ⊥
no_leaf fault leaf same = cc

-- where RAM begins, and where it ends
module _ (s : State) (sound : IsSoundState s) where
  aligned : s.ram_base % 4096 ≡ 0
  aligned =
      let (whole, _) = and_parts _ _ sound.sized.base in
      let large : s.ram_base % 0x200000 ≡ 0 = eqb-true _ _ whole in
      omega (arith, large)

  highest : s.ram_base + 4096 * length s.pages ≤ 2 ^ 32
  highest = sound.sized.within

  -- the first address of a page is one of the page
  pub page-first : (p : ℕ) → p < length s.pages → page_of_address s (address_of s p) ≡ Some p
  page-first p inside =
      let high : s.ram_base + 4096 * length s.pages ≤ 2 ^ 32 = highest in
      let low : s.ram_base + 4096 * p < 2 ^ 32 = omega (arith, high, inside) in
      let test : (nat_le s.ram_base (s.ram_base + 4096 * p) && nat_lt (s.ram_base + 4096 * p) (2 ^ 32)) ≡ true = grind (arith, nat_tests, low) in
      let number : (s.ram_base + 4096 * p - s.ram_base) / 4096 ≡ p = omega arith in
      ap (λ b. cond b (Some ((s.ram_base + 4096 * p - s.ram_base) / 4096)) None) test ∙ ap Some number

-- an address and its page
pub record IsIn (s : State) (address p : ℕ) : Type 0 where
  pub low : s.ram_base ≤ address
  pub number : (address - s.ram_base) / 4096 ≡ p

pub page-in : (s : State) (address p : ℕ) → page_of_address s address ≡ Some p → IsIn s address p
page-in s address p is =
    elim (nat_le s.ram_base address && nat_lt address (2 ^ 32)) as (λ b. (nat_le s.ram_base address && nat_lt address (2 ^ 32)) ≡ b → cond b (Some ((address - s.ram_base) / 4096)) None ≡ Some p → IsIn s address p) [
      | false ↦ λ _ none. absurd (none-some p none)
      | true ↦ λ test some. record { low = leb-true _ _ (and_parts _ _ test).0; number = same_Some _ p some }
    ] refl is

module _ (ram : Ram) (s : State) (agrees : Agrees ram s) (sound : IsSoundState s) (e : ℕ) (known : is_known s e ≡ true) where
  -- the walk of an endpoint's table gives its access
  pub walk-known : (address : ℕ) → walk_of ram s e address ≡ mapped_answer (access_at s e address) address
  walk-known address =
      walk-is ram s agrees (place e) (known-place (length s.parties) e sound.sized.some known) address
      ∙ ap (λ (f : ℕ). mapped_answer (access_at s f address) address) (known-named (length s.parties) e known)

  -- that to the page
  walk-in : (address p : ℕ) → page_of_address s address ≡ Some p → walk_of ram s e address ≡ mapped_answer (access s e p) address
  walk-in address p is = walk-known address ∙ ap (λ (o : Option ℕ). mapped_answer (option_and_then (access s e) o) address) is

  -- who has a leaf has a right
  right-there : (o : Option Rights) (address : ℕ) (leaf : Leaf) → mapped_answer o address ≡ Ok leaf → (r : Rights) × (o ≡ Some r) × (leaf ≡ leaf_at r address)
  unfolding mapped_answer
  right-there None address leaf is = absurd (no_leaf Translation leaf is)
  right-there (Some r) address leaf is = (r, refl, sym (same_leaf (leaf_at r address) leaf is))

  module _ (p : ℕ) (inside : p < length s.pages) (leaf : Leaf) (is : walk_of ram s e (address_of s p) ≡ Ok leaf) where
    pub right-held : (r : Rights) × (access s e p ≡ Some r) × (leaf ≡ leaf_at r (address_of s p))
    right-held = right-there (access s e p) (address_of s p) leaf (sym (walk-in (address_of s p) p (page-first s sound p inside)) ∙ is)

    -- the leaf of a page, moved to an address of the page
    pub walk-moved : (address : ℕ) → page_of_address s address ≡ Some p → walk_of ram s e address ≡ Ok (moved_to leaf address)
    unfolding mapped_answer
    walk-moved address at =
        let (r, right, same) = right-held in
        let place = page-in s address p at in
        let low : s.ram_base ≤ address = place.low in
        let number : (address - s.ram_base) / 4096 ≡ p = place.number in
        let whole : s.ram_base % 4096 ≡ 0 = aligned s sound in
        let here : address ≡ s.ram_base + 4096 * p + address % 4096 = omega (arith, low, number, whole) in
        walk-in address p at
        ∙ ap (λ (o : Option Rights). mapped_answer o address) right
        ∙ ap (λ (a : ℕ). let answer : Answer = Ok (leaf_at r a) in answer) here
        ∙ ap (λ (l : Leaf). let answer : Answer = Ok (moved_to l address) in answer) (sym same)

    -- its number has room for a place in the page
    pub room : (address : ℕ) → leaf.phys + address % 4096 < 2 ^ 64
    room address =
        let (r, right, same) = right-held in
        let phys : leaf.phys ≡ s.ram_base + 4096 * p = ap (λ (l : Leaf). l.phys) same in
        let high : s.ram_base + 4096 * length s.pages ≤ 2 ^ 32 = highest s sound in
        omega (arith, phys, high, inside)

  module _ (address p : ℕ) (at : page_of_address s address ≡ Some p) (leaf : Leaf) (is : walk_of ram s e address ≡ Ok leaf) where
    right-walked : (r : Rights) × (access s e p ≡ Some r) × (leaf ≡ leaf_at r address)
    right-walked = right-there (access s e p) address leaf (sym (walk-in address p at) ∙ is)

    -- it stands past its place in the page
    pub past : address % 4096 ≤ leaf.phys
    past =
        let (r, right, same) = right-walked in
        let phys : leaf.phys ≡ address = ap (λ (l : Leaf). l.phys) same in
        omega (arith, phys)

    -- the leaf of an address, moved back to the first one of its page
    pub walk-back : IsWalk ram s e p (moved_back leaf address)
    unfolding mapped_answer
    walk-back =
        let (r, right, same) = right-walked in
        let (page, there) = access-owned s e p r right in
        let inside : p < length s.pages = owned-in s p page there in
        let place = page-in s address p at in
        let low : s.ram_base ≤ address = place.low in
        let number : (address - s.ram_base) / 4096 ≡ p = place.number in
        let whole : s.ram_base % 4096 ≡ 0 = aligned s sound in
        let here : s.ram_base + 4096 * p ≡ address - address % 4096 = omega (arith, low, number, whole) in
        record {
          known = known;
          page = subst (λ (n : ℕ). p < n) (sym agrees.size) inside;
          walk =
              walk-in (address_of s p) p (page-first s sound p inside)
              ∙ ap (λ (o : Option Rights). mapped_answer o (address_of s p)) right
              ∙ ap (λ (a : ℕ). let answer : Answer = Ok (leaf_at r a) in answer) here
              ∙ ap (λ (l : Leaf). let answer : Answer = Ok (moved_back l address) in answer) (sym same);
        }

-- A leaf that is held stays the walk's answer in another RAM and state, where both agree and the endpoint's access to the
-- page is the same.
pub walk-stays : (ram ram' : Ram) (s t : State) → Agrees ram s → Agrees ram' t → IsSoundState s → IsSoundState t → t.ram_base ≡ s.ram_base
    → (e p : ℕ) (leaf : Leaf) → is_known t e ≡ true → access t e p ≡ access s e p → IsWalk ram s e p leaf → IsWalk ram' t e p leaf
unfolding mapped_answer
walk-stays ram ram' s t agrees agrees' sound sound' base e p leaf known same walk =
    let inside : p < length s.pages = subst (λ (n : ℕ). p < n) agrees.size walk.page in
    let (r, right, is) = right-held ram s agrees sound e walk.known p inside leaf walk.walk in
    let (page, there) = access-owned t e p r (same ∙ right) in
    let within : p < length t.pages = owned-in t p page there in
    record {
      known = known;
      page = subst (λ (n : ℕ). p < n) (sym agrees'.size) within;
      walk =
          walk-in ram' t agrees' sound' e known (address_of t p) p (page-first t sound' p within)
          ∙ ap (λ (o : Option Rights). mapped_answer o (address_of t p)) (same ∙ right)
          ∙ ap (λ (b : ℕ). let answer : Answer = Ok (leaf_at r (b + 4096 * p)) in answer) base
          ∙ ap (λ (l : Leaf). let answer : Answer = Ok l in answer) (sym is);
    }

-- what a leaf that is held gives
module _ (ram : Ram) (s : State) (agrees : Agrees ram s) (sound : IsSoundState s) (e p : ℕ) (leaf : Leaf) (walk : IsWalk ram s e p leaf) where
  inside : p < length s.pages
  inside = subst (λ (n : ℕ). p < n) agrees.size walk.page

  -- the endpoint has a right to the page
  pub held-right : (r : Rights) × (access s e p ≡ Some r) × (leaf ≡ leaf_at r (address_of s p))
  held-right = right-held ram s agrees sound e walk.known p inside leaf walk.walk

  -- its number has room for a place in the page
  pub held-room : (address : ℕ) → leaf.phys + address % 4096 < 2 ^ 64
  held-room = room ram s agrees sound e walk.known p inside leaf walk.walk

  -- moved to an address of the page it is the walk's answer there
  pub held-walk : (address : ℕ) → page_of_address s address ≡ Some p → walk_of ram s e address ≡ Ok (moved_to leaf address)
  held-walk = walk-moved ram s agrees sound e walk.known p inside leaf walk.walk

-- FILLED
-- what is held after a walk's answer was given is the walk's answer still
pub walks-filled : (ram : Ram) (s : State) (old new : List Entry) (e p : ℕ) (leaf : Leaf)
    → AreWalks (record { state = s; ram = ram; held = old; past = unrecorded no_site; told = None }) → IsFilled old new e p leaf → IsWalk ram s e p leaf → AreWalks (record { state = s; ram = ram; held = new; past = unrecorded no_site; told = None })
walks-filled ram s old new e p leaf walks filled walk f q l is = elim (filled f q) [
  | inl none ↦ absurd (none-some l (sym none ∙ is))
  | inr same ↦ at (is_pair f q e p) refl (sym same ∙ is)
]
  where
    at : (b : Bool) → is_pair f q e p ≡ b → cond b (Some leaf) (lookup old f q) ≡ Some l → IsWalk ram s f q l
    at false other held = walks f q l held
    at true pair given =
        let (endpoint, page) = and_parts (f == e) (q == p) pair in
        subst (λ (r : Leaf). IsWalk ram s f q r) (same_Some leaf l given)
        (subst (λ (r : ℕ). IsWalk ram s f r leaf) (sym (eqb-true q p page)) (subst (λ (r : ℕ). IsWalk ram s r p leaf) (sym (eqb-true f e endpoint)) walk))

-- a page for which nothing is held is that of the address
missed-in : (x : Snapshot) (address p : ℕ) → missed_page x address ≡ Some p → page_of_address x.state address ≡ Some p
missed-in x address p = of (page_of_address x.state address)
  where
    of : (o : Option ℕ) → option_and_then (λ q. cond (is_some (lookup x.held x.state.runner q)) None (Some q)) o ≡ Some p → o ≡ Some p
    of None is = is
    of (Some q) is = at (is_some (lookup x.held x.state.runner q)) is
      where
        at : (b : Bool) → cond b None (Some q) ≡ Some p → Some q ≡ Some p
        at true none = absurd (none-some p none)
        at false is = is

-- What the runner may come to hold of what a walk answered for an address: the walk answered this leaf, and nothing was held for
-- this page.
module _ (x : Snapshot) (agrees : Agrees x.ram x.state) (sound : IsSoundState x.state)
    (address p : ℕ) (leaf : Leaf) (answered : Ok leaf ≡ walk_of x.ram x.state x.state.runner address) (missed : Some p ≡ missed_page x address) where
  pub own-past : address % 4096 ≤ leaf.phys
  own-past = past x.ram x.state agrees sound x.state.runner (runner-known x.state sound) address p (missed-in x address p (sym missed)) leaf (sym answered)

  pub own-back : IsWalk x.ram x.state x.state.runner p (moved_back leaf address)
  own-back = walk-back x.ram x.state agrees sound x.state.runner (runner-known x.state sound) address p (missed-in x address p (sym missed)) leaf (sym answered)

-- AFTER A CHANGE
-- Where RAM agrees with the states before and after, whatever is held still, of an endpoint's page to which access is as
-- before, is the walk's answer still; and a walk has the answer that it had where access is as before.
module _ (ram ram' : Ram) (s t : State) (agrees : Agrees ram s) (agrees' : Agrees ram' t) (sound : IsSoundState s) (sound' : IsSoundState t) (base : t.ram_base ≡ s.ram_base)
    (known : (e : ℕ) → is_known s e ≡ true → is_known t e ≡ true) where
  pub walks-after : (old new : List Entry)
      → ((e p : ℕ) (leaf : Leaf) → lookup new e p ≡ Some leaf → (lookup old e p ≡ Some leaf) × (access t e p ≡ access s e p))
      → AreWalks (record { state = s; ram = ram; held = old; past = unrecorded no_site; told = None }) → AreWalks (record { state = t; ram = ram'; held = new; past = unrecorded no_site; told = None })
  walks-after old new stays walks e p leaf is =
      let (was, same) = stays e p leaf is in
      let walk = walks e p leaf was in
      walk-stays ram ram' s t agrees agrees' sound sound' base e p leaf (known e walk.known) same walk

  pub answer-after : ((e p : ℕ) → access t e p ≡ access s e p) → (e : ℕ) → is_known s e ≡ true → (address : ℕ) → walk_of ram s e address ≡ walk_of ram' t e address
  answer-after same e there address =
      walk-known ram s agrees sound e there address
      ∙ ap (λ (o : Option Rights). mapped_answer o address) (sym access-after)
      ∙ sym (walk-known ram' t agrees' sound' e (known e there) address)
    where
      of : (o : Option ℕ) → option_and_then (access t e) o ≡ option_and_then (access s e) o
      of None = refl
      of (Some p) = same e p

      access-after : access_at t e address ≡ access_at s e address
      access-after =
          ap (λ (b : ℕ). option_and_then (access t e) (cond (nat_le b address && nat_lt address (2 ^ 32)) (Some ((address - b) / 4096)) None)) base
          ∙ of (page_of_address s address)
