-- SPDX-License-Identifier: MIT OR Apache-2.0
-- Ranges that lie in RAM, and ceilings within the rights of pages that the grants are within.
use Rattle.std.proofs.Common.{◌≡◌, ◌∙◌, ℕ, ◌+◌, ◌*◌, ◌<◌, ◌≤◌, Bool, true, false, cond, List, [], ◌∷◌, length, Option, Some, None, refl, sym, ap, subst, inl, inr, arith, ◌==◌, ◌&&◌, ◌||◌, find, nat_le, nat_lt, not, unwrap_or}
use Rattle.std.specs.List.{list_all}
use Rattle.std.specs.Option.{option_and_then}
use Rattle.std.proofs.lemmas.Bool.{and_from, and_parts, cases_eq, false≢true, leb-true, ltb-true, or_cases}
use Rattle.ffa_model.specs.declared.rights.Data.{Data}
use Rattle.ffa_model.specs.declared.rights.Data.TheVariants.{Ro, Rw}
use Rattle.ffa_model.specs.declared.rights.Kind.{Kind}
use Rattle.ffa_model.specs.declared.rights.Kind.TheVariants.{Share, Lend, Donate}
use Rattle.ffa_model.specs.declared.rights.Rights.{Rights}
use Rattle.ffa_model.specs.declared.transaction.Range.{Range}
use Rattle.ffa_model.specs.declared.transaction.Receiver.{Receiver}
use Rattle.ffa_model.specs.Rights.{is_at_most, is_data_at_most, is_within, may_fetch, may_store}
use Rattle.ffa_model.specs.State.{State, Page, Transaction, page_at, own_right_of}
use Rattle.ffa_model.specs.Access.{covers, is_receiver, names, Ownership, ownership_of}
use Rattle.ffa_model.specs.Transactions.{are_executable, are_writable, ceiling, ceiling_in, grant_to, pages_in}
use Rattle.ffa_model.specs.MemorySend.{are_grants_within, is_grantable, is_inside}
use Rattle.ffa_model.specs.SendDescriptor.{most_receivers, range_end}
use Rattle.ffa_model.proofs.NamedPages.{listed-each}
use Rattle.ffa_laws.proofs.Changes.{page_right}
use Rattle.ffa_laws.proofs.Steadies.{two-receivers}

-- a page of ranges that lie in RAM is in RAM
abbrev has_address : ℕ → Range → Bool
has_address address r = nat_le r.address address && nat_lt address (range_end r)

in-range : (ram : Ownership) (r : Range) (p : ℕ) → is_inside ram r ≡ true → has_address (ram.base + 4096 * p) r ≡ true → p < ram.count
in-range ram r p inside covered =
    let within = leb-true (range_end r) (ram.base + 4096 * ram.count) (and_parts (nat_le ram.base r.address) _ inside).1 in
    let below = ltb-true (ram.base + 4096 * p) (range_end r) (and_parts (nat_le r.address (ram.base + 4096 * p)) _ covered).1 in
    omega (arith, within, below)

pub covered-inside : (ram : Ownership) (ranges : List Range) (p : ℕ) → list_all (is_inside ram) ranges ≡ true → covers ranges (ram.base + 4096 * p) ≡ true → p < ram.count
covered-inside ram [] p inside covered = absurd (false≢true covered)
covered-inside ram (r ∷ ranges) p inside covered =
    let (here, rest) = and_parts (is_inside ram r) (list_all (is_inside ram) ranges) inside in
    elim (or_cases (has_address (ram.base + 4096 * p) r) (covers ranges (ram.base + 4096 * p)) covered) [
      | inl at ↦ in-range ram r p here at
      | inr later ↦ covered-inside ram ranges p rest later
    ]

-- a grant is at most the right of a page that each grant is within
granted : (receivers : List Receiver) (e : ℕ) (right : Rights) → list_all (λ (r : Receiver). is_grantable r.grant (Some right)) receivers ≡ true
    → is_data_at_most (unwrap_or (option_and_then (λ (r : Receiver). r.grant) (find (λ (r : Receiver). r.endpoint.0 == e) receivers)) Ro) right.level ≡ true
granted [] e right all = refl
granted (r ∷ receivers) e right all =
    let (here, rest) = and_parts (is_grantable r.grant (Some right)) _ all in
    elim (r.endpoint.0 == e)
    as (λ b. is_data_at_most (unwrap_or (option_and_then (λ (x : Receiver). x.grant) (cond b (Some r) (find (λ (x : Receiver). x.endpoint.0 == e) receivers))) Ro) right.level ≡ true) [
      | true ↦ own r.grant here
      | false ↦ granted receivers e right rest
    ]
  where
    own : (grant : Option Data) → is_grantable grant (Some right) ≡ true → is_data_at_most (unwrap_or grant Ro) right.level ≡ true
    own None is = refl
    own (Some level) is = is

-- execution and level, where a test gives them
executed : (b c : Bool) → (b ≡ true → c ≡ true) → (not b || c) ≡ true
executed true c is = is refl
executed false c is = refl

alone-executed : (one all c : Bool) → (all ≡ true → c ≡ true) → (not (one && all) || c) ≡ true
alone-executed true all c is = executed all c is
alone-executed false all c is = refl

level-within : (b : Bool) (level : Data) → (b ≡ true → is_data_at_most Rw level ≡ true) → is_data_at_most (cond b Rw Ro) level ≡ true
level-within true level is = is refl
level-within false level is = refl

-- a ceiling is within the own right of each page that the grants are within
module _ (s : State) (t : Transaction) (p e : ℕ) (page : Page) (at : page_at s p ≡ Some page) (lt : p < length s.pages) (named : names s t.ranges p ≡ true) where
  each : (test : ℕ → Bool) → list_all test (pages_in (ownership_of s) t.ranges) ≡ true → test p ≡ true
  each test all = listed-each test (names s t.ranges) (length s.pages) (λ q. q) all p lt named

  own_right-is : own_right_of s p ≡ Some page.own_right
  own_right-is = ap page_right at

  execute : are_executable (ownership_of s) t.ranges ≡ true → page.own_right.exec ≡ true
  execute all = sym (ap may_fetch own_right-is) ∙ each (λ q. may_fetch (own_right_of s q)) all

  pub granted-ceiling : list_all (are_grants_within (ownership_of s) t.receivers) (pages_in (ownership_of s) t.ranges) ≡ true
      → is_within (Some (ceiling (ownership_of s) t e)) (page_right (page_at s p)) ≡ true
  granted-ceiling grants = ap (λ o. is_within (Some (ceiling (ownership_of s) t e)) (page_right o)) at ∙ of t.kind
    where
      grant : is_data_at_most (grant_to t e) page.own_right.level ≡ true
      grant = granted t.receivers e page.own_right (sym (ap (λ right. list_all (λ (r : Receiver). is_grantable r.grant right) t.receivers) own_right-is) ∙ each (are_grants_within (ownership_of s) t.receivers) grants)

      of : (kind : Kind) → is_at_most (ceiling_in kind (are_writable (ownership_of s) t.ranges) (are_executable (ownership_of s) t.ranges) t e) page.own_right ≡ true
      of Share = and_from _ _ grant refl
      of Lend = and_from _ _ grant (alone-executed (length t.receivers == 1) (are_executable (ownership_of s) t.ranges) page.own_right.exec execute)
      of Donate =
          and_from _ _ (level-within (are_writable (ownership_of s) t.ranges) page.own_right.level (λ all. sym (ap may_store own_right-is) ∙ each (λ q. may_store (own_right_of s q)) all))
          (executed (are_executable (ownership_of s) t.ranges) page.own_right.exec execute)

-- a donate that has at most one receiver is to one
pub one-taker : (t : Transaction) → length t.receivers ≤ most_receivers t.kind → (e f : ℕ) → t.kind ≡ Donate → is_receiver e t ≡ true → is_receiver f t ≡ true → e ≡ f
one-taker t few e f is of_e of_f = elim (cases_eq e f) [
  | inl same ↦ same
  | inr differ ↦
      let most : length t.receivers ≤ 1 = subst (λ k. length t.receivers ≤ most_receivers k) is few in
      let least = two-receivers t.receivers e f differ of_e of_f in
      absurd (omega (arith, most, least))
]
