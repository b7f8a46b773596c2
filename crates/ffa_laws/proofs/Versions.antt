-- SPDX-License-Identifier: MIT OR Apache-2.0
-- FFA_VERSION: the form that it keeps for its caller, which nobody else sees.
use Rattle.std.proofs.Common.{◌≡◌, ◌≢◌, ◌∙◌, ℕ, true, false, cond, length, set, refl, sym, ap, length-set, get_or, get_or-set_other, inl, inr, ◌==◌, ◌&&◌, ◌||◌}
use Rattle.std.specs.Prelude.{not, is_none}
use Rattle.std.proofs.lemmas.Bool.{cases_eq, eq-eqb, ne_eqb}
use Rattle.ffa_model.specs.declared.endpoint.Version.{Version}
use Rattle.ffa_model.specs.declared.endpoint.Version.TheVariants.{V1_1}
use Rattle.ffa_model.specs.declared.manifest.Ffa.{Ffa}
use Rattle.ffa_model.specs.declared.manifest.Ffa.TheVariants as served
use Rattle.ffa_model.specs.declared.call.Reply.TheVariants as replies
use Rattle.ffa_model.specs.Bits.{bits, is_set}
use Rattle.ffa_model.specs.Identifiers.{identifier, place}
use Rattle.ffa_model.specs.Lists.{map_at}
use Rattle.ffa_model.specs.Setup.{ffa_version, form_of, is_form, is_served_version, version_answer, version_kept}
use Rattle.ffa_model.specs.State.{State, is_known, version_of, with_version}
use Rattle.ffa_model.proofs.Places.{known-named}
use Rattle.ffa_laws.specs.Events.{apply_all, public_change}
use Rattle.ffa_laws.specs.Steady.{IsSteady}
use Rattle.ffa_laws.specs.View.{view}
use Rattle.ffa_laws.proofs.BufferLaws.{own-buffers}
use Rattle.ffa_laws.proofs.Form.{IsOwn}
use Rattle.ffa_laws.proofs.Maps.{at-map_at-from, map_at-alike, map_at-set}
use Rattle.ffa_laws.proofs.Told.{other-same}

-- what holds of a state, and of it with another form of its runner, holds after the call
pub version-leaves : (P : State → Type 0) (ffa : Ffa) (s : State) (word : ℕ) → P s → ((version : Version) → P (with_version s s.runner version)) → P (version_kept ffa s word)
version-leaves P served.V1_1 s word same keeps = same
version-leaves P served.V1_2 s word same keeps =
    elim (is_served_version s word) as (λ b. P (cond b (with_version s s.runner (form_of word)) s)) [ true ↦ keeps (form_of word) | false ↦ same ]

-- ---- in a view
-- one's own form is seen, and those of others are blank
abbrev seen_version : ℕ → ℕ → Version → Version
seen_version e i version = cond (identifier i == e) version V1_1

blank-same : (e i : ℕ) → seen_version e i V1_1 ≡ V1_1
blank-same e i = elim (identifier i == e) as (λ b. cond b V1_1 V1_1 ≡ V1_1) [ true ↦ refl | false ↦ refl ]

own-form : (e : ℕ) (s : State) (version : Version) → is_known s e ≡ true → seen_version e (place e) version ≡ version
own-form e s version known = ap (λ b. cond b version V1_1) (eq-eqb (identifier (place e)) e (known-named (length s.parties) e known))

pub version-seen : (e : ℕ) (s : State) → is_known s e ≡ true → version_of (view e s) e ≡ version_of s e
version-seen e s known = at-map_at-from (seen_version e) s.versions (place e) V1_1 V1_1 (blank-same e) ∙ own-form e s (version_of s e) known

own-kept : (e : ℕ) (s : State) (version : Version) → is_known s e ≡ true → with_version (view e s) e version ≡ view e (with_version s e version)
own-kept e s version known = λ i. record (view e s) {
  versions =
      (ap (set (map_at (seen_version e) s.versions) (place e)) (sym (own-form e s version known)) ∙ sym (map_at-set (seen_version e) s.versions (place e) version)) i;
}

others-kept : (e f : ℕ) (s : State) (version : Version) → is_known s f ≡ true → f ≢ e → view e (with_version s f version) ≡ view e s
others-kept e f s version known other = λ i. record (view e s) {
  versions =
      map_at-alike (seen_version e) (seen_version e) (set s.versions (place f) version) s.versions V1_1 V1_1 (length-set s.versions (place f) version) alike i;
}
  where
    alike : (j : ℕ) → seen_version e j (get_or (set s.versions (place f) version) j V1_1) ≡ seen_version e j (get_or s.versions j V1_1)
    alike j = elim (cases_eq j (place f)) [
      | inl here ↦ (
          let away : (identifier j == e) ≡ false =
          ne_eqb (identifier j) e (λ same. other (sym (known-named (length s.parties) f known) ∙ ap identifier (sym here) ∙ same)) in
          ap (λ b. cond b (get_or (set s.versions (place f) version) j V1_1) V1_1) away ∙ sym (ap (λ b. cond b (get_or s.versions j V1_1) V1_1) away))
      | inr there ↦ ap (seen_version e j) (get_or-set_other s.versions (place f) j version V1_1 there)
    ]

-- ---- the call
module _ (s : State) (steady : IsSteady s) (word : ℕ) where
  same-served : is_served_version (view s.runner s) word ≡ is_served_version s word
  same-served = λ i.
      not (is_set 31 word) && bits 30 16 word == 1
      && (is_none (own-buffers s.runner s steady.runner i) || is_form (form_of word) (version-seen s.runner s steady.runner i))

  own-state : (ffa : Ffa) → version_kept ffa (view s.runner s) word ≡ view s.runner (version_kept ffa s word)
  own-state served.V1_1 = refl
  own-state served.V1_2 =
      ap (λ b. cond b (with_version (view s.runner s) s.runner (form_of word)) (view s.runner s)) same-served
      ∙ elim (is_served_version s word) as (λ b. cond b (with_version (view s.runner s) s.runner (form_of word)) (view s.runner s)
      ≡ view s.runner (cond b (with_version s s.runner (form_of word)) s)) [ true ↦ own-kept s.runner s (form_of word) steady.runner | false ↦ refl ]

  own-answer : (ffa : Ffa) → version_answer ffa (view s.runner s) word ≡ version_answer ffa s word
  own-answer served.V1_1 = refl
  own-answer served.V1_2 = ap (λ b. cond b (replies.Version 0x10002) (replies.Version 0xFFFFFFFF)) same-served

  pub own-version : IsOwn s (ffa_version (view s.runner s) word) (ffa_version s word)
  own-version = (refl, λ none. (own-state s.ffa, own-answer s.ffa))

  pub other-version : (e : ℕ) → s.runner ≢ e → view e (version_kept s.ffa s word) ≡ apply_all e (view e s) (public_change s (version_kept s.ffa s word))
  other-version e other =
      version-leaves (λ t. view e t ≡ apply_all e (view e s) (public_change s t)) s.ffa s word (other-same e s)
      (λ version. others-kept e s.runner s version steady.runner other ∙ other-same e s)

  pub steady-version : IsSteady (version_kept s.ffa s word)
  steady-version = version-leaves IsSteady s.ffa s word steady (λ version. record {
    some = steady.some;
    few = steady.few;
    each = steady.each;
    runner = steady.runner;
    requesters = steady.requesters;
    one = steady.one;
    transactions = λ h t is. (let its = steady.transactions h t is in record {
      owned = its.owned;
      receiver = its.receiver;
      within = its.within;
      alone = its.alone;
      ceilings = its.ceilings;
      taker = its.taker;
    });
    sends = steady.sends;
    numbers = steady.numbers;
    buffers = λ e b known is. (let its = steady.buffers e b known is in record {
      tx = λ p inside. (let one = its.tx p inside in record { owner = one.owner; unnamed = one.unnamed });
      rx = λ p inside. (let one = its.rx p inside in record { owner = one.owner; unnamed = one.unnamed });
    });
    bound = steady.bound;
  })
