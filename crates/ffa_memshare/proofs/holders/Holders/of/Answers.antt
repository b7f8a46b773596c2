-- SPDX-License-Identifier: MIT OR Apache-2.0
use Rattle.std.proofs.Common.{◌≡◌, ◌∙◌, get_or, None, sym, ap, arith, inl, inr}
use Rattle.std.proofs.lemmas.Bool.{cases_eq, eq-eqb, eqb-true, false≢true}
use Rattle.std.proofs.lemmas.List.{get_or_past}
use Rattle.std.specs.FinMap as finite
use Rattle.ffa_model.specs.Identifiers.{identifier, place}
use Rattle.ffa_memshare.proofs.HeldByPlace.{held-by, held-by_none}
use Rattle.ffa_memshare.proofs.holders.Holders.of.Goals as goal
use Rattle.ffa_memshare.proofs.holders.Holders.of.Goals.{else-eq-via-then-eq+else-place-lt-MOST_ENDPOINTS, else-eq-via-else-eq}

pub returns-then-place-lt-MOST_ENDPOINTS : goal.returns-then-place-lt-MOST_ENDPOINTS
returns-then-place-lt-MOST_ENDPOINTS c =
    let e = c.args.endpoint.0 in
    let is : e ≡ identifier (place e) = sym (eqb-true c.at.result.0 e (sym c.eq.ensures ∙ c.if-eq.true)) ∙ c.at.ensures ∙ ap identifier c.place-place.ensures in
    ap (λ k. get_or c.self.inside.rights k None) c.place-place.ensures
    ∙ sym (held-by c.self.inside.rights e is)
    ∙ ap (λ m. finite.get m e) c.self.view_is

pub returns-else-eq : goal.returns-else-eq
returns-else-eq c =
    let e = c.args.endpoint.0 in
    let held = c.self.inside.rights in
    (elim (cases_eq e (identifier (place e))) [
      | inr other ↦ sym (held-by_none held e other)
      | inl is ↦ elim c.else-eq.branch [
        | else-eq-via-then-eq+else-place-lt-MOST_ENDPOINTS w ↦ sym (held-by held e is ∙ get_or_past held (place e) None (omega (arith, w.if-place-lt-MOST_ENDPOINTS.false, c.self.invariant, c.place-place.ensures)))
        | else-eq-via-else-eq w ↦ absurd (false≢true (sym w.if-eq.false ∙ c.eq.ensures ∙ eq-eqb c.at.result.0 e (c.at.ensures ∙ ap identifier c.place-place.ensures ∙ sym is)))
      ]
    ]) ∙ ap (λ m. finite.get m e) c.self.view_is
