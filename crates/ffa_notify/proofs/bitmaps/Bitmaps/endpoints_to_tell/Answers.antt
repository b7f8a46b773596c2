-- SPDX-License-Identifier: MIT OR Apache-2.0
use Rattle.std.proofs.Common.{◌≡◌, ◌∙◌, append-nil, suc, ◌+◌, ◌++◌, Bool, true, false, [], ◌∷◌, filter, length, map, ap, arith, sym}
use Rattle.std.specs.Prelude.{if◌then◌else◌}
use Rattle.std.proofs.lemmas.List.{map-append}
use Rattle.ffa_model.specs.declared.endpoint.EndpointId.{EndpointId}
use Rattle.ffa_model.specs.Identifiers.{identifier}
use Rattle.ffa_model.specs.Lists.{listed}
use Rattle.ffa_model.specs.Notices.{has_notice}
use Rattle.ffa_notify.proofs.Filters.{filter-more}
use Rattle.ffa_notify.proofs.bitmaps.Bitmaps.endpoints_to_tell.Goals as goal
use Rattle.ffa_notify.proofs.bitmaps.Bitmaps.endpoints_to_tell.Goals.{then-has_notice, else-has_notice}

pub loop-place-init : goal.loop-place-init
loop-place-init c =
    let none : length c.new-to_tell.result.items ≡ 0 = ap length c.new-to_tell.ensures in
    record {
      count = omega (arith, none);
      to_tell = ap (map (λ (e : EndpointId). e.0)) c.new-to_tell.ensures;
    }

pub push-requires : goal.push-requires
push-requires c = (omega arith, omega (arith, c.loop-place.invariant.count, c.loop-place-test.true, c.endpoints-place-end.ensures.few))

pub loop-place-preserved : goal.loop-place-preserved
loop-place-preserved c =
    let n = c.args.self.now in
    let test = has_notice n in
    let next : suc c.loop-place.place ≡ c.loop-place.place + 1 = omega arith in
    let more = λ (b : Bool) (is : test (identifier c.loop-place.place) ≡ b).
    ap (λ xs. xs ++ (if b then identifier c.loop-place.place ∷ [] else [])) c.loop-place.invariant.to_tell
    ∙ ap (λ b. filter test (listed c.loop-place.place identifier) ++ (if b then identifier c.loop-place.place ∷ [] else [])) (sym is)
    ∙ sym (filter-more test c.loop-place.place identifier)
    ∙ ap (λ m. filter test (listed m identifier)) next
    in
    let asked : test (identifier c.loop-place.place) ≡ c.has_notice.result = ap test (sym c.at-endpoint.ensures) ∙ sym c.has_notice.ensures in
    elim c.if-has_notice.branch [
      | then-has_notice w ↦ record {
        count =
            let long : length c.if-has_notice.to_tell.items ≡ length w.push.new.self.items = (λ t. length (w.to_tell-is t).items) in
            omega (arith, long, w.push.ensures.len, c.loop-place.invariant.count);
        to_tell =
            (λ t. map (λ (e : EndpointId). e.0) (w.to_tell-is t).items)
            ∙ ap (map (λ (e : EndpointId). e.0)) w.push.ensures.items
            ∙ map-append (λ (e : EndpointId). e.0) c.loop-place.to_tell.items (c.at-endpoint.result ∷ [])
            ∙ ap (λ e. map (λ (e : EndpointId). e.0) c.loop-place.to_tell.items ++ e ∷ []) c.at-endpoint.ensures
            ∙ more true (asked ∙ w.if-has_notice.true);
      }
      | else-has_notice w ↦ record {
        count =
            let long : length c.if-has_notice.to_tell.items ≡ length c.loop-place.to_tell.items = (λ t. length (w.to_tell-is t).items) in
            omega (arith, long, c.loop-place.invariant.count);
        to_tell =
            (λ t. map (λ (e : EndpointId). e.0) (w.to_tell-is t).items)
            ∙ sym (append-nil (map (λ (e : EndpointId). e.0) c.loop-place.to_tell.items))
            ∙ more false (asked ∙ w.if-has_notice.false);
      }
    ]

pub returns : goal.returns
returns c =
    let all : c.loop-place.place ≡ c.endpoints-place-end.result = omega (arith, c.loop-place-test.false, c.loop-place.auto.place-end) in
    c.loop-place.invariant.to_tell
    ∙ ap (λ m. filter (has_notice c.args.self.now) (listed m identifier)) (all ∙ c.endpoints-place-end.ensures.number)
