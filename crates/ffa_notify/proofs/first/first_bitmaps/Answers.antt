-- SPDX-License-Identifier: MIT OR Apache-2.0
use Rattle.std.proofs.Common.{◌≡◌, ◌∙◌, ℕ, ap, arith}
use Rattle.ffa_model.specs.First.{has_first_bitmaps}
use Rattle.ffa_notify.proofs.Boots.{bitmaps-more}
use Rattle.ffa_notify.proofs.first.first_bitmaps.Goals as goal

pub loop-endpoint-preserved : goal.loop-endpoint-preserved
loop-endpoint-preserved c =
    let i = c.loop-endpoint.invariant in
    let at : c.len-place.result ≡ c.loop-endpoint.endpoint-index = c.len-place.ensures.value ∙ i.count in
    record {
      count = omega (arith, c.push.ensures.len, i.count);
      has =
          bitmaps-more c.as_slice-endpoint-items.result.now c.loop-endpoint.endpoint-index c.endpoint-item.result c.endpoint-item.result
          c.loop-endpoint.has.items c.push.new.self.items c.has_bitmaps.result c.loop-endpoint-test.true c.endpoint-item.is c.push.ensures.items i.has
          (c.has_bitmaps.ensures ∙ ap (λ (place : ℕ). has_first_bitmaps (place, c.endpoint-item.result)) at);
    }
