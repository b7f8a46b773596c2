-- SPDX-License-Identifier: MIT OR Apache-2.0
-- The header: its test decides its facts.
use Rattle.std.proofs.Common.{◌≡◌, true}
use Rattle.std.proofs.lemmas.Bool.{and_parts, and_from, leb-true, eqb-true, le-leb, eq-eqb}
use Rattle.ffa_model.specs.DescriptorPlaces.{IsHeader, is_header, Versioned}

pub header_told : (b : Versioned) → is_header b ≡ true → IsHeader b
header_told b e =
    let p5 = and_parts _ _ e in
    let p4 = and_parts _ _ p5.0 in
    let p3 = and_parts _ _ p4.0 in
    let p2 = and_parts _ _ p3.0 in
    let p1 = and_parts _ _ p2.0 in
    record {
      whole = leb-true _ _ p1.0;
      told = eqb-true _ _ p1.1;
      aligned = eqb-true _ _ p2.1;
      behind = leb-true _ _ p3.1;
      inside = leb-true _ _ p4.1;
      reserved = p5.1;
    }

pub header_again : (b : Versioned) → IsHeader b → is_header b ≡ true
header_again b h =
    and_from _ _ (and_from _ _ (and_from _ _ (and_from _ _ (and_from _ _
    (le-leb _ _ h.whole) (eq-eqb _ _ h.told)) (eq-eqb _ _ h.aligned)) (le-leb _ _ h.behind)) (le-leb _ _ h.inside)) h.reserved
