-- SPDX-License-Identifier: MIT OR Apache-2.0
use Rattle.std.proofs.Common.{◌≡◌, ◌∙◌, sym, true, false, length, rules}
use Rattle.uuid.specs.Text.{parsed}
use Rattle.ffa_model.specs.Manifest.{is_nil}
use Rattle.ffa_manifest.specs.Endpoints.{identifier}
use Rattle.ffa_manifest.proofs.Identifiers.{not_parsed, is_nil-zeros}
use Rattle.ffa_manifest.proofs.identifier.identifier.Goals as goal

pub returns-in-Err : goal.returns-in-Err
unfolding identifier
returns-in-Err c = rw (not_parsed _ (parsed c.args.text.now) _ c.in-Err.is c.parse_str.ensures.ok)

pub returns-then-is_nil : goal.returns-then-is_nil
unfolding identifier
returns-then-is_nil c =
    let sixteen : length c.in-Ok.id ≡ 16 = search rules in
    let nil : is_nil c.in-Ok.id ≡ true = sym (is_nil-zeros 16 c.in-Ok.id sixteen) ∙ sym c.is_nil.ensures.value ∙ c.if-is_nil.true in
    rw (← c.in-Ok.ensures.bytes, nil)

pub returns-else-is_nil : goal.returns-else-is_nil
unfolding identifier
returns-else-is_nil c =
    let sixteen : length c.in-Ok.id ≡ 16 = search rules in
    let some : is_nil c.in-Ok.id ≡ false = sym (is_nil-zeros 16 c.in-Ok.id sixteen) ∙ sym c.is_nil.ensures.value ∙ c.if-is_nil.false in
    rw (← c.in-Ok.ensures.bytes, some, c.into_bytes.ensures)
