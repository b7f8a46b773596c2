-- SPDX-License-Identifier: MIT OR Apache-2.0
use Rattle.std.proofs.Common.{◌≡◌, Bool, true, false, ◌∙◌, ◌&&◌}
use Rattle.ffa_model.specs.DescriptorPlaces.{in_version}
use Rattle.ffa_memdesc.proofs.RetrieveParts.{named_is}
use Rattle.ffa_memdesc.proofs.names.names_receivers.Goals as goal

both : (known all x y : Bool) → known ≡ x → all ≡ y → known ≡ true → all ≡ (x && y)
both true all true y e f is = f
both true all false y e f is = absurd cc
both false all x y e f is = absurd cc

neither : (known x y : Bool) → known ≡ x → known ≡ false → known ≡ (x && y)
neither false false y e is = e
neither false true y e is = absurd cc
neither true x y e is = absurd cc

pub returns-then-are_names_known : goal.returns-then-are_names_known
returns-then-are_names_known g c =
    let b = in_version c.args.version (g.B.Bytes.bytes c.args.bytes.now) in
    both _ _ _ _ c.are_names_known.ensures c.are_all_named.ensures c.if-are_names_known.true
    ∙ named_is b c.read_array-array.result c.read_u32-count.result c.args.receivers.now c.read_array-array.ensures c.read_u32-count.ensures c.if-count-eq1.false

pub returns-else-are_names_known : goal.returns-else-are_names_known
returns-else-are_names_known g c =
    let b = in_version c.args.version (g.B.Bytes.bytes c.args.bytes.now) in
    neither _ _ _ c.are_names_known.ensures c.if-are_names_known.false
    ∙ named_is b c.read_array-array.result c.read_u32-count.result c.args.receivers.now c.read_array-array.ensures c.read_u32-count.ensures c.if-count-eq1.false
