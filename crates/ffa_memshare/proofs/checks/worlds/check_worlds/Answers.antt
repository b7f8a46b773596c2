-- SPDX-License-Identifier: MIT OR Apache-2.0
use Rattle.std.proofs.Common.{◌≡◌, ◌∙◌, Bool, true, false, not, List, [], ◌∷◌, Option, Some, None, is_some, refl, sym, ap}
use Rattle.std.specs.Prelude.{◌&&◌, ◌||◌, is_none}
use Rattle.std.proofs.Math.Bool.{and-false}
use Rattle.std.proofs.lemmas.Bool.{false≢true}
use Rattle.ffa_model.specs.declared.endpoint.Region.{Region}
use Rattle.ffa_model.specs.declared.refusal.Refusal.TheVariants.{WorldsMixed}
use Rattle.ffa_model.specs.Access.{Ownership}
use Rattle.ffa_model.specs.Calls.{first_refusal}
use Rattle.ffa_model.specs.MemorySend.{are_normal, are_secure, world_guards}
use Rattle.ffa_model.specs.SendDescriptor.{SendRecord, is_named}
use Rattle.ffa_rxtx.specs.Parts.{ownership_in}
use Rattle.ffa_stage2.specs.Layout.{normal_in}
use Rattle.ffa_memshare.proofs.checks.worlds.check_worlds.Goals as goal
use Rattle.ffa_memshare.proofs.checks.worlds.check_worlds.Goals.{else-worlds-2-via-then-worlds-2+else-not-names_normal_world, else-worlds-2-via-else-worlds-2}

-- neither non-secure pages alone, nor secure ones alone for partitions
mixed : (ram : Ownership) (normal : Option (List Region)) (send : SendRecord) → is_some normal ≡ true → are_normal ram normal send.ranges ≡ false
    → (are_secure ram normal send.ranges && not (is_named 0 send.receivers)) ≡ false → Some WorldsMixed ≡ first_refusal (world_guards ram normal send)
mixed ram normal send tells some_secure unsendable =
    of (is_none normal) (are_normal ram normal send.ranges) (are_secure ram normal send.ranges && not (is_named 0 send.receivers)) (told normal tells) some_secure unsendable
  where
    told : (o : Option (List Region)) → is_some o ≡ true → is_none o ≡ false
    told None is = absurd (false≢true is)
    told (Some rs) is = refl

    of : (a b c : Bool) → a ≡ false → b ≡ false → c ≡ false → Some WorldsMixed ≡ first_refusal ((a || b || c, WorldsMixed) ∷ [])
    of false false false _ _ _ = refl
    of true b c is _ _ = absurd (false≢true (sym is))
    of false true c _ is _ = absurd (false≢true (sym is))
    of false false true _ _ is = absurd (false≢true (sym is))

pub returns-clause-refusal : goal.returns-clause-refusal
returns-clause-refusal g c = λ send ranges receivers.
    let ram : Ownership = ownership_in c.args.pages.now c.args.layout.now.base.0 in
    let normal : Option (List Region) = normal_in c.args.layout.now in
    let some_secure : are_normal ram normal send.ranges ≡ false = ap (are_normal ram normal) ranges ∙ sym c.worlds_of-worlds.ensures.normal ∙ c.if-worlds.false in
    let unsendable : (are_secure ram normal send.ranges && not (is_named 0 send.receivers)) ≡ false =
    elim c.else-worlds-2.branch [
      | else-worlds-2-via-then-worlds-2+else-not-names_normal_world w ↦
          ap (λ b. are_secure ram normal send.ranges && not b) (ap (is_named 0) receivers ∙ sym w.names_normal_world.ensures ∙ w.if-not-names_normal_world.false)
          ∙ and-false (are_secure ram normal send.ranges)
      | else-worlds-2-via-else-worlds-2 w ↦
          ap (λ b. b && not (is_named 0 send.receivers)) (ap (are_secure ram normal) ranges ∙ sym c.worlds_of-worlds.ensures.secure ∙ w.if-worlds-2.false)
    ] in
    mixed ram normal send (sym c.tells_worlds.ensures ∙ c.if-not-tells_worlds.false) some_secure unsendable
