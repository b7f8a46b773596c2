-- SPDX-License-Identifier: MIT OR Apache-2.0
-- Operations as C gives them in a list, and what a list of them leaves.
use Rattle.std.specs.Prelude.{◌≡◌, ◌==◌, List, [], ◌∷◌, Option, None, Some, if◌then◌else◌}
use Rattle.std.specs.Option.{option_map}
use Rattle.ffa_model.specs.declared.operation.Op.{Op}
use Rattle.ffa_model.specs.declared.operation.Op.TheVariants.{Call, Load, Store, Fetch}
use Rattle.ffa_c.specs.declared.operations.COperation.{COperation}
use Rattle.ffa_c.specs.declared.outcome.COutcome.{COutcome}
use Rattle.ffa_c.specs.Boarded.{Boarded}
use Rattle.ffa_c.specs.Border.{Operated, nothing_done, size_at}

-- the operation that C gives by its kind, where it gives one, and where an access has a size
abbrev pub op_given : COperation → Option Op
op_given o =
    if o.kind == 0 then Some (Call o.x)
    else if o.kind == 1 then option_map (λ size. Load o.address size) (size_at o.size)
    else if o.kind == 2 then option_map (λ size. Store o.address size o.value) (size_at o.size)
    else if o.kind == 3 then Some (Fetch o.address)
    else None

-- it was done, as an operation that C asks for by itself, or nothing was where C gives none
abbrev pub OperatedGiven : Option Op → Option Boarded → Option Boarded → COutcome → Type 0
OperatedGiven None old new told = (new ≡ old) × (told ≡ nothing_done 5)
OperatedGiven (Some op) old new told = Operated old new op told

-- operations were done one after another, each with its outcome, and nothing between them
abbrev pub HaveRun : Option Boarded → List COperation → List COutcome → Option Boarded → Type 0
HaveRun old [] [] new = new ≡ old
HaveRun old (o ∷ os) (told ∷ rest) new =
    (next : Option Boarded) × OperatedGiven (op_given o) old next told × HaveRun next os rest new
HaveRun old [] (told ∷ rest) new = ⊥
HaveRun old (o ∷ os) [] new = ⊥
