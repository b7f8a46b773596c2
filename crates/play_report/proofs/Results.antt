-- SPDX-License-Identifier: MIT OR Apache-2.0
-- A clause on a result, from another.
use Rattle.std.proofs.Common.{Ok, Err, Result, IfErr}

pub on_err : {T E : Type 0} {P Q : E → Type 0} (result : Result T E) → ((e : E) → P e → Q e) → IfErr result P → IfErr result Q
on_err (Ok x) f p = tt
on_err (Err e) f p = f e p
