-- SPDX-License-Identifier: MIT OR Apache-2.0
-- What registers hold, where they name a call and where they don't.
use Rattle.std.proofs.Common.{◌≡◌, ◌∙◌, arith, refl, sym, ℕ, List, Option, None, Some, find, slice_index}
use Rattle.std.specs.Prelude.{false, is_some, true}
use Rattle.std.specs.Option.{option_map, unwrap_or}
use Rattle.ffa_model.specs.declared.call.Call.{Call}
use Rattle.ffa_model.specs.declared.call.Call.TheVariants.{Unknown}
use Rattle.ffa_model.specs.Registers.{Function, functions, is_form_of, low, called, decode}
use Rattle.ffa_abi.specs.Parts.{called_in}

called-option : (x : List ℕ) (o : Option Function) → called x o ≡ unwrap_or (option_map (λ f. called x (Some f)) o) Unknown
called-option x None = refl
called-option x (Some f) = refl

decode-called : (x : List ℕ) → decode x ≡ unwrap_or (called_in functions x) Unknown
unfolding decode
decode-called x = called-option x (find (is_form_of (low (slice_index x 0))) functions)

-- an option in whose place something else stands, where it is none
unwrapped-none : {X : Type 0} (o : Option X) (x : X) → is_some o ≡ false → unwrap_or o x ≡ x
unwrapped-none = grind arith

unwrapped-some : {X : Type 0} (o : Option X) (x y : X) → is_some o ≡ true → unwrap_or o x ≡ unwrap_or o y
unwrapped-some = grind arith

pub decode-none : (x : List ℕ) → is_some (called_in functions x) ≡ false → Unknown ≡ decode x
decode-none x none = sym (decode-called x ∙ unwrapped-none (called_in functions x) Unknown none)

pub decode-some : (x : List ℕ) (c : Call) → is_some (called_in functions x) ≡ true → unwrap_or (called_in functions x) c ≡ decode x
decode-some x c some = unwrapped-some (called_in functions x) c Unknown some ∙ sym (decode-called x)
