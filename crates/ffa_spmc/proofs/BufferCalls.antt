-- SPDX-License-Identifier: MIT OR Apache-2.0
-- Calls on buffers change the state as the small machine's.
use Rattle.std.proofs.Common.{◌≡◌, ◌∙◌, ℕ, false, List, Option, Some, None, Result, ap}
use Rattle.std.specs.Prelude.{⊤, OnOk, OnErr}
use Rattle.std.specs.Result.{result_err}
use Rattle.ffa_model.specs.declared.operation.ErrorCode.{ErrorCode}
use Rattle.ffa_model.specs.Buffers.{buffers_in, buffers_with, buffers_with_rx, map_guards, new_buffers, release_guards, rx_release, rxtx_map, rxtx_unmap, unmap_guards}
use Rattle.ffa_model.specs.Calls.{first_failure, replied, served, success}
use Rattle.ffa_model.specs.First.{first}
use Rattle.ffa_model.specs.State.{State, Buffers}
use Rattle.ffa_rxtx.specs.Parts.{ownership_in}
use Rattle.ffa_spmc.specs.Meaning.{IsManager, Parts, state_of}
use Rattle.ffa_spmc.specs.Replies.{done_or_error}
use Rattle.ffa_spmc.proofs.Answered.{answered-by, done-replies, done-so, refused-so}
use Rattle.ffa_spmc.proofs.Pools.{ownership-is}

-- the code's runner is that of the run states
module _ (x : Parts) (machine : IsManager x) (e : ℕ) (at : e ≡ x.kept.chain.runner)
    (r : Result ⊤ ErrorCode) (list : List (Option Buffers)) (same : OnErr r (list ≡ x.kept.buffers)) where
  abbrev s : State
  s = state_of x

  -- the state with other buffers
  abbrev pub with_list : List (Option Buffers) → State
  with_list list = state_of (record x { kept = record x.kept { buffers = list } })

  pub released : result_err r ≡ first_failure (release_guards (buffers_in x.kept.buffers e)) → OnOk r (list ≡ buffers_with_rx x.kept.buffers e false)
      → replied (with_list list) (done_or_error r) ≡ served s (rx_release s)
  unfolding first
  released refusal emptied =
      answered-by s (with_list list) (rx_release s) r (λ done. success 0 0)
      (refusal ∙ ap (λ (f : ℕ). first_failure (release_guards (buffers_in x.kept.buffers f))) at)
      (refused-so r (λ is. ap with_list is) same)
      (done-so r (λ none is. ap with_list (is ∙ ap (λ (f : ℕ). buffers_with_rx x.kept.buffers f false) at)) emptied)
      (done-replies r)

  pub unmapped : (word : ℕ) → result_err r ≡ first_failure (unmap_guards (buffers_in x.kept.buffers e) word) → OnOk r (list ≡ buffers_with x.kept.buffers e None)
      → replied (with_list list) (done_or_error r) ≡ served s (rxtx_unmap s word)
  unfolding first
  unmapped word refusal gone =
      answered-by s (with_list list) (rxtx_unmap s word) r (λ done. success 0 0)
      (refusal ∙ ap (λ (f : ℕ). first_failure (unmap_guards (buffers_in x.kept.buffers f) word)) at)
      (refused-so r (λ is. ap with_list is) same)
      (done-so r (λ none is. ap with_list (is ∙ ap (λ (f : ℕ). buffers_with x.kept.buffers f None) at)) gone)
      (done-replies r)

  pub mapped : (tx rx pages : ℕ) → result_err r ≡ first_failure (map_guards e (buffers_in x.kept.buffers e) (ownership_in x.kept.pages x.manifest.ram_base.0) tx rx pages)
      → OnOk r (list ≡ buffers_with x.kept.buffers e (Some (new_buffers x.manifest.ram_base.0 tx rx pages)))
      → replied (with_list list) (done_or_error r) ≡ served s (rxtx_map s tx rx pages)
  unfolding first
  mapped tx rx pages refusal there =
      answered-by s (with_list list) (rxtx_map s tx rx pages) r (λ done. success 0 0)
      (refusal
      ∙ ap (λ (f : ℕ). first_failure (map_guards f (buffers_in x.kept.buffers f) (ownership_in x.kept.pages x.manifest.ram_base.0) tx rx pages)) at
      ∙ ap (λ ram. first_failure (map_guards x.kept.chain.runner (buffers_in x.kept.buffers x.kept.chain.runner) ram tx rx pages)) (ownership-is x machine))
      (refused-so r (λ is. ap with_list is) same)
      (done-so r (λ none is. ap with_list (is ∙ ap (λ (f : ℕ). buffers_with x.kept.buffers f (Some (new_buffers x.manifest.ram_base.0 tx rx pages))) at)) there)
      (done-replies r)
