-- SPDX-License-Identifier: MIT OR Apache-2.0
-- What is known of a call by its number alone: whether it reads TX, and whether it may let a preempted partition go on.
use Rattle.std.proofs.Common.{◌≡◌, ◌∙◌, ℕ, ◌*◌, true, false, cond, List, [], ◌∷◌, Option, Some, None, refl, sym, ap, arith}
use Rattle.std.specs.Option.{option_and_then}
use Rattle.std.specs.Prelude.{find, slice_index, ◌==◌, if◌then◌else◌}
use Rattle.std.proofs.lemmas.Bool.Decides.{nat_tests}
use Rattle.ffa_model.specs.Bits.{low_half}
use Rattle.ffa_model.specs.declared.call.Call.{Call}
use Rattle.ffa_model.specs.declared.call.Call.TheVariants.{Run, Unknown}
use Rattle.ffa_model.specs.declared.function.TheConstants.{FFA_RUN}
use Rattle.ffa_model.specs.Processors.{resumed_by_call}
use Rattle.ffa_model.specs.Registers.{Function, called, decode, functions, high_endpoint, is_form_of, low}
use Rattle.ffa_model.specs.State.{State, Buffers}
use Rattle.ffa_laws.specs.Reads.{bytes_read, pages_holding}
use Rattle.ffa_spmc.specs.Among.{front_of, reads_tx}

-- so it is of the call of each function that has this number
abbrev Gives : (Call → Type 0) → ℕ → List Function → Type 0
Gives P w0 [] = Unit {0}
Gives P w0 (f ∷ fs) = ((w x : ℕ → ℕ) → is_form_of w0 f ≡ true → P (f.call w x)) × Gives P w0 fs

-- so it is of the call in registers
found : (P : Call → Type 0) (x : List ℕ) → P Unknown → (fs : List Function) → Gives P (low (slice_index x 0)) fs
    → P (called x (find (is_form_of (low (slice_index x 0))) fs))
found P x none [] each = none
found P x none (f ∷ fs) each =
    elim (is_form_of (low (slice_index x 0)) f)
    as (λ b. is_form_of (low (slice_index x 0)) f ≡ b → P (called x (cond b (Some f) (find (is_form_of (low (slice_index x 0))) fs)))) [
      | true ↦ λ form.
          each.0 (λ i. low (slice_index x i)) (λ i. if low (slice_index x 0) == f.function then low (slice_index x i) else slice_index x i) form
      | false ↦ λ other. found P x none fs each.1
    ] refl

-- a call that isn't one of those that read TX reads no byte of it
pub reads-none : (x : List ℕ) → reads_tx (low (slice_index x 0)) ≡ false → (room : ℕ) → bytes_read (decode x) room ≡ 0
unfolding decode
reads-none x off room =
    found (λ call. bytes_read call room ≡ 0) x refl functions (
      λ w x form. refl,
      (
        λ w x form. refl,
        (
          λ w x form. refl,
          (
            λ w x form. refl,
            (
              λ w x form. refl,
              (
                λ w x form. refl,
                (
                  λ w x form. refl,
                  (
                    λ w x form. refl,
                    (
                      λ w x form. refl,
                      (
                        λ w x form. refl,
                        (
                          λ w x form. refl,
                          (
                            λ w x form. refl,
                            (
                              λ w x form. grind (arith, nat_tests, form, off),
                              (
                                λ w x form. grind (arith, nat_tests, form, off),
                                (
                                  λ w x form. grind (arith, nat_tests, form, off),
                                  (
                                    λ w x form. grind (arith, nat_tests, form, off),
                                    (
                                      λ w x form. grind (arith, nat_tests, form, off),
                                      (
                                        λ w x form. refl,
                                        (
                                          λ w x form. refl,
                                          (
                                            λ w x form. refl,
                                            (
                                              λ w x form. refl,
                                              (
                                                λ w x form. refl,
                                                (
                                                  λ w x form. refl,
                                                  (
                                                    λ w x form. refl,
                                                    (λ w x form. refl, (λ w x form. grind (arith, nat_tests, form, off), (λ w x form. refl, tt))),
                                                  ),
                                                ),
                                              ),
                                            ),
                                          ),
                                        ),
                                      ),
                                    ),
                                  ),
                                ),
                              ),
                            ),
                          ),
                        ),
                      ),
                    ),
                  ),
                ),
              ),
            ),
          ),
        ),
      ),
    )

-- and one that isn't FFA_RUN lets no preempted partition go on
pub resumes-none : (s : State) (x : List ℕ) → (low (slice_index x 0) == FFA_RUN) ≡ false → resumed_by_call s (decode x) ≡ None
unfolding decode
resumes-none s x off =
    found (λ call. resumed_by_call s call ≡ None) x refl functions (
      λ w x form. refl,
      (
        λ w x form. refl,
        (
          λ w x form. refl,
          (
            λ w x form. refl,
            (
              λ w x form. refl,
              (
                λ w x form. refl,
                (
                  λ w x form. refl,
                  (
                    λ w x form. refl,
                    (
                      λ w x form. refl,
                      (
                        λ w x form. grind (arith, nat_tests, form, off),
                        (
                          λ w x form. refl,
                          (
                            λ w x form. refl,
                            (
                              λ w x form. refl,
                              (
                                λ w x form. refl,
                                (
                                  λ w x form. refl,
                                  (
                                    λ w x form. refl,
                                    (
                                      λ w x form. refl,
                                      (
                                        λ w x form. refl,
                                        (
                                          λ w x form. refl,
                                          (
                                            λ w x form. refl,
                                            (
                                              λ w x form. refl,
                                              (
                                                λ w x form. refl,
                                                (
                                                  λ w x form. refl,
                                                  (
                                                    λ w x form. refl,
                                                    (λ w x form. refl, (λ w x form. refl, (λ w x form. refl, tt))),
                                                  ),
                                                ),
                                              ),
                                            ),
                                          ),
                                        ),
                                      ),
                                    ),
                                  ),
                                ),
                              ),
                            ),
                          ),
                        ),
                      ),
                    ),
                  ),
                ),
              ),
            ),
          ),
        ),
      ),
    )

-- FFA_RUN names an endpoint and its execution context in one word
pub resumes-named : (s : State) (x : List ℕ) → low (slice_index x 0) ≡ FFA_RUN
    → resumed_by_call s (decode x) ≡ resumed_by_call s (Run (high_endpoint (low (slice_index x 1))) (low_half (low (slice_index x 1))))
unfolding decode
resumes-named s x is = ap (λ w0. resumed_by_call s (called x (find (is_form_of w0) functions))) is

holding-none : (pages : ℕ) → pages_holding pages 0 ≡ 0
holding-none pages = grind (arith, nat_tests)

-- so no page of any TX is read
pub front-none : (o : Option Buffers) (bytes : ℕ → ℕ) → ((room : ℕ) → bytes room ≡ 0)
    → None ≡ option_and_then (λ (b : Buffers). front_of b (pages_holding b.pages (bytes (4096 * b.pages)))) o
front-none None bytes none = refl
front-none (Some b) bytes none =
    sym (ap (front_of b) (ap (pages_holding b.pages) (none (4096 * b.pages)) ∙ holding-none b.pages))
