-- SPDX-License-Identifier: MIT OR Apache-2.0
-- The laws of a step, by those of each call.
use Rattle.std.proofs.Common.{◌≡◌, ◌≢◌, ◌∙◌, ℕ, true, sym, ap, subst}
use Rattle.ffa_model.specs.declared.operation.Op.{Op}
use Rattle.ffa_model.specs.declared.operation.Op.TheVariants.{Call, Load, Store, Fetch}
use Rattle.ffa_model.specs.declared.call.Call as calls
use Rattle.ffa_model.specs.State.{State, is_known}
use Rattle.ffa_model.specs.Calls.{Stepped}
use Rattle.ffa_model.specs.Registers.{decode}
use Rattle.ffa_model.specs.Step.{serve, service, step}
use Rattle.ffa_laws.specs.Steady.{IsSteady}
use Rattle.ffa_laws.specs.View.{view}
use Rattle.ffa_laws.specs.Events.{apply_all, call_events, events, told_by}
use Rattle.ffa_laws.specs.Isolation.{OneStep}
use Rattle.ffa_laws.specs.Moves.{by_call, by_runner}
use Rattle.ffa_laws.proofs.Form.{served-kept, served-own, viewed}
use Rattle.ffa_laws.proofs.Told.{served-other}
use Rattle.ffa_laws.proofs.MemoryLaws.{other-fetch, other-load, other-store, own-fetch, own-load, own-store, steady-fetch, steady-load, steady-store}
use Rattle.ffa_laws.proofs.Services.{other-service, own-service, steady-service}

-- ---- one step
own-call : (s : State) → IsSteady s → (call : calls.Call) → serve (view s.runner s) call ≡ viewed s.runner (serve s call)
own-call s steady call = served-own s (service (view s.runner s) call) (service s call) (own-service s steady call)

pub own-step : (s : State) → IsSteady s → (op : Op) → step (view s.runner s) op ≡ viewed s.runner (step s op)
own-step s steady (Call x) = own-call s steady (decode x)
own-step s steady (Load addr size) = own-load s steady addr size
own-step s steady (Store addr size value) = own-store s steady addr size value
own-step s steady (Fetch addr) = own-fetch s steady addr

module _ (e : ℕ) (s : State) (steady : IsSteady s) (known : is_known s e ≡ true) (other : s.runner ≢ e) where
  pub other-call : (call : calls.Call) → view e (serve s call).state ≡ apply_all e (view e s) (call_events e s call)
  other-call call = served-other e s (service s call) (told_by e s call) (other-service e s steady known other call)

  pub other-step : (op : Op) → view e (step s op).state ≡ apply_all e (view e s) (events e s op)
  other-step (Call x) = other-call (decode x)
  other-step (Load addr size) = other-load e s addr size
  other-step (Store addr size value) = other-store e s addr size value
  other-step (Fetch addr) = other-fetch e s addr

pub steady-call : (s : State) → IsSteady s → (call : calls.Call) → IsSteady (serve s call).state
steady-call s steady call = served-kept IsSteady s (service s call) steady (steady-service s steady call)

pub steady-step : (s : State) → IsSteady s → (op : Op) → IsSteady (step s op).state
steady-step s steady (Call x) = steady-call s steady (decode x)
steady-step s steady (Load addr size) = steady-load s steady addr size
steady-step s steady (Store addr size value) = steady-store s steady addr size value
steady-step s steady (Fetch addr) = steady-fetch s steady addr

-- ---- one call and one step, as laws of two states
-- what acts on the runner's view alone acts alike on two states of one view
two_states : (act : State → Stepped) → ((u : State) → IsSteady u → act (view u.runner u) ≡ viewed u.runner (act u))
    → (s t : State) → IsSteady s → IsSteady t → view s.runner t ≡ view s.runner s → viewed s.runner (act t) ≡ viewed s.runner (act s)
two_states act own s t steady there same =
    let mine : act (view s.runner t) ≡ viewed s.runner (act t) = subst (λ e. act (view e t) ≡ viewed e (act t)) (ap (λ (v : State). v.runner) same) (own t there) in
    sym mine ∙ ap act same ∙ own s steady

pub one_call : (s : State) (call : calls.Call) → IsSteady s → OneStep (by_call call) s
one_call s call steady =
    let alike = two_states (λ u. serve u call) (λ u is. own-call u is call) s in
    record {
      others = λ e known ne. other-call e s steady known ne call;
      outcome = λ t there same. ap (λ (st : Stepped). st.outcome) (alike t steady there same);
      own = λ t there same. ap (λ (st : Stepped). st.state) (alike t steady there same);
    }

pub one_step : (s : State) (op : Op) → IsSteady s → OneStep (by_runner op) s
one_step s op steady =
    let alike = two_states (λ u. step u op) (λ u is. own-step u is op) s in
    record {
      others = λ e known ne. other-step e s steady known ne op;
      outcome = λ t there same. ap (λ (st : Stepped). st.outcome) (alike t steady there same);
      own = λ t there same. ap (λ (st : Stepped). st.state) (alike t steady there same);
    }
