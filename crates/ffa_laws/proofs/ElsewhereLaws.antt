-- SPDX-License-Identifier: MIT OR Apache-2.0
-- The laws of an operation of any endpoint: the runner's are those of a step, and another's access is a step where it runs.
use Rattle.std.proofs.Common.{◌≡◌, ◌≢◌, ◌∙◌, ℕ, ◌-◌, ◌/◌, ◌%◌, Bool, true, false, cond, List, [], ◌∷◌, ◌++◌, Option, Some, None, refl, sym, ap, subst, inr, ◌==◌, ◌&&◌, not, eq-eqb, eqb-true, ne_eqb, true≢false}
use Rattle.std.specs.List.{list_all}
use Rattle.byteorder.specs.Endian.{little_bytes}
use Rattle.ffa_model.specs.declared.operation.FaultKind.{FaultKind}
use Rattle.ffa_model.specs.declared.operation.Op.{Op}
use Rattle.ffa_model.specs.declared.operation.Op.TheVariants.{Call, Load, Store, Fetch}
use Rattle.ffa_model.specs.declared.operation.Outcome.TheVariants.{Data, Done}
use Rattle.ffa_model.specs.Rights.{is_within, may_store}
use Rattle.ffa_model.specs.SoundState.{IsSoundState}
use Rattle.ffa_model.specs.State.{State, owner_of, is_known}
use Rattle.ffa_model.specs.Access.{access, handle_at}
use Rattle.ffa_model.specs.Calls.{Stepped}
use Rattle.ffa_model.specs.Elsewhere.{as_run_by, step_as, step_elsewhere, with_runner}
use Rattle.ffa_model.specs.Memory.{fetch_fault, number_at, page_bytes, read_fault, size_of, store_fault, stored}
use Rattle.ffa_model.specs.Step.{step}
use Rattle.ffa_model.proofs.CallAccesses.{access-written}
use Rattle.ffa_laws.specs.Steady.{IsSteady}
use Rattle.ffa_laws.specs.View.{view}
use Rattle.ffa_laws.specs.Elsewhere.{by, events_elsewhere}
use Rattle.ffa_laws.specs.Events.{Event, Wrote, apply_all, events, where_passed, where_true}
use Rattle.ffa_laws.specs.Public.{public_part}
use Rattle.ffa_laws.specs.Isolation.{Integrity, NeverGrow, OneStep, fills_rx_page, is_send2}
use Rattle.ffa_laws.specs.OwnAccess.{AreApart, IsSameOrNone, OwnAccess, gives_access, is_call, takes_access}
use Rattle.ffa_laws.specs.Readable.{Confidential, all_readably, is_unreadable, readable, revealed}
use Rattle.ffa_laws.specs.Silence.{AreBare, AreMet, AreNews, Silence, may_be_told, may_change_public}
use Rattle.ffa_laws.specs.Writers.{OnlyWriters, is_reclaim}
use Rattle.ffa_laws.proofs.Bare.{bare-store}
use Rattle.ffa_laws.proofs.Form.{accessed-kept, viewed}
use Rattle.ffa_laws.proofs.Growth.{never_grow, step_never_grows}
use Rattle.ffa_laws.proofs.Integrities.{integrity}
use Rattle.ffa_laws.proofs.Kept.{fixed, step-fixed}
use Rattle.ffa_laws.proofs.Laws.{one_step, other-step, own-step, steady-step}
use Rattle.ffa_laws.proofs.Meets.{met-store}
use Rattle.ffa_laws.proofs.MemoryLaws.{other-fetch, other-load, other-store}
use Rattle.ffa_laws.proofs.News.{news-store, silence}
use Rattle.ffa_laws.proofs.OwnAccesses.{own_access, same-within}
use Rattle.ffa_laws.proofs.Readings.{confidential, other-reading}
use Rattle.ffa_laws.proofs.Rows.{public-step, rows}
use Rattle.ffa_laws.proofs.SoundOperations.{step-sound, store-sound}
use Rattle.ffa_laws.proofs.SoundPages.{store-aligned}
use Rattle.ffa_laws.proofs.Writers.{only-store, only_writers}

-- the runner's operation is a step, and another's isn't
pub step_as-runs : (s : State) (e : ℕ) (op : Op) → s.runner ≡ e → step_as s e op ≡ step s op
step_as-runs s e op runs = ap (λ b. cond b (step s op) (step_elsewhere s e op)) (eq-eqb s.runner e runs)

pub step_as-rests : (s : State) (e : ℕ) (op : Op) → s.runner ≢ e → step_as s e op ≡ step_elsewhere s e op
step_as-rests s e op rests = ap (λ b. cond b (step s op) (step_elsewhere s e op)) (ne_eqb s.runner e rests)

pub step_as-runner : (s : State) (op : Op) → step_as s s.runner op ≡ step s op
step_as-runner s op = step_as-runs s s.runner op refl

-- a state stays steady where another endpoint runs
pub steady-run_by : (s : State) → IsSteady s → (e : ℕ) → is_known s e ≡ true → IsSteady (as_run_by e s)
steady-run_by s steady e known =
    record {
      some = steady.some;
      few = steady.few;
      each = steady.each;
      runner = known;
      requesters = steady.requesters;
      one = steady.one;
      transactions = λ h t is. (let good = steady.transactions h t is in record { owned = good.owned; receiver = good.receiver; within = good.within; alone = good.alone; ceilings = good.ceilings; taker = good.taker });
      sends = steady.sends;
      numbers = steady.numbers;
      buffers = λ f b there is.
          let own = steady.buffers f b there is in
          record { tx = λ p its. record { owner = (own.tx p its).owner; unnamed = (own.tx p its).unnamed }; rx = λ p its. record { owner = (own.rx p its).owner; unnamed = (own.rx p its).unnamed } };
      bound = steady.bound;
    }

-- whether an endpoint is there stands in each view
known-alike : (e : ℕ) (s t : State) → view e t ≡ view e s → is_known s e ≡ true → is_known t e ≡ true
known-alike e s t same known = ap (λ (v : State). is_known v e) same ∙ known

-- what a store tells is told alike whoever runs
told-alike : (f : ℕ) (v : State) (e r : ℕ) (o : Option FaultKind) (near : Bool) (address : ℕ) (bytes : List ℕ)
    → as_run_by r (apply_all f (as_run_by e v) (where_passed o (where_true near (Wrote address bytes ∷ []))))
    ≡ apply_all f (as_run_by r v) (where_passed o (where_true near (Wrote address bytes ∷ [])))
told-alike f v e r None true address bytes = refl
told-alike f v e r None false address bytes = refl
told-alike f v e r (Some fault) near address bytes = refl

-- and is about the same in any view
met-alike : (f : ℕ) (v : State) (r : ℕ) (o : Option FaultKind) (near : Bool) (address : ℕ) (bytes : List ℕ)
    → AreMet f v (where_passed o (where_true near (Wrote address bytes ∷ []))) → AreMet f (as_run_by r v) (where_passed o (where_true near (Wrote address bytes ∷ [])))
met-alike f v r None true address bytes met = met
met-alike f v r None false address bytes met = met
met-alike f v r (Some fault) near address bytes met = met

bare-alike : (f : ℕ) (v : State) (r : ℕ) (o : Option FaultKind) (near : Bool) (address : ℕ) (bytes : List ℕ)
    → AreBare f v (where_passed o (where_true near (Wrote address bytes ∷ []))) → AreBare f (as_run_by r v) (where_passed o (where_true near (Wrote address bytes ∷ [])))
bare-alike f v r None true address bytes bare = bare
bare-alike f v r None false address bytes bare = bare
bare-alike f v r (Some fault) near address bytes bare = bare

-- what of it can be read is read alike
heard-alike : (f : ℕ) (s : State) (e : ℕ) (w : State) (o : Option FaultKind) (near : Bool) (address : ℕ) (bytes : List ℕ)
    → as_run_by s.runner (apply_all f (as_run_by e w) (all_readably f (as_run_by e s) (where_passed o (where_true near (Wrote address bytes ∷ [])))))
    ≡ apply_all f (as_run_by s.runner w) (all_readably f s (where_passed o (where_true near (Wrote address bytes ∷ []))))
heard-alike f s e w None true address bytes = of (not (is_unreadable s f ((address - s.ram_base) / 4096)))
  where
    of : (b : Bool)
        → as_run_by s.runner (apply_all f (as_run_by e w) (where_true b (Wrote address bytes ∷ []) ++ []))
        ≡ apply_all f (as_run_by s.runner w) (where_true b (Wrote address bytes ∷ []) ++ [])
    of true = refl
    of false = refl
heard-alike f s e w None false address bytes = refl
heard-alike f s e w (Some fault) near address bytes = refl

-- AN ENDPOINT THAT DOESN'T RUN
module _ (s : State) (e : ℕ) where
  abbrev there : State
  there = as_run_by e s

  -- nobody's access changes
  pub access-elsewhere : (op : Op) (f p : ℕ) → access (step_elsewhere s e op).state f p ≡ access s f p
  access-elsewhere (Call x) f p = refl
  access-elsewhere (Load address size) f p = accessed-kept (λ t. access t f p ≡ access s f p) there there (Data (number_at there address (size_of size))) (read_fault there address (size_of size)) refl (λ none. refl)
  access-elsewhere (Store address size value) f p =
      accessed-kept (λ t. access t f p ≡ access s f p) there (stored there address (little_bytes (size_of size) value)) Done (store_fault there address (size_of size)) refl
      (λ none. access-written s ((address - s.ram_base) / 4096) (address % 4096) (little_bytes (size_of size) value) f p)
  access-elsewhere (Fetch address) f p = accessed-kept (λ t. access t f p ≡ access s f p) there there (Data (number_at there address 4)) (fetch_fault there address) refl (λ none. refl)

  -- an aligned store leaves a sound state
  pub sound-elsewhere : IsSoundState s → (op : Op) → IsSoundState (step_elsewhere s e op).state
  sound-elsewhere sound (Call x) = sound
  sound-elsewhere sound (Load address size) = accessed-kept (λ t. IsSoundState (as_run_by s.runner t)) there there (Data (number_at there address (size_of size))) (read_fault there address (size_of size)) sound (λ none. sound)
  sound-elsewhere sound (Store address size value) =
      accessed-kept (λ t. IsSoundState (as_run_by s.runner t)) there (stored there address (little_bytes (size_of size) value)) Done (store_fault there address (size_of size)) sound
      (λ none. store-sound s sound address size value (store-aligned there address (size_of size) none))
  sound-elsewhere sound (Fetch address) = accessed-kept (λ t. IsSoundState (as_run_by s.runner t)) there there (Data (number_at there address 4)) (fetch_fault there address) sound (λ none. sound)

  -- what others are told
  others-elsewhere : (op : Op) (f : ℕ) → view f (step_elsewhere s e op).state ≡ apply_all f (view f s) (events_elsewhere f s e op)
  others-elsewhere (Call x) f = refl
  others-elsewhere (Load address size) f = ap (as_run_by s.runner) (other-load f there address size)
  others-elsewhere (Store address size value) f =
      ap (as_run_by s.runner) (other-store f there address size value)
      ∙ told-alike f (view f s) e s.runner (store_fault there address (size_of size)) _ address (little_bytes (size_of size) value)
  others-elsewhere (Fetch address) f = ap (as_run_by s.runner) (other-fetch f there address)

  rows-elsewhere : (op : Op) (f : ℕ) → list_all (may_be_told op) (events_elsewhere f s e op) ≡ true
  rows-elsewhere (Store address size value) f = rows f there (Store address size value)
  rows-elsewhere _ f = refl

  news-elsewhere : (op : Op) (f : ℕ) → AreNews f (view f s) (events_elsewhere f s e op)
  news-elsewhere (Store address size value) f = news-store f (view f s) there address (size_of size) (little_bytes (size_of size) value)
  news-elsewhere _ f = tt

  met-elsewhere : (op : Op) (f : ℕ) → AreMet f (view f s) (events_elsewhere f s e op)
  met-elsewhere (Store address size value) f =
      met-alike f (view f there) s.runner (store_fault there address (size_of size)) _ address (little_bytes (size_of size) value)
      (met-store f there address (size_of size) (little_bytes (size_of size) value))
  met-elsewhere _ f = tt

  bare-elsewhere : (op : Op) (f : ℕ) → AreBare f (view f s) (events_elsewhere f s e op)
  bare-elsewhere (Store address size value) f =
      bare-alike f (view f there) s.runner (store_fault there address (size_of size)) _ address (little_bytes (size_of size) value) (bare-store f there address size value)
  bare-elsewhere _ f = tt

  -- the public part and the endpoints stay
  public-elsewhere : (op : Op) → public_part (step_elsewhere s e op).state ≡ public_part s
  public-elsewhere (Call x) = refl
  public-elsewhere (Load address size) = accessed-kept (λ t. public_part (as_run_by s.runner t) ≡ public_part s) there there (Data (number_at there address (size_of size))) (read_fault there address (size_of size)) refl (λ none. refl)
  public-elsewhere (Store address size value) =
      accessed-kept (λ t. public_part (as_run_by s.runner t) ≡ public_part s) there (stored there address (little_bytes (size_of size) value)) Done (store_fault there address (size_of size)) refl (λ none. refl)
  public-elsewhere (Fetch address) = accessed-kept (λ t. public_part (as_run_by s.runner t) ≡ public_part s) there there (Data (number_at there address 4)) (fetch_fault there address) refl (λ none. refl)

  fixed-elsewhere : (op : Op) → fixed (step_elsewhere s e op).state ≡ fixed s
  fixed-elsewhere (Call x) = refl
  fixed-elsewhere (Load address size) = step-fixed there (Load address size)
  fixed-elsewhere (Store address size value) = step-fixed there (Store address size value)
  fixed-elsewhere (Fetch address) = step-fixed there (Fetch address)

  writes-elsewhere : (op : Op) (p : ℕ) → may_store (access s e p) ≡ false → page_bytes (step_elsewhere s e op).state p ≡ page_bytes s p
  writes-elsewhere (Call x) p no_right = refl
  writes-elsewhere (Load address size) p no_right = accessed-kept (λ t. page_bytes t p ≡ page_bytes s p) there there (Data (number_at there address (size_of size))) (read_fault there address (size_of size)) refl (λ none. refl)
  writes-elsewhere (Store address size value) p no_right = only-store there p no_right address size value
  writes-elsewhere (Fetch address) p no_right = accessed-kept (λ t. page_bytes t p ≡ page_bytes s p) there there (Data (number_at there address 4)) (fetch_fault there address) refl (λ none. refl)

  module _ (steady : IsSteady s) (known : is_known s e ≡ true) where
    run_by : IsSteady there
    run_by = steady-run_by s steady e known

    steady-elsewhere : (op : Op) → IsSteady (step_elsewhere s e op).state
    steady-elsewhere (Call x) = steady
    steady-elsewhere (Load address size) = accessed-kept (λ t. IsSteady (as_run_by s.runner t)) there there (Data (number_at there address (size_of size))) (read_fault there address (size_of size)) steady (λ none. steady)
    steady-elsewhere (Store address size value) =
        accessed-kept (λ t. IsSteady t → is_known t s.runner ≡ true → IsSteady (as_run_by s.runner t)) there (stored there address (little_bytes (size_of size) value)) Done (store_fault there address (size_of size))
        (λ its runs. steady) (λ none its runs. steady-run_by _ its s.runner runs)
        (steady-step there run_by (Store address size value))
        (accessed-kept (λ t. is_known t s.runner ≡ true) there (stored there address (little_bytes (size_of size) value)) Done (store_fault there address (size_of size)) steady.runner (λ none. steady.runner))
    steady-elsewhere (Fetch address) = accessed-kept (λ t. IsSteady (as_run_by s.runner t)) there there (Data (number_at there address 4)) (fetch_fault there address) steady (λ none. steady)

    grown-there : (op : Op) → NeverGrow s (as_run_by s.runner (step there op).state)
    grown-there op =
        let its = step_never_grows there op run_by in
        record { own_right = its.own_right; within = its.within; manager = its.manager; alone = its.alone }

    grows-elsewhere : (op : Op) → NeverGrow s (step_elsewhere s e op).state
    grows-elsewhere (Call x) = never_grow s [] steady
    grows-elsewhere (Load address size) = grown-there (Load address size)
    grows-elsewhere (Store address size value) = grown-there (Store address size value)
    grows-elsewhere (Fetch address) = grown-there (Fetch address)

    -- a page that its owner has alone is another's
    alone-elsewhere : (op : Op) (f p : ℕ) → owner_of s p ≡ f → handle_at s p ≡ None → e ≢ f → page_bytes (step_elsewhere s e op).state p ≡ page_bytes s p
    alone-elsewhere (Call x) f p owned unnamed differ = refl
    alone-elsewhere (Load address size) f p owned unnamed differ = integrity there (Load address size) run_by f p owned unnamed differ refl
    alone-elsewhere (Store address size value) f p owned unnamed differ = integrity there (Store address size value) run_by f p owned unnamed differ refl
    alone-elsewhere (Fetch address) f p owned unnamed differ = integrity there (Fetch address) run_by f p owned unnamed differ refl

    -- what others can read
    heard-elsewhere : (op : Op) (f : ℕ) → is_known s f ≡ true → e ≢ f
        → readable f (step_elsewhere s e op).state ≡ apply_all f (readable f s) (all_readably f s (events_elsewhere f s e op))
    heard-elsewhere (Call x) f its differ = refl
    heard-elsewhere (Load address size) f its differ = ap (as_run_by s.runner) (other-reading f there run_by its differ (Load address size))
    heard-elsewhere (Store address size value) f its differ =
        ap (as_run_by s.runner) (other-reading f there run_by its differ (Store address size value))
        ∙ heard-alike f s e (readable f s) (store_fault there address (size_of size)) _ address (little_bytes (size_of size) value)
    heard-elsewhere (Fetch address) f its differ = ap (as_run_by s.runner) (other-reading f there run_by its differ (Fetch address))

    -- its own operation, on its view alone
    seen-elsewhere : (op : Op) → step_elsewhere (view e s) e op ≡ viewed e (step_elsewhere s e op)
    seen-elsewhere (Call x) = refl
    seen-elsewhere (Load address size) = ap (with_runner s.runner) (own-step there run_by (Load address size))
    seen-elsewhere (Store address size value) = ap (with_runner s.runner) (own-step there run_by (Store address size value))
    seen-elsewhere (Fetch address) = ap (with_runner s.runner) (own-step there run_by (Fetch address))

    -- from another state in which e can read the same
    module _ (apart : AreApart s) (t : State) (steady_t : IsSteady t) (same : readable e t ≡ readable e s) where
      abbrev read_there : State
      read_there = as_run_by e t

      run_by_read : IsSteady read_there
      run_by_read = steady-run_by t steady_t e (ap (λ (v : State). is_known v e) same ∙ known)

      alike_read : readable e read_there ≡ readable e there
      alike_read = ap (as_run_by e) same

      read_outcome-elsewhere : (op : Op) → (step_elsewhere t e op).outcome ≡ (step_elsewhere s e op).outcome
      read_outcome-elsewhere (Call x) = refl
      read_outcome-elsewhere (Load address size) = (confidential there (Load address size) run_by apart).outcome read_there run_by_read alike_read
      read_outcome-elsewhere (Store address size value) = (confidential there (Store address size value) run_by apart).outcome read_there run_by_read alike_read
      read_outcome-elsewhere (Fetch address) = (confidential there (Fetch address) run_by apart).outcome read_there run_by_read alike_read

      abbrev Shows : Op → Type 0
      Shows op = revealed e t (step_elsewhere t e op).state ≡ revealed e s (step_elsewhere s e op).state

      read-elsewhere : (op : Op) → Shows op → readable e (step_elsewhere t e op).state ≡ readable e (step_elsewhere s e op).state
      read-elsewhere (Call x) shows = same
      read-elsewhere (Load address size) shows = λ i. as_run_by (same i).runner ((confidential there (Load address size) run_by apart).own read_there run_by_read alike_read shows i)
      read-elsewhere (Store address size value) shows = λ i. as_run_by (same i).runner ((confidential there (Store address size value) run_by apart).own read_there run_by_read alike_read shows i)
      read-elsewhere (Fetch address) shows = λ i. as_run_by (same i).runner ((confidential there (Fetch address) run_by apart).own read_there run_by_read alike_read shows i)

      quiet-elsewhere : (op : Op) → readable e (step_elsewhere t e op).state ≡ readable e (step_elsewhere s e op).state
      quiet-elsewhere (Call x) = same
      quiet-elsewhere (Load address size) = λ i. as_run_by (same i).runner ((confidential there (Load address size) run_by apart).quiet read_there run_by_read alike_read refl i)
      quiet-elsewhere (Store address size value) = λ i. as_run_by (same i).runner ((confidential there (Store address size value) run_by apart).quiet read_there run_by_read alike_read refl i)
      quiet-elsewhere (Fetch address) = λ i. as_run_by (same i).runner ((confidential there (Fetch address) run_by apart).quiet read_there run_by_read alike_read refl i)

    -- from another state that e views alike
    module _ (t : State) (steady_t : IsSteady t) (same : view e t ≡ view e s) where
      abbrev other_there : State
      other_there = as_run_by e t

      run_by_t : IsSteady other_there
      run_by_t = steady-run_by t steady_t e (known-alike e s t same known)

      alike : view e other_there ≡ view e there
      alike = ap (as_run_by e) same

      outcome-elsewhere : (op : Op) → (step_elsewhere t e op).outcome ≡ (step_elsewhere s e op).outcome
      outcome-elsewhere (Call x) = refl
      outcome-elsewhere (Load address size) = (one_step there (Load address size) run_by).outcome other_there run_by_t alike
      outcome-elsewhere (Store address size value) = (one_step there (Store address size value) run_by).outcome other_there run_by_t alike
      outcome-elsewhere (Fetch address) = (one_step there (Fetch address) run_by).outcome other_there run_by_t alike

      own-elsewhere : (op : Op) → view e (step_elsewhere t e op).state ≡ view e (step_elsewhere s e op).state
      own-elsewhere (Call x) = same
      own-elsewhere (Load address size) = λ i. as_run_by (same i).runner ((one_step there (Load address size) run_by).own other_there run_by_t alike i)
      own-elsewhere (Store address size value) = λ i. as_run_by (same i).runner ((one_step there (Store address size value) run_by).own other_there run_by_t alike i)
      own-elsewhere (Fetch address) = λ i. as_run_by (same i).runner ((one_step there (Fetch address) run_by).own other_there run_by_t alike i)

-- ANY ENDPOINT
abbrev stepped : State → ℕ → Op → Bool → Stepped
stepped s e op runs = cond runs (step s op) (step_elsewhere s e op)

abbrev told : State → ℕ → Op → ℕ → Bool → List Event
told s e op f runs = cond runs (events f s op) (events_elsewhere f s e op)

-- by whether e runs
by_runner : (s : State) (e : ℕ) (P : Bool → Type 0) → (s.runner ≡ e → P true) → (s.runner ≢ e → P false) → P (s.runner == e)
by_runner s e P runs rests = elim (s.runner == e) as (λ b. (s.runner == e) ≡ b → P b) [
  | true ↦ λ is. runs (eqb-true s.runner e is)
  | false ↦ λ is. rests (λ same. true≢false (sym (eq-eqb s.runner e same) ∙ is))
] refl

pub one_step_as : (s : State) (e : ℕ) (op : Op) → IsSteady s → is_known s e ≡ true → OneStep (by e op) s
one_step_as s e op steady known =
    record {
      others = λ f there differ.
          by_runner s e (λ b. view f (stepped s e op b).state ≡ apply_all f (view f s) (cond b (events f s op) (events_elsewhere f s e op)))
          (λ runs. other-step f s steady there (λ same. differ (sym runs ∙ same)) op)
          (λ rests. others-elsewhere s e op f);
      outcome = λ t steady_t same.
          ap (λ (v : State). (stepped t e op (v.runner == e)).outcome) same
          ∙ by_runner s e (λ b. (stepped t e op b).outcome ≡ (stepped s e op b).outcome)
          (λ runs. (one_step s op steady).outcome t steady_t (subst (λ f. view f t ≡ view f s) (sym runs) same))
          (λ rests. outcome-elsewhere s e steady known t steady_t same op);
      own = λ t steady_t same.
          ap (λ (v : State). view e (stepped t e op (v.runner == e)).state) same
          ∙ by_runner s e (λ b. view e (stepped t e op b).state ≡ view e (stepped s e op b).state)
          (λ runs. subst (λ f. view f (step t op).state ≡ view f (step s op).state) runs ((one_step s op steady).own t steady_t (subst (λ f. view f t ≡ view f s) (sym runs) same)))
          (λ rests. own-elsewhere s e steady known t steady_t same op);
    }

pub steady-step_as : (s : State) (e : ℕ) (op : Op) → IsSteady s → is_known s e ≡ true → IsSteady (step_as s e op).state
steady-step_as s e op steady known =
    by_runner s e (λ b. IsSteady (stepped s e op b).state) (λ runs. steady-step s steady op) (λ rests. steady-elsewhere s e steady known op)

pub sound-step_as : (s : State) (e : ℕ) (op : Op) → IsSoundState s → IsSoundState (step_as s e op).state
sound-step_as s e op sound = by_runner s e (λ b. IsSoundState (stepped s e op b).state) (λ runs. step-sound s sound op) (λ rests. sound-elsewhere s e sound op)

pub never_grows_as : (s : State) (e : ℕ) (op : Op) → IsSteady s → is_known s e ≡ true → NeverGrow s (step_as s e op).state
never_grows_as s e op steady known =
    by_runner s e (λ b. NeverGrow s (stepped s e op b).state) (λ runs. step_never_grows s op steady) (λ rests. grows-elsewhere s e steady known op)

pub integrity_as : (s : State) (e : ℕ) (op : Op) → IsSteady s → is_known s e ≡ true → Integrity (by e op) s
integrity_as s e op steady known f p owned unnamed differ =
    by_runner s e (λ b. ((b && is_call is_send2 op) && fills_rx_page (as_run_by e s) f p) ≡ false → page_bytes (stepped s e op b).state p ≡ page_bytes s p)
    (λ runs none. integrity s op steady f p owned unnamed (λ same. differ (sym runs ∙ same))
    (subst (λ g. (is_call is_send2 op && fills_rx_page (as_run_by g s) f p) ≡ false) (sym runs) none))
    (λ rests none. alone-elsewhere s e steady known op f p owned unnamed differ)

pub own_access_as : (s : State) (e : ℕ) (op : Op) → IsSteady s → AreApart s → OwnAccess (by e op) s
own_access_as s e op steady apart =
    record {
      others = λ f p differ.
          by_runner s e (λ b. access (stepped s e op b).state f p ≡ access s f p)
          (λ runs. (own_access s op steady apart).others f p (λ same. differ (sym runs ∙ same)))
          (λ rests. access-elsewhere s e op f p);
      grows = λ p.
          by_runner s e (λ b. (b && is_call gives_access op) ≡ false → is_within (access (stepped s e op b).state e p) (access s e p) ≡ true)
          (λ runs none. subst (λ f. is_within (access (step s op).state f p) (access s f p) ≡ true) runs ((own_access s op steady apart).grows p none))
          (λ rests none. same-within _ _ (access-elsewhere s e op e p));
      shrinks = λ p.
          by_runner s e (λ b. (b && is_call takes_access op) ≡ false → is_within (access s e p) (access (stepped s e op b).state e p) ≡ true)
          (λ runs none. subst (λ f. is_within (access s f p) (access (step s op).state f p) ≡ true) runs ((own_access s op steady apart).shrinks p none))
          (λ rests none. same-within _ _ (sym (access-elsewhere s e op e p)));
      keeps = λ p.
          by_runner s e (λ b. IsSameOrNone (access s e p) (access (stepped s e op b).state e p))
          (λ runs. subst (λ f. IsSameOrNone (access s f p) (access (step s op).state f p)) runs ((own_access s op steady apart).keeps p))
          (λ rests. inr (inr (access-elsewhere s e op e p)));
    }

pub only_writers_as : (s : State) (e : ℕ) (op : Op) → IsSoundState s → OnlyWriters (by e op) s
only_writers_as s e op sound p no_right =
    by_runner s e
    (λ b. ((b && is_call is_reclaim op) && may_store (access (stepped s e op b).state e p)) ≡ false → ((f : ℕ) → ((b && is_call is_send2 op) && fills_rx_page (as_run_by e s) f p) ≡ false)
    → page_bytes (stepped s e op b).state p ≡ page_bytes s p)
    (λ runs none unfilled. only_writers s op sound p (subst (λ f. may_store (access s f p) ≡ false) (sym runs) no_right)
    (subst (λ f. (is_call is_reclaim op && may_store (access (step s op).state f p)) ≡ false) (sym runs) none)
    (λ f. subst (λ g. (is_call is_send2 op && fills_rx_page (as_run_by g s) f p) ≡ false) (sym runs) (unfilled f)))
    (λ rests one other. writes-elsewhere s e op p no_right)

pub silence_as : (s : State) (e : ℕ) (op : Op) → IsSteady s → Silence op (by e op) s
silence_as s e op steady =
    let heard = (silence s op steady).heard in
    record {
      rows = λ f. by_runner s e (λ b. list_all (may_be_told op) (told s e op f b) ≡ true) (λ runs. rows f s op) (λ rests. rows-elsewhere s e op f);
      public =
          by_runner s e (λ b. (b && is_call may_change_public op) ≡ false → public_part (stepped s e op b).state ≡ public_part s)
          (λ runs. public-step s op) (λ rests none. public-elsewhere s e op);
      heard = record {
        news = λ f its differ.
            by_runner s e (λ b. AreNews f (view f s) (told s e op f b)) (λ runs. heard.news f its (λ same. differ (sym runs ∙ same))) (λ rests. news-elsewhere s e op f);
        meets = λ sound f its differ.
            by_runner s e (λ b. AreMet f (view f s) (told s e op f b)) (λ runs. heard.meets sound f its (λ same. differ (sym runs ∙ same))) (λ rests. met-elsewhere s e op f);
        bare = λ f its differ.
            by_runner s e (λ b. AreBare f (view f s) (told s e op f b)) (λ runs. heard.bare f its (λ same. differ (sym runs ∙ same))) (λ rests. bare-elsewhere s e op f);
      };
    }

pub confidential_as : (s : State) (e : ℕ) (op : Op) → IsSteady s → is_known s e ≡ true → AreApart s → Confidential (by e op) s
confidential_as s e op steady known apart =
    record {
      outcome = λ t steady_t same.
          ap (λ (v : State). (stepped t e op (v.runner == e)).outcome) same
          ∙ by_runner s e (λ b. (stepped t e op b).outcome ≡ (stepped s e op b).outcome)
          (λ runs. subst (λ f. readable f t ≡ readable f s → (step t op).outcome ≡ (step s op).outcome) runs ((confidential s op steady apart).outcome t steady_t) same)
          (λ rests. read_outcome-elsewhere s e steady known apart t steady_t same op);
      own = λ t steady_t same.
          subst (λ r. revealed e t (stepped t e op (r == e)).state ≡ revealed e s (step_as s e op).state → readable e (stepped t e op (r == e)).state ≡ readable e (step_as s e op).state) (ap (λ (v : State). v.runner) (sym same))
          (by_runner s e (λ b. revealed e t (stepped t e op b).state ≡ revealed e s (stepped s e op b).state → readable e (stepped t e op b).state ≡ readable e (stepped s e op b).state)
          (λ runs. subst (λ f. readable f t ≡ readable f s → revealed f t (step t op).state ≡ revealed f s (step s op).state → readable f (step t op).state ≡ readable f (step s op).state) runs ((confidential s op steady apart).own t steady_t) same)
          (λ rests. read-elsewhere s e steady known apart t steady_t same op));
      quiet = λ t steady_t same none.
          ap (λ (v : State). readable e (stepped t e op (v.runner == e)).state) same
          ∙ by_runner s e (λ b. (b && is_call gives_access op) ≡ false → readable e (stepped t e op b).state ≡ readable e (stepped s e op b).state)
          (λ runs none. subst (λ f. readable f t ≡ readable f s → readable f (step t op).state ≡ readable f (step s op).state) runs (λ alike. (confidential s op steady apart).quiet t steady_t alike none) same)
          (λ rests none. quiet-elsewhere s e steady known apart t steady_t same op) none;
      others = λ f its differ.
          by_runner s e (λ b. readable f (stepped s e op b).state ≡ apply_all f (readable f s) (all_readably f s (cond b (events f s op) (events_elsewhere f s e op))))
          (λ runs. (confidential s op steady apart).others f its (λ same. differ (sym runs ∙ same)))
          (λ rests. heard-elsewhere s e steady known op f its differ);
    }

-- for runs: an endpoint's own operation is done on its view alone, and the endpoints stay
pub own-step_as : (s : State) (e : ℕ) (op : Op) → IsSteady s → is_known s e ≡ true → step_as (view e s) e op ≡ viewed e (step_as s e op)
own-step_as s e op steady known =
    by_runner s e (λ b. stepped (view e s) e op b ≡ viewed e (stepped s e op b))
    (λ runs. subst (λ f. step (view f s) op ≡ viewed f (step s op)) runs (own-step s steady op))
    (λ rests. seen-elsewhere s e steady known op)

pub fixed-step_as : (s : State) (e : ℕ) (op : Op) → fixed (step_as s e op).state ≡ fixed s
fixed-step_as s e op = by_runner s e (λ b. fixed (stepped s e op b).state ≡ fixed s) (λ runs. step-fixed s op) (λ rests. fixed-elsewhere s e op)
