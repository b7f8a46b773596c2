-- SPDX-License-Identifier: MIT OR Apache-2.0
-- Rights never grow.
use Rattle.std.proofs.Common.{◌≡◌, ◌≢◌, ◌∙◌, ℕ, ◌-◌, ◌/◌, ◌%◌, Bool, true, false, cond, List, [], ◌∷◌, get_or, Option, Some, None, is_some, refl, sym, ap, subst, ◌==◌, ◌&&◌, ◌||◌, length, nat_le}
use Rattle.byteorder.specs.Endian.{little_bytes}
use Rattle.std.proofs.lemmas.Bool.{and_parts, eqb-true, false≢true, true≢false}
use Rattle.ffa_model.specs.declared.rights.Kind.TheVariants.{Share, Lend, Donate}
use Rattle.ffa_model.specs.declared.rights.Rights.{Rights}
use Rattle.ffa_model.specs.declared.operation.Op.{Op}
use Rattle.ffa_model.specs.declared.call.Call as calls
use Rattle.ffa_model.specs.declared.call.Call.TheVariants.{MemDonate, MemLend, MemShare, MemRetrieve, MemRelinquish, MemReclaim}
use Rattle.ffa_model.specs.Bits.{is_set}
use Rattle.ffa_model.specs.Buffers.{filled, filled_pages}
use Rattle.ffa_model.specs.MemoryRetrieve.{receiver_retrieve}
use Rattle.ffa_model.specs.Calls.{first_failure}
use Rattle.ffa_model.specs.Memory.{size_of}
use Rattle.ffa_model.specs.MemoryReturn.{named_ranges, relinquish_read}
use Rattle.ffa_model.specs.MemorySend.{send_read}
use Rattle.ffa_model.specs.Messages.{header_in, message_in, tx_bytes}
use Rattle.ffa_model.specs.Registers.{decode}
use Rattle.ffa_model.specs.Rights.{is_lend, is_share, is_within}
use Rattle.ffa_model.specs.State.{State, Page, Transaction, buffers_of, page_at, transaction_of}
use Rattle.ffa_model.specs.Access.{access, held_by, right_by, right_of, transaction_at}
use Rattle.ffa_model.specs.Step.{serve, service, state_after, step}
use Rattle.ffa_model.specs.declared.call.Transfer.{Transfer}
use Rattle.ffa_laws.specs.Steady.{IsSteady, is_joint}
use Rattle.ffa_laws.specs.Isolation.{NeverGrow, is_joint_at}
use Rattle.ffa_laws.proofs.Views.{found}
use Rattle.ffa_laws.proofs.ReadBacks.{retrieve-kept}
use Rattle.ffa_laws.proofs.Taken.{Taken, right-before, before, manager-before, response, state-taken, taken}
use Rattle.ffa_laws.proofs.Within.{within-same, within-through}
use Rattle.ffa_laws.proofs.Changes.{AreRewritten, same_own_right, standing, page_right, unwritten}
use Rattle.ffa_laws.proofs.Closed.{rewritten-zeroed_if}
use Rattle.ffa_laws.proofs.ReturnLaws.{rewritten-relinquished}
use Rattle.ffa_laws.proofs.SendLaws.{rewritten-sent}
use Rattle.ffa_laws.proofs.Written.{rewritten-filled, rewritten-written}
use Rattle.ffa_laws.specs.OwnAccess.{is_memory_call}
use Rattle.ffa_laws.proofs.Kept.{kept-call, kept-step}
use Rattle.ffa_laws.proofs.Laws.{steady-call, steady-step}

-- ---- in any steady state
-- a right that is the owner's under a test, or nothing
within-test : (b : Bool) (r : Rights) → is_within (cond b (Some r) None) (Some r) ≡ true
within-test true r = within-same (Some r)
within-test false r = refl

test-holds : (b : Bool) (r : Rights) → is_some (cond b (Some r) None) ≡ true → b ≡ true
test-holds true r some = refl
test-holds false r some = absurd (false≢true some)

module _ (s : State) (steady : IsSteady s) where
  pub access-within : (e p : ℕ) → is_within (access s e p) (page_right (page_at s p)) ≡ true
  access-within e p = go (page_at s p) refl (transaction_at s p) refl
    where
      go : (page : Option Page) → page_at s p ≡ page → (o : Option Transaction) → transaction_at s p ≡ o → is_within (right_of e page o) (page_right page) ≡ true
      go None at o open_at = refl
      go (Some page) at None open_at = within-test (page.owner == e) page.own_right
      go (Some page) at (Some u) open_at = held (held_by u e) refl
        where
          held : (h : Option Rights) → held_by u e ≡ h → is_within (right_by e page u h) (Some page.own_right) ≡ true
          held None is = within-test (is_share u.kind && u.sender == e) page.own_right
          held (Some right) is =
              let (h, open_h, named) = found s p u open_at in
              sym (ap (λ q. is_within (Some right) (page_right q)) at) ∙ (steady.transactions h u open_h).within p e right named is

  access-alone : (e f p : ℕ) → e ≢ f → is_some (access s e p) ≡ true → is_some (access s f p) ≡ true → is_joint_at (transaction_at s p) ≡ true
  access-alone e f p differ one other = go (page_at s p) (transaction_at s p) refl one other
    where
      go : (page : Option Page) (o : Option Transaction) → transaction_at s p ≡ o → is_some (right_of e page o) ≡ true → is_some (right_of f page o) ≡ true → is_joint_at o ≡ true
      go None o open_at one other = absurd (false≢true one)
      go (Some page) None open_at one other =
          absurd (differ (sym (eqb-true page.owner e (test-holds (page.owner == e) page.own_right one)) ∙ eqb-true page.owner f (test-holds (page.owner == f) page.own_right other)))
      go (Some page) (Some u) open_at one other = held (held_by u e) refl (held_by u f) refl one other
        where
          by_share : (g : ℕ) → is_some (cond (is_share u.kind && u.sender == g) (Some page.own_right) None) ≡ true → is_joint u ≡ true
          by_share g some =
              let (share, sender) = and_parts (is_share u.kind) (u.sender == g) (test-holds (is_share u.kind && u.sender == g) page.own_right some) in
              ap (λ b. b || (is_lend u.kind && nat_le 2 (length u.receivers))) share

          held : (h : Option Rights) → held_by u e ≡ h → (k : Option Rights) → held_by u f ≡ k → is_some (right_by e page u h) ≡ true → is_some (right_by f page u k) ≡ true → is_joint u ≡ true
          held None is k of_f one other = by_share e one
          held (Some right) is None of_f one other = by_share f other
          held (Some right) is (Some right_f) of_f one other =
              let (h, open_h, named) = found s p u open_at in
              (steady.transactions h u open_h).alone e f right right_f differ is of_f

-- ---- over a call and over a run
-- no page has a wider own right than before, and the manager's pages stay
record KeepsRights (old new : List (Option Page)) : Type 0 where
  pub own_rights : (p : ℕ) → is_within (page_right (get_or new p None)) (page_right (get_or old p None)) ≡ true
  pub manager : (p : ℕ) → get_or old p None ≡ None → get_or new p None ≡ None

stands-nowhere : (x : Option Page) → standing x ≡ None → x ≡ None
stands-nowhere None is = refl
stands-nowhere (Some page) is = absurd (true≢false (ap is_some is))

rewritten-rights : (old new : List (Option Page)) → AreRewritten old new → KeepsRights old new
rewritten-rights old new rewritten =
    record {
      own_rights = λ p. ap (λ r. is_within r (page_right (get_or old p None))) (same_own_right _ (get_or old p None) (rewritten.same p)) ∙ within-same (page_right (get_or old p None));
      manager = λ p none. stands-nowhere _ (rewritten.same p ∙ ap standing none);
    }

same-rights : (s : State) → KeepsRights s.pages s.pages
same-rights s = rewritten-rights s.pages s.pages (unwritten s.pages)

grown-from : (s t u : State) → KeepsRights s.pages t.pages → NeverGrow t u → NeverGrow s u
grown-from s t u keeps later =
    record {
      own_right = λ p. within-through (page_right (page_at u p)) (page_right (page_at t p)) (page_right (page_at s p)) (later.own_right p) (keeps.own_rights p);
      within = later.within;
      manager = λ p none. later.manager p (keeps.manager p none);
      alone = later.alone;
    }

not_grown : (s : State) → IsSteady s → NeverGrow s s
not_grown s steady =
    record { own_right = λ p. within-same (page_right (page_at s p)); within = access-within s steady; manager = λ p none. none; alone = access-alone s steady }

module _ (s : State) (steady : IsSteady s) where
  -- what a donate gives is within what its sender had
  received-rights : (x : Transfer) → first_failure (receiver_retrieve s x).guards ≡ None → KeepsRights s.pages (receiver_retrieve s x).state.pages
  received-rights x none = subst (λ t. KeepsRights s.pages t.pages) (sym (state-taken s x its)) keeps
    where
      its : Taken s x
      its = taken s x none

      filling : AreRewritten (before s x its).pages (filled (before s x its) s.runner (response s x its)).pages
      filling = rewritten-filled (before s x its).pages (response s x its) (buffers_of s s.runner)

      keeps : KeepsRights s.pages (filled (before s x its) s.runner (response s x its)).pages
      keeps =
          record {
            own_rights = λ p. ap (λ r. is_within r (page_right (page_at s p))) (same_own_right _ (page_at (before s x its) p) (filling.same p)) ∙ right-before s x its steady p;
            manager = λ p none. stands-nowhere _ (filling.same p ∙ ap standing (manager-before s x its steady p none));
          }

  by-info : (bytes : List ℕ) → KeepsRights s.pages (filled_pages s.pages bytes (buffers_of s s.runner))
  by-info bytes = rewritten-rights s.pages _ (rewritten-filled s.pages bytes (buffers_of s s.runner))

  -- the calls on memory transactions
  memory-rights : (call : calls.Call) → is_memory_call call ≡ true → first_failure (service s call).guards ≡ None → KeepsRights s.pages (service s call).state.pages
  memory-rights (MemDonate x) memory none = rewritten-rights s.pages _ (rewritten-sent s Donate (send_read s Donate x.total))
  memory-rights (MemLend x) memory none = rewritten-rights s.pages _ (rewritten-sent s Lend (send_read s Lend x.total))
  memory-rights (MemShare x) memory none = rewritten-rights s.pages _ (rewritten-sent s Share (send_read s Share x.total))
  memory-rights (MemRetrieve x) memory none = retrieve-kept (λ t. KeepsRights s.pages t.pages) s x (received-rights x) (same-rights s) by-info none
  memory-rights MemRelinquish memory none = rewritten-rights s.pages _ (rewritten-relinquished s (relinquish_read s))
  memory-rights (MemReclaim handle flags) memory none =
      rewritten-rights s.pages _ (rewritten-zeroed_if (is_set 0 flags) s (named_ranges (transaction_of s handle.0)))
  memory-rights call memory none = absurd (false≢true memory)

  sent : KeepsRights s.pages (filled_pages s.pages (message_in (tx_bytes s s.runner)) (buffers_of s (header_in (tx_bytes s s.runner)).receiver))
  sent = rewritten-rights s.pages _ (rewritten-filled s.pages (message_in (tx_bytes s s.runner)) (buffers_of s (header_in (tx_bytes s s.runner)).receiver))

  call-rights : (call : calls.Call) → KeepsRights s.pages (serve s call).state.pages
  call-rights call = kept-call (KeepsRights s.pages) s (same-rights s) by-info call (λ is none. sent) (memory-rights call)

  step-rights : (op : Op) → KeepsRights s.pages (step s op).state.pages
  step-rights op =
      kept-step (KeepsRights s.pages) s (same-rights s) by-info op
      (λ address size value none. rewritten-rights s.pages _ (rewritten-written s.pages ((address - s.ram_base) / 4096) (address % 4096) (little_bytes (size_of size) value)))
      (λ is none. sent)
      (λ x. memory-rights (decode x))

pub never_grow : (s : State) (ops : List Op) → IsSteady s → NeverGrow s (state_after s ops)
never_grow s [] steady = not_grown s steady
never_grow s (op ∷ ops) steady =
    grown-from s (step s op).state (state_after (step s op).state ops) (step-rights s steady op) (never_grow (step s op).state ops (steady-step s steady op))

pub step_never_grows : (s : State) (op : Op) → IsSteady s → NeverGrow s (step s op).state
step_never_grows s op steady =
    grown-from s (step s op).state (step s op).state (step-rights s steady op) (not_grown (step s op).state (steady-step s steady op))

pub call_never_grows : (s : State) (call : calls.Call) → IsSteady s → NeverGrow s (serve s call).state
call_never_grows s call steady =
    grown-from s (serve s call).state (serve s call).state (call-rights s steady call) (not_grown (serve s call).state (steady-call s steady call))
