-- SPDX-License-Identifier: MIT OR Apache-2.0
-- FFA_VERSION on a machine of FF-A 1.2.
use Rattle.std.proofs.Common.{◌≡◌, ◌∙◌, ℕ, Bool, true, false, cond, List, set, refl, sym, ap, subst}
use Rattle.ffa_model.specs.declared.call.Call.TheVariants as calls
use Rattle.ffa_model.specs.declared.call.Reply.{Reply}
use Rattle.ffa_model.specs.declared.call.Reply.TheVariants.{Version}
use Rattle.ffa_model.specs.declared.endpoint.Version as versions
use Rattle.ffa_model.specs.declared.manifest.Ffa.TheVariants.{V1_1, V1_2}
use Rattle.ffa_model.specs.Calls.{replied, served}
use Rattle.ffa_model.specs.First.{first}
use Rattle.ffa_model.specs.Identifiers.{place}
use Rattle.ffa_model.specs.Setup.{ffa_version, form_of, is_served_version, version_answer, version_kept, version_reply}
use Rattle.ffa_model.specs.SoundState.{IsSoundState}
use Rattle.ffa_model.specs.State.{State, with_version}
use Rattle.ffa_laws.proofs.SoundOperations.{call-sound}
use Rattle.ffa_spmc.specs.Meaning.{IsManager, Parts, state_of}

-- what the state has of the version, is the manifest's
pub ffa-is : (x : Parts) → (state_of x).ffa ≡ x.manifest.ffa
unfolding first
ffa-is x = refl

-- on a machine of FF-A 1.1 nothing is kept
pub replied-still-so : (s : State) (word : ℕ) (reply : Reply) → s.ffa ≡ V1_1 → reply ≡ version_reply word → replied s reply ≡ served s (ffa_version s word)
replied-still-so s word reply ffa is = λ i. replied (version_kept (sym ffa i) s word) ((is ∙ ap (λ f. version_answer f s word) (sym ffa)) i)

module _ (s : State) (word : ℕ) (ffa : s.ffa ≡ V1_2) where
  kept-by : (b : Bool) → is_served_version s word ≡ b → version_kept s.ffa s word ≡ cond b (with_version s s.runner (form_of word)) s
  kept-by b is = ap (λ f. version_kept f s word) ffa ∙ ap (λ c. cond c (with_version s s.runner (form_of word)) s) is

  answer-by : (b : Bool) → is_served_version s word ≡ b → version_answer s.ffa s word ≡ cond b (Version 0x10002) (Version 0xFFFFFFFF)
  answer-by b is = ap (λ f. version_answer f s word) ffa ∙ ap (λ c. cond c (Version 0x10002) (Version 0xFFFFFFFF)) is

  pub replied-refused : (reply : Reply) → reply ≡ Version 0xFFFFFFFF → is_served_version s word ≡ false → replied s reply ≡ served s (ffa_version s word)
  replied-refused reply is fails = λ i. replied (sym (kept-by false fails) i) ((is ∙ sym (answer-by false fails)) i)

module _ (x : Parts) (word : ℕ) (ffa : (state_of x).ffa ≡ V1_2) (new : List versions.Version)
    (is : new ≡ set x.kept.versions (place x.kept.chain.runner) (form_of word)) (passes : is_served_version (state_of x) word ≡ true) where
  -- the machine with these forms
  abbrev with_forms : Parts
  with_forms = record x { kept = record x.kept { versions = new } }

  keeps : state_of with_forms ≡ version_kept (state_of x).ffa (state_of x) word
  unfolding first
  keeps = (λ i. record (state_of x) { versions = is i }) ∙ sym (kept-by (state_of x) word ffa true passes)

  pub machine-keeps : IsManager x → IsManager with_forms
  machine-keeps machine = record {
    laws = machine.laws;
    tables = machine.tables;
    layout = machine.layout;
    owners = machine.owners;
    open_transactions = machine.open_transactions;
    sound = subst IsSoundState (sym keeps) (call-sound (state_of x) machine.sound (calls.Version word));
  }

  pub replied-kept : (reply : Reply) → reply ≡ Version 0x10002 → replied (state_of with_forms) reply ≡ served (state_of x) (ffa_version (state_of x) word)
  replied-kept reply told = λ i. replied (keeps i) ((told ∙ sym (answer-by (state_of x) word ffa true passes)) i)
