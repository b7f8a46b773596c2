-- SPDX-License-Identifier: MIT OR Apache-2.0
-- FOR PROOFS ALONE
-- Nothing here is to be believed: a type that clauses see has to have a code, and each code brings the proof that it can be
-- undone.
use Rattle.std.specs.Prelude.{ℕ, Bool, List, Option, refl}
use Rattle.std.specs.Coded.{Coded, code_by, coded×, coded_ℕ, coded_bool, coded_list, coded_option}
use Rattle.ffa_model.specs.declared.leaf.Leaf.{Leaf}
use Rattle.ffa_tlb.specs.declared.translations.Entry.{Entry}
use Rattle.ffa_tlb.specs.Slots.{Slotted}

abbrev pub coded_leaf : Coded Leaf
coded_leaf =
    code_by (ℕ × (Bool × (Bool × Bool))) (coded× coded_ℕ (coded× coded_bool (coded× coded_bool coded_bool)))
    (λ l. (l.phys, (l.read, (l.write, l.exec))))
    (λ p. record { phys = p.0; read = p.1.0; write = p.1.1.0; exec = p.1.1.1 }) (λ _. refl)

abbrev pub coded_entry : Coded Entry
coded_entry =
    code_by (ℕ × (ℕ × Leaf)) (coded× coded_ℕ (coded× coded_ℕ coded_leaf)) (λ x. (x.endpoint.0, (x.page.0, x.leaf)))
    (λ p. record { endpoint = record { 0 = p.0 }; page = record { 0 = p.1.0 }; leaf = p.1.1 }) (λ _. refl)

abbrev pub coded_entries : Coded (List Entry)
coded_entries = coded_list coded_entry

abbrev pub coded_slotted : {P : Type 0} → Coded P → Coded (Slotted P)
coded_slotted {P} coded_policy =
    code_by (List (Option Entry) × P) (coded× (coded_list (coded_option coded_entry)) coded_policy)
    (λ t. (t.slots, t.policy)) (λ p. record { slots = p.0; policy = p.1 }) (λ _. refl)
