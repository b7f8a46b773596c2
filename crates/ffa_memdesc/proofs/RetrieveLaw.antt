-- SPDX-License-Identifier: MIT OR Apache-2.0
-- A retrieve: what is computed is what the relation says, both ways.
use Rattle.std.proofs.Common.{◌≡◌, ◌≢◌, ℕ, zero, suc, ◌-◌, ◌*◌, ◌^◌, ◌<◌, Bool, true, not, cond, Option, Some, None, refl, sym, ap, ◌∙◌, subst, arith, eqb, inl, inr}
use Rattle.std.proofs.lemmas.Bool.{and_parts, and_from, cases_Bool, eqb-true, eqb-false, eq-eqb, leb-true, le-leb, ne_eqb, not-true}
use Rattle.std.proofs.lemmas.Option.{cond_some, same_Some}
use Rattle.ffa_model.specs.declared.rights.Data.{Data}
use Rattle.ffa_model.specs.declared.rights.Data.TheVariants.{Ro, Rw}
use Rattle.ffa_model.specs.declared.manifest.Ffa.{Ffa}
use Rattle.ffa_model.specs.declared.manifest.Ffa.TheVariants.{V1_1, V1_2}
use Rattle.ffa_model.specs.declared.rights.Kind.{Kind}
use Rattle.ffa_model.specs.declared.rights.Kind.TheVariants.{Share}
use Rattle.ffa_model.specs.declared.descriptor.RetrieveDesc.{RetrieveDesc}
use Rattle.ffa_model.specs.Bits.{bits, is_set}
use Rattle.ffa_model.specs.DescriptorPlaces.{is_header, flags_field, receiver_count, access_place, data_code, data_of, kind_code, kind_of, Versioned}
use Rattle.ffa_model.specs.RetrieveDescriptor.{HasNames, IsNaming, Retrieve, asked_permissions, endpoint_named, flags_but_alone, has_names, is_naming, is_retrieve_access, is_retrieve_header, retrieve_in, retrieve_of}
use Rattle.ffa_memdesc.proofs.Decisions.{cond_true, differ, differ_again, either_told, either_again}
use Rattle.ffa_memdesc.proofs.HeaderLaw.{header_told, header_again}
use Rattle.ffa_memdesc.proofs.Listed.{holds_told, holds_again, none_told, none_again}

kind_code-kind_of : (n : ℕ) → n < 4 → kind_code (kind_of n) ≡ n
kind_code-kind_of (suc (suc (suc (suc n)))) lt = absurd (omega arith)
kind_code-kind_of _ lt = refl

kind_of-kind_code : (k : Option Kind) → kind_of (kind_code k) ≡ k
kind_of-kind_code None = refl
kind_of-kind_code (Some Share) = refl
kind_of-kind_code _ = refl

pub kind_code_few : (k : Option Kind) → kind_code k < 4
kind_code_few None = omega arith
kind_code_few (Some Share) = omega arith
kind_code_few _ = omega arith

data_code-data_of : (n : ℕ) → n < 4 → n ≢ 3 → data_code (data_of n) ≡ n
data_code-data_of (suc (suc (suc zero))) lt ne = absurd (ne refl)
data_code-data_of (suc (suc (suc (suc n)))) lt ne = absurd (omega arith)
data_code-data_of _ lt ne = refl

pub data_of-data_code : (d : Option Data) → data_of (data_code d) ≡ d
data_of-data_code None = refl
data_of-data_code (Some Ro) = refl
data_of-data_code (Some Rw) = refl

pub data_code_few : (d : Option Data) → data_code d < 3
data_code_few None = omega arith
data_code_few (Some Ro) = omega arith
data_code_few (Some Rw) = omega arith

-- WHOM THE ACCESS DESCRIPTORS NAME
naming_told : (b : Versioned) (i : ℕ) → is_naming b i ≡ true → IsNaming b (access_place b i)
naming_told b i h =
    let p3 = and_parts _ _ h in
    let p2 = and_parts _ _ p3.0 in
    let p1 = and_parts _ _ p2.0 in
    record { flags = leb-true _ _ p1.0; composite = eqb-true _ _ p1.1; reserved = p2.1 }

new_told : (b : Versioned) (i : ℕ) → is_naming b i ≡ true → (j : ℕ) → j < i → endpoint_named b j ≢ endpoint_named b i
new_told b i h j before =
    eqb-false _ _ (none_told (λ e. eqb e (endpoint_named b i)) (endpoint_named b) i (not-true _ (and_parts _ _ h).1) j before)

naming_again : (b : Versioned) (i : ℕ) → IsNaming b (access_place b i) → ((j : ℕ) → j < i → endpoint_named b j ≢ endpoint_named b i) → is_naming b i ≡ true
naming_again b i h new =
    and_from _ _ (and_from _ _ (and_from _ _ (le-leb _ _ h.flags) (eq-eqb _ _ h.composite)) h.reserved)
    (ap not (none_again (λ e. eqb e (endpoint_named b i)) (endpoint_named b) i (λ j before. ne_eqb _ _ (new j before))))

pub names_told : (ffa : Ffa) (b : Versioned) → has_names ffa b ≡ true → HasNames ffa b
unfolding has_names
names_told V1_1 b h = tt
names_told V1_2 b h =
    record {
      each = λ i lt. naming_told b i (holds_told (is_naming b) (receiver_count b) h i lt);
      distinct = λ i j before lt. new_told b i (holds_told (is_naming b) (receiver_count b) h i lt) j before;
    }

pub names_again : (ffa : Ffa) (b : Versioned) → HasNames ffa b → has_names ffa b ≡ true
unfolding has_names
names_again V1_1 b h = refl
names_again V1_2 b h = holds_again (is_naming b) (receiver_count b) (λ i lt. naming_again b i (h.each i lt) (λ j before. h.distinct i j before lt))

-- THE FLAGS, which have the kind in bits 4:3 with and without bit 10
kind_alone : (flags code : ℕ) → code < 4 → is_set 10 flags ≡ true → flags - 2 ^ 10 ≡ 8 * code → bits 4 3 flags ≡ code
kind_alone flags code few alone e = let set = eqb-true _ _ alone in omega arith

kind_bits : (ffa : Ffa) (flags code : ℕ) → code < 4 → flags_but_alone ffa flags ≡ 8 * code → bits 4 3 flags ≡ code
kind_bits V1_1 flags code few e = omega arith
kind_bits V1_2 flags code few e =
    elim (cases_Bool (is_set 10 flags)) [
      | inl alone ↦ kind_alone flags code few alone (ap (λ t. cond t (flags - 2 ^ 10) flags) (sym alone) ∙ e)
      | inr several ↦ let is : flags ≡ 8 * code = ap (λ t. cond t (flags - 2 ^ 10) flags) (sym several) ∙ e in omega arith
    ]

pub flags_again : (ffa : Ffa) (flags code : ℕ) → code < 4 → flags_but_alone ffa flags ≡ 8 * code → flags_but_alone ffa flags ≡ 8 * bits 4 3 flags
flags_again ffa flags code few e = e ∙ ap (λ (n : ℕ). 8 * n) (sym (kind_bits ffa flags code few e))

facts : (ffa : Ffa) (e : ℕ) (b : Versioned) → is_header b ≡ true → is_retrieve_header ffa b ≡ true → is_retrieve_access ffa e b ≡ true → has_names ffa b ≡ true
    → Retrieve ffa e b (retrieve_in ffa e b)
unfolding is_retrieve_header is_retrieve_access
facts ffa e b header h access names =
    let p2 = and_parts _ _ h in
    let p1 = and_parts _ _ p2.0 in
    let q6 = and_parts _ _ access in
    let q5 = and_parts _ _ q6.0 in
    let q4 = and_parts _ _ q5.0 in
    let q3 = and_parts _ _ q4.0 in
    let q2 = and_parts _ _ q3.0 in
    let q1 = and_parts _ _ q2.0 in
    let kind_few : bits 4 3 (flags_field b) < 4 = omega arith in
    let data_few : bits 1 0 (asked_permissions ffa e b) < 4 = omega arith in
    record {
      header = header_told b header;
      attributes = either_told _ 0 47 p1.0;
      count = p2.1;
      caller = eqb-true _ _ q1.0;
      known_exec = differ _ _ q2.1;
      no_more = eqb-true _ _ q3.1;
      access_flags = eqb-true _ _ q4.1;
      composite = eqb-true _ _ q5.1;
      access_reserved = q6.1;
      names = names_told ffa b names;
      sender = refl;
      handle = refl;
      tag = refl;
      kind = eqb-true _ _ p1.1 ∙ ap (λ (n : ℕ). 8 * n) (sym (kind_code-kind_of (bits 4 3 (flags_field b)) kind_few));
      level = sym (data_code-data_of (bits 1 0 (asked_permissions ffa e b)) data_few (differ _ _ q1.1));
      exec = refl;
    }

pub not_reserved : (n code : ℕ) → code < 3 → n ≡ code → n ≢ 3
not_reserved n code few e three = omega arith

header_test : (ffa : Ffa) (e : ℕ) (b : Versioned) (r : RetrieveDesc) → Retrieve ffa e b r → is_retrieve_header ffa b ≡ true
unfolding is_retrieve_header
header_test ffa e b r h =
    and_from _ _ (and_from _ _ (either_again _ 0 47 h.attributes) (eq-eqb _ _ (flags_again ffa (flags_field b) (kind_code r.kind) (kind_code_few r.kind) h.kind))) h.count

access_test : (ffa : Ffa) (e : ℕ) (b : Versioned) (r : RetrieveDesc) → Retrieve ffa e b r → is_retrieve_access ffa e b ≡ true
unfolding is_retrieve_access
access_test ffa e b r h =
    and_from _ _ (and_from _ _ (and_from _ _ (and_from _ _ (and_from _ _ (and_from _ _
    (eq-eqb _ _ h.caller) (differ_again _ _ (not_reserved _ (data_code r.level) (data_code_few r.level) h.level))) (differ_again _ _ h.known_exec))
    (eq-eqb _ _ h.no_more)) (eq-eqb _ _ h.access_flags)) (eq-eqb _ _ h.composite)) h.access_reserved

same_parts : (r : RetrieveDesc) (sender handle tag : ℕ) (kind : Option Kind) (level : Option Data) (exec : Bool)
    → sender ≡ r.sender.0 → handle ≡ r.handle → tag ≡ r.tag → kind ≡ r.kind → level ≡ r.level → exec ≡ r.exec
    → record { sender = record { 0 = sender }; handle = handle; tag = tag; kind = kind; level = level; exec = exec } ≡ r
same_parts r sender handle tag kind level exec s h t k l x = rw (s, h, t, k, l, x) refl

retrieve_is : (ffa : Ffa) (e : ℕ) (b : Versioned) (r : RetrieveDesc) → Retrieve ffa e b r → retrieve_in ffa e b ≡ r
retrieve_is ffa e b r h =
    let kind : kind_of (bits 4 3 (flags_field b)) ≡ r.kind = ap kind_of (kind_bits ffa (flags_field b) (kind_code r.kind) (kind_code_few r.kind) h.kind) ∙ kind_of-kind_code r.kind in
    let level : data_of (bits 1 0 (asked_permissions ffa e b)) ≡ r.level = ap data_of h.level ∙ data_of-data_code r.level in
    same_parts r _ _ _ _ _ _ (sym h.sender) (sym h.handle) (sym h.tag) kind level (sym h.exec)

pub retrieve_told : (ffa : Ffa) (e : ℕ) (b : Versioned) (r : RetrieveDesc) → retrieve_of ffa e b ≡ Some r → Retrieve ffa e b r
unfolding retrieve_of
retrieve_told ffa e b r h =
    let (tests, same) = cond_some _ (retrieve_in ffa e b) r h in
    let p3 = and_parts _ _ tests in
    let p2 = and_parts _ _ p3.0 in
    let p1 = and_parts _ _ p2.0 in
    subst (λ (d : RetrieveDesc). Retrieve ffa e b d) same (facts ffa e b p1.0 p1.1 p2.1 p3.1)

pub retrieve_again : (ffa : Ffa) (e : ℕ) (b : Versioned) (r : RetrieveDesc) → Retrieve ffa e b r → retrieve_of ffa e b ≡ Some r
unfolding retrieve_of
retrieve_again ffa e b r h =
    cond_true _ (retrieve_in ffa e b)
    (and_from _ _ (and_from _ _ (and_from _ _ (header_again b h.header) (header_test ffa e b r h)) (access_test ffa e b r h)) (names_again ffa b h.names))
    ∙ ap (λ (d : RetrieveDesc). Some d) (retrieve_is ffa e b r h)

-- a list of bytes fits at most one record
pub one_retrieve : (ffa : Ffa) (e : ℕ) (b : Versioned) (r s : RetrieveDesc) → Retrieve ffa e b r → Retrieve ffa e b s → r ≡ s
one_retrieve ffa e b r s h k = same_Some r s (sym (retrieve_again ffa e b r h) ∙ retrieve_again ffa e b s k)
