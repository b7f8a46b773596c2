-- SPDX-License-Identifier: MIT OR Apache-2.0
-- What each part of a reader tells of the whole retrieve.
use Rattle.std.proofs.Common.{◌≡◌, ◌≢◌, ℕ, List, zero, suc, ◌+◌, ◌≤◌, ◌<◌, Bool, true, false, not, ◌&&◌, cond, Option, Some, None, refl, sym, ap, ap₂, ◌∙◌, eqb, arith}
use Rattle.std.specs.Prelude.{nat_le}
use Rattle.std.specs.List.{list_all, list_any}
use Rattle.ffa_model.specs.Lists.{listed}
use Rattle.std.proofs.lemmas.Bool.{and_from, ne_eqb}
use Rattle.ffa_model.proofs.Listed.{length-listed}
use Rattle.ffa_model.specs.declared.transaction.Receiver.{Receiver}
use Rattle.ffa_model.specs.SendDescriptor.{is_named}
use Rattle.std.proofs.lemmas.Option.{none-some}
use Rattle.ffa_model.specs.Bits.{bits}
use Rattle.ffa_model.specs.declared.endpoint.Version.{Version}
use Rattle.ffa_model.specs.declared.endpoint.Version.TheVariants.{Compact, V1_1 as V1_1_form, V1_2 as V1_2_form}
use Rattle.ffa_model.specs.declared.manifest.Ffa.{Ffa}
use Rattle.ffa_model.specs.declared.manifest.Ffa.TheVariants.{V1_1, V1_2}
use Rattle.ffa_model.specs.declared.rights.Data.{Data}
use Rattle.ffa_model.specs.declared.rights.Kind.{Kind}
use Rattle.ffa_model.specs.DescriptorPlaces.{IsHeader, access_flags_field, access_place, accesses_size, array_place, composite_field, data_of, is_access_rest_zero, kind_of, receiver_count, Versioned}
use Rattle.ffa_model.specs.RetrieveDescriptor.{are_receivers, endpoint_named, endpoints_named, has_names, is_naming, is_retrieve_access, is_retrieve_header, own_index, own_place, retrieve_in, retrieve_of}
use Rattle.ffa_model.specs.declared.flaw.Flaw.{Flaw}
use Rattle.ffa_model.specs.FirstFlaws.{first_of, header_flaw, asked_header_flaw, asked_access_flaw, names_flaw, naming_flaw, retrieve_flaw}
use Rattle.ffa_memdesc.specs.declared.access.Access.{Access}
use Rattle.ffa_memdesc.specs.declared.header.Header.{Header}
use Rattle.ffa_memdesc.specs.Reading.{header_in, access_in, index_after, named_after, names_flaw_after, naming_flaw_at, own_index_after}
use Rattle.ffa_memdesc.proofs.Decisions.{cond_true}
use Rattle.ffa_memdesc.proofs.Firsts.{or_first, or_none, or_second}
use Rattle.ffa_memdesc.proofs.HeaderLaw.{header_again}
use Rattle.ffa_memdesc.proofs.Listed.{holds_again}

no_size : (n : ℕ) (version : Version) → n + accesses_size version 0 ≡ n
no_size n Compact = omega arith
no_size n V1_1_form = omega arith
no_size n V1_2_form = omega arith

-- where the caller's access descriptor stands, by the index that was found
pub own_place_is : (ffa : Ffa) (e : ℕ) (b : Versioned) → array_place b + accesses_size b.version (own_index ffa e b) ≡ own_place ffa e b
own_place_is V1_1 e b = no_size (array_place b) b.version
own_place_is V1_2 e b = refl

-- the index that the code finds is that of the definition
pub own_index_is : (ffa : Ffa) (e : ℕ) (b : Versioned) (h : Header) (own : ℕ) → h ≡ header_in b → own ≡ own_index_after ffa e b h.array h.count → own ≡ own_index ffa e b
own_index_is V1_1 e b h own same is = is
own_index_is V1_2 e b h own same is = is ∙ ap (λ (x : Header). index_after e b x.array x.count) same

pub access_is : (ffa : Ffa) (e : ℕ) (b : Versioned) (h : Header) (a : Access) (own at : ℕ) → h ≡ header_in b → own ≡ own_index_after ffa e b h.array h.count
    → at ≡ h.array + accesses_size b.version own → a ≡ access_in b at → a ≡ access_in b (own_place ffa e b)
access_is ffa e b h a own at same found place read =
    let index = own_index_is ffa e b h own same found in
    let array : h.array ≡ array_place b = ap (λ (x : Header). x.array) same in
    let stands : at ≡ own_place ffa e b = place ∙ ap₂ (λ (n i : ℕ). n + accesses_size b.version i) array index ∙ own_place_is ffa e b in
    read ∙ ap (λ (p : ℕ). access_in b p) stands

-- what the names tell
pub names_is : (ffa : Ffa) (b : Versioned) (h : Header) (told : Option Flaw) → h ≡ header_in b → told ≡ names_flaw_after ffa b h.array h.count → told ≡ names_flaw ffa b
unfolding names_flaw naming_flaw naming_flaw_at
names_is V1_1 b h told same is = is
names_is V1_2 b h told same is = is ∙ ap (λ (x : Header). names_flaw_after V1_2 b x.array x.count) same

passes-all : (t u v w : Bool) (a x y z : Flaw) → None ≡ cond t (cond u (cond v (cond w None (Some z)) (Some y)) (Some x)) (Some a) → (t && u && v && w) ≡ true
passes-all true true true true a x y z e = refl
passes-all true true true false a x y z e = absurd (none-some z e)
passes-all true true false w a x y z e = absurd (none-some y e)
passes-all true false v w a x y z e = absurd (none-some x e)
passes-all false u v w a x y z e = absurd (none-some a e)

naming_passes : (b : Versioned) (i : ℕ) → None ≡ naming_flaw b i → is_naming b i ≡ true
unfolding naming_flaw
naming_passes b i e =
    let at = access_place b i in
    passes-all (nat_le (access_flags_field b.bytes at) 1) (eqb (composite_field b.bytes at) 0) (is_access_rest_zero b.version b.bytes at)
    (not (list_any (λ e. eqb e (endpoint_named b i)) (listed i (endpoint_named b)))) _ _ _ _ e

first_of_none : (n : ℕ) (f : ℕ → Option Flaw) → None ≡ first_of n f → (i : ℕ) → i < n → None ≡ f i
first_of_none zero f e i lt = absurd (omega arith)
first_of_none (suc n) f e zero lt = (or_none (f 0) _ e).0
first_of_none (suc n) f e (suc i) lt = first_of_none n (λ k. f (suc k)) ((or_none (f 0) _ e).1) i (omega arith)

-- names without a flaw are as they have to be
pub names_fit : (ffa : Ffa) (b : Versioned) → None ≡ names_flaw ffa b → has_names ffa b ≡ true
unfolding has_names names_flaw
names_fit V1_1 b e = refl
names_fit V1_2 b e = holds_again (is_naming b) (receiver_count b) (λ i lt. naming_passes b i (first_of_none (receiver_count b) (naming_flaw b) e i lt))

-- what the parts gave is what the bytes say
pub whole_retrieve : (ffa : Ffa) (e : ℕ) (b : Versioned) (h : Header) (a : Access) (kind : Option Kind) (level : Option Data) (asked instructions : ℕ)
    → IsHeader b → h ≡ header_in b → is_retrieve_header ffa b ≡ true → is_retrieve_access ffa e b ≡ true → has_names ffa b ≡ true → a ≡ access_in b (own_place ffa e b)
    → kind ≡ kind_of (bits 4 3 h.flags) → asked ≡ bits 1 0 a.permissions → level ≡ data_of asked → instructions ≡ bits 3 2 a.permissions
    → Some (record { sender = h.sender; handle = h.handle; tag = h.tag; kind = kind; level = level; exec = eqb instructions 2 }) ≡ retrieve_of ffa e b
unfolding retrieve_of
whole_retrieve ffa e b h a kind level asked instructions header is fits access names read kinds asks gives executes =
    rw (kinds, gives, asks, executes, read, is)
    (sym (cond_true _ (retrieve_in ffa e b) (and_from _ _ (and_from _ _ (and_from _ _ (header_again b header) fits) access) names)))

-- the access descriptor of an index is inside
pub access_inside : (version : Version) (array count own n : ℕ) → array + accesses_size version count ≤ n → own < count → array + accesses_size version own + accesses_size version 1 ≤ n
access_inside Compact array count own n inside lt = omega arith
access_inside V1_1_form array count own n inside lt = omega arith
access_inside V1_2_form array count own n inside lt = omega arith

-- what the bytes break first, where the parts before break nothing
module _ (ffa : Ffa) (e : ℕ) (b : Versioned) where
  pub first_in_header : (flaw : Flaw) → Some flaw ≡ header_flaw b → Some flaw ≡ retrieve_flaw ffa e b
  unfolding retrieve_flaw
  first_in_header flaw is = or_first _ _ flaw is

  pub first_in_fields : (flaw : Flaw) → None ≡ header_flaw b → Some flaw ≡ asked_header_flaw ffa b → Some flaw ≡ retrieve_flaw ffa e b
  unfolding retrieve_flaw
  first_in_fields flaw header is = or_second _ _ _ header (or_first _ _ flaw is)

  pub first_in_access : (flaw : Flaw) → None ≡ header_flaw b → None ≡ asked_header_flaw ffa b → Some flaw ≡ asked_access_flaw ffa e b → Some flaw ≡ retrieve_flaw ffa e b
  unfolding retrieve_flaw
  first_in_access flaw header fields is = or_second _ _ _ header (or_second _ _ _ fields (or_first _ _ flaw is))

  pub first_in_names : (told : Option Flaw) → None ≡ header_flaw b → None ≡ asked_header_flaw ffa b → None ≡ asked_access_flaw ffa e b → told ≡ names_flaw ffa b → told ≡ retrieve_flaw ffa e b
  unfolding retrieve_flaw
  first_in_names told header fields access is = or_second _ _ _ header (or_second _ _ _ fields (or_second _ _ _ access is))

-- whom an array names, where several are named
pub named_is : (b : Versioned) (array count : ℕ) (receivers : List Receiver) → array ≡ array_place b → count ≡ receiver_count b → count ≢ 1
    → (list_all (λ e. is_named e receivers) (listed count (named_after b array))
    && list_all (λ (r : Receiver). list_any (λ e. eqb e r.endpoint.0) (listed count (named_after b array))) receivers)
    ≡ are_receivers (endpoints_named b) receivers
named_is b array count receivers place many several =
    rw (place, many, length-listed (receiver_count b) (endpoint_named b), ne_eqb (receiver_count b) 1 (λ one. several (many ∙ one))) refl
