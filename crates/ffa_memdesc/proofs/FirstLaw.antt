-- SPDX-License-Identifier: MIT OR Apache-2.0
-- The first condition that bytes break is one that they break.
use Rattle.std.proofs.Common.{◌≡◌, ℕ, ◌<◌, false, not, Option, Some, eqb, inl, inr}
use Rattle.std.proofs.lemmas.Bool.{not-false, or_parts, leb-false, eqb-true, eqb-false, both_ways}
use Rattle.ffa_model.specs.declared.flaw.Flaw.{Flaw}
use Rattle.ffa_model.specs.declared.flaw.Flaw.TheVariants.{Header, Send as FlawOfSend, Access, Composite, Range as FlawOfRange, Retrieve as FlawOfRetrieve}
use Rattle.ffa_model.specs.declared.flaw.HeaderFlaw.{HeaderFlaw}
use Rattle.ffa_model.specs.declared.flaw.HeaderFlaw.TheVariants.{Short, AccessSize, ArrayUnaligned, ArrayInHeader, ArrayOutside, Reserved as HeaderReserved}
use Rattle.ffa_model.specs.declared.flaw.SendFlaw.{SendFlaw}
use Rattle.ffa_model.specs.declared.flaw.SendFlaw.TheVariants.{Attributes, Flags, Handle, NoReceiver, ManyReceivers}
use Rattle.ffa_model.specs.declared.flaw.AccessFlaw.{AccessFlaw}
use Rattle.ffa_model.specs.declared.flaw.AccessFlaw.TheVariants.{Permissions, Flags as AccessFlags, OtherComposite, Reserved as AccessReserved, ReceiverIsSender, ReceiverTwice}
use Rattle.ffa_model.specs.declared.flaw.CompositeFlaw.{CompositeFlaw}
use Rattle.ffa_model.specs.declared.flaw.CompositeFlaw.TheVariants.{Outside, Unaligned, InArray, NoRange, ManyRanges, Reserved as CompositeReserved, RangesOutside, Total}
use Rattle.ffa_model.specs.declared.flaw.RangeFlaw.{RangeFlaw}
use Rattle.ffa_model.specs.declared.flaw.RangeFlaw.TheVariants.{Empty, Unaligned as RangeUnaligned, TooHigh, Reserved as RangeReserved, Overlap}
use Rattle.ffa_model.specs.declared.flaw.RetrieveFlaw.{RetrieveFlaw}
use Rattle.ffa_model.specs.declared.flaw.RetrieveFlaw.TheVariants.{Attributes as AskedAttributes, Flags as AskedFlags, AccessCount, ReceiverIsAnother, DataPermission, InstructionPermission, PermissionsReserved, AccessFlags as AskedAccessFlags, CompositeTold, AccessReserved as AskedAccessReserved}
use Rattle.ffa_model.specs.declared.manifest.Ffa.{Ffa}
use Rattle.ffa_model.specs.declared.manifest.Ffa.TheVariants.{V1_1, V1_2}
use Rattle.ffa_model.specs.declared.rights.Kind.{Kind}
use Rattle.ffa_model.specs.declared.transaction.Receiver.{Receiver}
use Rattle.ffa_model.specs.DescriptorPlaces.{Versioned, access_place, endpoint_field, receiver_count, range_count}
use Rattle.ffa_model.specs.SendDescriptor.{AreApart, is_named, are_apart, receiver_in, range_in, receivers_in, ranges_in}
use Rattle.ffa_model.specs.FirstFlaws.{header_flaw, send_header_flaw, access_flaw, composite_flaw, range_flaw, total_flaw, send_flaw, asked_header_flaw, asked_access_flaw, names_flaw, naming_flaw, retrieve_flaw, first_of}
use Rattle.ffa_model.specs.Lists.{listed}
use Rattle.ffa_model.specs.RetrieveDescriptor.{endpoint_named, own_index}
use Rattle.ffa_model.specs.Flaws.{HeaderBreaks, SendHeaderBreaks, AccessBreaks, CompositeBreaks, RangeBreaks, SendBreaks, AskedBreaks, NamingBreaks, RetrieveBreaks}
use Rattle.std.specs.Option.{option_or}
use Rattle.std.specs.List.{list_all, list_any}
use Rattle.ffa_memdesc.proofs.Firsts.{or_told, first_told, condition_told, nothing_told}
use Rattle.ffa_memdesc.proofs.Listed.{some_told, some_not}
use Rattle.ffa_memdesc.proofs.SendLaw.{grant_again, apart_again}

header_told : (P : Flaw → Type 0) (b : Versioned) (flaw : Flaw) → ((f : HeaderFlaw) → HeaderBreaks b f → P (Header f)) → Some flaw ≡ header_flaw b → P flaw
unfolding header_flaw
header_told P b flaw lift e =
    condition_told P _ _ _ flaw e (λ x. lift Short (leb-false _ _ x)) (λ e1.
    condition_told P _ _ _ flaw e1 (λ x. lift AccessSize (eqb-false _ _ x)) (λ e2.
    condition_told P _ _ _ flaw e2 (λ x. lift ArrayUnaligned (eqb-false _ _ x)) (λ e3.
    condition_told P _ _ _ flaw e3 (λ x. lift ArrayInHeader (leb-false _ _ x)) (λ e4.
    condition_told P _ _ _ flaw e4 (λ x. lift ArrayOutside (leb-false _ _ x)) (λ e5.
    condition_told P _ _ _ flaw e5 (λ x. lift HeaderReserved x) (λ e6.
    nothing_told (P flaw) flaw e6))))))

send_header_told : (P : Flaw → Type 0) (ffa : Ffa) (kind : Kind) (b : Versioned) (flaw : Flaw) → ((f : SendFlaw) → SendHeaderBreaks ffa kind b f → P (FlawOfSend f)) → Some flaw ≡ send_header_flaw ffa kind b → P flaw
unfolding send_header_flaw
send_header_told P ffa kind b flaw lift e =
    condition_told P _ _ _ flaw e (λ x. lift Attributes x) (λ e1.
    condition_told P _ _ _ flaw e1 (λ x. lift Flags (leb-false _ _ x)) (λ e2.
    condition_told P _ _ _ flaw e2 (λ x. lift Handle (eqb-false _ _ x)) (λ e3.
    condition_told P _ _ _ flaw e3 (λ x. lift NoReceiver (leb-false _ _ x)) (λ e4.
    condition_told P _ _ _ flaw e4 (λ x. lift ManyReceivers (leb-false _ _ x)) (λ e5.
    nothing_told (P flaw) flaw e5)))))

named_told : (b : Versioned) (i endpoint : ℕ) → not (is_named endpoint (receivers_in b i)) ≡ false
    → (j : ℕ) × (j < i) × (endpoint_field b.bytes (access_place b j) ≡ endpoint)
named_told b i endpoint e =
    let (j, before, same) = some_told (λ (r : Receiver). eqb r.endpoint.0 endpoint) (receiver_in b) i (not-false _ e) in
    (j, before, eqb-true _ _ same)

access_told : (P : Flaw → Type 0) (kind : Kind) (b : Versioned) (i : ℕ) (flaw : Flaw) → ((f : AccessFlaw) → AccessBreaks kind b i f → P (Access i f)) → Some flaw ≡ access_flaw kind b i → P flaw
unfolding access_flaw
access_told P kind b i flaw lift e =
    condition_told P _ _ _ flaw e (λ x. lift Permissions (λ h. both_ways _ x (grant_again kind _ h))) (λ e1.
    condition_told P _ _ _ flaw e1 (λ x. lift AccessFlags (eqb-false _ _ x)) (λ e2.
    condition_told P _ _ _ flaw e2 (λ x. lift OtherComposite (eqb-false _ _ x)) (λ e3.
    condition_told P _ _ _ flaw e3 (λ x. lift AccessReserved x) (λ e4.
    condition_told P _ _ _ flaw e4 (λ x. lift ReceiverIsSender (eqb-true _ _ (not-false _ x))) (λ e5.
    condition_told P _ _ _ flaw e5 (λ x. lift ReceiverTwice (named_told b i _ x)) (λ e6.
    nothing_told (P flaw) flaw e6))))))

composite_told : (P : Flaw → Type 0) (b : Versioned) (flaw : Flaw) → ((f : CompositeFlaw) → CompositeBreaks b f → P (Composite f)) → Some flaw ≡ composite_flaw b → P flaw
unfolding composite_flaw
composite_told P b flaw lift e =
    condition_told P _ _ _ flaw e (λ x. lift Outside (leb-false _ _ x)) (λ e1.
    condition_told P _ _ _ flaw e1 (λ x. lift Unaligned (eqb-false _ _ x)) (λ e2.
    condition_told P _ _ _ flaw e2 (λ x. lift InArray (leb-false _ _ x)) (λ e3.
    condition_told P _ _ _ flaw e3 (λ x. lift NoRange (leb-false _ _ x)) (λ e4.
    condition_told P _ _ _ flaw e4 (λ x. lift ManyRanges (leb-false _ _ x)) (λ e5.
    condition_told P _ _ _ flaw e5 (λ x. lift CompositeReserved (eqb-false _ _ x)) (λ e6.
    condition_told P _ _ _ flaw e6 (λ x. lift RangesOutside (leb-false _ _ x)) (λ e7.
    nothing_told (P flaw) flaw e7)))))))

meets_told : (b : Versioned) (i : ℕ) → list_all (are_apart (range_in b i)) (ranges_in b i) ≡ false → (j : ℕ) × (j < i) × (AreApart (range_in b i) (range_in b j) → ⊥)
meets_told b i e =
    let (j, before, meets) = some_not (are_apart (range_in b i)) (range_in b) i e in
    (j, before, λ h. both_ways _ meets (apart_again (range_in b i) (range_in b j) h))

range_told : (P : Flaw → Type 0) (b : Versioned) (i : ℕ) (flaw : Flaw) → ((f : RangeFlaw) → RangeBreaks b i f → P (FlawOfRange i f)) → Some flaw ≡ range_flaw b i → P flaw
unfolding range_flaw
range_told P b i flaw lift e =
    condition_told P _ _ _ flaw e (λ x. lift Empty (leb-false _ _ x)) (λ e1.
    condition_told P _ _ _ flaw e1 (λ x. lift RangeUnaligned (eqb-false _ _ x)) (λ e2.
    condition_told P _ _ _ flaw e2 (λ x. lift TooHigh (leb-false _ _ x)) (λ e3.
    condition_told P _ _ _ flaw e3 (λ x. lift RangeReserved (eqb-false _ _ x)) (λ e4.
    condition_told P _ _ _ flaw e4 (λ x. lift Overlap (meets_told b i x)) (λ e5.
    nothing_told (P flaw) flaw e5)))))

total_told : (P : Flaw → Type 0) (b : Versioned) (flaw : Flaw) → ((f : CompositeFlaw) → CompositeBreaks b f → P (Composite f)) → Some flaw ≡ total_flaw b → P flaw
unfolding total_flaw
total_told P b flaw lift e =
    condition_told P _ _ _ flaw e (λ x. lift Total (eqb-false _ _ x)) (λ e1.
    nothing_told (P flaw) flaw e1)

accesses_told : (ffa : Ffa) (kind : Kind) (b : Versioned) (flaw : Flaw) → Some flaw ≡ first_of (receiver_count b) (access_flaw kind b) → SendBreaks ffa kind b flaw
accesses_told ffa kind b flaw e =
    let (i, lt, told) = first_told (receiver_count b) (access_flaw kind b) flaw e in
    access_told (SendBreaks ffa kind b) kind b i flaw (λ f breaks. (lt, breaks)) told

ranges_told : (ffa : Ffa) (kind : Kind) (b : Versioned) (flaw : Flaw) → Some flaw ≡ first_of (range_count b) (range_flaw b) → SendBreaks ffa kind b flaw
ranges_told ffa kind b flaw e =
    let (i, lt, told) = first_told (range_count b) (range_flaw b) flaw e in
    range_told (SendBreaks ffa kind b) b i flaw (λ f breaks. (lt, breaks)) told

-- one of two, each of which tells only what is broken
either : (P : Flaw → Type 0) (o p : Option Flaw) (flaw : Flaw) → (Some flaw ≡ o → P flaw) → (Some flaw ≡ p → P flaw) → Some flaw ≡ option_or o p → P flaw
either P o p flaw here later e = elim (or_told o p flaw e) [ inl x ↦ here x | inr x ↦ later x ]

pub send_flaw_breaks : (ffa : Ffa) (kind : Kind) (b : Versioned) (flaw : Flaw) → Some flaw ≡ send_flaw ffa kind b → SendBreaks ffa kind b flaw
unfolding send_flaw
send_flaw_breaks ffa kind b flaw =
    let P = SendBreaks ffa kind b in
    either P _ _ flaw (header_told P b flaw (λ f x. x))
    (either P _ _ flaw (send_header_told P ffa kind b flaw (λ f x. x))
    (either P _ _ flaw (accesses_told ffa kind b flaw)
    (either P _ _ flaw (composite_told P b flaw (λ f x. x))
    (either P _ _ flaw (ranges_told ffa kind b flaw) (total_told P b flaw (λ f x. x))))))

asked_header_told : (P : Flaw → Type 0) (ffa : Ffa) (endpoint : ℕ) (b : Versioned) (flaw : Flaw)
    → ((i : ℕ) (f : RetrieveFlaw) → AskedBreaks ffa endpoint b f → P (FlawOfRetrieve i f)) → Some flaw ≡ asked_header_flaw ffa b → P flaw
unfolding asked_header_flaw
asked_header_told P ffa endpoint b flaw lift e =
    condition_told P _ _ _ flaw e (λ x. lift 0 AskedAttributes (let (none, normal) = or_parts _ _ x in (eqb-false _ _ none, eqb-false _ _ normal))) (λ e1.
    condition_told P _ _ _ flaw e1 (λ x. lift 0 AskedFlags (eqb-false _ _ x)) (λ e2.
    condition_told P _ _ _ flaw e2 (λ x. lift 0 AccessCount x) (λ e3.
    nothing_told (P flaw) flaw e3)))

asked_access_told : (P : Flaw → Type 0) (ffa : Ffa) (endpoint : ℕ) (b : Versioned) (flaw : Flaw)
    → ((i : ℕ) (f : RetrieveFlaw) → AskedBreaks ffa endpoint b f → P (FlawOfRetrieve i f)) → Some flaw ≡ asked_access_flaw ffa endpoint b → P flaw
unfolding asked_access_flaw
asked_access_told P ffa endpoint b flaw lift e =
    let own = own_index ffa endpoint b in
    condition_told P _ _ _ flaw e (λ x. lift own ReceiverIsAnother (eqb-false _ _ x)) (λ e1.
    condition_told P _ _ _ flaw e1 (λ x. lift own DataPermission (eqb-true _ _ (not-false _ x))) (λ e2.
    condition_told P _ _ _ flaw e2 (λ x. lift own InstructionPermission (eqb-true _ _ (not-false _ x))) (λ e3.
    condition_told P _ _ _ flaw e3 (λ x. lift own PermissionsReserved (eqb-false _ _ x)) (λ e4.
    condition_told P _ _ _ flaw e4 (λ x. lift own AskedAccessFlags (eqb-false _ _ x)) (λ e5.
    condition_told P _ _ _ flaw e5 (λ x. lift own CompositeTold (eqb-false _ _ x)) (λ e6.
    condition_told P _ _ _ flaw e6 (λ x. lift own AskedAccessReserved x) (λ e7.
    nothing_told (P flaw) flaw e7)))))))

twice_told : (b : Versioned) (i : ℕ) → not (list_any (λ e. eqb e (endpoint_named b i)) (listed i (endpoint_named b))) ≡ false
    → (j : ℕ) × (j < i) × (endpoint_named b j ≡ endpoint_named b i)
twice_told b i e =
    let (j, before, same) = some_told (λ x. eqb x (endpoint_named b i)) (endpoint_named b) i (not-false _ e) in
    (j, before, eqb-true _ _ same)

naming_told : (P : Flaw → Type 0) (b : Versioned) (i : ℕ) (flaw : Flaw) → ((f : AccessFlaw) → NamingBreaks b i f → P (Access i f)) → Some flaw ≡ naming_flaw b i → P flaw
unfolding naming_flaw
naming_told P b i flaw lift e =
    condition_told P _ _ _ flaw e (λ x. lift AccessFlags (leb-false _ _ x)) (λ e1.
    condition_told P _ _ _ flaw e1 (λ x. lift OtherComposite (eqb-false _ _ x)) (λ e2.
    condition_told P _ _ _ flaw e2 (λ x. lift AccessReserved x) (λ e3.
    condition_told P _ _ _ flaw e3 (λ x. lift ReceiverTwice (twice_told b i x)) (λ e4.
    nothing_told (P flaw) flaw e4))))

names_told : (ffa : Ffa) (endpoint : ℕ) (b : Versioned) (flaw : Flaw) → Some flaw ≡ names_flaw ffa b → RetrieveBreaks ffa endpoint b flaw
unfolding names_flaw
names_told V1_1 endpoint b flaw e = nothing_told (RetrieveBreaks V1_1 endpoint b flaw) flaw e
names_told V1_2 endpoint b flaw e =
    let (i, lt, told) = first_told (receiver_count b) (naming_flaw b) flaw e in
    naming_told (RetrieveBreaks V1_2 endpoint b) b i flaw (λ f breaks. (lt, breaks)) told

pub retrieve_flaw_breaks : (ffa : Ffa) (endpoint : ℕ) (b : Versioned) (flaw : Flaw) → Some flaw ≡ retrieve_flaw ffa endpoint b → RetrieveBreaks ffa endpoint b flaw
unfolding retrieve_flaw
retrieve_flaw_breaks ffa endpoint b flaw =
    let P = RetrieveBreaks ffa endpoint b in
    either P _ _ flaw (header_told P b flaw (λ f x. x))
    (either P _ _ flaw (asked_header_told P ffa endpoint b flaw (λ i f x. x))
    (either P _ _ flaw (asked_access_told P ffa endpoint b flaw (λ i f x. x)) (names_told ffa endpoint b flaw)))
