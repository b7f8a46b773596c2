-- SPDX-License-Identifier: MIT OR Apache-2.0
-- A condition that is broken: no record fits.
use Rattle.std.proofs.Common.{◌<◌, ◌≤◌, ℕ, ℕ, List, inl, inr, arith}
use Rattle.std.proofs.lemmas.Bool.{both_ways}
use Rattle.ffa_model.specs.declared.flaw.Flaw.{Flaw}
use Rattle.ffa_model.specs.declared.flaw.Flaw.TheVariants.{Header, Send as FlawOfSend, Access, Composite, Range as FlawOfRange, Retrieve as FlawOfRetrieve, Relinquish as FlawOfRelinquish}
use Rattle.ffa_model.specs.declared.flaw.HeaderFlaw.{HeaderFlaw}
use Rattle.ffa_model.specs.declared.flaw.HeaderFlaw.TheVariants.{Short, AccessSize, ArrayUnaligned, ArrayInHeader, ArrayOutside, Reserved as HeaderReserved}
use Rattle.ffa_model.specs.declared.flaw.SendFlaw.{SendFlaw}
use Rattle.ffa_model.specs.declared.flaw.SendFlaw.TheVariants.{Attributes, Flags, Handle, NoReceiver, ManyReceivers}
use Rattle.ffa_model.specs.declared.flaw.AccessFlaw.{AccessFlaw}
use Rattle.ffa_model.specs.declared.flaw.AccessFlaw.TheVariants.{Permissions, Flags as AccessFlags, OtherComposite, Reserved as AccessReserved, ReceiverIsSender, ReceiverTwice}
use Rattle.ffa_model.specs.declared.flaw.CompositeFlaw.{CompositeFlaw}
use Rattle.ffa_model.specs.declared.flaw.CompositeFlaw.TheVariants.{Unaligned, InArray, NoRange, ManyRanges, Reserved as CompositeReserved, Total}
use Rattle.ffa_model.specs.declared.flaw.RangeFlaw.{RangeFlaw}
use Rattle.ffa_model.specs.declared.flaw.RangeFlaw.TheVariants.{Empty, Unaligned as RangeUnaligned, TooHigh, Reserved as RangeReserved, Overlap}
use Rattle.ffa_model.specs.declared.flaw.RetrieveFlaw.{RetrieveFlaw}
use Rattle.ffa_model.specs.declared.flaw.RetrieveFlaw.TheVariants.{Attributes as AskedAttributes, Flags as AskedFlags, AccessCount, ReceiverIsAnother, DataPermission, InstructionPermission, PermissionsReserved, AccessFlags as AskedAccessFlags, CompositeTold, AccessReserved as AskedAccessReserved, NotZero}
use Rattle.ffa_model.specs.declared.flaw.RelinquishFlaw.TheVariants.{Short as RelinquishShort, Flags as RelinquishFlags, EndpointCount}
use Rattle.ffa_model.specs.declared.descriptor.RetrieveDesc.{RetrieveDesc}
use Rattle.ffa_model.specs.declared.descriptor.RelinquishDesc.{RelinquishDesc}
use Rattle.ffa_model.specs.declared.manifest.Ffa.{Ffa}
use Rattle.ffa_model.specs.declared.manifest.Ffa.TheVariants.{V1_1, V1_2}
use Rattle.ffa_model.specs.declared.rights.Kind.{Kind}
use Rattle.ffa_model.specs.DescriptorPlaces.{Versioned, IsHeader, flags_field, kind_code, receiver_count}
use Rattle.ffa_model.specs.SendDescriptor.{Send, SendRecord}
use Rattle.ffa_model.specs.RetrieveDescriptor.{AreNaming, HasNames, Retrieve}
use Rattle.ffa_model.specs.RelinquishDescriptor.{Relinquish}
use Rattle.ffa_model.specs.Flaws.{HeaderBreaks, SendHeaderBreaks, CompositeBreaks, SendBreaks, AskedBreaks, NamesBreak, NamingBreaks, RetrieveBreaks, RelinquishBreaks}
use Rattle.ffa_memdesc.proofs.RetrieveLaw.{flags_again, kind_code_few, not_reserved, data_code_few}

header_breaks : (b : Versioned) (flaw : HeaderFlaw) → HeaderBreaks b flaw → IsHeader b → ⊥
header_breaks b Short broken h = let whole = h.whole in omega arith
header_breaks b AccessSize broken h = broken h.told
header_breaks b ArrayUnaligned broken h = broken h.aligned
header_breaks b ArrayInHeader broken h = let behind = h.behind in omega arith
header_breaks b ArrayOutside broken h = let inside = h.inside in omega arith
header_breaks b HeaderReserved broken h = both_ways _ broken h.reserved

both_orders : (m n : ℕ) → m < n → n ≤ m → ⊥
both_orders m n less most = omega arith

send_header_breaks : (ffa : Ffa) (kind : Kind) (b : Versioned) (flaw : SendFlaw) (r : SendRecord) → SendHeaderBreaks ffa kind b flaw → Send ffa kind b r → ⊥
send_header_breaks ffa kind b Attributes r broken h = both_ways _ broken h.attributes
send_header_breaks ffa kind b Flags r broken h = both_orders _ _ broken h.flags
send_header_breaks ffa kind b Handle r broken h = broken h.handle
send_header_breaks ffa kind b NoReceiver r broken h = let least = h.least in omega arith
send_header_breaks ffa kind b ManyReceivers r broken h = let most = h.most in omega arith

access_breaks : (ffa : Ffa) (kind : Kind) (b : Versioned) (i : ℕ) (flaw : AccessFlaw) (r : SendRecord) → SendBreaks ffa kind b (Access i flaw) → Send ffa kind b r → ⊥
access_breaks ffa kind b i Permissions r (lt, broken) h = broken (h.accesses i lt).permissions
access_breaks ffa kind b i AccessFlags r (lt, broken) h = broken (h.accesses i lt).flags
access_breaks ffa kind b i OtherComposite r (lt, broken) h = broken (h.accesses i lt).composite
access_breaks ffa kind b i AccessReserved r (lt, broken) h = both_ways _ broken (h.accesses i lt).reserved
access_breaks ffa kind b i ReceiverIsSender r (lt, broken) h = (h.accesses i lt).other broken
access_breaks ffa kind b i ReceiverTwice r (lt, (j, before, same)) h = h.distinct i j before lt same

composite_breaks : (ffa : Ffa) (kind : Kind) (b : Versioned) (flaw : CompositeFlaw) (r : SendRecord) → CompositeBreaks b flaw → Send ffa kind b r → ⊥
composite_breaks ffa kind b Unaligned r broken h = broken h.composite.aligned
composite_breaks ffa kind b InArray r broken h = let behind = h.composite.behind in omega arith
composite_breaks ffa kind b NoRange r broken h = let least = h.composite.least in omega arith
composite_breaks ffa kind b ManyRanges r broken h = let most = h.composite.most in omega arith
composite_breaks ffa kind b CompositeReserved r broken h = broken h.composite.reserved
composite_breaks ffa kind b Total r broken h = broken h.total
composite_breaks ffa kind b _ r broken h = let inside = h.composite.inside in omega arith

range_breaks : (ffa : Ffa) (kind : Kind) (b : Versioned) (i : ℕ) (flaw : RangeFlaw) (r : SendRecord) → SendBreaks ffa kind b (FlawOfRange i flaw) → Send ffa kind b r → ⊥
range_breaks ffa kind b i Empty r (lt, broken) h = let least = (h.each i lt).least in omega arith
range_breaks ffa kind b i RangeUnaligned r (lt, broken) h = broken (h.each i lt).aligned
range_breaks ffa kind b i TooHigh r (lt, broken) h = let below = (h.each i lt).below in omega arith
range_breaks ffa kind b i RangeReserved r (lt, broken) h = broken (h.each i lt).reserved
range_breaks ffa kind b i Overlap r (lt, (j, before, overlap)) h = overlap (h.apart i j before lt)

pub send_breaks : (ffa : Ffa) (kind : Kind) (b : Versioned) (flaw : Flaw) (r : SendRecord) → SendBreaks ffa kind b flaw → Send ffa kind b r → ⊥
send_breaks ffa kind b (Header flaw) r broken h = header_breaks b flaw broken h.header
send_breaks ffa kind b (FlawOfSend flaw) r broken h = send_header_breaks ffa kind b flaw r broken h
send_breaks ffa kind b (Access i flaw) r broken h = access_breaks ffa kind b i flaw r broken h
send_breaks ffa kind b (Composite flaw) r broken h = composite_breaks ffa kind b flaw r broken h
send_breaks ffa kind b (FlawOfRange i flaw) r broken h = range_breaks ffa kind b i flaw r broken h
send_breaks ffa kind b _ r broken h = broken

asked_breaks : (ffa : Ffa) (e : ℕ) (b : Versioned) (flaw : RetrieveFlaw) (r : RetrieveDesc) → AskedBreaks ffa e b flaw → Retrieve ffa e b r → ⊥
asked_breaks ffa e b AskedAttributes r (none, normal) h = elim h.attributes [ inl a ↦ none a | inr a ↦ normal a ]
asked_breaks ffa e b AskedFlags r broken h = broken (flags_again ffa (flags_field b) (kind_code r.kind) (kind_code_few r.kind) h.kind)
asked_breaks ffa e b AccessCount r broken h = both_ways _ broken h.count
asked_breaks ffa e b ReceiverIsAnother r broken h = broken h.caller
asked_breaks ffa e b DataPermission r broken h = not_reserved _ _ (data_code_few r.level) h.level broken
asked_breaks ffa e b InstructionPermission r broken h = h.known_exec broken
asked_breaks ffa e b PermissionsReserved r broken h = broken h.no_more
asked_breaks ffa e b AskedAccessFlags r broken h = broken h.access_flags
asked_breaks ffa e b CompositeTold r broken h = broken h.composite
asked_breaks ffa e b AskedAccessReserved r broken h = both_ways _ broken h.access_reserved
asked_breaks ffa e b NotZero r broken h = broken

naming_breaks : (b : Versioned) (i : ℕ) (flaw : AccessFlaw) → i < receiver_count b → NamingBreaks b i flaw → AreNaming b → ⊥
naming_breaks b i AccessFlags lt broken h = let few = (h.each i lt).flags in omega arith
naming_breaks b i OtherComposite lt broken h = broken (h.each i lt).composite
naming_breaks b i AccessReserved lt broken h = both_ways _ broken (h.each i lt).reserved
naming_breaks b i ReceiverTwice lt (j, before, same) h = h.distinct i j before lt same
naming_breaks b i _ lt broken h = broken

names_break : (ffa : Ffa) (b : Versioned) (i : ℕ) (flaw : AccessFlaw) → NamesBreak ffa b i flaw → HasNames ffa b → ⊥
names_break V1_1 b i flaw broken h = broken
names_break V1_2 b i flaw (lt, broken) h = naming_breaks b i flaw lt broken h

pub retrieve_breaks : (ffa : Ffa) (e : ℕ) (b : Versioned) (flaw : Flaw) (r : RetrieveDesc) → RetrieveBreaks ffa e b flaw → Retrieve ffa e b r → ⊥
retrieve_breaks ffa e b (Header flaw) r broken h = header_breaks b flaw broken h.header
retrieve_breaks ffa e b (FlawOfRetrieve i flaw) r broken h = asked_breaks ffa e b flaw r broken h
retrieve_breaks ffa e b (Access i flaw) r broken h = names_break ffa b i flaw broken h.names
retrieve_breaks ffa e b _ r broken h = broken

pub relinquish_breaks : (b : List ℕ) (flaw : Flaw) (r : RelinquishDesc) → RelinquishBreaks b flaw → Relinquish b r → ⊥
relinquish_breaks b (FlawOfRelinquish RelinquishShort) r broken h = let whole = h.whole in omega arith
relinquish_breaks b (FlawOfRelinquish RelinquishFlags) r broken h = let flags = h.flags in omega arith
relinquish_breaks b (FlawOfRelinquish EndpointCount) r broken h = broken h.one
relinquish_breaks b _ r broken h = broken
