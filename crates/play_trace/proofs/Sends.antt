-- SPDX-License-Identifier: MIT OR Apache-2.0
-- The bytes of a send that is fit are read as it.
use Rattle.std.proofs.Common.{◌≡◌, ◌≢◌, ◌∙◌, ℕ, ◌+◌, ◌*◌, ◌%◌, ◌^◌, ◌<◌, ◌≤◌, Bool, true, false, ◌||◌, cond, eqb, List, ◌++◌, length, get_or, Option, None, refl, sym, ap, subst, arith, append_assoc, length-append, flat_map}
use Rattle.std.proofs.lemmas.List.Sums.{get_or-le-sum_by}
use Rattle.ffa_model.specs.declared.limits.TheConstants.{MOST_RANGES}
use Rattle.std.proofs.lemmas.Bool.{eq-eqb}
use Rattle.ffa_model.specs.declared.endpoint.Version.{Version}
use Rattle.ffa_model.specs.declared.endpoint.Version.TheVariants.{Compact, V1_1, V1_2}
use Rattle.ffa_model.specs.declared.rights.Data.{Data}
use Rattle.ffa_model.specs.declared.rights.Kind.{Kind}
use Rattle.ffa_model.specs.declared.rights.Kind.TheVariants.{Share, Lend, Donate}
use Rattle.ffa_model.specs.declared.transaction.Range.{Range}
use Rattle.ffa_model.specs.declared.transaction.Receiver.{Receiver}
use Rattle.ffa_model.specs.DescriptorPlaces.{Versioned, in_version, header_size, accesses_size, array_place, access_place, receiver_count, composite_place, composite_field, range_count, range_place, IsHeader, data_code, data_of, normal_memory}
use Rattle.ffa_model.specs.Lists.{listed}
use Rattle.ffa_model.specs.SendDescriptor.{SendRecord, Send, IsAccess, IsComposite, IsRange, IsGrant, AreApart, most_flags, most_receivers, attributes_of, flags_but_type, is_attributes, range_in, receiver_in, range_end, page_total}
use Rattle.ffa_model.specs.ResponseBytes.{le, composite_bytes, range_bytes}
use Rattle.play_trace.specs.Composed.{heading_bytes, receiver_bytes, send_bytes, send_heading, composite_of}
use Rattle.play_trace.proofs.Relinquishes.{flag_told}
use Rattle.play_trace.proofs.Headings.{Fitting, Headed, headed, is_header_of, length-heading}
use Rattle.play_trace.proofs.Places.{Entry, entry_at, Stands, stands, Counted, counted}
use Rattle.play_trace.proofs.Splits.{IsSize, split_at, behind, followed, length-flat, listed_is}
use Rattle.play_trace.proofs.Sizes.{short_header, header_aligned, few_receivers, accesses, accesses_aligned, most_accesses}
use Rattle.ffa_memdesc.proofs.RetrieveLaw.{data_of-data_code}
use Rattle.ffa_model.proofs.ResponseSize.{length-composite, length-range}
use Rattle.ffa_model.specs.declared.manifest.Ffa.{Ffa}
use Rattle.ffa_model.specs.declared.manifest.Ffa.TheVariants as served

-- the conditions of the relation on what a send says
pub record Fit (kind : Kind) (r : SendRecord) : Type 0 where
  pub least : 1 ≤ length r.receivers
  pub most : length r.receivers ≤ most_receivers kind
  pub flag : cond r.zero 1 0 ≤ most_flags kind
  pub grants : (i : ℕ) (d : Receiver) → i < length r.receivers → IsGrant kind (data_code (get_or r.receivers i d).grant)
  pub other : (i : ℕ) (d : Receiver) → i < length r.receivers → (get_or r.receivers i d).endpoint.0 ≢ r.sender
  pub distinct : (i j : ℕ) (d : Receiver) → j < i → i < length r.receivers → (get_or r.receivers j d).endpoint.0 ≢ (get_or r.receivers i d).endpoint.0
  pub some_ranges : 1 ≤ length r.ranges
  pub few_ranges : length r.ranges ≤ MOST_RANGES
  pub pages : (i : ℕ) (d : Range) → i < length r.ranges → 1 ≤ (get_or r.ranges i d).pages
  pub aligned : (i : ℕ) (d : Range) → i < length r.ranges → (get_or r.ranges i d).address % 4096 ≡ 0
  pub below : (i : ℕ) (d : Range) → i < length r.ranges → range_end (get_or r.ranges i d) ≤ 2 ^ 48
  pub apart : (i j : ℕ) (d : Range) → j < i → i < length r.ranges → AreApart (get_or r.ranges i d) (get_or r.ranges j d)
  pub total : page_total r.ranges < 2 ^ 32

-- each number fits its field
pub record Small (r : SendRecord) : Type 0 where
  pub sender : r.sender < 2 ^ 16
  pub tag : r.tag < 2 ^ 64
  pub endpoints : (k : ℕ) → k < length r.receivers → (d : Receiver) → (get_or r.receivers k d).endpoint.0 < 2 ^ 16

attributes_small : (kind : Kind) (n : ℕ) → attributes_of kind n < 2 ^ 16
attributes_small Lend n = cases (eqb n 1)
  where
    cases : (t : Bool) → cond t 0 47 < 2 ^ 16
    cases true = omega arith
    cases false = omega arith
attributes_small _ n = omega arith

flag_few : (zero : Bool) → cond zero 1 0 < 2 ^ 32
flag_few true = omega arith
flag_few false = omega arith

size_aligned : (version : Version) (n : ℕ) → (header_size version + accesses_size version n) % 16 ≡ 0
size_aligned version n = omega (arith, header_aligned version, accesses_aligned version n)

length-receiver : (version : Version) (place : ℕ) (x : Receiver) → length (receiver_bytes version place x) ≡ accesses_size version 1
unfolding le
length-receiver Compact place x = refl
length-receiver V1_1 place x = refl
length-receiver V1_2 place x = refl

sixteens : IsSize (λ n. 16 * n)
sixteens = record { none = refl; more = λ n. omega arith }

-- the parts of the bytes
abbrev head : Version → Kind → SendRecord → List ℕ
head version kind r = heading_bytes version (send_heading kind r)

abbrev entries : Version → SendRecord → List ℕ
entries version r = flat_map (receiver_bytes version (composite_of version r)) r.receivers

abbrev runs : SendRecord → List ℕ
runs r = flat_map range_bytes r.ranges

abbrev written : Version → Kind → SendRecord → Versioned
written version kind r = in_version version (send_bytes version kind r)

same_receiver : (x : Receiver) (e : ℕ) (g : Option Data) → e ≡ x.endpoint.0 → g ≡ x.grant → record { endpoint = record { 0 = e }; grant = g } ≡ x
same_receiver x e g same grant = rw (same, grant) refl

nobody : Receiver
nobody = record { endpoint = record { 0 = 0 }; grant = None }

nothing : Range
nothing = record { address = 0; pages = 0 }

-- the memory attributes that are written are a send's on a machine of any FF-A, and the flags don't name the type
either-attributes : (b : Bool) → (eqb (cond b 0 normal_memory) 0 || eqb (cond b 0 normal_memory) normal_memory) ≡ true
either-attributes true = refl
either-attributes false = refl

own-attributes : (ffa : Ffa) (kind : Kind) (count a : ℕ) → a ≡ attributes_of kind count → is_attributes ffa kind count a ≡ true
own-attributes served.V1_2 Lend count a is = rw is (either-attributes (eqb count 1))
own-attributes served.V1_2 Share count a is = eq-eqb _ _ is
own-attributes served.V1_2 Donate count a is = eq-eqb _ _ is
own-attributes served.V1_1 kind count a is = eq-eqb _ _ is

own-flags : (ffa : Ffa) (kind : Kind) (zero : Bool) → flags_but_type ffa kind (cond zero 1 0) ≡ (cond zero 1 0)
own-flags served.V1_1 kind zero = refl
own-flags served.V1_2 Share true = refl
own-flags served.V1_2 Share false = refl
own-flags served.V1_2 Lend true = refl
own-flags served.V1_2 Lend false = refl
own-flags served.V1_2 Donate true = refl
own-flags served.V1_2 Donate false = refl

module _ (version : Version) (kind : Kind) (r : SendRecord) (fit : Fit kind r) (small : Small r) where
  regroup : send_bytes version kind r ≡ head version kind r ++ (entries version r ++ composite_bytes r.ranges ++ runs r)
  regroup = simp append_assoc

  fitting : Fitting (send_heading kind r)
  fitting =
      let most = fit.most in
      let four = few_receivers kind in
      record { sender = small.sender; attributes = attributes_small kind (length r.receivers); flags = flag_few r.zero; handle = omega arith; tag = small.tag; count = omega arith }

  length-before : length (head version kind r ++ entries version r) ≡ composite_of version r
  length-before =
      let a = length-append (head version kind r) (entries version r) in
      let b = length-heading version (send_heading kind r) in
      let c = length-flat (accesses_size version) (receiver_bytes version (composite_of version r)) r.receivers (accesses version) (length-receiver version (composite_of version r)) in
      omega arith

  -- the access descriptor of receiver i, and range i
  access : (i : ℕ) (d : Receiver) → i < length r.receivers
      → Entry version (send_bytes version kind r) (header_size version + accesses_size version i) (get_or r.receivers i d).endpoint.0 (data_code (get_or r.receivers i d).grant) (composite_of version r)
  access i d lt =
      let x = get_or r.receivers i d in
      let f = receiver_bytes version (composite_of version r) in
      let most = fit.most in
      let four = few_receivers kind in
      let size = short_header version in
      let s = followed _ _ (runs r) _ (followed _ _ (composite_bytes r.ranges) _ (behind (head version kind r) (entries version r) (f x) (header_size version) (accesses_size version i) (length-heading version (send_heading kind r)) (split_at (accesses_size version) f r.receivers i d (accesses version) (length-receiver version (composite_of version r)) lt))) in
      subst (λ (l : List ℕ). Entry version l (header_size version + accesses_size version i) x.endpoint.0 (data_code x.grant) (composite_of version r)) (sym s.is)
      (entry_at version s.front s.rest (header_size version + accesses_size version i) x.endpoint.0 (data_code x.grant) (composite_of version r) s.place (small.endpoints i lt d) (omega (arith, most_accesses version (length r.receivers))))

  composite : Counted (send_bytes version kind r) (composite_of version r) (page_total r.ranges) (length r.ranges)
  composite =
      let few = fit.few_ranges in
      subst (λ (l : List ℕ). Counted l (composite_of version r) (page_total r.ranges) (length r.ranges)) (sym (append_assoc (head version kind r ++ entries version r) (composite_bytes r.ranges) (runs r)))
      (counted (head version kind r ++ entries version r) (runs r) (composite_of version r) r.ranges length-before fit.total (omega arith))

  range : (i : ℕ) (d : Range) → i < length r.ranges → Stands (send_bytes version kind r) (composite_of version r + 16 + 16 * i) (get_or r.ranges i d)
  range i d lt =
      let q = get_or r.ranges i d in
      let before = head version kind r ++ entries version r ++ composite_bytes r.ranges in
      let long : length before ≡ composite_of version r + 16 =
      length-append (head version kind r ++ entries version r) (composite_bytes r.ranges) ∙ (let a = length-before in let b = length-composite r.ranges in omega arith) in
      let below = fit.below i d lt in
      let more = get_or-le-sum_by (λ (x : Range). x.pages) r.ranges i d lt in
      let total = fit.total in
      let s = behind before (runs r) (range_bytes q) (composite_of version r + 16) (16 * i) long (split_at (λ n. 16 * n) range_bytes r.ranges i d sixteens length-range lt) in
      subst (λ (l : List ℕ). Stands l (composite_of version r + 16 + 16 * i) q) (sym s.is)
      (stands s.front s.rest (composite_of version r + 16 + 16 * i) q s.place (omega arith) (omega arith))

  says : Headed (written version kind r) (send_heading kind r)
  says = subst (λ (l : List ℕ). Headed (in_version version l) (send_heading kind r)) (sym regroup)
      (headed version (send_heading kind r) (entries version r ++ composite_bytes r.ranges ++ runs r) fitting)

  -- the same at the places that the bytes tell
  entry : (i : ℕ) (d : Receiver) → i < length r.receivers
      → Entry version (send_bytes version kind r) (access_place (written version kind r) i) (get_or r.receivers i d).endpoint.0 (data_code (get_or r.receivers i d).grant) (composite_of version r)
  entry i d lt =
      subst (λ (n : ℕ). Entry version (send_bytes version kind r) (n + accesses_size version i) (get_or r.receivers i d).endpoint.0 (data_code (get_or r.receivers i d).grant) (composite_of version r)) (sym says.array) (access i d lt)

  place : composite_place (written version kind r) ≡ composite_of version r
  place =
      let array = says.array in
      let at : array_place (written version kind r) ≡ header_size version + accesses_size version 0 = omega (arith, (accesses version).none) in
      ap (λ (n : ℕ). composite_field (send_bytes version kind r) n) at ∙ (access 0 nobody fit.least).composite

  counts : Counted (send_bytes version kind r) (composite_place (written version kind r)) (page_total r.ranges) (length r.ranges)
  counts = subst (λ (n : ℕ). Counted (send_bytes version kind r) n (page_total r.ranges) (length r.ranges)) (sym place) composite

  run : (i : ℕ) (d : Range) → i < length r.ranges → Stands (send_bytes version kind r) (range_place (written version kind r) i) (get_or r.ranges i d)
  run i d lt = subst (λ (n : ℕ). Stands (send_bytes version kind r) (n + 16 + 16 * i) (get_or r.ranges i d)) (sym place) (range i d lt)

  long : length (send_bytes version kind r) ≡ composite_of version r + 16 + 16 * length r.ranges
  long =
      let a = length-append (head version kind r ++ entries version r ++ composite_bytes r.ranges) (runs r) in
      let b = length-append (head version kind r ++ entries version r) (composite_bytes r.ranges) in
      let c = length-composite r.ranges in
      let d = length-before in
      let e = length-flat (λ n. 16 * n) range_bytes r.ranges sixteens length-range in
      omega arith

  within : (i : ℕ) → i < receiver_count (written version kind r) → i < length r.receivers
  within i lt = let count = says.count in omega arith

  inside : (i : ℕ) → i < range_count (written version kind r) → i < length r.ranges
  inside i lt = let count = counts.ranges in omega arith

  is_access : (i : ℕ) → i < length r.receivers → IsAccess kind (written version kind r) (access_place (written version kind r) i)
  is_access i lt =
      let e = entry i nobody lt in
      record {
        permissions = subst (λ (p : ℕ). IsGrant kind p) (sym e.permissions) (fit.grants i nobody lt);
        flags = e.flags;
        composite = e.composite ∙ sym place;
        reserved = e.reserved;
        other = λ same. fit.other i nobody lt (sym e.endpoint ∙ same ∙ says.sender);
      }

  is_composite : IsComposite (written version kind r)
  is_composite =
      let array = says.array in
      let count = says.count in
      let at = place in
      let ranges = counts.ranges in
      let least = fit.some_ranges in
      let most = fit.few_ranges in
      let all = long in
      record {
        aligned = ap (λ (n : ℕ). n % 16) place ∙ size_aligned version (length r.receivers);
        behind = omega (arith, ap (accesses_size version) count);
        least = omega arith;
        most = omega arith;
        reserved = counts.reserved;
        inside = omega arith;
      }

  is_range : (i : ℕ) → i < length r.ranges → IsRange (send_bytes version kind r) (range_place (written version kind r) i)
  is_range i lt =
      let s = run i nothing lt in
      record {
        least = subst (λ (q : Range). 1 ≤ q.pages) (sym s.says) (fit.pages i nothing lt);
        aligned = subst (λ (q : Range). q.address % 4096 ≡ 0) (sym s.says) (fit.aligned i nothing lt);
        below = subst (λ (q : Range). range_end q ≤ 2 ^ 48) (sym s.says) (fit.below i nothing lt);
        reserved = s.reserved;
      }

  are_apart : (i j : ℕ) → j < i → i < length r.ranges → AreApart (range_in (written version kind r) i) (range_in (written version kind r) j)
  are_apart i j before lt =
      subst (λ (q : Range). AreApart q (range_in (written version kind r) j)) (sym (run i nothing lt).says)
      (subst (λ (q : Range). AreApart (get_or r.ranges i nothing) q) (sym (run j nothing (omega arith)).says) (fit.apart i j nothing before lt))

  receivers : listed (receiver_count (written version kind r)) (receiver_in (written version kind r)) ≡ r.receivers
  receivers =
      ap (λ (n : ℕ). listed n (receiver_in (written version kind r))) says.count
      ∙ listed_is r.receivers (receiver_in (written version kind r)) (λ i d lt. same_receiver (get_or r.receivers i d) _ _ (entry i d lt).endpoint (ap data_of (entry i d lt).permissions ∙ data_of-data_code (get_or r.receivers i d).grant))

  ranges : listed (range_count (written version kind r)) (range_in (written version kind r)) ≡ r.ranges
  ranges =
      ap (λ (n : ℕ). listed n (range_in (written version kind r))) counts.ranges
      ∙ listed_is r.ranges (range_in (written version kind r)) (λ i d lt. (run i d lt).says)

  pub sends : (ffa : Ffa) → Send ffa kind (written version kind r) r
  sends ffa =
      let count = says.count in
      let untyped = ap (flags_but_type ffa kind) says.flags ∙ own-flags ffa kind r.zero in
      let least = fit.least in
      let most = fit.most in
      let all = long in
      let a = length-append (entries version r ++ composite_bytes r.ranges) (runs r) in
      let b = length-append (entries version r) (composite_bytes r.ranges) in
      let c = length-flat (accesses_size version) (receiver_bytes version (composite_of version r)) r.receivers (accesses version) (length-receiver version (composite_of version r)) in
      record {
        header = subst (λ (l : List ℕ). IsHeader (in_version version l)) (sym regroup)
            (is_header_of version (send_heading kind r) (entries version r ++ composite_bytes r.ranges ++ runs r) fitting (omega (arith, ap (accesses_size version) count)));
        attributes = own-attributes ffa kind _ _ (says.attributes ∙ ap (λ (n : ℕ). attributes_of kind n) (sym says.count));
        flags = subst (λ (n : ℕ). n ≤ most_flags kind) (sym untyped) fit.flag;
        handle = says.handle;
        least = omega arith;
        most = subst (λ (n : ℕ). n ≤ most_receivers kind) (sym says.count) fit.most;
        accesses = λ i lt. is_access i (within i lt);
        distinct = λ i j before lt same. fit.distinct i j nobody before (within i lt) (sym (entry j nobody (let lt = within i lt in omega arith)).endpoint ∙ same ∙ (entry i nobody (within i lt)).endpoint);
        composite = is_composite;
        each = λ i lt. is_range i (inside i lt);
        apart = λ i j before lt. are_apart i j before (inside i lt);
        total = ap page_total ranges ∙ sym counts.pages;
        sender = sym says.sender;
        zero = rw untyped (flag_told r.zero);
        tag = sym says.tag;
        receivers = sym receivers;
        ranges = sym ranges;
      }
