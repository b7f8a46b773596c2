-- SPDX-License-Identifier: MIT OR Apache-2.0
-- What was read meets the conditions of a manifest.
use Rattle.std.proofs.Common.{◌≡◌, ℕ, ◌+◌, ◌-◌, ◌*◌, ◌%◌, ◌^◌, ◌≤◌, suc, Bool, true, false, ◌&&◌, ◌||◌, not, ◌==◌, List, [], ◌∷◌, ◌++◌, length, append-nil, Ok, refl, sym, ap, ◌∙◌, subst, append_assoc, replicate, codes, arith, mul-le-mul_right, nat_le, nat_lt}
use Rattle.std.specs.List.{list_all}
use Rattle.std.proofs.lemmas.Bool.{and_parts, or_parts, eq-eqb, eqb-true, le-leb, leb-true, ne_eqb, cond-false}
use Rattle.std.proofs.lemmas.List.Folds.{list_all-append}
use Rattle.toml.specs.Data.{Data, Items, as_table, Members}
use Rattle.uuid.specs.Text.{parsed}
use Rattle.ffa_model.specs.declared.limits.TheConstants.{MOST_BLOCKS, MOST_ENDPOINTS, MOST_RAM, MOST_REGIONS}
use Rattle.ffa_model.specs.declared.endpoint.Region.{Region}
use Rattle.ffa_model.specs.declared.endpoint.Endpoint.{Endpoint}
use Rattle.ffa_model.specs.declared.endpoint.Version.{Version}
use Rattle.ffa_model.specs.declared.endpoint.Version.TheVariants.{V1_1}
use Rattle.ffa_model.specs.declared.manifest.Ffa.{Ffa}
use Rattle.ffa_model.specs.Bits.{is_set}
use Rattle.ffa_model.specs.Manifest.{has_tables, is_accepted, is_ram_base, is_ram_size, is_from_to, is_placed, are_apart, regions_of, are_counted, are_identified, are_properties, is_normal_world, is_partition, is_nil}
use Rattle.ffa_manifest.specs.declared.error.ManifestError.TheVariants.{WrongKind, EndpointCount, Uuid, Property, RamBase, RamBlocks}
use Rattle.ffa_manifest.specs.Reading.{or_cause, item_count}
use Rattle.ffa_manifest.specs.Keys.{text_at, integer_at}
use Rattle.ffa_manifest.specs.Regions.{regions_at}
use Rattle.ffa_manifest.specs.Endpoints.{normal_world, normal_world_keys, normal_world_properties, partition, partition_keys, version_at, identifier, uuid_at, properties_at, endpoint_of, next_endpoint, endpoints_from, endpoint_items}
use Rattle.ffa_manifest.specs.Document.{is_text_base, ram_base_at, ram_blocks_at}
use Rattle.ffa_manifest.proofs.Steps.{bind_ok, refusal_ok, tested_ok, read_each-keeps, length-read_all, items_at-count}
use Rattle.ffa_manifest.proofs.RegionsRead.{RegionsRead, regions_at-read}

identifier-some : (text uuid : List ℕ) → identifier text ≡ Ok uuid → not (is_nil uuid) ≡ true
unfolding identifier
identifier-some text uuid h =
    let (u, _, h1) = bind_ok (or_cause Uuid (parsed text)) _ uuid h in
    let g = refusal_ok (is_nil u) Uuid u uuid h1 in
    ap (λ x. not (is_nil x)) (sym g.1) ∙ ap not g.0

uuid_at-some : (ms : Members) (uuid : List ℕ) → uuid_at ms ≡ Ok uuid → not (is_nil uuid) ≡ true
unfolding uuid_at
uuid_at-some ms uuid h = let (text, _, h1) = bind_ok (text_at (codes "uuid") ms) _ uuid h in identifier-some text uuid h1

properties_at-allowed : (version : Version) (ms : Members) (n : ℕ) → properties_at version ms ≡ Ok n → are_properties version n ≡ true
unfolding properties_at
properties_at-allowed version ms n h =
    let (o, _, h1) = bind_ok (integer_at (codes "properties") ms) _ n h in tested_ok (are_properties version) Property o n h1

normal_world_properties-pass : (ms : Members) (n : ℕ) → normal_world_properties ms ≡ Ok n → (nat_lt n 16 && (not (is_set 0 n) && not (is_set 3 n))) ≡ true
unfolding normal_world_properties
normal_world_properties-pass ms n h =
    let (m, is, h1) = bind_ok (properties_at V1_1 ms) _ n h in
    let g = refusal_ok (is_set 0 m || is_set 3 m) Property m n h1 in
    let (first, fourth) = or_parts (is_set 0 m) (is_set 3 m) g.0 in
    let passes : (nat_lt m 16 && (not (is_set 0 m) && not (is_set 3 m))) ≡ true = rw (properties_at-allowed V1_1 ms m is, first, fourth) refl in
    ap (λ x. nat_lt x 16 && (not (is_set 0 x) && not (is_set 3 x))) (sym g.1) ∙ passes

-- the first endpoint is the normal world, each other one a partition
abbrev pub is_next : List Endpoint → Endpoint → Bool
is_next [] e = is_normal_world e
is_next (b ∷ bs) e = is_partition e

-- an endpoint after these
pub record EndpointRead (placed : Region → Bool) (before : List Endpoint) (e : Endpoint) : Type 0 where
  pub regions : RegionsRead placed (regions_of before) e.regions.items
  pub identified : is_next before e ≡ true

normal_world-read : (ffa : Ffa) (placed : Region → Bool) (ms : Members) (e : Endpoint) → normal_world ffa placed ms ≡ Ok e → EndpointRead placed [] e
unfolding normal_world
normal_world-read ffa placed ms e h =
    let (_, _, h1) = bind_ok (normal_world_keys ms) _ e h in
    let (version, _, h2) = bind_ok (version_at ffa ms) _ e h1 in
    let (properties, few, h3) = bind_ok (normal_world_properties ms) _ e h2 in
    let (regions, read, h4) = bind_ok (regions_at placed [] ms) _ e h3 in
    let is : endpoint_of version (replicate 16 0) properties regions ≡ e = cc in
    subst (EndpointRead placed []) is (record {
      regions = regions_at-read placed [] ms regions refl read;
      identified = normal_world_properties-pass ms properties few;
    })

partition-read : (ffa : Ffa) (placed : Region → Bool) (b : Endpoint) (bs : List Endpoint) (ms : Members) (e : Endpoint) → are_apart (regions_of (b ∷ bs)) ≡ true → partition ffa placed (b ∷ bs) ms ≡ Ok e → EndpointRead placed (b ∷ bs) e
unfolding partition
partition-read ffa placed b bs ms e apart h =
    let (_, _, h1) = bind_ok (partition_keys ms) _ e h in
    let (version, _, h2) = bind_ok (version_at ffa ms) _ e h1 in
    let (uuid, some, h3) = bind_ok (uuid_at ms) _ e h2 in
    let (properties, few, h4) = bind_ok (properties_at version ms) _ e h3 in
    let (regions, read, h5) = bind_ok (regions_at placed (regions_of (b ∷ bs)) ms) _ e h4 in
    let is : endpoint_of version uuid properties regions ≡ e = cc in
    subst (EndpointRead placed (b ∷ bs)) is (record {
      regions = regions_at-read placed (regions_of (b ∷ bs)) ms regions apart read;
      identified = rw (uuid_at-some ms uuid some, properties_at-allowed version ms properties few) refl;
    })

pub none-some : (n : ℕ) → (suc n == 0) ≡ false
none-some n = ne_eqb (suc n) 0 (λ e. absurd (omega arith))

next_endpoint-read : (ffa : Ffa) (placed : Region → Bool) (before : List Endpoint) (d : Data) (e : Endpoint) → are_apart (regions_of before) ≡ true → next_endpoint ffa placed before d ≡ Ok e → EndpointRead placed before e
unfolding next_endpoint
next_endpoint-read ffa placed [] d e apart h =
    let (ms, _, h1) = bind_ok (or_cause WrongKind (as_table d)) _ e h in
    normal_world-read ffa placed ms e h1
next_endpoint-read ffa placed (b ∷ bs) d e apart h =
    let (ms, _, h1) = bind_ok (or_cause WrongKind (as_table d)) _ e h in
    partition-read ffa placed b bs ms e apart (sym (cond-false (suc (length bs) == 0) (normal_world ffa placed ms) (partition ffa placed (b ∷ bs) ms) (none-some (length bs))) ∙ h1)

regions_of-last : (es : List Endpoint) (e : Endpoint) → regions_of (es ++ e ∷ []) ≡ regions_of es ++ e.regions.items
regions_of-last [] e = append-nil e.regions.items
regions_of-last (b ∷ es) e = rw (regions_of-last es e) (sym (append_assoc b.regions.items (regions_of es) e.regions.items))

-- the first is the normal world, the others are partitions, where there is a first
abbrev pub are_named : List Endpoint → Bool
are_named [] = true
are_named (e ∷ es) = are_identified (e ∷ es)

are_named-last : (es : List Endpoint) (e : Endpoint) → are_named es ≡ true → is_next es e ≡ true → are_named (es ++ e ∷ []) ≡ true
are_named-last [] e h named = rw named refl
are_named-last (b ∷ es) e h named =
    let (first, others) = and_parts (is_normal_world b) (list_all is_partition es) h in
    rw (first, list_all-append is_partition es (e ∷ []), others, named) refl

-- the endpoints so far meet the conditions
pub record EndpointsRead (placed : Region → Bool) (es : List Endpoint) : Type 0 where
  pub named : are_named es ≡ true
  pub counted : are_counted es ≡ true
  pub in_place : list_all placed (regions_of es) ≡ true
  pub apart : are_apart (regions_of es) ≡ true

-- with one more endpoint after them
pub EndpointsRead-last : (placed : Region → Bool) (es : List Endpoint) (e : Endpoint) → EndpointsRead placed es → EndpointRead placed es e → EndpointsRead placed (es ++ e ∷ [])
EndpointsRead-last placed es e so_far next = record {
  named = are_named-last es e so_far.named next.identified;
  counted = rw (list_all-append (λ (x : Endpoint). is_from_to 1 MOST_REGIONS (length x.regions.items)) es (e ∷ []), so_far.counted, next.regions.counted) refl;
  in_place = rw (regions_of-last es e, list_all-append placed (regions_of es) e.regions.items, so_far.in_place, next.regions.sound.in_place) refl;
  apart = rw (regions_of-last es e) next.regions.sound.apart;
}

one_more : (ffa : Ffa) (placed : Region → Bool) (es : List Endpoint) (d : Data) (e : Endpoint) → EndpointsRead placed es → next_endpoint ffa placed es d ≡ Ok e → EndpointsRead placed (es ++ e ∷ [])
one_more ffa placed es d e so_far is = EndpointsRead-last placed es e so_far (next_endpoint-read ffa placed es d e so_far.apart is)

pub named_some : (es : List Endpoint) → is_from_to 1 MOST_ENDPOINTS (length es) ≡ true → are_named es ≡ true → are_identified es ≡ true
named_some [] some h = cc
named_some (e ∷ es) some h = h

-- where a text lets RAM begin, it may, with any number of blocks
text-placed : (base blocks : ℕ) → is_text_base base ≡ true → is_from_to 1 MOST_BLOCKS blocks ≡ true → (is_ram_base base ≡ true) × (is_ram_size base blocks ≡ true)
text-placed base blocks place size =
    let (front, most) = and_parts (base % MOST_RAM == 0 && nat_le MOST_RAM base) (nat_le base (2 ^ 32 - MOST_RAM)) place in
    let (whole, least) = and_parts (base % MOST_RAM == 0) (nat_le MOST_RAM base) front in
    let (some, few) = and_parts (nat_le 1 blocks) (nat_le blocks MOST_BLOCKS) size in
    let aligned : base % MOST_RAM ≡ 0 = eqb-true _ _ whole in
    let low : MOST_RAM ≤ base = leb-true _ _ least in
    let high : base ≤ 2 ^ 32 - MOST_RAM = leb-true _ _ most in
    let count : blocks ≤ MOST_BLOCKS = leb-true _ _ few in
    let block : base % 0x200000 ≡ 0 = omega (arith, aligned) in
    let from : 0x200000 ≤ base = omega (arith, low) in
    let within : base + 0x200000 * blocks ≤ 2 ^ 32 = omega (arith, high, count) in
    let one : base % 2 ^ 30 + 0x200000 * blocks ≤ 2 ^ 30 = omega (arith, aligned, count) in
    let tests : (nat_le (base + 0x200000 * blocks) (2 ^ 32) && nat_le (base % 2 ^ 30 + 0x200000 * blocks) (2 ^ 30)) ≡ true =
    rw (le-leb _ _ within, le-leb _ _ one) refl
    in
    (rw (eq-eqb (base % 0x200000) 0 block, le-leb 0x200000 base from) refl, rw (some, few, tests) refl)

-- RAM of at least a block has the tables of all endpoints from its first page on
first-tables : (blocks count : ℕ) → is_from_to 1 MOST_BLOCKS blocks ≡ true → is_from_to 1 MOST_ENDPOINTS count ≡ true → has_tables 0 blocks count ≡ true
first-tables blocks count size few =
    let some : 1 ≤ blocks = leb-true 1 blocks (and_parts (nat_le 1 blocks) (nat_le blocks MOST_BLOCKS) size).0 in
    let most : count ≤ MOST_ENDPOINTS = leb-true count MOST_ENDPOINTS (and_parts (nat_le 1 count) (nat_le count MOST_ENDPOINTS) few).1 in
    let rows : count * (2 + blocks) ≤ MOST_ENDPOINTS * (2 + blocks) = mul-le-mul_right (2 + blocks) most in
    le-leb (0 + count * (2 + blocks)) (512 * blocks) (omega (arith, rows, some))

-- the RAM and the endpoints that were read make a machine
pub accepted_parts : (ffa : Ffa) (ms : Members) (base blocks : ℕ) (ds : Items) (es : List Endpoint) → ram_base_at ms ≡ Ok base → ram_blocks_at ms ≡ Ok blocks → endpoint_items ms ≡ Ok ds
    → endpoints_from ffa (is_placed base 0 blocks (item_count ds)) ds ≡ Ok es → is_accepted base 0 blocks es ≡ true
unfolding ram_base_at ram_blocks_at endpoint_items endpoints_from
accepted_parts ffa ms base blocks ds es base_is blocks_is items read =
    let (first, _, h1) = bind_ok (integer_at (codes "ram_base") ms) _ base base_is in
    let (second, _, h2) = bind_ok (integer_at (codes "ram_blocks") ms) _ blocks blocks_is in
    let count : length es ≡ item_count ds = length-read_all _ ds es read in
    let few : is_from_to 1 MOST_ENDPOINTS (length es) ≡ true = ap (is_from_to 1 MOST_ENDPOINTS) count ∙ items_at-count _ MOST_ENDPOINTS EndpointCount ms ds items in
    let all : EndpointsRead (is_placed base 0 blocks (item_count ds)) es = read_each-keeps (EndpointsRead (is_placed base 0 blocks (item_count ds))) (next_endpoint ffa (is_placed base 0 blocks (item_count ds)))
    (one_more ffa (is_placed base 0 blocks (item_count ds))) [] ds es (record { named = refl; counted = refl; in_place = refl; apart = refl }) read in
    let (base_good, size_good) = text-placed base blocks (tested_ok is_text_base RamBase first base h1) (tested_ok (is_from_to 1 MOST_BLOCKS) RamBlocks second blocks h2) in
    rw (base_good, size_good, few, first-tables blocks (length es) (tested_ok (is_from_to 1 MOST_BLOCKS) RamBlocks second blocks h2) few, named_some es few all.named, all.counted, count, all.in_place, all.apart) refl
