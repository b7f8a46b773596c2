-- SPDX-License-Identifier: MIT OR Apache-2.0
-- What an accepted manifest gives, fact by fact.
use Rattle.std.proofs.Common.{◌≡◌, ℕ, ◌+◌, ◌*◌, ◌%◌, ◌^◌, ◌≤◌, true, List, length}
use Rattle.std.specs.List.{list_all}
use Rattle.std.proofs.lemmas.Bool.{and_parts, leb-true, eqb-true}
use Rattle.ffa_model.specs.declared.limits.TheConstants.{MOST_BLOCKS, MOST_ENDPOINTS}
use Rattle.ffa_model.specs.declared.endpoint.Endpoint.{Endpoint}
use Rattle.ffa_model.specs.Manifest.{is_accepted, is_placed, table_pages, are_identified, are_counted, are_apart, regions_of}

pub record Accepted (base tables blocks : ℕ) (es : List Endpoint) : Type 0 where
  pub aligned : base % 0x200000 ≡ 0
  pub lowest : 0x200000 ≤ base
  pub within : base + 0x200000 * blocks ≤ 2 ^ 32
  pub one_table : base % 2 ^ 30 + 0x200000 * blocks ≤ 2 ^ 30
  pub some_blocks : 1 ≤ blocks
  pub few_blocks : blocks ≤ MOST_BLOCKS
  pub some_endpoints : 1 ≤ length es
  pub few_endpoints : length es ≤ MOST_ENDPOINTS
  pub room : tables + length es * table_pages blocks ≤ 512 * blocks
  pub identified : are_identified es ≡ true
  pub counted : are_counted es ≡ true
  pub placed : list_all (is_placed base tables blocks (length es)) (regions_of es) ≡ true
  pub apart : are_apart (regions_of es) ≡ true

pub accepted : (base tables blocks : ℕ) (es : List Endpoint) → is_accepted base tables blocks es ≡ true → Accepted base tables blocks es
accepted base tables blocks es h =
    let (numbers, regions) = and_parts _ _ h in
    let (ram, endpoints) = and_parts _ _ numbers in
    let (place, size) = and_parts _ _ ram in
    let (aligned, least) = and_parts _ _ place in
    let (number, there) = and_parts _ _ size in
    let (few, some) = and_parts _ _ number in
    let (within, one) = and_parts _ _ there in
    let (numbered, identified) = and_parts _ _ endpoints in
    let (count, room) = and_parts _ _ numbered in
    let (least_count, eight) = and_parts _ _ count in
    let (counted, rest) = and_parts _ _ regions in
    let (placed, apart) = and_parts _ _ rest in
    record {
      aligned = eqb-true _ _ aligned;
      lowest = leb-true _ _ least;
      within = leb-true _ _ within;
      one_table = leb-true _ _ one;
      some_blocks = leb-true _ _ few;
      few_blocks = leb-true _ _ some;
      some_endpoints = leb-true _ _ least_count;
      few_endpoints = leb-true _ _ eight;
      room = leb-true _ _ room;
      identified = identified;
      counted = counted;
      placed = placed;
      apart = apart;
    }
