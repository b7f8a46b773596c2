-- SPDX-License-Identifier: MIT OR Apache-2.0
-- What is read behind other bytes.
use Rattle.std.proofs.Common.{◌≡◌, ◌∙◌, ℕ, suc, ◌+◌, ◌^◌, ◌<◌, true, List, [], ◌∷◌, ◌++◌, length, refl, ap, arith, slice_index}
use Rattle.byteorder.specs.Endian.{little_from}
use Rattle.byteorder.specs.Numbers.{little_from-cons, little_number-reads_back}
use Rattle.ffa_model.specs.DescriptorPlaces.{u16_at, u32_at, u64_at, endpoint_field, permissions_field, access_flags_field, composite_field, is_access_rest_zero}
use Rattle.ffa_model.specs.declared.endpoint.Version.{Version}
use Rattle.ffa_model.specs.declared.endpoint.Version.TheVariants.{Compact, V1_1, V1_2}
use Rattle.ffa_model.specs.declared.transaction.Range.{Range}
use Rattle.ffa_model.specs.SendDescriptor.{page_total, range_at}
use Rattle.ffa_model.specs.ResponseBytes.{le, composite_bytes, range_bytes}
use Rattle.play_trace.specs.Composed.{entry_bytes}

pub little_behind : (front mid : List ℕ) (at n k to : ℕ) → length front ≡ at → at + k ≡ to → little_from to n (front ++ mid) ≡ little_from k n mid
little_behind [] mid at n k to long e = let same : to ≡ k = omega arith in ap (λ (i : ℕ). little_from i n mid) same
little_behind (x ∷ xs) mid at n k to long e =
    let next : to ≡ suc (length xs + k) = omega arith in
    ap (λ (i : ℕ). little_from i n (x ∷ (xs ++ mid))) next
    ∙ little_from-cons (length xs + k) n x (xs ++ mid)
    ∙ little_behind xs mid (length xs) n k (length xs + k) refl refl

pub byte_behind : (front mid : List ℕ) (at k to : ℕ) → length front ≡ at → at + k ≡ to → slice_index (front ++ mid) to ≡ slice_index mid k
byte_behind front mid at k to long e = let one = little_behind front mid at 1 k to long e in omega arith

-- the access descriptor at a place, in a version's form
pub record Entry (version : Version) (b : List ℕ) (at e p c : ℕ) : Type 0 where
  pub endpoint : endpoint_field b at ≡ e
  pub permissions : permissions_field b at ≡ p
  pub flags : access_flags_field b at ≡ 0
  pub composite : composite_field b at ≡ c
  pub reserved : is_access_rest_zero version b at ≡ true

-- zeros behind the composite's place
rest_at : (version : Version) (front rest : List ℕ) (at endpoint permissions composite : ℕ) → length front ≡ at
    → is_access_rest_zero version (front ++ (entry_bytes version endpoint permissions composite ++ rest)) at ≡ true
unfolding le u64_at
rest_at Compact front rest at endpoint permissions composite long =
    let mid = entry_bytes Compact endpoint permissions composite ++ rest in
    rw (little_behind front mid at 8 8 (at + 8) long refl) refl
rest_at V1_1 front rest at endpoint permissions composite long =
    let mid = entry_bytes V1_1 endpoint permissions composite ++ rest in
    rw (little_behind front mid at 8 8 (at + 8) long refl) refl
rest_at V1_2 front rest at endpoint permissions composite long =
    let mid = entry_bytes V1_2 endpoint permissions composite ++ rest in
    rw (little_behind front mid at 8 8 (at + 8) long refl, little_behind front mid at 8 16 (at + 16) long refl, little_behind front mid at 8 24 (at + 24) long refl) refl

pub entry_at : (version : Version) (front rest : List ℕ) (at endpoint permissions composite : ℕ) → length front ≡ at → endpoint < 2 ^ 16 → composite < 2 ^ 32
    → Entry version (front ++ (entry_bytes version endpoint permissions composite ++ rest)) at endpoint permissions composite
unfolding le u16_at u32_at u64_at
entry_at version front rest at endpoint permissions composite long small near =
    let mid = entry_bytes version endpoint permissions composite ++ rest in
    record {
      endpoint = little_behind front mid at 2 0 at long (omega arith) ∙ little_number-reads_back 2 endpoint [] small;
      permissions = byte_behind front mid at 2 (at + 2) long refl;
      flags = byte_behind front mid at 3 (at + 3) long refl;
      composite = little_behind front mid at 4 4 (at + 4) long refl ∙ little_number-reads_back 4 composite [] near;
      reserved = rest_at version front rest at endpoint permissions composite long;
    }

-- the range at a place
pub record Stands (b : List ℕ) (at : ℕ) (q : Range) : Type 0 where
  pub says : range_at b at ≡ q
  pub reserved : u32_at b (at + 12) ≡ 0

same_range : (q : Range) (address pages : ℕ) → address ≡ q.address → pages ≡ q.pages → record { address = address; pages = pages } ≡ q
same_range q address pages a p = rw (a, p) refl

pub stands : (front rest : List ℕ) (at : ℕ) (q : Range) → length front ≡ at → q.address < 2 ^ 64 → q.pages < 2 ^ 32 → Stands (front ++ (range_bytes q ++ rest)) at q
unfolding le u32_at u64_at
stands front rest at q long low few =
    let mid = range_bytes q ++ rest in
    record {
      says = same_range q _ _
          (little_behind front mid at 8 0 at long (omega arith) ∙ little_number-reads_back 8 q.address [] low)
          (little_behind front mid at 4 8 (at + 8) long refl ∙ little_number-reads_back 4 q.pages [] few);
      reserved = little_behind front mid at 4 12 (at + 12) long refl;
    }

-- the composite at a place
pub record Counted (b : List ℕ) (at total count : ℕ) : Type 0 where
  pub pages : u32_at b at ≡ total
  pub ranges : u32_at b (at + 4) ≡ count
  pub reserved : u64_at b (at + 8) ≡ 0

pub counted : (front rest : List ℕ) (at : ℕ) (ranges : List Range) → length front ≡ at → page_total ranges < 2 ^ 32 → length ranges < 2 ^ 32
    → Counted (front ++ (composite_bytes ranges ++ rest)) at (page_total ranges) (length ranges)
unfolding le u32_at u64_at
counted front rest at ranges long total few =
    let mid = composite_bytes ranges ++ rest in
    record {
      pages = little_behind front mid at 4 0 at long (omega arith) ∙ little_number-reads_back 4 (page_total ranges) [] total;
      ranges = little_behind front mid at 4 4 (at + 4) long refl ∙ little_number-reads_back 4 (length ranges) [] few;
      reserved = little_behind front mid at 8 8 (at + 8) long refl;
    }
