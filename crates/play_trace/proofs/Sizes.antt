-- SPDX-License-Identifier: MIT OR Apache-2.0
-- How many bytes access descriptors have; and a send descriptor that is written fits a page.
use Rattle.std.proofs.Common.{◌≡◌, ℕ, ◌*◌, ◌%◌, ◌≤◌, List, length, take, Result, Ok, Err, refl, ap, ◌∙◌, arith, IfOk}
use Rattle.ffa_model.specs.declared.endpoint.Version.{Version}
use Rattle.ffa_model.specs.declared.endpoint.Version.TheVariants.{Compact, V1_1, V1_2}
use Rattle.ffa_model.specs.declared.rights.Kind.{Kind}
use Rattle.ffa_model.specs.declared.rights.Kind.TheVariants.{Share}
use Rattle.ffa_model.specs.DescriptorPlaces.{Versioned, in_version, header_size, accesses_size, receiver_count, range_count}
use Rattle.ffa_model.specs.SendDescriptor.{SendRecord, Send, receiver_in, range_in, most_receivers}
use Rattle.ffa_model.proofs.Listed.{length-listed}
use Rattle.play_trace.specs.declared.unfit.Unfit.{Unfit}
use Rattle.play_trace.specs.Composed.{send_size}
use Rattle.play_trace.proofs.Splits.{IsSize}
use Rattle.ffa_model.specs.declared.manifest.Ffa.{Ffa}
use Rattle.ffa_model.specs.declared.manifest.Ffa.TheVariants as served

pub few_receivers : (kind : Kind) → most_receivers kind ≤ 4
few_receivers Share = omega arith
few_receivers _ = omega arith

pub short_header : (version : Version) → header_size version ≤ 48
short_header Compact = omega arith
short_header V1_1 = omega arith
short_header V1_2 = omega arith

pub header_aligned : (version : Version) → header_size version % 16 ≡ 0
header_aligned Compact = refl
header_aligned V1_1 = refl
header_aligned V1_2 = refl

-- access descriptors are parts of the same size, which is a multiple of 16
pub accesses : (version : Version) → IsSize (accesses_size version)
accesses Compact = record { none = refl; more = λ n. omega arith }
accesses V1_1 = record { none = refl; more = λ n. omega arith }
accesses V1_2 = record { none = refl; more = λ n. omega arith }

pub accesses_aligned : (version : Version) (n : ℕ) → accesses_size version n % 16 ≡ 0
accesses_aligned Compact n = omega arith
accesses_aligned V1_1 n = omega arith
accesses_aligned V1_2 n = omega arith

-- each has 16 or 32 bytes
pub least_accesses : (version : Version) (n : ℕ) → 16 * n ≤ accesses_size version n
least_accesses Compact n = omega arith
least_accesses V1_1 n = omega arith
least_accesses V1_2 n = omega arith

pub most_accesses : (version : Version) (n : ℕ) → accesses_size version n ≤ 32 * n
most_accesses Compact n = omega arith
most_accesses V1_1 n = omega arith
most_accesses V1_2 n = omega arith

small : (ffa : Ffa) (version : Version) (kind : Kind) (b : Versioned) (r : SendRecord) → Send ffa kind b r → send_size version r ≤ 4096
small ffa version kind b r s =
    let receivers : length r.receivers ≡ receiver_count b = ap length s.receivers ∙ length-listed (receiver_count b) (receiver_in b) in
    let ranges : length r.ranges ≡ range_count b = ap length s.ranges ∙ length-listed (range_count b) (range_in b) in
    omega (arith, receivers, ranges, s.most, s.composite.most, few_receivers kind, short_header version, most_accesses version (length r.receivers))

pub fits_page : (version : Version) (kind : Kind) (r : SendRecord) (page : List ℕ) (size : Result ℕ Unfit) → IfOk size (λ n. n ≡ send_size version r)
    → IfOk size (λ n. (ffa : Ffa) → Send ffa kind (in_version version (take n page)) r) → IfOk size (λ n. n ≤ 4096)
fits_page version kind r page (Ok n) is said = omega (arith, is, small served.V1_1 version kind (in_version version (take n page)) r (said served.V1_1))
fits_page version kind r page (Err cause) is said = tt
