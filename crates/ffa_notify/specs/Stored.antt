-- SPDX-License-Identifier: MIT OR Apache-2.0
-- FOR PROOFS ALONE
-- What the code stores, as clauses see it: words of bits and lists of notices, and the sets that they mean.
use Rattle.std.specs.Prelude.{◌≡◌, ℕ, ◌+◌, ◌*◌, ◌≤◌, ◌-◌, nat_le, nat_lt, Bool, false, ◌&&◌, List, length, map, slice_index, slice_index_or}
use Rattle.std.specs.Ordering.{nat_cmp}
use Rattle.std.specs.Cmp.Lexicographic.{slice_cmp}
use Rattle.std.specs.List.{flat_map}
use Rattle.std.specs.FinSet as finite_set
use Rattle.ffa_model.specs.declared.limits.TheConstants.{MOST_ENDPOINTS}
use Rattle.ffa_model.specs.Bits.{is_set}
use Rattle.ffa_model.specs.Identifiers.{identifier, place}
use Rattle.ffa_model.specs.Lists.{listed}
use Rattle.ffa_model.specs.Notifications.{Notifications, binding, class_of, class_of_entry, manager_class, normal_class, notice, partition_class, receiver_bit, receiver_of_entry, sender_of_entry}
use Rattle.ffa_notify.specs.declared.class.Class.{Class}
use Rattle.ffa_notify.specs.declared.class.Class.TheVariants.{Partitions, NormalWorld, Manager}

-- the definition's number of a class
abbrev pub class_number : Class → ℕ
class_number Partitions = partition_class
class_number NormalWorld = normal_class
class_number Manager = manager_class

-- of each endpoint whether it has bitmaps; for each receiver and each sender that there may be the bits that are bound; and
-- for each receiver and each of three classes the bits that are pending, and whether there is a notice
pub record Words : Type 0 where
  pub has : List Bool
  pub bound : List ℕ
  pub pending : List ℕ
  pub notices : List Bool

-- the binding of the receiver and the sender at two places
abbrev pub entry : ℕ → ℕ → ℕ → List ℕ
entry i j k = binding (identifier i) (class_of (identifier j)) k (identifier j)

-- a bit of a class of the receiver at a place
abbrev pub bit_of : ℕ → ℕ → ℕ → List ℕ
bit_of i class k = receiver_bit (identifier i) class k

-- whether words have the bit of an entry
abbrev pub has_binding : List ℕ → List ℕ → Bool
has_binding words x =
    is_set (slice_index x 2) (slice_index words (MOST_ENDPOINTS * place (receiver_of_entry x) + place (sender_of_entry x)))

abbrev pub has_pending_bit : List ℕ → List ℕ → Bool
has_pending_bit words x =
    is_set (slice_index x 2) (slice_index words (3 * place (receiver_of_entry x) + class_of_entry x))

-- the notice of a class of the receiver at a place, which has nothing further
abbrev pub notice_of : ℕ → ℕ → ℕ → List ℕ
notice_of i class k = notice (identifier i) class

-- whether there is the notice of an entry
abbrev pub has_notice_of : List Bool → List ℕ → Bool
has_notice_of notices x = slice_index_or notices (3 * place (receiver_of_entry x) + class_of_entry x) false

-- what a function gives at all indexes below three numbers
unfoldable pub entries : (ℕ → ℕ → ℕ → List ℕ) → ℕ → ℕ → ℕ → List (List ℕ)
entries f l m n =
    flat_map (λ i. flat_map (λ j. map (f i j) (listed n (λ k. k))) (listed m (λ j. j))) (listed l (λ i. i))

-- the sets of the words and the notices of n endpoints
unfoldable pub bound_in : ℕ → List ℕ → finite_set.FinSet (slice_cmp nat_cmp)
bound_in n words = finite_set.retain (finite_set.from_list (entries entry n n 64)) (has_binding words)

unfoldable pub pending_in : ℕ → List ℕ → finite_set.FinSet (slice_cmp nat_cmp)
pending_in n words = finite_set.retain (finite_set.from_list (entries bit_of n 3 64)) (has_pending_bit words)

unfoldable pub notices_in : ℕ → List Bool → finite_set.FinSet (slice_cmp nat_cmp)
notices_in n notices = finite_set.retain (finite_set.from_list (entries notice_of n 3 1)) (has_notice_of notices)

abbrev pub notifications_in : Words → Notifications
notifications_in w =
    record {
      bitmaps = w.has;
      bound = bound_in (length w.has) w.bound;
      pending = pending_in (length w.has) w.pending;
      notices = notices_in (length w.has) w.notices;
    }

pub record IsWords (w : Words) : Type 0 where
  pub some : 1 ≤ length w.has
  pub few : length w.has ≤ MOST_ENDPOINTS
  pub bound : length w.bound ≡ MOST_ENDPOINTS * length w.has
  pub pending : length w.pending ≡ 3 * length w.has
  pub notices : length w.notices ≡ 3 * length w.has

-- whether the item at k is that of one of the first classes of a receiver, whose items begin at a place, and flags ask for it
abbrev pub is_asked : ℕ → ℕ → ℕ → ℕ → Bool
is_asked first count flags k = nat_le first k && (nat_lt k (first + count) && is_set (k - first) flags)
