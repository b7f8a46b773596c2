-- SPDX-License-Identifier: MIT OR Apache-2.0
-- What a contract sees of a machine that C holds: the machine as the selected processor sees it, who runs on each
-- other one, and whether its RAM is lent.
use Rattle.std.specs.Prelude.{Bool, true, false, List, ℕ, Option, Some, refl}
use Rattle.std.specs.Option.{option_map}
use Rattle.std.specs.Ptr.{Ptr}
use Rattle.std.specs.Coded.{Coded, code_by, coded_bool, coded×}
use Rattle.ffa_model.specs.Processors.{Processors}
use Rattle.ffa_spmc.specs.Clustered.{Clustered, coded_clustered}
use Rattle.ffa_spmc.specs.Snapshot.{Snapshot}
use Rattle.ffa_c.specs.declared.kind.BoardMachine.{BoardMachine}
use Rattle.ffa_c.specs.declared.kind.BoardMachine.TheVariants.{Heap, Lent}

pub record Boarded : Type 0 where
  pub machine : Snapshot
  pub processors : Processors
  pub is_lent : Bool

-- the machine that processors run
abbrev pub cluster_of : Boarded → Clustered
cluster_of b = record { machine = b.machine; processors = b.processors }

abbrev pub boarded_by : Clustered → Bool → Boarded
boarded_by cluster is_lent = record { machine = cluster.machine; processors = cluster.processors; is_lent = is_lent }

abbrev pub coded_boarded : Coded Boarded
coded_boarded =
    code_by (Clustered × Bool) (coded× coded_clustered coded_bool) (λ b. (cluster_of b, b.is_lent))
    (λ p. boarded_by p.0 p.1) (λ _. refl)

abbrev pub boarded : BoardMachine → Boarded
boarded (Heap cluster) = boarded_by cluster false
boarded (Lent cluster) = boarded_by cluster true

-- what lies behind a pointer that holds a machine, or none: a seat with the machine in it, or nothing
abbrev pub seated : Option Boarded → Option (Option Boarded)
seated held = option_map (λ b. Some b) held

-- whether the RAM is lent, and its pages, where there is a machine
abbrev pub lends : Option Boarded → Option Bool
lends held = option_map (λ b. b.is_lent) held

abbrev pub ram_pages : Option Boarded → Option (List (List ℕ))
ram_pages held = option_map (λ b. b.machine.ram.pages) held

-- and where each of these pages lies
abbrev pub ram_places : Option Boarded → Option (List Ptr)
ram_places held = option_map (λ b. b.machine.past.site.places) held
