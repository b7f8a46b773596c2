-- SPDX-License-Identifier: MIT OR Apache-2.0
use Rattle.std.proofs.Common.{◌≡◌, List, [], ◌++◌, length, drop, Result}
use Rattle.toml.specs.Data.{Data}
use Rattle.ffa_model.specs.declared.endpoint.Region.{Region}
use Rattle.ffa_manifest.specs.declared.error.ManifestError.{ManifestError}
use Rattle.toml.specs.View.{items_view}
use Rattle.ffa_model.specs.Manifest.{regions_of}
use Rattle.ffa_manifest.specs.RegionSpace.{is_in}
use Rattle.ffa_manifest.specs.Reading.{read_each}
use Rattle.ffa_manifest.specs.Regions.{next_region}
use Rattle.ffa_manifest.proofs.regions.regions_from.Given as goal

-- the values that are left, read after those so far, give what all values give
abbrev pub invariant-loop-value : goal.invariant-loop-value
invariant-loop-value l =
    let one : List Region → Data → Result Region ManifestError = λ own d. next_region (is_in l.space) (regions_of l.endpoints ++ own) d in
    record {
      count : length l.own.items ≡ l.value-index;
      rest : read_each one l.own.items (items_view (drop l.value-index l.values)) ≡ read_each one [] (items_view l.values);
    }
