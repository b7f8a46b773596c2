-- SPDX-License-Identifier: MIT OR Apache-2.0
use Rattle.std.proofs.Common.{◌∙◌, ◌++◌, List, get_or, false, refl, rules}
use Rattle.ffa_model.specs.declared.endpoint.Region.{Region}
use Rattle.ffa_model.specs.declared.rights.Data.TheVariants.{Ro}
use Rattle.ffa_model.specs.Manifest.{regions_of}
use Rattle.ffa_manifest.specs.RegionSpace.{is_in}
use Rattle.ffa_manifest.specs.Parts.{Tests, region_tests}
use Rattle.ffa_manifest.proofs.FirstFailure.{passed-at, failed-at}
use Rattle.ffa_manifest.proofs.parts.check_regions.Goals as goal

abbrev no_region : Region
no_region = record { base = 0; pages = 0; rights = record { level = Ro; exec = false } }

pub returns-in_err-check_region : goal.returns-in_err-check_region
returns-in_err-check_region c =
    let one : List Region → Region → Tests = λ own r. region_tests (is_in c.args.space.now) (regions_of c.args.before.now ++ own) r in
    let failed = failed-at one c.args.regions.now c.loop-index.index no_region (get_or c.args.regions.now c.loop-index.index no_region) c.in_err-check_region.field-0.0
    c.loop-index-test.true refl c.in_err-check_region.ensures in
    search rules

pub loop-index-preserved : goal.loop-index-preserved
loop-index-preserved c =
    let one : List Region → Region → Tests = λ own r. region_tests (is_in c.args.space.now) (regions_of c.args.before.now ++ own) r in
    passed-at one c.args.regions.now c.loop-index.index no_region (get_or c.args.regions.now c.loop-index.index no_region)
    c.loop-index-test.true refl c.in_ok-check_region.ensures ∙ c.loop-index.invariant
