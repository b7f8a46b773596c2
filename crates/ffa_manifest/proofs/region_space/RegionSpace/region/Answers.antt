-- SPDX-License-Identifier: MIT OR Apache-2.0
use Rattle.std.proofs.Common.{rules}
use Rattle.ffa_manifest.proofs.region_space.RegionSpace.region.Goals as goal

pub overflow_cast-base : goal.overflow_cast-base
overflow_cast-base c = search rules

pub overflow_cast-pages : goal.overflow_cast-pages
overflow_cast-pages c = search rules
