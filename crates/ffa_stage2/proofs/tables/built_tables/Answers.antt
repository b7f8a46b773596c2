-- SPDX-License-Identifier: MIT OR Apache-2.0
use Rattle.ffa_stage2.proofs.Kept.{built-kept}
use Rattle.ffa_stage2.proofs.Places.{root-address}
use Rattle.ffa_stage2.proofs.Walks.{walk-built}
use Rattle.ffa_stage2.proofs.tables.built_tables.Goals as goal

pub returns : goal.returns
returns c = record {
  walk = λ ram n tables b access built e a he ha. walk-built ram n tables b access e a built he ha;
  stay = λ old new n tables b access built same. built-kept old new n tables b access built same.base same.size same.pages;
  begin = λ ram n tables b access e built he. root-address ram n tables b e built.fits he;
}
