-- SPDX-License-Identifier: MIT OR Apache-2.0
use Rattle.ffa_memdesc.proofs.PlaceLaw.{told_array_is, told_composite_is}
use Rattle.ffa_memdesc.proofs.laws.told_places.Goals as goal

pub returns-clause-array : goal.returns-clause-array
returns-clause-array c = told_array_is

pub returns-clause-composite : goal.returns-clause-composite
returns-clause-composite c = told_composite_is
