-- SPDX-License-Identifier: MIT OR Apache-2.0
use Rattle.ffa_model.specs.declared.limits.TheConstants.{MOST_ENDPOINTS}
use Rattle.ffa_memshare.proofs.HeldByPlace.{held-nobody}
use Rattle.ffa_memshare.proofs.holders.Holders.none.Goals as goal

pub returns : goal.returns
returns c = held-nobody MOST_ENDPOINTS
