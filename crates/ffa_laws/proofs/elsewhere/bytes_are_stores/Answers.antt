-- SPDX-License-Identifier: MIT OR Apache-2.0
use Rattle.ffa_laws.proofs.Stores.{bytes-stored, written-stored}
use Rattle.ffa_laws.proofs.elsewhere.bytes_are_stores.Goals as goal

pub returns-clause-page : goal.returns-clause-page
returns-clause-page c = bytes-stored

pub returns-clause-pages : goal.returns-clause-pages
returns-clause-pages c = written-stored
