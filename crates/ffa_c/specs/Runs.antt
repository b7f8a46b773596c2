-- SPDX-License-Identifier: MIT OR Apache-2.0
-- FOR PROOFS ALONE
-- Where there is a run of the certificate.
use Rattle.std.specs.Prelude.{ℕ, Option, None, Some, nat_lt, length, if◌then◌else◌}
use Rattle.ffa_model.specs.Certificate.{run_from}
use Rattle.ffa_model.specs.declared.certificate.CertRun.{CertRun}
use Rattle.ffa_spmc.specs.Snapshot.{Snapshot}

-- the longest run from a page on, where there is such a page
abbrev pub run_at : Snapshot → ℕ → Option CertRun
run_at s page = if nat_lt page (length s.ram.pages) then Some (run_from s.state page) else None
