-- SPDX-License-Identifier: MIT OR Apache-2.0
-- Runs of pages, as C is told them.
use Rattle.std.specs.Prelude.{ℕ, map, Option, None, Some}
use Rattle.ffa_model.specs.declared.certificate.CertRun.{CertRun}
use Rattle.ffa_c.specs.declared.cert_run.CCertRun.{CCertRun}
use Rattle.ffa_c.specs.Border.{access_code}

-- 1 where there is a handle, and which it is; else 0 twice
abbrev pub has_handle_code : Option ℕ → ℕ
has_handle_code None = 0
has_handle_code (Some handle) = 1

abbrev pub handle_code : Option ℕ → ℕ
handle_code None = 0
handle_code (Some handle) = handle

abbrev pub cert_told : CertRun → CCertRun
cert_told run = record {
  first = run.first.0;
  last = run.last.0;
  owner = run.owner.0;
  has_handle = has_handle_code run.handle;
  handle = handle_code run.handle;
  access = map access_code run.access;
}
