-- SPDX-License-Identifier: MIT OR Apache-2.0
-- One more step in the record.
pub use Rattle.ffa_recorded.specs.Steps.{loan-spends, loan-step, page-back, recorded-step}
