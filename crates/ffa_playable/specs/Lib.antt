-- SPDX-License-Identifier: MIT OR Apache-2.0
pub mod Audited
pub mod Bench
pub mod Standing
