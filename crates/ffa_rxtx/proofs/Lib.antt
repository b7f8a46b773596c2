-- SPDX-License-Identifier: MIT OR Apache-2.0
pub mod PagesMet
pub mod Runs
pub mod Moments
