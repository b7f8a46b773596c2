-- SPDX-License-Identifier: MIT OR Apache-2.0
pub mod Attempts
pub mod Counting
pub mod Traces
pub mod Turned
pub mod Unreached
