-- SPDX-License-Identifier: MIT OR Apache-2.0
pub mod Levels
pub mod Offsets
pub mod Spans
