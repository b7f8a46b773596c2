-- SPDX-License-Identifier: MIT OR Apache-2.0
pub mod Need
pub mod Offset
pub mod Spans
