-- SPDX-License-Identifier: MIT OR Apache-2.0
pub mod Codes
pub mod Lookups
pub mod Slots
