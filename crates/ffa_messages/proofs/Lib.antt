-- SPDX-License-Identifier: MIT OR Apache-2.0
pub mod Bits
pub mod Copies
pub mod Headers
pub mod Pages
pub mod Refusals
pub mod Known
pub mod RequestGuards
