-- SPDX-License-Identifier: MIT OR Apache-2.0
pub mod Listed
pub mod Strips
pub mod Slots
pub mod Beneath
pub mod Places
pub mod History
pub mod Settling
pub mod Doings
pub mod Turns
pub mod Memory
pub mod LentRam
