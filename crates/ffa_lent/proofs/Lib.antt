-- SPDX-License-Identifier: MIT OR Apache-2.0
pub mod Pages
pub mod Observed
pub mod Doings
pub mod Empty
pub mod Steps
pub mod BoxCalls
pub mod Owners
pub mod Strips
pub mod Pointers
pub mod Slots
