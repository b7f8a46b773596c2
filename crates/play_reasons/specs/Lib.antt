-- SPDX-License-Identifier: MIT OR Apache-2.0
pub mod Checks
pub mod Closer
pub mod Details
pub mod Drafts
pub mod FaultWords
pub mod FlawWords
pub mod Marks
pub mod Mends
pub mod Reasons
pub mod Whole
