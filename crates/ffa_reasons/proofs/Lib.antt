-- SPDX-License-Identifier: MIT OR Apache-2.0
mod Answered
pub mod Audits
mod Checked
mod Explanations
mod Told
