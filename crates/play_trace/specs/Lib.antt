-- SPDX-License-Identifier: MIT OR Apache-2.0
pub mod Calls
pub mod Composed
pub mod Conditions
pub mod Cuts
pub mod Lines
pub mod Names
pub mod Output
pub mod Parsed
pub mod Script
pub mod TraceLines
pub mod TraceText
pub mod Words
pub mod Written
