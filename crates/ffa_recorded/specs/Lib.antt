-- SPDX-License-Identifier: MIT OR Apache-2.0
pub mod Loans
pub mod Records
pub mod Steps
pub mod Turns
