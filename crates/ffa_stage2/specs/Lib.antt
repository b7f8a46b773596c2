-- SPDX-License-Identifier: MIT OR Apache-2.0
pub mod Amid
pub mod Blocks
pub mod Held
pub mod Layout
pub mod Mixed
pub mod Mixtures
pub mod Moments
pub mod Orders
pub mod Places
pub mod Rest
pub mod Tables
pub mod Words
pub mod Work
