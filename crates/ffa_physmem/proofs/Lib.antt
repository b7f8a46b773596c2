-- SPDX-License-Identifier: MIT OR Apache-2.0
pub mod Words
pub mod Moments
pub mod Boxes
pub mod Pieces
pub mod Work
