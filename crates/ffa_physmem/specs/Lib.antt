-- SPDX-License-Identifier: MIT OR Apache-2.0
pub mod Codes
pub mod FrameRam
pub mod Levels
pub mod Moments
pub mod Unrecorded
pub mod Work
