-- SPDX-License-Identifier: MIT OR Apache-2.0
pub mod Boards
pub mod Ready
pub mod Heap
pub mod HeldSteps
pub mod Audits
pub mod Given
pub mod Numbers
pub mod Versions
pub mod RunSteps
