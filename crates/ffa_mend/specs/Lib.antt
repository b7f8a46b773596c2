-- SPDX-License-Identifier: MIT OR Apache-2.0
pub mod Allowed
pub mod Explained
pub mod Mend
pub mod Offered
