-- SPDX-License-Identifier: MIT OR Apache-2.0
pub mod Lists
pub mod Marks
pub mod Refusals
pub mod Results
