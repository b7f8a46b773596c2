-- SPDX-License-Identifier: MIT OR Apache-2.0
mod Comments
mod Growing
pub mod Numbers
