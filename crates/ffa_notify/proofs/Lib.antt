-- SPDX-License-Identifier: MIT OR Apache-2.0
pub mod Bits
pub mod Asked
pub mod Universe
pub mod Changes
pub mod Stores
pub mod NoticeStores
pub mod Tests
pub mod Views
pub mod Boots
pub mod Least
pub mod SetGuards
pub mod Filters
