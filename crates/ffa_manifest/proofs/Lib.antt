-- SPDX-License-Identifier: MIT OR Apache-2.0
pub mod Views
pub mod Identifiers
pub mod Taken
pub mod Bits
pub mod Steps
pub mod Places
pub mod RegionsRead
pub mod Accepted
pub mod FirstFailure
pub mod AcceptedParts
pub mod TextPlaces
