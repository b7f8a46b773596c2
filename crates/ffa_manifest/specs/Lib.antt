-- SPDX-License-Identifier: MIT OR Apache-2.0
pub mod Reading
pub mod Keys
pub mod RegionSpace
pub mod Regions
pub mod Endpoints
pub mod Document
pub mod Parts
pub mod Meeting
pub mod Places
pub mod PartsPlaces
pub mod TextPlaces
pub mod Controls
