-- SPDX-License-Identifier: MIT OR Apache-2.0
pub mod Cuts
pub mod Descriptors
pub mod Failures
pub mod Forms
pub mod Guarded
pub mod Layouts
pub mod Manifests
pub mod Members
pub mod Noted
pub mod Told
pub mod Versions
