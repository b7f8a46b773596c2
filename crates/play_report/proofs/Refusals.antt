-- SPDX-License-Identifier: MIT OR Apache-2.0
-- Bytes that the reader refuses are refused for its cause.
use Rattle.std.proofs.Common.{ℕ, List, Some, inl, inr}
use Rattle.ffa_model.specs.declared.manifest.Ffa.{Ffa}
use Rattle.ffa_manifest.specs.declared.refusal.ManifestRefusal.{ManifestRefusal}
use Rattle.ffa_manifest.specs.Places as places
use Rattle.play_report.specs.Manifests.{IsRefused}

pub refused_as_read : (ffa : Ffa) (bytes : List ℕ) (r : ManifestRefusal) → places.IsRefused ffa bytes r → IsRefused ffa (Some bytes) r.cause
refused_as_read ffa bytes r (inl its) = inl (its.garbled, its.cause)
refused_as_read ffa bytes r (inr its) = inr (its.text, its.cause)
