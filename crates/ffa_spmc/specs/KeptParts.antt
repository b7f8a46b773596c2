-- SPDX-License-Identifier: MIT OR Apache-2.0
-- FOR PROOFS ALONE
-- What a machine keeps beside its RAM and its manifest, with any store.
use Rattle.std.specs.Prelude.{List, Option}
use Rattle.ffa_model.specs.declared.endpoint.Version.{Version}
use Rattle.ffa_model.specs.Notifications.{Notifications}
use Rattle.ffa_model.specs.RunStates.{Schedule}
use Rattle.ffa_model.specs.State.{Buffers}
use Rattle.ffa_stage2.specs.declared.layout.Layout.{Layout}
use Rattle.ffa_pages.specs.Entry.{Entry}
use Rattle.ffa_memshare.specs.Stored.{Pooled}
use Rattle.ffa_spmc.specs.declared.kept.Kept.{Kept}

pub record KeptParts : Type 0 where
  pub layout : Layout
  pub pages : List (Option Entry)
  pub pool : Pooled
  pub buffers : List (Option Buffers)
  pub chain : Schedule
  pub bitmaps : Notifications
  pub versions : List Version

abbrev pub kept_parts : {S P O : Type 0} → Kept S P O → KeptParts
kept_parts kept =
    record { layout = kept.layout; pages = kept.pages; pool = kept.pool; buffers = kept.buffers; chain = kept.chain; bitmaps = kept.bitmaps; versions = kept.versions }
