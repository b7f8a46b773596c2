-- SPDX-License-Identifier: MIT OR Apache-2.0
use Rattle.toml.specs.View.{table_view, items_view}
use Rattle.ffa_manifest.proofs.Views.{item_count_view}
use Rattle.ffa_manifest.proofs.Accepted.{accepted_parts}
use Rattle.ffa_manifest.proofs.document.machine.Goals as goal

pub of-manifest-requires : goal.of-manifest-requires
of-manifest-requires c =
    accepted_parts c.args.ffa (table_view c.args.table.now) c.in_ok-ram_base.ram_base c.in_ok-ram_blocks.ram_blocks (items_view c.in_ok-values.values.now) c.in_ok-endpoints.endpoints.items
    c.in_ok-ram_base.ensures.number c.in_ok-ram_blocks.ensures.number c.in_ok-values.ensures.items (rw (item_count_view c.in_ok-values.values.now) c.in_ok-endpoints.ensures)
