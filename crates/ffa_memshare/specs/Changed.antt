-- SPDX-License-Identifier: MIT OR Apache-2.0
-- Whose access to which pages a call on memory changes.
use Rattle.std.specs.Prelude.{ℕ, Option, Some, None}
use Rattle.ffa_model.specs.declared.endpoint.EndpointId.{EndpointId}
use Rattle.ffa_model.specs.declared.rights.Kind.{Kind}
use Rattle.ffa_model.specs.declared.rights.Kind.TheVariants.{Share, Lend, Donate}
use Rattle.ffa_model.specs.State.{Transaction}

-- whose access a send by e changes, and a reclaim: that of e, but nobody's of a share, to which e keeps its right
abbrev pub changed_sender : Kind → ℕ → Option EndpointId
changed_sender Share e = None
changed_sender Lend e = Some (record { 0 = e })
changed_sender Donate e = Some (record { 0 = e })

-- the same of the transaction that e reclaims, if one is open
abbrev pub changed_reclaimer : Option Transaction → ℕ → Option EndpointId
changed_reclaimer None e = None
changed_reclaimer (Some t) e = changed_sender t.kind e
