-- SPDX-License-Identifier: MIT OR Apache-2.0
-- Rights in words, and where they have a place.
use Rattle.std.specs.Prelude.{ℕ, Bool, true, false, List, codes, Option, Some, None, if◌then◌else◌, bytes_eq}
use Rattle.ffa_model.specs.declared.rights.Data.{Data}
use Rattle.ffa_model.specs.declared.rights.Data.TheVariants.{Ro, Rw}
use Rattle.ffa_model.specs.declared.rights.Kind.{Kind}
use Rattle.ffa_model.specs.declared.rights.Kind.TheVariants.{Share, Lend, Donate}
use Rattle.play_report.specs.declared.fault.Form.{Form}
use Rattle.play_report.specs.declared.fault.Form.TheVariants as form
use Rattle.play_report.specs.declared.right.Right.{Right}
use Rattle.play_report.specs.declared.right.Right.TheVariants as right

abbrev pub form_of : Kind → Form
form_of Donate = form.Donate
form_of Lend = form.Lend
form_of Share = form.Share

unfoldable pub right_named : List ℕ → Option Right
right_named word =
    if bytes_eq word (codes "ro") then Some right.Ro
    else if bytes_eq word (codes "rw") then Some right.Rw
    else if bytes_eq word (codes "rox") then Some right.Rox
    else if bytes_eq word (codes "rwx") then Some right.Rwx
    else if bytes_eq word (codes "x") then Some right.X
    else None

-- a right to data or none that is specified, and whether instructions may be fetched
abbrev pub asked_by : Right → Option Data × Bool
asked_by right.Ro = (Some Ro, false)
asked_by right.Rw = (Some Rw, false)
asked_by right.Rox = (Some Ro, true)
asked_by right.Rwx = (Some Rw, true)
asked_by right.X = (None, true)

-- a right to data alone
abbrev pub is_to_data : Right → Bool
is_to_data right.Ro = true
is_to_data right.Rw = true
is_to_data other = false

-- a lend and a share grant rights to data, and a retrieve asks for any; nothing else has a right beside an endpoint
abbrev pub has_place : Form → Right → Bool
has_place form.Lend r = is_to_data r
has_place form.Share r = is_to_data r
has_place form.Retrieve r = true
has_place form.Donate r = false
has_place form.Relinquish r = false
has_place form.Reclaim r = false
