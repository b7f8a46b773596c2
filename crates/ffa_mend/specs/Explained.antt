-- SPDX-License-Identifier: MIT OR Apache-2.0
-- FOR PROOFS ALONE
-- What a call's message, descriptor, pages, bits or transaction tell of a check that refuses the call.
use Rattle.std.specs.Prelude.{Option, None}
use Rattle.ffa_model.specs.declared.endpoint.PageNo.{PageNo}
use Rattle.ffa_model.specs.declared.why.About.{About}
use Rattle.ffa_mend.specs.declared.explained.Explained.{Explained}
use Rattle.ffa_mend.specs.declared.Mend.{Mend}

-- where the call has no header with a number of receivers
abbrev pub explained : Option About → Option PageNo → Option Mend → Explained
explained about page mend = record { about = about; page = page; mend = mend; receivers = None }
