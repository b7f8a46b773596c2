-- SPDX-License-Identifier: MIT OR Apache-2.0
use Rattle.std.proofs.Common.{◌∙◌, ap}
use Rattle.ffa_physmem.specs.Moments.{Site}
use Rattle.play_commands.proofs.booting.boot_for.Goals as goal

pub of-requires-clause-free : goal.of-requires-clause-free
of-requires-clause-free g c = ap (λ (site : Site). site.copies.beneath) c.boot_in-machine.ensures.site ∙ g.met.M.Unshared.free c.args.ram
