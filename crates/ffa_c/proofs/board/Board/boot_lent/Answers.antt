-- SPDX-License-Identifier: MIT OR Apache-2.0
use Rattle.std.proofs.Common.{◌∙◌, ap, subst, sym}
use Rattle.ffa_manifest.specs.Document.{parts_of}
use Rattle.ffa_lent.specs.LentRam.{ram_of}
use Rattle.ffa_spmc.specs.Clustered.{Clustered}
use Rattle.ffa_c.specs.declared.board.FirstBytes.{FirstBytes}
use Rattle.ffa_c.specs.Booting.{IsFirst, IsFirstBy, IsFirstHeld}
use Rattle.ffa_c.proofs.board.Board.boot_lent.Goals.{in-Cleared, in-Kept}
use Rattle.ffa_c.proofs.board.Board.boot_lent.Goals as goal

pub returns-clause-first : goal.returns-clause-first
returns-clause-first c =
    let pages = (ram_of c.args.ram).pages in
    let parts = parts_of c.args.manifest.now in
    elim c.match-bytes.branch [
      | in-Cleared w ↦
          subst (λ (b : FirstBytes). IsFirstBy b pages parts c.match-bytes.cluster.machine) (sym w.in-Cleared.is)
          (subst (λ (x : Clustered). IsFirst parts x.machine) (sym w.cluster-is) (record {
            state = w.boot_cluster-cluster.ensures.booted.state;
            agrees = w.boot_cluster-cluster.ensures.booted.agrees;
            words = w.boot_cluster-cluster.ensures.booted.words;
            cleared = w.boot_cluster-cluster.ensures.booted.cleared;
            sound = w.boot_cluster-cluster.ensures.booted.sound;
            told = w.boot_cluster-cluster.ensures.told;
          }))
      | in-Kept w ↦
          subst (λ (b : FirstBytes). IsFirstBy b pages parts c.match-bytes.cluster.machine) (sym w.in-Kept.is)
          (subst (λ (x : Clustered). IsFirstHeld pages parts x.machine) (sym w.cluster-is) (record {
            state = w.boot_cluster-cluster-in-Kept.ensures.booted.state;
            agrees = w.boot_cluster-cluster-in-Kept.ensures.booted.agrees;
            words = w.boot_cluster-cluster-in-Kept.ensures.booted.words;
            cleared = w.boot_cluster-cluster-in-Kept.ensures.booted.cleared;
            sound = w.boot_cluster-cluster-in-Kept.ensures.booted.sound;
            told = w.boot_cluster-cluster-in-Kept.ensures.told;
          }))
    ]

pub returns-clause-site : goal.returns-clause-site
returns-clause-site c = elim c.match-bytes.branch [
  | in-Cleared w ↦ ap (λ (x : Clustered). x.machine.past.site) w.cluster-is ∙ w.boot_cluster-cluster.ensures.site
  | in-Kept w ↦ ap (λ (x : Clustered). x.machine.past.site) w.cluster-is ∙ w.boot_cluster-cluster-in-Kept.ensures.site
]
