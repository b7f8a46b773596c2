-- SPDX-License-Identifier: MIT OR Apache-2.0
use Rattle.std.proofs.Common.{◌∙◌, sym}
use Rattle.ffa_spmc.proofs.ReadBacks.{answered-back}
use Rattle.ffa_spmc.proofs.manager.Manager.mem_retrieve.Goals as goal

pub returns-then-asks_back : goal.returns-then-asks_back
returns-then-asks_back g c =
    answered-back c.args.self.now c.read_back.new.self (g.T.Translations.entries c.args.cache.now) c.args.news.now c.args.transfer c.read_back.result
    (sym c.asks_back.ensures ∙ c.if-asks_back.true) c.read_back.ensures
