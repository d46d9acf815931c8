use Rattle.std.proofs.Common.{◌∙◌}
use Rattle.netdiscover_file.proofs.IndexLemmas.{goes_last}
use Rattle.netdiscover_file.proofs.port.GuidList.insert.Goals as goal

pub returns-clause-ok : goal.returns-clause-ok
returns-clause-ok c =
    c.in_ok-insert.ensures.keys ∙ goes_last c.args.guid c.self.inside.guids.keys c.args.self.now c.self.view_is c.requires.new
