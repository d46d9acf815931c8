use Rattle.std.proofs.Common.{◌∙◌, ap}
use Rattle.audit_lanes.specs.Hops.{some_hop}
use Rattle.audit_lanes.specs.Keys.{drops_at}
use Rattle.audit_lanes.proofs.troubles.Troubles.drop_sl.Goals as goal

pub returns : goal.returns
returns c = c.contains.ensures ∙ c.self.invariant.1.1 c.args.one ∙ ap (some_hop (drops_at c.args.one)) c.self.view_is
