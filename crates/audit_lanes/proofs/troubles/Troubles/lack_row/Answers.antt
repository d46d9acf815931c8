use Rattle.std.proofs.Common.{◌∙◌, ap}
use Rattle.audit_lanes.specs.Hops.{lacks_row_at, some_hop}
use Rattle.audit_lanes.proofs.troubles.Troubles.lack_row.Goals as goal

pub returns : goal.returns
returns c = c.contains.ensures ∙ c.self.invariant.0 c.args.here ∙ ap (some_hop (lacks_row_at c.args.here)) c.self.view_is
