use Rattle.std.proofs.Common.{◌∙◌, ap}
use Rattle.audit_lanes.specs.Hops.{is_dropped_at, some_hop}
use Rattle.audit_lanes.proofs.troubles.Troubles.drop_some.Goals as goal

pub returns : goal.returns
returns c = c.contains.ensures ∙ c.self.invariant.1.0 c.args.here ∙ ap (some_hop (is_dropped_at c.args.here)) c.self.view_is
