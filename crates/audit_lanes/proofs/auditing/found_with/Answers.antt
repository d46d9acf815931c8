use Rattle.std.proofs.Common.{List, ap, sym, ◌∙◌}
use Rattle.audit_net.specs.declared.lids.Aim.{Aim}
use Rattle.audit_lanes.specs.Records.{sls}
use Rattle.audit_lanes.proofs.auditing.found_with.Goals as goal

pub push_counts-requires-clause-sls : goal.push_counts-requires-clause-sls
push_counts-requires-clause-sls c = c.in_ok-counted.ensures.sls ∙ ap (λ (aims : List Aim). sls c.args.net.now aims c.args.paths.now) (sym c.aims-aims.ensures)
