use Rattle.audit_lanes.proofs.WrongLemmas.{each_way_has_its_record}
use Rattle.audit_lanes.proofs.wrong_rules.each_way_has_its_record.Goals as goal

pub returns : goal.returns
returns c = each_way_has_its_record
