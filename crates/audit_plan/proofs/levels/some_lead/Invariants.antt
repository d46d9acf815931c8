use Rattle.std.proofs.Common.{◌≡◌}
use Rattle.topo_file.specs.Node.{ports_at}
use Rattle.topo_file.specs.Rounds.{is_marked}
use Rattle.audit_plan.specs.Levels.{leads_near, some_lead}
use Rattle.audit_plan.proofs.LevelLemmas.{some_left}
use Rattle.audit_plan.proofs.levels.some_lead.Given as goal

abbrev pub invariant-loop-before : goal.invariant-loop-before
invariant-loop-before l =
    some_left (leads_near l.links (is_marked l.marks) l.place) l.before (ports_at l.links.nodes l.place) ≡ some_lead l.links (is_marked l.marks) l.place
