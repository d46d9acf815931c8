use Rattle.std.proofs.Common.{◌∙◌, subst, sym}
use Rattle.subnet_fabric.specs.SetUp.{IsFound}
use Rattle.subnet_fabric.proofs.SameGraphLemmas.{one_graph}
use Rattle.subnet_fabric.proofs.setting_up.planned_or_new.Goals as goal

pub returns-then-is_same_graph-clause-all : goal.returns-then-is_same_graph-clause-all
returns-then-is_same_graph-clause-all c fabric found planned =
    let same = one_graph c.args.graph c.graph.result.now (sym c.is_same_graph.ensures ∙ c.if-is_same_graph.true) in
    record {
      found = subst (IsFound fabric) (same ∙ c.graph.ensures) found;
      assigned = planned.assigned;
      made = planned.made;
      reached = planned.reached;
    }
