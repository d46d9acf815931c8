use Rattle.fabric_graph.proofs.ThickLemmas.{each_cable_is_drawn_once}
use Rattle.fabric_graph.proofs.laws.each_cable_is_drawn_once.Goals as goal

pub returns : goal.returns
returns c = each_cable_is_drawn_once
