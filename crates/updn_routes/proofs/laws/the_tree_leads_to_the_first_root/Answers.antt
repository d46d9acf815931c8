use Rattle.updn_routes.specs.Order.{is_first_root}
use Rattle.updn_routes.proofs.TreeLemmas.{leads_home, no_tree_port, port_of}
use Rattle.updn_routes.proofs.laws.the_tree_leads_to_the_first_root.Goals as goal

pub returns : goal.returns
returns c = λ rows guids roots depths cabling right s less.
    let home = leads_home rows (is_first_root guids roots) depths cabling right s less in
    record {
      top = no_tree_port rows (is_first_root guids roots) depths cabling right s less;
      below = port_of rows (is_first_root guids roots) depths cabling right s less;
      first = home.0;
      steps = home.1;
      first_is = home.2;
      leads_there = home.3;
      as_deep = home.4;
    }
