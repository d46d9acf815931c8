use Rattle.std.proofs.Common.{◌∙◌, Bool, true, ap, cond, sym}
use Rattle.std.specs.List.{list_any}
use Rattle.topology_import.specs.PortPairs.{is_same_pair, pair_of}
use Rattle.topology_import.proofs.PairLemmas.{added, pair_turned}
use Rattle.topology_import.proofs.port_pairs.PortPairs.add.Goals as goal

pub returns : goal.returns
returns c pair =
    let before = list_any (is_same_pair pair) c.self.inside.pairs.keys in
    let new = pair_of c.args.one c.args.other in
    rw (sym c.self.view_is)
    (c.in_ok-insert.ensures.updates.0 pair ∙ ap (λ (is : Bool). cond is true before) (pair_turned new pair) ∙ added (is_same_pair pair new) before)
