use Rattle.std.proofs.Common.{◌≡◌, ◌∙◌, ◌+◌, ◌≤◌, true, ap, arith, sym}
use Rattle.std.specs.List.{list_any}
use Rattle.topo_file.specs.Guids.{has_guid}
use Rattle.topo_file.specs.NewNode.{seen}
use Rattle.topo_file.specs.Node.{port_guids}
use Rattle.topo_file.proofs.KnownGuidLemmas.{none_found, some_found}
use Rattle.topo_file.proofs.node.NodeList.shares_some_guid.Goals as goal

pub returns-then-contains : goal.returns-then-contains
returns-then-contains c =
    let node = seen c.args.node.now in
    let guid = node.guid + c.loop-number.number in
    let within : c.loop-number.number ≤ port_guids node.node_type node.ports = omega (arith, c.loop-number-test.true, c.from-number-end.ensures, c.port_guids.ensures) in
    let found : list_any (has_guid guid) c.args.self.now ≡ true =
    ap (list_any (has_guid guid)) (sym c.self.view_is) ∙ sym (c.self.invariant.1 guid) ∙ sym c.contains.ensures ∙ c.if-contains.true in
    sym (some_found c.args.self.now node c.loop-number.number within found)

pub returns : goal.returns
returns c =
    sym (none_found c.args.self.now (seen c.args.node.now)
    (λ number within. c.loop-number.invariant number (omega (arith, within, c.loop-number-test.false, c.from-number-end.ensures, c.port_guids.ensures))))
