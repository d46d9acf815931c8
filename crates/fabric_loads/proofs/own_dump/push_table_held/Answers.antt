use Rattle.std.proofs.Common.{◌∙◌, ◌++◌, [], ap, sym, Option}
use Rattle.std.specs.Option.{option_map_or}
use Rattle.std.proofs.lemmas.List.{append-nil}
use Rattle.std.proofs.lemmas.Option.{slice_get_past}
use Rattle.smp_wire.specs.declared.node.Node.{Node}
use Rattle.fabric_loads.specs.OwnDump.{own_table}
use Rattle.fabric_loads.proofs.own_dump.push_table_held.Goals as goal

pub returns-in-None : goal.returns-in-None
returns-in-None c =
    let tables = c.args.tables.now.items in
    sym (ap (λ (node : Option Node). tables ++ option_map_or (own_table c.args.owners.nodes.now c.args.owners.guids.now c.args.guid) node []) (slice_get_past c.args.held.now c.args.place c.in-None.ensures.lookup.3)
    ∙ append-nil tables)
