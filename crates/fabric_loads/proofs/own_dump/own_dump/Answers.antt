use Rattle.std.proofs.Common.{◌∙◌, ap, sym, subst, ℕ, List, flat_map, length}
use Rattle.std.specs.List.{IsDistinct, range_with_len}
use Rattle.dump_file.specs.Sound.{IsSound}
use Rattle.dump_file.specs.declared.table.Table.{Table}
use Rattle.smp_wire.specs.declared.node.Node.{Node}
use Rattle.topo_file.specs.Node.{shares_guid}
use Rattle.topo_file.specs.declared.node.Node.{Node as PlannedNode}
use Rattle.fabric_loads.specs.OwnDump.{own_table_at}
use Rattle.fabric_loads.proofs.SoundLemmas.{own_dump_is_sound}
use Rattle.fabric_loads.proofs.own_dump.own_dump.Goals as goal

pub of-requires : goal.of-requires
of-requires c =
    let guids = c.deref-2.ensures.value ∙ c.in_ok-guids.ensures.guids in
    let is =
    c.in_ok-tables.ensures
    ∙ ap (λ (nodes : List PlannedNode). flat_map (own_table_at nodes c.deref-2.result.now c.nodes-3.result.now) (range_with_len 0 (length nodes))) c.nodes-2.ensures.value
    ∙ ap (λ (lids : List ℕ). flat_map (own_table_at c.args.topology.now.nodes lids c.nodes-3.result.now) (range_with_len 0 (length c.args.topology.now.nodes))) guids
    ∙ ap (λ (held : List Node). flat_map (own_table_at c.args.topology.now.nodes c.args.lids.now held) (range_with_len 0 (length c.args.topology.now.nodes))) c.nodes-3.ensures in
    subst (λ (tables : List Table). IsSound (record { tables = tables })) (sym is)
    (own_dump_is_sound c.args.topology.now c.args.lids.now c.args.fabric.now (subst (IsDistinct shares_guid) c.nodes.ensures.value c.nodes.ensures.own_guids))
