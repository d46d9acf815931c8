-- What is accepted leaves by the ports of its way; so it is of each fabric that is brought up.
use Rattle.std.proofs.Common.{ℕ, ◌≡◌, ◌∙◌, ◌+◌, ◌*◌, ◌≤◌, ap, arith, refl, subst, sym, Bool, false, true, List, [], length, map, slice_get, unwrap_or, Option, Some, None, option_map}
use Rattle.std.specs.List.{Contains, list_all}
use Rattle.std.specs.Option.{option_map_or}
use Rattle.std.proofs.lemmas.Option.{slice_get-map}
use Rattle.fabric_wire.proofs.OfTopologyLemmas.{switch_there}
use Rattle.fabric_wire.specs.OfTopology.{fabric_of}
use Rattle.joint_laws.proofs.DumpLemmas.{a_dump_shows_what_is_held}
use Rattle.joint_laws.specs.OwnTables.{dump_of}
use Rattle.packet_trace.specs.Steps.{steps_of}
use Rattle.packet_trace.specs.Trace.{step, way_of}
use Rattle.packet_trace.specs.declared.turn.Step.{Step}
use Rattle.packet_trace.specs.declared.turn.Turn.TheVariants.{Accepts}
use Rattle.smp_wire.specs.FabricState.{FabricState, is_switch, is_switch_at}
use Rattle.smp_wire.specs.Good.{has_a_right_count}
use Rattle.smp_wire.specs.declared.node.Node.{Node}
use Rattle.subnet_fabric.specs.BringUp.{IsBroughtUpBy}
use Rattle.switch_model.specs.SwitchState.{num_ports}
use Rattle.table_push.proofs.OwnLemmas.{few_ports}
use Rattle.topo_file.specs.Topology.{TopologyState}
use Rattle.updn_routes.specs.Subnet.{RoutesState}
use Rattle.joint_laws.specs.TraceLaws.{IsFabricOf, LoadsFollowTraces, OwnLoadsFollowTraces}
use Rattle.joint_laws.specs.Steps.{is_left_by}
use Rattle.joint_laws.proofs.FollowingLemmas.{goes_along, same_ports}

pub loads_follow_traces : LoadsFollowTraces
loads_follow_traces plan fabric lids dump packet first at of shows unicast switch accepted =
    let way : steps_of fabric packet first ≡ way_of fabric packet first = rw unicast refl in
    let among = subst (λ (steps : List Step). Contains steps (step accepted.0 Accepts)) way accepted.1 in
    same_ports plan fabric lids dump packet of shows first (way_of fabric packet first) at
    (goes_along fabric packet accepted.0 (2 * length fabric.cables + 1) [] first among) switch
    ∙ ap (λ (steps : List Step). is_left_by steps at) (sym way)

-- ---- a fabric that is brought up is that of its topology
switch_of_map : (nodes : List Node) (place : ℕ) → is_switch_at nodes place ≡ unwrap_or (slice_get (map is_switch nodes) place) false
switch_of_map nodes place = by (slice_get nodes place) ∙ ap (λ (o : Option Bool). unwrap_or o false) (sym (slice_get-map is_switch nodes place))
  where
    by : (o : Option Node) → option_map_or is_switch o false ≡ unwrap_or (option_map is_switch o) false
    by (Some node) = refl
    by None = refl

module _ (plan : TopologyState) (keys : List (List ℕ)) (routes : RoutesState) (fabric : FabricState) (up : IsBroughtUpBy plan keys routes fabric) where
  abbrev was : FabricState
  was = fabric_of plan

  kinds : map is_switch fabric.nodes ≡ map is_switch was.nodes
  kinds =
      ap (λ (one : FabricState). map is_switch one.nodes) up.is ∙ up.pushed.linear.shape.switches ∙ up.pushed.key_tables.shape.switches
      ∙ up.pushed.ports.shape.switches

  counts : list_all has_a_right_count fabric.nodes ≡ true
  counts = subst (λ (one : FabricState). list_all has_a_right_count one.nodes ≡ true) (sym up.is) up.pushed.linear.good.counts

  pub is_of_plan : IsFabricOf plan fabric
  is_of_plan = record {
    cables =
        ap (λ (one : FabricState). one.cables) up.is ∙ up.pushed.linear.shape.cables ∙ up.pushed.key_tables.shape.cables
        ∙ up.pushed.ports.shape.cables;
    switches = λ node.
        switch_of_map fabric.nodes node ∙ ap (λ (all : List Bool). unwrap_or (slice_get all node) false) kinds ∙ sym (switch_of_map was.nodes node)
        ∙ switch_there plan.cables plan.nodes node;
    few = λ node held there.
        let most : num_ports held ≤ 36 = few_ports fabric.nodes node (num_ports held) counts (rw there (omega arith)) in
        omega (arith, most);
  }

pub own_loads_follow_traces : OwnLoadsFollowTraces
own_loads_follow_traces plan keys routes fabric packet first at sound up unicast switch accepted =
    loads_follow_traces plan fabric routes.lids (dump_of plan routes.lids fabric) packet first at (is_of_plan plan keys routes fabric up)
    (a_dump_shows_what_is_held plan keys routes fabric sound up) unicast switch accepted
