-- A fabric that is brought up, with MFTs of groups in its switches, is the fabric of the list of ports and these groups.
use Rattle.std.proofs.Common.{ℕ, ◌≡◌, ◌∙◌, subst, sym, Bool, true, false, List, length, Option, Some, None}
use Rattle.std.specs.Option.{option_map_or}
use Rattle.std.proofs.lemmas.Bool.{false≢true}
use Rattle.std.proofs.lemmas.List.{length-map}
use Rattle.std.proofs.lemmas.List.Elements.{All-weaker}
use Rattle.fabric_parts.specs.Lid.{is_multicast}
use Rattle.fabric_parts.specs.NodeType.{is_switch_type}
use Rattle.fabric_parts.specs.declared.cable.PortRef.{PortRef}
use Rattle.fabric_wire.proofs.EndPortLemmas.{known_distinct}
use Rattle.fabric_wire.specs.OfTopology.{fabric_of}
use Rattle.lid_assign.specs.Lids.{lid_in}
use Rattle.smp_wire.specs.Forwards.{ForwardsByLid}
use Rattle.smp_wire.specs.Groups.{ForwardsByMlid}
use Rattle.partition_file.specs.Sound.{IsSound as ArePartitions}
use Rattle.partition_file.specs.declared.partition.Partition.{Partition}
use Rattle.port_model.specs.AdapterState.{AdapterState}
use Rattle.smp_wire.specs.FabricState.{FabricState}
use Rattle.smp_wire.specs.Good.{IsGood}
use Rattle.subnet_fabric.proofs.ListedLemmas.{as_many, is_fabric, up}
use Rattle.subnet_fabric.specs.BringUp.{IsBroughtUpBy, root_guids}
use Rattle.subnet_fabric.specs.Laws.{AFabricWithGroupsIsAsListed, all_keys}
use Rattle.subnet_model.specs.declared.subnet_port.SubnetPort.{SubnetPort}
use Rattle.subnet_fabric.specs.Ports.{ports_of}
use Rattle.subnet_fabric.specs.OfFabric.{IsFabricOf, IsListed, IsSetUpAsListed, IsThere, nobody}
use Rattle.table_push.proofs.AllMaskLemmas.{all_masks_are_there, cabled_still, cabled_then, masks_keep_what_is_up}
use Rattle.table_push.proofs.ForwardsLemmas.{brought_up_forwards_by_lid}
use Rattle.table_push.proofs.ForwardsMlidLemmas.{brought_up_forwards_by_mlid}
use Rattle.table_push.specs.BroughtUp.{IsBroughtUp}
use Rattle.table_push.specs.BroughtUpLaws.{AreOfGroups, by_guid}
use Rattle.table_push.specs.Masks.{all_masks_pushed}
use Rattle.table_push.specs.Pushed.{all_pushed}
use Rattle.topo_file.specs.Sound.{IsSound}
use Rattle.topo_file.specs.Topology.{TopologyState}
use Rattle.updn_routes.specs.Subnet.{RoutesState, guids_of}
use Rattle.updn_routes.specs.Tree.{AreDepths}

-- who receives by a LID receives what is sent to a multicast LID
of_groups : (lids : List ℕ) (receives : ℕ → ℕ → Bool) → AreOfGroups receives → (mlid guid : ℕ) → by_guid lids receives mlid guid ≡ true → is_multicast mlid ≡ true
of_groups lids receives groups mlid guid = by (lid_in lids guid)
  where
    by : (o : Option ℕ) → option_map_or (receives mlid) o false ≡ true → is_multicast mlid ≡ true
    by None none = absurd (false≢true none)
    by (Some lid) member = (groups mlid lid member).0

-- masks change no port
module _ (routes : RoutesState) (receives : ℕ → ℕ → Bool) (fabric : FabricState) where
  abbrev next : FabricState
  next = all_masks_pushed routes receives fabric

  set_up_still : (port : SubnetPort) (at : PortRef) (one : AdapterState) → IsSetUpAsListed fabric port at one → IsSetUpAsListed next port at one
  set_up_still port at one is = record {
    adapter = is.adapter;
    cabled = cabled_then routes receives fabric at one is.cabled;
    active = is.active;
    guid = is.guid;
    lid = is.lid;
    keys = is.keys;
  }

  there_still : (port : SubnetPort) → (is_switch_type port.node_type ≡ false → IsThere fabric port) → is_switch_type port.node_type ≡ false → IsThere next port
  there_still port there adapter = let is = there adapter in record { at = is.at; one = is.one; is = set_up_still port is.at is.one is.is }

  listed_still : (ports : List SubnetPort) (at : PortRef) (one : AdapterState) → IsListed ports fabric at one → IsListed ports next at one
  listed_still ports at one listed = record { port = listed.port; among = listed.among; is = set_up_still listed.port at one listed.is }

  with_groups : (ports : List SubnetPort) → IsFabricOf ports nobody fabric → AreOfGroups receives → IsGood next → ForwardsByLid next
      → ForwardsByMlid next (by_guid routes.lids receives) → IsFabricOf ports (by_guid routes.lids receives) next
  with_groups ports is groups good forwards spreads = record {
    forwards = forwards;
    spreads = spreads;
    groups = of_groups routes.lids receives groups;
    own_guids = λ guid a b one other. known_distinct next.nodes good.end_guids.own a b guid one other;
    order = is.order;
    unicast = is.unicast;
    there =
        All-weaker (λ port. is_switch_type port.node_type ≡ false → IsThere fabric port) (λ port. is_switch_type port.node_type ≡ false → IsThere next port)
        there_still ports is.there;
    listed = λ at one cabled. listed_still ports at one (is.listed at one (cabled_still routes receives fabric at one cabled));
  }

module _ (plan : TopologyState) (partitions : List Partition) (routes : RoutesState) (fabric : FabricState) (receives : ℕ → ℕ → Bool)
    (sound : IsSound plan) (whole : ArePartitions partitions) (by : IsBroughtUpBy plan (all_keys (ports_of partitions plan)) routes fabric)
    (groups : AreOfGroups receives) where
  abbrev keys : List (List ℕ)
  keys = all_keys (ports_of partitions plan)

  abbrev brought_up : FabricState
  brought_up = all_pushed routes keys (fabric_of plan)

  abbrev masked : FabricState
  masked = all_masks_pushed routes receives brought_up

  still_up : IsBroughtUp routes keys masked
  still_up = masks_keep_what_is_up routes keys receives brought_up (up plan partitions sound whole routes by.are by.home by.pushed)

  all_keyed : length keys ≡ length routes.lids
  all_keyed =
      length-map (ports_of partitions plan) (λ (port : SubnetPort). port.keys)
      ∙ as_many plan partitions sound whole routes by.are by.home by.pushed

  depths : AreDepths routes.between.rows routes.between.guids (root_guids plan) routes.between.depths
  depths =
      subst (λ (guids : List ℕ). AreDepths routes.between.rows guids (root_guids plan) routes.between.depths) (sym by.are.made.guids_are)
      (subst (λ rows. AreDepths rows (guids_of routes.graph) (root_guids plan) routes.between.depths) (sym by.are.made.rows_are) by.are.made.depths_are)

  is_with_groups : IsFabricOf (ports_of partitions plan) (by_guid routes.lids receives) (all_masks_pushed routes receives fabric)
  is_with_groups =
      subst (λ (f : FabricState). IsFabricOf (ports_of partitions plan) (by_guid routes.lids receives) (all_masks_pushed routes receives f)) (sym by.is)
      (with_groups routes receives brought_up (ports_of partitions plan)
      (is_fabric plan partitions sound whole routes by.are by.home by.pushed) groups still_up.good
      (brought_up_forwards_by_lid routes keys masked by.home all_keyed still_up)
      (brought_up_forwards_by_mlid routes (root_guids plan) keys masked receives by.home depths all_keyed still_up
      (all_masks_are_there routes receives brought_up) groups))

pub a_fabric_with_groups_is_as_listed : AFabricWithGroupsIsAsListed
a_fabric_with_groups_is_as_listed plan partitions routes fabric receives sound whole by groups =
    is_with_groups plan partitions routes fabric receives sound whole by groups
