-- A fabric that is served is the fabric of the list of its ports, and of the groups that are remembered.
use Rattle.std.proofs.Common.{ℕ, ◌≡◌, ◌∙◌, ap, subst, sym, Bool, true, false, List, Option}
use Rattle.std.specs.Option.{option_map_or}
use Rattle.fabric_parts.specs.Lid.{is_multicast}
use Rattle.fabric_wire.specs.OfTopology.{fabric_of}
use Rattle.fabric_wire.specs.Recabling.{cabling_of}
use Rattle.smp_wire.specs.Forwards.{IsCabledPort}
use Rattle.smp_wire.specs.Groups.{ForwardsByMlid, HasNoIdleBits}
use Rattle.fabric_parts.specs.declared.cable.PortRef.{PortRef}
use Rattle.partition_file.specs.Sound.{IsSound as ArePartitions}
use Rattle.partition_file.specs.declared.partition.Partition.{Partition}
use Rattle.port_model.specs.AdapterState.{AdapterState}
use Rattle.sa_model.specs.Delivery.{is_receiver_of}
use Rattle.sa_model.specs.Groups.{PartitionGroups}
use Rattle.sa_model.specs.Visible.{SaState}
use Rattle.sa_replies.specs.State.{IsRememberedOf}
use Rattle.smp_wire.specs.FabricState.{FabricState}
use Rattle.smp_wire.specs.Good.{IsGood}
use Rattle.subnet_fabric.proofs.StandingListedLemmas.{a_standing_fabric_is_as_listed, is_brought_up}
use Rattle.subnet_fabric.specs.BringUp.{root_guids}
use Rattle.subnet_fabric.specs.Laws.{all_keys}
use Rattle.subnet_fabric.specs.Recabled.{base_of, with_cables}
use Rattle.subnet_fabric.specs.SetUp.{IsSetUpBy}
use Rattle.subnet_model.specs.declared.subnet_port.SubnetPort.{SubnetPort}
use Rattle.subnet_fabric.proofs.EndPortLemmas.{end_ports_stand_in_order}
use Rattle.subnet_fabric.specs.Ports.{configuration_of, ports_of}
use Rattle.subnet_fabric.specs.OfFabric.{IsFabricOf}
use Rattle.sweep.proofs.MetLemmas.{good_once}
use Rattle.table_push.proofs.AllMaskLemmas.{all_masks_are_there}
use Rattle.table_push.proofs.IdleBitLemmas.{brought_up_has_no_idle_bits}
use Rattle.table_push.specs.BroughtUp.{IsBroughtUp}
use Rattle.table_push.specs.BroughtUpLaws.{by_guid}
use Rattle.table_push.specs.Laws.{HasMasksOf}
use Rattle.topo_file.specs.Sound.{IsSound}
use Rattle.topo_file.specs.Topology.{TopologyState}
use Rattle.updn_routes.specs.Subnet.{RoutesState, guids_of}
use Rattle.updn_routes.specs.Tree.{AreDepths}
use Rattle.updn_routes.specs.declared.link.Link.{Link}
use Rattle.subnet_core.proofs.GroupLemmas.{are_of_groups, few_numbers, listed_is_found, receivers_are_of_groups, receives_by_lid}
use Rattle.subnet_core.specs.AdministrationLaws.{AServedFabricHasNoIdleBits, AServedFabricIsAsListed}
use Rattle.subnet_core.specs.Served.{IsServed, receives_at}

-- what is served is up
pub served_is_up : (plan : TopologyState) (partitions : List Partition) (groups : List PartitionGroups) (routes : RoutesState) (fabric : FabricState)
    → IsSound plan → ArePartitions partitions → IsServed plan (ports_of partitions plan) groups routes fabric
    → IsBroughtUp routes (all_keys (ports_of partitions plan)) fabric
served_is_up plan partitions groups routes fabric sound whole served =
    subst (IsBroughtUp routes (all_keys (ports_of partitions plan))) (sym served.masks)
    (is_brought_up plan partitions routes served.base (receives_at (ports_of partitions plan) groups) sound whole served.stands)

-- tests that agree at each port of a channel adapter make one fabric of a list
module _ (ports : List SubnetPort) (one other : ℕ → ℕ → Bool) (fabric : FabricState) (good : IsGood fabric)
    (agree : (mlid : ℕ) (at : PortRef) (port : AdapterState) → IsCabledPort fabric at port → one mlid port.port_guid ≡ other mlid port.port_guid)
    (groups : (mlid guid : ℕ) → other mlid guid ≡ true → is_multicast mlid ≡ true) where
  spreads_too : ForwardsByMlid fabric one → ForwardsByMlid fabric other
  spreads_too spreads = record {
    free = spreads.free;
    own = λ mlid here at port multi cable there.
        spreads.own mlid here at port multi cable there
        ∙ agree mlid at port (record { there = there; far = here; cable = good_once fabric here at good cable });
    lead = λ mlid from at sender port begin cabled apart member multi.
        spreads.lead mlid from at sender port begin cabled apart (agree mlid at port cabled ∙ member) multi;
    away = spreads.away;
  }

  pub is_fabric_too : IsFabricOf ports one fabric → IsFabricOf ports other fabric
  is_fabric_too is = record {
    forwards = is.forwards;
    spreads = spreads_too is.spreads;
    groups = groups;
    own_guids = is.own_guids;
    order = is.order;
    unicast = is.unicast;
    there = is.there;
    listed = is.listed;
  }

module _ (plan : TopologyState) (partitions : List Partition) (state : SaState) (routes : RoutesState) (fabric : FabricState)
    (sound : IsSound plan) (whole : ArePartitions partitions) (remembered : IsRememberedOf (configuration_of partitions plan) state)
    (served : IsServed plan (ports_of partitions plan) state.partitions routes fabric) where
  abbrev ports : List SubnetPort
  ports = ports_of partitions plan

  abbrev receives : ℕ → ℕ → Bool
  receives = receives_at ports state.partitions

  still_up : IsBroughtUp routes (all_keys ports) fabric
  still_up = served_is_up plan partitions state.partitions routes fabric sound whole served

  by_lids : IsFabricOf ports (by_guid routes.lids receives) fabric
  by_lids =
      subst (IsFabricOf ports (by_guid routes.lids receives)) (sym served.masks)
      (a_standing_fabric_is_as_listed plan partitions routes served.base receives sound whole served.stands
      (are_of_groups ports state.partitions remembered.groups (few_numbers partitions plan state whole remembered)))

  agrees : (mlid : ℕ) (at : PortRef) (one : AdapterState) → IsCabledPort fabric at one
      → by_guid routes.lids receives mlid one.port_guid ≡ is_receiver_of state.partitions mlid one.port_guid
  agrees mlid at one cabled =
      let listed = by_lids.listed at one cabled in
      let port = listed.port in
      let ends = end_ports_stand_in_order partitions plan sound in
      ap (λ (o : Option ℕ). option_map_or (receives mlid) o false) (still_up.lids at one cabled)
      ∙ ap (receives mlid) listed.is.lid
      ∙ receives_by_lid ports state.partitions mlid port ends.lids (listed_is_found ports port listed.among ends.own_guids) listed.is.adapter
      ∙ ap (is_receiver_of state.partitions mlid) (sym listed.is.guid)

  pub is_as_listed : IsFabricOf ports (is_receiver_of state.partitions) fabric
  is_as_listed =
      is_fabric_too ports (by_guid routes.lids receives) (is_receiver_of state.partitions) fabric still_up.good agrees
      (receivers_are_of_groups ports state.partitions remembered.groups (few_numbers partitions plan state whole remembered)) by_lids

  -- ---- and no bit is idle
  abbrev set_up : IsSetUpBy (fabric_of (with_cables (cabling_of served.base).cables plan)) (root_guids plan) (all_keys ports) routes (base_of served.base)
  set_up = served.stands.up.set_up

  right : AreDepths routes.between.rows routes.between.guids (root_guids plan) routes.between.depths
  right =
      subst (λ (guids : List ℕ). AreDepths routes.between.rows guids (root_guids plan) routes.between.depths) (sym set_up.are.made.guids_are)
      (subst (λ (rows : List (List Link)). AreDepths rows (guids_of routes.graph) (root_guids plan) routes.between.depths) (sym set_up.are.made.rows_are)
      set_up.are.made.depths_are)

  has_masks : HasMasksOf routes receives fabric
  has_masks = subst (HasMasksOf routes receives) (sym served.masks) (all_masks_are_there routes receives served.base)

  pub no_idle_bits : HasNoIdleBits fabric (is_receiver_of state.partitions)
  no_idle_bits mlid here set =
      let leads = brought_up_has_no_idle_bits routes (root_guids plan) (all_keys ports) fabric receives set_up.home right still_up has_masks mlid here set in
      record {
        next = leads.next;
        cable = leads.cable;
        at = leads.at;
        way = leads.way;
        goes = leads.goes;
        port = leads.port;
        cabled = leads.cabled;
        member = sym (agrees mlid leads.at leads.port leads.cabled) ∙ leads.member;
      }

pub a_served_fabric_has_no_idle_bits : AServedFabricHasNoIdleBits
a_served_fabric_has_no_idle_bits plan partitions state routes fabric sound whole is served =
    no_idle_bits plan partitions state.remembered routes fabric sound whole is.remembered served

pub a_served_fabric_is_as_listed : AServedFabricIsAsListed
a_served_fabric_is_as_listed plan partitions state routes fabric sound whole is served =
    is_as_listed plan partitions state.remembered routes fabric sound whole is.remembered served
