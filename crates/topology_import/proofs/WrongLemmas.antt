-- What wrong rules let pass.
use Rattle.std.proofs.Common.{◌≡◌, refl, ℕ, ◌+◌, Bool, true, false, nat_eq, codes, List, [], ◌∷◌, Some, None, arith}
use Rattle.std.specs.List.{list_any}
use Rattle.std.proofs.lemmas.Bool.{false≢true}
use Rattle.std.proofs.lemmas.Map.Keys.{any_passes_from_place}
use Rattle.fabric_parts.specs.declared.cable.Cable.{Cable}
use Rattle.fabric_parts.specs.declared.node_type.NodeType.TheVariants as node_type
use Rattle.fabric_parts.specs.Cable.{port}
use Rattle.step_results.proofs.DistinctLemmas.{distinct}
use Rattle.step_results.proofs.ListLemmas.{IsDistinct-nil}
use Rattle.netdiscover_file.specs.declared.kind.NodeKind.TheVariants.{ChannelAdapter, Switch}
use Rattle.netdiscover_file.specs.declared.node.Node.{Node as FoundNode}
use Rattle.netdiscover_file.specs.declared.port.PortLine.{PortLine}
use Rattle.netdiscover_file.specs.Discovery.{DiscoveryState}
use Rattle.netdiscover_file.specs.Sound.{IsSound, port_guids, shares_guid, shares_port}
use Rattle.topo_file.specs.declared.node.Node.{Node}
use Rattle.topo_file.specs.Topology.{TopologyState}
use Rattle.topology_import.specs.declared.planned.Planned.{Planned}
use Rattle.topology_import.specs.Agreement.{is_between}
use Rattle.topology_import.specs.Ends.{counted}
use Rattle.topology_import.specs.Laws.{Among, LeadToOneAnother}
use Rattle.topology_import.specs.WrongRules.{CablesAreWanted, EndsAreWanted, LinesAreWanted, NearEndsAloneAreNotEnough, NoRootsAreWanted, SwitchesAreJoinedToo, TheManagerIsWanted}

-- ---- nothing was discovered
abbrev nothing : DiscoveryState
nothing = record { nodes = []; ports = []; initiator = None }

nothing_sound : IsSound nothing
nothing_sound = record {
  lines = record {
    own_nodes = IsDistinct-nil shares_guid;
    own_lines = IsDistinct-nil shares_port;
    own_guids = IsDistinct-nil nat_eq;
    are_ports = refl;
    have_own = refl;
  };
  cables = refl;
  found = refl;
}

abbrev plan_of : List Node → List Cable → ℕ → TopologyState
plan_of nodes cables place = record { nodes = nodes; cables = cables; roots = []; sm = port place 1 }

pub the_manager_is_wanted : TheManagerIsWanted
the_manager_is_wanted law = let reported : false ≡ true = (law nothing [] 1 (plan_of [] [] 0) nothing_sound refl).manager_port in false≢true reported

-- ---- a switch with an adapter at each of its two ports
abbrev switch : FoundNode
switch = record { id = record { kind = Switch; guid = 1 }; ports = 2; name = []; lid = Some 1; port_guid = None; line = 1 }

abbrev adapter : ℕ → FoundNode
adapter guid = record { id = record { kind = ChannelAdapter; guid = guid }; ports = 1; name = []; lid = None; port_guid = None; line = 1 }

-- the line of a port of the switch, and that of the port of an adapter, whose GUID is one above the adapter's
abbrev out : ℕ → ℕ → PortLine
out number guid = record {
  port = port 0 number;
  guid = None;
  lid = None;
  far = record { node = record { kind = ChannelAdapter; guid = guid }; port = 1; guid = Some (guid + 1) };
  line = 1;
}

abbrev back : ℕ → ℕ → ℕ → PortLine
back place guid number = record {
  port = port place 1;
  guid = Some (guid + 1);
  lid = Some 1;
  far = record { node = record { kind = Switch; guid = 1 }; port = number; guid = None };
  line = 1;
}

abbrev star : DiscoveryState
star = record {
  nodes = switch ∷ adapter 16 ∷ adapter 32 ∷ [];
  ports = out 1 16 ∷ out 2 32 ∷ back 1 16 1 ∷ back 2 32 2 ∷ [];
  initiator = None;
}

star_sound : IsSound star
star_sound = record {
  lines = record {
    own_nodes = distinct shares_guid star.nodes refl;
    own_lines = distinct shares_port star.ports refl;
    own_guids = distinct nat_eq (port_guids star.nodes star.ports) refl;
    are_ports = refl;
    have_own = refl;
  };
  cables = refl;
  found = refl;
}

abbrev planned_switch : Planned
planned_switch = record { name = codes "s"; node_type = node_type.Switch; guid = 1; ports = 2; node = 0; line = 1 }

abbrev planned_adapter : List ℕ → ℕ → Planned
planned_adapter name guid = record { name = name; node_type = node_type.ChannelAdapter; guid = guid; ports = 1; node = 0; line = 1 }

abbrev read_switch : Node
read_switch = record { name = codes "s"; node_type = node_type.Switch; guid = 1; ports = 2 }

abbrev read_adapter : List ℕ → ℕ → Node
read_adapter name guid = record { name = name; node_type = node_type.ChannelAdapter; guid = guid; ports = 1 }

abbrev planned : List Planned
planned = planned_switch ∷ planned_adapter (codes "a") 16 ∷ planned_adapter (codes "b") 32 ∷ []

abbrev nodes : List Node
nodes = read_switch ∷ read_adapter (codes "a") 16 ∷ read_adapter (codes "b") 32 ∷ []

-- no cable stands in the topology
pub lines_are_wanted : LinesAreWanted
lines_are_wanted law =
    let it = (law star planned 17 (plan_of nodes [] 1) star_sound refl).end_ports (back 1 16 1) 17 (2, refl) refl in
    let reported : false ≡ true = it.2 in
    false≢true reported

abbrev cable : ℕ → ℕ → Cable
cable number place = record { first = port 0 number; second = port place 1 }

nowhere : (line : PortLine) → Among [] line → ⊥
nowhere line (place, there) = absurd cc

-- an adapter stands in the topology of nothing
pub ends_are_wanted : EndsAreWanted
ends_are_wanted law =
    let one = read_adapter (codes "a") 16 in
    let it = (law nothing (planned_adapter (codes "a") 16 ∷ []) 17 (plan_of (one ∷ []) [] 0) nothing_sound refl).only_ends 0 1 one refl refl
    (omega arith) (omega arith) in
    nowhere it.0 it.1

-- a cable more, from a port to itself
abbrev more : List Cable
more = cable 1 1 ∷ cable 2 2 ∷ (record { first = port 0 3; second = port 0 3 }) ∷ []

joins_some : PortLine → Bool
joins_some line = list_any (λ other. is_between star nodes (record { first = port 0 3; second = port 0 3 }) line other) star.ports

pub cables_are_wanted : CablesAreWanted
unfolding joins_some
cables_are_wanted law =
    let it = (law star planned 17 (plan_of nodes more 1) star_sound refl).no_others (record { first = port 0 3; second = port 0 3 }) (2, refl) in
    let one : joins_some it.0 ≡ true =
    any_passes_from_place (λ other. is_between star nodes (record { first = port 0 3; second = port 0 3 }) it.0 other) star.ports
    it.2.there.0 it.1 it.2.there.1 it.3 in
    let reported : false ≡ true = any_passes_from_place joins_some (counted star) it.2.counts.0 it.0 it.2.counts.1 one in
    false≢true reported

-- the switch is a root
pub no_roots_are_wanted : NoRootsAreWanted
no_roots_are_wanted law =
    let with_root : TopologyState = record { nodes = nodes; cables = cable 1 1 ∷ cable 2 2 ∷ []; roots = 0 ∷ []; sm = port 1 1 } in
    let reported : ◌≡◌ {A = List ℕ} (0 ∷ []) [] = (law star planned 17 with_root star_sound refl).no_roots in
    absurd cc

-- the adapters have changed places
abbrev crossed : List Cable
crossed = cable 1 2 ∷ cable 2 1 ∷ []

pub near_ends_alone_are_not_enough : NearEndsAloneAreNotEnough
near_ends_alone_are_not_enough law =
    let lead : LeadToOneAnother star (out 1 16) (back 1 16 1) = record { counts = (0, refl); there = (2, refl); cable = refl } in
    let it = (law star planned 17 (plan_of nodes crossed 1) star_sound refl).joined (out 1 16) (back 1 16 1) lead in
    let reported : false ≡ true = any_passes_from_place (λ c. is_between star nodes c (out 1 16) (back 1 16 1)) crossed it.1.0 it.0 it.1.1 it.2 in
    false≢true reported

-- ---- two switches, of which the first has an adapter
abbrev trunk : ℕ → ℕ → ℕ → ℕ → PortLine
trunk place number guid far_number = record {
  port = port place number;
  guid = None;
  lid = None;
  far = record { node = record { kind = Switch; guid = guid }; port = far_number; guid = None };
  line = 1;
}

abbrev twins : DiscoveryState
twins = record {
  nodes = switch ∷ record switch { id = record { kind = Switch; guid = 2 } } ∷ adapter 16 ∷ [];
  ports = out 1 16 ∷ trunk 0 2 2 1 ∷ trunk 1 1 1 2 ∷ back 2 16 1 ∷ [];
  initiator = None;
}

twins_sound : IsSound twins
twins_sound = record {
  lines = record {
    own_nodes = distinct shares_guid twins.nodes refl;
    own_lines = distinct shares_port twins.ports refl;
    own_guids = distinct nat_eq (port_guids twins.nodes twins.ports) refl;
    are_ports = refl;
    have_own = refl;
  };
  cables = refl;
  found = refl;
}

abbrev twins_planned : List Planned
twins_planned = planned_switch ∷ record planned_switch { name = codes "t"; guid = 2 } ∷ planned_adapter (codes "a") 16 ∷ []

abbrev twins_nodes : List Node
twins_nodes = read_switch ∷ record read_switch { name = codes "t"; guid = 2 } ∷ read_adapter (codes "a") 16 ∷ []

-- the adapter alone has its cable
pub switches_are_joined_too : SwitchesAreJoinedToo
switches_are_joined_too law =
    let one : List Cable = cable 1 2 ∷ [] in
    let lead : LeadToOneAnother twins (trunk 0 2 2 1) (trunk 1 1 1 2) = record { counts = (1, refl); there = (2, refl); cable = refl } in
    let it = (law twins twins_planned 17 (plan_of twins_nodes one 2) twins_sound refl).joined (trunk 0 2 2 1) (trunk 1 1 1 2) lead in
    let reported : false ≡ true = any_passes_from_place (λ c. is_between twins twins_nodes c (trunk 0 2 2 1) (trunk 1 1 1 2)) one it.1.0 it.0 it.1.1 it.2 in
    false≢true reported
