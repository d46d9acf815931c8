-- The masks of the broadcast groups of partitions that differ if one fabric takes the place of another, if each end port of a
-- channel adapter that holds a key of a partition receives what is sent to its group.
use Rattle.std.specs.Prelude.{ℕ, ◌≡◌, ◌==◌, ◌&&◌, not, nat_lt, Bool, false, if◌then◌else◌, is_some, List, [], ◌∷◌, filter, find, get_or, map, position}
use Rattle.std.specs.Int.{bit_at}
use Rattle.std.specs.List.{AllZip, enumerate_from, flat_map, list_any, range_with_len}
use Rattle.std.specs.Option.{option_map_or}
use Rattle.fabric_parts.specs.NodeType.{is_switch_type}
use Rattle.partition_file.specs.declared.heading.Heading.{Heading}
use Rattle.pkey_rules.specs.KeyTable.{has_base}
use Rattle.sa_model.specs.Groups.{first_mlid}
use Rattle.smp_wire.specs.FabricState.{FabricState}
use Rattle.subnet_fabric.specs.Recabled.{masks_in}
use Rattle.subnet_model.specs.Configuration.{ConfigurationState}
use Rattle.subnet_model.specs.declared.subnet_port.SubnetPort.{SubnetPort}
use Rattle.sweep.specs.Graph.{IsGraph}
use Rattle.switch_model.specs.Multicast.{is_in_masks}
use Rattle.table_push.specs.Masks.{is_in_mask}
use Rattle.table_push.specs.MaskSteps.{ArePortMasks}
use Rattle.updn_routes.specs.Subnet.{RoutesState, guids_of, place_of}
use Rattle.cable_cuts.specs.Changes.{is_switch_of}
use Rattle.cable_cuts.specs.declared.masks.GroupMasks.{GroupMasks}
use Rattle.cable_cuts.specs.declared.masks.MaskChange.{MaskChange}

-- ---- who receives
abbrev pub is_member : ℕ → SubnetPort → Bool
is_member base port = not (is_switch_type port.node_type) && has_base base port.keys

-- what is sent to the group of that multicast LID is to reach the LIDs of all members
abbrev pub receives_all : List SubnetPort → (base group : ℕ) → (mlid lid : ℕ) → Bool
receives_all ports base group mlid lid = (mlid == group) && list_any (λ port. is_member base port && (port.lid == lid)) ports

-- ---- masks of partitions: by the number of the partition, the GUID of a switch and the number of a port, whether the port has
-- its bit for the broadcast group, whose multicast LID is the first of the partition's
abbrev pub Masks : Type 0
Masks = ℕ → Heading → ℕ → ℕ → Bool

-- those that a fabric holds
abbrev pub masks_of_switch : FabricState → ℕ → List (List ℕ)
masks_of_switch fabric guid = option_map_or masks_in (find (is_switch_of guid) fabric.nodes) []

abbrev pub mask_in : FabricState → Masks
mask_in fabric number heading guid port = is_in_masks (masks_of_switch fabric guid) (first_mlid number) port

-- and those that routes push for these end ports
abbrev pub mask_by : List SubnetPort → RoutesState → Masks
mask_by ports routes number heading guid port =
    option_map_or
    (λ place. is_in_mask routes (receives_all ports heading.base (first_mlid number)) place (first_mlid number) port)
    (place_of routes.graph.switches guid) false

-- ---- what differs: of a switch, for a partition that has a group, some port's bit
abbrev pub is_other : Bool → Bool → Bool
is_other one two = if one then not two else two

abbrev pub differs : Masks → Masks → ℕ → Heading → ℕ → Bool
differs one other number heading guid =
    list_any (λ port. is_other (one number heading guid port) (other number heading guid port)) (range_with_len 0 48)

abbrev pub mask_change_at : Masks → Masks → SubnetPort → ℕ × Heading → List MaskChange
mask_change_at one other switch (number, heading) =
    if is_some heading.group && differs one other number heading switch.guid
    then record { switch = switch.lid; partition = number } ∷ [] else []

abbrev pub mask_changes_at : List Heading → Masks → Masks → SubnetPort → List MaskChange
mask_changes_at partitions one other switch =
    if is_switch_type switch.node_type then flat_map (mask_change_at one other switch) (enumerate_from 0 partitions) else []

-- by switches, in the order of the list, and then by partitions
abbrev pub mask_changes : ConfigurationState → Masks → Masks → List MaskChange
mask_changes configuration one other = flat_map (mask_changes_at configuration.partitions one other) configuration.ports

-- ---- as they are computed: of each partition the port masks of the switches, by their places in the graph
abbrev pub member_lids : (base : ℕ) → List SubnetPort → List ℕ
member_lids base ports = map (λ port. port.lid) (filter (is_member base) ports)

abbrev pub AreMasksOfAll : List SubnetPort → RoutesState → List Heading → List (List ℕ) → Type 0
AreMasksOfAll ports routes partitions all =
    AllZip (λ heading masks. ArePortMasks routes (member_lids heading.base ports) masks) partitions all

pub record AreGroupMasks (configuration : ConfigurationState) (routes : RoutesState) (held : GroupMasks) : Type 0 where
  pub graph : IsGraph routes.graph
  pub guids : held.guids.items ≡ guids_of routes.graph
  pub masks : AreMasksOfAll configuration.ports routes configuration.partitions held.masks.items

-- the one of a switch, and a port's bit of it
abbrev pub mask_of : GroupMasks → (number guid : ℕ) → ℕ
mask_of held number guid =
    option_map_or (λ place. get_or (get_or held.masks.items number []) place 0) (position (λ one. guid == one) held.guids.items) 0

abbrev pub has_bit : (mask port : ℕ) → Bool
has_bit mask port = nat_lt port 64 && (bit_at mask port == 1)

abbrev pub mask_held : GroupMasks → Masks
mask_held held number heading guid port = has_bit (mask_of held number guid) port
