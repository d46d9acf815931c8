-- What is pushed into multicast forwarding tables (IBA volume 1, chapter 14): for each multicast LID the ports by which a
-- switch sends what is for it, which are those that lead, along the spanning tree, to the ports that are to receive it.
use Rattle.std.specs.Prelude.{ℕ, zero, suc, ◌≤◌, ◌+◌, ◌-◌, ◌*◌, ◌==◌, ◌&&◌, not, nat_le, nat_lt, Bool, false, if◌then◌else◌}
use Rattle.std.specs.Prelude.{List, [], ◌∷◌, find, get_or, length, map, take, Option, Some, option_map}
use Rattle.std.specs.List.{list_any, range_with_len}
use Rattle.std.specs.Option.{option_and_then, option_map_or}
use Rattle.agent_rules.specs.declared.power_up.TheConstants.{MULTICAST_TABLE}
use Rattle.attr_tables.specs.Blocks.{block_of, with_block}
use Rattle.fabric_parts.specs.declared.cable.PortRef.{PortRef}
use Rattle.fabric_parts.specs.declared.lid.TheConstants.{FIRST_MULTICAST_LID}
use Rattle.smp_wire.specs.FabricState.{FabricState}
use Rattle.subnet_model.specs.declared.group_receiver.GroupReceiver.{GroupReceiver}
use Rattle.sweep.specs.declared.graph.GraphLink.{GraphLink}
use Rattle.switch_model.specs.SwitchState.{SwitchState}
use Rattle.table_push.specs.Nodes.{with_switches}
use Rattle.updn_routes.specs.Routes.{home_of}
use Rattle.updn_routes.specs.Sides.{above, is_below}
use Rattle.updn_routes.specs.Subnet.{RoutesState, place_of}
use Rattle.updn_routes.specs.Tree.{tree_port}

-- ---- along the tree
-- the link of a switch at its port of that number
abbrev pub link_at : List (List GraphLink) → (s number : ℕ) → Option GraphLink
link_at rows s number = find (λ link. link.port == number) (get_or rows s [])

-- the far end of the cable at a switch's tree port: its parent, and the parent's port
abbrev pub tree_end : RoutesState → ℕ → Option PortRef
tree_end routes s =
    option_and_then (λ number. option_map (λ link. link.to) (link_at routes.graph.rows s number))
    (tree_port routes.between.rows routes.between.depths s)

-- of the switches next below s the one that t is below: one step less up from t than s is
abbrev pub child_towards : RoutesState → (s t : ℕ) → Option ℕ
child_towards routes s t =
    above routes.between.rows routes.between.depths (get_or routes.between.depths t 0 - get_or routes.between.depths s 0 - 1) t

-- the port by which switch s sends what goes along the tree to what is attached at that port of a switch
unfoldable pub tree_hop : RoutesState → (s : ℕ) → PortRef → Option ℕ
tree_hop routes s home =
    if home.node == s then Some home.port
    else if is_below routes.between.rows routes.between.depths s home.node
    then option_map (λ at. at.port) (option_and_then (tree_end routes) (child_towards routes s home.node))
    else tree_port routes.between.rows routes.between.depths s

-- ---- who receives
-- of a test that reports whether what is for that multicast LID is to reach that LID
abbrev pub receives_of : List GroupReceiver → (mlid lid : ℕ) → Bool
receives_of receivers mlid lid = list_any (λ one. (one.mlid == mlid) && (one.lid == lid)) receivers

-- of what is for a group to which these LIDs belong, whatever its multicast LID is
abbrev pub goes_to : List ℕ → (mlid lid : ℕ) → Bool
goes_to lids mlid lid = list_any (λ one. one == lid) lids

-- a port of an adapter that is attached there gets it from the switch at that place by the port of that number
abbrev pub is_hop : RoutesState → (place number : ℕ) → PortRef → Bool
is_hop routes place number home =
    not (home.port == 0) && option_map_or (λ port. port == number) (tree_hop routes place home) false

abbrev pub is_hop_to : RoutesState → (place number lid : ℕ) → Bool
is_hop_to routes place number lid = option_map_or (is_hop routes place number) (home_of routes.between.homes lid) false

-- one of the LIDs that are to receive it is reached by that port
unfoldable pub is_in_mask : RoutesState → (receives : ℕ → ℕ → Bool) → (place mlid number : ℕ) → Bool
is_in_mask routes receives place mlid number =
    list_any (λ lid. receives mlid lid && is_hop_to routes place number lid) (range_with_len 1 (length routes.lids))

-- ---- masks
-- the number of so many bits, from the lowest on, each of which is set where the test says
unfoldable pub bits_where : ℕ → (ℕ → Bool) → ℕ
bits_where zero is_set = 0
bits_where (suc count) is_set = (if is_set 0 then 1 else 0) + 2 * bits_where count (λ k. is_set (suc k))

-- the mask of a multicast LID at a position, which has the 16 ports from 16 times the position on
abbrev pub mask_word : RoutesState → (receives : ℕ → ℕ → Bool) → (place position mlid : ℕ) → ℕ
mask_word routes receives place position mlid =
    bits_where 16 (λ k. is_in_mask routes receives place mlid (16 * position + k))

abbrev pub mask_of_position : RoutesState → (receives : ℕ → ℕ → Bool) → (place position : ℕ) → List ℕ
mask_of_position routes receives place position =
    map (λ i. mask_word routes receives place position (FIRST_MULTICAST_LID + i)) (range_with_len 0 MULTICAST_TABLE)

-- the whole table of the switch at that place, by positions
abbrev pub masks_of : RoutesState → (receives : ℕ → ℕ → Bool) → (place : ℕ) → List (List ℕ)
masks_of routes receives place = map (mask_of_position routes receives place) (range_with_len 0 3)

-- ---- the MLID range of a partition: 32 multicast LIDs, which are the block of that number in each position
abbrev pub is_in_mlid_range : (partition mlid : ℕ) → Bool
is_in_mlid_range partition mlid =
    nat_le (FIRST_MULTICAST_LID + 32 * partition) mlid && nat_lt mlid (FIRST_MULTICAST_LID + 32 * partition + 32)

-- they lie in the table
abbrev pub LiesInTable : (partition : ℕ) → Type 0
LiesInTable partition = 32 * partition + 32 ≤ MULTICAST_TABLE

abbrev pub range_of : (partition : ℕ) → List (List ℕ) → List (List ℕ)
range_of partition masks = map (block_of 32 partition) masks

-- masks with these blocks in place of their own
abbrev pub with_range : (partition : ℕ) → (blocks masks : List (List ℕ)) → List (List ℕ)
with_range partition [] masks = masks
with_range partition (block ∷ blocks) [] = []
with_range partition (block ∷ blocks) (words ∷ masks) =
    with_block 32 partition block words ∷ with_range partition blocks masks

abbrev pub wanted_range : RoutesState → (partition : ℕ) → (receives : ℕ → ℕ → Bool) → (place : ℕ) → List (List ℕ)
wanted_range routes partition receives place = range_of partition (masks_of routes receives place)

-- the switch of that GUID, which the graph has at some place
abbrev pub with_masks : RoutesState → (partition : ℕ) → (receives : ℕ → ℕ → Bool) → (guid : ℕ) → SwitchState → SwitchState
with_masks routes partition receives guid held =
    record held {
      masks = option_map_or (λ place. with_range partition (wanted_range routes partition receives place) held.masks)
          (place_of routes.graph.switches guid) held.masks;
    }

-- all other masks stay
abbrev pub masks_pushed : RoutesState → (partition : ℕ) → (receives : ℕ → ℕ → Bool) → FabricState → FabricState
masks_pushed routes partition receives fabric = with_switches (with_masks routes partition receives) fabric

-- all MLID ranges: the switch of that GUID, if the graph has it, has all masks of that test
abbrev pub with_all_masks : RoutesState → (receives : ℕ → ℕ → Bool) → (guid : ℕ) → SwitchState → SwitchState
with_all_masks routes receives guid held =
    record held { masks = option_map_or (masks_of routes receives) (place_of routes.graph.switches guid) held.masks }

abbrev pub all_masks_pushed : RoutesState → (receives : ℕ → ℕ → Bool) → FabricState → FabricState
all_masks_pushed routes receives fabric = with_switches (with_all_masks routes receives) fabric

-- ---- while they are written
abbrev pub set_range : (partition : ℕ) → List (List ℕ) → SwitchState → SwitchState
set_range partition blocks held = record held { masks = with_range partition blocks held.masks }

-- the blocks of the first positions are written
abbrev pub slice_to : (count partition : ℕ) → List (List ℕ) → SwitchState → SwitchState
slice_to count partition blocks held = set_range partition (take count blocks) held

-- the switches at the first places of the graph are written
abbrev pub masks_before : RoutesState → (partition : ℕ) → (receives : ℕ → ℕ → Bool) → (count guid : ℕ) → SwitchState → SwitchState
masks_before routes partition receives count guid held =
    if list_any (λ switch. switch.guid == guid) (take count routes.graph.switches)
    then with_masks routes partition receives guid held else held
