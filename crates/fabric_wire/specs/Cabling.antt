-- Cables of which some are cut: how one is cut, and mended, and how the far ends of ports are looked up meanwhile.
use Rattle.std.specs.Prelude.{ℕ, ◌≡◌, ◌≤◌, Bool, true, false, not, nat_lt, ◌&&◌, ◌||◌, List, [], ◌++◌, filter, flat_map, length, slice_get, take, Option}
use Rattle.std.specs.List.{IsDistinct, list_all}
use Rattle.std.specs.Option.{option_map_or}
use Rattle.fabric_parts.specs.declared.cable.Cable.{Cable}
use Rattle.fabric_parts.specs.declared.cable.PortRef.{PortRef}
use Rattle.fabric_parts.specs.Cable.{far_end, is_same_port}
use Rattle.smp_wire.specs.FabricState.{FabricState}
use Rattle.smp_wire.specs.Good.{ends_of}
use Rattle.smp_wire.specs.declared.node.Node.{Node}
use Rattle.fabric_wire.specs.Rows.{far_in}

pub record CablingState : Type 0 where
  pub cables : List Cable
  -- cables that were cut, and can be mended
  pub cut : List Cable

-- none of these is cut
abbrev pub uncut : List Cable → CablingState
uncut cables = record { cables = cables; cut = [] }

-- the fabric of these parts
abbrev pub fabric_over : List Node → CablingState → PortRef → FabricState
fabric_over nodes cabling manager = record { nodes = nodes; cables = cabling.cables; cut = cabling.cut; manager = manager }

-- ---- one cable changes
-- it is the cable between these ports
abbrev pub is_between : PortRef → PortRef → Cable → Bool
is_between a b cable =
    (is_same_port cable.first a && is_same_port cable.second b) || (is_same_port cable.first b && is_same_port cable.second a)

abbrev pub is_not_between : PortRef → PortRef → Cable → Bool
is_not_between a b cable = not (is_between a b cable)

-- it goes behind those that are cut; if no such cable is there, nothing changes
abbrev pub cable_cut : PortRef → PortRef → CablingState → CablingState
cable_cut a b cabling = record {
  cables = filter (is_not_between a b) cabling.cables;
  cut = cabling.cut ++ filter (is_between a b) cabling.cables;
}

-- and back behind those that are not
abbrev pub cable_mended : PortRef → PortRef → CablingState → CablingState
cable_mended a b cabling = record {
  cables = cabling.cables ++ filter (is_between a b) cabling.cut;
  cut = filter (is_not_between a b) cabling.cut;
}

-- no port has two cables, one that is cut or not
abbrev pub IsOnce : CablingState → Type 0
IsOnce cabling = IsDistinct is_same_port (flat_map ends_of (cabling.cables ++ cabling.cut))

-- ---- the look-up
-- the row of the port's node has a place for it
abbrev pub has_place : List (List (Option PortRef)) → PortRef → Bool
has_place rows at = option_map_or (λ row. nat_lt at.port (length row)) (slice_get rows at.node) false

-- it finds the far ends of the cables that are not cut, and each end has a place in it, so that a change takes no memory
pub record IsLookedUp (count : ℕ) (all : List Cable) (rows : List (List (Option PortRef))) : Type 0 where
  pub few : count ≤ length all
  pub far : (port : PortRef) → far_in rows port ≡ far_end (take count all) port
  pub places : list_all (has_place rows) (flat_map ends_of all) ≡ true
