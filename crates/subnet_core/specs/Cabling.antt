-- Which cables of a subnet are in place, command by command.
use Rattle.std.specs.Prelude.{◌≡◌, List, [], ◌∷◌}
use Rattle.fabric_wire.specs.Cabling.{CablingState}
use Rattle.subnet_fabric.specs.Standing.{IsNextCabling}
use Rattle.subnet_model.specs.declared.command.Command.{Command}
use Rattle.subnet_model.specs.declared.command.Command.TheVariants.{Ask, Cable, Send}
use Rattle.topo_file.specs.Topology.{TopologyState}
use Rattle.updn_routes.specs.Subnet.{RoutesState}

-- a command to cut a cable, or to mend it, changes them if the topology can be brought up with those that are in place then;
-- all others leave them
abbrev pub IsCabledAfter : TopologyState → Command → (was next : CablingState) → Type 0
IsCabledAfter plan (Send command) was next = next ≡ was
IsCabledAfter plan (Ask command) was next = next ≡ was
IsCabledAfter plan (Cable command) was next = IsNextCabling plan command.cable.first command.cable.second command.up was next

-- after commands one after another
abbrev pub AreCabledAfter : TopologyState → List Command → (was next : CablingState) → Type 0
AreCabledAfter plan [] was next = next ≡ was
AreCabledAfter plan (command ∷ commands) was next =
    (between : CablingState) × IsCabledAfter plan command was between × AreCabledAfter plan commands between next

-- routes stay as long as no cable is to be cut or mended
abbrev pub RoutesStay : Command → (was next : RoutesState) → Type 0
RoutesStay (Send command) was next = next ≡ was
RoutesStay (Ask command) was next = next ≡ was
RoutesStay (Cable command) was next = Unit {0}

-- a command to cut a cable, or to mend it, that leaves the cables as they are leaves all as it was; of others nothing is said
abbrev pub IsKept : Command → (same_cables all_stays : Type 0) → Type 0
IsKept (Send command) same_cables all_stays = Unit {0}
IsKept (Ask command) same_cables all_stays = Unit {0}
IsKept (Cable command) same_cables all_stays = same_cables → all_stays
