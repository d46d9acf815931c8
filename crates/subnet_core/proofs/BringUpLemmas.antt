-- What is answered where a fabric is brought up, and where it is not.
use Rattle.std.proofs.Common.{ℕ, ◌≡◌, ◌+◌, ◌-◌, ◌≤◌, ◌<◌, ◌==◌, ◌∙◌, ap, refl, sym, arith, Bool, true, false, if◌then◌else◌, List, length, get_or, slice_get, Option, Some, None, Result, Ok, Err}
use Rattle.std.proofs.lemmas.List.{get_or-map, length-map}
use Rattle.std.proofs.lemmas.List.FromFn.{get_or-range_with_len, length-enumerate_from}
use Rattle.std.proofs.lemmas.Option.{none-some, slice_get_within}
use Rattle.std.proofs.lemmas.Bool.Decides.{nat_tests}
use Rattle.fabric_parts.specs.declared.cable.PortRef.{PortRef}
use Rattle.step_results.specs.Gives.{Fails}
use Rattle.subnet_core.specs.BringUp.{Becomes, ComesTo, IsUp}
use Rattle.subnet_core.specs.Fate.{FailsWith, WithFabric, up_from}
use Rattle.subnet_core.specs.Inventory.{IsInventoried, InventoryState, fault_in}
use Rattle.subnet_core.specs.declared.fault.RunFault.{RunFault}
use Rattle.subnet_core.specs.declared.fault.RunFault.TheVariants.{NoMemory, Topology, Partitions, Sweep, NoLegalPath, Push, Port, Script, SecondScript, Read, Write}
use Rattle.fabric_wire.specs.OfTopology.{fabric_of}
use Rattle.subnet_fabric.specs.BringUp.{HasNoPath, BroughtUpState}
use Rattle.subnet_fabric.specs.SetUp.{AreAssigned, IsLaidOut}
use Rattle.subnet_fabric.proofs.ListedLemmas.{numbers_of}
use Rattle.subnet_model.specs.declared.subnet_port.SubnetPort.{SubnetPort}
use Rattle.subnet_fabric.proofs.EndPortLemmas.{end_ports_stand_in_order}
use Rattle.subnet_fabric.proofs.GraphPortLemmas.{sweeps_find_what_is_listed}
use Rattle.subnet_model.specs.Configured.{HaveLidsInOrder}
use Rattle.subnet_fabric.specs.Ports.{ports_of}
use Rattle.sweep.specs.Graph.{GraphState}
use Rattle.updn_routes.specs.Routes.{home_of}
use Rattle.updn_routes.specs.Subnet.{home_in, homes_of}

-- ---- answers
pub mapped : (given : Result InventoryState RunFault) (P Q : Option RunFault → Type 0) → ((stop : Option RunFault) → P stop → Q stop) → WithFabric (Becomes given) P → WithFabric (Becomes given) Q
mapped given P Q f so = record { stop = so.stop; becomes = so.becomes; is = f so.stop so.is }

pub fails_mapped : {Y Z : Type 0} (given : Result InventoryState RunFault) (reported : Option RunFault) (f : Option RunFault → Result Y RunFault) (g : Option RunFault → Result Z RunFault)
    → ((fault : RunFault) (stop : Option RunFault) → f stop ≡ Err fault → g stop ≡ Err fault) → FailsWith (Becomes given) reported f → FailsWith (Becomes given) reported g
fails_mapped given None f g more so = tt
fails_mapped given (Some fault) f g more so = mapped given (λ stop. f stop ≡ Err fault) (λ stop. g stop ≡ Err fault) (more fault) so

-- a text is at fault
pub texts_fail : (given : Result InventoryState RunFault) (reported : Option RunFault) → Fails reported given → FailsWith (Becomes given) reported (up_from given)
unfolding up_from
texts_fail given None fails = tt
texts_fail given (Some fault) fails = record { stop = None; becomes = rw fails tt; is = rw fails refl }

stopped : (given : Result InventoryState RunFault) (inventory : InventoryState) (fault : RunFault) → given ≡ Ok inventory → Becomes (Ok inventory) (Some fault)
    → WithFabric (Becomes given) (λ stop. up_from given stop ≡ Err fault)
unfolding up_from
stopped given inventory fault is becomes = record { stop = Some fault; becomes = rw is becomes; is = rw is refl }

-- the fabric is not brought up
pub fabric_fails : (given : Result InventoryState RunFault) (inventory : InventoryState) (fault : RunFault) → given ≡ Ok inventory → ComesTo inventory (Err fault)
    → FailsWith (Becomes given) (fault_in fault) (up_from given)
fabric_fails given inventory NoMemory is comes = tt
fabric_fails given inventory (Topology line cause) is comes = absurd comes
fabric_fails given inventory (Partitions line cause) is comes = absurd comes
fabric_fails given inventory (Sweep fault) is comes = stopped given inventory (Sweep fault) is comes
fabric_fails given inventory (NoLegalPath switch node number) is comes = stopped given inventory (NoLegalPath switch node number) is comes
fabric_fails given inventory (Push fault) is comes = absurd comes
fabric_fails given inventory (Port cause) is comes = absurd comes
fabric_fails given inventory (Script line cause) is comes = absurd comes
fabric_fails given inventory (SecondScript line cause) is comes = absurd comes
fabric_fails given inventory Read is comes = absurd comes
fabric_fails given inventory Write is comes = absurd comes

-- it is brought up, and the inventory is that of the texts
pub same_inventory : (given : Result InventoryState RunFault) (stop : Option RunFault) (inventory : InventoryState) → up_from given stop ≡ Ok inventory → given ≡ Ok inventory
unfolding up_from
same_inventory (Ok other) None inventory is = is
same_inventory (Ok other) (Some fault) inventory is = absurd cc
same_inventory (Err fault) stop inventory is = absurd cc

pub comes_up : (given : Result InventoryState RunFault) (inventory : InventoryState) (up : BroughtUpState) → given ≡ Ok inventory → IsUp inventory up
    → WithFabric (Becomes given) (λ stop. up_from given stop ≡ Ok inventory)
unfolding up_from
comes_up given inventory up is by = record { stop = None; becomes = rw is (up, by); is = rw is refl }

-- ---- ports in order
pub lid_at : (ports : List SubnetPort) (i : ℕ) (port : SubnetPort) → HaveLidsInOrder ports → i < length ports → get_or ports i port ≡ port → port.lid ≡ 1 + i
lid_at ports i port order inside here =
    ap (λ (port : SubnetPort). port.lid) (sym here)
    ∙ (sym (get_or-map (λ (port : SubnetPort). port.lid) ports i port 0 inside)
    ∙ (ap (λ (lids : List ℕ). get_or lids i 0) order ∙ get_or-range_with_len 1 (length ports) i 0 inside))

-- ---- LIDs at which something is attached are those of listed ports
pub lids_in_order : (inventory : InventoryState) → IsInventoried inventory → HaveLidsInOrder inventory.configuration.ports
lids_in_order inventory is =
    let ends = end_ports_stand_in_order is.partitions inventory.plan is.topology in
    rw is.listed ends.lids

pub record AreListed (inventory : InventoryState) (lid : ℕ) : Type 0 where
  pub first : 1 ≤ lid
  pub last : lid ≤ length inventory.configuration.ports

is_attached_at : (homes : List PortRef) (lid : ℕ) (home : PortRef) → home_of homes lid ≡ Some home → (1 ≤ lid) × (lid ≤ length homes)
is_attached_at homes lid home is = by (lid == 0) refl is
  where
    by : (b : Bool) → (lid == 0) ≡ b → (if b then None else slice_get homes (lid - 1)) ≡ Some home → (1 ≤ lid) × (lid ≤ length homes)
    by true zero is = absurd (none-some home is)
    by false more is =
        let some : 1 ≤ lid = grind (arith, nat_tests, more) in
        let within = slice_get_within homes (lid - 1) home is in
        (some, omega (arith, some, within))

as_many : (inventory : InventoryState) → IsInventoried inventory → (graph : GraphState) (guids : List ℕ) → IsLaidOut (fabric_of inventory.plan) graph → AreAssigned graph guids
    → length inventory.configuration.ports ≡ length (homes_of graph guids)
as_many inventory is graph guids found assigned =
    let of_graph = sweeps_find_what_is_listed is.partitions inventory.plan graph guids is.topology found.layout assigned.lids assigned.order in
    let ports = ports_of is.partitions inventory.plan in
    let pairs = length-map {B = ℕ × ℕ} ports numbers_of in
    let numbered = length-enumerate_from 1 guids in
    let homes = length-map {B = PortRef} guids (home_in graph) in
    let same = ap length of_graph.lids in
    rw is.listed (omega (arith, pairs, numbered, homes, same))

pub switch_is_listed : (inventory : InventoryState) → IsInventoried inventory → (a b : ℕ) → HasNoPath inventory.plan a b → AreListed inventory a
switch_is_listed inventory is a b none =
    let many = as_many inventory is none.graph none.guids none.laid none.assigned in
    let at = is_attached_at _ a _ none.refused.first.pair.switch in
    record { first = at.0; last = omega (arith, many, at.1) }

pub port_is_listed : (inventory : InventoryState) → IsInventoried inventory → (a b : ℕ) → HasNoPath inventory.plan a b → AreListed inventory b
port_is_listed inventory is a b none =
    let many = as_many inventory is none.graph none.guids none.laid none.assigned in
    let at = is_attached_at _ b _ none.refused.first.pair.adapter in
    record { first = at.0; last = omega (arith, many, at.1) }
