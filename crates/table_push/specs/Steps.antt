-- What each step of a push comes to: the clauses of `src/ports.rt`, `keys.rt`, `multicast.rt` and `setting.rt`. A wire stood
-- for a fabric before the step, and is left standing for one.
use Rattle.std.specs.Prelude.{ℕ, ◌≡◌, ◌+◌, ◌*◌, ◌==◌, ◌&&◌, ◌||◌, Bool, true, List, length, slice_get, Option, Some, Result, Ok, Err}
use Rattle.std.specs.Option.{ForSome}
use Rattle.attr_tables.specs.Blocks.{with_block, word_bytes}
use Rattle.attr_tables.specs.declared.smp_attribute.SmpAttribute.{SmpAttribute}
use Rattle.attr_tables.specs.declared.smp_attribute.SmpAttribute.TheVariants.{MulticastForwardingTable}
use Rattle.smp_wire.specs.FabricState.{FabricState}
use Rattle.smp_wire.specs.Good.{IsGood, ShowsLinks}
use Rattle.smp_wire.specs.Set.{takes_along}
use Rattle.smp_wire.specs.Shape.{IsSameShape}
use Rattle.sweep.specs.OfFabric.{IsGraphOf}
use Rattle.sweep.specs.declared.graph.GraphPort.{GraphPort}
use Rattle.table_push.specs.Keys.{at_cable, at_switches, guid_of, keys_pushed, keys_where}
use Rattle.table_push.specs.Nodes.{on_port, with_infos, with_keys}
use Rattle.table_push.specs.Ports.{at_switches_before, changed_in, changed_where, has_link}
use Rattle.table_push.specs.Pushes.{Gives, LeadsToPort, Leaves, Stands}
use Rattle.table_push.specs.declared.fault.PushFault.{PushFault}
use Rattle.table_push.specs.declared.ports.Round.{Round}
use Rattle.updn_routes.specs.Subnet.{RoutesState}

-- ---- one Set
-- if the agent at the end of the path takes these bytes, and then gives what was wanted, that is done
abbrev pub TakesAndGives : FabricState → (left : Option FabricState) → (path : List ℕ) → SmpAttribute → (modifier : ℕ) → (wanted : List ℕ)
    → Result (Unit {0}) PushFault → Type 0
TakesAndGives fabric left path attribute modifier wanted result =
    (next : FabricState) → IsGood fabric → takes_along fabric path attribute modifier wanted ≡ Some (Ok next)
    → (IsSameShape fabric next → Gives next path attribute modifier wanted) → Leaves result left fabric next

-- the same of the block of a partition at a position of the multicast table
abbrev pub SetsBlock : FabricState → (left : Option FabricState) → (path : List ℕ) → (position partition : ℕ) → (block : List ℕ)
    → Result (Unit {0}) PushFault → Type 0
SetsBlock fabric left path position partition block result =
    TakesAndGives fabric left path MulticastForwardingTable (position * 268435456 + partition) (word_bytes block) result

-- ---- ports
-- if a round is over at the ports that pass a test, it is at those that pass one more too
abbrev pub SetsUpMore : RoutesState → Round → (stood left : Option FabricState) → (more : ℕ → ℕ → Bool) → Result (Unit {0}) PushFault → Type 0
SetsUpMore routes round stood left more result =
    (fabric : FabricState) (there : ℕ → ℕ → Bool) → IsGraphOf routes.graph fabric → IsGood fabric → ShowsLinks fabric
    → Stands stood fabric (with_infos (changed_where round there routes) fabric)
    → Leaves result left fabric (with_infos (changed_where round (λ guid number. there guid number || more guid number) routes) fabric)

-- that port of the switch at that place has a cable to another switch
abbrev pub at_links : RoutesState → (place guid number : ℕ) → Bool
at_links routes place guid number = (guid_of routes.graph.switches place == guid) && has_link routes.graph place number

-- those at both ends of the cable of the port of a channel adapter at that place
abbrev pub SetsUpCable : RoutesState → Round → (stood left : Option FabricState) → (place : ℕ) → Result (Unit {0}) PushFault → Type 0
SetsUpCable routes round stood left place result =
    (port : GraphPort) → slice_get routes.graph.ports place ≡ Some port
    → SetsUpMore routes round stood left (λ guid number. at_cable routes.graph.switches guid number port) result

-- if it is at those of the switches, it is at all
abbrev pub SetsUpRest : RoutesState → Round → (stood left : Option FabricState) → Result (Unit {0}) PushFault → Type 0
SetsUpRest routes round stood left result =
    (fabric : FabricState) → IsGraphOf routes.graph fabric → IsGood fabric → ShowsLinks fabric
    → Stands stood fabric (with_infos (changed_where round (at_switches_before routes.graph (length routes.graph.switches)) routes) fabric)
    → Leaves result left fabric (with_infos (changed_in round routes) fabric)

-- ---- P_Key tables
-- that block of the table of a port is one of these words, and all else is as it was
abbrev pub PutsBlock : (stood left : Option FabricState) → (path : List ℕ) → (asked block : ℕ) → (words : List ℕ)
    → Result (Unit {0}) PushFault → Type 0
PutsBlock stood left path asked block words result =
    ForSome stood (λ fabric. (guid number : ℕ) → IsGood fabric → LeadsToPort fabric path asked guid number
    → Leaves result left fabric (with_keys (on_port guid number (with_block 32 block words)) fabric))

-- if it is reported that the bytes wanted are there, they are
abbrev pub SaysWhetherThere : Result Bool PushFault → (given wanted : List ℕ) → Type 0
SaysWhetherThere (Ok there) given wanted = there ≡ true → given ≡ wanted
SaysWhetherThere (Err fault) given wanted = ⊥

-- if the ports that pass a test have their tables, those at both ends of the cable of the port of a channel adapter at
-- that place get theirs too
abbrev pub PutsKeysAtCable : RoutesState → (keys : List (List ℕ)) → (stood left : Option FabricState) → (place : ℕ)
    → Result (Unit {0}) PushFault → Type 0
PutsKeysAtCable routes keys stood left place result =
    (fabric : FabricState) (there : ℕ → ℕ → Bool) (port : GraphPort) → IsGraphOf routes.graph fabric → IsGood fabric
    → slice_get routes.graph.ports place ≡ Some port → Stands stood fabric (with_keys (keys_where there routes keys) fabric)
    → Leaves result left fabric
    (with_keys (keys_where (λ guid number. there guid number || at_cable routes.graph.switches guid number port) routes keys) fabric)

-- if the ports 0 of switches have theirs, all get them
abbrev pub PutsKeysAtCables : RoutesState → (keys : List (List ℕ)) → (stood left : Option FabricState)
    → Result (Unit {0}) PushFault → Type 0
PutsKeysAtCables routes keys stood left result =
    (fabric : FabricState) → IsGraphOf routes.graph fabric → IsGood fabric
    → Stands stood fabric (with_keys (keys_where (at_switches routes.graph.switches) routes keys) fabric)
    → Leaves result left fabric (keys_pushed routes keys fabric)
