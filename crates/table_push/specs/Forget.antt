-- What pushes leave alone, and that they forget all else: statements of laws of `src/laws.rt`.
use Rattle.std.specs.Prelude.{ℕ, ◌≡◌, Bool, false, if◌then◌else◌, List, [], length, Option, Some, None}
use Rattle.attr_tables.specs.declared.port_info.PortInfo.{PortInfo}
use Rattle.smp_wire.specs.FabricState.{FabricState}
use Rattle.switch_model.specs.SwitchState.{SwitchState}
use Rattle.table_push.specs.Keys.{keys_wanted}
use Rattle.table_push.specs.Nodes.{with_infos, with_keys, with_switches}
use Rattle.table_push.specs.Ports.{change_wanted, with_top}
use Rattle.table_push.specs.Pushed.{all_pushed}
use Rattle.table_push.specs.declared.ports.PortChange.{PortChange}
use Rattle.updn_routes.specs.Subnet.{RoutesState, place_of}

-- ---- what is left alone: nothing stands where the pushes write
-- of a port that becomes an end port's, that enforces partitions or not, that becomes Active
abbrev pub without_end : Option ℕ → PortInfo → PortInfo
without_end None info = info
without_end (Some lid) info = record info { gid_prefix = 0; lid = 0; lmc = 0; master_sm_lid = 0 }

abbrev pub without_enforcement : Option Bool → PortInfo → PortInfo
without_enforcement None info = info
without_enforcement (Some on) info =
    record info { partition_enforcement_inbound = false; partition_enforcement_outbound = false }

abbrev pub without_state : Bool → PortInfo → PortInfo
without_state active info = if active then record info { port_state = 0 } else info

abbrev pub info_left : PortChange → PortInfo → PortInfo
info_left change info = without_state change.active (without_enforcement change.enforcement (without_end change.lid info))

-- a table that is written is written whole
abbrev pub table_left : {X : Type 0} → Option X → List ℕ → List ℕ
table_left None held = held
table_left (Some written) held = []

abbrev pub switch_left : RoutesState → ℕ → SwitchState → SwitchState
switch_left routes guid held =
    record held { info = with_top 0 held.info; linear = table_left (place_of routes.graph.switches guid) held.linear }

abbrev pub left_alone : RoutesState → List (List ℕ) → FabricState → FabricState
left_alone routes keys fabric =
    with_switches (switch_left routes)
    (with_keys (λ guid number. table_left (keys_wanted routes keys guid number))
    (with_infos (λ guid number. info_left (change_wanted routes guid number)) fabric))

-- ---- laws
-- two fabrics that differ only in what these pushes write become one by them
abbrev pub PushesForget : Type 0
PushesForget =
    (routes : RoutesState) (keys : List (List ℕ)) (one other : FabricState)
    → left_alone routes keys one ≡ left_alone routes keys other → all_pushed routes keys one ≡ all_pushed routes keys other

-- so of an earlier push over the same graph, by the same LIDs and with keys for as many of them, nothing is left
abbrev pub PushesReplace : Type 0
PushesReplace =
    (routes before : RoutesState) (keys held : List (List ℕ)) (fabric : FabricState)
    → before.graph ≡ routes.graph → before.lids ≡ routes.lids → length held ≡ length keys
    → all_pushed routes keys (all_pushed before held fabric) ≡ all_pushed routes keys fabric
