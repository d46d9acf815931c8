-- What is said of a fabric that is too large to be simulated.
use Rattle.std.specs.Prelude.{ℕ, Bool, not, ◌==◌, ◌&&◌, ◌||◌, nat_lt, List, [], ◌++◌, codes, count_by, decimal, if◌then◌else◌}
use Rattle.fabric_parts.specs.NodeType.{is_switch_type}
use Rattle.fabric_parts.specs.declared.limits.TheConstants.{ADAPTER_PORTS, SWITCHES, SWITCH_PORTS}
use Rattle.topology_import.specs.declared.planned.Planned.{Planned}

abbrev pub is_switch : Planned → Bool
is_switch node = is_switch_type node.node_type

-- a switch of more ports than one that is simulated has
abbrev pub is_wide : Planned → Bool
is_wide node = is_switch node && nat_lt SWITCH_PORTS node.ports

abbrev pub is_too_large : List Planned → (adapter_ports : ℕ) → Bool
is_too_large nodes adapter_ports = nat_lt SWITCHES (count_by is_switch nodes) || nat_lt ADAPTER_PORTS adapter_ports || not (count_by is_wide nodes == 0)

-- `# too large to be simulated: 72 switches (at most 64), 4 of them of more than 36 ports, 300 CA ports (at most 256)`, and who takes it
unfoldable pub title : List ℕ
title = codes "# too large to be simulated: "

unfoldable pub switch_words : List ℕ
switch_words = codes " switches (at most 64), "

unfoldable pub wide_words : List ℕ
wide_words = codes " of them of more than 36 ports, "

unfoldable pub port_words : List ℕ
port_words = codes " CA ports (at most 256)\n# audit, audit-keys, shares and diff take it\n"

unfoldable pub lines_of : (switches wide adapter_ports : ℕ) → List ℕ
lines_of switches wide adapter_ports =
    title ++ decimal switches ++ switch_words ++ decimal wide ++ wide_words ++ decimal adapter_ports ++ port_words

abbrev pub size_lines : List Planned → (adapter_ports : ℕ) → List ℕ
size_lines nodes adapter_ports =
    if is_too_large nodes adapter_ports then lines_of (count_by is_switch nodes) (count_by is_wide nodes) adapter_ports else []
