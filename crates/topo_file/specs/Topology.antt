-- What a topology text describes, or the first line that is at fault.
use Rattle.std.specs.Prelude.{ℕ, Bool, ◌-◌, ◌^◌, ◌==◌, not, ◌&&◌, ◌||◌, nat_le, List, [], ◌∷◌, ◌++◌, codes, Option, Some, None, is_some, Result, Ok, Err, if◌then◌else◌}
use Rattle.std.specs.List.{list_any}
use Rattle.std.specs.Option.{ok_or}
use Rattle.std.specs.Str.{bytes_eq}
use Rattle.step_results.specs.AtLine.{AtLine, after_lines, on_line}
use Rattle.step_results.specs.Steps.{◌>>=◌}
use Rattle.text_words.specs.Lines.{lines, words_of}
use Rattle.text_words.specs.Number.{number_in}
use Rattle.text_words.specs.Words.{Port, is_name, port_in}
use Rattle.fabric_parts.specs.declared.cable.Cable.{Cable}
use Rattle.fabric_parts.specs.declared.cable.PortRef.{PortRef}
use Rattle.fabric_parts.specs.Cable.{is_cabled}
use Rattle.fabric_parts.specs.Limits.{most_ports_within}
use Rattle.fabric_parts.specs.declared.limits.Limits.{Limits}
use Rattle.fabric_parts.specs.declared.limits.Limits.TheVariants.{Simulated}
use Rattle.topo_file.specs.declared.fault.TopologyCause.{TopologyCause}
use Rattle.topo_file.specs.declared.fault.TopologyCause.TheVariants.{Malformed, DuplicateName, DuplicateGuid, UnknownNode, NoSuchPort, PortTaken}
use Rattle.topo_file.specs.declared.fault.TopologyCause.TheVariants.{WrongCableEnds, WrongManager, Disconnected, OverLimit, ManagerUncabled}
use Rattle.topo_file.specs.declared.fault.TopologyCause.TheVariants.{RootNotSwitch}
use Rattle.topo_file.specs.declared.node.Node.{Node}
use Rattle.fabric_parts.specs.declared.node_type.NodeType.{NodeType}
use Rattle.fabric_parts.specs.declared.node_type.NodeType.TheVariants.{Switch, ChannelAdapter}
use Rattle.topo_file.specs.declared.draft.Manager.{Manager}
use Rattle.topo_file.specs.Node.{place_of, is_switch_at, lacks_guids, is_one_too_many}
use Rattle.topo_file.specs.Cable.{port_at, may_join}
use Rattle.topo_file.specs.Connectivity.{is_connected}

-- a topology: its nodes, cables and roots in the order of their lines, and the SM port. A root is the
-- place of its switch among the nodes.
pub record TopologyState : Type 0 where
  pub nodes : List Node
  pub cables : List Cable
  pub roots : List ℕ
  pub sm : PortRef

-- what the lines so far declare, and the limits that they are held to
pub record DraftState : Type 0 where
  pub limits : Limits
  pub nodes : List Node
  pub cables : List Cable
  pub roots : List ℕ
  pub manager : Option Manager

-- ---- words
abbrev pub name_of : List ℕ → Result (List ℕ) TopologyCause
name_of word = if is_name word then Ok word else Err Malformed

-- the number that was found, which must be one from 1 to the top
abbrev pub within : ℕ → Option ℕ → Result ℕ TopologyCause
within top (Some n) = if nat_le 1 n && nat_le n top then Ok n else Err Malformed
within top None = Err Malformed

abbrev pub number_up_to : ℕ → List ℕ → Result ℕ TopologyCause
number_up_to top word = within top (number_in word)

abbrev pub port_of : List ℕ → Result Port TopologyCause
port_of word = ok_or (port_in word) Malformed

-- ---- lines: `switch NAME GUID PORTS` and `adapter NAME GUID PORTS`.
-- A node has a name that no node before it has, GUIDs that are free, and room below the limits.
abbrev pub new_node : Limits → List Node → Node → Result Node TopologyCause
new_node limits nodes node =
    if is_some (place_of node.name nodes) then Err DuplicateName
    else (if lacks_guids nodes node then Err DuplicateGuid
    else (if is_one_too_many limits nodes node.node_type node.ports then Err OverLimit
    else Ok node))

unfoldable pub node_encoded : Limits → NodeType → List Node → List ℕ → List ℕ → List ℕ → Result Node TopologyCause
node_encoded limits node_type nodes name guid ports = do
  named ← name_of name
  number ← number_up_to (2 ^ 64 - 1) guid
  count ← number_up_to (most_ports_within limits node_type) ports
  new_node limits nodes (record { name = named; node_type = node_type; guid = number; ports = count })

unfoldable pub node_of : Limits → NodeType → List Node → List (List ℕ) → Result Node TopologyCause
node_of limits node_type nodes (name ∷ guid ∷ ports ∷ []) = node_encoded limits node_type nodes name guid ports
node_of limits node_type nodes _ = Err Malformed

-- `cable PORT PORT`, of two ports that have none yet
abbrev pub new_cable : List Node → List Cable → PortRef → PortRef → Result Cable TopologyCause
new_cable nodes cables first second =
    if is_cabled cables first || is_cabled cables second then Err PortTaken
    else (if may_join nodes first.node second.node then Ok (record { first = first; second = second })
    else Err WrongCableEnds)

unfoldable pub cable_encoded : List Node → List Cable → List ℕ → List ℕ → Result Cable TopologyCause
cable_encoded nodes cables one other = do
  a ← port_of one
  b ← port_of other
  i ← ok_or (place_of a.name nodes) UnknownNode
  j ← ok_or (place_of b.name nodes) UnknownNode
  first ← ok_or (port_at nodes i a.number) NoSuchPort
  second ← ok_or (port_at nodes j b.number) NoSuchPort
  new_cable nodes cables first second

unfoldable pub cable_of : List Node → List Cable → List (List ℕ) → Result Cable TopologyCause
cable_of nodes cables (one ∷ other ∷ []) = cable_encoded nodes cables one other
cable_of nodes cables _ = Err Malformed

-- `root NAME`, of a switch that is no root yet
abbrev pub is_root : List ℕ → ℕ → Bool
is_root roots place = list_any (λ root. place == root) roots

abbrev pub new_root : List Node → List ℕ → ℕ → Result ℕ TopologyCause
new_root nodes roots place =
    if not (is_switch_at nodes place) then Err RootNotSwitch
    else (if is_root roots place then Err DuplicateName
    else Ok place)

unfoldable pub root_encoded : List Node → List ℕ → List ℕ → Result ℕ TopologyCause
root_encoded nodes roots word = do
  name ← name_of word
  place ← ok_or (place_of name nodes) UnknownNode
  new_root nodes roots place

unfoldable pub root_of : List Node → List ℕ → List (List ℕ) → Result ℕ TopologyCause
root_of nodes roots (word ∷ []) = root_encoded nodes roots word
root_of nodes roots _ = Err Malformed

-- `sm PORT`, which stands once and names a port of an adapter
abbrev pub new_manager : List Node → Option Manager → ℕ → PortRef → Result Manager TopologyCause
new_manager nodes manager number port =
    if is_some manager || is_switch_at nodes port.node then Err WrongManager else Ok (record { port = port; line = number })

unfoldable pub manager_encoded : List Node → Option Manager → ℕ → List ℕ → Result Manager TopologyCause
manager_encoded nodes manager number word = do
  a ← port_of word
  i ← ok_or (place_of a.name nodes) UnknownNode
  port ← ok_or (port_at nodes i a.number) NoSuchPort
  new_manager nodes manager number port

unfoldable pub manager_of : List Node → Option Manager → ℕ → List (List ℕ) → Result Manager TopologyCause
manager_of nodes manager number (word ∷ []) = manager_encoded nodes manager number word
manager_of nodes manager number _ = Err Malformed

-- ---- a line after those before it: what is declared with what the line reports
abbrev pub with_node : DraftState → Result Node TopologyCause → Result DraftState TopologyCause
with_node so_far reported = reported >>= λ node. Ok (record so_far { nodes = so_far.nodes ++ node ∷ [] })

abbrev pub with_cable : DraftState → Result Cable TopologyCause → Result DraftState TopologyCause
with_cable so_far reported = reported >>= λ cable. Ok (record so_far { cables = so_far.cables ++ cable ∷ [] })

abbrev pub with_root : DraftState → Result ℕ TopologyCause → Result DraftState TopologyCause
with_root so_far reported = reported >>= λ root. Ok (record so_far { roots = so_far.roots ++ root ∷ [] })

abbrev pub with_manager : DraftState → Result Manager TopologyCause → Result DraftState TopologyCause
with_manager so_far reported = reported >>= λ manager. Ok (record so_far { manager = Some manager })

-- the first word says what the line declares; a line without words declares nothing
unfoldable pub after_words : ℕ → DraftState → List (List ℕ) → Result DraftState TopologyCause
after_words number so_far [] = Ok so_far
after_words number so_far (first ∷ rest) =
    if bytes_eq first (codes "switch") then with_node so_far (node_of so_far.limits Switch so_far.nodes rest)
    else (if bytes_eq first (codes "adapter") then with_node so_far (node_of so_far.limits ChannelAdapter so_far.nodes rest)
    else (if bytes_eq first (codes "cable") then with_cable so_far (cable_of so_far.nodes so_far.cables rest)
    else (if bytes_eq first (codes "root") then with_root so_far (root_of so_far.nodes so_far.roots rest)
    else (if bytes_eq first (codes "sm") then with_manager so_far (manager_of so_far.nodes so_far.manager number rest)
    else Err Malformed))))

unfoldable pub after_line : ℕ → DraftState → List ℕ → Result DraftState TopologyCause
after_line number so_far line = do
  words ← ok_or (words_of line) Malformed
  after_words number so_far words

-- ---- the whole text: after the last line there must be a manager, its port must have a cable, and cables must join
-- all switches
abbrev pub plan_of : DraftState → Manager → Result TopologyState (AtLine TopologyCause)
plan_of all manager =
    if not (is_cabled all.cables manager.port) then Err (record { line = manager.line; cause = ManagerUncabled })
    else (if not (is_connected all.nodes all.cables) then Err (record { line = 0; cause = Disconnected })
    else Ok (record { nodes = all.nodes; cables = all.cables; roots = all.roots; sm = manager.port }))

unfoldable pub whole : DraftState → Result TopologyState (AtLine TopologyCause)
whole all = do
  manager ← on_line 0 (ok_or all.manager WrongManager)
  plan_of all manager

-- before the first line nothing is declared
abbrev pub nothing : Limits → DraftState
nothing limits = record { limits = limits; nodes = []; cables = []; roots = []; manager = None }

-- what all lines declare
abbrev pub declarations_within : Limits → List ℕ → Result DraftState (AtLine TopologyCause)
declarations_within limits text = after_lines after_line 1 (nothing limits) (lines text)

-- what the text describes, or its first fault
unfoldable pub topology_within : Limits → List ℕ → Result TopologyState (AtLine TopologyCause)
topology_within limits text = declarations_within limits text >>= whole

-- what it describes of a fabric that is to be simulated
abbrev pub topology_of : List ℕ → Result TopologyState (AtLine TopologyCause)
topology_of text = topology_within Simulated text
