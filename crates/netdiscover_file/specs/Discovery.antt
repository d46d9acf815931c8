-- What a text of `ibnetdiscover` reports, or the first line that is at fault.
use Rattle.std.specs.Prelude.{ℕ, Bool, true, false, not, ◌==◌, ◌&&◌, ◌||◌, nat_eq, List, [], ◌∷◌, ◌++◌, codes, bytes_eq, option_to_list}
use Rattle.std.specs.Prelude.{Option, Some, None, is_some, option_map, Result, Ok, Err, if◌then◌else◌}
use Rattle.std.specs.List.{list_any, starts_with}
use Rattle.std.specs.Option.{ok_or, option_and_then, option_map_or, option_or}
use Rattle.step_results.specs.AtLine.{AtLine, after_lines}
use Rattle.step_results.specs.Steps.{◌>>=◌}
use Rattle.text_words.specs.Lines.{lines, words_of}
use Rattle.netdiscover_file.specs.declared.fault.DiscoveryCause.{DiscoveryCause}
use Rattle.netdiscover_file.specs.declared.fault.DiscoveryCause.TheVariants.{Malformed, NoSuchPort, DuplicateGuid, WrongFarEnd}
use Rattle.netdiscover_file.specs.declared.kind.NodeKind.{NodeKind}
use Rattle.netdiscover_file.specs.declared.node.Node.{Node}
use Rattle.netdiscover_file.specs.declared.port.PortLine.{PortLine}
use Rattle.netdiscover_file.specs.declared.ends.NodeId.{NodeId}
use Rattle.netdiscover_file.specs.declared.assignment.SwitchGuids.{SwitchGuids}
use Rattle.netdiscover_file.specs.Agreement.{first_wrong}
use Rattle.netdiscover_file.specs.Assignment.{assignment_in, switch_guids_in}
use Rattle.netdiscover_file.specs.Comment.{comment_of, initiator_in, quoted_name}
use Rattle.netdiscover_file.specs.Ends.{behind_own, far_end_of, node_id_in, own_end_in, without_external}
use Rattle.netdiscover_file.specs.Kind.{is_same_kind, is_switch, kind_headed}
use Rattle.netdiscover_file.specs.Lids.{node_lid, own_lid}
use Rattle.netdiscover_file.specs.Node.{is_switch_at, last_place, place_of, port_at, says_same_at}
use Rattle.netdiscover_file.specs.Port.{is_reported_already, is_said_already, place_of_line}
use Rattle.netdiscover_file.specs.Spelling.{only_if, port_count_in}

-- what was discovered: nodes and lines of ports in the order of the text, and the GUID of the port at which it was printed
pub record DiscoveryState : Type 0 where
  pub nodes : List Node
  pub ports : List PortLine
  pub initiator : Option ℕ

-- what the lines so far report; `port_guids` are those of ports, in the order in which they were reported, `switch_guids`
-- those of the switch whose header is to come, and `again` is where the node stands that is printed again, if one is
pub record DraftState : Type 0 where
  pub nodes : List Node
  pub ports : List PortLine
  pub port_guids : List ℕ
  pub switch_guids : Option SwitchGuids
  pub again : Option ℕ
  pub initiator : Option ℕ

-- ---- a header: `Switch 36 "S-0002c902004085a0" # "leaf-1" base port 0 lid 4 lmc 0`
unfoldable pub header_encoded : ℕ → NodeKind → Option ℕ → List ℕ → List ℕ → List ℕ → Result Node DiscoveryCause
header_encoded line kind port_guid ports id comment = do
  count ← port_count_in ports
  node ← node_id_in id
  named ← quoted_name comment
  lid ← node_lid kind named.1
  only_if (is_same_kind node.kind kind) (record { id = node; ports = count; name = named.0; lid = lid; port_guid = port_guid; line = line })

unfoldable pub header_of : ℕ → NodeKind → Option ℕ → List (List ℕ) → List ℕ → Result Node DiscoveryCause
header_of line kind port_guid (ports ∷ id ∷ []) comment = header_encoded line kind port_guid ports id comment
header_of line kind port_guid _ comment = Err Malformed

-- the line before reported the GUIDs of another switch
abbrev pub is_of_another : Option SwitchGuids → NodeId → Bool
is_of_another (Some guids) id = not (is_switch id.kind && (guids.node == id.guid))
is_of_another None id = false

-- a GUID of the node is another's too
abbrev pub has_taken_guid : DraftState → Node → Bool
has_taken_guid so_far node =
    is_of_another so_far.switch_guids node.id
    || (is_some (place_of node.id.guid so_far.nodes) || is_reported_already node.port_guid so_far.port_guids)

abbrev pub new_node : DraftState → Node → Result Node DiscoveryCause
new_node so_far node = if has_taken_guid so_far node then Err DuplicateGuid else Ok node

abbrev pub node_reported : DraftState → ℕ → NodeKind → List (List ℕ) → List ℕ → Result Node DiscoveryCause
node_reported so_far line kind words comment = header_of line kind (option_map (λ guids. guids.port) so_far.switch_guids) words comment

-- ---- a node may be printed again in the same words, as one of two chassis is: where it stands
abbrev pub if_same : List Node → Node → ℕ → Option ℕ
if_same nodes node place = if says_same_at nodes place node then Some place else None

abbrev pub place_again : DraftState → Node → Option ℕ
place_again so_far node =
    if is_of_another so_far.switch_guids node.id then None
    else option_and_then (if_same so_far.nodes node) (place_of node.id.guid so_far.nodes)

-- the node of which lines of ports are to come: that which is printed again, or the last one
abbrev pub place_here : DraftState → Option ℕ
place_here so_far = option_or so_far.again (last_place so_far.nodes)

-- ---- the line of a port: `[1](2c90300a1b201) "S-0002c902004085a0"[1] # lid 1 lmc 0 ..`, which is one of this node
abbrev pub new_port : DraftState → PortLine → Result PortLine DiscoveryCause
new_port so_far line =
    if is_some (place_of_line line.port so_far.ports) then Err NoSuchPort
    else (if is_reported_already line.guid so_far.port_guids then Err DuplicateGuid
    else Ok line)

unfoldable pub port_reported : DraftState → ℕ → List ℕ → List (List ℕ) → List ℕ → Result PortLine DiscoveryCause
port_reported so_far line first words comment = do
  own ← own_end_in (without_external first)
  rest ← behind_own first words
  far ← far_end_of rest
  place ← ok_or (place_here so_far) NoSuchPort
  lid ← own_lid (is_switch_at so_far.nodes place) own.guid comment
  port ← ok_or (port_at so_far.nodes place own.number) NoSuchPort
  Ok (record { port = port; guid = own.guid; lid = lid; far = far; line = line })

-- ---- a line after those before it: what is reported with what the line reports
abbrev pub with_node : DraftState → Result Node DiscoveryCause → Result DraftState DiscoveryCause
with_node so_far reported = reported >>= λ node. Ok (record so_far {
  nodes = so_far.nodes ++ node ∷ [];
  port_guids = so_far.port_guids ++ option_to_list node.port_guid;
  switch_guids = None;
  again = None;
})

abbrev pub with_place : DraftState → Node → Option ℕ → Result DraftState DiscoveryCause
with_place so_far node (Some place) = Ok (record so_far { switch_guids = None; again = Some place })
with_place so_far node None = with_node so_far (new_node so_far node)

abbrev pub with_header : DraftState → Result Node DiscoveryCause → Result DraftState DiscoveryCause
with_header so_far reported = reported >>= λ node. with_place so_far node (place_again so_far node)

abbrev pub with_port : DraftState → Result PortLine DiscoveryCause → Result DraftState DiscoveryCause
with_port so_far reported = reported >>= λ line. Ok (record so_far {
  ports = so_far.ports ++ line ∷ [];
  port_guids = so_far.port_guids ++ option_to_list line.guid;
})

-- of a node that is printed again each line says what was said before
abbrev pub with_line : DraftState → Option ℕ → PortLine → Result DraftState DiscoveryCause
with_line so_far (Some place) line = if is_said_already line so_far.ports then Ok so_far else Err DuplicateGuid
with_line so_far None line = with_port so_far (new_port so_far line)

abbrev pub with_port_line : DraftState → Result PortLine DiscoveryCause → Result DraftState DiscoveryCause
with_port_line so_far reported = reported >>= with_line so_far so_far.again

-- `switchguid=..` is of the next header; what other words are reported so is passed over
abbrev pub with_value : DraftState → List ℕ → List ℕ → Result DraftState DiscoveryCause
with_value so_far key value =
    if bytes_eq key (codes "switchguid") then (switch_guids_in value >>= λ guids. Ok (record so_far { switch_guids = Some guids }))
    else Ok so_far

-- of comments only the first counts that reports where the text was printed
abbrev pub found : Result ℕ DiscoveryCause → Option ℕ
found (Ok guid) = Some guid
found (Err cause) = None

abbrev pub with_comment : DraftState → List ℕ → DraftState
with_comment so_far comment = if is_some so_far.initiator then so_far else record so_far { initiator = found (initiator_in comment) }

-- `Non-Chassis Nodes` heads nodes, and is passed over
unfoldable pub are_nodes : List (List ℕ) → Bool
are_nodes (word ∷ []) = bytes_eq word (codes "Nodes")
are_nodes _ = false

-- what the words of a line say, and its comment
unfoldable pub after_words : ℕ → DraftState → List (List ℕ) → List ℕ → Result DraftState DiscoveryCause
after_words number so_far [] comment = Ok (with_comment so_far comment)
after_words number so_far (first ∷ rest) comment =
    if starts_with nat_eq first (codes "[") then with_port_line so_far (port_reported so_far number first rest comment)
    else (if bytes_eq first (codes "Non-Chassis") then (if are_nodes rest then Ok so_far else Err Malformed)
    else (kind_headed first >>= λ kind. with_header so_far (node_reported so_far number kind rest comment)))

-- a line that assigns nothing is one of words
abbrev pub after_assignment : ℕ → DraftState → List ℕ → Option (List ℕ × List ℕ) → Result DraftState DiscoveryCause
after_assignment number so_far line (Some parts) = with_value so_far parts.0 parts.1
after_assignment number so_far line None = ok_or (words_of line) Malformed >>= λ words. after_words number so_far words (comment_of line)

-- `Chassis ..` heads nodes, and may have a `Hostname: ..` behind it: both are passed over
abbrev pub heads_chassis : List ℕ → Bool
heads_chassis line = starts_with nat_eq line (codes "Chassis ") || starts_with nat_eq line (codes "Hostname: ")

unfoldable pub after_line : ℕ → DraftState → List ℕ → Result DraftState DiscoveryCause
after_line number so_far line =
    if heads_chassis line then Ok so_far
    else after_assignment number so_far line (assignment_in line)

-- ---- a text is one of a discovery if a line heads a node
abbrev pub is_heading : Result NodeKind DiscoveryCause → Bool
is_heading (Ok kind) = true
is_heading (Err cause) = false

abbrev pub begins_node : List (List ℕ) → Bool
begins_node [] = false
begins_node (first ∷ rest) = is_heading (kind_headed first)

abbrev pub heads_node : List ℕ → Bool
heads_node line = option_map_or begins_node (words_of line) false

abbrev pub is_discovery : List ℕ → Bool
is_discovery text = list_any heads_node (lines text)

-- ---- the whole text: after the last line each cable must stand at both its ends
abbrev pub if_agreed : DraftState → Option ℕ → Result DiscoveryState (AtLine DiscoveryCause)
if_agreed all (Some line) = Err (record { line = line; cause = WrongFarEnd })
if_agreed all None = Ok (record { nodes = all.nodes; ports = all.ports; initiator = all.initiator })

unfoldable pub whole : DraftState → Result DiscoveryState (AtLine DiscoveryCause)
whole all = if_agreed all (first_wrong all.nodes all.ports)

-- before the first line nothing is reported
abbrev pub nothing : DraftState
nothing = record { nodes = []; ports = []; port_guids = []; switch_guids = None; again = None; initiator = None }

-- what all lines report
abbrev pub reported_by : List ℕ → Result DraftState (AtLine DiscoveryCause)
reported_by text = after_lines after_line 1 nothing (lines text)

-- what the text reports, or its first fault
unfoldable pub discovery_of : List ℕ → Result DiscoveryState (AtLine DiscoveryCause)
discovery_of text = reported_by text >>= whole
