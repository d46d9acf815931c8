-- How it is found where packets come to: marks, one for each port by which packets leave switches. No definition of the subject
-- stands on these.
use Rattle.std.specs.Prelude.{ℕ, ◌||◌, Bool, List, [], if◌then◌else◌, filter, map}
use Rattle.std.specs.List.{enumerate_from}
use Rattle.fabric_parts.specs.declared.cable.PortRef.{PortRef}
use Rattle.topo_file.specs.Rounds.{is_marked}
use Rattle.audit_net.specs.Net.{NetState}
use Rattle.audit_loops.specs.Marks.{some_marked}
use Rattle.audit_multicast.specs.Copies.{node_behind}
use Rattle.audit_multicast.specs.Cuts.{member_switches, members_at, spreads}
use Rattle.audit_multicast.specs.Loops.{all_outs}
use Rattle.audit_multicast.specs.Ways.{comes_to}

-- of each port the places of those after which packets leave by it
abbrev pub places_before : NetState → List PortRef → PortRef → List ℕ
places_before net all out = map (λ p. p.0) (filter (λ p. comes_to net p.1 out) (enumerate_from 0 all))

abbrev pub all_before : NetState → List PortRef → List (List ℕ)
all_before net all = map (places_before net all) all

-- marked is what was, and what leaves after what was marked
abbrev pub spread_on : List (List ℕ) → List Bool → List Bool
spread_on before marks = map (λ p. is_marked marks p.0 || some_marked marks p.1) (enumerate_from 0 before)

-- after so many hops or fewer
abbrev pub spread_marks : NetState → List PortRef → (place count : ℕ) → List Bool
spread_marks net all place count = map (spreads net all place count) all

-- the switches behind the ports that are marked
abbrev pub nodes_behind : NetState → List Bool → List PortRef → List ℕ
nodes_behind net marks all = map (λ p. node_behind net p.1) (filter (λ p. is_marked marks p.0) (enumerate_from 0 all))

-- what is looked up of an MLID: all ports by which packets leave, those before each, and the switches at which members are
pub record GroupState : Type 0 where
  pub outs : List PortRef
  pub before : List (List ℕ)
  pub places : List ℕ

abbrev pub group_of : NetState → List (List ℕ) → GroupState
group_of net masks = record { outs = all_outs net masks; before = all_before net (all_outs net masks); places = member_switches net masks }

-- the members at a switch, unless it is marked
abbrev pub unless_met : NetState → List (List ℕ) → List Bool → ℕ → List PortRef
unless_met net masks met there = if is_marked met there then [] else members_at net masks there
