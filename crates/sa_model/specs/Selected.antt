-- Which of what a port can be shown a request selects (IBA volume 1, 15.2.1.1 and 15.2.5).
use Rattle.std.specs.Prelude.{ℕ, Bool, ◌==◌, bit_and, if◌then◌else◌, List, Option, Some, None, filter, map, take}
use Rattle.std.specs.List.{flat_map}
use Rattle.sa_records.specs.declared.node_record.NodeRecord.{NodeRecord}
use Rattle.sa_records.specs.declared.path_record.PathRecord.{PathRecord}
use Rattle.sa_records.specs.declared.mc_member_record.McMemberRecord.{McMemberRecord}
use Rattle.sa_records.specs.declared.service_record.ServiceRecord.{ServiceRecord}
use Rattle.sa_records.specs.NodeRecord.{node_record_selected}
use Rattle.sa_records.specs.PathRecord.{path_record_selected}
use Rattle.sa_records.specs.PathMask as path_mask
use Rattle.sa_records.specs.McMemberRecord.{mc_member_record_selected}
use Rattle.sa_records.specs.ServiceRecord.{service_record_selected}
use Rattle.subnet_model.specs.declared.subnet_port.SubnetPort.{SubnetPort}
use Rattle.sa_model.specs.Visible.{SaState, Path, GroupOfBase, ServiceOfPort}
use Rattle.sa_model.specs.Visible.{visible_nodes, paths_to, visible_groups, visible_services}
use Rattle.sa_model.specs.Shown.{Entry, node_record_of, path_record_of, group_record_of, service_record_of}
use Rattle.sa_model.specs.Shown.{node_entry, path_entry, group_entry, service_entry}

-- a request for records of one kind: its ComponentMask, and the record that it asks by
pub data Query : Type 0 where
  for_nodes : ℕ → NodeRecord → Query
  for_paths : ℕ → PathRecord → Query
  for_groups : ℕ → McMemberRecord → Query
  for_services : ℕ → ServiceRecord → Query

-- the mask asks for this component, with all of its bits
abbrev pub asks : ℕ → ℕ → Bool
asks mask bits = bit_and mask bits == bits

-- ---- those that agree with the request on each component that its mask names
abbrev pub nodes_selected : ℕ → NodeRecord → List SubnetPort → List SubnetPort
nodes_selected mask asked nodes = filter (λ node. node_record_selected mask (node_record_of node) asked) nodes

abbrev pub paths_selected : ℕ → PathRecord → List Path → List Path
paths_selected mask asked paths = filter (λ path. path_record_selected mask (path_record_of path) asked) paths

abbrev pub groups_selected : ℕ → McMemberRecord → List GroupOfBase → List GroupOfBase
groups_selected mask asked groups = filter (λ one. mc_member_record_selected mask (group_record_of one) asked) groups

abbrev pub services_selected : ℕ → ServiceRecord → List ServiceOfPort → List ServiceOfPort
services_selected mask asked services = filter (λ one. service_record_selected mask (service_record_of one) asked) services

-- ---- of paths at most so many to each port
abbrev pub at_most : {X : Type 0} → Option ℕ → List X → List X
at_most None xs = xs
at_most (Some most) xs = take most xs

abbrev pub few_paths : Option ℕ → ℕ → PathRecord → SubnetPort → SubnetPort → List Path
few_paths most mask asked own other = at_most most (paths_selected mask asked (paths_to own other))

-- as many as NumbPath says, if it is asked
abbrev pub paths_wanted : Query → Option ℕ
paths_wanted (Query.for_nodes mask asked) = None
paths_wanted (Query.for_paths mask asked) = if asks mask path_mask.numb_path then Some asked.numb_path else None
paths_wanted (Query.for_groups mask asked) = None
paths_wanted (Query.for_services mask asked) = None

-- ---- what is selected, of paths at most so many to each port, in the order in which it is visible
abbrev pub selected : Option ℕ → List SubnetPort → SubnetPort → SaState → Query → List Entry
selected most ports own state (Query.for_nodes mask asked) = map node_entry (nodes_selected mask asked (visible_nodes ports own))
selected most ports own state (Query.for_paths mask asked) = map path_entry (flat_map (few_paths most mask asked own) ports)
selected most ports own state (Query.for_groups mask asked) =
    map group_entry (groups_selected mask asked (visible_groups own state.partitions))
selected most ports own state (Query.for_services mask asked) =
    map service_entry (services_selected mask asked (visible_services ports own state.services))
