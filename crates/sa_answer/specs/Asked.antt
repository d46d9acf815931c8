-- Which ports a request names, as code looks them up.
use Rattle.std.specs.Prelude.{ℕ, Bool, ◌==◌, ◌&&◌, ◌/◌, ◌%◌, ◌^◌, if◌then◌else◌, List, [], ◌∷◌, map, Option, Some, None}
use Rattle.sa_store.specs.Kept.{KeptPort, node_bytes}
use Rattle.sa_answer.specs.Replying.{path_bytes}
use Rattle.sa_records.specs.declared.node_record.NodeRecord.{NodeRecord}
use Rattle.sa_records.specs.declared.path_record.PathRecord.{PathRecord}
use Rattle.sa_records.specs.NodeRecord.{node_record_selected}
use Rattle.subnet_model.specs.declared.subnet_port.SubnetPort.{SubnetPort}
use Rattle.sa_model.specs.Gid.{gid_prefix}
use Rattle.sa_model.specs.Selected.{few_paths}
use Rattle.sa_model.specs.Shown.{node_record_of}
use Rattle.sa_model.specs.Visible.{may_know}

-- the GUID of the port that may have this GID
abbrev pub guid_in : ℕ → Option ℕ
guid_in gid = if gid / 2 ^ 64 == gid_prefix then Some (gid % 2 ^ 64) else None

-- ---- a node is reported: it agrees with the request, and may be known
abbrev pub is_reported : SubnetPort → ℕ → NodeRecord → SubnetPort → Bool
is_reported own mask asked node = node_record_selected mask (node_record_of node) asked && may_know own node

-- the bytes of a node that is reported
abbrev pub node_reported : SubnetPort → ℕ → NodeRecord → KeptPort → List (List ℕ)
node_reported own mask asked node = if is_reported own mask asked node.port then node_bytes node.port ∷ [] else []

-- ---- the bytes of the paths to a port
abbrev pub paths_reported : Option ℕ → ℕ → PathRecord → SubnetPort → KeptPort → List (List ℕ)
paths_reported most mask asked own other = map path_bytes (few_paths most mask asked own other.port)
