-- The topology text of a discovery with roots, or what is wrong.
use Rattle.std.specs.Prelude.{ℕ, List, Option, Result, Ok, Err, if◌then◌else◌}
use Rattle.step_results.specs.AtLine.{AtLine}
use Rattle.step_results.specs.Steps.{◌>>=◌}
use Rattle.fabric_parts.specs.declared.limits.Limits.TheVariants.{Large}
use Rattle.netdiscover_file.specs.Discovery.{DiscoveryState}
use Rattle.topo_file.specs.declared.fault.TopologyCause.{TopologyCause}
use Rattle.topo_file.specs.Topology.{TopologyState, topology_within}
use Rattle.topology_import.specs.declared.fault.ImportCause.{ImportCause}
use Rattle.topology_import.specs.declared.fault.ImportCause.TheVariants.{Unlike}
use Rattle.topology_import.specs.Import.{import_of}
use Rattle.rooted_import.specs.Agreement.{is_rooted}
use Rattle.rooted_import.specs.Roots.{rooted_text, roots_of, top_guids}

abbrev pub unlike : Result (List ℕ) (AtLine ImportCause)
unlike = Err (record { line = 0; cause = Unlike })

-- a text is returned only if it is read as the topology with the switches of these GUIDs as roots
abbrev pub judged : (guids : List ℕ) → TopologyState → (text : List ℕ) → Result TopologyState (AtLine TopologyCause) → Result (List ℕ) (AtLine ImportCause)
judged guids plan text (Ok again) = if is_rooted guids plan again then Ok text else unlike
judged guids plan text (Err fault) = unlike

abbrev pub read_back : (guids : List ℕ) → TopologyState → (text : List ℕ) → Result (List ℕ) (AtLine ImportCause)
read_back guids plan text = judged guids plan text (topology_within Large text)

abbrev pub rooted_by : (guids text : List ℕ) → Result TopologyState (AtLine TopologyCause) → Result (List ℕ) (AtLine ImportCause)
rooted_by guids text (Ok plan) = read_back guids plan (rooted_text plan.nodes (roots_of guids plan.nodes) text)
rooted_by guids text (Err fault) = unlike

-- the topology of this text, with roots
abbrev pub with_roots : (guids text : List ℕ) → Result (List ℕ) (AtLine ImportCause)
with_roots guids text = rooted_by guids text (topology_within Large text)

-- that of a discovery, with its top switches as roots
unfoldable pub rooted_import_of : DiscoveryState → Option ℕ → Result (List ℕ) (AtLine ImportCause)
rooted_import_of discovery manager = import_of discovery manager >>= with_roots (top_guids discovery)
