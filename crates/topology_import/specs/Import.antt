-- The topology text of a discovery, or what is wrong.
use Rattle.std.specs.Prelude.{ℕ, List, Option, Some, None, is_some, Result, Ok, Err, if◌then◌else◌}
use Rattle.step_results.specs.AtLine.{AtLine, on_line}
use Rattle.step_results.specs.Steps.{◌>>=◌, unless}
use Rattle.fabric_parts.specs.declared.limits.Limits.TheVariants.{Large}
use Rattle.netdiscover_file.specs.declared.port.PortLine.{PortLine}
use Rattle.netdiscover_file.specs.Discovery.{DiscoveryState}
use Rattle.topo_file.specs.declared.fault.TopologyCause.{TopologyCause}
use Rattle.topo_file.specs.Topology.{TopologyState, topology_within}
use Rattle.topology_import.specs.declared.cables.CableMeant.{CableMeant}
use Rattle.topology_import.specs.declared.planned.Planned.{Planned}
use Rattle.topology_import.specs.declared.fault.ImportCause.{ImportCause}
use Rattle.topology_import.specs.declared.fault.ImportCause.TheVariants.{UnknownManager, Refused, Unlike}
use Rattle.topology_import.specs.Agreement.{agrees}
use Rattle.topology_import.specs.Cables.{cables_meant}
use Rattle.topology_import.specs.Ends.{ends, firsts, is_port_guid}
use Rattle.topology_import.specs.Nodes.{guid_fault}
use Rattle.topology_import.specs.Text.{planned_nodes, source_of, text_of}

-- ---- the SM port: that of this GUID, or else the one at which the text was printed
abbrev pub asked_for : Option ℕ → Option ℕ → Option ℕ
asked_for manager initiator = if is_some manager then manager else initiator

abbrev pub if_end_port : List PortLine → Option ℕ → Result ℕ ImportCause
if_end_port ends (Some guid) = if is_port_guid ends guid then Ok guid else Err UnknownManager
if_end_port ends None = Err UnknownManager

abbrev pub manager_of : DiscoveryState → Option ℕ → Result ℕ ImportCause
manager_of discovery manager = if_end_port (ends discovery) (asked_for manager discovery.initiator)

-- ---- a text is given only if what a reader of it gives is the topology that was meant
abbrev pub judged : DiscoveryState → List PortLine → List Planned → List CableMeant → ℕ → List ℕ → Result TopologyState (AtLine TopologyCause)
    → Result (List ℕ) (AtLine ImportCause)
judged discovery ends nodes cables manager text (Ok plan) =
    if agrees discovery ends nodes manager plan then Ok text else Err (record { line = 0; cause = Unlike })
judged discovery ends nodes cables manager text (Err fault) =
    Err (record { line = source_of nodes cables fault.line; cause = Refused fault.cause })

abbrev pub text_read : DiscoveryState → ℕ → Result (List ℕ) (AtLine ImportCause)
text_read discovery manager =
    judged discovery (ends discovery) (planned_nodes discovery) (cables_meant discovery) manager (text_of discovery manager)
    (topology_within Large (text_of discovery manager))

unfoldable pub import_of : DiscoveryState → Option ℕ → Result (List ℕ) (AtLine ImportCause)
import_of discovery manager = do
  asked ← on_line 0 (manager_of discovery manager)
  port ← unless (guid_fault discovery.nodes (firsts (ends discovery))) asked
  text_read discovery port
