-- The text that is read back is that of the discovery.
use Rattle.std.proofs.Common.{◌≡◌, refl, ℕ, List, [], ◌++◌, map}
use Rattle.std.specs.List.{flat_map}
use Rattle.fabric_parts.specs.declared.limits.Limits.TheVariants.{Large}
use Rattle.netdiscover_file.specs.declared.port.PortLine.{PortLine}
use Rattle.netdiscover_file.specs.Discovery.{DiscoveryState}
use Rattle.topo_file.specs.Topology.{topology_within}
use Rattle.topology_import.specs.declared.cables.CableMeant.{CableMeant}
use Rattle.topology_import.specs.declared.planned.Planned.{Planned}
use Rattle.topology_import.specs.Cables.{cable_at}
use Rattle.topology_import.specs.Ends.{counted, ends, firsts}
use Rattle.topology_import.specs.Import.{judged, text_read}
use Rattle.topology_import.specs.Names.{named}
use Rattle.topology_import.specs.Nodes.{adapter_meant, switches}
use Rattle.topology_import.specs.Text.{text_with}

pub same_text : (discovery : DiscoveryState) (manager : ℕ) (es fs : List PortLine) (nodes : List Planned) (cables : List CableMeant) (text : List ℕ)
    → es ≡ ends discovery → fs ≡ firsts es
    → nodes ≡ named discovery.nodes [] (switches discovery.nodes ++ map (adapter_meant es) fs)
    → cables ≡ flat_map (cable_at discovery es) (counted discovery)
    → text ≡ text_with discovery es nodes cables manager
    → judged discovery es nodes cables manager text (topology_within Large text) ≡ text_read discovery manager
same_text discovery manager es fs nodes cables text are_ends are_firsts are_nodes are_cables is_text =
    rw (is_text, are_cables, are_nodes, are_firsts, are_ends) refl
