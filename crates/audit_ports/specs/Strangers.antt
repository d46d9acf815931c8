-- GUIDs that the partition file lists and that no end port has, and end ports to which it gives nothing.
use Rattle.std.specs.Prelude.{ℕ, Bool, ◌==◌, List, [], ◌∷◌, ◌++◌, codes, filter_map, flat_map, fold, length, if◌then◌else◌, Option, Some, None, is_some}
use Rattle.std.specs.List.{list_any}
use Rattle.partition_file.specs.declared.item.Item.{Item}
use Rattle.partition_file.specs.declared.item.Ports.{Ports}
use Rattle.partition_file.specs.declared.item.Ports.TheVariants.{All, ChannelAdapters, Switches, Routers, Manager, Guid}
use Rattle.partition_file.specs.declared.partition.Partition.{Partition}
use Rattle.text_words.specs.Parts.{guid_text}
use Rattle.topo_file.specs.declared.node.Node.{Node}
use Rattle.audit_ports.specs.declared.port.AuditedPort.{AuditedPort}
use Rattle.audit_ports.specs.Ends.{index_of, named}
use Rattle.audit_ports.specs.Names.{port_text}

-- ---- the GUIDs that the file lists, each once
abbrev pub guid_in : Ports → Option ℕ
guid_in All = None
guid_in ChannelAdapters = None
guid_in Switches = None
guid_in Routers = None
guid_in Manager = None
guid_in (Guid guid) = Some guid

abbrev pub guids_of : Partition → List ℕ
guids_of partition = filter_map (λ item. guid_in item.ports) partition.items

abbrev pub with_guid : List ℕ → ℕ → List ℕ
with_guid guids guid = if list_any (λ other. guid == other) guids then guids else guids ++ guid ∷ []

abbrev pub listed_guids : List Partition → List ℕ
listed_guids partitions = fold with_guid [] (flat_map guids_of partitions)

-- ---- `no-port 0x98039b0300d05070`, or `node-guid 0x98039b0300d05060 spare/1` if it is the GUID of a node, with the node's ports
abbrev pub is_on : ℕ → AuditedPort → Bool
is_on guid port = port.node_guid == guid

abbrev pub port_word : List Node → AuditedPort → List ℕ
port_word nodes port = codes " " ++ port_text nodes port.port

unfoldable pub port_word_on : List Node → (guid : ℕ) → AuditedPort → List ℕ
port_word_on nodes guid port = if is_on guid port then port_word nodes port else []

abbrev pub stranger_word : List AuditedPort → (guid : ℕ) → List ℕ
stranger_word ports guid = if list_any (is_on guid) ports then codes "node-guid " else codes "no-port "

unfoldable pub stranger_line : List Node → List AuditedPort → (guid : ℕ) → List ℕ
stranger_line nodes ports guid =
    stranger_word ports guid ++ guid_text guid ++ flat_map (port_word_on nodes guid) ports ++ 10 ∷ []

unfoldable pub stranger_lines : List Node → List AuditedPort → (guid : ℕ) → List ℕ
stranger_lines nodes ports guid = if is_some (named guid (index_of nodes)) then [] else stranger_line nodes ports guid

-- ---- `no-partition h1/1`
unfoldable pub lone_lines : List Node → AuditedPort → List ℕ
lone_lines nodes port = if length port.file == 0 then codes "no-partition " ++ port_text nodes port.port ++ 10 ∷ [] else []

abbrev pub strangers : List Node → List AuditedPort → List Partition → List ℕ
strangers nodes ports partitions = flat_map (stranger_lines nodes ports) (listed_guids partitions) ++ flat_map (lone_lines nodes) ports
