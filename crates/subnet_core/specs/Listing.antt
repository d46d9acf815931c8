-- What is listed of a subnet: its end ports, and the members of each partition with their keys.
use Rattle.std.specs.Prelude.{ℕ, List, [], ◌∷◌, ◌++◌, codes}
use Rattle.std.specs.List.{flat_map, enumerate_from}
use Rattle.std.specs.Option.{option_map_or}
use Rattle.std.specs.Int.{w16, to_be_bytes}
use Rattle.pkey_rules.specs.KeyTable.{find_base}
use Rattle.partition_file.specs.declared.heading.Heading.{Heading}
use Rattle.subnet_model.specs.Configuration.{ConfigurationState}
use Rattle.subnet_model.specs.declared.subnet_port.SubnetPort.{SubnetPort}
use Rattle.partition_reports.specs.Lines.{heading_line, member_line}
use Rattle.partition_reports.specs.Ports.{port_text}
use Rattle.text_words.specs.Parts.{guid_text, hex_text}

-- `port LID GUID PORT`
abbrev pub port_line : SubnetPort → List ℕ
port_line port =
    codes "port " ++ hex_text (to_be_bytes w16 port.lid)
    ++ codes " " ++ guid_text port.guid
    ++ codes " " ++ port_text port ++ 10 ∷ []

-- the line of a port that holds a key of this base
abbrev pub member_text : ℕ → SubnetPort → List ℕ
member_text base port = option_map_or (member_line port) (find_base base port.keys) []

-- a partition, and then its members in the order of the ports
abbrev pub partition_text : List SubnetPort → ℕ × Heading → List ℕ
partition_text ports placed =
    heading_line placed.0 placed.1 ++ flat_map (member_text placed.1.base) ports

-- all end ports, then all partitions; the place of a partition is its number
abbrev pub listing_text : ConfigurationState → List ℕ
listing_text configuration =
    flat_map port_line configuration.ports
    ++ flat_map (partition_text configuration.ports) (enumerate_from 0 configuration.partitions)
