-- Ports and keys, as lines name them.
use Rattle.std.specs.Prelude.{ℕ, List, ◌++◌, codes}
use Rattle.std.specs.Int.{w16, to_be_bytes}
use Rattle.fabric_parts.specs.declared.cable.PortRef.{PortRef}
use Rattle.text_words.specs.Parts.{hex_text, port_name}
use Rattle.topo_file.specs.declared.node.Node.{Node}
use Rattle.topo_file.specs.Node.{name_at}

abbrev pub port_text : List Node → PortRef → List ℕ
port_text nodes port = port_name (name_at nodes port.node) port.port

-- with a blank before it
abbrev pub key_word : ℕ → List ℕ
key_word key = codes " " ++ hex_text (to_be_bytes w16 key)
