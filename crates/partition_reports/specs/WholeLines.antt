-- Each form of a line, once as a whole text beside the parts that make it.
use Rattle.std.specs.Prelude.{ℕ, ◌≡◌, List, [], ◌∷◌, ◌++◌, codes, None}
use Rattle.fabric_parts.specs.declared.node_type.NodeType.TheVariants.{ChannelAdapter}
use Rattle.partition_file.specs.declared.heading.Heading.{Heading}
use Rattle.subnet_model.specs.declared.subnet_port.SubnetPort.{SubnetPort}
use Rattle.partition_reports.specs.Lines.{heading_line, member_line}

-- port 2 of the node h1
abbrev pub a_port : SubnetPort
a_port = record {
  lid = 4;
  guid = 0x112;
  node_name = codes "h1";
  node_guid = 0x110;
  num_ports = 2;
  number = 2;
  node_type = ChannelAdapter;
  keys = [];
}

abbrev pub a_heading : ℕ → List ℕ → Heading
a_heading base name = record { base = base; name = name; group = None }

-- a text and the end of its line
abbrev pub ended : List ℕ → List ℕ
ended text = text ++ 10 ∷ []

pub record LinesAreWhole : Type 0 where
  pub heading : heading_line 31 (a_heading 0x00ab (codes "storage")) ≡ ended (codes "partition 31 0x00ab storage")
  pub nameless : heading_line 0 (a_heading 0x7fff []) ≡ ended (codes "partition 0 0x7fff -")
  pub member : member_line a_port 0x80ab ≡ ended (codes "member 0x80ab h1/2")
