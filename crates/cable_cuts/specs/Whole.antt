-- Each form of a line, once as a whole text.
use Rattle.std.specs.Prelude.{ℕ, ◌≡◌, List, [], ◌∷◌, ◌++◌, codes}
use Rattle.fabric_parts.specs.Cable.{port}
use Rattle.fabric_parts.specs.declared.cable.Cable.{Cable}
use Rattle.fabric_parts.specs.declared.node_type.NodeType.{NodeType}
use Rattle.fabric_parts.specs.declared.node_type.NodeType.TheVariants.{ChannelAdapter, Switch}
use Rattle.subnet_model.specs.declared.subnet_port.SubnetPort.{SubnetPort}
use Rattle.topo_file.specs.declared.node.Node.{Node}
use Rattle.cable_cuts.specs.Texts.{change_line, count_line, loss_line}
use Rattle.cable_cuts.specs.declared.fate.Stop.TheVariants.{Apart, TooFar, NoLegalPath}
use Rattle.cable_cuts.specs.declared.loss.Loss.{Loss}
use Rattle.cable_cuts.specs.declared.outcome.Outcome.{Outcome}
use Rattle.cable_cuts.specs.declared.outcome.Outcome.TheVariants.{Keeps, Stops}

-- two switches A and B, and port 1 of an adapter i
abbrev pub node : List ℕ → NodeType → Node
node name of = record { name = name; node_type = of; guid = 0x10; ports = 4 }

abbrev pub nodes : List Node
nodes = node (codes "A") Switch ∷ node (codes "B") Switch ∷ node (codes "i") ChannelAdapter ∷ []

abbrev pub end_port : ℕ → List ℕ → NodeType → ℕ → SubnetPort
end_port lid name of number =
    record { lid = lid; guid = 0x10; node_name = name; node_guid = 0x10; num_ports = 4; number = number; node_type = of; keys = [] }

abbrev pub ports : List SubnetPort
ports = end_port 1 (codes "i") ChannelAdapter 1 ∷ end_port 2 (codes "A") Switch 0 ∷ end_port 3 (codes "B") Switch 0 ∷ []

-- the cable A/3 B/12
abbrev pub cable : Cable
cable = record { first = port 0 3; second = port 1 12 }

abbrev pub kept : Outcome
kept = Keeps (record { entries = 12; masks = 2; switches = 3 })

abbrev pub of : Outcome → Loss
of outcome = record { cable = cable; outcome = outcome }

-- a text and the end of its line
abbrev pub ended : List ℕ → List ℕ
ended text = text ++ 10 ∷ []

pub record LinesAreWhole : Type 0 where
  pub keeps : loss_line nodes ports cable kept ≡ ended (codes "cut A/3 B/12 keeps 12 entries 2 masks 3 switches")
  pub apart : loss_line nodes ports cable (Stops Apart) ≡ ended (codes "cut A/3 B/12 stops TF9")
  pub too_far : loss_line nodes ports cable (Stops TooFar) ≡ ended (codes "cut A/3 B/12 stops SW3")
  pub no_path : loss_line nodes ports cable (Stops (NoLegalPath 3 1)) ≡ ended (codes "cut A/3 B/12 stops UR1 B i/1")
  pub counts : count_line (of kept ∷ of (Stops Apart) ∷ of kept ∷ []) ≡ ended (codes "cables 3 keep 2 stop 1")
  pub change : change_line ports (record { switch = 2; lid = 5; was = 3; becomes = 4 }) ≡ ended (codes "A lid 5 port 3 becomes 4")
  pub no_port : change_line ports (record { switch = 2; lid = 10; was = 255; becomes = 0 }) ≡ ended (codes "A lid 10 port none becomes 0")
