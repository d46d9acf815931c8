-- Ports of a subnet, as lines show them.
use Rattle.std.specs.Prelude.{ℕ, List}
use Rattle.subnet_model.specs.declared.subnet_port.SubnetPort.{SubnetPort}
use Rattle.text_words.specs.Parts.{port_name}

-- a port by its node and number, as `h1/1`
abbrev pub port_text : SubnetPort → List ℕ
port_text port = port_name port.node_name port.number
