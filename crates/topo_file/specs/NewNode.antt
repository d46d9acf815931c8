-- A node that a line declares.
use Rattle.topo_file.specs.declared.node.NewNode.{NewNode}
use Rattle.topo_file.specs.declared.node.Node.{Node}

-- the node that it becomes
abbrev pub seen : NewNode → Node
seen node = record { name = node.name.now; node_type = node.node_type; guid = node.guid; ports = node.ports }
