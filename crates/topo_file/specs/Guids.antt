-- The GUIDs of the nodes so far, looked up in a set.
use Rattle.std.specs.Prelude.{ℕ, ◌≡◌, Bool, ◌&&◌, ◌||◌, nat_eq, nat_le, List}
use Rattle.std.specs.List.{list_any}
use Rattle.topo_file.specs.declared.node.Node.{Node}
use Rattle.topo_file.specs.Node.{last_guid}

-- this is one of the node's GUIDs
abbrev pub has_guid : ℕ → Node → Bool
has_guid guid node = nat_le node.guid guid && nat_le guid (last_guid node)

-- these keys are the GUIDs of the nodes, and no others
abbrev pub KnowsGuids : List ℕ → List Node → Type 0
KnowsGuids keys nodes = (guid : ℕ) → list_any (nat_eq guid) keys ≡ list_any (has_guid guid) nodes

-- what a second set has beside the first: the GUIDs of this node; or nothing
abbrev pub KnowMore : Node → List ℕ → List ℕ → Type 0
KnowMore node before after = (guid : ℕ) → list_any (nat_eq guid) after ≡ (list_any (nat_eq guid) before || has_guid guid node)

abbrev pub KnowSame : List ℕ → List ℕ → Type 0
KnowSame before after = (guid : ℕ) → list_any (nat_eq guid) after ≡ list_any (nat_eq guid) before
