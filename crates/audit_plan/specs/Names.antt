-- How many nodes of a discovery have each name, looked up: a step of the code, on which no definition of the subject stands.
use Rattle.std.specs.Prelude.{ℕ, ◌≡◌, ◌==◌, Bool, List, bytes_eq, count_by, if◌then◌else◌, Option, Some, None, Vec}
use Rattle.std.specs.Global.{Global}
use Rattle.indexmap.specs.IndexMap.{IndexMap, get}
use Rattle.netdiscover_file.specs.declared.node.Node.{Node}

-- no node has the name, one alone has it, or several have
abbrev pub alone_if : ℕ → Option Bool
alone_if count = if count == 0 then None else Some (count == 1)

abbrev pub alone_in : List Node → List ℕ → Option Bool
alone_in nodes name = alone_if (count_by (λ node. bytes_eq name node.name) nodes)

abbrev pub KnowsNames : {S : Type 0} → IndexMap (Vec ℕ Global) Bool S → List Node → Type 0
KnowsNames names nodes = (name : Vec ℕ Global) → get (λ a b. bytes_eq a.items b.items) names name ≡ alone_in nodes name.items
