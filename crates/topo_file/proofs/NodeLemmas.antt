-- Nodes and their names: a name is looked up among keys that encode the names.
use Rattle.std.proofs.Common.{◌≡◌, ℕ, false, List, [], ◌∷◌, ◌++◌, map, position, None, refl, sym, ap, ◌∙◌}
use Rattle.std.specs.List.{list_any}
use Rattle.std.specs.Str.{bytes_eq}
use Rattle.std.proofs.lemmas.List.{map_push}
use Rattle.indexmap.specs.IndexSet.{insert_key}
use Rattle.step_results.proofs.PlaceLemmas.{not_there, position-map}
use Rattle.topo_file.specs.declared.node.Node.{Node}
use Rattle.topo_file.specs.Node.{place_of}

-- the keys encode the names of the nodes, so a key's place is its node's
pub place_of-keys : {K : Type 0} (encoded : K → List ℕ) (name : List ℕ) (keys : List K) (nodes : List Node) → map encoded keys ≡ map (λ node. node.name) nodes
    → position (λ key. bytes_eq name (encoded key)) keys ≡ place_of name nodes
place_of-keys encoded name keys nodes same =
    position-map (bytes_eq name) encoded keys ∙ ap (position (bytes_eq name)) same ∙ sym (position-map (bytes_eq name) (λ node. node.name) nodes)

-- a new name goes last, as its node does
pub keys_and_names_grow : {K : Type 0} (encoded : K → List ℕ) (key : K) (node : Node) (keys : List K) (nodes : List Node) → map encoded keys ≡ map (λ n. n.name) nodes
    → encoded key ≡ node.name → place_of (encoded key) nodes ≡ None
    → map encoded (insert_key (λ a b. bytes_eq (encoded a) (encoded b)) keys key) ≡ map (λ n. n.name) (nodes ++ node ∷ [])
keys_and_names_grow encoded key node keys nodes same named new =
    let absent : list_any (λ other. bytes_eq (encoded key) (encoded other)) keys ≡ false = not_there _ keys (place_of-keys encoded (encoded key) keys nodes same ∙ new) in
    rw (absent, map_push encoded keys key, map_push (λ n. n.name) nodes node, same, named) refl
