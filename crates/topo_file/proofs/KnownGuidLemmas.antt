-- GUIDs are looked up one by one in a set, in place of the ranges of all nodes.
use Rattle.std.proofs.Common.{ℕ, ◌≡◌, ◌∙◌, ◌+◌, ◌<◌, ◌≤◌, nat_eq, nat_le, nat_lt, Bool, true, false, ◌&&◌, ◌||◌, cond, List, [], ◌∷◌, ◌++◌, ap, refl, sym, arith}
use Rattle.std.specs.List.{list_any}
use Rattle.std.proofs.lemmas.Bool.{and_from, and_parts, le-leb, leb-true, or_from, or_parts}
use Rattle.std.proofs.lemmas.Bool.Decides.{nat_tests}
use Rattle.std.proofs.lemmas.List.Folds.{list_any-append}
use Rattle.step_results.proofs.ListLemmas.{list_any_weaker}
use Rattle.step_results.proofs.BoolLemmas.{false_more}
use Rattle.topo_file.specs.declared.node.Node.{Node}
use Rattle.topo_file.specs.Guids.{KnowMore, KnowsGuids, has_guid}
use Rattle.topo_file.specs.Node.{IsGuidOf, last_guid, port_guids, shares_guid}
use Rattle.topo_file.proofs.GuidLemmas.{shared}

-- ---- the GUIDs of a node, noted from its first on
-- this is one of so many numbers from the first on
abbrev pub is_among : ℕ → ℕ → ℕ → Bool
is_among first count guid = nat_le first guid && nat_lt guid (first + count)

-- ---- one more node
pub knows_more : (before after : List ℕ) (nodes : List Node) (node : Node) → KnowsGuids before nodes → KnowMore node before after → KnowsGuids after (nodes ++ node ∷ [])
knows_more before after nodes node knows more guid =
    more guid ∙ ap (λ (b : Bool). b || has_guid guid node) (knows guid)
    ∙ ap (λ (b : Bool). list_any (has_guid guid) nodes || b) (false_more (has_guid guid node)) ∙ sym (list_any-append (has_guid guid) nodes (node ∷ []))

-- ---- some GUID of the node is found
found_here : (node other : Node) (number : ℕ) → number ≤ port_guids node.node_type node.ports → has_guid (node.guid + number) other ≡ true → shares_guid node other ≡ true
found_here node other number within has =
    let parts = and_parts (nat_le other.guid (node.guid + number)) _ has in
    let low = leb-true other.guid (node.guid + number) parts.0 in
    let high = leb-true (node.guid + number) (last_guid other) parts.1 in
    and_from (nat_le node.guid (last_guid other)) _
    (le-leb node.guid (last_guid other) (omega (arith, high)))
    (le-leb other.guid (last_guid node) (omega (arith, low, within)))

pub some_found : (nodes : List Node) (node : Node) (number : ℕ) → number ≤ port_guids node.node_type node.ports → list_any (has_guid (node.guid + number)) nodes ≡ true
    → list_any (λ other. shares_guid node other) nodes ≡ true
some_found nodes node number within found =
    list_any_weaker (has_guid (node.guid + number)) (λ other. shares_guid node other) (λ other has. found_here node other number within has) nodes found

-- ---- none is found
abbrev pub NoneIsFound : Node → ℕ → List Node → Type 0
NoneIsFound node count nodes = (number : ℕ) → number < count → list_any (has_guid (node.guid + number)) nodes ≡ false

has_it : (other : Node) (guid : ℕ) → IsGuidOf other guid → has_guid guid other ≡ true
has_it other guid is =
    let number = is.0 in
    let within = is.1 in
    let same = is.2 in
    and_from (nat_le other.guid guid) _ (le-leb other.guid guid (omega (arith, within, same))) (le-leb guid (last_guid other) (omega (arith, within, same)))

none_here : (node other : Node) → ((number : ℕ) → number < port_guids node.node_type node.ports + 1 → has_guid (node.guid + number) other ≡ false)
    → shares_guid node other ≡ false
none_here node other none = by (shares_guid node other) refl
  where
    by : (b : Bool) → shares_guid node other ≡ b → b ≡ false
    by true e =
        let parts = and_parts (nat_le node.guid (last_guid other)) _ e in
        let meet = shared node other (leb-true node.guid (last_guid other) parts.0) (leb-true other.guid (last_guid node) parts.1) (nat_le node.guid other.guid) refl in
        let within = meet.1.1 in
        let here : has_guid (node.guid + meet.1.0) other ≡ true = ap (λ guid. has_guid guid other) (sym meet.1.2) ∙ has_it other meet.0 meet.2 in
        sym here ∙ none meet.1.0 (omega (arith, within))
    by false e = refl

pub none_found : (nodes : List Node) (node : Node) → NoneIsFound node (port_guids node.node_type node.ports + 1) nodes
    → list_any (λ other. shares_guid node other) nodes ≡ false
none_found [] node none = refl
none_found (other ∷ nodes) node none =
    or_from (shares_guid node other) _
    (none_here node other (λ number within. (or_parts (has_guid (node.guid + number) other) _ (none number within)).0))
    (none_found nodes node (λ number within. (or_parts (has_guid (node.guid + number) other) _ (none number within)).1))
