-- Changes of nodes that are named by their GUIDs.
use Rattle.std.proofs.Common.{ℕ, zero, suc, ◌≡◌, ◌==◌, ◌∙◌, ap, refl, sym, subst, Bool, true, false, List, [], ◌∷◌, map, slice_get, slice_set, Some, option_map}
use Rattle.std.specs.List.{All, IsDistinct, list_any}
use Rattle.std.proofs.lemmas.Bool.{eqb-false, eqb-true, or_parts}
use Rattle.std.proofs.lemmas.Bool.Decides.{Decides-eqb}
use Rattle.std.proofs.lemmas.List.Elements.{All-head, All-tail}
use Rattle.std.proofs.lemmas.Map.Keys.{IsDistinct-tail}
use Rattle.std.proofs.lemmas.Option.{same_Some, slice_get-map}
use Rattle.std.proofs.lemmas.Simd.{map-map}
use Rattle.smp_wire.specs.FabricState.{FabricState}
use Rattle.smp_wire.specs.Good.{node_guid}
use Rattle.smp_wire.specs.declared.node.Node.{Node}
use Rattle.smp_wire.specs.declared.node.Node.TheVariants.{Switch, Adapter}
use Rattle.step_results.proofs.DistinctLemmas.{none_shares}
use Rattle.switch_model.specs.SwitchState.{SwitchState}
use Rattle.table_push.specs.Nodes.{on_switch, switch_by, with_switches}

-- ---- tests
pub same_number : (x : ℕ) → (x == x) ≡ true
same_number x = (Decides-eqb x x).1 refl

pub turned : (a b : ℕ) → (a == b) ≡ false → (b == a) ≡ false
turned a b apart = by (b == a) refl
  where
    by : (t : Bool) → (b == a) ≡ t → (b == a) ≡ false
    by true is = absurd (eqb-false a b apart (sym (eqb-true b a is)))
    by false is = is

pub none_there : {X : Type 0} (p : X → Bool) (xs : List X) (k : ℕ) (x : X) → list_any p xs ≡ false → slice_get xs k ≡ Some x → p x ≡ false
none_there p [] k x none there = absurd (cc)
none_there p (y ∷ xs) zero x none there = ap p (sym (same_Some y x there)) ∙ (or_parts (p y) (list_any p xs) none).0
none_there p (y ∷ xs) (suc k) x none there = none_there p xs k x (or_parts (p y) (list_any p xs) none).1 there

-- ---- lists of which each element changes alike
pub map_alike : {X Y : Type 0} (P : X → Type 0) (f g : X → Y) (xs : List X) → All P xs → ((x : X) → P x → f x ≡ g x) → map f xs ≡ map g xs
map_alike P f g [] all each = refl
map_alike P f g (x ∷ xs) all each =
    let head = each x (All-head P x xs all) in
    let tail = map_alike P f g xs (All-tail P x xs all) each in
    λ place. head place ∷ tail place

-- ---- the node of one GUID
guids_at : (nodes : List Node) (place : ℕ) (node : Node) → slice_get nodes place ≡ Some node → slice_get (map node_guid nodes) place ≡ Some (node_guid node)
guids_at nodes place node there = slice_get-map node_guid nodes place ∙ ap (option_map node_guid) there

all_stay : (f : Node → Node) (guid : ℕ) → ((node : Node) → (guid == node_guid node) ≡ false → f node ≡ node) → (nodes : List Node)
    → list_any (λ other. guid == other) (map node_guid nodes) ≡ false → map f nodes ≡ nodes
all_stay f guid stays [] none = refl
all_stay f guid stays (node ∷ nodes) none =
    let parts = or_parts (guid == node_guid node) (list_any (λ other. guid == other) (map node_guid nodes)) none in
    let head = stays node parts.0 in
    let tail = all_stay f guid stays nodes parts.1 in
    λ place. head place ∷ tail place

-- a change that leaves the nodes of other GUIDs changes one place
pub one_changes : (f : Node → Node) → (guid : ℕ) → ((node : Node) → (guid == node_guid node) ≡ false → f node ≡ node)
    → (nodes : List Node) (place : ℕ) (node : Node) → IsDistinct (λ a b. a == b) (map node_guid nodes) → slice_get nodes place ≡ Some node
    → node_guid node ≡ guid → map f nodes ≡ slice_set nodes place (f node)
one_changes f guid stays [] place node own there is = absurd (cc)
one_changes f guid stays (one ∷ nodes) zero node own there is =
    let same : one ≡ node = same_Some one node there in
    let its : node_guid one ≡ guid = ap node_guid same ∙ is in
    let none : list_any (λ other. guid == other) (map node_guid nodes) ≡ false =
    subst (λ (g : ℕ). list_any (λ other. g == other) (map node_guid nodes) ≡ false) its (none_shares (λ a b. a == b) (node_guid one) (map node_guid nodes) own) in
    let head = ap f same in
    let tail = all_stay f guid stays nodes none in
    λ i. head i ∷ tail i
one_changes f guid stays (one ∷ nodes) (suc place) node own there is =
    let apart = none_there (λ other. node_guid one == other) (map node_guid nodes) place (node_guid node)
    (none_shares (λ a b. a == b) (node_guid one) (map node_guid nodes) own) (guids_at nodes place node there) in
    let head = stays one (turned (node_guid one) guid (subst (λ (g : ℕ). (node_guid one == g) ≡ false) is apart)) in
    let tail = one_changes f guid stays nodes place node (IsDistinct-tail (λ a b. a == b) (node_guid one) (map node_guid nodes) own) there is in
    λ i. head i ∷ tail i

-- ---- the switch of one GUID
other_stays : (guid : ℕ) (change : SwitchState → SwitchState) (node : Node) → (guid == node_guid node) ≡ false
    → switch_by (on_switch guid change) node ≡ node
other_stays guid change (Switch held) apart = rw apart refl
other_stays guid change (Adapter ports) apart = refl

pub written_there : (change : SwitchState → SwitchState) (nodes : List Node) (place : ℕ) (held : SwitchState)
    → IsDistinct (λ a b. a == b) (map node_guid nodes) → slice_get nodes place ≡ Some (Switch held)
    → map (switch_by (on_switch held.node_guid change)) nodes ≡ slice_set nodes place (Switch (change held))
written_there change nodes place held own there =
    one_changes (switch_by (on_switch held.node_guid change)) held.node_guid (other_stays held.node_guid change) nodes place (Switch held) own there refl
    ∙ ap (slice_set nodes place) (rw (same_number held.node_guid) refl)

-- ---- one change after another
both_by : (f g h : ℕ → SwitchState → SwitchState) → ((guid : ℕ) (held : SwitchState) → (g guid held).node_guid ≡ held.node_guid)
    → ((guid : ℕ) (held : SwitchState) → f guid (g guid held) ≡ h guid held) → (node : Node)
    → switch_by f (switch_by g node) ≡ switch_by h node
both_by f g h keeps each (Switch held) =
    ap (λ (guid : ℕ). Switch (f guid (g held.node_guid held))) (keeps held.node_guid held) ∙ ap (λ (one : SwitchState). Switch one) (each held.node_guid held)
both_by f g h keeps each (Adapter ports) = refl

pub both_written : (f g h : ℕ → SwitchState → SwitchState) (fabric : FabricState)
    → ((guid : ℕ) (held : SwitchState) → (g guid held).node_guid ≡ held.node_guid)
    → ((guid : ℕ) (held : SwitchState) → f guid (g guid held) ≡ h guid held)
    → with_switches f (with_switches g fabric) ≡ with_switches h fabric
both_written f g h fabric keeps each =
    let all : map (switch_by f) (map (switch_by g) fabric.nodes) ≡ map (switch_by h) fabric.nodes =
    map-map (switch_by f) (switch_by g) fabric.nodes ∙ (λ place. map (λ node. both_by f g h keeps each node place) fabric.nodes) in
    ap (λ (nodes : List Node). record fabric { nodes = nodes }) all

pub same_written : (f g : ℕ → SwitchState → SwitchState) (fabric : FabricState)
    → ((guid : ℕ) (held : SwitchState) → f guid held ≡ g guid held) → with_switches f fabric ≡ with_switches g fabric
same_written f g fabric each =
    ap (λ (nodes : List Node). record fabric { nodes = nodes }) (λ place. map (λ node. one node place) fabric.nodes)
  where
    one : (node : Node) → switch_by f node ≡ switch_by g node
    one (Switch held) = ap (λ (next : SwitchState). Switch next) (each held.node_guid held)
    one (Adapter ports) = refl

-- nothing changes where each stays
pub none_written : (f : ℕ → SwitchState → SwitchState) (fabric : FabricState) → ((guid : ℕ) (held : SwitchState) → f guid held ≡ held)
    → with_switches f fabric ≡ fabric
none_written f fabric each =
    ap (λ (nodes : List Node). record fabric { nodes = nodes }) (stay fabric.nodes)
  where
    stay : (nodes : List Node) → map (switch_by f) nodes ≡ nodes
    stay [] = refl
    stay (Switch held ∷ nodes) =
        let head = ap (λ (next : SwitchState). Switch next) (each held.node_guid held) in
        let tail = stay nodes in
        λ place. head place ∷ tail place
    stay (Adapter ports ∷ nodes) = ap (λ (rest : List Node). Adapter ports ∷ rest) (stay nodes)
