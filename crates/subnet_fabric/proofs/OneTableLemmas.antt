-- The linear forwarding tables of a topology's fabric are one.
use Rattle.std.proofs.Common.{ℕ, zero, suc, ◌≡◌, ◌∙◌, ap, refl, sym, List, [], ◌∷◌, length, map, slice_get, unwrap_or, Option, Some, None}
use Rattle.std.specs.Option.{option_and_then, option_map_or}
use Rattle.fabric_wire.proofs.OfTopologyGoodLemmas.{good}
use Rattle.fabric_wire.specs.OfTopology.{fabric_of}
use Rattle.updn_routes.proofs.ChoiceLemmas.{next_hops_are_the_fabrics}
use Rattle.updn_routes.proofs.OfFabricLemmas.{has_switch, not_without}
use Rattle.updn_routes.specs.NextHops.{AreChosenFrom, hop_by}
use Rattle.smp_wire.specs.FabricState.{FabricState}
use Rattle.smp_wire.specs.declared.node.Node.{Node}
use Rattle.smp_wire.specs.declared.node.Node.TheVariants.{Switch, Adapter}
use Rattle.subnet_fabric.proofs.FoundLemmas.{laid_out}
use Rattle.subnet_fabric.proofs.OneFateLemmas.{one_list}
use Rattle.subnet_fabric.specs.BringUp.{IsBroughtUpBy, root_guids}
use Rattle.subnet_fabric.specs.Laws.{OneTableIsLeft, linear_at, linear_of}
use Rattle.table_push.proofs.ForgetLemmas.{same_table}
use Rattle.table_push.specs.Keys.{keys_wanted}
use Rattle.table_push.specs.Linear.{linear_table, with_linear}
use Rattle.table_push.specs.Nodes.{infos_by, keys_by, switch_by}
use Rattle.table_push.specs.Ports.{change_wanted, changed, set_top}
use Rattle.table_push.specs.Pushed.{all_pushed}
use Rattle.topo_file.specs.Sound.{IsSound}
use Rattle.topo_file.specs.Topology.{TopologyState}
use Rattle.updn_routes.specs.Routes.{next_hop}
use Rattle.updn_routes.specs.Subnet.{RoutesState, place_of}

-- ---- what a push leaves in one node
reported_at : {X : Type 0} (f g : Node → Option X) (a b c d : Node → Node) (nodes : List Node) (k : ℕ)
    → ((node : Node) → f (a (b (c (d node)))) ≡ g node)
    → option_and_then f (slice_get (map a (map b (map c (map d nodes)))) k) ≡ option_and_then g (slice_get nodes k)
reported_at f g a b c d [] k same = refl
reported_at f g a b c d (node ∷ nodes) zero same = same node
reported_at f g a b c d (node ∷ nodes) (suc k) same = reported_at f g a b c d nodes k same

abbrev table_of : RoutesState → Node → Option (List ℕ)
table_of routes (Switch held) = Some (option_map_or (linear_table routes) (place_of routes.graph.switches held.node_guid) held.linear)
table_of routes (Adapter ports) = None

pushed_at : (routes : RoutesState) (keys : List (List ℕ)) (fabric : FabricState) (k : ℕ)
    → linear_at (all_pushed routes keys fabric) k ≡ option_and_then (table_of routes) (slice_get fabric.nodes k)
pushed_at routes keys fabric k =
    reported_at linear_of (table_of routes) (switch_by (with_linear routes))
    (keys_by (λ guid number held. unwrap_or (keys_wanted routes keys guid number) held)) (switch_by (λ guid. set_top (length routes.lids)))
    (infos_by (λ guid number. changed (change_wanted routes guid number))) fabric.nodes k one
  where
    one : (node : Node)
        → linear_of (switch_by (with_linear routes) (keys_by (λ guid number held. unwrap_or (keys_wanted routes keys guid number) held)
        (switch_by (λ guid. set_top (length routes.lids)) (infos_by (λ guid number. changed (change_wanted routes guid number)) node))))
        ≡ table_of routes node
    one (Switch held) = refl
    one (Adapter ports) = refl

-- ---- two that came up
module _ (plan : TopologyState) (sound : IsSound plan) (keys other_keys : List (List ℕ)) (one other : RoutesState) (up up_too : FabricState)
    (by_one : IsBroughtUpBy plan keys one up) (by_other : IsBroughtUpBy plan other_keys other up_too) (ruled : other.between.rule ≡ one.between.rule) where
  chosen : AreChosenFrom (root_guids plan) one
  chosen = record { of = by_one.home.of; ranks = by_one.are.made.ranks_are; chosen = by_one.home.chosen }

  chosen_too : AreChosenFrom (root_guids plan) other
  chosen_too = record { of = by_other.home.of; ranks = by_other.are.made.ranks_are; chosen = by_other.home.chosen }

  lids : other.lids ≡ one.lids
  lids =
      one_list plan one.graph other.graph one.lids other.lids sound (laid_out (fabric_of plan) one.graph by_one.are.found)
      (laid_out (fabric_of plan) other.graph by_other.are.found) by_one.are.assigned by_other.are.assigned

  one_hop : (guid lid : ℕ) → hop_by other guid lid ≡ hop_by one guid lid
  one_hop guid lid =
      next_hops_are_the_fabrics (fabric_of plan) one other (root_guids plan) guid lid (good plan sound) by_one.are.found.of.layout
      by_other.are.found.of.layout chosen chosen_too lids ruled

  one_table : (guid : ℕ) (held : List ℕ) → option_map_or (linear_table other) (place_of other.graph.switches guid) held
      ≡ option_map_or (linear_table one) (place_of one.graph.switches guid) held
  one_table guid held = by (place_of one.graph.switches guid) refl (place_of other.graph.switches guid) refl (one_hop guid)
    where
      by : (o : Option ℕ) → place_of one.graph.switches guid ≡ o → (p : Option ℕ) → place_of other.graph.switches guid ≡ p
          → ((lid : ℕ) → option_and_then (λ place. next_hop other.between place lid) p ≡ option_and_then (λ place. next_hop one.between place lid) o)
          → option_map_or (linear_table other) p held ≡ option_map_or (linear_table one) o held
      by None at None at_too hops = refl
      by (Some k) at None at_too hops =
          let has = has_switch (fabric_of plan) one.graph by_one.are.found.of.layout guid k at in
          absurd (not_without (fabric_of plan) other.graph by_other.are.found.of.layout guid has.node has.switch has.guid_is at_too)
      by None at (Some m) at_too hops =
          let has = has_switch (fabric_of plan) other.graph by_other.are.found.of.layout guid m at_too in
          absurd (not_without (fabric_of plan) one.graph by_one.are.found.of.layout guid has.node has.switch has.guid_is at)
      by (Some k) at (Some m) at_too hops = same_table one other k m hops

  one_node : (node : Node) → table_of other node ≡ table_of one node
  one_node (Switch held) = ap (λ (table : List ℕ). Some table) (one_table held.node_guid held.linear)
  one_node (Adapter ports) = refl

  pub tables_meet : (k : ℕ) → linear_at up_too k ≡ linear_at up k
  tables_meet k =
      ap (λ (fabric : FabricState). linear_at fabric k) by_other.is ∙ pushed_at other other_keys (fabric_of plan) k
      ∙ by (slice_get (fabric_of plan).nodes k)
      ∙ sym (pushed_at one keys (fabric_of plan) k) ∙ ap (λ (fabric : FabricState). linear_at fabric k) (sym by_one.is)
    where
      by : (o : Option Node) → option_and_then (table_of other) o ≡ option_and_then (table_of one) o
      by None = refl
      by (Some node) = one_node node

pub one_table_is_left : OneTableIsLeft
one_table_is_left plan keys other_keys one other node sound up up_too ruled =
    tables_meet plan sound keys other_keys up.routes up_too.routes one other up.by up_too.by ruled node
