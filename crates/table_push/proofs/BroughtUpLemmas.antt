-- The pushes bring a fabric up.
use Rattle.std.proofs.Common.{ℕ, ◌≡◌, ◌∙◌, ap, refl, sym, true, false, List, length, slice_get, Option, Some, None, option_map}
use Rattle.std.specs.Option.{option_map_or}
use Rattle.std.proofs.lemmas.Option.{none-some, same_Some}
use Rattle.fabric_parts.specs.declared.cable.PortRef.{PortRef}
use Rattle.smp_wire.specs.FabricState.{FabricState, is_switch, is_switch_at}
use Rattle.smp_wire.specs.Good.{IsGood}
use Rattle.smp_wire.specs.declared.node.Node.{Node}
use Rattle.smp_wire.specs.declared.node.Node.TheVariants.{Switch, Adapter}
use Rattle.sweep.specs.OfFabric.{IsGraphOf}
use Rattle.switch_model.specs.SwitchState.{SwitchState}
use Rattle.table_push.specs.Ports.{ports_pushed}
use Rattle.table_push.proofs.KeptLemmas.{pushes_keep_the_graph}
use Rattle.table_push.proofs.LawLemmas.{every_switch_has_its_table}
use Rattle.updn_routes.specs.Subnet.{RoutesState}
use Rattle.table_push.specs.BroughtUp.{IsBroughtUp, RoutesLeadHome}
use Rattle.table_push.specs.Pushed.{ArePushed, all_pushed, ports_and_keys}
use Rattle.table_push.proofs.SetUpLemmas.{node_after, with_all}
use Rattle.table_push.proofs.BroughtUpPortLemmas.{faces_adapter, faces_switch, is_set}

-- ---- LinearFDBTop
top_of : Node → ℕ
top_of (Switch held) = held.info.linear_fdb_top
top_of (Adapter ports) = 0

top_is : (routes : RoutesState) (keys : List (List ℕ)) (was : Option Node) (held : SwitchState) → option_map (with_all routes keys) was ≡ Some (Switch held)
    → held.info.linear_fdb_top ≡ length routes.lids
unfolding top_of
top_is routes keys None held is = absurd (none-some (Switch held) is)
top_is routes keys (Some (Switch was)) held is = sym (ap top_of (same_Some (with_all routes keys (Switch was)) (Switch held) is))
top_is routes keys (Some (Adapter ports)) held is = absurd (other (same_Some (with_all routes keys (Adapter ports)) (Switch held) is))
  where
    other : with_all routes keys (Adapter ports) ≡ Switch held → ⊥
    other same = cc

-- ---- kinds of nodes
pub kind_of : (routes : RoutesState) (keys : List (List ℕ)) (was : Option Node) → option_map_or is_switch (option_map (with_all routes keys) was) false ≡ option_map_or is_switch was false
kind_of routes keys None = refl
kind_of routes keys (Some (Switch held)) = refl
kind_of routes keys (Some (Adapter ports)) = refl

pub brings_up : (routes : RoutesState) (keys : List (List ℕ)) (fabric : FabricState) → RoutesLeadHome routes → IsGraphOf routes.graph fabric → IsGood fabric
    → ArePushed routes keys fabric → IsBroughtUp routes keys (all_pushed routes keys fabric)
brings_up routes keys fabric home of good pushed =
    let ported : IsGraphOf routes.graph (ports_pushed routes fabric) = (pushes_keep_the_graph routes keys fabric routes.graph of).2 pushed.ports.shape in
    let keyed = (pushes_keep_the_graph routes keys (ports_pushed routes fabric) routes.graph ported).1 pushed.key_tables.shape in
    record {
      good = pushed.linear.good;
      graph = (pushes_keep_the_graph routes keys (ports_and_keys routes keys fabric) routes.graph keyed).0 pushed.linear.shape;
      tables = λ node held there. (
        every_switch_has_its_table routes (ports_and_keys routes keys fabric) node held home.graph keyed pushed.key_tables.good there,
        top_is routes keys (slice_get fabric.nodes node) held (sym (node_after routes keys fabric node) ∙ there),
      );
      lids = λ at one cabled. (is_set routes keys fabric home of good at one cabled).lid_is;
      active = λ at one cabled. (is_set routes keys fabric home of good at one cabled).active;
      own_keys = λ at one own cabled given. (is_set routes keys fabric home of good at one cabled).own own given;
      facing = faces_adapter routes keys fabric home of good;
      between = λ here at mine there cable switch. faces_switch routes keys fabric home of good here at mine there cable (was here at switch);
    }
  where
    was : (here at : PortRef) → is_switch_at (all_pushed routes keys fabric).nodes at.node ≡ true → is_switch_at fabric.nodes at.node ≡ true
    was here at switch =
        sym (kind_of routes keys (slice_get fabric.nodes at.node))
        ∙ ap (λ (o : Option Node). option_map_or is_switch o false) (sym (node_after routes keys fabric at.node)) ∙ switch
