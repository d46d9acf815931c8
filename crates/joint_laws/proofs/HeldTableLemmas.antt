-- What the switches hold of a fabric that is brought up, and what a dump shows of it.
use Rattle.std.proofs.Common.{ℕ, ◌≡◌, ◌-◌, ◌≤◌, ◌==◌, ◌∙◌, ap, refl, sym, Bool, true, false, List, get_or, slice_get, unwrap_or, Option, Some, None, option_map, arith, subst, ◌≢◌}
use Rattle.std.specs.Option.{option_map_or}
use Rattle.std.proofs.lemmas.Bool.{eqb-true, eqb-false}
use Rattle.std.proofs.lemmas.Option.{slice_get-map}
use Rattle.dump_file.specs.Dump.{DumpState}
use Rattle.fabric_wire.proofs.OfTopologyLemmas.{switch_there}
use Rattle.fabric_wire.specs.OfTopology.{fabric_of}
use Rattle.smp_wire.specs.FabricState.{FabricState}
use Rattle.smp_wire.specs.Good.{node_guid}
use Rattle.smp_wire.specs.declared.node.Node.{Node}
use Rattle.smp_wire.specs.declared.node.Node.TheVariants.{Switch}
use Rattle.subnet_fabric.specs.BringUp.{IsBroughtUpBy}
use Rattle.sweep.specs.OfFabric.{Found, guid_at, switch_of}
use Rattle.sweep.specs.declared.graph.GraphSwitch.{GraphSwitch}
use Rattle.switch_model.specs.SwitchState.{SwitchState}
use Rattle.table_push.proofs.EntryLemmas.{entry_read, switch_by}
use Rattle.table_push.proofs.HomeLemmas.{own_switch}
use Rattle.table_push.proofs.SetUpLemmas.{node_after, with_all}
use Rattle.table_push.specs.Linear.{linear_table}
use Rattle.topo_file.specs.Node.{is_switch_at}
use Rattle.topo_file.specs.Topology.{TopologyState}
use Rattle.updn_routes.specs.Routes.{next_hop}
use Rattle.updn_routes.specs.Subnet.{RoutesState, place_of}
use Rattle.fabric_loads.specs.HeldRows.{held_entry}
use Rattle.joint_laws.specs.RouteLaws.{over}
use Rattle.joint_laws.specs.Shown.{HasRow, Shows}
use Rattle.joint_laws.proofs.TurnLemmas.{one_row}
use Rattle.joint_laws.proofs.StandLemmas.{Stands}

-- ---- a switch of the fabric, after the pushes and before
record IsPushed (routes : RoutesState) (keys : List (List ℕ)) (was : SwitchState) : Type 0 where
  held : SwitchState
  is : with_all routes keys (Switch was) ≡ Switch held
  linear : held.linear ≡ option_map_or (linear_table routes) (place_of routes.graph.switches was.node_guid) was.linear
  guid_is : held.node_guid ≡ was.node_guid

pushed : (routes : RoutesState) (keys : List (List ℕ)) (was : SwitchState) → IsPushed routes keys was
pushed routes keys was = record { held = _; is = refl; linear = refl; guid_is = refl }

module _ (plan : TopologyState) (keys : List (List ℕ)) (routes : RoutesState) (fabric : FabricState) (up : IsBroughtUpBy plan keys routes fabric) where
  abbrev was : FabricState
  was = fabric_of plan

  abbrev all : List Found
  all = up.are.found.of.layout.found

  -- ---- the switch there
  pub record Holds (node place : ℕ) : Type 0 where
    pub held : SwitchState
    pub there : slice_get fabric.nodes node ≡ Some (Switch held)
    pub entry_is : (lid : ℕ) → held_entry held lid ≡ unwrap_or (next_hop routes.between place lid) 255

  pub holds : (node place : ℕ) → is_switch_at plan.nodes node ≡ true → Stands all node place → Holds node place
  holds node place switch stands =
      let before = switch_by was.nodes node (slice_get was.nodes node) refl (switch_there plan.cables plan.nodes node ∙ switch) in
      let after = pushed routes keys before.held in
      let one = switch_of was stands.one in
      let there : slice_get routes.graph.switches place ≡ Some one =
      ap (λ (switches : List GraphSwitch). slice_get switches place) up.are.found.of.layout.switches ∙ slice_get-map (switch_of was) all place
      ∙ ap (option_map (switch_of was)) stands.there in
      let guid : before.held.node_guid ≡ one.guid =
      sym (ap (guid_at was) stands.node_is ∙ ap (λ (o : Option Node). option_map_or node_guid o 0) before.there) in
      let at : place_of routes.graph.switches before.held.node_guid ≡ Some place =
      ap (place_of routes.graph.switches) guid ∙ own_switch routes.graph place one up.home.graph there in
      let table : after.held.linear ≡ linear_table routes place =
      after.linear ∙ ap (λ (o : Option ℕ). option_map_or (linear_table routes) o before.held.linear) at in
      record {
        held = after.held;
        there = ap (λ (one : FabricState). slice_get one.nodes node) up.is ∙ node_after routes keys was node
            ∙ ap (option_map (with_all routes keys)) before.there ∙ ap (λ (n : Node). Some n) after.is;
        entry_is = λ lid. ap (λ (linear : List ℕ). get_or linear lid 255) table ∙ entry_read routes up.home place lid;
      }

  -- ---- what a dump shows
  module _ (dump : DumpState) (shows : Shows (over plan dump) routes.lids fabric) where
    pub row_of_hop : (node place lid number : ℕ) → is_switch_at plan.nodes node ≡ true → Stands all node place
        → next_hop routes.between place lid ≡ Some number → number ≤ 36 → HasRow (over plan dump) node lid number
    row_of_hop node place lid number switch stands hop few =
        let has = holds node place switch stands in
        let is : held_entry has.held lid ≡ number = has.entry_is lid ∙ ap (λ (o : Option ℕ). unwrap_or o 255) hop in
        subst (HasRow (over plan dump) node lid) is (shows.rows node lid has.held has.there (λ none. omega (arith, none, is, few)))

    pub hop_of : (node place lid number : ℕ) → is_switch_at plan.nodes node ≡ true → Stands all node place → HasRow (over plan dump) node lid number
        → number ≢ 255 → next_hop routes.between place lid ≡ Some number
    hop_of node place lid number switch stands row some = by (next_hop routes.between place lid) refl (holds node place switch stands)
      where
        by_number : (p : ℕ) → next_hop routes.between place lid ≡ Some p → (has : Holds node place) → (b : Bool) → (p == 255) ≡ b → Some p ≡ Some number
        by_number p hop has true top =
            absurd (some (shows.none node lid number has.held has.there
            (has.entry_is lid ∙ ap (λ (o : Option ℕ). unwrap_or o 255) hop ∙ eqb-true p 255 top) row))
        by_number p hop has false top =
            let is : held_entry has.held lid ≡ p = has.entry_is lid ∙ ap (λ (o : Option ℕ). unwrap_or o 255) hop in
            ap (λ (n : ℕ). Some n)
            (sym is ∙ one_row (over plan dump) node lid (held_entry has.held lid) number
            (shows.rows node lid has.held has.there (λ none. eqb-false p 255 top (sym is ∙ none))) row)

        by : (o : Option ℕ) → next_hop routes.between place lid ≡ o → Holds node place → o ≡ Some number
        by None hop has =
            absurd (some (shows.none node lid number has.held has.there (has.entry_is lid ∙ ap (λ (o : Option ℕ). unwrap_or o 255) hop) row))
        by (Some p) hop has = by_number p hop has (p == 255) refl
