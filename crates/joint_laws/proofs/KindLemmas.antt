-- Each row of the dump of what the switches hold says of what kind the end port of its LID is.
use Rattle.std.proofs.Common.{ℕ, suc, ◌≡◌, ◌+◌, ◌-◌, ◌==◌, ◌&&◌, ◌∙◌, ap, refl, sym, Bool, true, false, if◌then◌else◌, List, [], ◌∷◌, length, slice_get, Option, Some, None, option_map, arith}
use Rattle.std.specs.List.{list_all, range_with_len}
use Rattle.std.specs.Option.{option_and_then, option_map_or, option_or}
use Rattle.std.proofs.lemmas.Bool.{and_from, and_parts, eq-eqb, eqb-true, false≢true}
use Rattle.std.proofs.lemmas.Option.{none-some, same_Some}
use Rattle.dump_file.specs.Row.{end_of}
use Rattle.dump_file.specs.Table.{rows_of}
use Rattle.dump_file.specs.declared.row.Row.{Row}
use Rattle.dump_file.specs.declared.table.Table.{Table}
use Rattle.fabric_parts.specs.Cable.{port}
use Rattle.fabric_parts.specs.declared.cable.PortRef.{PortRef}
use Rattle.lid_assign.specs.Lids.{guid_in}
use Rattle.step_results.proofs.ListLemmas.{list_all_weaker}
use Rattle.audit_net.specs.OwnerLaws.{end_port_of}
use Rattle.audit_net.specs.Lids.{end_by, if_of_kind, is_of_kind, reported_end, says_kind}
use Rattle.audit_net.specs.Net.{NetState, row_at, row_of}
use Rattle.audit_plan.specs.Plan.{ends_of, port_of}
use Rattle.smp_wire.specs.FabricState.{FabricState}
use Rattle.smp_wire.specs.declared.node.Node.TheVariants.{Switch}
use Rattle.subnet_fabric.specs.BringUp.{IsBroughtUpBy}
use Rattle.sweep.proofs.FoundLemmas.{any_at, any_by}
use Rattle.switch_model.specs.SwitchState.{SwitchState}
use Rattle.topo_file.specs.Connectivity.{switches}
use Rattle.topo_file.specs.Node.{is_switch, is_switch_at}
use Rattle.topo_file.specs.Sound.{IsSound}
use Rattle.topo_file.specs.Topology.{TopologyState}
use Rattle.topo_file.specs.declared.node.Node.{Node}
use Rattle.updn_routes.specs.Subnet.{RoutesState}
use Rattle.fabric_loads.specs.HeldRows.{destination_of, held_entry, is_switchs, row_for, rows_from}
use Rattle.joint_laws.specs.RouteLaws.{over}
use Rattle.joint_laws.specs.OwnTables.{dump_of}
use Rattle.joint_laws.proofs.DumpLemmas.{has_place, table_there}
use Rattle.joint_laws.proofs.GuidLemmas.{port_is}
use Rattle.joint_laws.proofs.HeldTableLemmas.{holds}
use Rattle.audit_plan.proofs.TopologyEndLemmas.{found_by_node, number_in, port_from}
use Rattle.joint_laws.proofs.RingLemmas.{kept}
use Rattle.joint_laws.proofs.ShownLemmas.{no_row, row_found}
use Rattle.joint_laws.proofs.StandLemmas.{place_for}

-- ---- the node of the port that a GUID has
record PortAt (nodes : List Node) (guid first : ℕ) (end : PortRef) : Type 0 where
  k : ℕ
  node : Node
  number : ℕ
  there : slice_get nodes k ≡ Some node
  is : number_in guid node ≡ Some number
  end_is : end ≡ port (first + k) number

port_at : (nodes : List Node) (guid first : ℕ) (end : PortRef) → port_from guid first nodes ≡ Some end → PortAt nodes guid first end
port_at [] guid first end found = absurd (none-some end found)
port_at (node ∷ nodes) guid first end found = by (number_in guid node) refl found (port_at nodes guid (first + 1) end)
  where
    by : (o : Option ℕ) → number_in guid node ≡ o → option_or (option_map (port first) o) (port_from guid (first + 1) nodes) ≡ Some end
        → (port_from guid (first + 1) nodes ≡ Some end → PortAt nodes guid (first + 1) end) → PortAt (node ∷ nodes) guid first end
    by None is found later =
        let rest = later found in
        let moved : first + 1 + rest.k ≡ first + suc rest.k = omega arith in
        record {
          k = suc rest.k;
          node = rest.node;
          number = rest.number;
          there = rest.there;
          is = rest.is;
          end_is = rest.end_is ∙ ap (λ (n : ℕ). port n rest.number) moved;
        }
    by (Some number) is found later =
        let none_more : first ≡ first + 0 = omega arith in
        record {
          k = 0;
          node = node;
          number = number;
          there = refl;
          is = is;
          end_is = sym (same_Some (port first number) end found) ∙ ap (λ (n : ℕ). port n number) none_more;
        }

own_guid : (guid number : ℕ) (node : Node) → is_switch node ≡ true → number_in guid node ≡ Some number → node.guid ≡ guid
own_guid guid number node switch is = by (guid == node.guid) refl (rw switch at is)
  where
    by : (b : Bool) → (guid == node.guid) ≡ b → (if b then Some 0 else None) ≡ Some number → node.guid ≡ guid
    by true same found = sym (eqb-true guid node.guid same)
    by false same found = absurd (none-some number found)

is_switchs_true : (nodes : List Node) (guid : ℕ) (end : PortRef) → port_from guid 0 nodes ≡ Some end → is_switch_at nodes end.node ≡ true → is_switchs nodes guid ≡ true
is_switchs_true nodes guid end found switch =
    let at = port_at nodes guid 0 end found in
    let from_first : 0 + at.k ≡ at.k = omega arith in
    let node_is : end.node ≡ at.k = ap (λ (p : PortRef). p.node) at.end_is ∙ from_first in
    let of_switch : is_switch at.node ≡ true =
    sym (ap (λ (o : Option Node). option_map_or is_switch o false) at.there) ∙ ap (is_switch_at nodes) (sym node_is) ∙ switch in
    any_by (λ (node : Node). is_switch node && (node.guid == guid)) nodes at.k at.node at.there
    (and_from (is_switch at.node) _ of_switch (eq-eqb at.node.guid guid (own_guid guid at.number at.node of_switch at.is)))

of_switch : (guid : ℕ) (node : Node) → is_switch node ≡ true → node.guid ≡ guid → number_in guid node ≡ Some 0
of_switch guid node switch same = rw (switch, eq-eqb guid node.guid (sym same)) refl

module _ (plan : TopologyState) (sound : IsSound plan) where
  pub is_switchs_by : (guid : ℕ) (end : PortRef) → port_of (ends_of plan.nodes) guid ≡ Some end → is_switchs plan.nodes guid ≡ is_switch_at plan.nodes end.node
  is_switchs_by guid end found = by (is_switch_at plan.nodes end.node) refl (is_switchs plan.nodes guid) refl
    where
      by : (kind : Bool) → is_switch_at plan.nodes end.node ≡ kind → (b : Bool) → is_switchs plan.nodes guid ≡ b → is_switchs plan.nodes guid ≡ is_switch_at plan.nodes end.node
      by true switch b is = is_switchs_true plan.nodes guid end (sym (found_by_node plan.nodes guid) ∙ found) switch ∙ sym switch
      by false adapter false is = is ∙ sym adapter
      by false adapter true is =
          let one = any_at (λ (node : Node). is_switch node && (node.guid == guid)) plan.nodes is in
          let parts = and_parts (is_switch one.one) _ one.passes in
          let here = port_is plan.nodes 0 one.place guid 0 one.one sound.lines.own_guids one.there (of_switch guid one.one parts.0 (eqb-true one.one.guid guid parts.1)) in
          let same : port (0 + one.place) 0 ≡ end = same_Some (port (0 + one.place) 0) end (sym here ∙ (sym (found_by_node plan.nodes guid) ∙ found)) in
          let from_first : one.place ≡ 0 + one.place = omega arith in
          let node_is : one.place ≡ end.node = from_first ∙ ap (λ (p : PortRef). p.node) same in
          absurd (false≢true (sym adapter ∙ ap (is_switch_at plan.nodes) (sym node_is)
          ∙ ap (λ (o : Option Node). option_map_or is_switch o false) one.there ∙ parts.0))

  -- ---- so a row says it
  kind_said : (guid : ℕ) (end : PortRef) → port_of (ends_of plan.nodes) guid ≡ Some end → is_of_kind (is_switch_at plan.nodes end.node) (destination_of plan.nodes guid) ≡ true
  kind_said guid end found = by (is_switchs plan.nodes guid) refl
    where
      by : (b : Bool) → is_switchs plan.nodes guid ≡ b → is_of_kind (is_switch_at plan.nodes end.node) (destination_of plan.nodes guid) ≡ true
      by true is = let kind = sym (is_switchs_by guid end found) ∙ is in rw (is, kind) refl
      by false is = let kind = sym (is_switchs_by guid end found) ∙ is in rw (is, kind) refl

  module _ (keys : List (List ℕ)) (routes : RoutesState) (fabric : FabricState) (up : IsBroughtUpBy plan keys routes fabric) where
    abbrev net : NetState
    net = over plan (dump_of plan routes.lids fabric)

    -- the row of a LID, if there is one
    pub row_is : (place lid guid : ℕ) (held : SwitchState) → slice_get fabric.nodes place ≡ Some (Switch held) → guid_in routes.lids lid ≡ Some guid
        → row_at net lid place ≡ (if held_entry held lid == 255 then None else Some (row_for plan.nodes lid guid (held_entry held lid)))
    row_is place lid guid held there named =
        ap (option_and_then (λ (table : Table). row_of lid table.rows)) (table_there plan sound keys routes fabric up place held there)
        ∙ by (held_entry held lid == 255) refl
      where
        by : (b : Bool) → (held_entry held lid == 255) ≡ b
            → row_of lid (rows_from plan.nodes held 1 routes.lids) ≡ (if held_entry held lid == 255 then None else Some (row_for plan.nodes lid guid (held_entry held lid)))
        by true none = rw none (no_row plan.nodes routes.lids held routes.lids 1 lid (eqb-true (held_entry held lid) 255 none))
        by false some =
            let at = has_place routes.lids lid guid named in rw some (row_found plan.nodes routes.lids held routes.lids 1 (lid - 1) lid guid at.0 at.1 some)

    says_its_kind : (lid guid : ℕ) (end : PortRef) → guid_in routes.lids lid ≡ Some guid → port_of (ends_of plan.nodes) guid ≡ Some end → (place : ℕ)
        → is_switch_at plan.nodes place ≡ true → says_kind net lid (is_switch_at plan.nodes end.node) place ≡ true
    says_its_kind lid guid end named found place switch =
        let at = place_for plan sound routes.graph up.are.found.of place switch in
        let has = holds plan keys routes fabric up place at.0 switch at.1 in
        ap (λ (o : Option Row). option_map_or (λ (row : Row). is_of_kind (is_switch_at plan.nodes end.node) row.destination) o true)
        (row_is place lid guid has.held has.there named)
        ∙ by (held_entry has.held lid) (held_entry has.held lid == 255)
      where
        by : (entry : ℕ) (b : Bool)
            → option_map_or (λ (row : Row). is_of_kind (is_switch_at plan.nodes end.node) row.destination) (if b then None else Some (row_for plan.nodes lid guid entry)) true
            ≡ true
        by entry true = refl
        by entry false = kind_said guid end found

    pub all_say_kind : (lid guid : ℕ) (end : PortRef) → guid_in routes.lids lid ≡ Some guid → port_of (ends_of plan.nodes) guid ≡ Some end
        → list_all (says_kind net lid (is_switch_at plan.nodes end.node)) (switches plan.nodes) ≡ true
    all_say_kind lid guid end named found =
        list_all_weaker (is_switch_at plan.nodes) (says_kind net lid (is_switch_at plan.nodes end.node)) (says_its_kind lid guid end named found)
        (switches plan.nodes) (kept (is_switch_at plan.nodes) (range_with_len 0 (length plan.nodes)))

    -- the end port of a LID that some row reports
    pub with_end_set : (lid guid : ℕ) (end : PortRef) → end_of lid (rows_of net.dump.tables) ≡ Some guid → guid_in routes.lids lid ≡ Some guid
        → port_of (ends_of plan.nodes) guid ≡ Some end → end_port_of net lid ≡ Some end
    with_end_set lid guid end said named found =
        ap (λ (o : Option ℕ). end_by net lid (option_or o (reported_end net lid))) said ∙ ap (option_and_then (if_of_kind net lid)) found
        ∙ ap (λ (b : Bool). if b then Some end else None) (all_say_kind lid guid end named found)
