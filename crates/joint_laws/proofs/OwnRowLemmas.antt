-- A dump with the rows of the fabric's own reports all that its switches hold.
use Rattle.std.proofs.Common.{ℕ, zero, suc, ◌≡◌, ◌≢◌, ◌+◌, ◌-◌, ◌==◌, ◌&&◌, ◌||◌, ◌∙◌, inl, inr, ap, refl, sym, Bool, true, false, if◌then◌else◌, List, [], ◌∷◌, ◌++◌, filter, find, flat_map, length, slice_get, is_some, unwrap_or, Option, Some, None, option_map, arith}
use Rattle.std.specs.List.{list_all, list_any, range_with_len}
use Rattle.std.specs.Option.{option_and_then, option_map_or, option_or}
use Rattle.std.proofs.lemmas.Bool.{and_from, eq-eqb, false≢true, ne_eqb, or_left, or_right}
use Rattle.std.proofs.lemmas.List.{append_assoc}
use Rattle.std.proofs.lemmas.List.Folds.{list_any-append}
use Rattle.std.proofs.lemmas.Option.{none-some, same_Some}
use Rattle.dump_file.specs.Destination.{guid_said}
use Rattle.dump_file.specs.Dump.{DumpState}
use Rattle.dump_file.specs.Row.{end_of, said_of}
use Rattle.dump_file.specs.Table.{rows_of}
use Rattle.dump_file.specs.declared.row.Row.{Row}
use Rattle.dump_file.specs.declared.table.Table.{Table}
use Rattle.fabric_parts.specs.Cable.{ends_at, other_end}
use Rattle.fabric_parts.specs.declared.cable.Cable.{Cable}
use Rattle.fabric_parts.specs.declared.cable.PortRef.{PortRef}
use Rattle.fabric_wire.proofs.OfTopologyLemmas.{node_at}
use Rattle.fabric_wire.specs.OfTopology.{fabric_of, node_of}
use Rattle.lid_assign.specs.Lids.{guid_in}
use Rattle.audit_net.specs.OwnerLaws.{end_port_of}
use Rattle.audit_net.specs.Lids.{end_by, if_of_kind, is_of_kind, reported_end, says_kind}
use Rattle.audit_net.specs.Net.{row_at, row_of, table_at, table_of}
use Rattle.audit_plan.specs.Plan.{PlanState, ends_of, plan_of, port_of}
use Rattle.smp_wire.specs.FabricState.{FabricState}
use Rattle.smp_wire.specs.declared.node.Node.{Node}
use Rattle.smp_wire.specs.declared.node.Node.TheVariants.{Switch, Adapter}
use Rattle.subnet_fabric.specs.BringUp.{IsBroughtUpBy}
use Rattle.switch_model.specs.SwitchState.{SwitchState}
use Rattle.table_push.proofs.AttachedLemmas.{found_is}
use Rattle.table_push.proofs.SetUpLemmas.{node_after, with_all}
use Rattle.topo_file.specs.Connectivity.{switches}
use Rattle.topo_file.specs.Node.{is_switch_at}
use Rattle.topo_file.specs.Sound.{IsSound}
use Rattle.topo_file.specs.Topology.{TopologyState}
use Rattle.topo_file.specs.declared.node.Node.{Node as PlannedNode}
use Rattle.updn_routes.specs.Routes.{hop_to, next_hop, tie_towards}
use Rattle.updn_routes.specs.Subnet.{RoutesState}
use Rattle.audit_loads.specs.Text.{load_of_plan}
use Rattle.fabric_loads.proofs.RowLemmas.{said_is}
use Rattle.fabric_loads.specs.HeldRows.{held_entry, row_for, rows_from, table_by}
use Rattle.fabric_loads.specs.OwnDump.{own_dump, own_table, own_table_at}
use Rattle.fabric_loads.specs.OwnLoads.{is_up, over_cables_up}
use Rattle.joint_laws.proofs.DumpLemmas.{a_dump_shows_what_is_held, has_place, planned_there, table_there}
use Rattle.joint_laws.proofs.EndLemmas.{Attached, Ends, has_end, is_attached_at, planned}
use Rattle.joint_laws.proofs.GuidLemmas.{port_of_end}
use Rattle.joint_laws.proofs.HeldTableLemmas.{Holds, holds}
use Rattle.joint_laws.proofs.KindLemmas.{all_say_kind}
use Rattle.joint_laws.proofs.ShownLemmas.{row_found, table_is}
use Rattle.joint_laws.proofs.StandLemmas.{few, is_switch_there, place_for}
use Rattle.joint_laws.specs.RouteLaws.{over}
use Rattle.joint_laws.specs.OwnTables.{dump_of, tables_for}
use Rattle.joint_laws.specs.Shown.{Shows}
use Rattle.joint_laws.specs.Held.{HasOwnRows, ShowsAll}
use Rattle.joint_laws.specs.LoadLaws.{LoadsAreOfWhatIsHeld, OwnRowsShowAll}
use Rattle.joint_laws.proofs.HeldPairLemmas.{one_text}

-- ---- a row that stands somewhere says whose its LID is
end_said : (rows : List Row) (k lid guid : ℕ) (row : Row) → slice_get rows k ≡ Some row → row.lid ≡ lid → guid_said row.destination ≡ Some guid
    → (other : ℕ) × (end_of lid rows ≡ Some other)
end_said [] k lid guid row there is said = absurd (none-some row there)
end_said (first ∷ rows) zero lid guid row there is said =
    let same = same_Some first row there in
    let here : said_of lid first ≡ Some guid =
    ap (said_of lid) same ∙ ap (λ (b : Bool). if b then guid_said row.destination else None) (eq-eqb row.lid lid is) ∙ said in
    (guid, ap (λ (o : Option ℕ). option_or o (end_of lid rows)) here)
end_said (first ∷ rows) (suc k) lid guid row there is said = by (said_of lid first) (end_said rows k lid guid row there is said)
  where
    by : (o : Option ℕ) → (other : ℕ) × (end_of lid rows ≡ Some other) → (other : ℕ) × (option_or o (end_of lid rows) ≡ Some other)
    by (Some one) later = (one, refl)
    by None later = later

-- ---- a row of a table is one of all rows
row_among : (tables : List Table) (t k : ℕ) (table : Table) (row : Row) → slice_get tables t ≡ Some table → slice_get table.rows k ≡ Some row
    → (place : ℕ) × (slice_get (rows_of tables) place ≡ Some row)
row_among [] t k table row there stands = absurd (none-some table there)
row_among (first ∷ tables) zero k table row there stands =
    (k, left first.rows (rows_of tables) k (ap (λ (one : Table). slice_get one.rows k) (same_Some first table there) ∙ stands))
  where
    left : (xs ys : List Row) (k : ℕ) → slice_get xs k ≡ Some row → slice_get (xs ++ ys) k ≡ Some row
    left [] ys k is = absurd (none-some row is)
    left (x ∷ xs) ys zero is = is
    left (x ∷ xs) ys (suc k) is = left xs ys k is
row_among (first ∷ tables) (suc t) k table row there stands =
    let later = row_among tables t k table row there stands in (length first.rows + later.0, right first.rows (rows_of tables) later.0 later.1)
  where
    right : (xs ys : List Row) (k : ℕ) → slice_get ys k ≡ Some row → slice_get (xs ++ ys) (length xs + k) ≡ Some row
    right [] ys k is = let none : 0 + k ≡ k = omega arith in ap (slice_get ys) none ∙ is
    right (x ∷ xs) ys k is = let next : suc (length xs) + k ≡ suc (length xs + k) = omega arith in ap (slice_get (x ∷ xs ++ ys)) next ∙ right xs ys k is

-- ---- the table of a node is one of the dump's
table_among : (plan : TopologyState) (dump : DumpState) (place : ℕ) (table : Table) → table_at (over plan dump) place ≡ Some table
    → (t : ℕ) × (slice_get dump.tables t ≡ Some table)
table_among plan dump place table is = by (slice_get plan.nodes place) is
  where
    by : (o : Option PlannedNode) → option_and_then (λ (node : PlannedNode). table_of node.guid dump.tables) o ≡ Some table
        → (t : ℕ) × (slice_get dump.tables t ≡ Some table)
    by None found = absurd (none-some table found)
    by (Some node) found =
        let at = found_is (λ (one : Table). node.guid == one.guid) dump.tables table (sym (table_is node.guid dump.tables) ∙ found) in (at.0, at.1)

-- ---- tests that agree on what was kept
all_alike_kept : (keep p q : ℕ → Bool) → ((n : ℕ) → keep n ≡ true → p n ≡ q n) → (xs : List ℕ) → list_all p (filter keep xs) ≡ list_all q (filter keep xs)
all_alike_kept keep p q same [] = refl
all_alike_kept keep p q same (x ∷ xs) = by (keep x) refl (all_alike_kept keep p q same xs)
  where
    by : (b : Bool) → keep x ≡ b → list_all p (filter keep xs) ≡ list_all q (filter keep xs)
        → list_all p (if b then x ∷ filter keep xs else filter keep xs) ≡ list_all q (if b then x ∷ filter keep xs else filter keep xs)
    by true is rest = ap (λ (b : Bool). b && list_all p (filter keep xs)) (same x is) ∙ ap (λ (b : Bool). q x && b) rest
    by false is rest = rest

-- ---- all cables are up
found_some : (p : Cable → Bool) (cables : List Cable) → is_some (find p cables) ≡ list_any p cables
found_some p [] = refl
found_some p (cable ∷ cables) = by (p cable) (found_some p cables)
  where
    by : (b : Bool) → is_some (find p cables) ≡ list_any p cables → is_some (if b then Some cable else find p cables) ≡ (b || list_any p cables)
    by true rest = refl
    by false rest = rest

pub kept_up : (fabric : FabricState) (before cables : List Cable) → fabric.cables ≡ before ++ cables → filter (is_up fabric) cables ≡ cables
kept_up fabric before [] is = refl
kept_up fabric before (cable ∷ cables) is =
    ap (λ (b : Bool). if b then cable ∷ filter (is_up fabric) cables else filter (is_up fabric) cables) up_here
    ∙ ap (λ (rest : List Cable). cable ∷ rest) (kept_up fabric (before ++ cable ∷ []) cables (is ∙ sym (append_assoc before (cable ∷ []) cables)))
  where
    test : Cable → Bool
    test one = ends_at cable.first one

    own_end : test cable ≡ true
    own_end =
        or_left _ _ (and_from (cable.first.node == cable.first.node) _ (eq-eqb cable.first.node cable.first.node refl)
        (eq-eqb cable.first.port cable.first.port refl))

    mapped : (o : Option Cable) → is_some (option_map (other_end cable.first) o) ≡ is_some o
    mapped None = refl
    mapped (Some one) = refl

    up_here : is_up fabric cable ≡ true
    up_here =
        mapped (find (λ one. ends_at cable.first one) fabric.cables) ∙ found_some test fabric.cables ∙ ap (list_any test) is
        ∙ list_any-append test before (cable ∷ cables) ∙ or_right (list_any test before) _ (or_left (test cable) _ own_end)

module _ (plan : TopologyState) (sound : IsSound plan) (keys : List (List ℕ)) (routes : RoutesState) (fabric : FabricState)
    (up : IsBroughtUpBy plan keys routes fabric) where
  abbrev own : DumpState
  own = dump_of plan routes.lids fabric

  -- what the switch there holds
  abbrev Held : ℕ → ℕ → Type 0
  Held place at = Holds plan keys routes fabric up place at

  pub held_there : (place : ℕ) (switch : is_switch_at plan.nodes place ≡ true) → Held place (place_for plan sound routes.graph up.are.found.of place switch).0
  held_there place switch =
      let at = place_for plan sound routes.graph up.are.found.of place switch in holds plan keys routes fabric up place at.0 switch at.1

  module _ (dump : DumpState) (has : HasOwnRows plan routes.lids fabric dump) where
    -- ---- each row is that of the fabric's own dump
    one_row : (place lid : ℕ) (held : SwitchState) → slice_get fabric.nodes place ≡ Some (Switch held)
        → row_at (over plan dump) lid place ≡ row_at (over plan own) lid place
    one_row place lid held there =
        let rows = has.tables place held there in
        ap (option_and_then (λ (table : Table). row_of lid table.rows)) rows.there ∙ ap (row_of lid) rows.rows
        ∙ sym (ap (option_and_then (λ (table : Table). row_of lid table.rows)) (table_there plan sound keys routes fabric up place held there))

    shown : Shows (over plan dump) routes.lids fabric
    shown = record {
      rows = λ place lid held there some.
          let rows = has.tables place held there in
          let own_row = (a_dump_shows_what_is_held plan keys routes fabric sound up).rows place lid held there some in
          let found : row_of lid rows.table.rows ≡ Some own_row.row =
          sym (ap (option_and_then (λ (table : Table). row_of lid table.rows)) rows.there) ∙ one_row place lid held there
          ∙ ap (option_and_then (λ (table : Table). row_of lid table.rows)) own_row.there ∙ own_row.found in
          record { table = rows.table; row = own_row.row; there = rows.there; found = found; is = own_row.is };
      none = λ place lid entry held there gone row.
          let own_table = table_there plan sound keys routes fabric up place held there in
          let found : row_of lid (rows_from plan.nodes held 1 routes.lids) ≡ Some row.row =
          sym (ap (option_and_then (λ (table : Table). row_of lid table.rows)) own_table) ∙ sym (one_row place lid held there)
          ∙ ap (option_and_then (λ (table : Table). row_of lid table.rows)) row.there ∙ row.found in
          (a_dump_shows_what_is_held plan keys routes fabric sound up).none place lid entry held there gone
          (record { table = table_by plan.nodes routes.lids held.node_guid held; row = row.row; there = own_table; found = found; is = row.is });
      ends = has.ends;
    }

    -- ---- whose a LID is
    kinds : (lid guid : ℕ) (end : PortRef) → guid_in routes.lids lid ≡ Some guid → port_of (ends_of plan.nodes) guid ≡ Some end
        → list_all (says_kind (over plan dump) lid (is_switch_at plan.nodes end.node)) (switches plan.nodes) ≡ true
    kinds lid guid end named found =
        all_alike_kept (is_switch_at plan.nodes) (says_kind (over plan dump) lid (is_switch_at plan.nodes end.node))
        (says_kind (over plan own) lid (is_switch_at plan.nodes end.node))
        (λ place switch.
        let held = held_there place switch in
        ap (λ (o : Option Row). option_map_or (λ row. is_of_kind (is_switch_at plan.nodes end.node) row.destination) o true)
        (one_row place lid held.held held.there))
        (range_with_len 0 (length plan.nodes))
        ∙ all_say_kind plan sound keys routes fabric up lid guid end named found

    -- the switch that the port is attached at has an entry for its LID
    out_low : (lid : ℕ) (end : PortRef) → (at : Attached plan sound keys routes fabric up lid end) → at.number ≢ 255
    out_low lid end at none = by at.ends
      where
        by : Ends plan sound keys routes fabric up at.node at.number end → ⊥
        by (inl own_port) = omega (arith, own_port.0, none)
        by (inr out) = omega (arith, none, (few plan sound routes.graph up.are.found.of at.node at.number end out.1).1)

    said_rightly : (lid guid other : ℕ) → end_of lid (rows_of dump.tables) ≡ Some other → guid_in routes.lids lid ≡ Some guid
        → end_of lid (rows_of dump.tables) ≡ Some guid
    said_rightly lid guid other is named = is ∙ sym (has.ends lid other is) ∙ named

    said : (lid guid : ℕ) (end : PortRef) → guid_in routes.lids lid ≡ Some guid → Attached plan sound keys routes fabric up lid end
        → end_of lid (rows_of dump.tables) ≡ Some guid
    said lid guid end named at =
        let switch = is_switch_there plan sound routes.graph up.are.found.of at.node at.place at.stands in
        let holding = holds plan keys routes fabric up at.node at.place switch at.stands in
        let hop : next_hop routes.between at.place lid ≡ Some at.number =
        ap (hop_to routes.between lid at.place) at.home
        ∙ ap (λ (b : Bool). if b then Some at.number else tie_towards routes.between lid at.place at.place) (eq-eqb at.place at.place refl) in
        let entry_is : held_entry holding.held lid ≡ at.number = holding.entry_is lid ∙ ap (λ (o : Option ℕ). unwrap_or o 255) hop in
        let some : held_entry holding.held lid ≢ 255 = (λ none. out_low lid end at (sym entry_is ∙ none)) in
        let from_1 = has_place routes.lids lid guid named in
        let row = row_for plan.nodes lid guid (held_entry holding.held lid) in
        let rows = has.tables at.node holding.held holding.there in
        let found : find (λ (one : Row). one.lid == lid) rows.table.rows ≡ Some row =
        ap (find (λ (one : Row). one.lid == lid)) rows.rows
        ∙ row_found plan.nodes routes.lids holding.held routes.lids 1 (lid - 1) lid guid from_1.0 from_1.1 (ne_eqb (held_entry holding.held lid) 255 some) in
        let stands = found_is (λ (one : Row). one.lid == lid) rows.table.rows row found in
        let table = table_among plan dump at.node rows.table rows.there in
        let among = row_among dump.tables table.0 stands.0 rows.table row table.1 stands.1 in
        let other = end_said (rows_of dump.tables) among.0 lid guid row among.1 refl (said_is plan.nodes routes.lids guid) in
        said_rightly lid guid other.0 other.1 named

    pub shows_all : ShowsAll (over plan dump) routes.lids fabric
    shows_all = record { entries = shown; ends = named_ends }
      where
        named_ends : (lid guid : ℕ) → guid_in routes.lids lid ≡ Some guid → end_port_of (over plan dump) lid ≡ port_of (ends_of plan.nodes) guid
        named_ends lid guid named =
            let has_port = has_end plan sound keys routes fabric up lid guid named in
            let of = planned plan has_port.at has_port.end has_port.is in
            let end = has_port.at in
            let found : port_of (ends_of plan.nodes) guid ≡ Some end =
            ap (port_of (ends_of plan.nodes)) (sym (of.guid_is ∙ has_port.guid_is)) ∙ port_of_end plan sound end of.ends in
            ap (λ (o : Option ℕ). end_by (over plan dump) lid (option_or o (reported_end (over plan dump) lid)))
            (said lid guid end named (is_attached_at plan sound keys routes fabric up lid guid end named found))
            ∙ ap (option_and_then (if_of_kind (over plan dump) lid)) found
            ∙ ap (λ (b : Bool). if b then Some end else None) (kinds lid guid end named found) ∙ sym found

  -- ---- the fabric's own dump
  pub own_rows : HasOwnRows plan routes.lids fabric own
  own_rows = record {
    tables = λ place held there.
        record { table = table_by plan.nodes routes.lids held.node_guid held; there = table_there plan sound keys routes fabric up place held there; rows = refl; top = refl };
    ends = (a_dump_shows_what_is_held plan keys routes fabric sound up).ends;
  }

  -- which stands in the order of nodes
  same_tables : (first : ℕ) (some : List PlannedNode) (nodes : List Node)
      → ((j : ℕ) → slice_get plan.nodes (first + j) ≡ slice_get some j) → ((j : ℕ) → slice_get fabric.nodes (first + j) ≡ slice_get nodes j)
      → ((j : ℕ) → is_some (slice_get some j) ≡ is_some (slice_get nodes j))
      → flat_map (own_table_at plan.nodes routes.lids fabric.nodes) (range_with_len first (length some)) ≡ flat_map (tables_for plan.nodes routes.lids) nodes
  same_tables first [] [] planned_on held_on shape = refl
  same_tables first [] (node ∷ nodes) planned_on held_on shape = absurd (false≢true (shape 0))
  same_tables first (node ∷ some) [] planned_on held_on shape = absurd (false≢true (sym (shape 0)))
  same_tables first (node ∷ some) (held ∷ nodes) planned_on held_on shape =
      let none_more : first ≡ first + 0 = omega arith in
      let here : slice_get plan.nodes first ≡ Some node = ap (slice_get plan.nodes) none_more ∙ planned_on 0 in
      let there : slice_get fabric.nodes first ≡ Some held = ap (slice_get fabric.nodes) none_more ∙ held_on 0 in
      let rest = same_tables (first + 1) some nodes (λ j. ap (slice_get plan.nodes) (moved j) ∙ planned_on (suc j))
      (λ j. ap (slice_get fabric.nodes) (moved j) ∙ held_on (suc j)) (λ j. shape (suc j)) in
      ap (λ (o : Option PlannedNode).
      option_map_or (λ one. option_map_or (own_table plan.nodes routes.lids one.guid) (slice_get fabric.nodes first) []) o []
      ++ flat_map (own_table_at plan.nodes routes.lids fabric.nodes) (range_with_len (first + 1) (length some))) here
      ∙ ap (λ (o : Option Node).
      option_map_or (own_table plan.nodes routes.lids node.guid) o [] ++ flat_map (own_table_at plan.nodes routes.lids fabric.nodes)
      (range_with_len (first + 1) (length some))) there
      ∙ ap (λ (tables : List Table). own_table plan.nodes routes.lids node.guid held ++ tables) rest
      ∙ ap (λ (tables : List Table). tables ++ flat_map (tables_for plan.nodes routes.lids) nodes) (by held there here)
    where
      moved : (j : ℕ) → first + 1 + j ≡ first + suc j
      moved j = omega arith

      by : (one : Node) → slice_get fabric.nodes first ≡ Some one → slice_get plan.nodes first ≡ Some node
          → own_table plan.nodes routes.lids node.guid one ≡ tables_for plan.nodes routes.lids one
      by (Adapter ports) there here = refl
      by (Switch one) there here =
          let planned_one = planned_there plan sound keys routes fabric up first one there in
          let guid : node.guid ≡ one.node_guid =
          ap (λ (n : PlannedNode). n.guid) (same_Some node planned_one.node (sym here ∙ planned_one.there)) ∙ planned_one.guid_is in
          ap (λ (g : ℕ). table_by plan.nodes routes.lids g one ∷ []) guid

  pub own_is : own_dump plan routes.lids fabric ≡ own
  own_is =
      ap (λ (tables : List Table). record { tables = tables })
      (same_tables 0 plan.nodes fabric.nodes (λ j. let from_0 : 0 + j ≡ j = omega arith in ap (slice_get plan.nodes) from_0)
      (λ j. let from_0 : 0 + j ≡ j = omega arith in ap (slice_get fabric.nodes) from_0) shape)
    where
      some_mapped : {X Y Z : Type 0} (f : Y → Z) (g : X → Y) (o : Option X) → is_some o ≡ is_some (option_map f (option_map g o))
      some_mapped f g None = refl
      some_mapped f g (Some x) = refl

      shape : (j : ℕ) → is_some (slice_get plan.nodes j) ≡ is_some (slice_get fabric.nodes j)
      shape j =
          some_mapped (with_all routes keys) (node_of plan.cables j) (slice_get plan.nodes j)
          ∙ ap (λ (o : Option Node). is_some o)
          (ap (option_map (with_all routes keys)) (sym (node_at plan.cables plan.nodes j)) ∙ sym (node_after routes keys (fabric_of plan) j)
          ∙ ap (λ (one : FabricState). slice_get one.nodes j) (sym up.is))

  plan_is : plan_of (over_cables_up fabric plan) ≡ plan_of plan
  plan_is =
      ap (λ (cables : List Cable). plan_of (record plan { cables = cables })) (kept_up fabric [] plan.cables (ap (λ (one : FabricState). one.cables) up.is))

  pub held_text : (dump : DumpState) (talk : PortRef → PortRef → Bool) → ShowsAll (over plan dump) routes.lids fabric
      → load_of_plan (plan_of plan) dump talk ≡ load_of_plan (plan_of (over_cables_up fabric plan)) (own_dump plan routes.lids fabric) talk
  held_text dump talk shows =
      one_text plan sound keys routes fabric up dump own shows (shows_all own own_rows) talk
      ∙ ap (λ (some : DumpState). load_of_plan (plan_of plan) some talk) (sym own_is)
      ∙ ap (λ (some : PlanState). load_of_plan some (own_dump plan routes.lids fabric) talk) (sym plan_is)

pub loads_are_of_what_is_held : LoadsAreOfWhatIsHeld
loads_are_of_what_is_held plan keys routes fabric dump talk sound up shows = held_text plan sound keys routes fabric up dump talk shows

pub own_rows_show_all : OwnRowsShowAll
own_rows_show_all plan keys routes fabric dump sound up has = shows_all plan sound keys routes fabric up dump has
