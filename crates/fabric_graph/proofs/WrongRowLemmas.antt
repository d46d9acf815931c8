-- What wrong rules for thick edges let pass, in a picture of two switches over two.
use Rattle.std.proofs.Common.{ℕ, zero, suc, ◌+◌, ◌≡◌, refl, sym, arith, lit<, false, true, inl, List, [], ◌∷◌, Option, Some}
use Rattle.std.specs.List.{list_any}
use Rattle.std.proofs.lemmas.Bool.{false≢true}
use Rattle.std.proofs.lemmas.List.Elements.{All-from_recursion}
use Rattle.std.proofs.lemmas.Option.{same_Some}
use Rattle.fabric_graph.specs.Ranks.{rank_at, row_of}
use Rattle.fabric_graph.specs.Rows.{Picture}
use Rattle.fabric_graph.specs.WrongRules.{CountedCablesAreNoEdges, CutCablesAreNotNumbered, CutCablesStayApart, LowerRowsAreJoinedToo, SomeCablesAreNotAll, TwoSwitchesAreARow}
use Rattle.fabric_parts.specs.Cable.{port}
use Rattle.fabric_parts.specs.declared.cable.Cable.{Cable}
use Rattle.fabric_parts.specs.declared.node_type.NodeType.TheVariants.{Switch}
use Rattle.smp_wire.specs.FabricState.{fabric_with}
use Rattle.step_results.proofs.DistinctLemmas.{distinct}
use Rattle.subnet_model.specs.Configuration.{ConfigurationState}
use Rattle.sweep.specs.Graph.{graph_with}
use Rattle.sweep.specs.declared.graph.GraphSwitch.{GraphSwitch}
use Rattle.topo_file.specs.Connectivity.{joins as joins_nodes}
use Rattle.topo_file.specs.Node.{HasGuids, shares_guid}
use Rattle.topo_file.specs.Sound.{AreSound, shares_name, shares_port}
use Rattle.topo_file.specs.Topology.{TopologyState}
use Rattle.topo_file.specs.declared.node.Node.{Node}
use Rattle.updn_routes.specs.Routes.{routes_with}
use Rattle.updn_routes.specs.declared.tie_rule.TieRule.TheVariants.{LeastPort}
use Rattle.updn_routes.specs.Subnet.{RoutesState}

abbrev cable : (upper upper_port lower lower_port : ℕ) → Cable
cable upper upper_port lower lower_port = record { first = port upper upper_port; second = port lower lower_port }

-- switches 0 and 1 are roots, and each is cabled to 2 and 3
abbrev all_four : List Cable
all_four = cable 0 1 2 1 ∷ cable 0 2 3 1 ∷ cable 1 1 2 2 ∷ cable 1 2 3 2 ∷ []

abbrev picture : (cables whole : List Cable) → Picture
picture cables whole =
    record { crowded = true; cables = cables; looks = []; ranks = Some 0 ∷ Some 0 ∷ Some 1 ∷ Some 1 ∷ []; fabric = fabric_with [] whole (port 0 1) }

-- all are cut
pub cut_cables_stay_apart : CutCablesStayApart
unfolding row_of
cut_cables_stay_apart law =
    let uncut : true ≡ false = law.whole (picture all_four []) 0 0 (cable 0 1 2 1) refl refl in
    false≢true (sym uncut)

pub cut_cables_are_not_numbered : CutCablesAreNotNumbered
unfolding row_of
cut_cables_are_not_numbered law =
    let same : ◌≡◌ {A = ℕ} 4 0 = law (picture all_four []) 1 0 (lit< tt) in
    omega (arith, same)

-- there is one alone
pub some_cables_are_not_all : SomeCablesAreNotAll
unfolding row_of
some_cables_are_not_all law =
    let cabled : false ≡ true = law.all_to_all (picture (cable 0 1 2 1 ∷ []) (cable 0 1 2 1 ∷ [])) 0 0 refl 1 3 refl refl in
    false≢true cabled

-- ---- none is cut: two of one rank over two of the next
abbrev two_over_two : (rank : ℕ) → List (Option ℕ)
two_over_two rank = Some rank ∷ Some rank ∷ Some (rank + 1) ∷ Some (rank + 1) ∷ []

upper_only : (rank : ℕ) → ◌≡◌ {A = Option ℕ} (Some rank) (Some (rank + 1)) → ⊥
upper_only rank e = let same = same_Some rank (rank + 1) e in omega (arith, same)

lower_only : (rank : ℕ) → ◌≡◌ {A = Option ℕ} (Some (rank + 1)) (Some rank) → ⊥
lower_only rank e = let same = same_Some (rank + 1) rank e in omega (arith, same)

joined : (rank upper lower : ℕ) → rank_at (two_over_two rank) upper ≡ Some rank → rank_at (two_over_two rank) lower ≡ Some (rank + 1)
    → list_any (joins_nodes upper lower) all_four ≡ true
joined rank zero zero at_upper at_lower = absurd (upper_only rank at_lower)
joined rank zero (suc zero) at_upper at_lower = absurd (upper_only rank at_lower)
joined rank zero (suc (suc zero)) at_upper at_lower = refl
joined rank zero (suc (suc (suc zero))) at_upper at_lower = refl
joined rank zero (suc (suc (suc (suc n)))) at_upper at_lower = absurd (cc)
joined rank (suc zero) zero at_upper at_lower = absurd (upper_only rank at_lower)
joined rank (suc zero) (suc zero) at_upper at_lower = absurd (upper_only rank at_lower)
joined rank (suc zero) (suc (suc zero)) at_upper at_lower = refl
joined rank (suc zero) (suc (suc (suc zero))) at_upper at_lower = refl
joined rank (suc zero) (suc (suc (suc (suc n)))) at_upper at_lower = absurd (cc)
joined rank (suc (suc zero)) lower at_upper at_lower = absurd (lower_only rank at_upper)
joined rank (suc (suc (suc zero))) lower at_upper at_lower = absurd (lower_only rank at_upper)
joined rank (suc (suc (suc (suc n)))) lower at_upper at_lower = absurd (cc)

pub two_switches_are_a_row : TwoSwitchesAreARow
unfolding row_of
two_switches_are_a_row law =
    let counted : false ≡ true = law (picture all_four all_four) 0 0 (cable 0 1 2 1) refl refl (inl (refl, refl)) refl refl (omega arith) (omega arith) (joined 0) in
    false≢true counted

-- the same one rank further down
pub lower_rows_are_joined_too : LowerRowsAreJoinedToo
unfolding row_of
lower_rows_are_joined_too law =
    let counted : false ≡ true =
    law (record (picture all_four all_four) { ranks = two_over_two 1 }) 1 0 (cable 0 1 2 1) refl refl (inl (refl, refl)) refl refl
    (omega arith) (omega arith) (joined 1) in
    false≢true counted

-- ---- a topology of them
abbrev switch : (letter guid : ℕ) → Node
switch letter guid = record { name = letter ∷ []; node_type = Switch; guid = guid; ports = 2 }

abbrev four : List Node
four = switch 97 1 ∷ switch 98 2 ∷ switch 99 3 ∷ switch 100 4 ∷ []

abbrev plan : TopologyState
plan = record { nodes = four; cables = all_four; roots = 0 ∷ 1 ∷ []; sm = port 0 1 }

sound : AreSound four all_four
sound = record {
  names = refl;
  own_names = distinct shares_name four refl;
  guids = All-from_recursion HasGuids four (lit< tt, (lit< tt, (lit< tt, (lit< tt, tt))));
  own_guids = distinct shares_guid four refl;
  sizes = refl;
  limits = (omega arith, omega arith);
  ends = refl;
  joins = refl;
  own_ports = distinct shares_port all_four refl;
}

abbrev found : (guid : ℕ) → GraphSwitch
found guid = record { guid = guid; num_ports = 2; name = []; path = [] }

abbrev routes : RoutesState
routes = record {
  graph = graph_with 0 (found 1 ∷ found 2 ∷ found 3 ∷ found 4 ∷ []) [] [];
  lids = [];
  between = routes_with [] [] (0 ∷ 0 ∷ 1 ∷ 1 ∷ []) [] [] [] [] LeastPort [];
}

abbrev subnet : ConfigurationState
subnet = record { ports = []; partitions = [] }

pub counted_cables_are_no_edges : CountedCablesAreNoEdges
unfolding row_of
counted_cables_are_no_edges law =
    let once : ◌≡◌ {A = ℕ} 2 1 = law plan subnet routes (fabric_with [] all_four (port 0 1)) [] true 0 (cable 0 1 2 1) sound refl in
    omega (arith, once)
