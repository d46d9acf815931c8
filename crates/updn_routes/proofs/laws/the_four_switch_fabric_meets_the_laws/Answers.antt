use Rattle.std.proofs.Common.{ℕ, ◌≡◌, true, refl, Option, Some, None, List, [], ◌∷◌, mod-lt, arith}
use Rattle.std.specs.List.{list_all, range_with_len}
use Rattle.updn_routes.specs.Choice.{IsRule}
use Rattle.updn_routes.specs.Examples.{FourAreTurned, IsRight, four_switches, order_of, ports, turned}
use Rattle.updn_routes.proofs.OrderLemmas.{ranks_order}
use Rattle.updn_routes.proofs.UniqueLemmas.{one_choice}
use Rattle.updn_routes.proofs.DistanceLemmas.{distances_tested}
use Rattle.updn_routes.proofs.ExampleLemmas.{is_fabric}
use Rattle.updn_routes.proofs.TableLemmas.{picked_by}
use Rattle.updn_routes.proofs.TestLemmas.{is_picked, rule_tested, table_tested}
use Rattle.updn_routes.proofs.laws.the_four_switch_fabric_meets_the_laws.Goals as goal

pub returns : goal.returns
unfolding picked_by
returns c =
    record {
      right = right;
      R1_L1_R2 = refl;
      R1_L1_R2_is_no_way_down = refl;
      to_R1 = table_tested four_switches.rows (order_of four_switches) 0
          (Some 0 ∷ None ∷ None ∷ None ∷ []) (Some 0 ∷ None ∷ Some 1 ∷ Some 1 ∷ []) (None ∷ None ∷ Some 1 ∷ Some 1 ∷ []) refl refl;
      to_R2 = table_tested four_switches.rows (order_of four_switches) 1
          (None ∷ Some 0 ∷ None ∷ None ∷ []) (None ∷ Some 0 ∷ Some 1 ∷ Some 1 ∷ []) (None ∷ None ∷ Some 2 ∷ Some 2 ∷ []) refl refl;
      L1_R1_L2 = refl;
      to_L1 = table_tested four_switches.rows (order_of four_switches) 2
          (Some 1 ∷ Some 1 ∷ Some 0 ∷ None ∷ []) (Some 1 ∷ Some 1 ∷ Some 0 ∷ Some 2 ∷ []) (Some 1 ∷ Some 1 ∷ None ∷ Some 1 ∷ []) refl refl;
      to_L2 = table_tested four_switches.rows (order_of four_switches) 3
          (Some 1 ∷ Some 1 ∷ None ∷ Some 0 ∷ []) (Some 1 ∷ Some 1 ∷ Some 2 ∷ Some 0 ∷ []) (Some 2 ∷ Some 2 ∷ Some 1 ∷ None ∷ []) refl refl;
      numbers = refl;
      first_to_L2 = turned_to_L2 0 (Some 2 ∷ Some 2 ∷ Some 1 ∷ None ∷ []) refl;
      second_to_L2 = turned_to_L2 1 (Some 2 ∷ Some 2 ∷ Some 2 ∷ None ∷ []) refl;
      third_to_L2 = turned_to_L2 2 (Some 2 ∷ Some 2 ∷ Some 1 ∷ None ∷ []) refl;
      second_is_not_as_the_first = λ chosen.
          not_one (one_choice four_switches.rows (order_of four_switches) 3 refl (ranks_order four_switches.ranks four_switches.guids right.fabric.own) (turned four_switches 1) (turned four_switches 1)
          (λ s ties low. refl) (ports (Some 2 ∷ Some 2 ∷ Some 1 ∷ None ∷ [])) (ports (Some 2 ∷ Some 2 ∷ Some 2 ∷ None ∷ [])) chosen
          (turned_to_L2 1 (Some 2 ∷ Some 2 ∷ Some 2 ∷ None ∷ []) refl) 2 (omega arith) (λ same. let no_room : ⊥ = omega (arith, same) in no_room));
      L1_to_R1 = refl;
      R1_to_L2 = refl;
      tree_port_of_R1 = refl;
      tree_port_of_R2 = refl;
      tree_port_of_L1 = refl;
      tree_port_of_L2 = refl;
    }
  where
    right : IsRight four_switches
    right =
        record {
          fabric = is_fabric four_switches ([] ∷ (2 ∷ 0 ∷ []) ∷ (0 ∷ []) ∷ (0 ∷ []) ∷ []) ([] ∷ (2 ∷ 1 ∷ []) ∷ (2 ∷ []) ∷ (3 ∷ []) ∷ []) refl refl refl refl refl refl;
          ranks = distances_tested four_switches.rows _ four_switches.ranks refl refl;
          depths = distances_tested four_switches.rows _ four_switches.depths refl refl;
        }

    -- by any number a tie is named
    named : (number : ℕ) → IsRule (turned four_switches number)
    named number s ties some = mod-lt _ some

    turned_to_L2 : (number : ℕ) (chosen : List (Option ℕ))
        → list_all (is_picked four_switches.rows (order_of four_switches) (turned four_switches number) 3
        (Some 1 ∷ Some 1 ∷ None ∷ Some 0 ∷ []) (Some 1 ∷ Some 1 ∷ Some 2 ∷ Some 0 ∷ []) chosen) (range_with_len 0 4) ≡ true
        → FourAreTurned number chosen 3
    turned_to_L2 number chosen tested =
        rule_tested four_switches.rows (order_of four_switches) 3
        (Some 1 ∷ Some 1 ∷ None ∷ Some 0 ∷ []) (Some 1 ∷ Some 1 ∷ Some 2 ∷ Some 0 ∷ []) (Some 2 ∷ Some 2 ∷ Some 1 ∷ None ∷ []) refl refl
        (turned four_switches number) chosen (named number) tested

    not_one : ◌≡◌ {A = Option ℕ} (Some 1) (Some 2) → ⊥
    not_one h = cc
