use Rattle.std.proofs.Common.{refl, Some, None, [], ◌∷◌}
use Rattle.updn_routes.specs.Examples.{order_of, two_switches}
use Rattle.updn_routes.proofs.DistanceLemmas.{distances_tested}
use Rattle.updn_routes.proofs.ExampleLemmas.{is_fabric}
use Rattle.updn_routes.proofs.TestLemmas.{table_tested}
use Rattle.updn_routes.proofs.laws.the_two_switch_fabric_meets_the_laws.Goals as goal

pub returns : goal.returns
returns c =
    record {
      right = record {
        fabric = is_fabric two_switches ([] ∷ (0 ∷ []) ∷ []) ([] ∷ (1 ∷ []) ∷ []) refl refl refl refl refl refl;
        ranks = distances_tested two_switches.rows _ two_switches.ranks refl refl;
        depths = distances_tested two_switches.rows _ two_switches.depths refl refl;
      };
      to_A = table_tested two_switches.rows (order_of two_switches) 0 (Some 0 ∷ None ∷ []) (Some 0 ∷ Some 1 ∷ []) (None ∷ Some 3 ∷ []) refl refl;
      to_B = table_tested two_switches.rows (order_of two_switches) 1 (Some 1 ∷ Some 0 ∷ []) (Some 1 ∷ Some 0 ∷ []) (Some 3 ∷ None ∷ []) refl refl;
      B_to_A = refl;
      A_to_B = refl;
      tree_port_of_A = refl;
      tree_port_of_B = refl;
    }
