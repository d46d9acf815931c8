use Rattle.std.proofs.Common.{refl, Some, None, [], ◌∷◌}
use Rattle.updn_routes.specs.Examples.{order_of, seven_switches}
use Rattle.updn_routes.proofs.DistanceLemmas.{distances_tested}
use Rattle.updn_routes.proofs.ExampleLemmas.{is_fabric}
use Rattle.updn_routes.proofs.TestLemmas.{table_tested}
use Rattle.updn_routes.proofs.laws.the_seven_switch_fabric_meets_the_laws.Goals as goal

pub returns : goal.returns
returns c =
    record {
      right = record {
        fabric =
            is_fabric seven_switches ([] ∷ (0 ∷ []) ∷ (0 ∷ []) ∷ (0 ∷ []) ∷ (0 ∷ []) ∷ (0 ∷ []) ∷ (1 ∷ 0 ∷ []) ∷ []) ([] ∷ (1 ∷ []) ∷ (2 ∷ []) ∷ (3 ∷ []) ∷ (4 ∷ []) ∷ (5 ∷ []) ∷ (1 ∷ 6 ∷ []) ∷ []) refl refl refl refl refl refl;
        ranks = distances_tested seven_switches.rows _ seven_switches.ranks refl refl;
        depths = distances_tested seven_switches.rows _ seven_switches.depths refl refl;
      };
      to_D = table_tested seven_switches.rows (order_of seven_switches) 5
          (Some 1 ∷ Some 3 ∷ None ∷ Some 2 ∷ Some 1 ∷ Some 0 ∷ None ∷ [])
          (Some 1 ∷ Some 3 ∷ Some 2 ∷ Some 2 ∷ Some 1 ∷ Some 0 ∷ Some 3 ∷ [])
          (Some 5 ∷ Some 2 ∷ Some 1 ∷ Some 3 ∷ Some 3 ∷ None ∷ Some 2 ∷ []) refl refl;
      route_of_U1 = refl;
      U1_R_D = refl;
      X_U1_V_W_D = refl;
      X_U1_R_D = refl;
      X_U2_R_D = refl;
    }
