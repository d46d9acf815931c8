-- The fabrics that were worked out by hand.
use Rattle.std.proofs.Common.{◌≡◌, ℕ, true, ◌==◌, nat_lt, List, length, nat_eq}
use Rattle.std.specs.List.{list_all, list_any}
use Rattle.std.specs.Set.{distinct_count}
use Rattle.std.proofs.lemmas.Bool.{ltb-true}
use Rattle.std.proofs.lemmas.Cmp.{nat_eq_equiv}
use Rattle.std.proofs.lemmas.Map.Made.{IsDistinct-from_count}
use Rattle.updn_routes.specs.Cabling.{is_cabling}
use Rattle.updn_routes.specs.Examples.{Worked}
use Rattle.updn_routes.specs.Fabric.{IsFabric}
use Rattle.updn_routes.proofs.FabricLemmas.{is_joined_by, joined_by}

-- it is a fabric, by tests that compute; switches are joined by way of the first
pub is_fabric : (w : Worked) (there back : List (List ℕ)) → is_cabling w.rows ≡ true
    → is_joined_by w.rows there back ≡ true → nat_lt 0 (length w.rows) ≡ true
    → length w.guids ≡ length w.rows → distinct_count nat_eq w.guids ≡ length w.guids
    → list_all (λ root. list_any (λ guid. guid == root) w.guids) w.roots ≡ true → IsFabric w.rows w.guids w.roots
is_fabric w there back cabling joined some count own named =
    record {
      cabling = cabling;
      joined = joined_by w.rows there back joined;
      some = ltb-true 0 (length w.rows) some;
      count = count;
      own = IsDistinct-from_count nat_eq_equiv w.guids own;
      named = named;
    }
