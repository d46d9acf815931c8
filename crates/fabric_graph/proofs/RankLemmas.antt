-- Each rank is less than the number of switches, so there is a row for it.
use Rattle.std.proofs.Common.{ℕ, ◌<◌, ◌≡◌, ◌==◌, ap, refl, subst, arith, Bool, true, false, if◌then◌else◌, List, [], ◌∷◌, length, get_or, Option, Some, None, option_map}
use Rattle.std.specs.List.{Contains, range_with_len}
use Rattle.std.proofs.lemmas.List.{length-map}
use Rattle.std.proofs.lemmas.List.Elements.{Contains-get_or}
use Rattle.std.proofs.lemmas.List.FromFn.{get_or-range_with_len, length-range_with_len}
use Rattle.std.proofs.lemmas.List.Quantifiers.{position-Some}
use Rattle.std.proofs.lemmas.Option.{same_Some}
use Rattle.fabric_graph.specs.Laws.{EachRankHasARow}
use Rattle.sweep.specs.declared.graph.GraphSwitch.{GraphSwitch}
use Rattle.topo_file.specs.Node.{is_switch}
use Rattle.updn_routes.proofs.RoundLemmas.{distance_below}
use Rattle.updn_routes.specs.Order.{is_root}
use Rattle.updn_routes.specs.Subnet.{place_of}

in_range : (n k : ℕ) → k < n → Contains (range_with_len 0 n) k
in_range n k low =
    let long = length-range_with_len 0 n in
    let there = Contains-get_or (range_with_len 0 n) k 0 (omega (arith, long, low)) in
    let at_k = get_or-range_with_len 0 n k 0 low in
    let is : get_or (range_with_len 0 n) k 0 ≡ k = omega (arith, at_k) in
    subst (λ (one : ℕ). Contains (range_with_len 0 n) one) is there

place_low : (switches : List GraphSwitch) (guid place : ℕ) → place_of switches guid ≡ Some place → place < length switches
place_low [] guid place is = absurd (cc)
place_low (first ∷ others) guid place is = (position-Some (λ switch. switch.guid == guid) (first ∷ others) place first is).0

by_place : (count : ℕ) (ranks : List ℕ) (place : Option ℕ) (rank : ℕ) → ((s : ℕ) → place ≡ Some s → get_or ranks s 0 < count)
    → option_map (λ s. get_or ranks s 0) place ≡ Some rank → rank < count
by_place count ranks None rank low has = absurd (cc)
by_place count ranks (Some s) rank low has = subst (λ (r : ℕ). r < count) (same_Some (get_or ranks s 0) rank has) (low s refl)

by_kind : (switch : Bool) (count : ℕ) (own : Option ℕ) (rank : ℕ) → (own ≡ Some rank → rank < count)
    → (if switch then own else None) ≡ Some rank → rank < count
by_kind true count own rank low has = low has
by_kind false count own rank low has = absurd (cc)

-- ---- the law
pub each_rank_has_a_row : EachRankHasARow
each_rank_has_a_row routes roots node rank are right ranks has =
    in_range (length routes.graph.switches) rank
    (by_kind (is_switch node) (length routes.graph.switches) (option_map (λ s. get_or routes.between.ranks s 0) (place_of routes.graph.switches node.guid)) rank
    (by_place (length routes.graph.switches) routes.between.ranks (place_of routes.graph.switches node.guid) rank low) has)
  where
    same : length routes.between.rows ≡ length routes.graph.switches
    same =
        let count = right.count in
        let guids = ap (λ (guids : List ℕ). length guids) are.guids_are in
        let each = length-map routes.graph.switches (λ (switch : GraphSwitch). switch.guid) in
        omega (arith, count, guids, each)

    low : (s : ℕ) → place_of routes.graph.switches node.guid ≡ Some s → get_or routes.between.ranks s 0 < length routes.graph.switches
    low s is =
        let there = place_low routes.graph.switches node.guid s is in
        let below = distance_below routes.between.rows (is_root routes.between.guids roots) routes.between.ranks right.cabling ranks s (omega (arith, there, same)) in
        omega (arith, below, same)
