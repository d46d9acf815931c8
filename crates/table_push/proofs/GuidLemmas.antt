-- The switches of a graph by their GUIDs, and by their places.
use Rattle.std.proofs.Common.{ℕ, zero, suc, ◌≡◌, ◌==◌, ◌∙◌, ap, refl, sym, Bool, true, false, List, [], ◌∷◌, map, slice_get, Some, None, option_map, arith, cond, nat_lt, length}
use Rattle.std.specs.List.{IsDistinct, list_any, position_or_len}
use Rattle.std.proofs.lemmas.Map.Keys.{IsDistinct-tail, any_passes_from_place}
use Rattle.std.proofs.lemmas.Option.{same_Some, slice_get-map}
use Rattle.step_results.proofs.PlaceLemmas.{list_any_place}
use Rattle.step_results.proofs.DistinctLemmas.{none_shares}
use Rattle.sweep.specs.declared.graph.GraphSwitch.{GraphSwitch}
use Rattle.updn_routes.specs.Subnet.{place_of}
use Rattle.table_push.proofs.NodeLemmas.{none_there, same_number}

guid_at_place : (switches : List GraphSwitch) (k : ℕ) (switch : GraphSwitch) → slice_get switches k ≡ Some switch
    → slice_get (map (λ (one : GraphSwitch). one.guid) switches) k ≡ Some switch.guid
guid_at_place switches k switch there =
    slice_get-map (λ (one : GraphSwitch). one.guid) switches k ∙ ap (option_map (λ (one : GraphSwitch). one.guid)) there

place_by : (one : GraphSwitch) (switches : List GraphSwitch) (guid k : ℕ) (b : Bool) → (one.guid == guid) ≡ b
    → cond b 0 (suc (position_or_len (λ switch. switch.guid == guid) switches)) ≡ k
    → position_or_len (λ switch. switch.guid == guid) (one ∷ switches) ≡ k
place_by one switches guid k true is so = rw is so
place_by one switches guid k false is so = rw is (omega (arith, so))

first_place : (switches : List GraphSwitch) (k : ℕ) (switch : GraphSwitch) → IsDistinct (λ a b. a == b) (map (λ one. one.guid) switches)
    → slice_get switches k ≡ Some switch → position_or_len (λ one. one.guid == switch.guid) switches ≡ k
first_place [] k switch own there = absurd (cc)
first_place (one ∷ switches) zero switch own there =
    place_by one switches switch.guid zero true
    (ap (λ (other : GraphSwitch). other.guid == switch.guid) (same_Some one switch there) ∙ same_number switch.guid) refl
first_place (one ∷ switches) (suc k) switch own there =
    let apart = none_there (λ other. one.guid == other) (map (λ other. other.guid) switches) k switch.guid
    (none_shares (λ a b. a == b) one.guid (map (λ other. other.guid) switches) own) (guid_at_place switches k switch there) in
    place_by one switches switch.guid (suc k) false apart
    (ap suc (first_place switches k switch (IsDistinct-tail (λ a b. a == b) one.guid (map (λ other. other.guid) switches) own) there))

-- a switch of the graph stands where its GUID says
pub place_is : (switches : List GraphSwitch) (k : ℕ) (switch : GraphSwitch) → IsDistinct (λ a b. a == b) (map (λ one. one.guid) switches)
    → slice_get switches k ≡ Some switch → place_of switches switch.guid ≡ Some k
place_is switches k switch own there =
    let p : GraphSwitch → Bool = λ one. one.guid == switch.guid in
    let some : nat_lt (position_or_len p switches) (length switches) ≡ true =
    sym (list_any_place p switches) ∙ any_passes_from_place p switches k switch there (same_number switch.guid) in
    rw some (ap (λ (i : ℕ). Some i) (first_place switches k switch own there))

-- a GUID that none of them has is nowhere
pub no_place : (switches : List GraphSwitch) (guid : ℕ) → list_any (λ switch. switch.guid == guid) switches ≡ false → place_of switches guid ≡ None
no_place switches guid none =
    let gone : nat_lt (position_or_len (λ switch. switch.guid == guid) switches) (length switches) ≡ false =
    sym (list_any_place (λ switch. switch.guid == guid) switches) ∙ none in
    rw gone refl
