-- What is asked for of a fabric behind a wire.
use Rattle.std.proofs.Common.{ℕ, zero, suc, ◌≡◌, ◌≤◌, ◌⊎◌, ◌∙◌, ◌<◌, ◌+◌, ◌==◌, ◌&&◌, ap, refl, sym, inl, inr, arith, is_some, not, Bool, true, false, List, [], ◌∷◌, length, map, slice_get, Option, Some, None}
use Rattle.std.specs.List.{list_all, list_any}
use Rattle.std.proofs.lemmas.Bool.{and_from, and_parts, cases_lt}
use Rattle.step_results.proofs.ListLemmas.{any_map}
use Rattle.sweep.specs.Graph.{GraphState}
use Rattle.sweep.specs.Joined.{AllJoined}
use Rattle.sweep.specs.declared.graph.GraphSwitch.{GraphSwitch}
use Rattle.subnet_fabric.specs.Managing.{are_found, is_found, AreAsked}
use Rattle.subnet_fabric.specs.SetUp.{AreAssigned}
use Rattle.updn_routes.specs.Routes.{AllReached, AreRoutesOf, order_of}
use Rattle.updn_routes.specs.Subnet.{RoutesState, guids_of, homes_of, rows_of}

-- the GUID of a switch is one of those of a graph
found_named : (graph : GraphState) (root : ℕ) → list_any (λ guid. guid == root) (guids_of graph) ≡ is_found graph root
found_named graph root = any_map (λ guid. guid == root) (λ (switch : GraphSwitch). switch.guid) graph.switches

pub all_named : (graph : GraphState) (roots : List ℕ) → are_found graph roots ≡ true → list_all (λ root. list_any (λ guid. guid == root) (guids_of graph)) roots ≡ true
all_named graph [] all = refl
all_named graph (root ∷ roots) all =
    let parts = and_parts (is_found graph root) (are_found graph roots) all in
    and_from (list_any (λ guid. guid == root) (guids_of graph)) _ (found_named graph root ∙ parts.0) (all_named graph roots parts.1)

-- two lists with the same elements, of which none is longer
pub same_list : (xs ys : List ℕ) → ((k : ℕ) → k < length ys → slice_get xs k ≡ slice_get ys k) → slice_get xs (length ys) ≡ None → xs ≡ ys
same_list [] [] all none = refl
same_list (x ∷ xs) [] all none = absurd cc
same_list [] (y ∷ ys) all none = let other = all zero (omega arith) in absurd cc
same_list (x ∷ xs) (y ∷ ys) all none =
    let first : Some x ≡ Some y = all zero (omega arith) in
    let rest = same_list xs ys (λ k within. all (suc k) (omega (arith, within))) none in
    let same : x ≡ y = cc in rw (same, rest) refl

-- one element more
pub more_same : (xs ys : List ℕ) (n x : ℕ) → ((k : ℕ) → k < n → slice_get xs k ≡ slice_get ys k) → slice_get xs n ≡ Some x → slice_get ys n ≡ Some x
    → (k : ℕ) → k < n + 1 → slice_get xs k ≡ slice_get ys k
more_same xs ys n x all one other k within = by (cases_lt k n)
  where
    by : (k < n) ⊎ (n ≤ k) → slice_get xs k ≡ slice_get ys k
    by (inl before) = all k before
    by (inr past) = let at : k ≡ n = omega (arith, within, past) in rw at (one ∙ sym other)

-- by the answer of `is_none`
pub is_nothing : (o : Option ℕ) (b : Bool) → is_some o ≡ not b → b ≡ true → o ≡ None
is_nothing None b is none = refl
is_nothing (Some x) b is none = let other : true ≡ false = rw none at is in absurd cc

pub nothing_is : (o : Option ℕ) (b : Bool) → is_some o ≡ not b → o ≡ None → b ≡ true
nothing_is o true is none = refl
nothing_is o false is none = let other : false ≡ true = rw none at is in absurd cc

-- no element stands behind the last
pub none_last : (xs : List ℕ) → slice_get xs (length xs) ≡ None
none_last [] = refl
none_last (x ∷ xs) = none_last xs

-- ---- routes that are made are those that were asked for
pub are_asked : (graph : GraphState) (lids roots ports : List ℕ) (routes : RoutesState) → AllJoined graph.rows → AreAssigned graph lids → routes.graph ≡ graph
    → routes.lids ≡ lids → lids ≡ ports → are_found graph roots ≡ true
    → AreRoutesOf (rows_of graph) (guids_of graph) roots (homes_of graph lids) routes.between
    → AllReached (rows_of graph) (order_of routes.between) (homes_of graph lids) → AreAsked roots ports routes
are_asked graph lids roots ports routes joined assigned is_of has same found made reached =
    record {
      joined = rw is_of joined;
      lids = has ∙ same;
      assigned = rw (is_of, has) assigned;
      named = rw is_of found;
      made = rw (is_of, has) made;
      reached = rw (is_of, has) reached;
    }
