-- The subnet manager's GUID, and then the others as they rise, are in order of LID.
use Rattle.std.proofs.Common.{◌≡◌, ◌≢◌, ℕ, ◌+◌, ◌<◌, Bool, true, false, cond, not, ◌==◌, ◌&&◌, ◌||◌, nat_lt, List, [], ◌∷◌, ◌++◌, length, map, filter}
use Rattle.std.proofs.Common.{get_or, count_by, length-append, Ok, Err, Some, None, option_map, refl, sym, ap, subst, ◌∙◌, arith}
use Rattle.std.specs.List.{AllByRecursion, IsDistinct, list_any}
use Rattle.std.specs.List.Sorted.{IsBinarySearchResult, IsPermutation, IsSorted, IsStrictlyIncreasing}
use Rattle.std.specs.Ordering.{nat_cmp}
use Rattle.std.proofs.lemmas.List.{length-map}
use Rattle.std.proofs.lemmas.Bool.{or_parts, or_right, eq-eqb}
use Rattle.std.proofs.lemmas.List.Sorted.{IsNonDecreasingBy-from_sort, searched}
use Rattle.std.proofs.lemmas.Map.Keys.{IsDistinct-IsPermutation, IsStrictlyIncreasing-from_distinct}
use Rattle.std.proofs.lemmas.Bool.Decides.{nat_tests}
use Rattle.std.proofs.lemmas.List.Elements.{All-from_recursion}
use Rattle.std.proofs.lemmas.List.Folds.{list_any_at}
use Rattle.std.proofs.lemmas.List.Sorted.{list_any-IsPermutation, sum_by-IsPermutation}
use Rattle.step_results.proofs.TestLemmas.{same_either_way}
use Rattle.pkey_rules.specs.declared.end_port.EndPort.{EndPort}
use Rattle.subnet_model.specs.EndPorts.{lid_of}
use Rattle.sweep.specs.Graph.{GraphState, IsGraph, end_guids}
use Rattle.sweep.specs.declared.graph.GraphPort.{GraphPort}
use Rattle.sweep.specs.declared.graph.GraphSwitch.{GraphSwitch}
use Rattle.lid_assign.specs.Lids.{AreLids, StandInOrder, adapter_end, end_ports, lid_in, switch_end}
use Rattle.step_results.proofs.RisingLemmas.{Rises, counted, nowhere, place_at, place_here, place_is_count, place_later, place_nowhere, rise, rises}

abbrev guids_of : List EndPort → List ℕ
guids_of ports = map (λ port. port.guid) ports

-- ---- GUIDs of ports, and those that are not one of them
any_guid : (test : ℕ → Bool) (ports : List EndPort) → list_any test (guids_of ports) ≡ list_any (λ port. test port.guid) ports
any_guid test [] = refl
any_guid test (port ∷ ports) = ap (λ (rest : Bool). test port.guid || rest) (any_guid test ports)

count_guids : (test : ℕ → Bool) (ports : List EndPort) → count_by test (guids_of ports) ≡ count_by (λ port. test port.guid) ports
count_guids test [] = refl
count_guids test (port ∷ ports) =
    counted test port.guid (guids_of ports) ∙ ap (λ (n : ℕ). cond (test port.guid) 1 0 + n) (count_guids test ports)
    ∙ sym (counted (λ (other : EndPort). test other.guid) port ports)

count_kept : (keeps test : ℕ → Bool) (xs : List ℕ) → count_by test (filter keeps xs) ≡ count_by (λ x. keeps x && test x) xs
count_kept keeps test [] = refl
count_kept keeps test (x ∷ xs) = by (keeps x) refl (count_kept keeps test xs)
  where
    by : (b : Bool) → keeps x ≡ b → count_by test (filter keeps xs) ≡ count_by (λ x. keeps x && test x) xs
        → count_by test (cond b (x ∷ filter keeps xs) (filter keeps xs)) ≡ count_by (λ x. keeps x && test x) (x ∷ xs)
    by true e later =
        counted test x (filter keeps xs) ∙ ap (λ (n : ℕ). cond (test x) 1 0 + n) later ∙ sym (counted (λ y. keeps y && test y) x xs ∙ (rw e refl))
    by false e later = later ∙ sym (counted (λ y. keeps y && test y) x xs ∙ (rw e (omega arith)))

any_kept : (keeps test : ℕ → Bool) (xs : List ℕ) → list_any test (filter keeps xs) ≡ list_any (λ x. keeps x && test x) xs
any_kept keeps test [] = refl
any_kept keeps test (x ∷ xs) = by (keeps x) refl (any_kept keeps test xs)
  where
    by : (b : Bool) → keeps x ≡ b → list_any test (filter keeps xs) ≡ list_any (λ x. keeps x && test x) xs
        → list_any test (cond b (x ∷ filter keeps xs) (filter keeps xs)) ≡ list_any (λ x. keeps x && test x) (x ∷ xs)
    by true e later = rw (e, later) refl
    by false e later = rw (e, later) refl

abbrev pub is_other : ℕ → ℕ → Bool
is_other manager guid = not (guid == manager)

length_kept : (manager : ℕ) (xs : List ℕ) → length (filter (is_other manager) xs) + count_by (λ x. x == manager) xs ≡ length xs
length_kept manager [] = refl
length_kept manager (x ∷ xs) = by (x == manager) refl (length_kept manager xs)
  where
    by : (b : Bool) → (x == manager) ≡ b → length (filter (is_other manager) xs) + count_by (λ x. x == manager) xs ≡ length xs
        → length (cond (not b) (x ∷ filter (is_other manager) xs) (filter (is_other manager) xs)) + count_by (λ x. x == manager) (x ∷ xs) ≡ length (x ∷ xs)
    by true e later =
        let one : count_by (λ y. y == manager) (x ∷ xs) ≡ 1 + count_by (λ y. y == manager) xs = counted (λ y. y == manager) x xs ∙ (rw e refl) in omega (arith, one, later)
    by false e later =
        let none : count_by (λ y. y == manager) (x ∷ xs) ≡ 0 + count_by (λ y. y == manager) xs = counted (λ y. y == manager) x xs ∙ (rw e refl) in omega (arith, none, later)

pub none_else : (manager : ℕ) (xs : List ℕ) → AllByRecursion (λ y. (manager == y) ≡ false) xs → count_by (λ x. x == manager) xs ≡ 0
none_else manager [] h = refl
none_else manager (x ∷ xs) h =
    let other : (manager == x) ≡ false = h.0 in
    let apart : (x == manager) ≡ false = grind (arith, nat_tests) in
    counted (λ y. y == manager) x xs ∙ (rw (apart, none_else manager xs h.1) refl)

one_there : (manager : ℕ) (xs : List ℕ) → IsDistinct (λ a b. a == b) xs → list_any (λ x. x == manager) xs ≡ true → count_by (λ x. x == manager) xs ≡ 1
unfolding IsDistinct
one_there manager [] own there = absurd cc
one_there manager (x ∷ xs) own there = by (x == manager) refl there (λ later. one_there manager xs own.1 later)
  where
    by : (b : Bool) → (x == manager) ≡ b → (b || list_any (λ y. y == manager) xs) ≡ true → (list_any (λ y. y == manager) xs ≡ true → count_by (λ y. y == manager) xs ≡ 1)
        → count_by (λ y. y == manager) (x ∷ xs) ≡ 1
    by true e k later =
        let same : x ≡ manager = grind (arith, nat_tests) in
        let none = none_else manager xs (subst (λ (g : ℕ). AllByRecursion (λ y. (g == y) ≡ false) xs) same own.0) in
        counted (λ y. y == manager) x xs ∙ (rw (e, none) refl)
    by false e k later = counted (λ y. y == manager) x xs ∙ (rw (e, later k) refl)

-- ---- the list
-- what is known of end ports: which of them is the subnet manager's, by its GUID
pub record AreNamed (manager : ℕ) (ports : List EndPort) : Type 0 where
  pub marked : AllByRecursion (λ port. port.is_sm ≡ (port.guid == manager)) ports
  pub own : IsDistinct (λ a b. a == b) (guids_of ports)
  pub there : list_any (λ guid. guid == manager) (guids_of ports) ≡ true

less_marked : (manager g : ℕ) (ports : List EndPort) → AllByRecursion (λ port. port.is_sm ≡ (port.guid == manager)) ports
    → count_by (λ port. is_other manager port.guid && nat_lt port.guid g) ports ≡ count_by (λ other. not other.is_sm && nat_lt other.guid g) ports
less_marked manager g [] h = refl
less_marked manager g (port ∷ ports) h =
    counted (λ (other : EndPort). is_other manager other.guid && nat_lt other.guid g) port ports
    ∙ ap (λ (n : ℕ). cond (is_other manager port.guid && nat_lt port.guid g) 1 0 + n) (less_marked manager g ports h.1)
    ∙ sym (counted (λ (other : EndPort). not other.is_sm && nat_lt other.guid g) port ports ∙ (rw h.0 refl))

count_moved : (test : ℕ → Bool) (xs ys : List ℕ) → IsPermutation xs ys → count_by test ys ≡ count_by test xs
count_moved test xs ys p = sum_by-IsPermutation (λ x. cond (test x) 1 0) xs ys p

-- how many of the others are less
less_others : (manager g : ℕ) (ports : List EndPort) (others : List ℕ) → AreNamed manager ports → IsPermutation (filter (is_other manager) (guids_of ports)) others
    → count_by (λ o. nat_lt o g) others ≡ count_by (λ other. not other.is_sm && nat_lt other.guid g) ports
less_others manager g ports others named moved =
    count_moved (λ o. nat_lt o g) (filter (is_other manager) (guids_of ports)) others moved
    ∙ count_kept (is_other manager) (λ o. nat_lt o g) (guids_of ports)
    ∙ count_guids (λ x. is_other manager x && nat_lt x g) ports
    ∙ less_marked manager g ports named.marked

any_others : (manager g : ℕ) (ports : List EndPort) (others : List ℕ) → IsPermutation (filter (is_other manager) (guids_of ports)) others
    → list_any (λ o. o == g) others ≡ list_any (λ x. is_other manager x && (x == g)) (guids_of ports)
any_others manager g ports others moved =
    sym (list_any-IsPermutation (λ o. o == g) (filter (is_other manager) (guids_of ports)) others moved) ∙ any_kept (is_other manager) (λ o. o == g) (guids_of ports)

-- one other GUID
any_such : (manager g : ℕ) (xs : List ℕ) → (g == manager) ≡ false → list_any (λ x. is_other manager x && (x == g)) xs ≡ list_any (λ x. x == g) xs
any_such manager g [] h = refl
any_such manager g (x ∷ xs) h =
    let same : (is_other manager x && (x == g)) ≡ (x == g) = grind (arith, nat_tests) in
    rw (same, any_such manager g xs h) refl

lid_by : (manager : ℕ) (ports : List EndPort) (others : List ℕ) (port : EndPort) (b : Bool) → (port.guid == manager) ≡ b → port.is_sm ≡ b
    → AreNamed manager ports → IsPermutation (filter (is_other manager) (guids_of ports)) others → IsStrictlyIncreasing others
    → list_any (λ x. x == port.guid) (guids_of ports) ≡ true → lid_in (manager ∷ others) port.guid ≡ Some (lid_of ports port)
lid_by manager ports others port true e sm named moved rising there =
    let here : (manager == port.guid) ≡ true = grind (arith, nat_tests) in
    ap (option_map (λ place. place + 1)) (place_here (λ (o : ℕ). o == port.guid) manager others here) ∙ (rw sm refl)
lid_by manager ports others port false e sm named moved rising there =
    let g = port.guid in
    let apart : (manager == g) ≡ false = grind (arith, nat_tests) in
    let inside : list_any (λ o. o == g) others ≡ true = any_others manager g ports others moved ∙ any_such manager g (guids_of ports) e ∙ there in
    let place = place_later (λ (o : ℕ). o == g) manager others apart ∙ ap (option_map (λ k. k + 1)) (place_is_count others g (rises others rising) inside) in
    let n = count_by (λ other. not other.is_sm && nat_lt other.guid g) ports in
    let sum : n + 1 + 1 ≡ 2 + n = omega arith in
    ap (option_map (λ place. place + 1)) place
    ∙ ap (λ (k : ℕ). Some (k + 1 + 1)) (less_others manager g ports others named moved)
    ∙ ap (λ (k : ℕ). Some k) sum ∙ (rw sm refl)

only_those : (manager guid : ℕ) (ports : List EndPort) (others : List ℕ) (b : Bool) → (manager == guid) ≡ b → AreNamed manager ports
    → IsPermutation (filter (is_other manager) (guids_of ports)) others → list_any (λ port. port.guid == guid) ports ≡ false → lid_in (manager ∷ others) guid ≡ None
only_those manager guid ports others true e named moved none =
    let same : manager ≡ guid = grind (arith, nat_tests) in
    let found : list_any (λ port. port.guid == guid) ports ≡ true = subst (λ (g : ℕ). list_any (λ (port : EndPort). port.guid == g) ports ≡ true) same (sym (any_guid (λ g. g == manager) ports) ∙ named.there) in
    absurd cc
only_those manager guid ports others false e named moved none =
    let apart : (guid == manager) ≡ false = grind (arith, nat_tests) in
    let outside : list_any (λ o. o == guid) others ≡ false =
    any_others manager guid ports others moved ∙ any_such manager guid (guids_of ports) apart ∙ any_guid (λ g. g == guid) ports ∙ none in
    let nowhere : list_any (λ o. o == guid) (manager ∷ others) ≡ false = rw (e, outside) refl in
    ap (option_map (λ place. place + 1)) (place_nowhere (λ (o : ℕ). o == guid) (manager ∷ others) nowhere)

pub are_lids : (manager : ℕ) (ports : List EndPort) (others : List ℕ) → AreNamed manager ports → IsPermutation (filter (is_other manager) (guids_of ports)) others
    → length others ≡ length (filter (is_other manager) (guids_of ports)) → IsStrictlyIncreasing others → AreLids ports (manager ∷ others)
are_lids manager ports others named moved long rising =
    record {
      each = λ k d h.
          let port = get_or ports k d in
          let marked = All-from_recursion (λ (p : EndPort). p.is_sm ≡ (p.guid == manager)) ports named.marked in
          let there = any_guid (λ x. x == port.guid) ports ∙ list_any_at (λ (p : EndPort). p.guid == port.guid) ports k d h (eq-eqb port.guid port.guid refl) in
          lid_by manager ports others port (port.guid == manager) refl (marked k d h) named moved rising there;
      only = λ guid none. only_those manager guid ports others (manager == guid) refl named moved none;
      count =
          let kept = length_kept manager (guids_of ports) in
          let one = one_there manager (guids_of ports) named.own named.there in
          omega (arith, long, kept, one, length-map ports (λ (port : EndPort). port.guid));
    }

-- ---- the end ports of a graph
guids_of_ports : (manager : ℕ) (ports : List GraphPort) → guids_of (map (adapter_end manager) ports) ≡ map (λ port. port.port_guid) ports
guids_of_ports manager [] = refl
guids_of_ports manager (port ∷ ports) = ap (λ (rest : List ℕ). port.port_guid ∷ rest) (guids_of_ports manager ports)

guids_from : (manager : ℕ) (switches : List GraphSwitch) (ports : List GraphPort) → guids_of (map switch_end switches ++ map (adapter_end manager) ports) ≡ end_guids switches ports
guids_from manager [] ports = guids_of_ports manager ports
guids_from manager (switch ∷ switches) ports = ap (λ (rest : List ℕ). switch.guid ∷ rest) (guids_from manager switches ports)

not_in : (x manager : ℕ) (guids : List ℕ) → AllByRecursion (λ y. (x == y) ≡ false) guids → list_any (λ y. y == manager) guids ≡ true → (x == manager) ≡ false
not_in x manager [] h there = absurd cc
not_in x manager (y ∷ guids) h there = by (y == manager) refl there (λ later. not_in x manager guids h.1 later)
  where
    by : (b : Bool) → (y == manager) ≡ b → (b || list_any (λ z. z == manager) guids) ≡ true
        → (list_any (λ z. z == manager) guids ≡ true → (x == manager) ≡ false) → (x == manager) ≡ false
    by true e k later = (let same : y ≡ manager = grind (arith, nat_tests) in subst (λ (z : ℕ). (x == z) ≡ false) same h.0)
    by false e k later = later k

not_behind : (x manager : ℕ) (guids behind : List ℕ) → AllByRecursion (λ y. (x == y) ≡ false) (guids ++ behind)
    → list_any (λ y. y == manager) behind ≡ true → (x == manager) ≡ false
not_behind x manager [] behind h there = not_in x manager behind h there
not_behind x manager (y ∷ guids) behind h there = not_behind x manager guids behind h.1 there

marked_ports : (manager : ℕ) (ports : List GraphPort) → AllByRecursion (λ port. port.is_sm ≡ (port.guid == manager)) (map (adapter_end manager) ports)
marked_ports manager [] = tt
marked_ports manager (port ∷ ports) = (refl, marked_ports manager ports)

marked_from : (manager : ℕ) (switches : List GraphSwitch) (ports : List GraphPort) → IsDistinct (λ a b. a == b) (end_guids switches ports)
    → list_any (λ y. y == manager) (map (λ (port : GraphPort). port.port_guid) ports) ≡ true
    → AllByRecursion (λ port. port.is_sm ≡ (port.guid == manager)) (map switch_end switches ++ map (adapter_end manager) ports)
unfolding IsDistinct
marked_from manager [] ports own there = marked_ports manager ports
marked_from manager (switch ∷ switches) ports own there =
    (sym (not_behind switch.guid manager (map (λ (s : GraphSwitch). s.guid) switches) (map (λ (p : GraphPort). p.port_guid) ports) own.0 there), marked_from manager switches ports own.1 there)

any_port : (manager : ℕ) (ports : List GraphPort)
    → list_any (λ y. y == manager) (map (λ (port : GraphPort). port.port_guid) ports) ≡ list_any (λ port. port.port_guid == manager) ports
any_port manager [] = refl
any_port manager (port ∷ ports) = ap (λ (rest : Bool). (port.port_guid == manager) || rest) (any_port manager ports)

any_behind : (manager : ℕ) (guids behind : List ℕ) → list_any (λ y. y == manager) behind ≡ true → list_any (λ y. y == manager) (guids ++ behind) ≡ true
any_behind manager [] behind h = h
any_behind manager (guid ∷ guids) behind h = or_right (guid == manager) (list_any (λ y. y == manager) (guids ++ behind)) (any_behind manager guids behind h)

pub named_of : (graph : GraphState) → IsGraph graph → AreNamed graph.manager (end_ports graph)
named_of graph whole =
    let same = guids_from graph.manager graph.switches graph.ports in
    let there = any_port graph.manager graph.ports ∙ whole.manager_there in
    record {
      marked = marked_from graph.manager graph.switches graph.ports whole.guids there;
      own = subst (IsDistinct (λ a b. a == b)) (sym same) whole.guids;
      there = ap (list_any (λ guid. guid == graph.manager)) same
          ∙ any_behind graph.manager (map (λ (s : GraphSwitch). s.guid) graph.switches) (map (λ (p : GraphPort). p.port_guid) graph.ports) there;
    }

-- ---- those that are kept stay distinct, and rise where they are sorted
kept_apart : (manager x : ℕ) (xs : List ℕ) → AllByRecursion (λ y. (x == y) ≡ false) xs → AllByRecursion (λ y. (x == y) ≡ false) (filter (is_other manager) xs)
kept_apart manager x [] h = tt
kept_apart manager x (y ∷ xs) h = by (is_other manager y) (kept_apart manager x xs h.1)
  where
    by : (b : Bool) → AllByRecursion (λ y. (x == y) ≡ false) (filter (is_other manager) xs)
        → AllByRecursion (λ y. (x == y) ≡ false) (cond b (y ∷ filter (is_other manager) xs) (filter (is_other manager) xs))
    by true later = (h.0, later)
    by false later = later

kept_distinct : (manager : ℕ) (xs : List ℕ) → IsDistinct (λ a b. a == b) xs → IsDistinct (λ a b. a == b) (filter (is_other manager) xs)
unfolding IsDistinct
kept_distinct manager [] h = tt
kept_distinct manager (x ∷ xs) h = by (is_other manager x) (kept_distinct manager xs h.1)
  where
    by : (b : Bool) → IsDistinct (λ a b. a == b) (filter (is_other manager) xs)
        → IsDistinct (λ a b. a == b) (cond b (x ∷ filter (is_other manager) xs) (filter (is_other manager) xs))
    by true later = (kept_apart manager x xs h.0, later)
    by false later = later

pub sorted_rise : (manager : ℕ) (guids others : List ℕ) → IsDistinct (λ a b. a == b) guids → IsPermutation (filter (is_other manager) guids) others
    → IsSorted nat_cmp others → IsStrictlyIncreasing others
sorted_rise manager guids others own moved sorted =
    IsStrictlyIncreasing-from_distinct others (IsNonDecreasingBy-from_sort (λ (x : ℕ). x) others sorted)
    (IsDistinct-IsPermutation (λ a b. a == b) (λ a b. same_either_way a b) (filter (is_other manager) guids) others moved (kept_distinct manager guids own))

-- ---- what `assign` makes
count_all : (xs : List ℕ) → count_by (λ x. true) xs ≡ length xs
count_all [] = refl
count_all (x ∷ xs) = let first = counted (λ y. true) x xs in let rest = count_all xs in omega (arith, first, rest)

as_long : (xs ys : List ℕ) → IsPermutation xs ys → length ys ≡ length xs
as_long xs ys moved = sym (count_all ys) ∙ count_moved (λ x. true) xs ys moved ∙ count_all xs

none_itself : (manager : ℕ) (xs : List ℕ) → list_any (λ x. is_other manager x && (x == manager)) xs ≡ false
none_itself manager [] = refl
none_itself manager (x ∷ xs) = by (x == manager) (none_itself manager xs)
  where
    by : (b : Bool) → list_any (λ y. is_other manager y && (y == manager)) xs ≡ false → ((not b && b) || list_any (λ y. is_other manager y && (y == manager)) xs) ≡ false
    by true later = later
    by false later = later

pub record IsAssigned (graph : GraphState) (others : List ℕ) : Type 0 where
  pub order : StandInOrder graph.manager others
  pub lids : AreLids (end_ports graph) (graph.manager ∷ others)

pub assigned : (graph : GraphState) (others : List ℕ) → IsGraph graph → IsPermutation (filter (is_other graph.manager) (end_guids graph.switches graph.ports)) others
    → IsSorted nat_cmp others → IsAssigned graph others
assigned graph others whole moved sorted =
    let manager = graph.manager in
    let named = named_of graph whole in
    let same = guids_from manager graph.switches graph.ports in
    let guids = guids_of (end_ports graph) in
    let rising = sorted_rise manager (end_guids graph.switches graph.ports) others whole.guids moved sorted in
    let moved_ports : IsPermutation (filter (is_other manager) guids) others = subst (λ (xs : List ℕ). IsPermutation (filter (is_other manager) xs) others) (sym same) moved in
    let long_ports : length others ≡ length (filter (is_other manager) guids) = as_long _ others moved ∙ ap (λ (xs : List ℕ). length (filter (is_other manager) xs)) (sym same) in
    let kept = length_kept manager guids in
    let one = one_there manager guids named.own named.there in
    let all : length guids ≡ length (map switch_end graph.switches) + length (map (adapter_end manager) graph.ports) =
    length-map (end_ports graph) (λ (port : EndPort). port.guid) ∙ length-append (map switch_end graph.switches) (map (adapter_end manager) graph.ports) in
    record {
      order = record {
        rising = rising;
        apart = any_others manager manager (end_ports graph) others moved_ports ∙ none_itself manager guids;
        few = omega (arith, long_ports, kept, one, all, whole.few_switches, whole.few_ports, length-map graph.switches switch_end, length-map graph.ports (adapter_end manager));
      };
      lids = are_lids manager (end_ports graph) others named moved_ports long_ports rising;
    }

-- ---- what holds of all LIDs
apart_all : (manager : ℕ) (others : List ℕ) → list_any (λ guid. guid == manager) others ≡ false → AllByRecursion (λ y. (manager == y) ≡ false) others
apart_all manager [] h = tt
apart_all manager (x ∷ others) h =
    let parts = or_parts (x == manager) (list_any (λ guid. guid == manager) others) h in
    let other : (x == manager) ≡ false = parts.0 in
    let apart : (manager == x) ≡ false = grind (arith, nat_tests) in
    (apart, apart_all manager others parts.1)

differ : (x : ℕ) (xs : List ℕ) → AllByRecursion (λ y. x < y) xs → AllByRecursion (λ y. (x == y) ≡ false) xs
differ x [] h = tt
differ x (y ∷ xs) h = let less : x < y = h.0 in let apart : (x == y) ≡ false = grind (arith, nat_tests) in (apart, differ x xs h.1)

all_differ : (xs : List ℕ) → Rises xs → IsDistinct (λ a b. a == b) xs
unfolding IsDistinct
all_differ [] r = tt
all_differ (x ∷ xs) r = (differ x xs r.0, all_differ xs r.1)

pub own_all : (manager : ℕ) (others : List ℕ) → StandInOrder manager others → IsDistinct (λ a b. a == b) (manager ∷ others)
unfolding IsDistinct
own_all manager others order = (apart_all manager others order.apart, all_differ others (rises others order.rising))

-- ---- one LID
not_manager : (manager guid : ℕ) → guid ≢ manager → (manager == guid) ≡ false
not_manager manager guid e = by (manager == guid) refl
  where
    by : (b : Bool) → (manager == guid) ≡ b → b ≡ false
    by true h = (let same : guid ≡ manager = grind (arith, nat_tests) in absurd (e same))
    by false h = refl

pub lid_found : (manager guid place : ℕ) (others : List ℕ) → guid ≢ manager → IsStrictlyIncreasing others → IsBinarySearchResult (λ y. nat_cmp y guid) others (Ok place)
    → lid_in (manager ∷ others) guid ≡ Some (2 + place)
lid_found manager guid place others e rising h =
    let found = searched others guid (Ok place) h (rise others rising) in
    let apart = not_manager manager guid e in
    let sum : place + 1 + 1 ≡ 2 + place = omega arith in
    ap (option_map (λ k. k + 1)) (place_later (λ (o : ℕ). o == guid) manager others apart ∙ ap (option_map (λ k. k + 1)) (place_at others guid place rising found.0 found.1))
    ∙ ap (λ (k : ℕ). Some k) sum

pub lid_not_found : (manager guid place : ℕ) (others : List ℕ) → guid ≢ manager → IsStrictlyIncreasing others → IsBinarySearchResult (λ y. nat_cmp y guid) others (Err place)
    → lid_in (manager ∷ others) guid ≡ None
lid_not_found manager guid place others e rising h =
    let found = searched others guid (Err place) h (rise others rising) in
    let apart = not_manager manager guid e in
    ap (option_map (λ k. k + 1)) (place_later (λ (o : ℕ). o == guid) manager others apart ∙ ap (option_map (λ k. k + 1)) (place_nowhere (λ (o : ℕ). o == guid) others (nowhere others guid place found.1 found.2)))
