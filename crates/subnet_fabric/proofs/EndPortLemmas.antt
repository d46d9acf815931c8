-- The end ports of a sound topology stand in order of LID, from 1, each once.
use Rattle.std.proofs.Common.{◌≡◌, ℕ, ◌+◌, ◌<◌, ◌≤◌, Bool, true, false, cond, not, ◌==◌, ◌&&◌, ◌||◌, nat_le, nat_lt, List, [], ◌∷◌, ◌++◌, length, map}
use Rattle.std.proofs.Common.{fold, count_by, All, refl, inl, inr, ◌∙◌, sym, ap, subst, lit≤, append-nil, arith}
use Rattle.std.specs.List.{list_any, IsDistinct, AllByRecursion, range_with_len, slice_index_or}
use Rattle.std.specs.List.Sorted.{IsPermutation}
use Rattle.std.proofs.lemmas.Bool.{both_ways, and_from, not-true, or_left, or_right, eq-eqb, cases_Bool, cases_lt, and_parts, eqb-true, leb-true}
use Rattle.std.proofs.lemmas.Bool.{ltb-true, lt-ltb, le-ltb}
use Rattle.std.proofs.lemmas.Bool.Decides.{nat_tests}
use Rattle.std.proofs.lemmas.List.Elements.{All-head, All-tail, All-weaker, All-map, All-from_recursion, recursion_from_All}
use Rattle.std.proofs.lemmas.List.Sorted.{IsPermutation-refl, IsPermutation-trans, IsPermutation-middle, IsPermutation-append_left}
use Rattle.std.proofs.lemmas.List.Sorted.{All-permutation, sum_by-IsPermutation}
use Rattle.std.proofs.lemmas.Map.Keys.{IsDistinct-IsPermutation}
use Rattle.step_results.proofs.TestLemmas.{same_either_way}
use Rattle.step_results.proofs.RisingLemmas.{counted}
use Rattle.partition_file.specs.declared.partition.Partition.{Partition}
use Rattle.partition_file.specs.Members.{keys_in}
use Rattle.pkey_rules.specs.declared.end_port.EndPort.{EndPort}
use Rattle.fabric_parts.specs.declared.cable.PortRef.{PortRef}
use Rattle.fabric_parts.specs.Cable.{is_cabled, is_same_port}
use Rattle.topo_file.specs.declared.node.Node.{Node}
use Rattle.topo_file.specs.Node.{is_switch_at, port_guid_at, ports_at}
use Rattle.topo_file.specs.Sound.{IsSound, is_port}
use Rattle.topo_file.specs.Topology.{TopologyState}
use Rattle.subnet_model.specs.declared.subnet_port.SubnetPort.{SubnetPort}
use Rattle.subnet_model.specs.EndPorts.{lid_of}
use Rattle.subnet_model.specs.Source.{same_lid}
use Rattle.subnet_fabric.specs.declared.end_ports.EndPlace.{EndPlace}
use Rattle.subnet_fabric.specs.EndPorts.{AreEndPorts, IsEndPort, is_end_port}
use Rattle.subnet_model.specs.Configured.{same_guid}
use Rattle.subnet_fabric.specs.Ports.{end_ports, keyed, ports_of, end_placed, end_places, type_of, with_port, with_end_place, Rise}
use Rattle.subnet_fabric.proofs.PlacedLemmas.{rises_with, with_port_moves}
use Rattle.subnet_fabric.proofs.EndPlaceLemmas.{IsEndPlace, all_are_end_places, any_so, one_guid, place_of, end_place_there, end_places_are_distinct}
use Rattle.step_results.proofs.ElementLemmas.{each_weaker}

-- ---- counts
count_none : {X : Type 0} (p : X → Bool) (xs : List X) → AllByRecursion (λ x. p x ≡ false) xs → count_by p xs ≡ 0
count_none p [] h = refl
count_none p (x ∷ xs) h = rw h.0 (count_none p xs h.1)

count_yes : {X : Type 0} (p : X → Bool) (x : X) (xs : List X) → p x ≡ true → count_by p (x ∷ xs) ≡ 1 + count_by p xs
count_yes p x xs h = counted p x xs ∙ ap (λ b. cond b 1 0 + count_by p xs) h

count_no : {X : Type 0} (p : X → Bool) (x : X) (xs : List X) → p x ≡ false → count_by p (x ∷ xs) ≡ 0 + count_by p xs
count_no p x xs h = counted p x xs ∙ ap (λ b. cond b 1 0 + count_by p xs) h

count_some : {X : Type 0} (p : X → Bool) (xs : List X) → list_any p xs ≡ true → 1 ≤ count_by p xs
count_some p [] h = absurd (cc)
count_some p (x ∷ xs) h = elim (cases_Bool (p x)) [
  | inl here ↦ omega (arith, count_yes p x xs here)
  | inr other ↦ let later : list_any p xs ≡ true = rw other at h in omega (arith, count_no p x xs other, count_some p xs later)
]

-- what passes one of two tests of which none passes both, counted
count_two : {X : Type 0} (f g h : X → Bool) → ((x : X) → cond (f x) 1 0 + cond (g x) 1 0 ≤ cond (h x) 1 0) → (xs : List X) → count_by f xs + count_by g xs ≤ count_by h xs
count_two f g h each [] = lit≤ tt
count_two f g h each (x ∷ xs) = omega (arith, each x, count_two f g h each xs, counted f x xs, counted g x xs, counted h x xs)

count_less : {X : Type 0} (f h : X → Bool) → ((x : X) → cond (f x) 1 0 ≤ cond (h x) 1 0) → (xs : List X) → count_by f xs ≤ count_by h xs
count_less f h each [] = lit≤ tt
count_less f h each (x ∷ xs) = omega (arith, each x, count_less f h each xs, counted f x xs, counted h x xs)

-- ---- the order: the SM port first, then by GUID
abbrev key_by : Bool → ℕ → ℕ
key_by is_sm guid = cond is_sm 0 (1 + guid)

abbrev key : EndPort → ℕ
key port = key_by port.is_sm port.guid

abbrev before : List EndPort → EndPort → ℕ
before all port = count_by (λ other. nat_lt (key other) (key port)) all

abbrev sm_count : List EndPort → ℕ
sm_count all = count_by (λ port. port.is_sm) all

others_split : (guid : ℕ) (all : List EndPort)
    → count_by (λ other. nat_lt (key other) (1 + guid)) all ≡ sm_count all + count_by (λ other. not other.is_sm && nat_lt other.guid guid) all
others_split guid [] = refl
others_split guid (port ∷ all) =
    omega (arith, by port.is_sm port.guid, others_split guid all, counted (λ (other : EndPort). nat_lt (key other) (1 + guid)) port all, counted (λ (other : EndPort). other.is_sm) port all, counted (λ (other : EndPort). not other.is_sm && nat_lt other.guid guid) port all)
  where
    by : (is_sm : Bool) (other : ℕ) → cond (nat_lt (key_by is_sm other) (1 + guid)) 1 0 ≡ cond is_sm 1 0 + cond (not is_sm && nat_lt other guid) 1 0
    by true other = grind (arith, nat_tests)
    by false other = grind (arith, nat_tests)

none_first : (all : List EndPort) → count_by (λ other. nat_lt (key other) 0) all ≡ 0
none_first [] = refl
none_first (port ∷ all) = let no_less : nat_lt (key port) 0 ≡ false = le-ltb (key port) 0 (omega arith) in rw no_less (none_first all)

lid_by_key : (all : List EndPort) (port : EndPort) → sm_count all ≡ 1 → lid_of all port ≡ 1 + before all port
lid_by_key all port one = by port.is_sm refl
  where
    by : (is_sm : Bool) → port.is_sm ≡ is_sm → lid_of all port ≡ 1 + before all port
    by true e = rw (e, none_first all) refl
    by false e = rw (e, others_split port.guid all, one) (omega arith)

-- ---- of ports that are there the LIDs stand as the keys
abbrev pub IsThere : List EndPort → EndPort → Type 0
IsThere all port = 1 ≤ count_by (λ other. key other == key port) all

count_step : (a x y : ℕ) → x < y → cond (nat_lt a x) 1 0 + cond (a == x) 1 0 ≤ cond (nat_lt a y) 1 0
count_step a x y h = grind (arith, nat_tests)

count_up : (a x y : ℕ) → x ≤ y → cond (nat_lt a x) 1 0 ≤ cond (nat_lt a y) 1 0
count_up a x y h = grind (arith, nat_tests)

rises : (all : List EndPort) (a b : EndPort) → IsThere all a → key a < key b → before all a < before all b
rises all a b there less =
    omega (arith, there, count_two (λ (o : EndPort). nat_lt (key o) (key a)) (λ (o : EndPort). key o == key a) (λ (o : EndPort). nat_lt (key o) (key b)) (λ o. count_step (key o) (key a) (key b) less) all)

keeps : (all : List EndPort) (a b : EndPort) → key a ≤ key b → before all a ≤ before all b
keeps all a b h = count_less (λ (o : EndPort). nat_lt (key o) (key a)) (λ (o : EndPort). nat_lt (key o) (key b)) (λ o. count_up (key o) (key a) (key b) h) all

lid_order : (all : List EndPort) (a b : EndPort) → sm_count all ≡ 1 → IsThere all a → nat_lt (lid_of all a) (lid_of all b) ≡ nat_lt (key a) (key b)
lid_order all a b one there = rw (lid_by_key all a one, lid_by_key all b one) (elim (cases_lt (key a) (key b)) [
  | inl less ↦ lt-ltb (1 + before all a) (1 + before all b) (omega (arith, rises all a b there less)) ∙ sym (lt-ltb (key a) (key b) less)
  | inr more ↦ le-ltb (1 + before all a) (1 + before all b) (omega (arith, keeps all b a more)) ∙ sym (le-ltb (key a) (key b) more)
])

lids_differ : (all : List EndPort) (a b : EndPort) → sm_count all ≡ 1 → IsThere all a → IsThere all b → (key a == key b) ≡ false → (lid_of all a == lid_of all b) ≡ false
lids_differ all a b one here there apart =
    let x = lid_order all a b one here in
    let y = lid_order all b a one there in
    order_by (lid_of all a) (lid_of all b) (key a) (key b) x y apart
  where
    order_by : (m n j k : ℕ) → nat_lt m n ≡ nat_lt j k → nat_lt n m ≡ nat_lt k j → (j == k) ≡ false → (m == n) ≡ false
    order_by m n j k x y apart = grind (arith, nat_tests)

-- ---- end_places
abbrev sits_sm : EndPlace → Bool
sits_sm end_place = end_place.port.is_sm

abbrev same_key : EndPlace → EndPlace → Bool
same_key a b = key a.port == key b.port

count_ports : (p : EndPort → Bool) (some : List EndPlace) → count_by p (end_ports some) ≡ count_by (λ (end_place : EndPlace). p end_place.port) some
count_ports p [] = refl
count_ports p (end_place ∷ some) =
    counted p end_place.port (end_ports some) ∙ (ap (λ n. cond (p end_place.port) 1 0 + n) (count_ports p some) ∙ sym (counted (λ (other : EndPlace). p other.port) end_place some))

there_all : (all : List EndPort) (some : List EndPlace) → ((e : EndPort) → count_by (λ other. key other == key e) (end_ports some) ≤ count_by (λ other. key other == key e) all)
    → AllByRecursion (λ (end_place : EndPlace). IsThere all end_place.port) some
there_all all [] h = tt
there_all all (end_place ∷ some) h =
    let same : (key end_place.port == key end_place.port) ≡ true = grind (arith, nat_tests) in
    let with_it : count_by (λ other. key other == key end_place.port) (end_ports (end_place ∷ some)) ≡ 1 + count_by (λ other. key other == key end_place.port) (end_ports some) = count_yes (λ (other : EndPort). key other == key end_place.port) end_place.port (end_ports some) same in
    (omega (arith, h end_place.port, with_it), there_all all some (λ e. omega (arith, h e, counted (λ (other : EndPort). key other == key e) end_place.port (end_ports some))))

key_apart : (end_place : EndPlace) (some : List EndPlace) → AllByRecursion (λ b. one_guid end_place b ≡ false) some → cond end_place.port.is_sm 1 0 + count_by sits_sm some ≤ 1
    → AllByRecursion (λ b. same_key end_place b ≡ false) some
key_apart end_place [] h k = tt
key_apart end_place (b ∷ some) h k =
    (by end_place.port.is_sm b.port.is_sm end_place.port.guid b.port.guid h.0 (omega (arith, counted sits_sm b some)), key_apart end_place some h.1 (omega (arith, counted sits_sm b some)))
  where
    by : (s t : Bool) (m n : ℕ) → (m == n) ≡ false → cond s 1 0 + cond t 1 0 ≤ 1 → (key_by s m == key_by t n) ≡ false
    by true true m n h k = absurd (omega arith)
    by true false m n h k = grind (arith, nat_tests)
    by false true m n h k = grind (arith, nat_tests)
    by false false m n h k = grind (arith, nat_tests)

own_keys : (some : List EndPlace) → IsDistinct one_guid some → count_by sits_sm some ≤ 1 → IsDistinct same_key some
unfolding IsDistinct
own_keys [] d h = tt
own_keys (end_place ∷ some) d h = (key_apart end_place some d.0 (omega (arith, counted sits_sm end_place some)), own_keys some d.1 (omega (arith, counted sits_sm end_place some)))

-- the subnet manager's end_place, of which there is one
none_more : (end_place : EndPlace) (guid : ℕ) (some : List EndPlace) → end_place.port.guid ≡ guid → AllByRecursion (λ b. one_guid end_place b ≡ false) some
    → AllByRecursion (λ (b : EndPlace). b.port.is_sm ≡ true → b.port.guid ≡ guid) some → AllByRecursion (λ b. sits_sm b ≡ false) some
none_more end_place guid [] e h k = tt
none_more end_place guid (b ∷ some) e h k = (by b.port.is_sm refl, none_more end_place guid some e h.1 k.1)
  where
    by : (s : Bool) → b.port.is_sm ≡ s → b.port.is_sm ≡ false
    by true is = let same : b.port.guid ≡ guid = k.0 is in absurd (both_ways (end_place.port.guid == b.port.guid) h.0 (grind (arith, nat_tests)))
    by false is = is

one_at_most : (guid : ℕ) (some : List EndPlace) → IsDistinct one_guid some → AllByRecursion (λ (b : EndPlace). b.port.is_sm ≡ true → b.port.guid ≡ guid) some
    → count_by sits_sm some ≤ 1
unfolding IsDistinct
one_at_most guid [] d k = lit≤ tt
one_at_most guid (end_place ∷ some) d k = elim (cases_Bool end_place.port.is_sm) [
  | inl is ↦ omega (arith, count_yes sits_sm end_place some is, count_none sits_sm some (none_more end_place guid some (k.0 is) d.0 k.1))
  | inr other ↦ omega (arith, count_no sits_sm end_place some other, one_at_most guid some d.1 k.1)
]

-- ---- ports in order of LID
abbrev known : List Partition → List Node → List EndPort → EndPlace → SubnetPort
known partitions nodes all end_place = end_placed nodes (keys_in partitions end_place.port) (lid_of all end_place.port) end_place

abbrev as_port : List Node → List EndPort → EndPlace × List ℕ → SubnetPort
as_port nodes all one = end_placed nodes one.1 (lid_of all one.0.port) one.0

same_ports : (partitions : List Partition) (nodes : List Node) (all : List EndPort) (some : List EndPlace)
    → map (as_port nodes all) (keyed partitions some) ≡ map (known partitions nodes all) some
same_ports partitions nodes all [] = refl
same_ports partitions nodes all (end_place ∷ some) = ap (λ (rest : List SubnetPort). known partitions nodes all end_place ∷ rest) (same_ports partitions nodes all some)

order_moves : (nodes : List Node) (all : List EndPort) (some : List (EndPlace × List ℕ)) (ports : List SubnetPort)
    → IsPermutation (ports ++ map (as_port nodes all) some) (fold (with_end_place nodes all) ports some)
order_moves nodes all [] ports = subst (λ (q : List SubnetPort). IsPermutation q ports) (sym (append-nil ports)) (IsPermutation-refl ports)
order_moves nodes all (one ∷ some) ports =
    let port = as_port nodes all one in
    let rest = map (as_port nodes all) some in
    IsPermutation-trans (ports ++ port ∷ rest) (with_port ports port ++ rest) (fold (with_end_place nodes all) (with_port ports port) some)
    (IsPermutation-trans (ports ++ port ∷ rest) (port ∷ (ports ++ rest)) (with_port ports port ++ rest)
    (IsPermutation-middle ports port rest)
    (IsPermutation-append_left rest (port ∷ ports) (with_port ports port) (with_port_moves ports port)))
    (order_moves nodes all some (with_port ports port))

rises_all : (nodes : List Node) (all : List EndPort) (some : List (EndPlace × List ℕ)) (ports : List SubnetPort) → Rise ports → Rise (fold (with_end_place nodes all) ports some)
rises_all nodes all [] ports h = h
rises_all nodes all (one ∷ some) ports h = rises_all nodes all some (with_port ports (as_port nodes all one)) (rises_with ports (as_port nodes all one) h)

abbrev lower : List SubnetPort → SubnetPort → ℕ
lower ports port = count_by (λ other. nat_lt other.lid port.lid) ports

none_lower : (port : SubnetPort) (ports : List SubnetPort) → All (λ b. port.lid ≤ b.lid) ports → lower ports port ≡ 0
none_lower port ports h =
    count_none (λ other. nat_lt other.lid port.lid) ports (recursion_from_All (λ other. nat_lt other.lid port.lid ≡ false) ports (All-weaker (λ b. port.lid ≤ b.lid) (λ other. nat_lt other.lid port.lid ≡ false) (λ b k. le-ltb b.lid port.lid k) ports h))

both_all : {X : Type 0} (P Q : X → Type 0) (xs : List X) → All P xs → All Q xs → All (λ x. P x × Q x) xs
both_all P Q xs h k = λ i d within. (h i d within, k i d within)

lower_by : (m n : ℕ) → m ≤ n → (m == n) ≡ false → nat_lt m n ≡ true
lower_by m n h k = grind (arith, nat_tests)

-- in order, and each LID behind those below it: so they count from the first
numbered : (first : ℕ) (ports : List SubnetPort) → Rise ports → IsDistinct same_lid ports → All (λ port. port.lid ≡ first + lower ports port) ports
    → map (λ port. port.lid) ports ≡ range_with_len first (length ports)
unfolding IsDistinct
numbered first [] up own h = refl
numbered first (port ∷ ports) up own h =
    let same : nat_lt port.lid port.lid ≡ false = grind (arith, nat_tests) in
    let at_head : port.lid ≡ first + lower (port ∷ ports) port = All-head (λ q. q.lid ≡ first + lower (port ∷ ports) q) port ports h in
    let none : lower ports port ≡ 0 = none_lower port ports up.0 in
    let alone = count_no (λ (other : SubnetPort). nat_lt other.lid port.lid) port ports same in
    let here : port.lid ≡ first = omega (arith, at_head, alone, none) in
    let above : All (λ b. (port.lid ≤ b.lid) × (same_lid port b ≡ false)) ports = both_all (λ b. port.lid ≤ b.lid) (λ b. same_lid port b ≡ false) ports up.0 (All-from_recursion (λ b. same_lid port b ≡ false) ports own.0) in
    let later : All (λ b. b.lid ≡ first + lower (port ∷ ports) b) ports = All-tail (λ q. q.lid ≡ first + lower (port ∷ ports) q) port ports h in
    let next : All (λ b. b.lid ≡ first + 1 + lower ports b) ports =
    All-weaker (λ b. (((port.lid ≤ b.lid) × (same_lid port b ≡ false)) × (b.lid ≡ first + lower (port ∷ ports) b))) (λ b. b.lid ≡ first + 1 + lower ports b)
    (λ b k. let less : nat_lt port.lid b.lid ≡ true = lower_by port.lid b.lid k.0.0 k.0.1 in omega (arith, k.1, count_yes (λ (other : SubnetPort). nat_lt other.lid b.lid) port ports less)) ports
    (both_all (λ b. (port.lid ≤ b.lid) × (same_lid port b ≡ false)) (λ b. b.lid ≡ first + lower (port ∷ ports) b) ports above later) in
    rw here (ap (λ rest. first ∷ rest) (numbered (first + 1) ports up.1 own.1 next))

-- ---- the ports of the end_places
distinct_lids : (partitions : List Partition) (nodes : List Node) (all : List EndPort) (some : List EndPlace) → sm_count all ≡ 1
    → AllByRecursion (λ (end_place : EndPlace). IsThere all end_place.port) some
    → IsDistinct same_key some → IsDistinct same_lid (map (known partitions nodes all) some)
unfolding IsDistinct
distinct_lids partitions nodes all [] one there d = tt
distinct_lids partitions nodes all (end_place ∷ some) one there d = (beside some there.1 d.0, distinct_lids partitions nodes all some one there.1 d.1)
  where
    beside : (others : List EndPlace) → AllByRecursion (λ (b : EndPlace). IsThere all b.port) others → AllByRecursion (λ b. same_key end_place b ≡ false) others
        → AllByRecursion (λ b. same_lid (known partitions nodes all end_place) b ≡ false) (map (known partitions nodes all) others)
    beside [] t k = tt
    beside (b ∷ others) t k = (lids_differ all end_place.port b.port one there.0 t.0 k.0, beside others t.1 k.1)

distinct_guids : (partitions : List Partition) (nodes : List Node) (all : List EndPort) (some : List EndPlace) → IsDistinct one_guid some
    → IsDistinct same_guid (map (known partitions nodes all) some)
unfolding IsDistinct
distinct_guids partitions nodes all [] d = tt
distinct_guids partitions nodes all (end_place ∷ some) d = (beside some d.0, distinct_guids partitions nodes all some d.1)
  where
    beside : (others : List EndPlace) → AllByRecursion (λ b. one_guid end_place b ≡ false) others
        → AllByRecursion (λ b. same_guid (known partitions nodes all end_place) b ≡ false) (map (known partitions nodes all) others)
    beside [] k = tt
    beside (b ∷ others) k = (k.0, beside others k.1)

lower_count : (partitions : List Partition) (nodes : List Node) (all : List EndPort) (port : EndPort) (some : List EndPlace) → sm_count all ≡ 1
    → AllByRecursion (λ (end_place : EndPlace). IsThere all end_place.port) some
    → count_by (λ (other : SubnetPort). nat_lt other.lid (lid_of all port)) (map (known partitions nodes all) some) ≡ count_by (λ other. nat_lt (key other) (key port)) (end_ports some)
lower_count partitions nodes all port [] one there = refl
lower_count partitions nodes all port (end_place ∷ some) one there =
    counted (λ (other : SubnetPort). nat_lt other.lid (lid_of all port)) (known partitions nodes all end_place) (map (known partitions nodes all) some)
    ∙ (ap (λ b. cond b 1 0 + count_by (λ (other : SubnetPort). nat_lt other.lid (lid_of all port)) (map (known partitions nodes all) some)) (lid_order all end_place.port port one there.0)
    ∙ (ap (λ n. cond (nat_lt (key end_place.port) (key port)) 1 0 + n) (lower_count partitions nodes all port some one there.1)
    ∙ sym (counted (λ (other : EndPort). nat_lt (key other) (key port)) end_place.port (end_ports some))))

pub any_map : {X Y : Type 0} (f : X → Y) (p : Y → Bool) (xs : List X) → list_any p (map f xs) ≡ list_any (λ x. p (f x)) xs
any_map f p [] = refl
any_map f p (x ∷ xs) = ap (λ b. p (f x) || b) (any_map f p xs)

is_of_end_place : (partitions : List Partition) (plan : TopologyState) (all : List EndPort) (end_place : EndPlace) → IsEndPlace plan end_place → IsEndPort partitions plan (known partitions plan.nodes all end_place)
is_of_end_place partitions plan all end_place h = record {
  at = place_of end_place;
  there = h.there;
  guid = ap (λ (port : EndPort). port.guid) h.port;
  node_name = refl;
  node_guid = refl;
  num_ports = refl;
  number = refl;
  node_type = ap (λ (port : EndPort). type_of port.is_switch) h.port;
  keys = ap (keys_in partitions) h.port;
}

-- the subnet manager's end_place has the GUID of its port
sm_guid : (plan : TopologyState) (end_place : EndPlace) → IsEndPlace plan end_place → end_place.port.is_sm ≡ true → end_place.port.guid ≡ port_guid_at plan.nodes plan.sm
sm_guid plan end_place h is =
    let same : is_same_port (place_of end_place) plan.sm ≡ true = sym (ap (λ (port : EndPort). port.is_sm) h.port) ∙ is in
    let parts = and_parts (end_place.place == plan.sm.node) (end_place.number == plan.sm.port) same in
    let node : end_place.place ≡ plan.sm.node = eqb-true end_place.place plan.sm.node parts.0 in
    let number : end_place.number ≡ plan.sm.port = eqb-true end_place.number plan.sm.port parts.1 in
    ap (λ (port : EndPort). port.guid) h.port ∙ rw (node, number) refl

guid_there : (plan : TopologyState) (at : PortRef) (end_place : EndPlace) → IsEndPlace plan end_place → is_same_port (place_of end_place) at ≡ true → (end_place.port.guid == port_guid_at plan.nodes at) ≡ true
guid_there plan at end_place h same =
    let parts = and_parts (end_place.place == at.node) (end_place.number == at.port) same in
    let node : end_place.place ≡ at.node = eqb-true end_place.place at.node parts.0 in
    let number : end_place.number ≡ at.port = eqb-true end_place.number at.port parts.1 in
    eq-eqb end_place.port.guid (port_guid_at plan.nodes at) (ap (λ (port : EndPort). port.guid) h.port ∙ rw (node, number) refl)

is_sm_there : (plan : TopologyState) (end_place : EndPlace) → IsEndPlace plan end_place → is_same_port (place_of end_place) plan.sm ≡ true → sits_sm end_place ≡ true
is_sm_there plan end_place h same = ap (λ (port : EndPort). port.is_sm) h.port ∙ same

-- what is so of the end_places of a sound topology
pub record AreEndPlaces (plan : TopologyState) (some : List EndPlace) : Type 0 where
  pub each : AllByRecursion (IsEndPlace plan) some
  pub own : IsDistinct one_guid some
  pub all : (at : PortRef) → is_end_port plan at ≡ true → list_any (λ end_place. is_same_port (place_of end_place) at) some ≡ true
  pub one : sm_count (end_ports some) ≡ 1
  pub there : AllByRecursion (λ (end_place : EndPlace). IsThere (end_ports some) end_place.port) some

pub sm_is_end_port : (plan : TopologyState) → IsSound plan → is_end_port plan plan.sm ≡ true
sm_is_end_port plan sound =
    let parts = and_parts (not (is_switch_at plan.nodes plan.sm.node)) (is_port plan.nodes plan.sm) sound.manager_port in
    let no_switch : is_switch_at plan.nodes plan.sm.node ≡ false = not-true (is_switch_at plan.nodes plan.sm.node) parts.0 in
    rw no_switch (and_from (is_port plan.nodes plan.sm) (is_cabled plan.cables plan.sm) parts.1 sound.manager_cabled)

sm_port_counts : (plan : TopologyState) → IsSound plan → 1 ≤ plan.sm.port
sm_port_counts plan sound =
    let parts = and_parts (not (is_switch_at plan.nodes plan.sm.node)) (is_port plan.nodes plan.sm) sound.manager_port in
    leb-true 1 plan.sm.port (and_parts (nat_le 1 plan.sm.port) (nat_le plan.sm.port (ports_at plan.nodes plan.sm.node)) parts.1).0

pub of_sound : (plan : TopologyState) → IsSound plan → AreEndPlaces plan (end_places plan)
of_sound plan sound =
    let each = all_are_end_places plan (sm_port_counts plan sound) in
    let own = end_places_are_distinct plan sound.lines.own_guids in
    let most : count_by sits_sm (end_places plan) ≤ 1 =
    one_at_most (port_guid_at plan.nodes plan.sm) (end_places plan) own (each_weaker (IsEndPlace plan) (λ (b : EndPlace). b.port.is_sm ≡ true → b.port.guid ≡ port_guid_at plan.nodes plan.sm) (λ b h. sm_guid plan b h) (end_places plan) each) in
    let least : 1 ≤ count_by sits_sm (end_places plan) =
    count_some sits_sm (end_places plan) (any_so (IsEndPlace plan) (λ end_place. is_same_port (place_of end_place) plan.sm) sits_sm (λ end_place h. is_sm_there plan end_place h) (end_places plan) each (end_place_there plan plan.sm (sm_is_end_port plan sound))) in
    let counted : sm_count (end_ports (end_places plan)) ≡ count_by sits_sm (end_places plan) = count_ports (λ (port : EndPort). port.is_sm) (end_places plan) in
    record {
      each = each;
      own = own;
      all = λ at h. end_place_there plan at h;
      one = omega arith;
      there = there_all (end_ports (end_places plan)) (end_places plan) (λ e. omega arith);
    }

-- what is so of their ports, in whatever order
guid_order : (all : List EndPort) (a b : EndPort) → sm_count all ≡ 1 → IsThere all a → 1 < lid_of all a → lid_of all a < lid_of all b → a.guid < b.guid
guid_order all a b one there high less = by a.is_sm b.is_sm refl refl
  where
    by : (s t : Bool) → a.is_sm ≡ s → b.is_sm ≡ t → a.guid < b.guid
    by true t e f = let first : lid_of all a ≡ 1 = rw e refl in absurd (omega arith)
    by false true e f = let first : lid_of all b ≡ 1 = rw f refl in absurd (omega arith)
    by false false e f =
        let keys : nat_lt (key a) (key b) ≡ true = sym (lid_order all a b one there) ∙ lt-ltb (lid_of all a) (lid_of all b) less in
        let plain : nat_lt (1 + a.guid) (1 + b.guid) ≡ true = rw (e, f) at keys in
        omega (arith, ltb-true (1 + a.guid) (1 + b.guid) plain)

lid_one : (all : List EndPort) (port : EndPort) → lid_of all port ≡ 1 → port.is_sm ≡ true
lid_one all port h = by port.is_sm refl
  where
    by : (s : Bool) → port.is_sm ≡ s → port.is_sm ≡ true
    by true e = e
    by false e = let more : 2 + count_by (λ other. not other.is_sm && nat_lt other.guid port.guid) all ≡ 1 = rw e at h in absurd (omega arith)

-- what is there is there in any order
any_from_count : {X : Type 0} (p : X → Bool) (xs : List X) → 1 ≤ count_by p xs → list_any p xs ≡ true
any_from_count p [] h = absurd (omega arith)
any_from_count p (x ∷ xs) h = elim (cases_Bool (p x)) [
  | inl here ↦ or_left (p x) (list_any p xs) here
  | inr other ↦ or_right (p x) (list_any p xs) (any_from_count p xs (let out = count_no p x xs other in omega arith))
]

any_moved : {X : Type 0} (p : X → Bool) (xs ys : List X) → IsPermutation xs ys → list_any p xs ≡ true → list_any p ys ≡ true
any_moved p xs ys moved h =
    let same : count_by p ys ≡ count_by p xs = sum_by-IsPermutation (λ x. cond (p x) 1 0) xs ys moved in
    any_from_count p ys (omega (arith, count_some p xs h))

pub end_ports_stand_in_order : (partitions : List Partition) (plan : TopologyState) → IsSound plan → AreEndPorts partitions plan (ports_of partitions plan)
end_ports_stand_in_order partitions plan sound =
    let some = end_places plan in
    let all = end_ports some in
    let so = of_sound plan sound in
    let unsorted = map (known partitions plan.nodes all) some in
    let ports = ports_of partitions plan in
    let moved : IsPermutation unsorted ports =
    subst (λ (q : List SubnetPort). IsPermutation q ports) (same_ports partitions plan.nodes all some) (order_moves plan.nodes all (keyed partitions some) []) in
    let there : All (λ (end_place : EndPlace). IsThere all end_place.port) some = All-from_recursion (λ (end_place : EndPlace). IsThere all end_place.port) some so.there in
    let each : All (IsEndPlace plan) some = All-from_recursion (IsEndPlace plan) some so.each in
    let keys = own_keys some so.own (let counted = count_ports (λ (port : EndPort). port.is_sm) some in let one = so.one in omega arith) in
    let own_lids : IsDistinct same_lid ports = IsDistinct-IsPermutation same_lid (λ a b. same_either_way a.lid b.lid) unsorted ports moved (distinct_lids partitions plan.nodes all some so.one so.there keys) in
    let ranks : All (λ port. port.lid ≡ 1 + lower unsorted port) unsorted =
    All-map (λ port. port.lid ≡ 1 + lower unsorted port) (known partitions plan.nodes all) some
    (λ i d within. lid_by_key all (slice_index_or some i d).port so.one ∙ ap (λ n. 1 + n) (sym (lower_count partitions plan.nodes all (slice_index_or some i d).port some so.one so.there))) in
    let ranks_there : All (λ port. port.lid ≡ 1 + lower ports port) ports =
    All-permutation (λ port. port.lid ≡ 1 + lower ports port) unsorted ports moved
    (All-weaker (λ port. port.lid ≡ 1 + lower unsorted port) (λ port. port.lid ≡ 1 + lower ports port)
    (λ port h. h ∙ ap (λ n. 1 + n) (sym (sum_by-IsPermutation (λ other. cond (nat_lt other.lid port.lid) 1 0) unsorted ports moved))) unsorted ranks) in
    record {
      lids = numbered 1 ports (rises_all plan.nodes all (keyed partitions some) [] tt) own_lids ranks_there;
      manager = All-permutation (λ port. port.lid ≡ 1 → port.guid ≡ port_guid_at plan.nodes plan.sm) unsorted ports moved
          (All-map (λ port. port.lid ≡ 1 → port.guid ≡ port_guid_at plan.nodes plan.sm) (known partitions plan.nodes all) some
          (All-weaker (IsEndPlace plan) (λ (end_place : EndPlace). lid_of all end_place.port ≡ 1 → end_place.port.guid ≡ port_guid_at plan.nodes plan.sm) (λ end_place h e. sm_guid plan end_place h (lid_one all end_place.port e)) some each));
      by_guid = All-permutation (λ a. All (λ b. 1 < a.lid → a.lid < b.lid → a.guid < b.guid) ports) unsorted ports moved
          (All-map (λ a. All (λ b. 1 < a.lid → a.lid < b.lid → a.guid < b.guid) ports) (known partitions plan.nodes all) some
          (All-weaker (λ (end_place : EndPlace). IsThere all end_place.port) (λ (end_place : EndPlace). All (λ b. 1 < lid_of all end_place.port → lid_of all end_place.port < b.lid → end_place.port.guid < b.guid) ports)
          (λ end_place h. All-permutation (λ b. 1 < lid_of all end_place.port → lid_of all end_place.port < b.lid → end_place.port.guid < b.guid) unsorted ports moved
          (All-map (λ b. 1 < lid_of all end_place.port → lid_of all end_place.port < b.lid → end_place.port.guid < b.guid) (known partitions plan.nodes all) some
          (λ i d within. λ high less. guid_order all end_place.port (slice_index_or some i d).port so.one h high less))) some there));
      only = All-permutation (IsEndPort partitions plan) unsorted ports moved
          (All-map (IsEndPort partitions plan) (known partitions plan.nodes all) some (All-weaker (IsEndPlace plan) (λ end_place. IsEndPort partitions plan (known partitions plan.nodes all end_place)) (λ end_place h. is_of_end_place partitions plan all end_place h) some each));
      all = λ at h. any_moved (λ port. port.guid == port_guid_at plan.nodes at) unsorted ports moved
          (any_map (known partitions plan.nodes all) (λ port. port.guid == port_guid_at plan.nodes at) some
          ∙ any_so (IsEndPlace plan) (λ end_place. is_same_port (place_of end_place) at) (λ (end_place : EndPlace). end_place.port.guid == port_guid_at plan.nodes at) (λ end_place k. guid_there plan at end_place k) some so.each (so.all at h));
      own_guids = IsDistinct-IsPermutation same_guid (λ a b. same_either_way a.guid b.guid) unsorted ports moved (distinct_guids partitions plan.nodes all some so.own);
    }
