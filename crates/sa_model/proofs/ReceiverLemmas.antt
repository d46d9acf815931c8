-- The receivers of groups, in their order, and where a join changes them.
use Rattle.std.proofs.Common.{◌≡◌, ℕ, ◌+◌, ◌<◌, ◌≤◌, Bool, true, false, not, ◌==◌, ◌&&◌, ◌||◌, nat_lt, nat_le, List, [], ◌∷◌, ◌++◌, length, map, filter, Some, refl, sym, ◌∙◌, ap, subst, inl, inr, arith}
use Rattle.std.specs.List.{flat_map, list_all, list_any, range_with_len}
use Rattle.std.proofs.lemmas.Bool.{and_from, and_parts, both_ways, cases_Bool, eq-eqb, eqb-true, le-leb, leb-true, lt-ltb, not-true, not_from_false, or_cases, or_left, or_parts, or_right}
use Rattle.std.proofs.lemmas.Bool.Decides.{nat_tests}
use Rattle.step_results.proofs.ListLemmas.{all_joined, list_all_weaker, list_any_weaker, any_none, any_flat, any_map}
use Rattle.fabric_parts.specs.NodeType.{is_switch_type}
use Rattle.subnet_model.specs.Configured.{HaveLidsInOrder}
use Rattle.subnet_model.specs.Delivery.{port_with_guid}
use Rattle.subnet_model.specs.declared.group_receiver.GroupReceiver.{GroupReceiver}
use Rattle.subnet_model.specs.declared.subnet_port.SubnetPort.{SubnetPort}
use Rattle.sa_model.specs.Delivery.{receives, receives_in}
use Rattle.sa_model.specs.Groups.{MulticastGroup, PartitionGroups}
use Rattle.sa_model.specs.Joining.{Join, joined, joined_in, may_join}
use Rattle.step_results.specs.Truth.{same_answer}
use Rattle.sa_model.specs.ReceiverLaws.{JoinsChangeOne, NothingChangesAlone, ReceiversAreReached, ReceiversStandInOrder, comes_first, is_number_of, is_of_adapter, ChangesAreReported, OnlyChangesAreReported, has_number}
use Rattle.sa_model.specs.Receivers.{are_same_receivers, group_receivers, is_among, is_same_receiver, receives_group, receivers_in, receivers_of}
use Rattle.sa_model.specs.Sound.{is_in_range, is_sound_group, lower_mlid, pairwise}
use Rattle.sa_model.proofs.ListLemmas.{pairwise_append}
use Rattle.sa_model.proofs.SoundLemmas.{partition_parts, sound_parts}

-- ---- lists
pub any_alike : {X : Type 0} (p q : X → Bool) → ((x : X) → p x ≡ q x) → (xs : List X) → list_any p xs ≡ list_any q xs
any_alike p q same [] = refl
any_alike p q same (x ∷ xs) = λ place. same x place || any_alike p q same xs place

all_flat : {X Y : Type 0} (p : Y → Bool) (f : X → List Y) (q : X → Bool) → ((x : X) → q x ≡ true → list_all p (f x) ≡ true) → (xs : List X)
    → list_all q xs ≡ true → list_all p (flat_map f xs) ≡ true
all_flat p f q each [] all = refl
all_flat p f q each (x ∷ xs) all =
    let parts = and_parts (q x) (list_all q xs) all in
    all_joined p (f x) (flat_map f xs) (each x parts.0) (all_flat p f q each xs parts.1)

-- each element that passes stands in a relation to one that is there, as it stands in it to itself
one_more : {X : Type 0} (stands : X → X → Bool) (x : X) (xs kept : List X) → list_all (λ y. list_any (stands y) xs) kept ≡ true
    → list_all (λ y. stands y x || list_any (stands y) xs) kept ≡ true
one_more stands x xs kept all =
    list_all_weaker (λ y. list_any (stands y) xs) (λ y. stands y x || list_any (stands y) xs) (λ y there. later (stands y x) _ there) kept all
  where
    later : (a b : Bool) → b ≡ true → (a || b) ≡ true
    later true b h = refl
    later false b h = h

kept_there : {X : Type 0} (test : X → Bool) (stands : X → X → Bool) → ((x : X) → test x ≡ true → stands x x ≡ true) → (xs : List X)
    → list_all (λ x. list_any (stands x) xs) (filter test xs) ≡ true
kept_there test stands own [] = refl
kept_there test stands own (x ∷ xs) =
    let rest = one_more stands x xs (filter test xs) (kept_there test stands own xs) in
    elim (cases_Bool (test x)) [
      | inl passes ↦ rw (passes, own x passes) rest
      | inr fails ↦ rw fails rest
    ]

-- ---- LIDs in order
lids_behind : (n : ℕ) (ports : List SubnetPort) → map (λ port. port.lid) ports ≡ range_with_len n (length ports)
    → list_all (λ port. nat_le n port.lid) ports ≡ true
lids_behind n [] lids = refl
lids_behind n (port ∷ ports) lids =
    let head : port.lid ≡ n = cc in
    let tail : map (λ one. one.lid) ports ≡ range_with_len (n + 1) (length ports) = cc in
    and_from (nat_le n port.lid) _ (le-leb n port.lid (omega arith))
    (list_all_weaker (λ one. nat_le (n + 1) one.lid) (λ one. nat_le n one.lid)
    (λ one h. let high = leb-true (n + 1) one.lid h in le-leb n one.lid (omega arith)) ports (lids_behind (n + 1) ports tail))

lids_apart : (n lid : ℕ) (ports : List SubnetPort) (test : SubnetPort → Bool) → lid < n → list_all (λ port. nat_le n port.lid) ports ≡ true
    → list_any (λ port. lid == port.lid) (filter test ports) ≡ false
lids_apart n lid [] test low all = refl
lids_apart n lid (port ∷ ports) test low all =
    let parts = and_parts (nat_le n port.lid) _ all in
    let high = leb-true n port.lid parts.0 in
    let apart : (lid == port.lid) ≡ false = grind (arith, nat_tests) in
    elim (cases_Bool (test port)) [
      | inl passes ↦ rw (passes, apart) (lids_apart n lid ports test low parts.1)
      | inr fails ↦ rw fails (lids_apart n lid ports test low parts.1)
    ]

found_behind : (n : ℕ) (ports : List SubnetPort) (guid : ℕ) (port : SubnetPort) → list_all (λ one. nat_le n one.lid) ports ≡ true
    → port_with_guid ports guid ≡ Some port → n ≤ port.lid
found_behind n [] guid port all found = absurd (cc)
found_behind n (one ∷ ports) guid port all found =
    let parts = and_parts (nat_le n one.lid) _ all in
    elim (cases_Bool (one.guid == guid)) [
      | inl this ↦
          let head : Some one ≡ Some port = rw this at found in
          let same : one ≡ port = cc in
          subst (λ (p : SubnetPort). n ≤ p.lid) same (leb-true n one.lid parts.0)
      | inr other ↦ found_behind n ports guid port parts.1 (rw other at found)
    ]

-- the port of a LID is the one that is found by its GUID
one_of_lid : (n : ℕ) (ports : List SubnetPort) (port : SubnetPort) (test : SubnetPort → Bool)
    → map (λ one. one.lid) ports ≡ range_with_len n (length ports) → port_with_guid ports port.guid ≡ Some port
    → list_any (λ one. port.lid == one.lid) (filter test ports) ≡ test port
one_of_lid n [] port test lids found = absurd (cc)
one_of_lid n (one ∷ ports) port test lids found =
    let head : one.lid ≡ n = cc in
    let tail : map (λ other. other.lid) ports ≡ range_with_len (n + 1) (length ports) = cc in
    let behind = lids_behind (n + 1) ports tail in
    elim (cases_Bool (one.guid == port.guid)) [
      | inl this ↦
          let first : Some one ≡ Some port = rw this at found in
          let same : one ≡ port = cc in
          subst (λ (p : SubnetPort). list_any (λ other. p.lid == other.lid) (filter test (one ∷ ports)) ≡ test p) same (at_head one ports behind head)
      | inr other ↦ in_rest one ports behind head (rw other at found) (one_of_lid (n + 1) ports port test tail (rw other at found))
    ]
  where
    at_head : (first : SubnetPort) (rest : List SubnetPort) → list_all (λ p. nat_le (n + 1) p.lid) rest ≡ true → first.lid ≡ n
        → list_any (λ other. first.lid == other.lid) (filter test (first ∷ rest)) ≡ test first
    at_head first rest behind is = elim (cases_Bool (test first)) [
      | inl passes ↦ rw (passes, eq-eqb first.lid first.lid refl) refl
      | inr fails ↦ rw fails (lids_apart (n + 1) first.lid rest test (omega arith) behind)
    ]

    in_rest : (first : SubnetPort) (rest : List SubnetPort) → list_all (λ p. nat_le (n + 1) p.lid) rest ≡ true → first.lid ≡ n
        → port_with_guid rest port.guid ≡ Some port → list_any (λ other. port.lid == other.lid) (filter test rest) ≡ test port
        → list_any (λ other. port.lid == other.lid) (filter test (first ∷ rest)) ≡ test port
    in_rest first rest behind is found_there later =
        let high = found_behind (n + 1) rest port.guid port behind found_there in
        let apart : (port.lid == first.lid) ≡ false = grind (arith, nat_tests) in
        elim (cases_Bool (test first)) [
          | inl passes ↦ rw (passes, apart) later
          | inr fails ↦ rw fails later
        ]

-- ---- who is reached
pub turned : (a b : ℕ) → (a == b) ≡ (b == a)
turned a b = elim (cases_Bool (a == b)) [
  | inl same ↦ same ∙ sym (eq-eqb b a (sym (eqb-true a b same)))
  | inr other ↦ other ∙ sym (apart a b other)
]
  where
    apart : (m n : ℕ) → (m == n) ≡ false → (n == m) ≡ false
    apart m n h = grind (arith, nat_tests)

group_reached : (ports : List SubnetPort) (mlid : ℕ) (port : SubnetPort) (group : MulticastGroup) → HaveLidsInOrder ports
    → port_with_guid ports port.guid ≡ Some port → is_switch_type port.node_type ≡ false
    → is_among (group_receivers ports group) (record { mlid = mlid; lid = port.lid }) ≡ ((group.mlid == mlid) && list_any (receives port.guid) group.memberships)
group_reached ports mlid port group lids found adapter =
    any_map (is_same_receiver (record { mlid = mlid; lid = port.lid })) (λ one. record { mlid = group.mlid; lid = one.lid }) (filter (receives_group group) ports)
    ∙ elim (cases_Bool (mlid == group.mlid)) [
      | inl same ↦
          let back : (group.mlid == mlid) ≡ true = turned group.mlid mlid ∙ same in
          rw (same, back) (one_of_lid 1 ports port (receives_group group) lids found ∙ rw adapter refl)
      | inr other ↦
          let back : (group.mlid == mlid) ≡ false = turned group.mlid mlid ∙ other in
          rw (other, back) (any_none (filter (receives_group group) ports))
    ]

pub receivers_are_reached : ReceiversAreReached
receivers_are_reached ports partitions mlid port lids found adapter =
    let one : GroupReceiver = record { mlid = mlid; lid = port.lid } in
    any_flat (is_same_receiver one) (receivers_in ports) partitions
    ∙ any_alike (λ partition. is_among (receivers_in ports partition) one) (receives_in mlid port.guid)
    (λ partition. any_flat (is_same_receiver one) (group_receivers ports) partition.groups
    ∙ any_alike (λ group. is_among (group_receivers ports group) one) (λ group. (group.mlid == mlid) && list_any (receives port.guid) group.memberships)
    (λ group. group_reached ports mlid port group lids found adapter) partition.groups) partitions

-- ---- in what order they stand
flat_in_order : {X Y : Type 0} (before : X → X → Bool) (first : Y → Y → Bool) (f : X → List Y) → ((x : X) → pairwise first (f x) ≡ true)
    → ((x y : X) → before x y ≡ true → list_all (λ a. list_all (first a) (f y)) (f x) ≡ true) → (xs : List X) → pairwise before xs ≡ true
    → pairwise first (flat_map f xs) ≡ true
flat_in_order before first f each between [] order = refl
flat_in_order {X = X} {Y = Y} before first f each between (x ∷ xs) order =
    let parts = and_parts (list_all (before x) xs) (pairwise before xs) order in
    pairwise_append first (f x) (flat_map f xs) (each x) (flat_in_order before first f each between xs parts.1)
    (to_rest (f x) xs (λ y e. between x y e) parts.0)
  where
    to_rest : (firsts : List Y) (ys : List X) → ((y : X) → before x y ≡ true → list_all (λ a. list_all (first a) (f y)) firsts ≡ true) → list_all (before x) ys ≡ true
        → list_all (λ a. list_all (first a) (flat_map f ys)) firsts ≡ true
    to_rest [] ys to all = refl
    to_rest (a ∷ firsts) ys to all =
        and_from (list_all (first a) (flat_map f ys)) _
        (all_flat (first a) f (before x) (λ y e. (and_parts (list_all (first a) (f y)) _ (to y e)).0) ys all)
        (to_rest firsts ys (λ y e. (and_parts (list_all (first a) (f y)) _ (to y e)).1) all)

lids_rise : (n mlid : ℕ) (ports : List SubnetPort) (test : SubnetPort → Bool) → map (λ port. port.lid) ports ≡ range_with_len n (length ports)
    → pairwise comes_first (map (λ port. record { mlid = mlid; lid = port.lid }) (filter test ports)) ≡ true
lids_rise n mlid [] test lids = refl
lids_rise n mlid (port ∷ ports) test lids =
    let head : port.lid ≡ n = cc in
    let tail : map (λ one. one.lid) ports ≡ range_with_len (n + 1) (length ports) = cc in
    let rest = lids_rise (n + 1) mlid ports test tail in
    elim (cases_Bool (test port)) [
      | inl passes ↦
          rw passes
          (and_from _ _ (above port.lid ports (list_all_weaker (λ one. nat_le (n + 1) one.lid) (λ one. nat_lt port.lid one.lid)
          (λ one h. let high = leb-true (n + 1) one.lid h in lt-ltb port.lid one.lid (omega arith)) ports (lids_behind (n + 1) ports tail))) rest)
      | inr fails ↦ rw fails rest
    ]
  where
    above : (low : ℕ) (some : List SubnetPort) → list_all (λ one. nat_lt low one.lid) some ≡ true
        → list_all (comes_first (record { mlid = mlid; lid = low })) (map (λ one. record { mlid = mlid; lid = one.lid }) (filter test some)) ≡ true
    above low [] all = refl
    above low (one ∷ some) all =
        let parts = and_parts (nat_lt low one.lid) _ all in
        elim (cases_Bool (test one)) [
          | inl passes ↦ rw passes (and_from _ _ (second_is (nat_lt mlid mlid) (mlid == mlid) (nat_lt low one.lid) (eq-eqb mlid mlid refl) parts.0) (above low some parts.1))
          | inr fails ↦ rw fails (above low some parts.1)
        ]
      where
        second_is : (a b c : Bool) → b ≡ true → c ≡ true → (a || (b && c)) ≡ true
        second_is true b c e f = refl
        second_is false b c e f = and_from b c e f

lower_first : (a b : MulticastGroup) (ports some : List SubnetPort) → lower_mlid a b ≡ true
    → list_all (λ x. list_all (comes_first x) (map (λ port. record { mlid = b.mlid; lid = port.lid }) some)) (map (λ port. record { mlid = a.mlid; lid = port.lid }) ports) ≡ true
lower_first a b [] some lower = refl
lower_first a b (port ∷ ports) some lower = and_from _ _ (each some) (lower_first a b ports some lower)
  where
    each : (others : List SubnetPort) → list_all (comes_first (record { mlid = a.mlid; lid = port.lid })) (map (λ other. record { mlid = b.mlid; lid = other.lid }) others) ≡ true
    each [] = refl
    each (other ∷ others) = rw lower (each others)

all_same : {X Y : Type 0} (p : Y → Bool) (f : X → Y) → ((x : X) → p (f x) ≡ true) → (xs : List X) → list_all p (map f xs) ≡ true
all_same p f each [] = refl
all_same p f each (x ∷ xs) = and_from (p (f x)) _ (each x) (all_same p f each xs)

all_mapped : {X Y : Type 0} (p : Y → Bool) (f : X → Y) (xs : List X) → list_all (λ x. p (f x)) xs ≡ true → list_all p (map f xs) ≡ true
all_mapped p f [] all = refl
all_mapped p f (x ∷ xs) all = let parts = and_parts (p (f x)) _ all in and_from (p (f x)) _ parts.0 (all_mapped p f xs parts.1)

any_group : MulticastGroup → Bool
any_group group = true

each_group : (groups : List MulticastGroup) → list_all any_group groups ≡ true
unfolding any_group
each_group [] = refl
each_group (group ∷ groups) = each_group groups

pub receivers_stand_in_order : ReceiversStandInOrder
receivers_stand_in_order ports partition lids sound =
    let parts = partition_parts ports partition sound in
    record {
      order = flat_in_order lower_mlid comes_first (group_receivers ports) (λ group. lids_rise 1 group.mlid ports (receives_group group) lids)
          (λ a b lower. lower_first a b (filter (receives_group a) ports) (filter (receives_group b) ports) lower) partition.groups parts.order;
      range = all_flat (λ one. is_in_range partition.number one.mlid) (group_receivers ports) (is_sound_group ports partition)
          (λ group is. all_same (λ one. is_in_range partition.number one.mlid) (λ port. record { mlid = group.mlid; lid = port.lid })
          (λ port. (sound_parts ports partition group is).ranged) (filter (receives_group group) ports)) partition.groups parts.each;
      adapters = all_flat (λ one. is_of_adapter ports one.lid) (group_receivers ports) any_group
          (λ group any. all_mapped (λ one. is_of_adapter ports one.lid) (λ port. record { mlid = group.mlid; lid = port.lid }) (filter (receives_group group) ports)
          (kept_there (receives_group group) (λ port other. (other.lid == port.lid) && not (is_switch_type other.node_type)) (own group) ports))
          partition.groups (each_group partition.groups);
    }
  where
    own : (group : MulticastGroup) (port : SubnetPort) → receives_group group port ≡ true → ((port.lid == port.lid) && not (is_switch_type port.node_type)) ≡ true
    own group port receives_here =
        let halves = and_parts (not (is_switch_type port.node_type)) _ receives_here in
        and_from (port.lid == port.lid) _ (eq-eqb port.lid port.lid refl) halves.0

-- ---- where they change
all_among : (xs : List GroupReceiver) → list_all (is_among xs) xs ≡ true
all_among xs =
    subst (λ (some : List GroupReceiver). list_all (is_among xs) some ≡ true) (all_kept xs)
    (kept_there (λ one. true) is_same_receiver (λ one any. and_from _ _ (eq-eqb one.mlid one.mlid refl) (eq-eqb one.lid one.lid refl)) xs)
  where
    all_kept : (some : List GroupReceiver) → filter (λ one. true) some ≡ some
    all_kept [] = refl
    all_kept (one ∷ some) = ap (λ rest. one ∷ rest) (all_kept some)

same_as_itself : (xs : List GroupReceiver) → are_same_receivers xs xs ≡ true
same_as_itself xs = and_from _ _ (all_among xs) (all_among xs)

pub nothing_changes_alone : NothingChangesAlone
nothing_changes_alone ports partitions = none (map (λ partition. partition.number) partitions)
  where
    none : (numbers : List ℕ) → filter (λ number. not (are_same_receivers (receivers_of ports number partitions) (receivers_of ports number partitions))) numbers ≡ []
    none [] = refl
    none (number ∷ numbers) = rw (same_as_itself (receivers_of ports number partitions)) (none numbers)

-- where all of some are among others, each one that is among these is
is_through : (a b c : GroupReceiver) → is_same_receiver a b ≡ true → is_same_receiver b c ≡ true → is_same_receiver a c ≡ true
is_through a b c first second =
    let x = and_parts (a.mlid == b.mlid) (a.lid == b.lid) first in
    let y = and_parts (b.mlid == c.mlid) (b.lid == c.lid) second in
    and_from _ _ (eq-eqb a.mlid c.mlid (eqb-true a.mlid b.mlid x.0 ∙ eqb-true b.mlid c.mlid y.0)) (eq-eqb a.lid c.lid (eqb-true a.lid b.lid x.1 ∙ eqb-true b.lid c.lid y.1))

pub among_too : (xs ys : List GroupReceiver) (one : GroupReceiver) → list_all (is_among ys) xs ≡ true → is_among xs one ≡ true → is_among ys one ≡ true
among_too [] ys one all there = absurd (cc)
among_too (x ∷ xs) ys one all there =
    let parts = and_parts (is_among ys x) _ all in
    elim (cases_Bool (is_same_receiver one x)) [
      | inl this ↦ list_any_weaker (is_same_receiver x) (is_same_receiver one) (λ y same. is_through one x y this same) ys parts.0
      | inr other ↦ among_too xs ys one parts.1 (rw other at there)
    ]

-- so lists of which one has what the other has not are not the same
are_others : (xs ys : List GroupReceiver) (one : GroupReceiver) → same_answer (is_among xs one) (is_among ys one) ≡ false → not (are_same_receivers xs ys) ≡ true
are_others xs ys one differ = elim (cases_Bool (are_same_receivers xs ys)) [
  | inl same ↦
      let halves = and_parts (list_all (is_among ys) xs) (list_all (is_among xs) ys) same in
      absurd (elim (cases_Bool (is_among xs one)) [
        | inl in_xs ↦ both_ways (same_answer (is_among xs one) (is_among ys one)) differ (rw (in_xs) (among_too xs ys one halves.0 in_xs))
        | inr not_in ↦ elim (cases_Bool (is_among ys one)) [
          | inl in_ys ↦ both_ways (is_among xs one) not_in (among_too ys xs one halves.1 in_ys)
          | inr neither ↦ both_ways (same_answer (is_among xs one) (is_among ys one)) differ (rw (not_in, neither) refl)
        ]
      ])
  | inr other ↦ not_from_false (are_same_receivers xs ys) other
]

pub changes_are_reported : ChangesAreReported
changes_are_reported ports before after number one there differ = reported before there
  where
    changes : not (are_same_receivers (receivers_of ports number before) (receivers_of ports number after)) ≡ true
    changes = are_others (receivers_of ports number before) (receivers_of ports number after) one differ

    at_number : (n : ℕ) → (n == number) ≡ true → not (are_same_receivers (receivers_of ports n before) (receivers_of ports n after)) ≡ true
    at_number n same = subst (λ (m : ℕ). not (are_same_receivers (receivers_of ports m before) (receivers_of ports m after)) ≡ true) (sym (eqb-true n number same)) changes

    reported : (some : List PartitionGroups) → list_any (λ partition. partition.number == number) some ≡ true
        → list_any (λ n. n == number)
        (filter (λ n. not (are_same_receivers (receivers_of ports n before) (receivers_of ports n after))) (map (λ partition. partition.number) some)) ≡ true
    reported [] there_is = absurd (cc)
    reported (partition ∷ some) there_is = elim (cases_Bool (partition.number == number)) [
      | inl this ↦ rw (at_number partition.number this, this) refl
      | inr other ↦ elim (cases_Bool (not (are_same_receivers (receivers_of ports partition.number before) (receivers_of ports partition.number after)))) [
        | inl reported_too ↦ rw (reported_too, other) (reported some (rw other at there_is))
        | inr unreported ↦ rw unreported (reported some (rw other at there_is))
      ]
    ]

-- lists that are not the same: one has what the other has not
is_itself : (one : GroupReceiver) → is_same_receiver one one ≡ true
is_itself one = and_from _ _ (eq-eqb one.mlid one.mlid refl) (eq-eqb one.lid one.lid refl)

pub record Missing (xs ys : List GroupReceiver) : Type 0 where
  pub one : GroupReceiver
  pub there : is_among xs one ≡ true
  pub missing : is_among ys one ≡ false

one_missing : (xs ys : List GroupReceiver) → list_all (is_among ys) xs ≡ false → Missing xs ys
one_missing [] ys some = absurd (cc)
one_missing (x ∷ xs) ys some = elim (cases_Bool (is_among ys x)) [
  | inl in_ys ↦
      let later = one_missing xs ys (rw in_ys at some) in
      record { one = later.one; there = or_right (is_same_receiver later.one x) (is_among xs later.one) later.there; missing = later.missing }
  | inr not_in ↦ record { one = x; there = or_left (is_same_receiver x x) (is_among xs x) (is_itself x); missing = not_in }
]

pub record Differing (xs ys : List GroupReceiver) : Type 0 where
  pub one : GroupReceiver
  pub differs : same_answer (is_among xs one) (is_among ys one) ≡ false

one_differs : (xs ys : List GroupReceiver) → not (are_same_receivers xs ys) ≡ true → Differing xs ys
one_differs xs ys other = elim (cases_Bool (list_all (is_among ys) xs)) [
  | inl all ↦ elim (cases_Bool (list_all (is_among xs) ys)) [
    | inl all_too ↦
        absurd (both_ways (are_same_receivers xs ys) (not-true (are_same_receivers xs ys) other) (and_from _ _ all all_too))
    | inr some ↦
        let comes = one_missing ys xs some in
        record { one = comes.one; differs = rw (comes.missing, comes.there) refl }
  ]
  | inr some ↦
      let goes = one_missing xs ys some in
      record { one = goes.one; differs = rw (goes.there, goes.missing) refl }
]

abbrev changes_at : List SubnetPort → List PartitionGroups → List PartitionGroups → ℕ → Bool
changes_at ports before after number = not (are_same_receivers (receivers_of ports number before) (receivers_of ports number after))

reported_there : (changes : ℕ → Bool) (number : ℕ) (some : List PartitionGroups)
    → list_any (λ n. n == number) (filter changes (map (λ partition. partition.number) some)) ≡ true
    → (has_number number some ≡ true) × (changes number ≡ true)
reported_there changes number [] reported = absurd (cc)
reported_there changes number (partition ∷ some) reported = elim (cases_Bool (changes partition.number)) [
  | inl changed ↦ elim (or_cases (partition.number == number) _ (rw changed at reported)) [
    | inl this ↦ (
      or_left (partition.number == number) (has_number number some) this,
      subst (λ (n : ℕ). changes n ≡ true) (eqb-true partition.number number this) changed,
    )
    | inr later ↦
        let rest = reported_there changes number some later in
        (or_right (partition.number == number) (has_number number some) rest.0, rest.1)
  ]
  | inr same ↦
      let rest = reported_there changes number some (rw same at reported) in
      (or_right (partition.number == number) (has_number number some) rest.0, rest.1)
]

pub only_changes_are_reported : OnlyChangesAreReported
only_changes_are_reported ports before after number reported =
    let found = reported_there (changes_at ports before after) number before reported in
    let changed = one_differs (receivers_of ports number before) (receivers_of ports number after) found.1 in
    record { there = found.0; one = changed.one; differs = changed.differs }

-- a join changes nothing of a number that is none of its base
untouched : (ports : List SubnetPort) (join : Join) (number : ℕ) (partitions : List PartitionGroups) → is_number_of join.base partitions number ≡ false
    → receivers_of ports number (joined ports join partitions) ≡ receivers_of ports number partitions
untouched ports join number [] other = refl
untouched ports join number (partition ∷ partitions) other =
    let parts = or_parts ((partition.number == number) && (partition.base == join.base)) _ other in
    let rest = untouched ports join number partitions parts.1 in
    elim (cases_Bool (partition.base == join.base)) [
      | inl same ↦
          let apart : (partition.number == number) ≡ false = first_of (partition.number == number) (partition.base == join.base) same parts.0 in
          let still : ((joined_in ports join partition).number == number) ≡ false = ap (λ (n : ℕ). n == number) (number_stays partition) ∙ apart in
          rw (still, apart) rest
      | inr different ↦ rw different (left_alone rest)
    ]
  where
    first_of : (a b : Bool) → b ≡ true → (a && b) ≡ false → a ≡ false
    first_of true b e h = absurd (cc)
    first_of false b e h = refl

    number_stays : (one : PartitionGroups) → (joined_in ports join one).number ≡ one.number
    number_stays one = elim (cases_Bool ((one.base == join.base) && may_join ports join)) [
      | inl here ↦ rw here refl
      | inr there ↦ rw there refl
    ]

    left_alone : receivers_of ports number (joined ports join partitions) ≡ receivers_of ports number partitions
        → receivers_of ports number (partition ∷ joined ports join partitions) ≡ receivers_of ports number (partition ∷ partitions)
    left_alone same = elim (cases_Bool (partition.number == number)) [
      | inl this ↦ rw this (ap (λ more. receivers_in ports partition ++ more) same)
      | inr that ↦ rw that same
    ]

abbrev is_changed : List SubnetPort → Join → List PartitionGroups → ℕ → Bool
is_changed ports join partitions number =
    not (are_same_receivers (receivers_of ports number partitions) (receivers_of ports number (joined ports join partitions)))

of_base : (ports : List SubnetPort) (join : Join) (partitions : List PartitionGroups) (number : ℕ) → is_changed ports join partitions number ≡ true
    → is_number_of join.base partitions number ≡ true
of_base ports join partitions number changed = elim (cases_Bool (is_number_of join.base partitions number)) [
  | inl it_is ↦ it_is
  | inr no_such ↦
      let same : is_changed ports join partitions number ≡ false =
      ap (λ (after : List GroupReceiver). not (are_same_receivers (receivers_of ports number partitions) after)) (untouched ports join number partitions no_such)
      ∙ ap not (same_as_itself (receivers_of ports number partitions)) in
      absurd (both_ways _ same changed)
]

pub joins_change_one : JoinsChangeOne
joins_change_one ports join partitions = all_of (map (λ partition. partition.number) partitions)
  where
    all_of : (numbers : List ℕ) → list_all (is_number_of join.base partitions) (filter (is_changed ports join partitions) numbers) ≡ true
    all_of [] = refl
    all_of (number ∷ numbers) = elim (cases_Bool (is_changed ports join partitions number)) [
      | inl changed ↦ rw changed (and_from (is_number_of join.base partitions number) _ (of_base ports join partitions number changed) (all_of numbers))
      | inr same ↦ rw same (all_of numbers)
    ]
