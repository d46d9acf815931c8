-- Where the receivers of a partition change, reported by one MLID and by the GUIDs of ports.
use Rattle.std.proofs.Common.{◌≡◌, ℕ, zero, suc, ◌+◌, ◌<◌, ◌≤◌, ◌==◌, Bool, true, false, not, ◌&&◌, ◌||◌, List, [], ◌∷◌, ◌++◌, length, map, filter, Some}
use Rattle.std.proofs.Common.{refl, sym, ◌∙◌, ap, subst, inl, inr, arith}
use Rattle.std.specs.List.{AllByRecursion, IsDistinct, list_all, list_any, range_with_len}
use Rattle.std.proofs.Math.Bool.{and_comm, or-false}
use Rattle.std.proofs.lemmas.Bool.{and_from, and_parts, both_ways, cases_Bool, eq-eqb, eqb-true, ne_eqb, not-true, or_left, or_parts, or_right}
use Rattle.std.proofs.lemmas.List.{append-nil}
use Rattle.std.proofs.lemmas.Map.Keys.{IsDistinct-head, IsDistinct-tail}
use Rattle.step_results.proofs.ListLemmas.{all_joined, list_all_weaker}
use Rattle.fabric_parts.specs.NodeType.{is_switch_type}
use Rattle.subnet_model.specs.Configured.{HaveLidsInOrder, same_guid}
use Rattle.subnet_model.specs.Delivery.{port_with_guid}
use Rattle.subnet_model.specs.declared.group_receiver.GroupReceiver.{GroupReceiver}
use Rattle.subnet_model.specs.declared.subnet_port.SubnetPort.{SubnetPort}
use Rattle.sa_model.specs.Delivery.{receives_in}
use Rattle.sa_model.specs.Groups.{MulticastGroup, PartitionGroups}
use Rattle.sa_model.specs.ReceiverLaws.{is_of_adapter}
use Rattle.sa_model.specs.Receivers.{are_same_receivers, changed_numbers, group_receivers, is_among, is_same_receiver, receives_group, receivers_in, receivers_of}
use Rattle.sa_model.proofs.ReceiverLemmas.{among_too, receivers_are_reached}
use Rattle.sa_store.specs.Receiving.{has_changed, numbers_changed}

-- ---- a port that passes a test is the one of its GUID
pub record Passes (test : SubnetPort → Bool) (ports : List SubnetPort) : Type 0 where
  pub port : SubnetPort
  pub found : port_with_guid ports port.guid ≡ Some port
  pub passes : test port ≡ true

other_first : (first : SubnetPort) (ports : List SubnetPort) (guid : ℕ) (port : SubnetPort) → AllByRecursion (λ other. same_guid first other ≡ false) ports
    → port_with_guid ports guid ≡ Some port → (first.guid == port.guid) ≡ false
other_first first [] guid port others found = absurd (cc)
other_first first (one ∷ ports) guid port others found = elim (cases_Bool (one.guid == guid)) [
  | inl here ↦
      let head : Some one ≡ Some port = rw here at found in
      let same : one ≡ port = cc in
      subst (λ (p : SubnetPort). (first.guid == p.guid) ≡ false) same others.0
  | inr later ↦ other_first first ports guid port others.1 (rw later at found)
]

pub one_passes : (test : SubnetPort → Bool) (ports : List SubnetPort) → IsDistinct same_guid ports → list_any test ports ≡ true → Passes test ports
one_passes test [] distinct some = absurd (cc)
one_passes test (first ∷ ports) distinct some = elim (cases_Bool (test first)) [
  | inl here ↦ record { port = first; found = rw (eq-eqb first.guid first.guid refl) refl; passes = here }
  | inr fails ↦
      let rest = one_passes test ports (IsDistinct-tail same_guid first ports distinct) (rw fails at some) in
      let others = IsDistinct-head same_guid first ports distinct in
      let apart : (first.guid == rest.port.guid) ≡ false = other_first first ports rest.port.guid rest.port others rest.found in
      record { port = rest.port; found = rw apart rest.found; passes = rest.passes }
]

pub none_passes : (test : SubnetPort → Bool) (ports : List SubnetPort) (guid : ℕ) (port : SubnetPort) → list_any test ports ≡ false
    → port_with_guid ports guid ≡ Some port → test port ≡ false
none_passes test [] guid port none found = absurd (cc)
none_passes test (one ∷ ports) guid port none found =
    let parts = or_parts (test one) (list_any test ports) none in
    elim (cases_Bool (one.guid == guid)) [
      | inl here ↦
          let head : Some one ≡ Some port = rw here at found in
          let same : one ≡ port = cc in
          ap test (sym same) ∙ parts.0
      | inr later ↦ none_passes test ports guid port parts.1 (rw later at found)
    ]

-- ---- who is among the receivers of a partition
among_is : (ports : List SubnetPort) (partition : PartitionGroups) (mlid : ℕ) (port : SubnetPort) → HaveLidsInOrder ports
    → port_with_guid ports port.guid ≡ Some port → is_switch_type port.node_type ≡ false
    → is_among (receivers_in ports partition) (record { mlid = mlid; lid = port.lid }) ≡ receives_in mlid port.guid partition
among_is ports partition mlid port lids found adapter =
    ap (λ (all : List GroupReceiver). is_among all (record { mlid = mlid; lid = port.lid })) (sym (append-nil (receivers_in ports partition)))
    ∙ receivers_are_reached ports (partition ∷ []) mlid port lids found adapter
    ∙ or-false (receives_in mlid port.guid partition)

is_itself : (one : GroupReceiver) → is_same_receiver one one ≡ true
is_itself one = and_from _ _ (eq-eqb one.mlid one.mlid refl) (eq-eqb one.lid one.lid refl)

all_among : (some : List GroupReceiver) → list_all (is_among some) some ≡ true
all_among [] = refl
all_among (one ∷ some) =
    and_from _ _ (or_left (is_same_receiver one one) (is_among some one) (is_itself one))
    (list_all_weaker (is_among some) (is_among (one ∷ some)) (λ x there. or_right (is_same_receiver x one) (is_among some x) there) some (all_among some))

all_both : {X : Type 0} (p q : X → Bool) (xs : List X) → list_all p xs ≡ true → list_all q xs ≡ true → list_all (λ x. p x && q x) xs ≡ true
all_both p q [] a b = refl
all_both p q (x ∷ xs) a b =
    let first = and_parts (p x) (list_all p xs) a in
    let second = and_parts (q x) (list_all q xs) b in
    and_from _ _ (and_from (p x) (q x) first.0 second.0) (all_both p q xs first.1 second.1)

of_adapters : (mlid : ℕ) (test : SubnetPort → Bool) → ((port : SubnetPort) → test port ≡ true → not (is_switch_type port.node_type) ≡ true) → (ports : List SubnetPort)
    → list_all (λ (one : GroupReceiver). is_of_adapter ports one.lid) (map (λ port. record { mlid = mlid; lid = port.lid }) (filter test ports)) ≡ true
of_adapters mlid test adapters [] = refl
of_adapters mlid test adapters (port ∷ ports) =
    let rest = list_all_weaker (λ (one : GroupReceiver). is_of_adapter ports one.lid) (λ (one : GroupReceiver). is_of_adapter (port ∷ ports) one.lid)
    (λ one there. or_right ((port.lid == one.lid) && not (is_switch_type port.node_type)) (is_of_adapter ports one.lid) there)
    (map (λ other. record { mlid = mlid; lid = other.lid }) (filter test ports)) (of_adapters mlid test adapters ports) in
    elim (cases_Bool (test port)) [
      | inl passes ↦
          rw passes
          (and_from _ _ (or_left _ _ (and_from (port.lid == port.lid) _ (eq-eqb port.lid port.lid refl) (adapters port passes))) rest)
      | inr fails ↦ rw fails rest
    ]

all_of_adapters : (ports : List SubnetPort) (partition : PartitionGroups) → list_all (λ one. is_of_adapter ports one.lid) (receivers_in ports partition) ≡ true
all_of_adapters ports partition = each partition.groups
  where
    each : (groups : List MulticastGroup) → list_all (λ (one : GroupReceiver). is_of_adapter ports one.lid) (receivers_in ports (record partition { groups = groups })) ≡ true
    each [] = refl
    each (group ∷ groups) =
        all_joined (λ (one : GroupReceiver). is_of_adapter ports one.lid) (group_receivers ports group) _
        (of_adapters group.mlid (receives_group group) (λ port receives. (and_parts (not (is_switch_type port.node_type)) _ receives).0) ports)
        (each groups)

-- ---- all receivers of one partition are among those of another where its adapters receive there too
abbrev ReceiveToo : List SubnetPort → PartitionGroups → PartitionGroups → Type 0
ReceiveToo ports some others =
    (mlid : ℕ) (port : SubnetPort) → port_with_guid ports port.guid ≡ Some port → is_switch_type port.node_type ≡ false
    → receives_in mlid port.guid some ≡ true → receives_in mlid port.guid others ≡ true

all_too : (ports : List SubnetPort) (some others : PartitionGroups) → HaveLidsInOrder ports → IsDistinct same_guid ports → ReceiveToo ports some others
    → list_all (is_among (receivers_in ports others)) (receivers_in ports some) ≡ true
all_too ports some others lids distinct too =
    list_all_weaker (λ one. is_among (receivers_in ports some) one && is_of_adapter ports one.lid) (is_among (receivers_in ports others))
    (λ one here. there one (and_parts (is_among (receivers_in ports some) one) (is_of_adapter ports one.lid) here).0
    (and_parts (is_among (receivers_in ports some) one) (is_of_adapter ports one.lid) here).1)
    (receivers_in ports some)
    (all_both (is_among (receivers_in ports some)) (λ (one : GroupReceiver). is_of_adapter ports one.lid) (receivers_in ports some)
    (all_among (receivers_in ports some)) (all_of_adapters ports some))
  where
    there : (one : GroupReceiver) → is_among (receivers_in ports some) one ≡ true → is_of_adapter ports one.lid ≡ true
        → is_among (receivers_in ports others) one ≡ true
    there one among of_adapter =
        let own = one_passes (λ port. (port.lid == one.lid) && not (is_switch_type port.node_type)) ports distinct of_adapter in
        let tests = and_parts (own.port.lid == one.lid) (not (is_switch_type own.port.node_type)) own.passes in
        let lid : own.port.lid ≡ one.lid = eqb-true own.port.lid one.lid tests.0 in
        let adapter = not-true (is_switch_type own.port.node_type) tests.1 in
        let received : receives_in one.mlid own.port.guid some ≡ true =
        sym (among_is ports some one.mlid own.port lids own.found adapter)
        ∙ ap (λ (n : ℕ). is_among (receivers_in ports some) (record { mlid = one.mlid; lid = n })) lid ∙ among in
        ap (λ (n : ℕ). is_among (receivers_in ports others) (record { mlid = one.mlid; lid = n })) (sym lid)
        ∙ among_is ports others one.mlid own.port lids own.found adapter
        ∙ too one.mlid own.port own.found adapter received

-- ---- one comes that was not there
not_all : (some others : List GroupReceiver) (one : GroupReceiver) → is_among some one ≡ true → is_among others one ≡ false
    → list_all (is_among others) some ≡ false
not_all some others one there missing = elim (cases_Bool (list_all (is_among others) some)) [
  | inl all ↦ absurd (both_ways (is_among others one) missing (among_too some others one all there))
  | inr other ↦ other
]

-- ---- ports begin to receive under one MLID, and nothing else changes
-- an adapter's port that does so, and did not receive there
abbrev comes_anew : PartitionGroups → ℕ → (ℕ → Bool) → SubnetPort → Bool
comes_anew before mlid gains port = not (is_switch_type port.node_type) && (gains port.guid && not (receives_in mlid port.guid before))

abbrev Gains : PartitionGroups → PartitionGroups → ℕ → (ℕ → Bool) → Type 0
Gains before after mlid gains = (m guid : ℕ) → receives_in m guid after ≡ (receives_in m guid before || ((m == mlid) && gains guid))

kept_all : (ports : List SubnetPort) (before after : PartitionGroups) (mlid : ℕ) (gains : ℕ → Bool) → HaveLidsInOrder ports → IsDistinct same_guid ports
    → Gains before after mlid gains → list_all (is_among (receivers_in ports after)) (receivers_in ports before) ≡ true
kept_all ports before after mlid gains lids distinct gained =
    all_too ports before after lids distinct
    (λ m port found adapter received. gained m port.guid ∙ or_left (receives_in m port.guid before) ((m == mlid) && gains port.guid) received)

nothing_new : (ports : List SubnetPort) (before after : PartitionGroups) (mlid : ℕ) (gains : ℕ → Bool) → HaveLidsInOrder ports → IsDistinct same_guid ports
    → Gains before after mlid gains → list_any (comes_anew before mlid gains) ports ≡ false
    → list_all (is_among (receivers_in ports before)) (receivers_in ports after) ≡ true
nothing_new ports before after mlid gains lids distinct gained none =
    all_too ports after before lids distinct (λ m port found adapter received. was m port found adapter (sym (gained m port.guid) ∙ received))
  where
    old : (a b c : Bool) → (c && not a) ≡ false → (a || (b && c)) ≡ true → a ≡ true
    old true b c fails is = refl
    old false true true fails is = absurd (cc)
    old false true false fails is = absurd (cc)
    old false false c fails is = absurd (cc)

    at_mlid : (m : ℕ) (port : SubnetPort) → (m == mlid) ≡ true → (gains port.guid && not (receives_in mlid port.guid before)) ≡ false
        → (receives_in m port.guid before || ((m == mlid) && gains port.guid)) ≡ true → receives_in m port.guid before ≡ true
    at_mlid m port same fails is =
        let equal : m ≡ mlid = eqb-true m mlid same in
        old (receives_in m port.guid before) (m == mlid) (gains port.guid)
        (subst (λ (n : ℕ). (gains port.guid && not (receives_in n port.guid before)) ≡ false) (sym equal) fails) is

    was : (m : ℕ) (port : SubnetPort) → port_with_guid ports port.guid ≡ Some port → is_switch_type port.node_type ≡ false
        → (receives_in m port.guid before || ((m == mlid) && gains port.guid)) ≡ true → receives_in m port.guid before ≡ true
    was m port found adapter is = elim (cases_Bool (m == mlid)) [
      | inl same ↦ at_mlid m port same (rw adapter at (none_passes (comes_anew before mlid gains) ports port.guid port none found)) is
      | inr other ↦ sym (or-false (receives_in m port.guid before)) ∙ rw other at is
    ]

something_new : (ports : List SubnetPort) (before after : PartitionGroups) (mlid : ℕ) (gains : ℕ → Bool) → HaveLidsInOrder ports → IsDistinct same_guid ports
    → Gains before after mlid gains → list_any (comes_anew before mlid gains) ports ≡ true
    → list_all (is_among (receivers_in ports before)) (receivers_in ports after) ≡ false
something_new ports before after mlid gains lids distinct gained some =
    let new = one_passes (comes_anew before mlid gains) ports distinct some in
    let port = new.port in
    let tests = and_parts (not (is_switch_type port.node_type)) _ new.passes in
    let adapter = not-true (is_switch_type port.node_type) tests.0 in
    let begins = and_parts (gains port.guid) _ tests.1 in
    let own : GroupReceiver = record { mlid = mlid; lid = port.lid } in
    let receives : receives_in mlid port.guid after ≡ true =
    gained mlid port.guid
    ∙ or_right (receives_in mlid port.guid before) ((mlid == mlid) && gains port.guid) (and_from (mlid == mlid) (gains port.guid) (eq-eqb mlid mlid refl) begins.0) in
    not_all (receivers_in ports after) (receivers_in ports before) own
    (among_is ports after mlid port lids new.found adapter ∙ receives)
    (among_is ports before mlid port lids new.found adapter ∙ not-true (receives_in mlid port.guid before) begins.1)

pub one_gained : (ports : List SubnetPort) (before after : PartitionGroups) (mlid : ℕ) (gains : ℕ → Bool) → HaveLidsInOrder ports
    → IsDistinct same_guid ports
    → ((m guid : ℕ) → receives_in m guid after ≡ (receives_in m guid before || ((m == mlid) && gains guid)))
    → has_changed ports before after
    ≡ list_any (λ port. not (is_switch_type port.node_type) && (gains port.guid && not (receives_in mlid port.guid before))) ports
one_gained ports before after mlid gains lids distinct gained =
    let kept = kept_all ports before after mlid gains lids distinct gained in
    elim (cases_Bool (list_any (comes_anew before mlid gains) ports)) [
      | inl some ↦ rw (kept, something_new ports before after mlid gains lids distinct gained some) (sym some)
      | inr none ↦ rw (kept, nothing_new ports before after mlid gains lids distinct gained none) (sym none)
    ]

-- ---- ports receive no more
turned : (ports : List SubnetPort) (before after : PartitionGroups) → has_changed ports before after ≡ has_changed ports after before
turned ports before after =
    ap not (and_comm (list_all (is_among (receivers_in ports after)) (receivers_in ports before)) (list_all (is_among (receivers_in ports before)) (receivers_in ports after)))

pub one_lost : (ports : List SubnetPort) (before after : PartitionGroups) (mlid : ℕ) (loses : ℕ → Bool) → HaveLidsInOrder ports
    → IsDistinct same_guid ports
    → ((m guid : ℕ) → receives_in m guid before ≡ (receives_in m guid after || ((m == mlid) && loses guid)))
    → has_changed ports before after
    ≡ list_any (λ port. not (is_switch_type port.node_type) && (loses port.guid && not (receives_in mlid port.guid after))) ports
one_lost ports before after mlid loses lids distinct lost = turned ports before after ∙ one_gained ports after before mlid loses lids distinct lost

-- ---- nothing changes
pub unchanged : (ports : List SubnetPort) (partition : PartitionGroups) → has_changed ports partition partition ≡ false
unchanged ports partition = rw (all_among (receivers_in ports partition)) refl

-- ---- of all partitions: the number of each is its place
abbrev numbers_of : List PartitionGroups → List ℕ
numbers_of partitions = map (λ partition. partition.number) partitions

none_numbered : (ports : List SubnetPort) (n first count : ℕ) (partitions : List PartitionGroups) → numbers_of partitions ≡ range_with_len first count → n < first
    → receivers_of ports n partitions ≡ []
none_numbered ports n first count [] numbers low = refl
none_numbered ports n first zero (partition ∷ partitions) numbers low = absurd (cc)
none_numbered ports n first (suc count) (partition ∷ partitions) numbers low =
    let head : partition.number ≡ first = cc in
    let tail : numbers_of partitions ≡ range_with_len (first + 1) count = cc in
    let other : (partition.number == n) ≡ false = ne_eqb partition.number n (λ same. omega (arith, same, head, low)) in
    rw other (none_numbered ports n (first + 1) count partitions tail (omega (arith, low)))

own_numbered : (ports : List SubnetPort) (n count : ℕ) (partition : PartitionGroups) (partitions : List PartitionGroups)
    → numbers_of (partition ∷ partitions) ≡ range_with_len n (suc count) → receivers_of ports n (partition ∷ partitions) ≡ receivers_in ports partition
own_numbered ports n count partition partitions numbers =
    let head : partition.number ≡ n = cc in
    let tail : numbers_of partitions ≡ range_with_len (n + 1) count = cc in
    let own : (partition.number == n) ≡ true = eq-eqb partition.number n head in
    let none = none_numbered ports n (n + 1) count partitions tail (omega arith) in
    rw own (ap (λ (rest : List GroupReceiver). receivers_in ports partition ++ rest) none ∙ append-nil (receivers_in ports partition))

later_numbered : (ports : List SubnetPort) (n count k : ℕ) (partition : PartitionGroups) (partitions : List PartitionGroups)
    → numbers_of (partition ∷ partitions) ≡ range_with_len n (suc count) → n + 1 ≤ k → receivers_of ports k (partition ∷ partitions) ≡ receivers_of ports k partitions
later_numbered ports n count k partition partitions numbers high =
    let head : partition.number ≡ n = cc in
    let other : (partition.number == k) ≡ false = ne_eqb partition.number k (λ same. omega (arith, same, head, high)) in
    rw other refl

-- from one number on, all partitions are these
abbrev AreFrom : List SubnetPort → ℕ → List PartitionGroups → List PartitionGroups → Type 0
AreFrom ports n all some = (k : ℕ) → n ≤ k → receivers_of ports k all ≡ receivers_of ports k some

rest_are : (ports : List SubnetPort) (n count : ℕ) (all : List PartitionGroups) (partition : PartitionGroups) (partitions : List PartitionGroups)
    → numbers_of (partition ∷ partitions) ≡ range_with_len n (suc count) → AreFrom ports n all (partition ∷ partitions) → AreFrom ports (n + 1) all partitions
rest_are ports n count all partition partitions numbers are k high =
    are k (omega (arith, high)) ∙ later_numbered ports n count k partition partitions numbers high

abbrev changes_at : List SubnetPort → List PartitionGroups → List PartitionGroups → ℕ → Bool
changes_at ports before after number = not (are_same_receivers (receivers_of ports number before) (receivers_of ports number after))

changed_from : (ports : List SubnetPort) (before after : List PartitionGroups) (n count : ℕ) (befores afters : List PartitionGroups)
    → numbers_of befores ≡ range_with_len n count → numbers_of afters ≡ range_with_len n count
    → AreFrom ports n before befores → AreFrom ports n after afters
    → filter (changes_at ports before after) (numbers_of befores) ≡ numbers_changed ports befores afters
changed_from ports before after n zero [] [] numbers same was is = refl
changed_from ports before after n zero [] (one ∷ afters) numbers same was is = absurd (cc)
changed_from ports before after n zero (one ∷ befores) afters numbers same was is = absurd (cc)
changed_from ports before after n (suc count) [] afters numbers same was is = absurd (cc)
changed_from ports before after n (suc count) (one ∷ befores) [] numbers same was is = absurd (cc)
changed_from ports before after n (suc count) (one ∷ befores) (other ∷ afters) numbers same was is =
    let number : one.number ≡ n = cc in
    let tail : numbers_of befores ≡ range_with_len (n + 1) count = cc in
    let tail_too : numbers_of afters ≡ range_with_len (n + 1) count = cc in
    let old = was n (omega arith) ∙ own_numbered ports n count one befores numbers in
    let new = is n (omega arith) ∙ own_numbered ports n count other afters same in
    let reported : changes_at ports before after one.number ≡ has_changed ports one other =
    ap (changes_at ports before after) number
    ∙ ap (λ (all : List GroupReceiver). not (are_same_receivers all (receivers_of ports n after))) old
    ∙ ap (λ (all : List GroupReceiver). not (are_same_receivers (receivers_in ports one) all)) new in
    let rest = changed_from ports before after (n + 1) count befores afters tail tail_too
    (rest_are ports n count before one befores numbers was) (rest_are ports n count after other afters same is) in
    elim (cases_Bool (has_changed ports one other)) [
      | inl changed ↦
          let here : changes_at ports before after one.number ≡ true = reported ∙ changed in
          rw (here, changed) (ap (λ (others : List ℕ). one.number ∷ others) rest)
      | inr stays ↦ let here : changes_at ports before after one.number ≡ false = reported ∙ stays in rw (here, stays) rest
    ]

pub changed_are : (ports : List SubnetPort) (before after : List PartitionGroups)
    → map (λ partition. partition.number) before ≡ range_with_len 0 (length before)
    → map (λ partition. partition.number) after ≡ map (λ partition. partition.number) before
    → changed_numbers ports before after ≡ numbers_changed ports before after
changed_are ports before after numbers same =
    changed_from ports before after 0 (length before) before after numbers (same ∙ numbers) (λ k high. refl) (λ k high. refl)
