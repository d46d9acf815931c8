-- The receivers of groups as they are gone through: port by port, slot by slot, and partition by partition.
use Rattle.std.proofs.Common.{◌≡◌, ℕ, zero, suc, ◌+◌, ◌<◌, ◌≤◌, ◌==◌, nat_lt, true, false, List, [], ◌∷◌, ◌++◌, length, map, filter, take}
use Rattle.std.proofs.Common.{get_or, Option, Some, None, refl, sym, ◌∙◌, ap, inl, inr, arith, append-nil, append_assoc}
use Rattle.std.specs.List.{flat_map, list_all, list_any}
use Rattle.std.specs.List.Sorted.{IsNonDecreasingBy, IsPartitionPoint, IsPartitionedBy}
use Rattle.std.proofs.Math.Bool.{or-false}
use Rattle.std.proofs.lemmas.Bool.{and_parts, cases_Bool, ltb-false, ltb-true}
use Rattle.std.proofs.lemmas.List.{length-take-le, map-append, take_more}
use Rattle.std.proofs.lemmas.List.Concat.{flat_map-append}
use Rattle.std.proofs.lemmas.List.Elements.{filter-append}
use Rattle.std.proofs.lemmas.List.Sorted.{IsPartitionedBy-ltb}
use Rattle.std.proofs.lemmas.List.Sums.{prefix_len_is}
use Rattle.step_results.proofs.ListLemmas.{all_at}
use Rattle.subnet_model.specs.declared.group_receiver.GroupReceiver.{GroupReceiver}
use Rattle.subnet_model.specs.declared.subnet_port.SubnetPort.{SubnetPort}
use Rattle.sa_model.specs.Delivery.{receives}
use Rattle.sa_model.specs.Groups.{Membership, MulticastGroup, PartitionGroups, lower_port}
use Rattle.sa_model.specs.Receivers.{group_receivers, receivers_in, receivers_of, receives_group}
use Rattle.sa_model.specs.Sound.{pairwise}
use Rattle.sa_store.specs.Kept.{KeptPort, ports_of}
use Rattle.sa_store.specs.MlidRange.{SlotGroup, groups_in, with_mlid}
use Rattle.sa_store.proofs.SlotLemmas.{groups_joined}
use Rattle.sa_store.proofs.JoinLemmas.{above_first, lower_is_other, none_of_port, one_more, place_for}
use Rattle.sa_store.proofs.LostLemmas.{none_received}

-- one element more of a list
element_more : {X : Type 0} (xs : List X) (i : ℕ) (x : X) → i < length xs → x ≡ get_or xs i x → take (i + 1) xs ≡ take i xs ++ x ∷ []
element_more {X = X} xs i x within is = take_more xs i x within ∙ ap (λ (one : X). take i xs ++ one ∷ []) (sym is)

-- what is pushed goes on
pub pushed : {X : Type 0} (first items before more after : List X) → items ≡ first ++ before → after ≡ before ++ more → items ++ more ≡ first ++ after
pushed {X = X} first items before more after is reported =
    ap (λ (some : List X). some ++ more) is ∙ append_assoc first before more ∙ ap (λ (some : List X). first ++ some) (sym reported)

-- ---- one port more
port_more : (group : MulticastGroup) (kept : List KeptPort) (i : ℕ) (one : KeptPort) → i < length kept → one ≡ get_or kept i one
    → group_receivers (ports_of (take (i + 1) kept)) group ≡ group_receivers (ports_of (take i kept)) group ++ group_receivers (one.port ∷ []) group
port_more group kept i one within is =
    let lids = λ (port : SubnetPort). let own : GroupReceiver = record { mlid = group.mlid; lid = port.lid } in own in
    ap (λ (some : List KeptPort). group_receivers (ports_of some) group) (element_more kept i one within is)
    ∙ ap (λ (ports : List SubnetPort). group_receivers ports group) (map-append (λ (some : KeptPort). some.port) (take i kept) (one ∷ []))
    ∙ ap (map lids) (filter-append (receives_group group) (ports_of (take i kept)) (one.port ∷ []))
    ∙ map-append lids (filter (receives_group group) (ports_of (take i kept))) (filter (receives_group group) (one.port ∷ []))

pub port_receives : (group : MulticastGroup) (kept : List KeptPort) (i : ℕ) (one : KeptPort) → i < length kept → one ≡ get_or kept i one
    → receives_group group one.port ≡ true
    → group_receivers (ports_of (take (i + 1) kept)) group ≡ group_receivers (ports_of (take i kept)) group ++ (record { mlid = group.mlid; lid = one.port.lid }) ∷ []
port_receives group kept i one within is receives =
    let own : group_receivers (one.port ∷ []) group ≡ (record { mlid = group.mlid; lid = one.port.lid }) ∷ [] = rw receives refl in
    port_more group kept i one within is ∙ ap (λ (some : List GroupReceiver). group_receivers (ports_of (take i kept)) group ++ some) own

pub port_is_deaf : (group : MulticastGroup) (kept : List KeptPort) (i : ℕ) (one : KeptPort) → i < length kept → one ≡ get_or kept i one
    → receives_group group one.port ≡ false
    → group_receivers (ports_of (take (i + 1) kept)) group ≡ group_receivers (ports_of (take i kept)) group
port_is_deaf group kept i one within is fails =
    let none : group_receivers (one.port ∷ []) group ≡ [] = rw fails refl in
    port_more group kept i one within is ∙ ap (λ (some : List GroupReceiver). group_receivers (ports_of (take i kept)) group ++ some) none
    ∙ append-nil (group_receivers (ports_of (take i kept)) group)

-- ---- one slot more
-- the receivers of the groups of slots, the first of which has this MLID
abbrev pub received_of : List SubnetPort → ℕ → List (Option SlotGroup) → List GroupReceiver
received_of ports mlid slots = flat_map (group_receivers ports) (groups_in mlid slots)

slot_more : (ports : List SubnetPort) (mlid : ℕ) (slots : List (Option SlotGroup)) (i : ℕ) (slot : Option SlotGroup) → i < length slots
    → slot ≡ get_or slots i slot → received_of ports mlid (take (i + 1) slots) ≡ received_of ports mlid (take i slots) ++ received_of ports (mlid + i) (slot ∷ [])
slot_more ports mlid slots i slot within is =
    let long = length-take-le i slots (omega arith) in
    ap (received_of ports mlid) (element_more slots i slot within is)
    ∙ ap (flat_map (group_receivers ports)) (groups_joined mlid (mlid + i) (take i slots) (slot ∷ []) (omega arith))
    ∙ flat_map-append (group_receivers ports) (groups_in mlid (take i slots)) (groups_in (mlid + i) (slot ∷ []))

pub slot_receives : (ports : List SubnetPort) (mlid : ℕ) (slots : List (Option SlotGroup)) (i : ℕ) (slot : Option SlotGroup) (group : SlotGroup) → i < length slots
    → slot ≡ get_or slots i slot → slot ≡ Some group
    → received_of ports mlid (take (i + 1) slots) ≡ received_of ports mlid (take i slots) ++ group_receivers ports (with_mlid (mlid + i) group)
slot_receives ports mlid slots i slot group within is there =
    slot_more ports mlid slots i slot within is
    ∙ ap (λ (some : Option SlotGroup). received_of ports mlid (take i slots) ++ received_of ports (mlid + i) (some ∷ [])) there
    ∙ ap (λ (some : List GroupReceiver). received_of ports mlid (take i slots) ++ some) (append-nil (group_receivers ports (with_mlid (mlid + i) group)))

pub slot_is_empty : (ports : List SubnetPort) (mlid : ℕ) (slots : List (Option SlotGroup)) (i : ℕ) (slot : Option SlotGroup) → i < length slots
    → slot ≡ get_or slots i slot → slot ≡ None → received_of ports mlid (take (i + 1) slots) ≡ received_of ports mlid (take i slots)
slot_is_empty ports mlid slots i slot within is none =
    slot_more ports mlid slots i slot within is
    ∙ ap (λ (some : Option SlotGroup). received_of ports mlid (take i slots) ++ received_of ports (mlid + i) (some ∷ [])) none
    ∙ append-nil (received_of ports mlid (take i slots))

-- ---- one partition more
partition_more : (ports : List SubnetPort) (number : ℕ) (partitions : List PartitionGroups) (i : ℕ) (one : PartitionGroups) → i < length partitions
    → one ≡ get_or partitions i one
    → receivers_of ports number (take (i + 1) partitions) ≡ receivers_of ports number (take i partitions) ++ receivers_of ports number (one ∷ [])
partition_more ports number partitions i one within is =
    let test = λ (partition : PartitionGroups). partition.number == number in
    ap (receivers_of ports number) (element_more partitions i one within is)
    ∙ ap (flat_map (receivers_in ports)) (filter-append test (take i partitions) (one ∷ []))
    ∙ flat_map-append (receivers_in ports) (filter test (take i partitions)) (filter test (one ∷ []))

pub partition_receives : (ports : List SubnetPort) (number : ℕ) (partitions : List PartitionGroups) (i : ℕ) (one : PartitionGroups) → i < length partitions
    → one ≡ get_or partitions i one → (one.number == number) ≡ true
    → receivers_of ports number (take (i + 1) partitions) ≡ receivers_of ports number (take i partitions) ++ receivers_in ports one
partition_receives ports number partitions i one within is same =
    let own : receivers_of ports number (one ∷ []) ≡ receivers_in ports one = rw same (append-nil (receivers_in ports one)) in
    partition_more ports number partitions i one within is ∙ ap (λ (some : List GroupReceiver). receivers_of ports number (take i partitions) ++ some) own

pub partition_is_another : (ports : List SubnetPort) (number : ℕ) (partitions : List PartitionGroups) (i : ℕ) (one : PartitionGroups) → i < length partitions
    → one ≡ get_or partitions i one → (one.number == number) ≡ false
    → receivers_of ports number (take (i + 1) partitions) ≡ receivers_of ports number (take i partitions)
partition_is_another ports number partitions i one within is other =
    let none : receivers_of ports number (one ∷ []) ≡ [] = rw other refl in
    partition_more ports number partitions i one within is ∙ ap (λ (some : List GroupReceiver). receivers_of ports number (take i partitions) ++ some) none
    ∙ append-nil (receivers_of ports number (take i partitions))

-- ---- a port among memberships that stand by port, as it is searched
ports_rise : (memberships : List Membership) → pairwise lower_port memberships ≡ true → IsNonDecreasingBy (λ (one : Membership). one.port) memberships
ports_rise [] order i j d low within = absurd (omega arith)
ports_rise (one ∷ memberships) order zero zero d low within = omega arith
ports_rise (one ∷ memberships) order zero (suc j) d low within =
    let parts = and_parts (list_all (lower_port one) memberships) (pairwise lower_port memberships) order in
    let lower : lower_port one (get_or memberships j d) ≡ true = all_at (lower_port one) memberships j d parts.0 (omega (arith, within)) in
    omega (arith, ltb-true one.port (get_or memberships j d).port lower)
ports_rise (one ∷ memberships) order (suc i) zero d low within = absurd (omega (arith, low))
ports_rise (one ∷ memberships) order (suc i) (suc j) d low within =
    let parts = and_parts (list_all (lower_port one) memberships) (pairwise lower_port memberships) order in
    ports_rise memberships parts.1 i j d (omega (arith, low)) (omega (arith, within))

pub are_parted : (guid : ℕ) (memberships : List Membership) → pairwise lower_port memberships ≡ true
    → IsPartitionedBy (λ (one : Membership). nat_lt one.port guid) memberships
are_parted guid memberships order = IsPartitionedBy-ltb (λ (one : Membership). one.port) memberships guid (ports_rise memberships order)

at_place : (guid : ℕ) (memberships : List Membership) (d : Membership) → pairwise lower_port memberships ≡ true
    → place_for guid memberships < length memberships
    → list_any (receives guid) memberships ≡ receives guid (get_or memberships (place_for guid memberships) d)
at_place guid [] d order within = absurd (omega arith)
at_place guid (one ∷ memberships) d order within =
    let parts = and_parts (list_all (lower_port one) memberships) (pairwise lower_port memberships) order in
    elim (cases_Bool (nat_lt one.port guid)) [
      | inl lower ↦
          let e = one_more (place_for guid memberships) in
          let other = lower_is_other guid one lower in
          let rest : place_for guid memberships < length memberships = omega (arith, rw (lower, e) at within) in
          rw (lower, e, other) (at_place guid memberships d parts.1 rest)
      | inr here ↦
          let high : guid ≤ one.port = ltb-false one.port guid here in
          let none = none_received guid memberships (none_of_port guid memberships (above_first guid one memberships parts.0 high)) in
          rw (here, none) (or-false (receives guid one))
    ]

at_end : (guid : ℕ) (memberships : List Membership) → length memberships ≤ place_for guid memberships → list_any (receives guid) memberships ≡ false
at_end guid [] past = refl
at_end guid (one ∷ memberships) past = elim (cases_Bool (nat_lt one.port guid)) [
  | inl lower ↦
      let e = one_more (place_for guid memberships) in
      let other = lower_is_other guid one lower in
      let rest : length memberships ≤ place_for guid memberships = omega (arith, rw (lower, e) at past) in
      rw other (at_end guid memberships rest)
  | inr here ↦ absurd (let none : suc (length memberships) ≤ 0 = rw here at past in omega arith)
]

abbrev IsPlaceOf : ℕ → List Membership → ℕ → Type 0
IsPlaceOf guid memberships place =
    IsPartitionPoint (λ (one : Membership). nat_lt one.port guid ≡ true) (λ (one : Membership). nat_lt one.port guid ≡ false) memberships place

place_is : (guid : ℕ) (memberships : List Membership) (place : ℕ) (d : Membership) → place ≤ length memberships → IsPlaceOf guid memberships place
    → place_for guid memberships ≡ place
place_is guid memberships place d within point =
    prefix_len_is (λ (one : Membership). nat_lt one.port guid) memberships place d within
    (λ k low. point.0 k d (omega arith) low) (λ short. point.1 place d (omega arith) short)

pub found_at : (guid : ℕ) (memberships : List Membership) (place : ℕ) (one : Membership) → pairwise lower_port memberships ≡ true → place < length memberships
    → one ≡ get_or memberships place one → IsPlaceOf guid memberships place → list_any (receives guid) memberships ≡ receives guid one
found_at guid memberships place one order within is point =
    let there = place_is guid memberships place one (omega (arith, within)) point in
    at_place guid memberships one order (omega (arith, there, within))
    ∙ ap (λ (k : ℕ). receives guid (get_or memberships k one)) there
    ∙ ap (receives guid) (sym is)

pub nowhere : (guid : ℕ) (memberships : List Membership) (place : ℕ) → place ≤ length memberships → length memberships ≤ place
    → IsPlaceOf guid memberships place → list_any (receives guid) memberships ≡ false
nowhere guid [] place within past point = refl
nowhere guid (one ∷ memberships) place within past point =
    let there = place_is guid (one ∷ memberships) place one within point in
    at_end guid (one ∷ memberships) (omega (arith, there, past))
