-- Who receives after a join and did not before: the port that joins, where it joins as one that receives.
use Rattle.std.proofs.Common.{◌≡◌, ℕ, ◌==◌, Bool, true, false, not, ◌&&◌, ◌||◌, if◌then◌else◌, nat_lt, List, [], ◌∷◌, map, find, Option, Some, None, is_none}
use Rattle.std.proofs.Common.{refl, sym, ◌∙◌, ap, subst, inl, inr, arith}
use Rattle.std.specs.List.{IsDistinct, list_all, list_any}
use Rattle.std.proofs.Math.Bool.{and-false, and-or_distrib_left, and-true, and_comm, or-false, or_assoc, or_comm}
use Rattle.std.proofs.lemmas.Bool.{and_parts, cases_Bool, eq-eqb, eqb-true, false≢true, ltb-true, ne_eqb, not-true, or_parts}
use Rattle.std.proofs.lemmas.List.Folds.{list_any-append}
use Rattle.step_results.proofs.BoolLemmas.{or_none}
use Rattle.step_results.proofs.ListLemmas.{found_passes, list_all_weaker, none_passes}
use Rattle.fabric_parts.specs.NodeType.{is_switch_type}
use Rattle.subnet_model.specs.Configured.{HaveLidsInOrder, same_guid}
use Rattle.subnet_model.specs.declared.subnet_port.SubnetPort.{SubnetPort}
use Rattle.sa_model.specs.Anchor.{free_mlid, mlid_range}
use Rattle.sa_model.specs.Delivery.{receives, receives_in}
use Rattle.sa_model.specs.Groups.{Membership, MulticastGroup, PartitionGroups, lower_port}
use Rattle.sa_model.specs.JoinState.{is_receiver}
use Rattle.sa_model.specs.Joining.{Join, has_mgid, in_place, is_of, joined_group, more_joined, new_group, new_membership, with_created, with_group, with_member}
use Rattle.sa_model.specs.Sound.{is_sound_group, is_sound_partition, lower_mlid, other_mgid, pairwise}
use Rattle.sa_model.proofs.InPlaceLemmas.{higher_ones, lower_ones, nothing_lost}
use Rattle.sa_model.proofs.ReceiverLemmas.{turned}
use Rattle.sa_model.proofs.SoundLemmas.{partition_parts, sound_parts}
use Rattle.sa_store.specs.Joined.{entered}
use Rattle.sa_store.specs.Members.{receives_by}
use Rattle.sa_store.specs.Receiving.{has_changed, is_adapter}
use Rattle.sa_store.proofs.ReceiverLemmas.{one_gained}

-- ---- the memberships of a group that is joined
-- the port of this GUID is the one that joins, as one that receives
abbrev gains : Join → ℕ → Bool
gains join guid = (join.port == guid) && is_receiver join.join_state

more_bits : (a f n x y : Bool) → (a && ((f || x) || (n || y))) ≡ ((a && (f || n)) || ((a && (x || y)) && true))
more_bits false f n x y = refl
more_bits true true n x y = refl
more_bits true false true true y = refl
more_bits true false true false y = refl
more_bits true false false true y = refl
more_bits true false false false true = refl
more_bits true false false false false = refl

one_receives : (join : Join) (guid : ℕ) (m : Membership)
    → receives guid (more_joined join m) ≡ (receives guid m || (gains join guid && is_of join.port m))
one_receives join guid m = elim (cases_Bool (is_of join.port m)) [
  | inl its ↦
      let same : m.port ≡ join.port = eqb-true m.port join.port its in
      let state = m.join_state in
      let more = join.join_state in
      rw its (more_bits (m.port == guid) state.full_member state.non_member more.full_member more.non_member
      ∙ ap (λ (port : ℕ). receives guid m || (((port == guid) && is_receiver more) && true)) same)
  | inr other ↦ rw other (sym (or_none (receives guid m) (gains join guid)))
]

apart_and_together : (a g i r j : Bool) → ((a || (g && i)) || (r || (g && j))) ≡ ((a || r) || (g && (i || j)))
apart_and_together true g i r j = refl
apart_and_together false false i true j = refl
apart_and_together false false i false j = refl
apart_and_together false true true true j = refl
apart_and_together false true true false j = refl
apart_and_together false true false r j = refl

more_receive : (join : Join) (guid : ℕ) (ms : List Membership)
    → list_any (receives guid) (map (more_joined join) ms) ≡ (list_any (receives guid) ms || (gains join guid && list_any (is_of join.port) ms))
more_receive join guid [] = sym (or_none false (gains join guid))
more_receive join guid (m ∷ ms) =
    (λ place. one_receives join guid m place || more_receive join guid ms place)
    ∙ apart_and_together (receives guid m) (gains join guid) (is_of join.port m) (list_any (receives guid) ms) (list_any (is_of join.port) ms)

to_end : (a b c : Bool) → (a || (b || c)) ≡ ((a || c) || b)
to_end true b c = refl
to_end false b c = or_comm b c

in_place_receives : (p : Membership → Bool) (new : Membership) (ms : List Membership) → list_any (is_of new.port) ms ≡ false
    → pairwise lower_port ms ≡ true → list_any p (in_place new ms) ≡ (list_any p ms || p new)
in_place_receives p new ms none order =
    list_any-append p (lower_ones new ms) (new ∷ higher_ones new ms)
    ∙ (to_end (list_any p (lower_ones new ms)) (p new) (list_any p (higher_ones new ms))
    ∙ ap (λ (b : Bool). b || p new) (sym (list_any-append p (lower_ones new ms) (higher_ones new ms)) ∙ ap (list_any p) (nothing_lost new ms none order)))

members_receive : (join : Join) (guid : ℕ) (ms : List Membership) → pairwise lower_port ms ≡ true
    → list_any (receives guid) (with_member join ms) ≡ (list_any (receives guid) ms || gains join guid)
members_receive join guid ms order = elim (cases_Bool (list_any (is_of join.port) ms)) [
  | inl there ↦
      rw there (more_receive join guid ms
      ∙ ap (λ (b : Bool). list_any (receives guid) ms || b) (ap (λ (b : Bool). gains join guid && b) there ∙ and-true (gains join guid)))
  | inr none ↦ rw none (in_place_receives (receives guid) (new_membership join) ms none order)
]

-- ---- the groups of a partition, one of which is joined
abbrev receives_at : ℕ → ℕ → MulticastGroup → Bool
receives_at mlid guid group = (group.mlid == mlid) && list_any (receives guid) group.memberships

abbrev are_by_port : List MulticastGroup → Bool
are_by_port groups = list_all (λ group. pairwise lower_port group.memberships) groups

this_joined : (join : Join) (group : MulticastGroup) → has_mgid join.mgid group ≡ true
    → joined_group join group ≡ record group { memberships = with_member join group.memberships }
this_joined join group this = rw this refl

other_joined : (join : Join) (group : MulticastGroup) → has_mgid join.mgid group ≡ false → joined_group join group ≡ group
other_joined join group other = rw other refl

others_joined : (join : Join) (groups : List MulticastGroup) → list_any (has_mgid join.mgid) groups ≡ false → map (joined_group join) groups ≡ groups
others_joined join [] none = refl
others_joined join (group ∷ groups) none =
    let parts = or_parts (has_mgid join.mgid group) (list_any (has_mgid join.mgid) groups) none in
    λ place. other_joined join group parts.0 place ∷ others_joined join groups parts.1 place

apart_from : (join : Join) (group : MulticastGroup) (groups : List MulticastGroup) → has_mgid join.mgid group ≡ true
    → list_all (other_mgid group) groups ≡ true → list_any (has_mgid join.mgid) groups ≡ false
apart_from join group groups this apart = none_passes (other_mgid group) (has_mgid join.mgid) other groups apart
  where
    other : (one : MulticastGroup) → other_mgid group one ≡ true → has_mgid join.mgid one ≡ false
    other one differs = elim (cases_Bool (has_mgid join.mgid one)) [
      | inl too ↦
          let same : group.mgid ≡ one.mgid = eqb-true group.mgid join.mgid this ∙ sym (eqb-true one.mgid join.mgid too) in
          absurd (false≢true (ap not (sym (eq-eqb group.mgid one.mgid same)) ∙ differs))
      | inr not_it ↦ not_it
    ]

shared : (a l r g : Bool) → ((a && (l || g)) || r) ≡ (((a && l) || r) || (a && g))
shared false l r g = sym (or-false r)
shared true true r g = refl
shared true false r g = or_comm g r

-- the group that is joined receiving who joins, besides those that it received
groups_receive : (join : Join) (mlid guid : ℕ) (groups : List MulticastGroup) (found : MulticastGroup) → pairwise other_mgid groups ≡ true
    → are_by_port groups ≡ true → find (has_mgid join.mgid) groups ≡ Some found
    → list_any (receives_at mlid guid) (map (joined_group join) groups) ≡ (list_any (receives_at mlid guid) groups || ((mlid == found.mlid) && gains join guid))
groups_receive join mlid guid [] found apart order is = absurd (cc)
groups_receive join mlid guid (group ∷ groups) found apart order is =
    let aparts = and_parts (list_all (other_mgid group) groups) (pairwise other_mgid groups) apart in
    let orders = and_parts (pairwise lower_port group.memberships) (are_by_port groups) order in
    elim (cases_Bool (has_mgid join.mgid group)) [
      | inl this ↦
          let first : Some group ≡ Some found = rw this at is in
          let same : group ≡ found = cc in
          let named : (group.mlid == mlid) ≡ (mlid == found.mlid) = turned group.mlid mlid ∙ ap (λ (one : MulticastGroup). mlid == one.mlid) same in
          let stay = others_joined join groups (apart_from join group groups this aparts.0) in
          (λ place. receives_at mlid guid (this_joined join group this place) || list_any (receives_at mlid guid) (stay place))
          ∙ ((λ place. ((group.mlid == mlid) && members_receive join guid group.memberships orders.0 place) || list_any (receives_at mlid guid) groups)
          ∙ (shared (group.mlid == mlid) (list_any (receives guid) group.memberships) (list_any (receives_at mlid guid) groups) (gains join guid)
          ∙ (λ place. list_any (receives_at mlid guid) (group ∷ groups) || (named place && gains join guid))))
      | inr other ↦
          let later : find (has_mgid join.mgid) groups ≡ Some found = rw other at is in
          (λ place. receives_at mlid guid (other_joined join group other place) || groups_receive join mlid guid groups found aparts.1 orders.1 later place)
          ∙ sym (or_assoc (receives_at mlid guid group) (list_any (receives_at mlid guid) groups) ((mlid == found.mlid) && gains join guid))
    ]

-- what is found has what all have
found_has : {X : Type 0} (test has : X → Bool) (xs : List X) (x : X) → list_all has xs ≡ true → find test xs ≡ Some x → has x ≡ true
found_has test has [] x all is = absurd (cc)
found_has test has (y ∷ ys) x all is =
    let parts = and_parts (has y) (list_all has ys) all in
    elim (cases_Bool (test y)) [
      | inl this ↦
          let first : Some y ≡ Some x = rw this at is in
          let same : y ≡ x = cc in
          ap has (sym same) ∙ parts.0
      | inr other ↦ found_has test has ys x parts.1 (rw other at is)
    ]

other_mlid : (a b : MulticastGroup) → lower_mlid a b ≡ true → (a.mlid == b.mlid) ≡ false
other_mlid a b lower = ne_eqb a.mlid b.mlid (λ same. let less = ltb-true a.mlid b.mlid lower in omega (arith, same, less))

-- no other group has the MLID of the one that is found
found_receives : (test : MulticastGroup → Bool) (guid : ℕ) (groups : List MulticastGroup) (found : MulticastGroup) → pairwise lower_mlid groups ≡ true
    → find test groups ≡ Some found → list_any (receives_at found.mlid guid) groups ≡ list_any (receives guid) found.memberships
found_receives test guid [] found order is = absurd (cc)
found_receives test guid (group ∷ groups) found order is =
    let orders = and_parts (list_all (lower_mlid group) groups) (pairwise lower_mlid groups) order in
    elim (cases_Bool (test group)) [
      | inl this ↦
          let first : Some group ≡ Some found = rw this at is in
          let same : group ≡ found = cc in
          subst (λ (one : MulticastGroup). list_any (receives_at one.mlid guid) (group ∷ groups) ≡ list_any (receives guid) one.memberships) same
          ((λ place. (eq-eqb group.mlid group.mlid refl place && list_any (receives guid) group.memberships)
          || none_passes (lower_mlid group) (receives_at group.mlid guid) behind groups orders.0 place)
          ∙ or-false (list_any (receives guid) group.memberships))
      | inr other ↦
          let later : find test groups ≡ Some found = rw other at is in
          let apart = other_mlid group found (found_has test (lower_mlid group) groups found orders.0 later) in
          (λ place. (apart place && list_any (receives guid) group.memberships) || found_receives test guid groups found orders.1 later place)
    ]
  where
    behind : (one : MulticastGroup) → lower_mlid group one ≡ true → receives_at group.mlid guid one ≡ false
    behind one lower =
        let apart : (one.mlid == group.mlid) ≡ false = turned one.mlid group.mlid ∙ other_mlid group one lower in
        λ place. apart place && list_any (receives guid) one.memberships

-- ---- a group that is made
with_group_has : (p : MulticastGroup → Bool) (new : MulticastGroup) (groups : List MulticastGroup)
    → list_any p (with_group new groups) ≡ (list_any p groups || p new)
with_group_has p new [] = or-false (p new)
with_group_has p new (group ∷ groups) = elim (cases_Bool (nat_lt new.mlid group.mlid)) [
  | inl before ↦ rw before (or_comm (p new) (p group || list_any p groups))
  | inr behind ↦
      rw behind ((λ place. p group || with_group_has p new groups place) ∙ sym (or_assoc (p group) (list_any p groups) (p new)))
]

new_receives : (join : Join) (new mlid guid : ℕ) → receives_at mlid guid (new_group join new) ≡ ((mlid == new) && gains join guid)
new_receives join new mlid guid = λ place. turned new mlid place && or-false (gains join guid) place

none_at : (mlid guid : ℕ) (groups : List MulticastGroup) → list_any (λ group. group.mlid == mlid) groups ≡ false
    → list_any (receives_at mlid guid) groups ≡ false
none_at mlid guid [] free = refl
none_at mlid guid (group ∷ groups) free =
    let parts = or_parts (group.mlid == mlid) (list_any (λ one. one.mlid == mlid) groups) free in
    λ place. (parts.0 place && list_any (receives guid) group.memberships) || none_at mlid guid groups parts.1 place

-- ---- the ports
turned_round : (adapter own more h k : Bool) → (own ≡ true → h ≡ k) → (adapter && ((own && more) && h)) ≡ ((more && k) && (own && adapter))
turned_round adapter true true h k same = and_comm adapter h ∙ ap (λ (b : Bool). b && adapter) (same refl)
turned_round adapter true false h k same = and-false adapter
turned_round adapter false more h k same = and-false adapter ∙ sym (and-false (more && k))

-- one port alone may come to receive: the one that joins
one_gains : (ports : List SubnetPort) (join : Join) (received : ℕ → Bool)
    → list_any (λ port. not (is_switch_type port.node_type) && (gains join port.guid && not (received port.guid))) ports
    ≡ ((is_receiver join.join_state && not (received join.port)) && is_adapter ports join.port)
one_gains [] join received = sym (and-false (is_receiver join.join_state && not (received join.port)))
one_gains (port ∷ ports) join received =
    let anew = is_receiver join.join_state && not (received join.port) in
    let adapter = not (is_switch_type port.node_type) in
    let here : (adapter && (gains join port.guid && not (received port.guid))) ≡ (anew && ((port.guid == join.port) && adapter)) =
    turned_round adapter (join.port == port.guid) (is_receiver join.join_state) (not (received port.guid)) (not (received join.port))
    (λ same. ap (λ (guid : ℕ). not (received guid)) (sym (eqb-true join.port port.guid same)))
    ∙ ap (λ (own : Bool). anew && (own && adapter)) (turned join.port port.guid) in
    (λ place. here place || one_gains ports join received place)
    ∙ sym (and-or_distrib_left anew ((port.guid == join.port) && adapter) (is_adapter ports join.port))

-- ---- a partition that is joined
then_is : {X : Type 0} (c : Bool) (x y : X) → c ≡ true → (if c then x else y) ≡ x
then_is c x y yes_it = rw yes_it refl

else_is : {X : Type 0} (c : Bool) (x y : X) → c ≡ false → (if c then x else y) ≡ y
else_is c x y no_it = rw no_it refl

some_found : {X : Type 0} (test : X → Bool) (xs : List X) (x : X) → find test xs ≡ Some x → list_any test xs ≡ true
some_found test [] x is = absurd (cc)
some_found test (y ∷ ys) x is = elim (cases_Bool (test y)) [
  | inl this ↦ rw this refl
  | inr other ↦ rw other (some_found test ys x (rw other at is))
]

none_found : {X : Type 0} (test : X → Bool) (xs : List X) → find test xs ≡ None → list_any test xs ≡ false
none_found test [] is = refl
none_found test (y ∷ ys) is = elim (cases_Bool (test y)) [
  | inl this ↦ absurd (let found : Some y ≡ None = rw this at is in cc)
  | inr other ↦ rw other (none_found test ys (rw other at is))
]

none_of_free : (groups : List MulticastGroup) (mlids : List ℕ) (mlid : ℕ) → find (λ n. not (list_any (λ group. group.mlid == n) groups)) mlids ≡ Some mlid
    → list_any (λ group. group.mlid == mlid) groups ≡ false
none_of_free groups mlids mlid is = not-true _ (found_passes (λ n. not (list_any (λ group. group.mlid == n) groups)) mlids mlid is)

-- the partition as it is joined, over the MLID that is free, which is not computed here
abbrev entered_by : Join → Option ℕ → PartitionGroups → PartitionGroups
entered_by join free partition = record partition {
  groups = if list_any (has_mgid join.mgid) partition.groups
      then map (joined_group join) partition.groups
      else with_created join free partition.groups;
}

-- what a join rests on: groups by MLID, no two of one MGID, their memberships by port, and an MLID that none of them has
record CanBeJoined (join : Join) (free : Option ℕ) (groups : List MulticastGroup) : Type 0 where
  order : pairwise lower_mlid groups ≡ true
  apart : pairwise other_mgid groups ≡ true
  by_port : are_by_port groups ≡ true
  fresh : (mlid : ℕ) → free ≡ Some mlid → list_any (λ group. group.mlid == mlid) groups ≡ false
  makes : list_any (has_mgid join.mgid) groups ≡ false → is_none free ≡ false

changed_by : (ports : List SubnetPort) (join : Join) (partition : PartitionGroups) (free : Option ℕ) (found : Option MulticastGroup) → HaveLidsInOrder ports
    → IsDistinct same_guid ports → CanBeJoined join free partition.groups → find (has_mgid join.mgid) partition.groups ≡ found
    → has_changed ports partition (entered_by join free partition)
    ≡ ((is_receiver join.join_state && not (receives_by join.port found)) && is_adapter ports join.port)
changed_by ports join partition free (Some group) lids distinct can is =
    let groups = partition.groups in
    let there = some_found (has_mgid join.mgid) groups group is in
    let after = then_is (list_any (has_mgid join.mgid) groups) (map (joined_group join) groups) (with_created join free groups) there in
    one_gained ports partition (entered_by join free partition) group.mlid (gains join) lids distinct
    (λ mlid guid. ap (list_any (receives_at mlid guid)) after ∙ groups_receive join mlid guid groups group can.apart can.by_port is)
    ∙ (one_gains ports join (λ guid. receives_in group.mlid guid partition)
    ∙ ap (λ (received : Bool). (is_receiver join.join_state && not received) && is_adapter ports join.port)
    (found_receives (has_mgid join.mgid) join.port groups group can.order is))
changed_by ports join partition (Some new) None lids distinct can is =
    let groups = partition.groups in
    let none = none_found (has_mgid join.mgid) groups is in
    let after = else_is (list_any (has_mgid join.mgid) groups) (map (joined_group join) groups) (with_created join (Some new) groups) none in
    one_gained ports partition (entered_by join (Some new) partition) new (gains join) lids distinct
    (λ mlid guid. ap (list_any (receives_at mlid guid)) after
    ∙ (with_group_has (receives_at mlid guid) (new_group join new) groups
    ∙ ap (λ (received : Bool). list_any (receives_at mlid guid) groups || received) (new_receives join new mlid guid)))
    ∙ (one_gains ports join (λ guid. receives_in new guid partition)
    ∙ ap (λ (received : Bool). (is_receiver join.join_state && not received) && is_adapter ports join.port)
    (none_at new join.port groups (can.fresh new refl)))
changed_by ports join partition None None lids distinct can is =
    absurd (false≢true (sym (can.makes (none_found (has_mgid join.mgid) partition.groups is))))

-- others receive after a join if and only if the port that joins is one of an adapter, joins as one that receives, and did not
-- receive before
pub join_changes : (ports : List SubnetPort) (join : Join) (partition : PartitionGroups) → HaveLidsInOrder ports → IsDistinct same_guid ports
    → is_sound_partition ports partition ≡ true
    → (list_any (has_mgid join.mgid) partition.groups ≡ false → is_none (free_mlid partition) ≡ false)
    → has_changed ports partition (entered join partition)
    ≡ ((is_receiver join.join_state && not (receives_by join.port (find (has_mgid join.mgid) partition.groups))) && is_adapter ports join.port)
join_changes ports join partition lids distinct sound makes =
    let parts = partition_parts ports partition sound in
    let by_port : are_by_port partition.groups ≡ true =
    list_all_weaker (is_sound_group ports partition) (λ group. pairwise lower_port group.memberships)
    (λ group one. (sound_parts ports partition group one).by_port) partition.groups parts.each in
    changed_by ports join partition (free_mlid partition) (find (has_mgid join.mgid) partition.groups) lids distinct
    (record {
      order = parts.order;
      apart = parts.apart;
      by_port = by_port;
      fresh = none_of_free partition.groups (mlid_range partition.number);
      makes = makes;
    }) refl
