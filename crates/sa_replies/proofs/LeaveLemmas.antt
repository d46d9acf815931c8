-- Which groups there are after a leave, and how ports are registered in them.
use Rattle.std.proofs.Common.{ℕ, Bool, true, false, not, ◌==◌, ◌&&◌, ◌||◌, List, [], ◌∷◌, ◌++◌, map, filter, Some, None, ◌≡◌, ◌∙◌, ap, refl, sym, subst, inl, inr, if◌then◌else◌, nat_eq}
use Rattle.std.specs.List.{IsDistinct, flat_map, list_all, list_any}
use Rattle.std.proofs.lemmas.Bool.{cases_Bool, both_ways, and_parts, or_left, eqb-true}
use Rattle.std.proofs.lemmas.List.{append-nil}
use Rattle.std.proofs.lemmas.List.Elements.{filter-append}
use Rattle.std.proofs.lemmas.List.{map-append}
use Rattle.step_results.proofs.FilterLemmas.{any_within, filter_commutes, filter_map_absorbs, filter_map_same}
use Rattle.step_results.proofs.ListLemmas.{any_map, list_all_weaker}
use Rattle.step_results.proofs.BoolLemmas.{and_true, or_false}
use Rattle.pkey_rules.specs.PKey.{base_of}
use Rattle.sa_records.specs.declared.mc_member_record.McMemberRecord.{McMemberRecord}
use Rattle.sa_records.specs.McMemberMask as member_mask
use Rattle.sa_records.specs.McMemberRecord.{group_in}
use Rattle.subnet_model.specs.declared.subnet_port.SubnetPort.{SubnetPort}
use Rattle.sa_model.specs.Anchor.{anchors, is_by_file, is_kept}
use Rattle.sa_model.specs.Groups.{Membership, MulticastGroup, PartitionGroups}
use Rattle.sa_model.specs.JoinState.{JoinState, is_joined, without_bits}
use Rattle.sa_model.specs.Joining.{has_mgid, is_of}
use Rattle.sa_model.specs.Leaving.{Leave, left, left_group, less_joined, names_base, without_member}
use Rattle.sa_model.specs.Leaving as leaving
use Rattle.sa_model.specs.Members.{is_full_member, is_member}
use Rattle.sa_model.specs.Sound.{is_sound, is_sound_group, is_sound_membership, is_sound_partition}
use Rattle.sa_model.proofs.ListLemmas.{all_of_filter}
use Rattle.sa_model.proofs.LeaveSoundLemmas.{less_port}
use Rattle.sa_model.proofs.ReceiverLemmas.{any_alike}
use Rattle.sa_model.proofs.SoundLemmas.{partition_parts, sound_parts}
use Rattle.sa_model.specs.Selected.{asks}
use Rattle.sa_replies.specs.Joins.{join_state_of, leave_asked}
use Rattle.sa_replies.specs.Request.{request_in}
use Rattle.sa_replies.specs.Left.{IsLeft, IsLeftBy, LeavesLeaveTheRestAlone, is_left, is_left_group, stays, still_anchors}
use Rattle.sa_replies.specs.Registrations.{groups_at, has_base, is_some, is_there, partitions_at, registered, states_in, without_members}
use Rattle.sa_replies.proofs.AcceptedLemmas.{leave_accepted, leave_replied}
use Rattle.sa_replies.proofs.MemberLemmas.{states_of}
use Rattle.sa_replies.proofs.OneLemmas.{IsOne, filter_none, found_has, found_passes, one_group, one_partition, own_bases}

filter_all : {X : Type 0} (keep : X → Bool) (xs : List X) → list_all keep xs ≡ true → filter keep xs ≡ xs
filter_all keep [] all = refl
filter_all keep (x ∷ xs) all =
    let parts = and_parts (keep x) (list_all keep xs) all in
    rw parts.0 (ap (λ rest. x ∷ rest) (filter_all keep xs parts.1))

-- ---- the groups of a base and an MGID: those that were there, less joined, as far as something keeps them
abbrev left_of : List SubnetPort → Leave → ℕ → List MulticastGroup → List MulticastGroup
left_of ports leave b groups = filter (is_kept ports b) (map (left_group leave b) groups)

left_append : (ports : List SubnetPort) (leave : Leave) (b : ℕ) (xs ys : List MulticastGroup)
    → left_of ports leave b (xs ++ ys) ≡ left_of ports leave b xs ++ left_of ports leave b ys
left_append ports leave b xs ys =
    ap (filter (is_kept ports b)) (map-append (left_group leave b) xs ys)
    ∙ filter-append (is_kept ports b) (map (left_group leave b) xs) (map (left_group leave b) ys)

named_left : (ports : List SubnetPort) (leave : Leave) (b m : ℕ) (groups : List MulticastGroup)
    → filter (has_mgid m) (left_of ports leave b groups) ≡ left_of ports leave b (filter (has_mgid m) groups)
named_left ports leave b m groups =
    filter_commutes (has_mgid m) (is_kept ports b) (map (left_group leave b) groups)
    ∙ ap (filter (is_kept ports b)) (filter_map_same (has_mgid m) (left_group leave b) (λ x. refl) groups)

pub groups_left : (ports : List SubnetPort) (leave : Leave) (b m : ℕ) (partitions : List PartitionGroups)
    → groups_at b m (left ports leave partitions) ≡ left_of ports leave b (groups_at b m partitions)
groups_left ports leave b m [] = refl
groups_left ports leave b m (x ∷ xs) = elim (cases_Bool (has_base b x)) [
  | inl here ↦
      let base : x.base ≡ b = eqb-true x.base b here in
      let its : filter (has_mgid m) (left_of ports leave x.base x.groups) ≡ left_of ports leave b (filter (has_mgid m) x.groups) =
      ap (λ (n : ℕ). filter (has_mgid m) (left_of ports leave n x.groups)) base ∙ named_left ports leave b m x.groups in
      rw (here, its, groups_left ports leave b m xs) (sym (left_append ports leave b (filter (has_mgid m) x.groups) (groups_at b m xs)))
  | inr out ↦ rw (out) (groups_left ports leave b m xs)
]

-- ---- there is one, or none
data AtMostOne (ports : List SubnetPort) (b m : ℕ) (groups : List MulticastGroup) : Type 0 where
  none_is : groups ≡ [] → AtMostOne ports b m groups
  one_is : (group : MulticastGroup) → groups ≡ group ∷ [] → group.mgid ≡ m → is_kept ports b group ≡ true
      → list_all (is_sound_membership ports b) group.memberships ≡ true → AtMostOne ports b m groups

at_most_one : (ports : List SubnetPort) (b m : ℕ) (partitions : List PartitionGroups) → is_sound ports partitions ≡ true
    → IsDistinct nat_eq (map (λ partition. partition.base) partitions) → AtMostOne ports b m (groups_at b m partitions)
at_most_one ports b m partitions sound distinct = elim (cases_Bool (list_any (has_base b) partitions)) [
  | inl some ↦ in_one (one_partition b partitions distinct some)
  | inr none ↦
      AtMostOne.none_is (ap (flat_map (λ (x : PartitionGroups). filter (has_mgid m) x.groups)) (filter_none (has_base b) partitions none))
]
  where
    in_one : IsOne (partitions_at b partitions) → AtMostOne ports b m (groups_at b m partitions)
    in_one found =
        let partition = found.one in
        let base : partition.base ≡ b = eqb-true partition.base b (found_passes (has_base b) partitions partition found.is) in
        let parts = partition_parts ports partition (found_has (has_base b) (is_sound_partition ports) partitions partition sound found.is) in
        let here : groups_at b m partitions ≡ filter (has_mgid m) partition.groups =
        ap (flat_map (λ (x : PartitionGroups). filter (has_mgid m) x.groups)) found.is ∙ append-nil (filter (has_mgid m) partition.groups) in
        elim (cases_Bool (list_any (has_mgid m) partition.groups)) [
          | inl some ↦
              let one = one_group m partition.groups parts.apart some in
              let its = sound_parts ports partition one.one (found_has (has_mgid m) (is_sound_group ports partition) partition.groups one.one parts.each one.is) in
              AtMostOne.one_is one.one (here ∙ one.is) (eqb-true one.one.mgid m (found_passes (has_mgid m) partition.groups one.one one.is))
              (ap (λ (n : ℕ). is_kept ports n one.one) (sym base) ∙ its.kept)
              (ap (λ (n : ℕ). list_all (is_sound_membership ports n) one.one.memberships) (sym base) ∙ its.members)
          | inr none ↦ AtMostOne.none_is (here ∙ filter_none (has_mgid m) partition.groups none)
        ]

-- ---- all that is said of one base and MGID
record LeavesAt (ports : List SubnetPort) (own : SubnetPort) (mask : ℕ) (asked : McMemberRecord) (before after : List PartitionGroups) (b m : ℕ) : Type 0 where
  there : is_there b m after ≡ list_any (stays ports own mask asked b m) (groups_at b m before)
  as_before : is_there b m after ≡ true → map without_members (groups_at b m after) ≡ map without_members (groups_at b m before)
  taken : (p : ℕ) → is_left own mask asked p b m ≡ true → is_there b m after ≡ true
      → registered p b m after ≡ filter is_joined (map (without_bits (join_state_of asked.join_state)) (registered p b m before))
  registrations : (p : ℕ) → is_left own mask asked p b m ≡ false → is_there b m after ≡ true → registered p b m after ≡ registered p b m before
  groups : is_left_group mask asked b m ≡ false → groups_at b m after ≡ groups_at b m before

-- ---- whose registrations are left
pub and_turned : (a b : Bool) → (a && b) ≡ (b && a)
and_turned true true = refl
and_turned true false = refl
and_turned false true = refl
and_turned false false = refl

pub names : (is_asked : Bool) (base b : ℕ) → names_base (if is_asked then Some base else None) b ≡ (not is_asked || (b == base))
names true base b = refl
names false base b = refl

module _ (ports : List SubnetPort) (own : SubnetPort) (mask : ℕ) (asked : McMemberRecord) where
  abbrev leave : Leave
  leave = leave_asked own mask asked

  abbrev bits : JoinState
  bits = join_state_of asked.join_state

  about : (b : ℕ) (group : MulticastGroup) (x : Membership) → leaving.is_left leave b group x ≡ is_left own mask asked x.port b group.mgid
  about b group x =
      ap (λ (t : Bool). (x.port == own.guid) && t)
      (ap (λ (t : Bool). (group.mgid == asked.mgid) && t) (names (asks mask member_mask.p_key) (base_of asked.p_key) b)
      ∙ and_turned (group.mgid == asked.mgid) (not (asks mask member_mask.p_key) || (b == base_of asked.p_key)))

  abbrev less : ℕ → MulticastGroup → Membership → Membership
  less b group = less_joined leave b group

  abbrev holds_bits : Membership → Bool
  holds_bits x = is_joined x.join_state

  -- ---- what keeps a group then
  anchors_less : (b : ℕ) (group : MulticastGroup) (x : Membership) → anchors ports b (less b group x) ≡ still_anchors ports own mask asked b group.mgid x
  anchors_less b group x = elim (cases_Bool (leaving.is_left leave b group x)) [
    | inl this ↦
        let its : is_left own mask asked x.port b group.mgid ≡ true = sym (about b group x) ∙ this in
        rw (this, its) (and_turned (x.join_state.full_member && not bits.full_member) (is_full_member ports b x.port))
    | inr other ↦
        let its : is_left own mask asked x.port b group.mgid ≡ false = sym (about b group x) ∙ other in
        rw (other, its) (and_turned x.join_state.full_member (is_full_member ports b x.port)
        ∙ ap (λ (t : Bool). is_full_member ports b x.port && t) (sym (and_true x.join_state.full_member)))
  ]

  kept_is : (b : ℕ) (group : MulticastGroup) → is_kept ports b (left_group leave b group) ≡ stays ports own mask asked b group.mgid group
  kept_is b group =
      ap (λ (t : Bool). is_by_file group.creator || t)
      (any_within (anchors ports b) holds_bits
      (λ x e. or_left x.join_state.full_member _ (and_parts x.join_state.full_member (is_full_member ports b x.port) e).0) (map (less b group) group.memberships)
      ∙ (any_map (anchors ports b) (less b group) group.memberships
      ∙ any_alike (λ x. anchors ports b (less b group x)) (still_anchors ports own mask asked b group.mgid) (anchors_less b group) group.memberships))

  -- ---- registrations
  port_stays : (p b : ℕ) (group : MulticastGroup) (x : Membership) → is_of p (less b group x) ≡ is_of p x
  port_stays p b group x = ap (λ (n : ℕ). n == p) (less_port leave b group x)

  loses : (p b : ℕ) (group : MulticastGroup) → is_left own mask asked p b group.mgid ≡ true → (xs : List Membership) → list_all (is_of p) xs ≡ true
      → map (λ (x : Membership). x.join_state) (filter holds_bits (map (less b group) xs))
      ≡ filter is_joined (map (without_bits bits) (map (λ (x : Membership). x.join_state) xs))
  loses p b group this [] all = refl
  loses p b group this (x ∷ xs) all =
      let parts = and_parts (is_of p x) (list_all (is_of p) xs) all in
      let its : leaving.is_left leave b group x ≡ true = about b group x ∙ (ap (λ (n : ℕ). is_left own mask asked n b group.mgid) (eqb-true x.port p parts.0) ∙ this) in
      let rest = loses p b group this xs parts.1 in
      elim (cases_Bool (is_joined (without_bits bits x.join_state))) [
        | inl some ↦ rw (its, some) (ap (λ states. without_bits bits x.join_state ∷ states) rest)
        | inr none ↦ rw (its, none) rest
      ]

  taken_in : (p b : ℕ) (group : MulticastGroup) → is_left own mask asked p b group.mgid ≡ true
      → states_of p (without_member leave b group) ≡ filter is_joined (map (without_bits bits) (states_of p group.memberships))
  taken_in p b group this =
      ap (map (λ (x : Membership). x.join_state)) (filter_commutes (is_of p) holds_bits (map (less b group) group.memberships)
      ∙ ap (filter holds_bits) (filter_map_same (is_of p) (less b group) (port_stays p b group) group.memberships))
      ∙ loses p b group this (filter (is_of p) group.memberships) (all_of_filter (is_of p) (is_of p) (λ x e. e) group.memberships)

  idle : (p b : ℕ) (group : MulticastGroup) → is_left own mask asked p b group.mgid ≡ false → (x : Membership) → is_of p x ≡ true → less b group x ≡ x
  idle p b group other x its =
      let out : leaving.is_left leave b group x ≡ false = about b group x ∙ (ap (λ (n : ℕ). is_left own mask asked n b group.mgid) (eqb-true x.port p its) ∙ other) in
      rw out refl

  all_joined : (b : ℕ) (memberships : List Membership) → list_all (is_sound_membership ports b) memberships ≡ true → list_all holds_bits memberships ≡ true
  all_joined b = list_all_weaker (is_sound_membership ports b) holds_bits (λ x e. (and_parts (is_member ports b x.port) (is_joined x.join_state) e).1)

  stays_in : (p b : ℕ) (group : MulticastGroup) → is_left own mask asked p b group.mgid ≡ false → list_all holds_bits group.memberships ≡ true
      → states_of p (without_member leave b group) ≡ states_of p group.memberships
  stays_in p b group other all =
      ap (map (λ (x : Membership). x.join_state)) (filter_commutes (is_of p) holds_bits (map (less b group) group.memberships)
      ∙ (ap (filter holds_bits) (filter_map_absorbs (is_of p) (less b group) (port_stays p b group) (idle p b group other) group.memberships)
      ∙ (filter_commutes holds_bits (is_of p) group.memberships ∙ ap (filter (is_of p)) (filter_all holds_bits group.memberships all))))

  -- ---- a group that the leave is not about
  not_its : (p b m : ℕ) → is_left_group mask asked b m ≡ false → is_left own mask asked p b m ≡ false
  not_its p b m other = rw other (and_false (p == own.guid))
    where
      and_false : (a : Bool) → (a && false) ≡ false
      and_false true = refl
      and_false false = refl

  all_idle : (b : ℕ) (group : MulticastGroup) → is_left_group mask asked b group.mgid ≡ false → (xs : List Membership) → map (less b group) xs ≡ xs
  all_idle b group other [] = refl
  all_idle b group other (x ∷ xs) =
      let out : leaving.is_left leave b group x ≡ false = about b group x ∙ not_its x.port b group.mgid other in
      rw out (ap (λ rest. x ∷ rest) (all_idle b group other xs))

  same_group : (b : ℕ) (group : MulticastGroup) → is_left_group mask asked b group.mgid ≡ false → list_all holds_bits group.memberships ≡ true
      → left_group leave b group ≡ group
  same_group b group other all =
      ap (λ memberships. record group { memberships = memberships })
      (ap (filter holds_bits) (all_idle b group other group.memberships) ∙ filter_all holds_bits group.memberships all)

  -- ---- the groups after it
  module _ (partitions : List PartitionGroups) where
    abbrev after : List PartitionGroups
    after = left ports leave partitions

    none_after : (b m : ℕ) → groups_at b m partitions ≡ [] → groups_at b m after ≡ []
    none_after b m none = groups_left ports leave b m partitions ∙ ap (left_of ports leave b) none

    one_after : (b : ℕ) (group : MulticastGroup) → groups_at b group.mgid partitions ≡ group ∷ [] → stays ports own mask asked b group.mgid group ≡ true
        → groups_at b group.mgid after ≡ left_group leave b group ∷ []
    one_after b group one kept =
        let its : is_kept ports b (left_group leave b group) ≡ true = kept_is b group ∙ kept in
        groups_left ports leave b group.mgid partitions ∙ (ap (left_of ports leave b) one ∙ rw its refl)

    ended_after : (b : ℕ) (group : MulticastGroup) → groups_at b group.mgid partitions ≡ group ∷ [] → stays ports own mask asked b group.mgid group ≡ false
        → groups_at b group.mgid after ≡ []
    ended_after b group one ended =
        let its : is_kept ports b (left_group leave b group) ≡ false = kept_is b group ∙ ended in
        groups_left ports leave b group.mgid partitions ∙ (ap (left_of ports leave b) one ∙ rw its refl)

    none_there : (b m : ℕ) → groups_at b m partitions ≡ [] → LeavesAt ports own mask asked partitions after b m
    none_there b m none =
        let nothing = none_after b m none in
        let not_there : is_there b m after ≡ false = ap is_some nothing in
        record {
          there = rw (nothing, none) refl;
          as_before = λ e. absurd (both_ways (is_there b m after) not_there e);
          taken = λ p this e. absurd (both_ways (is_there b m after) not_there e);
          registrations = λ p other e. absurd (both_ways (is_there b m after) not_there e);
          groups = λ other. nothing ∙ sym none;
        }

    is_one_of : (b : ℕ) (group : MulticastGroup) → groups_at b group.mgid partitions ≡ group ∷ []
        → list_any (stays ports own mask asked b group.mgid) (groups_at b group.mgid partitions) ≡ stays ports own mask asked b group.mgid group
    is_one_of b group one = ap (list_any (stays ports own mask asked b group.mgid)) one ∙ or_false (stays ports own mask asked b group.mgid group)

    one_there : (b : ℕ) (group : MulticastGroup) → groups_at b group.mgid partitions ≡ group ∷ [] → is_kept ports b group ≡ true
        → list_all holds_bits group.memberships ≡ true → LeavesAt ports own mask asked partitions after b group.mgid
    one_there b group one kept all = elim (cases_Bool (stays ports own mask asked b group.mgid group)) [
      | inl keeps ↦
          let next = one_after b group one keeps in
          record {
            there = ap is_some next ∙ sym (is_one_of b group one ∙ keeps);
            as_before = λ e. rw (next, one) refl;
            taken = λ p this e.
                in_it p (left_group leave b group) (groups_at b group.mgid after) next
                ∙ (taken_in p b group this
                ∙ ap (λ states. filter is_joined (map (without_bits bits) states)) (sym (in_it p group (groups_at b group.mgid partitions) one)));
            registrations = λ p other e.
                in_it p (left_group leave b group) (groups_at b group.mgid after) next
                ∙ (stays_in p b group other all ∙ sym (in_it p group (groups_at b group.mgid partitions) one));
            groups = λ other. next ∙ (ap (λ found. found ∷ []) (same_group b group other all) ∙ sym one);
          }
      | inr ends ↦
          let nothing = ended_after b group one ends in
          let not_there : is_there b group.mgid after ≡ false = ap is_some nothing in
          record {
            there = not_there ∙ sym (is_one_of b group one ∙ ends);
            as_before = λ e. absurd (both_ways (is_there b group.mgid after) not_there e);
            taken = λ p this e. absurd (both_ways (is_there b group.mgid after) not_there e);
            registrations = λ p other e. absurd (both_ways (is_there b group.mgid after) not_there e);
            groups = λ other.
                absurd (both_ways (is_kept ports b group) (ap (is_kept ports b) (sym (same_group b group other all)) ∙ (kept_is b group ∙ ends)) kept);
          }
    ]
      where
        in_it : (p : ℕ) (found : MulticastGroup) (groups : List MulticastGroup) → groups ≡ found ∷ [] → flat_map (states_in p) groups ≡ states_of p found.memberships
        in_it p found groups e = ap (flat_map (states_in p)) e ∙ append-nil (states_of p found.memberships)

    leaves_at : (b m : ℕ) → AtMostOne ports b m (groups_at b m partitions) → LeavesAt ports own mask asked partitions after b m
    leaves_at b m (AtMostOne.none_is none) = none_there b m none
    leaves_at b m (AtMostOne.one_is group one mgid kept members) =
        subst (LeavesAt ports own mask asked partitions after b) mgid
        (one_there b group (subst (λ (n : ℕ). groups_at b n partitions ≡ group ∷ []) (sym mgid) one) kept (all_joined b group.memberships members))

    pub is_left_all : is_sound ports partitions ≡ true → IsDistinct nat_eq (map (λ partition. partition.base) partitions)
        → IsLeft ports own mask asked partitions after
    is_left_all sound distinct =
        let at = λ (b m : ℕ). leaves_at b m (at_most_one ports b m partitions sound distinct) in
        record {
          there = λ b m. (at b m).there;
          as_before = λ b m. (at b m).as_before;
          taken = λ p b m. (at b m).taken p;
          registrations = λ p b m. (at b m).registrations p;
          groups = λ b m. (at b m).groups;
        }

pub leaves_leave_the_rest_alone : LeavesLeaveTheRestAlone
leaves_leave_the_rest_alone configuration own payload state configured found is asks answered =
    let ports = configuration.ports in
    let s = state.remembered in
    let request = request_in payload in
    let asked = group_in request.content in
    let accepted = leave_accepted ports own request.component_mask asked request.content s _ (leave_replied ports own payload state asks answered) in
    subst (IsLeftBy ports own request.component_mask asked s) (sym accepted.next_is)
    (record {
      left = is_left_all ports own request.component_mask asked s.partitions is.remembered.groups (own_bases configuration s configured is.remembered);
      services = refl;
    })
