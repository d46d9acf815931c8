-- Which groups there are after a join, and how ports are registered in them.
use Rattle.std.proofs.Common.{ℕ, Bool, true, false, ◌==◌, ◌&&◌, nat_lt, List, [], ◌∷◌, map, filter, Option, Some, None, ◌≡◌, ◌∙◌, ap, refl, sym, subst, inl, inr}
use Rattle.std.specs.List.{flat_map, list_any}
use Rattle.std.proofs.lemmas.Bool.{cases_Bool, both_ways, and_parts, or_parts, false_from_ne_true, eqb-true, eq-eqb}
use Rattle.std.proofs.lemmas.List.{append-nil}
use Rattle.step_results.proofs.FilterLemmas.{filter_map_absorbs, filter_map_same}
use Rattle.step_results.proofs.BoolLemmas.{or_false, or_true}
use Rattle.subnet_model.specs.declared.subnet_port.SubnetPort.{SubnetPort}
use Rattle.sa_model.specs.Anchor.{free_mlid}
use Rattle.sa_model.specs.Groups.{Membership, MulticastGroup, PartitionGroups, lower_port}
use Rattle.sa_model.specs.Joining.{Join, has_mgid, joined, joined_group, joined_groups, joined_in, may_create, may_join, new_group, with_created, with_group, with_member}
use Rattle.sa_model.specs.JoinState.{JoinState, with_bits}
use Rattle.sa_model.specs.Sound.{is_sound_group, is_sound_partition, pairwise}
use Rattle.sa_model.proofs.JoinSoundLemmas.{joined_mgid}
use Rattle.sa_model.proofs.SoundLemmas.{partition_parts, sound_parts}
use Rattle.sa_replies.specs.Entered.{IsEntered}
use Rattle.sa_replies.specs.Registrations.{bits_held, groups_at, has_base, is_group, is_some, is_there, partitions_at, registered, states_in, without_members}
use Rattle.sa_replies.proofs.MemberLemmas.{others_stay, own_has_more, states_of}
use Rattle.sa_replies.proofs.OneLemmas.{filter_none, found_has, found_passes, one_group}

-- ---- a new group among others
with_group_leaves : (m : ℕ) (new : MulticastGroup) (groups : List MulticastGroup) → has_mgid m new ≡ false
    → filter (has_mgid m) (with_group new groups) ≡ filter (has_mgid m) groups
with_group_leaves m new [] other = rw other refl
with_group_leaves m new (group ∷ groups) other = elim (cases_Bool (nat_lt new.mlid group.mlid)) [
  | inl before ↦ rw (before, other) refl
  | inr behind ↦ elim (cases_Bool (has_mgid m group)) [
    | inl here ↦ rw (behind, here) (ap (λ rest. group ∷ rest) (with_group_leaves m new groups other))
    | inr out ↦ rw (behind, out) (with_group_leaves m new groups other)
  ]
]

with_group_alone : (m : ℕ) (new : MulticastGroup) (groups : List MulticastGroup) → has_mgid m new ≡ true → list_any (has_mgid m) groups ≡ false
    → filter (has_mgid m) (with_group new groups) ≡ new ∷ []
with_group_alone m new [] this none = rw this refl
with_group_alone m new (group ∷ groups) this none =
    let parts = or_parts (has_mgid m group) (list_any (has_mgid m) groups) none in
    elim (cases_Bool (nat_lt new.mlid group.mlid)) [
      | inl before ↦ rw (before, this, parts.0) (ap (λ rest. new ∷ rest) (filter_none (has_mgid m) groups parts.1))
      | inr behind ↦ rw (behind, parts.0) (with_group_alone m new groups this parts.1)
    ]

-- the group that is joined, with those who were registered in it before
pub record IsGroup (join : Join) (before after : List PartitionGroups) : Type 0 where
  pub members : List Membership
  pub order : pairwise lower_port members ≡ true
  pub registered_before : (p : ℕ) → registered p join.base join.mgid before ≡ states_of p members
  pub registered_after : (p : ℕ) → registered p join.base join.mgid after ≡ states_of p (with_member join members)
  pub there : is_there join.base join.mgid after ≡ true
  pub as_before : is_there join.base join.mgid before ≡ true
      → map without_members (groups_at join.base join.mgid after) ≡ map without_members (groups_at join.base join.mgid before)

module _ (ports : List SubnetPort) (join : Join) where
  base_stays : (partition : PartitionGroups) → (joined_in ports join partition).base ≡ partition.base
  base_stays partition = elim (cases_Bool ((partition.base == join.base) && may_join ports join)) [
    | inl here ↦ rw here refl
    | inr out ↦ rw out refl
  ]

  -- ---- the partitions of another base
  other_base : (b m : ℕ) → (b == join.base) ≡ false → (partitions : List PartitionGroups)
      → groups_at b m (joined ports join partitions) ≡ groups_at b m partitions
  other_base b m other partitions =
      ap (flat_map (λ (partition : PartitionGroups). filter (has_mgid m) partition.groups))
      (filter_map_absorbs (has_base b) (joined_in ports join) (λ x. ap (λ (n : ℕ). n == b) (base_stays x)) idle partitions)
    where
      idle : (x : PartitionGroups) → has_base b x ≡ true → joined_in ports join x ≡ x
      idle x here =
          let out : (x.base == join.base) ≡ false = ap (λ (n : ℕ). n == join.base) (eqb-true x.base b here) ∙ other in
          rw out refl

  -- ---- the one of its own base
  module _ (partition : PartitionGroups) (partitions : List PartitionGroups) (one : partitions_at join.base partitions ≡ partition ∷ [])
      (may : may_join ports join ≡ true) where
    pub before_at : (m : ℕ) → groups_at join.base m partitions ≡ filter (has_mgid m) partition.groups
    before_at m =
        ap (flat_map (λ (x : PartitionGroups). filter (has_mgid m) x.groups)) one ∙ append-nil (filter (has_mgid m) partition.groups)

    after_at : (m : ℕ) → groups_at join.base m (joined ports join partitions) ≡ filter (has_mgid m) (joined_groups ports join partition)
    after_at m =
        let here : has_base join.base partition ≡ true = found_passes (has_base join.base) partitions partition one in
        ap (flat_map (λ (x : PartitionGroups). filter (has_mgid m) x.groups))
        (filter_map_same (has_base join.base) (joined_in ports join) (λ x. ap (λ (n : ℕ). n == join.base) (base_stays x)) partitions
        ∙ ap (map (joined_in ports join)) one)
        ∙ rw (here, may) (append-nil (filter (has_mgid m) (joined_groups ports join partition)))

    -- another MGID
    idle_group : (m : ℕ) → (m == join.mgid) ≡ false → (group : MulticastGroup) → has_mgid m group ≡ true → joined_group join group ≡ group
    idle_group m other group here =
        let out : has_mgid join.mgid group ≡ false = ap (λ (n : ℕ). n == join.mgid) (eqb-true group.mgid m here) ∙ other in
        rw out refl

    mgid_stays : (m : ℕ) (group : MulticastGroup) → has_mgid m (joined_group join group) ≡ has_mgid m group
    mgid_stays m group = ap (λ (n : ℕ). n == m) (joined_mgid join group)

    not_new : (m mlid : ℕ) → (m == join.mgid) ≡ false → has_mgid m (new_group join mlid) ≡ false
    not_new m mlid other =
        false_from_ne_true (has_mgid m (new_group join mlid)) (λ same. both_ways (m == join.mgid) other (eq-eqb m join.mgid (sym (eqb-true join.mgid m same))))

    created_leaves : (m : ℕ) → (m == join.mgid) ≡ false → (mlid : Option ℕ) (groups : List MulticastGroup)
        → filter (has_mgid m) (with_created join mlid groups) ≡ filter (has_mgid m) groups
    created_leaves m other None groups = refl
    created_leaves m other (Some mlid) groups = with_group_leaves m (new_group join mlid) groups (not_new m mlid other)

    other_groups : (m : ℕ) → (m == join.mgid) ≡ false
        → filter (has_mgid m) (joined_groups ports join partition) ≡ filter (has_mgid m) partition.groups
    other_groups m other = elim (cases_Bool (list_any (has_mgid join.mgid) partition.groups)) [
      | inl there ↦ rw there (filter_map_absorbs (has_mgid m) (joined_group join) (mgid_stays m) (idle_group m other) partition.groups)
      | inr none ↦ elim (cases_Bool (may_create ports join)) [
        | inl create ↦ rw (none, create) (created_leaves m other (free_mlid partition) partition.groups)
        | inr not_full ↦ rw (none, not_full) refl
      ]
    ]

    groups_stay : (b m : ℕ) → is_group join.base join.mgid b m ≡ false → groups_at b m (joined ports join partitions) ≡ groups_at b m partitions
    groups_stay b m apart = elim (cases_Bool (b == join.base)) [
      | inl this ↦
          let other : (m == join.mgid) ≡ false = rw this at apart in
          subst (λ (n : ℕ). groups_at n m (joined ports join partitions) ≡ groups_at n m partitions) (sym (eqb-true b join.base this))
          (after_at m ∙ other_groups m other ∙ sym (before_at m))
      | inr other ↦ other_base b m other partitions
    ]

    pub was_there : is_sound_partition ports partition ≡ true → list_any (has_mgid join.mgid) partition.groups ≡ true → IsGroup join partitions (joined ports join partitions)
    was_there sound there =
        let parts = partition_parts ports partition sound in
        let found = one_group join.mgid partition.groups parts.apart there in
        let group = found.one in
        let its : has_mgid join.mgid group ≡ true = found_passes (has_mgid join.mgid) partition.groups group found.is in
        let order = (sound_parts ports partition group (found_has (has_mgid join.mgid) (is_sound_group ports partition) partition.groups group parts.each found.is)).by_port in
        let before : groups_at join.base join.mgid partitions ≡ group ∷ [] = before_at join.mgid ∙ found.is in
        let after : groups_at join.base join.mgid (joined ports join partitions) ≡ record group { memberships = with_member join group.memberships } ∷ [] =
        after_at join.mgid
        ∙ rw there (filter_map_same (has_mgid join.mgid) (joined_group join) (mgid_stays join.mgid) partition.groups ∙ rw (found.is, its) refl) in
        record {
          members = group.memberships;
          order = order;
          registered_before = λ p. ap (flat_map (states_in p)) before ∙ append-nil (states_of p group.memberships);
          registered_after = λ p. ap (flat_map (states_in p)) after ∙ append-nil (states_of p (with_member join group.memberships));
          there = ap is_some after;
          as_before = λ e. rw (after, before) refl;
        }

    pub new_there : (mlid : ℕ) → list_any (has_mgid join.mgid) partition.groups ≡ false → may_create ports join ≡ true → free_mlid partition ≡ Some mlid
        → groups_at join.base join.mgid (joined ports join partitions) ≡ new_group join mlid ∷ []
    new_there mlid none create free =
        after_at join.mgid
        ∙ rw (none, create, free) (with_group_alone join.mgid (new_group join mlid) partition.groups (eq-eqb join.mgid join.mgid refl) none)

    pub none_before : list_any (has_mgid join.mgid) partition.groups ≡ false → groups_at join.base join.mgid partitions ≡ []
    none_before none = before_at join.mgid ∙ filter_none (has_mgid join.mgid) partition.groups none

    pub is_new : (mlid : ℕ) → list_any (has_mgid join.mgid) partition.groups ≡ false → may_create ports join ≡ true → free_mlid partition ≡ Some mlid → IsGroup join partitions (joined ports join partitions)
    is_new mlid none create free =
        let before = none_before none in
        let after = new_there mlid none create free in
        record {
          members = [];
          order = refl;
          registered_before = λ p. ap (flat_map (states_in p)) before;
          registered_after = λ p. ap (flat_map (states_in p)) after ∙ append-nil (states_of p (with_member join []));
          there = ap is_some after;
          as_before = λ e. absurd (both_ways (is_there join.base join.mgid partitions) (ap is_some before) e);
        }

    -- ---- all together
    is_this : (b m : ℕ) → is_group join.base join.mgid b m ≡ true → (b ≡ join.base) × (m ≡ join.mgid)
    is_this b m e =
        let parts = and_parts (b == join.base) (m == join.mgid) e in
        (eqb-true b join.base parts.0, eqb-true m join.mgid parts.1)

    pub is_entered : IsGroup join partitions (joined ports join partitions) → IsEntered join.port join.base join.mgid join.join_state partitions (joined ports join partitions)
    is_entered group = record {
      own = group.registered_after join.port ∙ own_has_more join group.members group.order ∙ ap (λ states. with_more states) (sym (group.registered_before join.port));
      registrations = λ p b m apart. elim (cases_Bool (is_group join.base join.mgid b m)) [
        | inl this ↦
            let other : (p == join.port) ≡ false = not_port p (is_group join.base join.mgid b m) this apart in
            let here = is_this b m this in
            rw (here.0, here.1) (group.registered_after p ∙ others_stay join p other group.members ∙ sym (group.registered_before p))
        | inr out ↦ ap (flat_map (states_in p)) (groups_stay b m out)
      ];
      groups = groups_stay;
      there = λ b m. elim (cases_Bool (is_group join.base join.mgid b m)) [
        | inl this ↦
            let here = is_this b m this in
            let known : is_there b m (joined ports join partitions) ≡ true = rw (here.0, here.1) group.there in
            rw (known, this) (sym (or_true (is_there b m partitions)))
        | inr out ↦ rw out (ap is_some (groups_stay b m out) ∙ sym (or_false (is_there b m partitions)))
      ];
      as_before = group.as_before;
    }
      where
        with_more : List JoinState → List JoinState
        with_more states = with_bits join.join_state (bits_held states) ∷ []

        not_port : (p : ℕ) (b : Bool) → b ≡ true → ((p == join.port) && b) ≡ false → (p == join.port) ≡ false
        not_port p b this apart = elim (cases_Bool (p == join.port)) [
          | inl same ↦ absurd (both_ways b (rw same at apart) this)
          | inr other ↦ other
        ]
