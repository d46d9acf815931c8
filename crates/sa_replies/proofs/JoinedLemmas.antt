-- After a join that is not refused its group is there, and the port takes part in it with each bit that it asked for.
use Rattle.std.proofs.Common.{ℕ, zero, suc, ◌≡◌, ◌∙◌, ◌==◌, ◌&&◌, ◌||◌, Bool, true, false, not, ap, refl, sym, inl, inr, nat_lt, List, [], ◌∷◌, ◌++◌, find, map, Option, Some, None, is_none, arith}
use Rattle.std.specs.List.{list_all, list_any}
use Rattle.std.proofs.lemmas.Bool.{cases_Bool, both_ways, and_from, and_parts, or_cases, or_parts, or_left, or_right, eq-eqb}
use Rattle.std.proofs.lemmas.Bool.Decides.{nat_tests}
use Rattle.std.proofs.lemmas.List.Folds.{list_all-append, list_any-append}
use Rattle.step_results.proofs.ListLemmas.{found_passes}
use Rattle.pkey_rules.specs.PKey.{base_of}
use Rattle.sa_model.proofs.JoinSoundLemmas.{all_with_group, joined_mgid}
use Rattle.sa_model.proofs.InPlaceLemmas.{higher_ones, lower_ones, none_lower}
use Rattle.sa_model.proofs.ListLemmas.{any_map}
use Rattle.sa_model.specs.Anchor.{free_mlid}
use Rattle.sa_model.specs.Groups.{Membership, MulticastGroup, PartitionGroups}
use Rattle.sa_model.specs.Joining.{Join, has_mgid, in_place, is_of, joined, joined_group, joined_groups, may_create, may_join, more_joined, new_group, new_membership, with_created, with_group, with_member}
use Rattle.sa_model.specs.JoinState.{JoinState, is_joined, with_bits}
use Rattle.sa_model.specs.Members.{is_member}
use Rattle.sa_model.proofs.NearLemmas.{member_if_in}
use Rattle.sa_model.specs.Refusals.{first_refusal}
use Rattle.sa_records.specs.declared.mc_member_record.McMemberRecord.{McMemberRecord}
use Rattle.subnet_model.proofs.IsolationLemmas.{found_in}
use Rattle.subnet_model.specs.declared.subnet_port.SubnetPort.{SubnetPort}
use Rattle.subnet_model.specs.Delivery.{port_with_guid}
use Rattle.sa_replies.proofs.AlikeLemmas.{groups_in, join_is_in, none_so, unless_not}
use Rattle.sa_replies.specs.Joins.{founding_by, group_named, group_questions, has_free_mlid, is_join_state, join_asked, join_questions, join_refusal, join_state_of}
use Rattle.sa_replies.specs.Sources.{has_each_bit_of, takes_part_with}

-- ---- bits
own_bit : (a : Bool) → (not a || a) ≡ true
own_bit true = refl
own_bit false = refl

added_bit : (a b : Bool) → (not a || (b || a)) ≡ true
added_bit true true = refl
added_bit true false = refl
added_bit false b = refl

own_bits : (asked : JoinState) → has_each_bit_of asked asked ≡ true
own_bits asked =
    and_from (not asked.full_member || asked.full_member) _ (own_bit asked.full_member)
    (and_from (not asked.non_member || asked.non_member) (not asked.send_only_non_member || asked.send_only_non_member)
    (own_bit asked.non_member) (own_bit asked.send_only_non_member))

added_bits : (asked held : JoinState) → has_each_bit_of asked (with_bits asked held) ≡ true
added_bits asked held =
    and_from (not asked.full_member || (held.full_member || asked.full_member)) _ (added_bit asked.full_member held.full_member)
    (and_from (not asked.non_member || (held.non_member || asked.non_member))
    (not asked.send_only_non_member || (held.send_only_non_member || asked.send_only_non_member))
    (added_bit asked.non_member held.non_member) (added_bit asked.send_only_non_member held.send_only_non_member))

abbrev eight_more : ℕ → ℕ
eight_more n = suc (suc (suc (suc (suc (suc (suc (suc n)))))))

too_high : (n : ℕ) → is_join_state (eight_more n) ≡ false
too_high n = grind (arith, nat_tests)

-- a JoinState from 1 to 7 has one
pub some_bit : (bits : ℕ) → is_join_state bits ≡ true → is_joined (join_state_of bits) ≡ true
some_bit zero e = absurd (cc)
some_bit (suc zero) e = refl
some_bit (suc (suc zero)) e = refl
some_bit (suc (suc (suc zero))) e = refl
some_bit (suc (suc (suc (suc zero)))) e = refl
some_bit (suc (suc (suc (suc (suc zero))))) e = refl
some_bit (suc (suc (suc (suc (suc (suc zero)))))) e = refl
some_bit (suc (suc (suc (suc (suc (suc (suc zero))))))) e = refl
some_bit (suc (suc (suc (suc (suc (suc (suc (suc n)))))))) e = absurd (both_ways (is_join_state (eight_more n)) (too_high n) e)

-- ---- the port's membership in a group that it joined
module _ (join : Join) where
  abbrev takes_part_in : List Membership → Bool
  takes_part_in memberships = takes_part_with join.join_state (find (is_of join.port) memberships)

  with_more : (memberships : List Membership) → list_any (is_of join.port) memberships ≡ true → takes_part_in (map (more_joined join) memberships) ≡ true
  with_more [] some = absurd (cc)
  with_more (first ∷ memberships) some = elim (cases_Bool (is_of join.port first)) [
    | inl its ↦ rw (its, its) (added_bits join.join_state first.join_state)
    | inr other ↦ let later : list_any (is_of join.port) memberships ≡ true = rw other at some in rw (other, other) (with_more memberships later)
  ]

  new_behind : (before behind : List Membership) → list_any (is_of join.port) before ≡ false
      → takes_part_in (before ++ new_membership join ∷ behind) ≡ true
  new_behind [] behind none = rw (eq-eqb join.port join.port refl) (own_bits join.join_state)
  new_behind (first ∷ before) behind none =
      let parts = or_parts (is_of join.port first) (list_any (is_of join.port) before) none in
      rw parts.0 (new_behind before behind parts.1)

  with_new : (memberships : List Membership) → takes_part_in (in_place (new_membership join) memberships) ≡ true
  with_new memberships =
      new_behind (lower_ones (new_membership join) memberships) (higher_ones (new_membership join) memberships)
      (none_lower (new_membership join) memberships)

  joined_takes_part : (memberships : List Membership) → takes_part_in (with_member join memberships) ≡ true
  joined_takes_part memberships = elim (cases_Bool (list_any (is_of join.port) memberships)) [
    | inl there ↦ rw there (with_more memberships there)
    | inr none ↦ rw none (with_new memberships)
  ]

  -- ---- a group: where it has the MGID, the port takes part in it
  abbrev is_done : MulticastGroup → Bool
  is_done group = not (has_mgid join.mgid group) || takes_part_in group.memberships

  group_done : (group : MulticastGroup) → is_done (joined_group join group) ≡ true
  group_done group = elim (cases_Bool (has_mgid join.mgid group)) [
    | inl this ↦ rw this (or_right (not (has_mgid join.mgid group)) (takes_part_in (with_member join group.memberships)) (joined_takes_part group.memberships))
    | inr other ↦ rw (other, other) refl
  ]

  groups_done : (groups : List MulticastGroup) → list_all is_done (map (joined_group join) groups) ≡ true
  groups_done [] = refl
  groups_done (first ∷ groups) =
      and_from (is_done (joined_group join first)) (list_all is_done (map (joined_group join) groups)) (group_done first) (groups_done groups)

  others_done : (groups : List MulticastGroup) → list_any (has_mgid join.mgid) groups ≡ false → list_all is_done groups ≡ true
  others_done [] none = refl
  others_done (first ∷ groups) none =
      let parts = or_parts (has_mgid join.mgid first) (list_any (has_mgid join.mgid) groups) none in
      and_from (is_done first) (list_all is_done groups) (rw parts.0 refl) (others_done groups parts.1)

  created_done : (mlid : Option ℕ) (groups : List MulticastGroup) → list_all is_done groups ≡ true → list_all is_done (with_created join mlid groups) ≡ true
  created_done None groups all = all
  created_done (Some mlid) groups all =
      all_with_group is_done (new_group join mlid) groups
      (or_right (not (has_mgid join.mgid (new_group join mlid))) (takes_part_in (with_member join [])) (joined_takes_part [])) all

  takes_its_place : (new : MulticastGroup) (groups : List MulticastGroup) → has_mgid join.mgid new ≡ true
      → list_any (has_mgid join.mgid) (with_group new groups) ≡ true
  takes_its_place new [] one = or_left (has_mgid join.mgid new) false one
  takes_its_place new (first ∷ groups) one = elim (cases_Bool (nat_lt new.mlid first.mlid)) [
    | inl before ↦ rw before (or_left (has_mgid join.mgid new) (list_any (has_mgid join.mgid) (first ∷ groups)) one)
    | inr behind ↦ rw behind (or_right (has_mgid join.mgid first) (list_any (has_mgid join.mgid) (with_group new groups)) (takes_its_place new groups one))
  ]

  is_created : (mlid : Option ℕ) (groups : List MulticastGroup) → not (is_none mlid) ≡ true
      → list_any (has_mgid join.mgid) (with_created join mlid groups) ≡ true
  is_created None groups free = absurd (cc)
  is_created (Some mlid) groups free = takes_its_place (new_group join mlid) groups (eq-eqb join.mgid join.mgid refl)

  -- ---- the groups of a partition
  module _ (ports : List SubnetPort) where
    partition_done : (partition : PartitionGroups) → list_all is_done (joined_groups ports join partition) ≡ true
    partition_done partition = elim (cases_Bool (list_any (has_mgid join.mgid) partition.groups)) [
      | inl there ↦ rw there (groups_done partition.groups)
      | inr none ↦
          let all = others_done partition.groups none in
          elim (cases_Bool (may_create ports join)) [
            | inl create ↦ rw (none, create) (created_done (free_mlid partition) partition.groups all)
            | inr not_full ↦ rw (none, not_full) all
          ]
    ]

    stays : (partition : PartitionGroups) → list_any (has_mgid join.mgid) partition.groups ≡ true
        → list_any (has_mgid join.mgid) (joined_groups ports join partition) ≡ true
    stays partition there =
        rw there (any_map (has_mgid join.mgid) (has_mgid join.mgid) (joined_group join)
        (λ group e. ap (λ mgid. mgid == join.mgid) (joined_mgid join group) ∙ e) partition.groups there)

    is_made : may_create ports join ≡ true → (partition : PartitionGroups) → not (is_none (free_mlid partition)) ≡ true
        → list_any (has_mgid join.mgid) (joined_groups ports join partition) ≡ true
    is_made create partition free = elim (cases_Bool (list_any (has_mgid join.mgid) partition.groups)) [
      | inl there ↦ stays partition there
      | inr none ↦ rw (none, create) (is_created (free_mlid partition) partition.groups free)
    ]

    -- ---- and of all partitions of the base
    module _ (may : may_join ports join ≡ true) where
      all_done : (partitions : List PartitionGroups) → list_all is_done (groups_in join.base (joined ports join partitions)) ≡ true
      all_done [] = refl
      all_done (first ∷ partitions) = elim (cases_Bool (first.base == join.base)) [
        | inl this ↦
            rw (this, may, this) (list_all-append is_done (joined_groups ports join first) (groups_in join.base (joined ports join partitions))
            ∙ and_from (list_all is_done (joined_groups ports join first)) (list_all is_done (groups_in join.base (joined ports join partitions)))
            (partition_done first) (all_done partitions))
        | inr other ↦ rw (other, other) (all_done partitions)
      ]

      some_there : (test : PartitionGroups → Bool)
          → ((partition : PartitionGroups) → test partition ≡ true → list_any (has_mgid join.mgid) (joined_groups ports join partition) ≡ true)
          → (partitions : List PartitionGroups) → list_any (λ partition. (partition.base == join.base) && test partition) partitions ≡ true
          → list_any (has_mgid join.mgid) (groups_in join.base (joined ports join partitions)) ≡ true
      some_there test comes [] some = absurd (cc)
      some_there test comes (first ∷ partitions) some = elim (cases_Bool (first.base == join.base)) [
        | inl this ↦
            let either : (test first || list_any (λ partition. (partition.base == join.base) && test partition) partitions) ≡ true = rw this at some in
            let here = list_any (has_mgid join.mgid) (joined_groups ports join first) in
            let rest = list_any (has_mgid join.mgid) (groups_in join.base (joined ports join partitions)) in
            rw (this, may, this) (list_any-append (has_mgid join.mgid) (joined_groups ports join first) (groups_in join.base (joined ports join partitions))
            ∙ elim (or_cases (test first) _ either) [
              | inl passes ↦ or_left here rest (comes first passes)
              | inr later ↦ or_right here rest (some_there test comes partitions later)
            ])
        | inr other ↦
            let later : list_any (λ partition. (partition.base == join.base) && test partition) partitions ≡ true = rw other at some in
            rw (other, other) (some_there test comes partitions later)
      ]

-- which groups there are of a base, by partitions
any_named : (base : ℕ) (test : MulticastGroup → Bool) (partitions : List PartitionGroups)
    → list_any test (groups_in base partitions) ≡ list_any (λ partition. (partition.base == base) && list_any test partition.groups) partitions
any_named base test [] = refl
any_named base test (first ∷ partitions) = elim (cases_Bool (first.base == base)) [
  | inl this ↦
      rw this (list_any-append test first.groups (groups_in base partitions)
      ∙ ap (λ rest. list_any test first.groups || rest) (any_named base test partitions))
  | inr other ↦ rw other (any_named base test partitions)
]

-- ---- the group that is found
pub record IsThere (join : Join) (groups : List MulticastGroup) : Type 0 where
  pub group : MulticastGroup
  pub found : find (has_mgid join.mgid) groups ≡ Some group
  pub takes_part : takes_part_with join.join_state (find (is_of join.port) group.memberships) ≡ true

behind : (join : Join) (first : MulticastGroup) (groups : List MulticastGroup) → has_mgid join.mgid first ≡ false → IsThere join groups
    → IsThere join (first ∷ groups)
behind join first groups other rest = record { group = rest.group; found = rw other rest.found; takes_part = rest.takes_part }

is_there : (join : Join) (groups : List MulticastGroup) → list_any (has_mgid join.mgid) groups ≡ true → list_all (is_done join) groups ≡ true
    → IsThere join groups
is_there join [] some all = absurd (cc)
is_there join (first ∷ groups) some all =
    let parts = and_parts (is_done join first) (list_all (is_done join) groups) all in
    elim (cases_Bool (has_mgid join.mgid first)) [
      | inl this ↦ record { group = first; found = rw this refl; takes_part = rw this at parts.0 }
      | inr other ↦
          let later : list_any (has_mgid join.mgid) groups ≡ true = rw other at some in
          behind join first groups other (is_there join groups later parts.1)
    ]

-- ---- after a join that is not refused
module _ (ports : List SubnetPort) (own : SubnetPort) (mask : ℕ) (asked : McMemberRecord) (partitions : List PartitionGroups)
    (may : may_join ports (join_asked own mask asked) ≡ true) where
  abbrev groups_after : List MulticastGroup
  groups_after = groups_in (base_of asked.p_key) (joined ports (join_asked own mask asked) partitions)

  -- named: the group that was there, if any
  some_after : (named : Option MulticastGroup) → group_named (base_of asked.p_key) asked.mgid partitions ≡ named
      → first_refusal (group_questions ports own mask asked partitions named) ≡ None → list_any (has_mgid asked.mgid) groups_after ≡ true
  some_after (Some group) named allowed =
      let before = groups_in (base_of asked.p_key) partitions in
      some_there (join_asked own mask asked) ports may (λ partition. list_any (has_mgid asked.mgid) partition.groups)
      (stays (join_asked own mask asked) ports) partitions
      (sym (any_named (base_of asked.p_key) (has_mgid asked.mgid) partitions)
      ∙ found_in (has_mgid asked.mgid) (has_mgid asked.mgid) before group named (found_passes (has_mgid asked.mgid) before group named))
  some_after None named allowed =
      let questions = founding_by ports own mask asked (has_free_mlid (base_of asked.p_key) partitions) in
      let create = unless_not (may_create ports (join_asked own mask asked)) (none_so 0 questions allowed) in
      let free = unless_not (has_free_mlid (base_of asked.p_key) partitions) (none_so 5 questions allowed) in
      some_there (join_asked own mask asked) ports may (λ partition. not (is_none (free_mlid partition)))
      (is_made (join_asked own mask asked) ports create) partitions free

pub join_is_there : (ports : List SubnetPort) (own : SubnetPort) (mask : ℕ) (asked : McMemberRecord) (partitions : List PartitionGroups)
    → port_with_guid ports own.guid ≡ Some own → first_refusal (join_questions own mask asked) ≡ None
    → join_refusal ports own mask asked partitions ≡ None
    → IsThere (join_asked own mask asked) (groups_in (base_of asked.p_key) (joined ports (join_asked own mask asked) partitions))
join_is_there ports own mask asked partitions found asked_well allowed =
    let join = join_asked own mask asked in
    let may = and_from (is_member ports join.base own.guid) (is_joined join.join_state)
    (member_if_in ports own join.base found (join_is_in own mask asked asked_well))
    (some_bit asked.join_state (unless_not (is_join_state asked.join_state) (none_so 4 (join_questions own mask asked) asked_well))) in
    is_there join (groups_in join.base (joined ports join partitions))
    (some_after ports own mask asked partitions may (group_named join.base join.mgid partitions) refl allowed)
    (all_done join ports may partitions)
