-- What a join leaves that is not refused.
use Rattle.std.proofs.Common.{ℕ, Bool, true, false, not, ◌&&◌, ◌||◌, List, [], ◌∷◌, find, map, Option, Some, None, is_none, ◌≡◌, ◌∙◌, ap, refl, sym, subst, inl, inr, nat_eq}
use Rattle.std.specs.List.{IsDistinct, flat_map, list_any}
use Rattle.std.proofs.lemmas.Bool.{cases_Bool, both_ways, and_from, and_parts, or_from}
use Rattle.std.proofs.lemmas.List.{append-nil}
use Rattle.step_results.proofs.FilterLemmas.{any_within}
use Rattle.step_results.proofs.ListLemmas.{found_passes as found_by, list_any_weaker}
use Rattle.sa_records.specs.declared.mc_member_record.McMemberRecord.{McMemberRecord}
use Rattle.sa_records.specs.McMemberMask as member_mask
use Rattle.sa_records.specs.McMemberRecord.{group_in}
use Rattle.subnet_model.proofs.IsolationLemmas.{found_in}
use Rattle.subnet_model.specs.declared.subnet_port.SubnetPort.{SubnetPort}
use Rattle.sa_model.specs.Anchor.{free_mlid}
use Rattle.sa_model.specs.Groups.{MulticastGroup, PartitionGroups}
use Rattle.sa_model.specs.JoinState.{is_joined}
use Rattle.sa_model.specs.Joining.{Join, has_mgid, may_create, may_join, new_group}
use Rattle.sa_model.specs.Members.{is_member}
use Rattle.sa_model.specs.Sound.{is_sound, is_sound_partition}
use Rattle.sa_model.proofs.SoundLemmas.{partition_parts}
use Rattle.sa_model.proofs.NearLemmas.{member_if_in}
use Rattle.sa_model.specs.Refusals.{first_refusal}
use Rattle.sa_model.specs.Selected.{asks}
use Rattle.sa_model.specs.Visible.{SaState}
use Rattle.sa_replies.proofs.AlikeLemmas.{join_is_in, none_so, unless_not}
use Rattle.sa_replies.proofs.JoinedLemmas.{some_bit}
use Rattle.sa_replies.proofs.TakenLemmas.{the_greatest_is_taken}
use Rattle.sa_replies.specs.Joins.{after_join, founding_by, group_named, group_questions, has_free_mlid, is_join_state, join_asked, join_questions, life_taken, mtu_taken, or_zero, parameters_asked, rate_taken}
use Rattle.sa_replies.specs.Request.{request_in}
use Rattle.sa_replies.specs.Taken.{IsGreatest, IsGreatestOf}
use Rattle.sa_replies.specs.Entered.{IsGivenAsAsked, IsJoinedBy, JoinsLeaveTheRestAlone}
use Rattle.sa_replies.specs.Registrations.{has_base, is_some, is_there, partitions_at}
use Rattle.sa_replies.proofs.AcceptedLemmas.{join_accepted, join_replied}
use Rattle.sa_replies.proofs.JoinLemmas.{before_at, is_entered, is_new, new_there, was_there}
use Rattle.sa_replies.proofs.OneLemmas.{IsOne, filter_none, found_has, one_group, one_partition, own_bases}

-- ---- what a new group is given
taken : (codes : List ℕ) (passes : ℕ → Bool) (at_most : ℕ → ℕ → Bool) (found : Option ℕ) → IsGreatest codes passes at_most found → is_none found ≡ false
    → IsGreatestOf codes passes at_most (or_zero found)
taken codes passes at_most None is some = absurd (cc)
taken codes passes at_most (Some n) is some = is

given_as_asked : (ports : List SubnetPort) (own : SubnetPort) (mask : ℕ) (asked : McMemberRecord) (has_free : Bool)
    → first_refusal (founding_by ports own mask asked has_free) ≡ None → IsGivenAsAsked mask asked (parameters_asked mask asked)
given_as_asked ports own mask asked has_free allowed =
    let greatest = the_greatest_is_taken mask asked in
    let questions = founding_by ports own mask asked has_free in
    record {
      q_key = refl;
      traffic_class = refl;
      service_level = refl;
      flow_label = refl;
      mtu = taken _ _ _ (mtu_taken mask asked) greatest.mtu (none_so 2 questions allowed);
      rate = taken _ _ _ (rate_taken mask asked) greatest.rate (none_so 3 questions allowed);
      life_time = taken _ _ _ (life_taken mask asked) greatest.life (none_so 4 questions allowed);
      hop_limit_named = λ e. rw e refl;
      no_hop_limit = λ e. rw e refl;
      scope_named = λ e. rw e refl;
      scope_of_mgid = λ e. rw e refl;
    }

-- ---- the partition in which the group is, or is to be
pub found_none : {X : Type 0} (test : X → Bool) (xs : List X) → find test xs ≡ None → list_any test xs ≡ false
found_none test [] none = refl
found_none test (x ∷ xs) none = elim (cases_Bool (test x)) [
  | inl here ↦ let some : Some x ≡ None = rw here at none in absurd (cc)
  | inr out ↦ or_from (test x) (list_any test xs) out (found_none test xs (rw out at none))
]

pub some_partition : (base mgid : ℕ) (partitions : List PartitionGroups) (group : MulticastGroup) → group_named base mgid partitions ≡ Some group
    → list_any (has_base base) partitions ≡ true
some_partition base mgid partitions group named = elim (cases_Bool (list_any (has_base base) partitions)) [
  | inl some ↦ some
  | inr none ↦
      let nothing : group_named base mgid partitions ≡ None =
      ap (λ found. find (has_mgid mgid) (flat_map (λ (x : PartitionGroups). x.groups) found)) (filter_none (has_base base) partitions none) in
      let wrong : Some group ≡ None = sym named ∙ nothing in
      absurd (cc)
]

pub named_in : (base mgid : ℕ) (partitions : List PartitionGroups) (partition : PartitionGroups) → partitions_at base partitions ≡ partition ∷ []
    → group_named base mgid partitions ≡ find (has_mgid mgid) partition.groups
named_in base mgid partitions partition one =
    ap (λ found. find (has_mgid mgid) (flat_map (λ (x : PartitionGroups). x.groups) found)) one ∙ ap (find (has_mgid mgid)) (append-nil partition.groups)

abbrev has_room : PartitionGroups → Bool
has_room partition = not (is_none (free_mlid partition))

room_in : (base : ℕ) (partitions : List PartitionGroups) (partition : PartitionGroups) → partitions_at base partitions ≡ partition ∷ []
    → has_free_mlid base partitions ≡ true → has_room partition ≡ true
room_in base partitions partition one free =
    let test = λ (x : PartitionGroups). has_base base x && has_room x in
    let kept : list_any test (partitions_at base partitions) ≡ true =
    any_within test (has_base base) (λ x e. (and_parts (has_base base x) (has_room x) e).0) partitions ∙ free in
    let its : (test partition || false) ≡ true = ap (list_any test) (sym one) ∙ kept in
    elim (cases_Bool (test partition)) [
      | inl passes ↦ (and_parts (has_base base partition) (has_room partition) passes).1
      | inr fails ↦ let wrong : false ≡ true = rw fails at its in absurd (cc)
    ]

record IsSome (found : Option ℕ) : Type 0 where
  value : ℕ
  is : found ≡ Some value

some_value : (found : Option ℕ) → not (is_none found) ≡ true → IsSome found
some_value None e = absurd (cc)
some_value (Some n) e = record { value = n; is = refl }

-- ---- a join that is accepted
module _ (ports : List SubnetPort) (own : SubnetPort) (mask : ℕ) (asked : McMemberRecord) (s : SaState)
    (sound : is_sound ports s.partitions ≡ true) (may : may_join ports (join_asked own mask asked) ≡ true) where
  abbrev join : Join
  join = join_asked own mask asked

  sound_one : (partition : PartitionGroups) → partitions_at join.base s.partitions ≡ partition ∷ [] → is_sound_partition ports partition ≡ true
  sound_one partition one = found_has (has_base join.base) (is_sound_partition ports) s.partitions partition sound one

  -- a group that is there
  old_group : (group : MulticastGroup) → group_named join.base join.mgid s.partitions ≡ Some group → IsOne (partitions_at join.base s.partitions)
      → IsJoinedBy own mask asked s (after_join ports join s)
  old_group group named found =
      let partition = found.one in
      let there : list_any (has_mgid join.mgid) partition.groups ≡ true =
      found_in (has_mgid join.mgid) (has_mgid join.mgid) partition.groups group (sym (named_in join.base join.mgid s.partitions partition found.is) ∙ named)
      (passes partition.groups group (sym (named_in join.base join.mgid s.partitions partition found.is) ∙ named)) in
      let one = was_there ports join partition s.partitions found.is may (sound_one partition found.is) there in
      record {
        entered = is_entered ports join partition s.partitions found.is may one;
        made = λ e. absurd (both_ways (is_there join.base join.mgid s.partitions) e (was partition found.is there));
        services = refl;
      }
    where
      passes : (groups : List MulticastGroup) (group : MulticastGroup) → find (has_mgid join.mgid) groups ≡ Some group → has_mgid join.mgid group ≡ true
      passes groups group e = found_by (has_mgid join.mgid) groups group e

      was : (partition : PartitionGroups) → partitions_at join.base s.partitions ≡ partition ∷ [] → list_any (has_mgid join.mgid) partition.groups ≡ true
          → is_there join.base join.mgid s.partitions ≡ true
      was partition one there =
          ap is_some (before_at ports join partition s.partitions one may join.mgid
          ∙ (one_group join.mgid partition.groups (partition_parts ports partition (sound_one partition one)).apart there).is)

  -- one that is made
  made_group : group_named join.base join.mgid s.partitions ≡ None → first_refusal (founding_by ports own mask asked (has_free_mlid join.base s.partitions)) ≡ None
      → IsOne (partitions_at join.base s.partitions) → IsJoinedBy own mask asked s (after_join ports join s)
  made_group named allowed found =
      let partition = found.one in
      let questions = founding_by ports own mask asked (has_free_mlid join.base s.partitions) in
      let create = unless_not (may_create ports join) (none_so 0 questions allowed) in
      let free = unless_not (has_free_mlid join.base s.partitions) (none_so 5 questions allowed) in
      let mlid = some_value (free_mlid partition) (room_in join.base s.partitions partition found.is free) in
      let none = found_none (has_mgid join.mgid) partition.groups (sym (named_in join.base join.mgid s.partitions partition found.is) ∙ named) in
      let one = is_new ports join partition s.partitions found.is may mlid.value none create mlid.is in
      record {
        entered = is_entered ports join partition s.partitions found.is may one;
        made = λ e. record {
          partition = partition;
          of_base = found.is;
          group = new_group join mlid.value;
          there = new_there ports join partition s.partitions found.is may mlid.value none create mlid.is;
          mlid = mlid.is;
          maker = refl;
          given = given_as_asked ports own mask asked (has_free_mlid join.base s.partitions) allowed;
        };
        services = refl;
      }

  some_free : has_free_mlid join.base s.partitions ≡ true → list_any (has_base join.base) s.partitions ≡ true
  some_free = list_any_weaker (λ (x : PartitionGroups). has_base join.base x && has_room x) (has_base join.base)
      (λ x e. (and_parts (has_base join.base x) (has_room x) e).0) s.partitions

  pub joined_by : IsDistinct nat_eq (map (λ partition. partition.base) s.partitions) → (named : Option MulticastGroup)
      → group_named join.base join.mgid s.partitions ≡ named → first_refusal (group_questions ports own mask asked s.partitions named) ≡ None
      → IsJoinedBy own mask asked s (after_join ports join s)
  joined_by distinct (Some group) named allowed =
      old_group group named (one_partition join.base s.partitions distinct (some_partition join.base join.mgid s.partitions group named))
  joined_by distinct None named allowed =
      let free = unless_not (has_free_mlid join.base s.partitions) (none_so 5 (founding_by ports own mask asked (has_free_mlid join.base s.partitions)) allowed) in
      made_group named allowed (one_partition join.base s.partitions distinct (some_free free))

pub joins_leave_the_rest_alone : JoinsLeaveTheRestAlone
joins_leave_the_rest_alone configuration own payload state configured found is asks answered =
    let ports = configuration.ports in
    let s = state.remembered in
    let mask = (request_in payload).component_mask in
    let asked = group_in (request_in payload).content in
    let join = join_asked own mask asked in
    let accepted = join_accepted ports own mask asked s _ (join_replied ports own payload state asks answered) in
    let may = and_from (is_member ports join.base own.guid) (is_joined join.join_state)
    (member_if_in ports own join.base found (join_is_in own mask asked accepted.asked_well))
    (some_bit asked.join_state (unless_not (is_join_state asked.join_state) (none_so 4 (join_questions own mask asked) accepted.asked_well))) in
    subst (IsJoinedBy own mask asked s) (sym accepted.next_is)
    (joined_by ports own mask asked s is.remembered.groups may (own_bases configuration s configured is.remembered)
    (group_named join.base join.mgid s.partitions) refl accepted.allowed)
