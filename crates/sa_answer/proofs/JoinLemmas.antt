-- What a join is asked by the groups of the partition of its base, and what comes of it.
use Rattle.std.proofs.Common.{◌≡◌, ℕ, true, List, get_or, Option, Some, None, Ok, Err, refl, sym, ◌∙◌, ap}
use Rattle.std.proofs.lemmas.Bool.{and_from}
use Rattle.mad_layout.specs.declared.status.MadStatus.{MadStatus}
use Rattle.pkey_rules.specs.PKey.{base_of}
use Rattle.sa_records.specs.declared.mc_member_record.McMemberRecord.{McMemberRecord}
use Rattle.subnet_model.specs.Delivery.{port_with_guid}
use Rattle.subnet_model.specs.declared.subnet_port.SubnetPort.{SubnetPort}
use Rattle.sa_model.specs.Groups.{MulticastGroup, PartitionGroups}
use Rattle.sa_model.specs.JoinState.{is_joined}
use Rattle.sa_model.specs.Joining.{may_create}
use Rattle.sa_model.specs.Members.{is_member}
use Rattle.sa_model.specs.Refusals.{first_refusal}
use Rattle.sa_model.proofs.NearLemmas.{member_if_in}
use Rattle.sa_model.specs.Visible.{SaState}
use Rattle.sa_replies.specs.Joins.{after_join, founding_by, group_named, group_questions, has_free_mlid, is_join_state, join_asked, join_done, join_outcome, join_questions, join_refusal, parameters_asked}
use Rattle.sa_replies.specs.State.{is_fit_group}
use Rattle.sa_replies.proofs.AlikeLemmas.{join_is_in, none_so, unless_not}
use Rattle.sa_replies.proofs.JoinedLemmas.{some_bit}
use Rattle.sa_store.specs.Members.{CanJoin, place_with_base}
use Rattle.sa_store.proofs.MemberLemmas.{IsOf, free_in, named_in}
use Rattle.sa_answer.specs.JoinQuestions.{questions_by, questions_in}

-- ---- what is asked of a join
asked_by_group : (ports : List SubnetPort) (own : SubnetPort) (mask : ℕ) (asked : McMemberRecord) (partitions : List PartitionGroups) (named : Option MulticastGroup)
    → group_questions ports own mask asked partitions named ≡ questions_by ports own mask asked (has_free_mlid (base_of asked.p_key) partitions) named
asked_by_group ports own mask asked partitions (Some group) = refl
asked_by_group ports own mask asked partitions None = refl

pub refusal_in : (ports : List SubnetPort) (own : SubnetPort) (mask : ℕ) (asked : McMemberRecord) (partitions : List PartitionGroups) (i : ℕ) (d : PartitionGroups)
    → IsOf (base_of asked.p_key) partitions i d
    → join_refusal ports own mask asked partitions ≡ first_refusal (questions_in ports own mask asked (get_or partitions i d))
refusal_in ports own mask asked partitions i d at =
    let base = base_of asked.p_key in
    ap first_refusal
    (asked_by_group ports own mask asked partitions (group_named base asked.mgid partitions)
    ∙ (λ j. questions_by ports own mask asked (free_in base partitions i d at j) (named_in base asked.mgid partitions i d at j)))

pub can_join : (ports : List SubnetPort) (own : SubnetPort) (mask : ℕ) (asked : McMemberRecord) (partitions : List PartitionGroups) (i : ℕ)
    → port_with_guid ports own.guid ≡ Some own → first_refusal (join_questions own mask asked) ≡ None → join_refusal ports own mask asked partitions ≡ None
    → is_fit_group (parameters_asked mask asked) ≡ true → place_with_base partitions (base_of asked.p_key) ≡ Some i
    → CanJoin ports (join_asked own mask asked) partitions i
can_join ports own mask asked partitions i found asked_well allowed fit place =
    let join = join_asked own mask asked in
    record {
      there = place;
      fit = fit;
      may = and_from (is_member ports join.base own.guid) (is_joined join.join_state)
          (member_if_in ports own join.base found (join_is_in own mask asked asked_well))
          (some_bit asked.join_state (unless_not (is_join_state asked.join_state) (none_so 4 (join_questions own mask asked) asked_well)));
      makes = λ none. unless_not (may_create ports join) (none_so 0 (founding_by ports own mask asked (has_free_mlid join.base partitions)) (founding none));
      free = λ none.
          unless_not (has_free_mlid join.base partitions) (none_so 5 (founding_by ports own mask asked (has_free_mlid join.base partitions)) (founding none));
    }
  where
    founding : (none : group_named (base_of asked.p_key) asked.mgid partitions ≡ None)
        → first_refusal (founding_by ports own mask asked (has_free_mlid (base_of asked.p_key) partitions)) ≡ None
    founding none = ap (λ (named : Option MulticastGroup). first_refusal (group_questions ports own mask asked partitions named)) (sym none) ∙ allowed

-- ---- what comes of it
pub join_not_allowed : (ports : List SubnetPort) (own : SubnetPort) (state : SaState) (mask : ℕ) (asked : McMemberRecord) (status : MadStatus)
    → first_refusal (join_questions own mask asked) ≡ None → join_refusal ports own mask asked state.partitions ≡ Some status
    → join_outcome ports own state mask asked ≡ Err status
join_not_allowed ports own state mask asked status well refused = rw (well, refused) refl

pub join_is_done : (ports : List SubnetPort) (own : SubnetPort) (state : SaState) (mask : ℕ) (asked : McMemberRecord)
    → first_refusal (join_questions own mask asked) ≡ None → join_refusal ports own mask asked state.partitions ≡ None
    → join_outcome ports own state mask asked ≡ Ok (join_done own (join_asked own mask asked) (after_join ports (join_asked own mask asked) state))
join_is_done ports own state mask asked well allowed = rw (well, allowed) refl
