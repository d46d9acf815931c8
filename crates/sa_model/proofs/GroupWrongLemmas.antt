-- Two states that are alike to a port, and that a wrong rule distinguishes.
use Rattle.std.proofs.Common.{◌==◌, Bool, true, false, List, [], ◌∷◌, ◌≡◌, ap, refl}
use Rattle.std.specs.List.{list_any}
use Rattle.subnet_model.specs.declared.subnet_port.SubnetPort.{SubnetPort}
use Rattle.sa_model.specs.JoinState.{JoinState}
use Rattle.sa_model.specs.Groups.{PartitionGroups}
use Rattle.sa_model.specs.Joining.{joined}
use Rattle.sa_model.specs.Sight.{Alike}
use Rattle.sa_model.specs.GroupExamples.{full_member, parameters, ports, nobody, both, mgid, join_of, leave_of, mlids}
use Rattle.subnet_model.specs.Examples.{adapter}
use Rattle.sa_model.specs.GroupWrongRules.{OnePoolIsSeen, MgidsAloneAreSeen, LimitedKeepersAreSeen, SendersAreReached, ComersAreReported, AllNumbersAreReported}
use Rattle.step_results.specs.Truth.{same_answer}
use Rattle.sa_model.specs.Receivers.{is_among, receivers_of}

-- two ports, each alone in its partition
abbrev apart : List SubnetPort
apart = adapter 1 0x101 (0x8002 ∷ []) ∷ adapter 2 0x111 (0x8001 ∷ []) ∷ []

abbrev no_groups : List PartitionGroups
no_groups = record { number = 0; base = 2; groups = [] } ∷ record { number = 1; base = 1; groups = [] } ∷ []

abbrev of_the_other : List PartitionGroups
of_the_other = joined apart (record { port = 0x101; base = 2; mgid = mgid; join_state = full_member; parameters = parameters }) no_groups

alike : Alike apart 0x111 no_groups of_the_other
alike = record { left_sound = refl; right_sound = refl; same = refl }

pub one_pool_is_seen : OnePoolIsSeen
one_pool_is_seen law =
    let same : true ≡ false = ap (λ state. list_any (λ mlid. mlid == 0xc000) (mlids state)) (law apart 0x111 (join_of 0x111 mgid) no_groups of_the_other refl alike) in
    absurd (cc)

pub mgids_alone_are_seen : MgidsAloneAreSeen
mgids_alone_are_seen law =
    let same : true ≡ false = ap (λ state. list_any (λ mlid. mlid == 0xc020) (mlids state)) (law apart 0x111 (join_of 0x111 mgid) no_groups of_the_other refl alike) in
    absurd (cc)

-- a limited member is far from another limited member
abbrev one : List PartitionGroups
one = joined ports (join_of 0x111 mgid) nobody

pub limited_keepers_are_seen : LimitedKeepersAreSeen
limited_keepers_are_seen law =
    let same : false ≡ true = ap (λ state. list_any (λ mlid. mlid == 0xc020) (mlids state)) (law ports 0x131 (leave_of 0x111 mgid) one both refl (record { left_sound = refl; right_sound = refl; same = refl })) in
    absurd (cc)

-- one port makes a group, and the other joins it, only to send or to receive too
abbrev together : List SubnetPort
together = adapter 1 0x101 (0xffff ∷ []) ∷ adapter 2 0x111 (0x8001 ∷ []) ∷ adapter 3 0x121 (0x8001 ∷ []) ∷ []

abbrev made : List PartitionGroups
made = joined together (join_of 0x111 mgid) no_groups

abbrev sender : JoinState
sender = record { full_member = false; non_member = false; send_only_non_member = true }

abbrev with_sender : List PartitionGroups
with_sender = joined together (record (join_of 0x121 mgid) { join_state = sender }) made

abbrev with_receiver : List PartitionGroups
with_receiver = joined together (join_of 0x121 mgid) made

pub senders_are_reached : SendersAreReached
senders_are_reached law =
    let same : true ≡ false = law together with_sender 0xc020 (adapter 3 0x121 (0x8001 ∷ [])) refl refl refl in
    absurd (cc)

pub comers_are_reported : ComersAreReported
comers_are_reported law =
    let same : false ≡ true = law together made with_receiver 1 (record { mlid = 0xc020; lid = 3 }) refl refl in
    absurd (cc)

-- nothing changes, and so no receiver is distinguished
no_difference : (b : Bool) → same_answer b b ≡ false → ⊥
no_difference true e = let reported : true ≡ false = e in absurd (cc)
no_difference false e = let reported : true ≡ false = e in absurd (cc)

pub all_numbers_are_reported : AllNumbersAreReported
all_numbers_are_reported law =
    let reported = law together made made 1 refl in
    no_difference (is_among (receivers_of together 1 made) reported.one) reported.differs
