-- A service of a limited member that another limited member is not shown, though the two are near each other by another partition.
use Rattle.std.proofs.Common.{ℕ, Bool, true, false, ◌==◌, List, [], ◌∷◌, Option, Some, None, ◌≡◌, inl, inr, ap, refl}
use Rattle.subnet_model.specs.Configuration.{ConfigurationState}
use Rattle.subnet_model.specs.Examples.{adapter}
use Rattle.sa_model.specs.Groups.{Creator, GroupParameters, Membership, MulticastGroup}
use Rattle.sa_replies.proofs.WrongStateLemmas.{alone}
use Rattle.sa_model.specs.Services.{PortServices}
use Rattle.rmpp_core.specs.Segments.{Transfer}
use Rattle.sa_replies.specs.Answer.{Administration}
use Rattle.sa_replies.specs.RunExamples.{ask}
use Rattle.sa_replies.specs.InCommon.{FixedGroup, Registration}
use Rattle.sa_replies.specs.RunSources.{noted_start}
use Rattle.sa_replies.specs.RunWrongRules.{MakersAreInCommon, MgidsAreInCommon, MlidsAreInCommon, NodesAreNoFiles}
use Rattle.sa_replies.specs.RunWrongRules.{ParametersAreInCommon, RegistrationsAreInCommon, TablesAreInCommon, WhatIsShownIsLess}

-- both are full members of the partition of base 2, and limited ones of that of base 1
abbrev near_by_another : ConfigurationState
near_by_another = record { ports = adapter 4 0x111 (0x8002 ∷ 0x0001 ∷ []) ∷ adapter 5 0x121 (0x8002 ∷ 0x0001 ∷ []) ∷ []; partitions = [] }

abbrev without : Administration
without = record { remembered = record { partitions = []; services = [] }; transfers = [] }

abbrev with_place : Administration
with_place = record { remembered = record { partitions = []; services = record { port = 0x121; base = 1; services = [] } ∷ [] }; transfers = [] }

abbrev are_there : List PortServices → Bool
are_there [] = false
are_there (place ∷ places) = true

pub what_is_shown_is_less : WhatIsShownIsLess
what_is_shown_is_less law =
    let reported : false ≡ true = ap are_there (law near_by_another 0x111 without with_place refl).services in
    absurd cc

-- ---- a group of the partition of base 2, by port 0x111
abbrev plain : GroupParameters
plain = record { q_key = 0; mtu = 4; traffic_class = 0; rate = 3; packet_life_time = 18; service_level = 0; flow_label = 0; hop_limit = 0; scope = 2 }

abbrev own_member : Membership
own_member = record { port = 0x111; join_state = record { full_member = true; non_member = false; send_only_non_member = false } }

abbrev holding : MulticastGroup → Administration
holding group = record {
  remembered = record { partitions = record { number = 1; base = 2; groups = group ∷ [] } ∷ []; services = [] };
  transfers = [];
}

abbrev with_group : ℕ → Creator → List Membership → Administration
with_group mlid maker memberships =
    holding (record { mgid = 1; mlid = mlid; parameters = plain; creator = maker; memberships = memberships })

abbrev with_q_key : ℕ → ℕ → Administration
with_q_key mgid q_key = holding (record {
  mgid = mgid;
  mlid = 0xc020;
  parameters = record plain { q_key = q_key };
  creator = Creator.PartitionFile;
  memberships = [];
})

abbrev first_mgid : List FixedGroup → Bool
first_mgid [] = false
first_mgid (group ∷ groups) = group.mgid == 1

abbrev first_q_key : List FixedGroup → Bool
first_q_key [] = false
first_q_key (group ∷ groups) = group.parameters.q_key == 1

pub mgids_are_in_common : MgidsAreInCommon
mgids_are_in_common law =
    let reported : true ≡ false = ap first_mgid ((law near_by_another 0x111 (with_q_key 1 0) (with_q_key 2 0) refl).groups 2 refl) in
    absurd cc

pub parameters_are_in_common : ParametersAreInCommon
parameters_are_in_common law =
    let reported : true ≡ false = ap first_q_key ((law near_by_another 0x111 (with_q_key 1 1) (with_q_key 1 2) refl).groups 2 refl) in
    absurd cc

-- ---- a table that is open to port 0x111, or none
abbrev with_open : Option Transfer → Administration
with_open table = record { remembered = record { partitions = []; services = [] }; transfers = record { port = 0x111; open_table = table } ∷ [] }

abbrev is_open : Option Transfer → Bool
is_open (Some table) = true
is_open None = false

pub tables_are_in_common : TablesAreInCommon
tables_are_in_common transfer law =
    let reported : true ≡ false = ap is_open ((law near_by_another 0x111 (with_open (Some transfer)) (with_open None) refl).open_table) in
    absurd cc

abbrev first_mlid : List FixedGroup → Bool
first_mlid [] = false
first_mlid (group ∷ groups) = group.mlid == 0xc020

pub mlids_are_in_common : MlidsAreInCommon
mlids_are_in_common law =
    let reported : true ≡ false =
    ap first_mlid ((law near_by_another 0x111 (with_group 0xc020 Creator.PartitionFile []) (with_group 0xc021 Creator.PartitionFile []) refl).groups 2 refl) in
    absurd cc

abbrev is_by_port : Creator → Bool
is_by_port (Creator.Port guid) = true
is_by_port Creator.PartitionFile = false

abbrev first_by_port : List FixedGroup → Bool
first_by_port [] = false
first_by_port (group ∷ groups) = is_by_port group.creator

pub makers_are_in_common : MakersAreInCommon
makers_are_in_common law =
    let reported : true ≡ false =
    ap first_by_port ((law near_by_another 0x111 (with_group 0xc020 (Creator.Port 0x111) []) (with_group 0xc020 Creator.PartitionFile []) refl).groups 2 refl) in
    absurd cc

abbrev are_some : List Registration → Bool
are_some [] = false
are_some (one ∷ more) = true

pub registrations_are_in_common : RegistrationsAreInCommon
registrations_are_in_common law =
    let reported : true ≡ false =
    ap are_some ((law near_by_another 0x111 (with_group 0xc020 Creator.PartitionFile (own_member ∷ [])) (with_group 0xc020 Creator.PartitionFile []) refl).registrations 2 refl) in
    absurd cc

-- ---- notes of nodes that name the file
pub nodes_are_no_files : NodesAreNoFiles
nodes_are_no_files law = elim (law alone (noted_start alone) (ask 0x101 []) 0x101) [
  | inl same ↦ absurd cc
  | inr named ↦ let of_file = named.2.each.0 in absurd cc
]
