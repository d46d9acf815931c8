-- What a port could be said to see that is less than it has in common, and rules that note too little of a run.
use Rattle.std.specs.Prelude.{ℕ, List, [], map, Option, Some, None}
use Rattle.subnet_model.specs.declared.command.Command.TheVariants.{Ask, Cable, Send}
use Rattle.sa_model.specs.Groups.{Creator, MulticastGroup, PartitionGroups}
use Rattle.sa_model.specs.Shown.{node_entry}
use Rattle.subnet_model.specs.Configuration.{ConfigurationState}
use Rattle.sa_model.specs.Sight.{seen}
use Rattle.sa_model.specs.ServiceSight.{services_seen}
use Rattle.rmpp_core.specs.Segments.{Transfer}
use Rattle.sa_replies.specs.Answer.{Administration}
use Rattle.sa_replies.specs.Notes.{NotedByte}
use Rattle.sa_replies.specs.Transfers.{table_place}
use Rattle.sa_replies.specs.InCommon.{ShowsAll}
use Rattle.sa_replies.specs.NamedRuns.{NamesNotes}
use Rattle.sa_replies.specs.RunData.{NotedStepRule, NotesData}
use Rattle.sa_replies.specs.RunSight.{Seen, sees}
use Rattle.sa_replies.specs.RunSources.{noted_step, without_record}

-- of services those alone that it is shown: not those of a port near it in a partition of which both are limited members
abbrev pub sees_what_is_shown : ConfigurationState → ℕ → Administration → Seen
sees_what_is_shown configuration p state = record {
  groups = seen configuration.ports p state.remembered.partitions;
  services = services_seen configuration.ports p state.remembered.services;
  own_table = table_place p state.transfers;
}

abbrev pub WhatIsShownIsLess : Type 0
WhatIsShownIsLess = ShowsAll sees_what_is_shown → ⊥

-- ---- of each MAD that answers no bytes are noted
abbrev pub emptied : Option (List NotedByte) → Option (List NotedByte)
emptied (Some bytes) = Some []
emptied None = None

abbrev pub step_noting_no_bytes : NotedStepRule
step_noting_no_bytes configuration noted command = (
  map (λ one. record { event = one.event; noted = emptied one.noted }) (noted_step configuration noted command).0,
  (noted_step configuration noted command).1,
)

abbrev pub NoBytesAreLess : Type 0
NoBytesAreLess = NotesData step_noting_no_bytes → ⊥

-- ---- of no event anything is noted, as if it were a packet between two ports
abbrev pub step_noting_nothing : NotedStepRule
step_noting_nothing configuration noted command =
    (map (λ one. without_record one.event) (noted_step configuration noted command).0, (noted_step configuration noted command).1)

abbrev pub AnswersAreNoted : Type 0
AnswersAreNoted = NotesData step_noting_nothing → ⊥

-- ---- of a `send` to subnet administration nothing is noted
abbrev pub step_noting_no_sends : NotedStepRule
step_noting_no_sends configuration noted (Send command) = step_noting_nothing configuration noted (Send command)
step_noting_no_sends configuration noted (Ask command) = noted_step configuration noted (Ask command)
step_noting_no_sends configuration noted (Cable command) = noted_step configuration noted (Cable command)

abbrev pub SendsAreNoted : Type 0
SendsAreNoted = NotesData step_noting_no_sends → ⊥

-- ---- for each port all nodes are noted, and as the partition file's
abbrev pub step_naming_the_file : NotedStepRule
step_naming_the_file configuration noted command = (
  (noted_step configuration noted command).0,
  record noted { notes = λ p. map (λ port. record (node_entry port) { source = Creator.PartitionFile }) configuration.ports },
)

abbrev pub NodesAreNoFiles : Type 0
NodesAreNoFiles = NamesNotes step_naming_the_file → ⊥

-- ---- of each group less than it has
abbrev pub with_less : (MulticastGroup → MulticastGroup) → PartitionGroups → PartitionGroups
with_less less partition = record partition { groups = map less partition.groups }

abbrev pub sees_of_groups : (MulticastGroup → MulticastGroup) → ConfigurationState → ℕ → Administration → Seen
sees_of_groups less configuration p state =
    record (sees configuration p state) { groups = map (with_less less) (seen configuration.ports p state.remembered.partitions) }

abbrev pub without_mlid : MulticastGroup → MulticastGroup
without_mlid group = record group { mlid = 0 }

abbrev pub without_maker : MulticastGroup → MulticastGroup
without_maker group = record group { creator = Creator.PartitionFile }

abbrev pub without_registrations : MulticastGroup → MulticastGroup
without_registrations group = record group { memberships = [] }

abbrev pub without_mgid : MulticastGroup → MulticastGroup
without_mgid group = record group { mgid = 0 }

abbrev pub without_parameters : MulticastGroup → MulticastGroup
without_parameters group = record group {
  parameters = record {
    q_key = 0;
    mtu = 0;
    traffic_class = 0;
    rate = 0;
    packet_life_time = 0;
    service_level = 0;
    flow_label = 0;
    hop_limit = 0;
    scope = 0;
  };
}

abbrev pub MgidsAreInCommon : Type 0
MgidsAreInCommon = ShowsAll (sees_of_groups without_mgid) → ⊥

abbrev pub ParametersAreInCommon : Type 0
ParametersAreInCommon = ShowsAll (sees_of_groups without_parameters) → ⊥

abbrev pub MlidsAreInCommon : Type 0
MlidsAreInCommon = ShowsAll (sees_of_groups without_mlid) → ⊥

abbrev pub MakersAreInCommon : Type 0
MakersAreInCommon = ShowsAll (sees_of_groups without_maker) → ⊥

abbrev pub RegistrationsAreInCommon : Type 0
RegistrationsAreInCommon = ShowsAll (sees_of_groups without_registrations) → ⊥

-- ---- not the table that is open to the port
abbrev pub sees_no_table : ConfigurationState → ℕ → Administration → Seen
sees_no_table configuration p state = record (sees configuration p state) { own_table = None }

abbrev pub TablesAreInCommon : Type 0
TablesAreInCommon = Transfer → ShowsAll sees_no_table → ⊥
