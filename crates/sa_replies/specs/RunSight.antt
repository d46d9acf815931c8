-- What a port sees of what subnet administration remembers.
use Rattle.std.specs.Prelude.{ℕ, Bool, ◌&&◌, List, Option}
use Rattle.subnet_model.specs.Configuration.{ConfigurationState}
use Rattle.sa_model.specs.Groups.{PartitionGroups}
use Rattle.sa_model.specs.Sight.{seen}
use Rattle.sa_model.specs.Sound.{is_sound}
use Rattle.sa_model.specs.Services.{PortServices}
use Rattle.sa_model.specs.ServiceSight.{services_near}
use Rattle.sa_model.specs.ServiceSound.{are_sound_services}
use Rattle.sa_replies.specs.Answer.{Administration}
use Rattle.sa_replies.specs.Transfers.{PortTransfer, table_place}

-- the groups of its partitions with their members that are near it, the services of the ports near it, and its own table
pub record Seen : Type 0 where
  pub groups : List PartitionGroups
  pub services : List PortServices
  pub own_table : Option PortTransfer

abbrev pub sees : ConfigurationState → ℕ → Administration → Seen
sees configuration p state = record {
  groups = seen configuration.ports p state.remembered.partitions;
  services = services_near configuration.ports p state.remembered.services;
  own_table = table_place p state.transfers;
}

-- the groups are sound, and so are the services
abbrev pub is_sound_state : ConfigurationState → Administration → Bool
is_sound_state configuration state =
    is_sound configuration.ports state.remembered.partitions && are_sound_services configuration.ports state.remembered.services
