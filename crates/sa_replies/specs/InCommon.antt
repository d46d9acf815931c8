-- What two states of a subnet have in common for a port, part by part.
use Rattle.std.specs.Prelude.{ℕ, ◌≡◌, true, ◌==◌, List, filter, map}
use Rattle.std.specs.List.{flat_map}
use Rattle.subnet_model.specs.Configuration.{ConfigurationState}
use Rattle.subnet_model.specs.Near.{is_near}
use Rattle.subnet_model.specs.Restriction.{commands_of}
use Rattle.subnet_model.specs.declared.command.Command.{Command}
use Rattle.subnet_model.specs.declared.subnet_port.SubnetPort.{SubnetPort}
use Rattle.sa_model.specs.Groups.{Creator, GroupParameters, Membership, MulticastGroup, PartitionGroups}
use Rattle.sa_model.specs.Members.{is_member}
use Rattle.sa_replies.specs.Answer.{Administration}
use Rattle.sa_replies.specs.Transfers.{table_of}
use Rattle.sa_replies.specs.RunLaws.{remembered_after}
use Rattle.sa_replies.specs.RunSight.{sees}

-- ---- the groups of a base, each with all that is fixed when it is made; and who takes part in which of them
pub record FixedGroup : Type 0 where
  pub mgid : ℕ
  pub mlid : ℕ
  pub parameters : GroupParameters
  pub creator : Creator

pub record Registration : Type 0 where
  pub mgid : ℕ
  pub membership : Membership

abbrev pub groups_of_base : ℕ → List PartitionGroups → List MulticastGroup
groups_of_base base partitions = flat_map (λ partition. partition.groups) (filter (λ partition. partition.base == base) partitions)

abbrev pub fixed : MulticastGroup → FixedGroup
fixed group = record { mgid = group.mgid; mlid = group.mlid; parameters = group.parameters; creator = group.creator }

abbrev pub registrations : MulticastGroup → List Registration
registrations group = map (λ membership. record { mgid = group.mgid; membership = membership }) group.memberships

abbrev pub fixed_groups : ℕ → List PartitionGroups → List FixedGroup
fixed_groups base partitions = map fixed (groups_of_base base partitions)

-- those of the ports near p alone
abbrev pub registrations_near : List SubnetPort → ℕ → ℕ → List PartitionGroups → List Registration
registrations_near ports p base partitions =
    filter (λ one. is_near ports p one.membership.port) (flat_map registrations (groups_of_base base partitions))

-- ---- in each base that p holds the same groups, and the same registrations of the ports near p; the same services of
-- these ports, in whatever base; the same table that is open to p
pub record HaveInCommon (ports : List SubnetPort) (p : ℕ) (s t : Administration) : Type 0 where
  pub groups : (base : ℕ) → is_member ports base p ≡ true
      → fixed_groups base s.remembered.partitions ≡ fixed_groups base t.remembered.partitions
  pub registrations : (base : ℕ) → is_member ports base p ≡ true
      → registrations_near ports p base s.remembered.partitions ≡ registrations_near ports p base t.remembered.partitions
  pub services : filter (λ place. is_near ports p place.port) s.remembered.services
      ≡ filter (λ place. is_near ports p place.port) t.remembered.services
  pub open_table : table_of p s.transfers ≡ table_of p t.transfers

-- ---- whatever ports did, p has this in common with the state in which the ports near it alone did what they did
abbrev pub StatesDependOnNear : Type 0
StatesDependOnNear =
    (configuration : ConfigurationState) (p : ℕ) (commands : List Command)
    → HaveInCommon configuration.ports p (remembered_after configuration commands)
    (remembered_after configuration (commands_of (is_near configuration.ports p) commands))

-- what a port is said to see of a state has to be all of that: if it sees the same of two states, they have it in common
abbrev pub ShowsAll : {V : Type 0} → (ConfigurationState → ℕ → Administration → V) → Type 0
ShowsAll sight =
    (configuration : ConfigurationState) (p : ℕ) (s t : Administration) → sight configuration p s ≡ sight configuration p t
    → HaveInCommon configuration.ports p s t

abbrev pub SightShowsAll : Type 0
SightShowsAll = ShowsAll sees
