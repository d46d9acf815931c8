-- A listing has the line of each port, partition and member.
use Rattle.std.proofs.Common.{◌≡◌, sym, subst, ℕ, List, [], slice_get, Option, Some}
use Rattle.std.specs.List.{Contains, enumerate_from}
use Rattle.std.specs.Option.{option_map_or}
use Rattle.std.specs.Str.Iter.{HasSubslice}
use Rattle.audit_plan.proofs.SubsliceLemmas.{stands_behind, stands_itself, stands_longer, stands_of_all}
use Rattle.partition_reports.specs.Lines.{heading_line, member_line}
use Rattle.partition_file.specs.declared.heading.Heading.{Heading}
use Rattle.pkey_rules.specs.KeyTable.{find_base}
use Rattle.joint_laws.proofs.StandingLemmas.{placed, stands_if_there}
use Rattle.joint_laws.specs.LineLaws.{AllMembersAreListed}
use Rattle.subnet_core.specs.Listing.{listing_text, member_text, partition_text, port_line}
use Rattle.subnet_model.specs.Configuration.{ConfigurationState}
use Rattle.subnet_model.specs.declared.subnet_port.SubnetPort.{SubnetPort}
use Rattle.sweep.proofs.EndPortLemmas.{stands as place_in}

ports_listed : (subnet : ConfigurationState) (port : SubnetPort) → Contains subnet.ports port → HasSubslice (listing_text subnet) (port_line port)
ports_listed subnet port there =
    stands_longer (port_line port) _ (stands_if_there port_line (port_line port) subnet.ports port there (stands_itself (port_line port)))

in_partition : (subnet : ConfigurationState) (number : ℕ) (heading : Heading) (line : List ℕ) → slice_get subnet.partitions number ≡ Some heading
    → HasSubslice (partition_text subnet.ports (number, heading)) line → HasSubslice (listing_text subnet) line
in_partition subnet number heading line there stands =
    stands_behind line _
    (stands_of_all (partition_text subnet.ports) line (enumerate_from 0 subnet.partitions) number (number, heading)
    (placed subnet.partitions number heading there) stands)

partitions_listed : (subnet : ConfigurationState) (number : ℕ) (heading : Heading) → slice_get subnet.partitions number ≡ Some heading
    → HasSubslice (listing_text subnet) (heading_line number heading)
partitions_listed subnet number heading there =
    let line = heading_line number heading in
    in_partition subnet number heading line there (stands_longer line _ (stands_itself line))

members_listed : (subnet : ConfigurationState) (heading : Heading) (port : SubnetPort) (key : ℕ) → Contains subnet.partitions heading
    → Contains subnet.ports port → find_base heading.base port.keys ≡ Some key → HasSubslice (listing_text subnet) (member_line port key)
members_listed subnet heading port key of there held =
    let line = member_line port key in
    let at = place_in subnet.partitions heading of in
    let own : HasSubslice (member_text heading.base port) line =
    subst (λ (o : Option ℕ). HasSubslice (option_map_or (member_line port) o []) line) (sym held) (stands_itself line) in
    in_partition subnet at.0 heading line at.1
    (stands_behind line (heading_line at.0 heading) (stands_if_there (member_text heading.base) line subnet.ports port there own))

pub all_members_are_listed : AllMembersAreListed
all_members_are_listed = record { ports = ports_listed; partitions = partitions_listed; members = members_listed }
