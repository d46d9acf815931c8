-- What changes of who may talk to whom, counted.
use Rattle.std.specs.Prelude.{ℕ, Bool, ◌==◌, ◌&&◌, List, ◌++◌, Some, if◌then◌else◌}
use Rattle.std.specs.List.{flat_map, zip}
use Rattle.partition_reports.specs.declared.sums.PairSum.{PairSum}
use Rattle.partition_reports.specs.Sums.{are_few, sum_line, sum_of}
use Rattle.subnet_model.specs.Configuration.{ConfigurationState}
use Rattle.subnet_model.specs.declared.subnet_port.SubnetPort.{SubnetPort}
use Rattle.partition_reports.specs.Changes.{Change, bases_named, change_of_member_line, changes_of, changes_text, group_changes, group_line, member_changes, partition_changes, partition_line, text_of_changes}

abbrev pub same_sum : PairSum → PairSum → Bool
same_sum a b = (a.base == b.base) && ((a.pairs == b.pairs) && ((a.members == b.members) && (a.full == b.full)))

-- the sum of a partition goes and another comes, if they differ
abbrev pub sum_changes_at : List SubnetPort → List SubnetPort → ℕ → List (Change PairSum)
sum_changes_at before after base = changes_of same_sum (Some (sum_of before base)) (Some (sum_of after base))

abbrev pub sum_changes : List ℕ → List SubnetPort → List SubnetPort → List (Change PairSum)
sum_changes bases before after = flat_map (sum_changes_at before after) bases

-- all changes, with sums in place of shares
abbrev pub counted_changes : ConfigurationState → ConfigurationState → List ℕ
counted_changes before after =
    changes_text partition_line (partition_changes before.partitions after.partitions)
    ++ changes_text group_line (group_changes before.partitions after.partitions)
    ++ changes_text change_of_member_line (member_changes (bases_named before.partitions after.partitions) (zip before.ports after.ports))
    ++ changes_text sum_line (sum_changes (bases_named before.partitions after.partitions) before.ports after.ports)

-- what is listed: shares pair by pair, unless there are more end ports than a simulated fabric may have
abbrev pub listed_changes : ConfigurationState → ConfigurationState → List ℕ
listed_changes before after = if are_few before.ports then text_of_changes before after else counted_changes before after
