-- Wrong rules for changes, and the laws that they break.
use Rattle.std.specs.Prelude.{ℕ, ◌&&◌, List, [], ◌∷◌}
use Rattle.std.specs.List.{flat_map, zip}
use Rattle.partition_reports.specs.Changes.{Change, bases_named, group_changes, member_changes, partition_changes, rising_bases, same_group, same_member, same_partition, same_share, share_changes}
use Rattle.partition_reports.specs.ChangeLaws.{AreSamePorts, NearStaysBy, ReportWhatChanges, has_group, has_member, has_partition, has_share, is_of}
use Rattle.partition_file.specs.declared.heading.Heading.{Heading}
use Rattle.subnet_model.specs.declared.subnet_port.SubnetPort.{SubnetPort}

-- each change is reported twice
abbrev pub twice : {X : Type 0} → List (Change X) → List (Change X)
twice changes = flat_map (λ change. change ∷ change ∷ []) changes

-- then none of the laws of what is reported holds
pub record TwiceIsNotOnce : Type 0 where
  pub partitions : ((before after : List Heading) → ReportWhatChanges same_partition (has_partition before) (has_partition after)
      (twice (partition_changes before after))) → ⊥
  pub groups : ((before after : List Heading) → ReportWhatChanges same_group (has_group before) (has_group after)
      (twice (group_changes before after))) → ⊥
  pub members : ((before after : List SubnetPort) (headings others : List Heading) → AreSamePorts before after
      → ReportWhatChanges same_member (λ x. is_of (bases_named headings others) x && has_member before x)
      (λ x. is_of (bases_named headings others) x && has_member after x)
      (twice (member_changes (bases_named headings others) (zip before after)))) → ⊥
  pub shares : ((before after : List SubnetPort) → AreSamePorts before after
      → ReportWhatChanges same_share (has_share before) (has_share after) (twice (share_changes (zip before after)))) → ⊥

-- members are printed of the partitions of the second file alone: then those of a partition that goes are not
abbrev pub later_bases : (before after : List Heading) → List ℕ
later_bases before after = rising_bases after

abbrev pub TheSecondFileAloneIsNotEnough : Type 0
TheSecondFileAloneIsNotEnough = NearStaysBy later_bases → ⊥
