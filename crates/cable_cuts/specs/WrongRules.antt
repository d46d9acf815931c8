-- Wrong rules for what differs, and the law that each breaks.
use Rattle.std.specs.Prelude.{List, [], ◌++◌, length}
use Rattle.subnet_model.specs.Configuration.{ConfigurationState}
use Rattle.subnet_model.specs.declared.subnet_port.SubnetPort.{SubnetPort}
use Rattle.cable_cuts.specs.Changes.{Tables, changes}
use Rattle.cable_cuts.specs.Laws.{EntriesAreReportedOnceBy, MasksAreReportedOnceBy, MasksAreWhatDiffersBy, NumbersAreOfWhatDiffersBy}
use Rattle.cable_cuts.specs.Masks.{Masks, mask_changes}
use Rattle.cable_cuts.specs.Outcomes.{difference_by}
use Rattle.cable_cuts.specs.declared.changes.Change.{Change}
use Rattle.cable_cuts.specs.declared.masks.MaskChange.{MaskChange}
use Rattle.cable_cuts.specs.declared.outcome.Difference.{Difference}

-- no mask is counted
abbrev pub no_masks : ConfigurationState → Masks → Masks → List MaskChange
no_masks configuration one other = []

abbrev pub NoMasksAreLess : Type 0
NoMasksAreLess = MasksAreWhatDiffersBy no_masks → ⊥

-- each entry is reported twice, or each mask
abbrev pub entries_twice : List SubnetPort → Tables → Tables → List Change
entries_twice ports one other = changes ports one other ++ changes ports one other

abbrev pub EntriesTwiceAreMore : Type 0
EntriesTwiceAreMore = EntriesAreReportedOnceBy entries_twice → ⊥

abbrev pub masks_twice : ConfigurationState → Masks → Masks → List MaskChange
masks_twice configuration one other = mask_changes configuration one other ++ mask_changes configuration one other

abbrev pub MasksTwiceAreMore : Type 0
MasksTwiceAreMore = MasksAreReportedOnceBy masks_twice → ⊥

-- what is reported twice is counted twice
abbrev pub counted_twice : ConfigurationState → Tables → Tables → Masks → Masks → Difference
counted_twice configuration one other was becomes =
    record (difference_by configuration one other was becomes) { entries = length (entries_twice configuration.ports one other) }

abbrev pub CountedTwiceIsMore : Type 0
CountedTwiceIsMore = NumbersAreOfWhatDiffersBy counted_twice → ⊥
