-- The masks that are counted are those in which the two fabrics differ.
use Rattle.std.proofs.Common.{ℕ, ◌≤◌, ◌≡◌, length, slice_get, Some, arith}
use Rattle.std.proofs.lemmas.Option.{slice_get_within}
use Rattle.partition_file.specs.declared.heading.Heading.{Heading}
use Rattle.pkey_rules.specs.declared.key_table.TheConstants.{PARTITIONS}
use Rattle.subnet_model.specs.Configuration.{ConfigurationState}
use Rattle.table_push.specs.Masks.{LiesInTable}
use Rattle.cable_cuts.proofs.FateLemmas.{masks_are_the_fabrics}
use Rattle.cable_cuts.proofs.MaskSameLemmas.{all_same}
use Rattle.cable_cuts.specs.Laws.{MaskChangesAreTheFabrics, mask_pushed}
use Rattle.cable_cuts.specs.Masks.{mask_by}

lies : (configuration : ConfigurationState) (number : ℕ) (heading : Heading) → length configuration.partitions ≤ PARTITIONS
    → slice_get configuration.partitions number ≡ Some heading → LiesInTable number
lies configuration number heading few there =
    let within = slice_get_within configuration.partitions number heading there in
    omega (arith, few, within)

pub mask_changes_are_the_fabrics : MaskChangesAreTheFabrics
mask_changes_are_the_fabrics plan configuration cable keys other_keys routes others fabric left sound few by can planned by_too =
    let ports = configuration.ports in
    all_same configuration (mask_by ports routes) (mask_by ports others) (mask_pushed ports routes fabric) (mask_pushed ports left.routes left.fabric)
    (λ number heading guid port there below. (masks_are_the_fabrics plan ports cable keys other_keys routes others fabric left number heading guid port sound by can
    planned by_too (lies configuration number heading few there) below).0)
    (λ number heading guid port there below. (masks_are_the_fabrics plan ports cable keys other_keys routes others fabric left number heading guid port sound by can
    planned by_too (lies configuration number heading few there) below).1)
