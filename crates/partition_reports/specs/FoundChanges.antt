-- The lines of changes as they are found.
use Rattle.std.specs.Prelude.{ℕ, Bool, ◌==◌, ◌&&◌, if◌then◌else◌, List, [], ◌∷◌, ◌++◌, Option, Some, None, codes}
use Rattle.std.specs.Borrow.{Bor}
use Rattle.std.specs.List.{flat_map}
use Rattle.partition_reports.specs.Changes.{change_of_member_line, changes_text, group_line, grouped, member_of, pair_changes, partition_line, partition_of, same_group, same_member, same_partition, same_share, share_of, stays}
use Rattle.partition_reports.specs.declared.changed_ports.Both.{Both}
use Rattle.partition_file.specs.declared.heading.Heading.{Heading}
use Rattle.partition_reports.specs.ChangedSums.{sum_changes}
use Rattle.partition_reports.specs.Shares.{share_line}
use Rattle.partition_reports.specs.Sums.{are_few, sum_line}
use Rattle.subnet_model.specs.declared.subnet_port.SubnetPort.{SubnetPort}

-- a signed line, if there is something to say
abbrev pub signed : {X : Type 0} → List ℕ → (X → List ℕ) → Option X → List ℕ
signed mark line None = []
signed mark line (Some x) = mark ++ line x

abbrev pub change_text : {X : Type 0} → (X → X → Bool) → (X → List ℕ) → Option X → Option X → List ℕ
change_text same line before after =
    if stays same before after then [] else signed (codes "- ") line before ++ signed (codes "+ ") line after

abbrev pub partition_text : List Heading → List Heading → ℕ → List ℕ
partition_text before after base = change_text same_partition partition_line (partition_of before base) (partition_of after base)

abbrev pub group_text : List Heading → List Heading → ℕ → List ℕ
group_text before after base = change_text same_group group_line (grouped before base) (grouped after base)

-- a port as it was and as it will be, behind its references
abbrev pub seen : Both → SubnetPort × SubnetPort
seen both = (both.before.now, both.after.now)

abbrev pub member_text : ℕ → Both → List ℕ
member_text base both = change_text same_member change_of_member_line (member_of base both.before.now) (member_of base both.after.now)

abbrev pub members_text : List Both → ℕ → List ℕ
members_text ports base = flat_map (member_text base) ports

abbrev pub share_text : Both → Both → ℕ → List ℕ
share_text p q base =
    change_text same_share share_line (share_of p.before.now q.before.now base) (share_of p.after.now q.after.now base)

-- both are the same ports before and after
abbrev pub same_ports : Both → Both → Bool
same_ports p q = (p.before.now.guid == p.after.now.guid) && (q.before.now.guid == q.after.now.guid)

-- of two ports, for all bases
abbrev pub pair_text : Both → Both → List ℕ
pair_text p q = changes_text share_line (pair_changes (seen p) (seen q))

abbrev pub shares_text : List Both → List ℕ
shares_text [] = []
shares_text (p ∷ ports) = flat_map (pair_text p) ports ++ shares_text ports

-- a partition with its number, behind its reference
abbrev pub placed : ℕ × Bor Heading → ℕ × Heading
placed partition = (partition.0, partition.1.now)

-- shares pair by pair, or the sums of these partitions
abbrev pub listed_text : List SubnetPort → List SubnetPort → List Both → List ℕ → List ℕ
listed_text before after ports bases = if are_few before then shares_text ports else changes_text sum_line (sum_changes bases before after)
