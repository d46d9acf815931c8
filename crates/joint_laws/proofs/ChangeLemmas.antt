-- The text of changes has the line of each.
use Rattle.std.proofs.Common.{◌≡◌, ◌∙◌, sym, subst, refl, ℕ, true, false, ◌==◌, List, [], ◌∷◌, ◌++◌, codes, ◌≢◌, ◌&&◌, Bool}
use Rattle.std.specs.List.{Contains, zip}
use Rattle.std.specs.Str.Iter.{HasSubslice}
use Rattle.std.proofs.lemmas.Bool.{eq-eqb, eqb-true}
use Rattle.fabric_graph.proofs.DrawnLemmas.{and_both}
use Rattle.audit_plan.proofs.SubsliceLemmas.{stands_behind, stands_itself, stands_longer}
use Rattle.cable_cuts.proofs.ChangeLemmas.{first_in, gives_all, later_in}
use Rattle.partition_reports.proofs.ChangedBaseLemmas.{rising_there}
use Rattle.partition_reports.specs.Changes.{Change, bases_named, change_of_member_line, changes_text, group_changes, group_line, member_changes, partition_changes}
use Rattle.partition_reports.specs.Changes.{partition_line, rising_bases, share_changes, text_of_changes}
use Rattle.partition_reports.specs.ChangedSums.{counted_changes, listed_changes, same_sum, sum_changes, sum_changes_at}
use Rattle.partition_file.specs.declared.heading.Heading.{Heading}
use Rattle.partition_reports.specs.Shares.{Share, share_line}
use Rattle.partition_reports.specs.Sums.{are_few, sum_line, sum_of}
use Rattle.partition_reports.specs.declared.sums.PairSum.{PairSum}
use Rattle.joint_laws.proofs.StandingLemmas.{either_way, if_not, if_so, stands_if_there}
use Rattle.joint_laws.specs.LineLaws.{AllChangesArePrinted, signed_line}
use Rattle.subnet_model.specs.Configuration.{ConfigurationState}
use Rattle.subnet_model.specs.declared.subnet_port.SubnetPort.{SubnetPort}
use Rattle.sweep.proofs.LayoutLemmas.{any_there, find_some}

printed : {X : Type 0} (line : X → List ℕ) (changes : List (Change X)) (change : Change X) → Contains changes change
    → HasSubslice (changes_text line changes) (signed_line line change)
printed line changes change there =
    stands_if_there (signed_line line) (signed_line line change) changes change there (stands_itself (signed_line line change))

-- the base of a partition of either file is among those that are looked at
named : (before after : List Heading) (heading : Heading) → Contains (before ++ after) heading → Contains (bases_named before after) heading.base
named before after heading there =
    let of_heading = any_there (λ (one : Heading). one.base == heading.base) (before ++ after) heading there (eq-eqb heading.base heading.base refl) in
    let found = find_some (λ (one : ℕ). one == heading.base) (rising_bases (before ++ after)) (rising_there (before ++ after) heading.base ∙ of_heading) in
    subst (Contains (bases_named before after)) (eqb-true found.0 heading.base found.3) found.2

-- sums that count as the same are equal
same_is : (a b : PairSum) → same_sum a b ≡ true → a ≡ b
same_is a b is =
    let one = and_both (a.base == b.base) ((a.pairs == b.pairs) && ((a.members == b.members) && (a.full == b.full))) is in
    let two = and_both (a.pairs == b.pairs) ((a.members == b.members) && (a.full == b.full)) one.1 in
    let three = and_both (a.members == b.members) (a.full == b.full) two.1 in
    let base = eqb-true a.base b.base one.0 in
    let pairs = eqb-true a.pairs b.pairs two.0 in
    let members = eqb-true a.members b.members three.0 in
    let full = eqb-true a.full b.full three.1 in
    λ i. record { base = base i; pairs = pairs i; members = members i; full = full i }

others_differ : (a b : PairSum) → a ≢ b → same_sum a b ≡ false
others_differ a b differ = by (same_sum a b) refl
  where
    by : (c : Bool) → same_sum a b ≡ c → c ≡ false
    by true is = absurd (differ (same_is a b is))
    by false is = refl

module _ (before after : ConfigurationState) where
  abbrev sum_before : ℕ → PairSum
  sum_before base = sum_of before.ports base

  abbrev sum_after : ℕ → PairSum
  sum_after base = sum_of after.ports base

  abbrev goes : ℕ → Change PairSum
  goes base = record { comes = false; what = sum_before base }

  abbrev comes : ℕ → Change PairSum
  comes base = record { comes = true; what = sum_after base }

  abbrev bases : List ℕ
  bases = bases_named before.partitions after.partitions

  abbrev whole : List ℕ
  whole = listed_changes before after

  partitions_printed : (change : Change (ℕ × Heading)) → Contains (partition_changes before.partitions after.partitions) change
      → HasSubslice whole (signed_line partition_line change)
  partitions_printed change there =
      let line = signed_line partition_line change in
      let own = printed partition_line (partition_changes before.partitions after.partitions) change there in
      either_way (are_few before.ports) (text_of_changes before after) (counted_changes before after) line
      (stands_longer line _ (stands_longer line _ (stands_longer line _ own)))
      (stands_longer line _ (stands_longer line _ (stands_longer line _ own)))

  groups_printed : (change : Change Heading) → Contains (group_changes before.partitions after.partitions) change
      → HasSubslice whole (signed_line group_line change)
  groups_printed change there =
      let line = signed_line group_line change in
      let own = printed group_line (group_changes before.partitions after.partitions) change there in
      either_way (are_few before.ports) (text_of_changes before after) (counted_changes before after) line
      (stands_longer line _ (stands_longer line _ (stands_behind line _ own)))
      (stands_longer line _ (stands_longer line _ (stands_behind line _ own)))

  members_printed : (change : Change (SubnetPort × ℕ)) → Contains (member_changes bases (zip before.ports after.ports)) change
      → HasSubslice whole (signed_line change_of_member_line change)
  members_printed change there =
      let line = signed_line change_of_member_line change in
      let own = printed change_of_member_line (member_changes bases (zip before.ports after.ports)) change there in
      either_way (are_few before.ports) (text_of_changes before after) (counted_changes before after) line
      (stands_longer line _ (stands_behind line _ own)) (stands_longer line _ (stands_behind line _ own))

  pairs_printed : (change : Change Share) → are_few before.ports ≡ true → Contains (share_changes (zip before.ports after.ports)) change
      → HasSubslice whole (signed_line share_line change)
  pairs_printed change few there =
      let line = signed_line share_line change in
      if_so (are_few before.ports) (text_of_changes before after) (counted_changes before after) line few
      (stands_behind line _ (printed share_line (share_changes (zip before.ports after.ports)) change there))

  -- both sums of a base, if they differ
  both_differ : (base : ℕ) → same_sum (sum_before base) (sum_after base) ≡ false → sum_changes_at before.ports after.ports base ≡ goes base ∷ comes base ∷ []
  both_differ base differ = rw differ refl

  sum_printed : (base : ℕ) (change : Change PairSum) → are_few before.ports ≡ false → Contains bases base
      → Contains (sum_changes_at before.ports after.ports base) change → HasSubslice whole (signed_line sum_line change)
  sum_printed base change many there changes =
      let line = signed_line sum_line change in
      if_not (are_few before.ports) (text_of_changes before after) (counted_changes before after) line many
      (stands_behind line _
      (printed sum_line (sum_changes bases before.ports after.ports) change
      (gives_all (sum_changes_at before.ports after.ports) bases base change there changes)))

  sums_printed : (heading : Heading) → are_few before.ports ≡ false → Contains (before.partitions ++ after.partitions) heading
      → sum_before heading.base ≢ sum_after heading.base
      → HasSubslice whole (codes "- " ++ sum_line (sum_before heading.base)) × HasSubslice whole (codes "+ " ++ sum_line (sum_after heading.base))
  sums_printed heading many of differ =
      let base = heading.base in
      let there = named before.partitions after.partitions heading of in
      let both = sym (both_differ base (others_differ (sum_before base) (sum_after base) differ)) in (
        sum_printed base (goes base) many there (subst (λ all. Contains all (goes base)) both (first_in (goes base) (comes base ∷ []))),
        sum_printed base (comes base) many there
            (subst (λ all. Contains all (comes base)) both (later_in (goes base) (comes base ∷ []) (comes base) (first_in (comes base) []))),
      )

pub all_changes_are_printed : AllChangesArePrinted
all_changes_are_printed = record {
  partitions = partitions_printed;
  groups = groups_printed;
  members = members_printed;
  pairs = λ before after change few there. pairs_printed before after change few there;
  sums = sums_printed;
}
