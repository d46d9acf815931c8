-- Lists of joins and leaves; and which partition an MLID belongs to.
use Rattle.std.proofs.Common.{ℕ, ◌==◌, ◌&&◌, true, false, map, List, [], ◌∷◌, ◌≡◌, ◌∙◌, ap, refl, sym, inl, inr, arith}
use Rattle.std.specs.List.{list_all, list_any}
use Rattle.std.proofs.lemmas.Bool.{cases_Bool, both_ways, false_from_ne_true, and_parts, or_cases, eqb-true}
use Rattle.std.proofs.lemmas.Bool.Decides.{nat_tests}
use Rattle.subnet_model.specs.declared.subnet_port.SubnetPort.{SubnetPort}
use Rattle.subnet_model.specs.Configuration.{ConfigurationState}
use Rattle.subnet_model.specs.Near.{is_near}
use Rattle.sa_model.specs.Groups.{MulticastGroup, PartitionGroups, start_of}
use Rattle.sa_model.specs.Joining.{Join, may_join, joined_in}
use Rattle.sa_model.specs.Leaving.{left_in}
use Rattle.sa_model.specs.Changes.{Change, partition_of, actor, changed, after_changes, changes_near}
use Rattle.sa_model.specs.Sound.{is_in_range, is_sound_group, is_sound_partition}
use Rattle.sa_model.specs.Sight.{Alike}
use Rattle.sa_model.proofs.SoundLemmas.{sound_parts, partition_parts, start_sound}
use Rattle.sa_model.proofs.SightLemmas.{near_leave, far_leave}
use Rattle.sa_model.proofs.JoinSightLemmas.{near_join, far_join}

near_change : (ports : List SubnetPort) (p : ℕ) (change : Change) (s t : List PartitionGroups) → is_near ports p (actor change) ≡ true → Alike ports p s t
    → Alike ports p (changed ports s change) (changed ports t change)
near_change ports p (Change.joins join) s t near alike = near_join ports p join s t near alike
near_change ports p (Change.leaves leave) s t near alike = near_leave ports p leave s t alike

far_change : (ports : List SubnetPort) (p : ℕ) (change : Change) (s t : List PartitionGroups) → is_near ports p (actor change) ≡ false → Alike ports p s t
    → Alike ports p (changed ports s change) t
far_change ports p (Change.joins join) s t far alike = far_join ports p join s t far alike
far_change ports p (Change.leaves leave) s t far alike = far_leave ports p leave s t far alike

changes_alike : (ports : List SubnetPort) (p : ℕ) (changes : List Change) (s t : List PartitionGroups) → Alike ports p s t
    → Alike ports p (after_changes ports s changes) (after_changes ports t (changes_near ports p changes))
changes_alike ports p [] s t alike = alike
changes_alike ports p (change ∷ changes) s t alike = elim (cases_Bool (is_near ports p (actor change))) [
  | inl near ↦ rw near (changes_alike ports p changes (changed ports s change) (changed ports t change) (near_change ports p change s t near alike))
  | inr far ↦ rw far (changes_alike ports p changes (changed ports s change) t (far_change ports p change s t far alike))
]

pub every_run_is_seen_alike : (configuration : ConfigurationState) (p : ℕ) (changes : List Change)
    → Alike configuration.ports p (after_changes configuration.ports (start_of configuration) changes)
    (after_changes configuration.ports (start_of configuration) (changes_near configuration.ports p changes))
every_run_is_seen_alike configuration p changes =
    let sound = start_sound configuration.ports configuration in
    changes_alike configuration.ports p changes (start_of configuration) (start_of configuration) (record { left_sound = sound; right_sound = sound; same = refl })

-- ---- an MLID is of one partition
mlid_in_range : (ports : List SubnetPort) (partition : PartitionGroups) (mlid : ℕ) (groups : List MulticastGroup) → list_all (is_sound_group ports partition) groups ≡ true
    → list_any (λ group. group.mlid == mlid) groups ≡ true → is_in_range partition.number mlid ≡ true
mlid_in_range ports partition mlid [] sound has = absurd (cc)
mlid_in_range ports partition mlid (group ∷ groups) sound has =
    let both = and_parts (is_sound_group ports partition group) (list_all (is_sound_group ports partition) groups) sound in
    elim (or_cases (group.mlid == mlid) (list_any (λ x. x.mlid == mlid) groups) has) [
      | inl here ↦ ap (is_in_range partition.number) (sym (eqb-true group.mlid mlid here)) ∙ (sound_parts ports partition group both.0).ranged
      | inr later ↦ mlid_in_range ports partition mlid groups both.1 later
    ]

one_range : (a b mlid : ℕ) → is_in_range a mlid ≡ true → is_in_range b mlid ≡ true → (a == b) ≡ true
one_range a b mlid in_a in_b = grind (arith, nat_tests)

pub mlids_report_partitions : (ports : List SubnetPort) (a b : PartitionGroups) (mlid : ℕ) → is_sound_partition ports a ≡ true → is_sound_partition ports b ≡ true
    → (a.number == b.number) ≡ false → list_any (λ group. group.mlid == mlid) a.groups ≡ true → list_any (λ group. group.mlid == mlid) b.groups ≡ false
mlids_report_partitions ports a b mlid sound_a sound_b other has =
    false_from_ne_true (list_any (λ group. group.mlid == mlid) b.groups)
    (λ too. both_ways (a.number == b.number) other
    (one_range a.number b.number mlid
    (mlid_in_range ports a mlid a.groups (partition_parts ports a sound_a).each has)
    (mlid_in_range ports b mlid b.groups (partition_parts ports b sound_b).each too)))

-- ---- which partitions there are
pub same_by : {X Y : Type 0} (h : X → Y) (f : X → X) → ((x : X) → h (f x) ≡ h x) → (xs : List X) → map h (map f xs) ≡ map h xs
same_by h f same [] = refl
same_by h f same (x ∷ xs) = rw (same x, same_by h f same xs) refl

joined_partition : (ports : List SubnetPort) (join : Join) (x : PartitionGroups) → partition_of (joined_in ports join x) ≡ partition_of x
joined_partition ports join x = elim (cases_Bool ((x.base == join.base) && may_join ports join)) [
  | inl allowed ↦ rw allowed refl
  | inr refused ↦ rw refused refl
]

pub partitions_stay : (ports : List SubnetPort) (partitions : List PartitionGroups) (change : Change)
    → map partition_of (changed ports partitions change) ≡ map partition_of partitions
partitions_stay ports partitions (Change.joins join) = same_by partition_of (joined_in ports join) (joined_partition ports join) partitions
partitions_stay ports partitions (Change.leaves leave) = same_by partition_of (left_in ports leave) (λ x. refl) partitions
