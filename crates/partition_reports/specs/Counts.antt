-- Members counted and sorted out. No definition of what is printed stands on this one.
use Rattle.std.specs.Prelude.{ℕ, ◌+◌, ◌-◌, Bool, true, false, not, ◌&&◌, ◌||◌, List, count_by, drop, if◌then◌else◌}
use Rattle.partition_reports.specs.Pairs.{pair_count}
use Rattle.partition_reports.specs.declared.membership.Membership.{Membership}
use Rattle.partition_reports.specs.declared.membership.Membership.TheVariants.{Outside, Limited, Full}
use Rattle.partition_reports.specs.declared.pairs.Member.{Member}
use Rattle.partition_reports.specs.Membership.{is_full_member, is_member}

-- ---- two members of whom neither changed gain nothing
abbrev pub are_alike : Membership → Membership → Bool
are_alike Outside Outside = true
are_alike Limited Limited = true
are_alike Full Full = true
are_alike _ _ = false

abbrev pub is_changed : Member → Bool
is_changed member = not (are_alike member.after member.before)

-- the changed members behind this one, of those from it on
abbrev pub changed_behind : Member → List Member → List Member
changed_behind member changed = if is_changed member then drop 1 changed else changed

-- ---- counts
abbrev pub is_now : Member → Bool
is_now member = is_member member.after

abbrev pub is_full_now : Member → Bool
is_full_now member = is_member member.after && is_full_member member.after

abbrev pub is_in_both : Member → Bool
is_in_both member = is_member member.after && is_member member.before

abbrev pub is_full_in_both_now : Member → Bool
is_full_in_both_now member = is_in_both member && is_full_member member.after

abbrev pub is_full_in_both_before : Member → Bool
is_full_in_both_before member = is_in_both member && is_full_member member.before

abbrev pub is_full_in_any : Member → Bool
is_full_in_any member = is_in_both member && (is_full_member member.after || is_full_member member.before)

-- pairs that may talk now and might before
abbrev pub kept_count : List Member → ℕ
kept_count members =
    pair_count (count_by is_in_both members) (count_by is_full_in_both_now members)
    + pair_count (count_by is_in_both members) (count_by is_full_in_both_before members)
    - pair_count (count_by is_in_both members) (count_by is_full_in_any members)
