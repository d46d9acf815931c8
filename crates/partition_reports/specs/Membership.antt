-- What an end port is in a partition, by its P_Keys, and who may talk there (IBA volume 1, 14.2.5.7).
use Rattle.std.specs.Prelude.{ℕ, Bool, true, false, ◌==◌, ◌&&◌, ◌||◌, if◌then◌else◌, List}
use Rattle.std.specs.List.{list_any}
use Rattle.pkey_rules.specs.KeyTable.{has_base}
use Rattle.pkey_rules.specs.PKey.{base_of, is_full}
use Rattle.partition_reports.specs.declared.membership.Membership.{Membership}
use Rattle.partition_reports.specs.declared.membership.Membership.TheVariants.{Outside, Limited, Full}

-- some key of this base is a full member's
abbrev pub has_full : ℕ → List ℕ → Bool
has_full base keys = list_any (λ key. (base_of key == base) && is_full key) keys

abbrev pub membership_of : ℕ → List ℕ → Membership
membership_of base keys = if has_full base keys then Full else (if has_base base keys then Limited else Outside)

abbrev pub is_member : Membership → Bool
is_member Outside = false
is_member Limited = true
is_member Full = true

abbrev pub is_full_member : Membership → Bool
is_full_member Outside = false
is_full_member Limited = false
is_full_member Full = true

-- two members may talk if one of them at least is a full one
abbrev pub may_talk : Membership → Membership → Bool
may_talk a b = is_member a && (is_member b && (is_full_member a || is_full_member b))
