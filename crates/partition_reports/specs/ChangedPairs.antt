-- The pairs of end ports that may talk now, and might not before.
use Rattle.std.specs.Prelude.{Bool, not, ◌&&◌, if◌then◌else◌, List, [], ◌∷◌, ◌++◌, flat_map}
use Rattle.partition_reports.specs.declared.pairs.Member.{Member}
use Rattle.partition_reports.specs.declared.pairs.Pair.{Pair}
use Rattle.partition_reports.specs.Membership.{may_talk}

abbrev pub gains : Member → Member → Bool
gains p q = may_talk p.after q.after && not (may_talk p.before q.before)

abbrev pub pair_if : Member → Member → List Pair
pair_if p q = if gains p q then record { first = p.port; second = q.port } ∷ [] else []

-- each port with each behind it
abbrev pub new_pairs : List Member → List Pair
new_pairs [] = []
new_pairs (p ∷ members) = flat_map (pair_if p) members ++ new_pairs members
