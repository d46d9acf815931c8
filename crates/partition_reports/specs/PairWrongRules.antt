-- Wrong rules for pairs, and the law that each breaks.
use Rattle.std.specs.Prelude.{Bool, ◌&&◌, if◌then◌else◌, List, [], ◌∷◌, ◌++◌, flat_map}
use Rattle.partition_reports.specs.declared.membership.Membership.{Membership}
use Rattle.partition_reports.specs.declared.pairs.Member.{Member}
use Rattle.partition_reports.specs.declared.pairs.Pair.{Pair}
use Rattle.partition_reports.specs.PairLaws.{IsMatching, ListsTheGained}
use Rattle.partition_reports.specs.Counts.{is_changed}
use Rattle.partition_reports.specs.Membership.{is_member, may_talk, membership_of}
use Rattle.partition_reports.specs.ChangedPairs.{new_pairs, pair_if}

-- ---- two limited members may talk
abbrev pub members_talk : Membership → Membership → Bool
members_talk a b = is_member a && is_member b

abbrev pub OneHasToBeFull : Type 0
OneHasToBeFull = IsMatching membership_of members_talk → ⊥

-- ---- what was before does not count
abbrev pub pair_now : Member → Member → List Pair
pair_now p q = if may_talk p.after q.after then record { first = p.port; second = q.port } ∷ [] else []

abbrev pub talking_pairs : List Member → List Pair
talking_pairs [] = []
talking_pairs (p ∷ members) = flat_map (pair_now p) members ++ talking_pairs members

abbrev pub WhatWasBeforeCounts : Type 0
WhatWasBeforeCounts = ListsTheGained talking_pairs → ⊥

-- ---- each pair is listed twice
abbrev pub pairs_twice : List Member → List Pair
pairs_twice members = flat_map (λ pair. pair ∷ pair ∷ []) (new_pairs members)

abbrev pub PairsAreNotListedTwice : Type 0
PairsAreNotListedTwice = ListsTheGained pairs_twice → ⊥

-- ---- the same two ports are listed again in the other order
abbrev pub turned : Pair → Pair
turned pair = record { first = pair.second; second = pair.first }

abbrev pub pairs_both_ways : List Member → List Pair
pairs_both_ways members = flat_map (λ pair. pair ∷ turned pair ∷ []) (new_pairs members)

abbrev pub TheReverseIsTheSamePair : Type 0
TheReverseIsTheSamePair = ListsTheGained pairs_both_ways → ⊥

-- ---- a port is listed with itself
abbrev pub pairs_with_itself : List Member → List Pair
pairs_with_itself [] = []
pairs_with_itself (p ∷ members) = flat_map (pair_if p) (p ∷ members) ++ pairs_with_itself members

abbrev pub NoPortIsItsOwnPair : Type 0
NoPortIsItsOwnPair = ListsTheGained pairs_with_itself → ⊥

-- ---- a port that is what it was before is listed with none of those behind it
abbrev pub row_of_changed : Member → List Member → List Pair
row_of_changed p members = if is_changed p then flat_map (pair_if p) members else []

abbrev pub pairs_of_changed : List Member → List Pair
pairs_of_changed [] = []
pairs_of_changed (p ∷ members) = row_of_changed p members ++ pairs_of_changed members

abbrev pub UnchangedPortsGainToo : Type 0
UnchangedPortsGainToo = ListsTheGained pairs_of_changed → ⊥
