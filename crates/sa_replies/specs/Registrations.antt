-- Which multicast groups there are, and how ports are registered in them (IBA volume 1, 15.2.5).
use Rattle.std.specs.Prelude.{ℕ, Bool, true, false, not, ◌==◌, ◌&&◌, ◌||◌, List, [], ◌∷◌, filter, map}
use Rattle.std.specs.List.{flat_map}
use Rattle.sa_model.specs.Groups.{MulticastGroup, PartitionGroups}
use Rattle.sa_model.specs.Joining.{has_mgid, is_of}
use Rattle.sa_model.specs.JoinState.{JoinState}

-- ---- the group of an MGID in the partition of a base: one, or none
abbrev pub has_base : ℕ → PartitionGroups → Bool
has_base base partition = partition.base == base

abbrev pub partitions_at : ℕ → List PartitionGroups → List PartitionGroups
partitions_at base partitions = filter (has_base base) partitions

abbrev pub groups_at : ℕ → ℕ → List PartitionGroups → List MulticastGroup
groups_at base mgid partitions = flat_map (λ partition. filter (has_mgid mgid) partition.groups) (partitions_at base partitions)

abbrev pub is_some : {X : Type 0} → List X → Bool
is_some [] = false
is_some (x ∷ xs) = true

abbrev pub is_there : ℕ → ℕ → List PartitionGroups → Bool
is_there base mgid partitions = is_some (groups_at base mgid partitions)

-- MGID, MLID, parameters and maker of a group, with nobody in it
abbrev pub without_members : MulticastGroup → MulticastGroup
without_members group = record group { memberships = [] }

-- ---- the JoinState by which a port is registered in it: one, or none
abbrev pub states_in : ℕ → MulticastGroup → List JoinState
states_in port group = map (λ membership. membership.join_state) (filter (is_of port) group.memberships)

abbrev pub registered : ℕ → ℕ → ℕ → List PartitionGroups → List JoinState
registered port base mgid partitions = flat_map (states_in port) (groups_at base mgid partitions)

abbrev pub no_bits : JoinState
no_bits = record { full_member = false; non_member = false; send_only_non_member = false }

-- the bits of two JoinStates by this rule for each bit: those of one or the other, of both, or of the first alone
abbrev pub by_bits : (Bool → Bool → Bool) → JoinState → JoinState → JoinState
by_bits rule a b = record {
  full_member = rule a.full_member b.full_member;
  non_member = rule a.non_member b.non_member;
  send_only_non_member = rule a.send_only_non_member b.send_only_non_member;
}

abbrev pub bits_of_either : JoinState → JoinState → JoinState
bits_of_either a b = by_bits (λ x y. x || y) a b

abbrev pub bits_of_both : JoinState → JoinState → JoinState
bits_of_both a b = by_bits (λ x y. x && y) a b

abbrev pub bits_without : JoinState → JoinState → JoinState
bits_without less state = by_bits (λ x y. x && not y) state less

abbrev pub has_a_bit : JoinState → Bool
has_a_bit state = state.full_member || (state.non_member || state.send_only_non_member)

abbrev pub bits_held : List JoinState → JoinState
bits_held [] = no_bits
bits_held (state ∷ states) = state

-- ---- whether this is that group, and that registration
abbrev pub is_group : ℕ → ℕ → ℕ → ℕ → Bool
is_group base mgid b m = (b == base) && (m == mgid)

abbrev pub is_registration : ℕ → ℕ → ℕ → ℕ → ℕ → ℕ → Bool
is_registration port base mgid p b m = (p == port) && is_group base mgid b m
