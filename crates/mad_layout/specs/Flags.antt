-- Which bit is which in the flags of an RMPP header (IBA volume 1, chapter 13), and in the JoinState of a
-- MCMemberRecord (15.2.5): each name with the value of its bit.
use Rattle.std.specs.Prelude.{ℕ, List, [], ◌∷◌, codes}

-- whether the MAD is a segment, and whether it is the first or the last one
abbrev pub rmpp_flags : List (List ℕ × ℕ)
rmpp_flags = (codes "ACTIVE", 1) ∷ (codes "FIRST", 2) ∷ (codes "LAST", 4) ∷ []

-- how a port is a member of a multicast group
abbrev pub join_states : List (List ℕ × ℕ)
join_states = (codes "FULL_MEMBER", 1) ∷ (codes "NON_MEMBER", 2) ∷ (codes "SEND_ONLY_NON_MEMBER", 4) ∷ []
