-- LIDs, by which the ports of a subnet are named.
use Rattle.std.specs.Prelude.{ℕ, Bool, ◌==◌, ◌||◌, ◌&&◌, nat_le, nat_lt}

-- the SM port has this one
abbrev pub manager_lid : ℕ
manager_lid = 1

-- LID 0 is nobody's, and 0xffff, the permissive LID, is for directed-route packets alone
abbrev pub is_reserved : ℕ → Bool
is_reserved lid = (lid == 0) || (lid == 0xffff)

-- those from 0xc000 on, except the permissive one, are of multicast groups
abbrev pub is_multicast : ℕ → Bool
is_multicast lid = nat_le 0xc000 lid && nat_lt lid 0xffff
