-- What ports of channel adapters report of their adapters.
use Rattle.std.specs.Prelude.{ℕ, ◌==◌, Bool, true, Option}
use Rattle.std.specs.Option.{option_map_or}

-- that number of ports is the one that was reported before, if one was
abbrev pub is_count : ℕ → Option ℕ → Bool
is_count count reported = option_map_or (λ known. known == count) reported true
