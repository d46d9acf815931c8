-- What is read in an attribute that an SMP carries: the entries of a block, and LinearFDBTop of SwitchInfo.
use Rattle.std.specs.Prelude.{ℕ, ◌*◌, List, map}
use Rattle.std.specs.List.{range_with_len}
use Rattle.mad_layout.specs.Bits.{field}

-- the 32 words of 16 bits of a block of keys or masks
unfoldable pub words_in : List ℕ → List ℕ
words_in attribute = map (λ k. field attribute (16 * k) 16) (range_with_len 0 32)

-- the 64 ports of a block of a linear forwarding table
unfoldable pub ports_in : List ℕ → List ℕ
ports_in attribute = map (λ k. field attribute (8 * k) 8) (range_with_len 0 64)

abbrev pub linear_fdb_top_in : List ℕ → ℕ
linear_fdb_top_in attribute = field attribute 48 16
