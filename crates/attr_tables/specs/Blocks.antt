-- Tables that are read and written in blocks, each one attribute of 64 bytes.
use Rattle.std.specs.Prelude.{ℕ, ◌≡◌, ◌+◌, ◌*◌, ◌/◌, ◌<◌, ◌≤◌, Bool, nat_lt, List, ◌++◌, length, get_or, take, drop}
use Rattle.std.specs.Int.{bytes_high_first}
use Rattle.std.specs.List.{flat_map}
use Rattle.mad_layout.specs.Bits.{field}

-- the bytes of a block are its entries, of `len` bits each
abbrev pub HoldsEntries : List ℕ → ℕ → List ℕ → Type 0
HoldsEntries bytes len entries = (k : ℕ) → k < length entries → get_or entries k 0 ≡ field bytes (len * k) len

-- that many blocks of `size` entries are what a table needs
pub record IsBlockCount (size entries blocks : ℕ) : Type 0 where
  pub enough : entries ≤ size * blocks
  pub no_more : size * blocks < entries + size

-- the entry of that index stands at that place of that block
pub record StandsAt (size index block place : ℕ) : Type 0 where
  pub counted : size * block + place ≡ index
  pub within : place < size

-- words of 16 bits as bytes, the high byte of each first
unfoldable pub word_bytes : List ℕ → List ℕ
word_bytes words = flat_map (bytes_high_first 2) words

-- the table has that block, in blocks of `size` entries
abbrev pub has_block : ℕ → ℕ → List ℕ → Bool
has_block size block table = nat_lt block (length table / size)

-- the entries of that block
unfoldable pub block_of : ℕ → ℕ → List ℕ → List ℕ
block_of size block table = take size (drop (size * block) table)

-- the table with these entries in that block
unfoldable pub with_block : ℕ → ℕ → List ℕ → List ℕ → List ℕ
with_block size block entries table =
    take (size * block) table ++ (entries ++ drop (size * block + size) table)
