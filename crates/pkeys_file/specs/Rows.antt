-- The rows of a P_Key table, and its last line.
use Rattle.std.specs.Prelude.{ℕ, ◌+◌, ◌*◌, ◌/◌, ◌==◌, List, [], ◌∷◌, ◌++◌, length, codes, bytes_eq, if◌then◌else◌, Option, Some, None, Result, Ok, Err}
use Rattle.std.specs.Option.{ok_or}
use Rattle.step_results.specs.Steps.{◌>>=◌}
use Rattle.text_words.specs.Lines.{words_of}
use Rattle.pkeys_file.specs.declared.fault.KeysCause.{KeysCause}
use Rattle.pkeys_file.specs.declared.fault.KeysCause.TheVariants.{Malformed, WrongPlace}
use Rattle.pkeys_file.specs.declared.fields.Fields.{Fields}
use Rattle.pkeys_file.specs.Fields.{new_capacity}
use Rattle.pkeys_file.specs.Parts.{cut, only_if, u16_of}

-- ---- `   8: 0x010e 0x0110 0x8112 0x0114 0x0116 0x8118 0x011a 0x011c`: the place of the first key, and 8 keys
-- keys behind these
unfoldable pub keys_after : List ℕ → List (List ℕ) → Result (List ℕ) KeysCause
keys_after keys [] = Ok keys
keys_after keys (word ∷ rest) = u16_of word >>= λ key. keys_after (keys ++ key ∷ []) rest

-- the place of a row is that of its first key
abbrev pub judged_place : List ℕ → ℕ → Result ℕ KeysCause
judged_place keys place = if length keys == place then Ok place else Err WrongPlace

unfoldable pub place_in : List ℕ → List ℕ → Result ℕ KeysCause
place_in keys word = do
  parts ← cut 58 word
  place ← u16_of parts.0
  found ← only_if (length parts.1 == 0) place
  judged_place keys found

-- a row has 8 keys
abbrev pub whole_row : List ℕ → List ℕ → Result (List ℕ) KeysCause
whole_row before keys = if length before + 8 == length keys then Ok keys else Err Malformed

unfoldable pub row_by : List ℕ → List (List ℕ) → Result (List ℕ) KeysCause
row_by keys [] = Err Malformed
row_by keys (first ∷ words) = do
  place ← place_in keys first
  more ← keys_after keys words
  whole_row keys more

abbrev pub row_after : List ℕ → List ℕ → Result (List ℕ) KeysCause
row_after keys text = ok_or (words_of text) Malformed >>= row_by keys

-- ---- `64 pkeys capacity for this port`: the rows go to the capacity, rounded up to 8
abbrev pub rounded : ℕ → ℕ
rounded capacity = (capacity + 7) / 8 * 8

abbrev pub judged_capacity : List ℕ → Option ℕ → Fields → Result Fields KeysCause
judged_capacity keys (Some capacity) fields =
    if rounded capacity == length keys then Ok (record fields { capacity = Some capacity }) else Err WrongPlace
judged_capacity keys None fields = Err Malformed

unfoldable pub capacity_after : List ℕ → Fields → List ℕ → Result Fields KeysCause
capacity_after keys fields text = do
  parts ← cut 32 text
  capacity ← new_capacity fields.capacity parts.0
  found ← only_if (bytes_eq parts.1 (codes "pkeys capacity for this port")) capacity
  judged_capacity keys found fields
