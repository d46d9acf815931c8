-- Lines that assign a value to a word.
use Rattle.std.specs.Prelude.{ℕ, Bool, not, ◌==◌, ◌&&◌, ◌||◌, List, [], ◌∷◌, codes, bytes_eq, if◌then◌else◌, Option, Some, None, Result, Err}
use Rattle.std.specs.Option.{ok_or}
use Rattle.std.specs.List.{list_all}
use Rattle.std.specs.Char.{is_ascii_digit, is_ascii_lowercase}
use Rattle.step_results.specs.Steps.{◌>>=◌}
use Rattle.text_words.specs.Cut.{cut_at}
use Rattle.text_words.specs.Lines.{words_of}
use Rattle.netdiscover_file.specs.declared.assignment.SwitchGuids.{SwitchGuids}
use Rattle.netdiscover_file.specs.declared.fault.DiscoveryCause.{DiscoveryCause}
use Rattle.netdiscover_file.specs.declared.fault.DiscoveryCause.TheVariants.{Malformed}
use Rattle.netdiscover_file.specs.Cut.{enclosed, is_empty}
use Rattle.netdiscover_file.specs.Spelling.{guid_in, only_if}

-- ---- `word=value`: what stands before the first `=` are lower-case letters, digits and `_`
abbrev pub is_key_byte : ℕ → Bool
is_key_byte byte = is_ascii_lowercase byte || (is_ascii_digit byte || (byte == 95))

abbrev pub is_key : List ℕ → Bool
is_key word = not (is_empty word) && list_all is_key_byte word

-- `word=value`, with the word before and the value behind the first `=`
abbrev pub is_assigned : List ℕ × List ℕ → Bool
is_assigned parts = is_key parts.0

abbrev pub if_assigned : Option (List ℕ × List ℕ) → Option (List ℕ × List ℕ)
if_assigned (Some parts) = if is_assigned parts then Some parts else None
if_assigned None = None

abbrev pub assignment_in : List ℕ → Option (List ℕ × List ℕ)
assignment_in line = if_assigned (cut_at (λ byte. byte == 61) line)

-- ---- `switchguid=0x2c902004085a0(2c902004085a0)`: the GUIDs of a switch and of its port 0
abbrev pub prefixed_guid_in : List ℕ → Result ℕ DiscoveryCause
prefixed_guid_in word =
    ok_or (cut_at (λ byte. byte == 120) word) Malformed >>= λ parts. if bytes_eq parts.0 (codes "0") then guid_in parts.1 else Err Malformed

unfoldable pub switch_guids_encoded : List ℕ → Result SwitchGuids DiscoveryCause
switch_guids_encoded word = do
  parts ← enclosed 40 41 word
  node ← prefixed_guid_in parts.before
  port ← guid_in parts.inside
  only_if (is_empty parts.behind) (record { node = node; port = port })

-- behind them a comment may stand, or what else there is
unfoldable pub first_switch_guids : List (List ℕ) → Result SwitchGuids DiscoveryCause
first_switch_guids (word ∷ rest) = switch_guids_encoded word
first_switch_guids [] = Err Malformed

unfoldable pub switch_guids_in : List ℕ → Result SwitchGuids DiscoveryCause
switch_guids_in value = do
  words ← ok_or (words_of value) Malformed
  first_switch_guids words
