-- What stands behind the `#` of a line.
use Rattle.std.specs.Prelude.{ℕ, Bool, ◌==◌, ◌&&◌, List, [], ◌∷◌, codes, bytes_eq, if◌then◌else◌, Result, Err}
use Rattle.std.specs.Option.{ok_or, option_map_or}
use Rattle.step_results.specs.Steps.{◌>>=◌}
use Rattle.text_words.specs.Cut.{cut_at}
use Rattle.text_words.specs.Lines.{words_of}
use Rattle.netdiscover_file.specs.declared.fault.DiscoveryCause.{DiscoveryCause}
use Rattle.netdiscover_file.specs.declared.fault.DiscoveryCause.TheVariants.{Malformed}
use Rattle.netdiscover_file.specs.Cut.{cut_at_last, has_no_words}
use Rattle.netdiscover_file.specs.Spelling.{full_guid_in, only_if}

-- what stands behind the first `#`; nothing if there is none
abbrev pub comment_of : List ℕ → List ℕ
comment_of line = option_map_or (λ parts. parts.1) (cut_at (λ byte. byte == 35) line) []

-- ---- the name in a header stands between the first `"` and the last one, whatever bytes it has
unfoldable pub quoted_name : List ℕ → Result (List ℕ × List ℕ) DiscoveryCause
quoted_name comment = do
  first ← ok_or (cut_at (λ byte. byte == 34) comment) Malformed
  last ← ok_or (cut_at_last (λ byte. byte == 34) first.1) Malformed
  only_if (has_no_words first.0) last

-- ---- `# Initiated from node 0002c90300a1b200 port 0002c90300a1b201`: the port at which it was printed
unfoldable pub initiating_port : List (List ℕ) → Result ℕ DiscoveryCause
initiating_port (word ∷ guid ∷ []) = if bytes_eq word (codes "port") then full_guid_in guid else Err Malformed
initiating_port _ = Err Malformed

abbrev pub is_initiated : List ℕ → List ℕ → List ℕ → Bool
is_initiated first second third =
    bytes_eq first (codes "Initiated") && (bytes_eq second (codes "from") && bytes_eq third (codes "node"))

unfoldable pub initiator_of : List (List ℕ) → Result ℕ DiscoveryCause
initiator_of (first ∷ second ∷ third ∷ node ∷ rest) =
    full_guid_in node >>= λ guid. if is_initiated first second third then initiating_port rest else Err Malformed
initiator_of _ = Err Malformed

unfoldable pub initiator_in : List ℕ → Result ℕ DiscoveryCause
initiator_in comment = do
  words ← ok_or (words_of comment) Malformed
  initiator_of words
