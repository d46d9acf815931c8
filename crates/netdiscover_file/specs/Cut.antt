-- Texts in parts.
use Rattle.std.specs.Prelude.{ℕ, Bool, false, ◌==◌, List, [], ◌∷◌, length, Option, Some, None, if◌then◌else◌, Result, Ok}
use Rattle.std.specs.Option.{ok_or, option_map_or}
use Rattle.step_results.specs.Steps.{◌>>=◌}
use Rattle.text_words.specs.Cut.{cut_at}
use Rattle.text_words.specs.Lines.{words_of}
use Rattle.netdiscover_file.specs.declared.cut.Between.{Between}
use Rattle.netdiscover_file.specs.declared.fault.DiscoveryCause.{DiscoveryCause}
use Rattle.netdiscover_file.specs.declared.fault.DiscoveryCause.TheVariants.{Malformed}

-- what stands before, between and behind two bytes
pub record Parts : Type 0 where
  pub before : List ℕ
  pub inside : List ℕ
  pub behind : List ℕ

abbrev pub parts_of : Between → Parts
parts_of parts = record { before = parts.before.now; inside = parts.inside.now; behind = parts.behind.now }

-- the first byte that opens, and the first behind it that closes
unfoldable pub enclosed : ℕ → ℕ → List ℕ → Result Parts DiscoveryCause
enclosed open_byte close_byte text = do
  first ← ok_or (cut_at (λ byte. byte == open_byte) text) Malformed
  second ← ok_or (cut_at (λ byte. byte == close_byte) first.1) Malformed
  Ok (record { before = first.0; inside = second.0; behind = second.1 })

-- a byte put before what stands before the last byte that passes, if there is one
abbrev pub before_it : ℕ → List ℕ × List ℕ → List ℕ × List ℕ
before_it byte parts = (byte ∷ parts.0, parts.1)

abbrev pub or_here : Bool → ℕ → List ℕ → Option (List ℕ × List ℕ) → Option (List ℕ × List ℕ)
or_here here byte rest (Some parts) = Some (before_it byte parts)
or_here here byte rest None = if here then Some ([], rest) else None

-- what stands before and behind the last byte that passes the test
abbrev pub cut_at_last : (ℕ → Bool) → List ℕ → Option (List ℕ × List ℕ)
cut_at_last test [] = None
cut_at_last test (byte ∷ rest) = or_here (test byte) byte rest (cut_at_last test rest)

abbrev pub is_empty : List ℕ → Bool
is_empty text = length text == 0

-- blanks and tabs alone, except a comment
abbrev pub has_no_words : List ℕ → Bool
has_no_words text = option_map_or (λ words. length words == 0) (words_of text) false
