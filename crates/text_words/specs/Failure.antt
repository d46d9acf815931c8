-- The line that a program of infiniband-diags prints in place of its answer, on standard output, if it fails.
use Rattle.std.specs.Prelude.{ℕ, Bool, ◌==◌, ◌&&◌, nat_eq, false, List, codes}
use Rattle.std.specs.List.{ends_with, starts_with}
use Rattle.std.specs.Option.{option_map_or}
use Rattle.text_words.specs.Cut.{cut_at}

-- `smpquery: iberror: failed: operation pkeys: node info query failed`: the program's name and a colon, a blank, and these words
abbrev pub is_failure : List ℕ → Bool
is_failure line =
    option_map_or (λ parts. ends_with nat_eq parts.0 (codes ":") && starts_with nat_eq parts.1 (codes "iberror: ")) (cut_at (λ byte. byte == 32) line) false
