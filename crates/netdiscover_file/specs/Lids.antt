-- The LIDs that lines report.
use Rattle.std.specs.Prelude.{ℕ, Bool, not, ◌==◌, ◌&&◌, ◌||◌, List, [], ◌∷◌, codes, bytes_eq, if◌then◌else◌, Option, Some, None, is_some, Result, Ok, Err}
use Rattle.std.specs.Option.{ok_or, option_map_or}
use Rattle.step_results.specs.Steps.{◌>>=◌}
use Rattle.text_words.specs.Cut.{cut_at}
use Rattle.text_words.specs.Lines.{words_of}
use Rattle.netdiscover_file.specs.declared.kind.NodeKind.{NodeKind}
use Rattle.netdiscover_file.specs.declared.fault.DiscoveryCause.{DiscoveryCause}
use Rattle.netdiscover_file.specs.declared.fault.DiscoveryCause.TheVariants.{Malformed}
use Rattle.netdiscover_file.specs.Cut.{has_no_words}
use Rattle.netdiscover_file.specs.Kind.{is_switch}
use Rattle.netdiscover_file.specs.Spelling.{lid_in, lmc_in, only_if}

-- ---- `lid 4 lmc 0`
unfoldable pub lid_encoded : List ℕ → List ℕ → List ℕ → List ℕ → Result ℕ DiscoveryCause
lid_encoded lid_word lid lmc_word lmc = do
  number ← lid_in lid
  mask ← lmc_in lmc
  only_if (bytes_eq lid_word (codes "lid") && bytes_eq lmc_word (codes "lmc")) number

-- the words that come first
unfoldable pub first_lid : List (List ℕ) → Result ℕ DiscoveryCause
first_lid (lid_word ∷ lid ∷ lmc_word ∷ lmc ∷ rest) = lid_encoded lid_word lid lmc_word lmc
first_lid _ = Err Malformed

-- the words that are all
unfoldable pub only_lid : List (List ℕ) → Result ℕ DiscoveryCause
only_lid (lid_word ∷ lid ∷ lmc_word ∷ lmc ∷ []) = lid_encoded lid_word lid lmc_word lmc
only_lid _ = Err Malformed

-- in the comment of an adapter's port line its own LID stands before the name of the far node, which begins with a `"`
abbrev pub before_name : List ℕ → List ℕ
before_name comment = option_map_or (λ parts. parts.0) (cut_at (λ byte. byte == 34) comment) comment

unfoldable pub own_lid_in : List ℕ → Result ℕ DiscoveryCause
own_lid_in comment = do
  words ← ok_or (words_of (before_name comment)) Malformed
  first_lid words

-- a port of an adapter or a router has a GUID and a LID of its own, one of a switch has neither
unfoldable pub own_lid : Bool → Option ℕ → List ℕ → Result (Option ℕ) DiscoveryCause
own_lid at_switch guid comment =
    if at_switch then only_if (not (is_some guid)) None
    else (if is_some guid then (own_lid_in comment >>= λ lid. Ok (Some lid)) else Err Malformed)

abbrev pub owns : Bool → Option ℕ → Option ℕ → Bool
owns at_switch guid lid = if at_switch then not (is_some guid) && not (is_some lid) else is_some guid && is_some lid

-- ---- behind the name in a header: `base port 0 lid 4 lmc 0`, or `enhanced ..`, of a switch's port 0
abbrev pub is_port_0 : List ℕ → List ℕ → List ℕ → Bool
is_port_0 sort word number =
    (bytes_eq sort (codes "base") || bytes_eq sort (codes "enhanced")) && (bytes_eq word (codes "port") && bytes_eq number (codes "0"))

unfoldable pub port_0_lid : List (List ℕ) → Result ℕ DiscoveryCause
port_0_lid (sort ∷ word ∷ number ∷ rest) = if is_port_0 sort word number then only_lid rest else Err Malformed
port_0_lid _ = Err Malformed

unfoldable pub node_lid : NodeKind → List ℕ → Result (Option ℕ) DiscoveryCause
node_lid kind behind =
    if is_switch kind then (ok_or (words_of behind) Malformed >>= λ words. port_0_lid words >>= λ lid. Ok (Some lid))
    else only_if (has_no_words behind) None
