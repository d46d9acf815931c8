-- How many partitions definitions make.
use Rattle.std.specs.Prelude.{ℕ, ◌+◌, Bool, ◌==◌, is_none, if◌then◌else◌, List, [], ◌∷◌, ◌++◌, length, map, fold, filter_map, count_by, Option, Some, None}
use Rattle.std.specs.List.{list_any}
use Rattle.pkey_rules.specs.PKey.{default_base}
use Rattle.partition_file.specs.declared.definition.Definition.{Definition}

abbrev pub has_base : ℕ → List ℕ → Bool
has_base base seen = list_any (λ other. other == base) seen

-- the bases seen so far, in the order of their first appearance
abbrev pub with_base : List ℕ → ℕ → List ℕ
with_base seen base = if has_base base seen then seen else seen ++ base ∷ []

-- the bases that are named
abbrev pub named : List (Option ℕ) → List ℕ
named bases = filter_map (λ base. base) bases

-- the default partition, which is there whether a definition names it or not, one for each further base that is named,
-- and one for each definition that names none
abbrev pub partition_count : List (Option ℕ) → ℕ
partition_count bases = length (fold with_base (default_base ∷ []) (named bases)) + count_by is_none bases

-- the bases that definitions name, in order
abbrev pub bases_given : List Definition → List (Option ℕ)
bases_given definitions = map (λ definition. definition.base) definitions

-- the bases seen with one more that may be named
abbrev pub with_given : List ℕ → Option ℕ → List ℕ
with_given seen (Some base) = with_base seen base
with_given seen None = seen

abbrev pub one_if_none : Option ℕ → ℕ
one_if_none (Some base) = 0
one_if_none None = 1

-- how many partitions a definition adds to those of the bases seen
abbrev pub further : List ℕ → Option ℕ → ℕ
further seen (Some base) = if has_base base seen then 0 else 1
further seen None = 1
