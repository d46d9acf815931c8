-- Cycles among things that are numbered and depend on one another: for each the list of those that it depends on.
use Rattle.std.specs.Prelude.{ℕ, zero, suc, ◌+◌, Bool, false, ◌==◌, ◌||◌, List, [], ◌∷◌, length, get_or, find, Option, Some, None, option_map, if◌then◌else◌}
use Rattle.std.specs.List.{list_any, range_with_len}
use Rattle.std.specs.Option.{option_or}

-- those that this one depends on
abbrev pub after : List (List ℕ) → ℕ → List ℕ
after graph a = get_or graph a []

-- at most so many dependencies lead from a to b, one behind the other
abbrev pub leads : List (List ℕ) → ℕ → ℕ → ℕ → Bool
leads graph zero a b = false
leads graph (suc count) a b = list_any (λ next. (next == b) || leads graph count next b) (after graph a)

-- how many dependencies the shortest cycle through this one has. None needs more than there are things: `src/laws.rt`.
abbrev pub shortest : List (List ℕ) → ℕ → Option ℕ
shortest graph a = find (λ count. leads graph count a a) (range_with_len 0 (length graph + 1))

-- the way home within so many dependencies, by the least at each step: those between
abbrev pub next_home : List (List ℕ) → ℕ → ℕ → ℕ → Option ℕ
next_home graph count a home = find (λ next. (next == home) || leads graph count next home) (after graph a)

abbrev pub goes_home : ℕ → (ℕ → List ℕ) → Option ℕ → List ℕ
goes_home home rest (Some next) = if next == home then [] else next ∷ rest next
goes_home home rest None = []

abbrev pub way : List (List ℕ) → ℕ → ℕ → ℕ → List ℕ
way graph zero a home = []
way graph (suc count) a home = goes_home home (λ next. way graph count next home) (next_home graph count a home)

-- the shortest cycle through this one, which stands first, and of those the one that takes the least at each step
abbrev pub cycle_through : List (List ℕ) → ℕ → Option (List ℕ)
cycle_through graph a = option_map (λ count. a ∷ way graph count a a) (shortest graph a)

-- that through the first of these that is on one
abbrev pub first_cycle : List (List ℕ) → List ℕ → Option (List ℕ)
first_cycle graph [] = None
first_cycle graph (a ∷ rest) = option_or (cycle_through graph a) (first_cycle graph rest)

-- that through the least that is on one; none if there is no cycle
abbrev pub cycle : List (List ℕ) → Option (List ℕ)
cycle graph = first_cycle graph (range_with_len 0 (length graph))
