-- How cycles are found: marks, one for each of what is numbered, spread round by round. No definition of the subject
-- stands on these.
use Rattle.std.specs.Prelude.{ℕ, ◌≡◌, zero, suc, Bool, true, false, ◌==◌, ◌&&◌, ◌||◌, ◌<◌, List, length, map, is_some}
use Rattle.std.specs.List.{enumerate_from, list_any}
use Rattle.topo_file.specs.Rounds.{is_marked}
use Rattle.audit_loops.specs.Cycle.{after, shortest}

-- one of these is the one that is looked for, or marked
abbrev pub some_leads : ℕ → List Bool → List ℕ → Bool
some_leads home marks nexts = list_any (λ next. (next == home) || is_marked marks next) nexts

-- marked is what depends on `home` or on what was marked
abbrev pub round : List (List ℕ) → ℕ → List Bool → List Bool
round graph home marks = map (λ nexts. some_leads home marks nexts) graph

abbrev pub rounds : List (List ℕ) → ℕ → ℕ → List Bool
rounds graph home zero = map (λ nexts. false) graph
rounds graph home (suc count) = round graph home (rounds graph home count)

-- what is left in place is what depends on what was in place
abbrev pub some_marked : List Bool → List ℕ → Bool
some_marked marks nexts = list_any (λ next. is_marked marks next) nexts

abbrev pub peeled : List (List ℕ) → List Bool → List Bool
peeled graph marks = map (λ p. is_marked marks p.0 && some_marked marks p.1) (enumerate_from 0 graph)

-- all is hit that something marked depends on
abbrev pub IsHitBelow : List (List ℕ) → List Bool → ℕ → List Bool → Type 0
IsHitBelow graph marks count hits =
    (c d : ℕ) → c < count → d < length hits → is_marked marks c ≡ true → list_any (λ next. next == d) (after graph c) ≡ true → is_marked hits d ≡ true

-- what is marked and hit
abbrev pub both_marked : List Bool → List Bool → List Bool
both_marked marks hits = map (λ p. p.1 && is_marked hits p.0) (enumerate_from 0 marks)

-- all that is on a cycle is in place
abbrev pub KeepsCycles : List (List ℕ) → List Bool → Type 0
KeepsCycles graph marks = (a : ℕ) → is_some (shortest graph a) ≡ true → is_marked marks a ≡ true
