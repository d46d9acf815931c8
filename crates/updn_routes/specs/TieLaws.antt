-- What a rule of ties does: the statements of laws of `src/tie_laws.rt`. Each is over any rule, so that wrong rules can be refused.
use Rattle.std.specs.Prelude.{ℕ, ◌≡◌, ◌==◌, ◌+◌, ◌-◌, ◌*◌, ◌/◌, ◌%◌, ◌<◌, ◌≤◌, Bool, List, filter, length}
use Rattle.std.specs.List.{range_with_len}
use Rattle.updn_routes.specs.Choice.{IsPickedOf, IsShortestOf, least_port}
use Rattle.updn_routes.specs.Ties.{tie_of}
use Rattle.updn_routes.specs.declared.tie_rule.TieRule.TheVariants.{LeastPort, Balanced}

-- which of so many ties is taken for a port of that number, at a switch of that rank and place
abbrev pub Rule : Type 0
Rule = (number rank place ties : ℕ) → ℕ

-- one of them, of however many
abbrev pub NamesATie : Rule → Type 0
NamesATie rule = (number rank place ties : ℕ) → 0 < ties → rule number rank place ties < ties

-- each, for one of the first as many numbers
abbrev pub TakesEachTie : Rule → Type 0
TakesEachTie rule = (rank place ties tie : ℕ) → tie < ties → (number : ℕ) × (number < ties) × (rule number rank place ties ≡ tie)

-- for how many of the numbers from `first` on it takes that tie
abbrev pub count_taken : Rule → (rank place ties tie first many : ℕ) → ℕ
count_taken rule rank place ties tie first many = length (filter (λ number. rule number rank place ties == tie) (range_with_len first many))

-- of numbers in a row no tie gets more than one, and one for each round of all ties that the others begin
abbrev pub SharesTies : Rule → Type 0
SharesTies rule =
    (rank place ties tie first many : ℕ) → 0 < ties
    → count_taken rule rank place ties tie first many ≤ (many + ties - 2) / ties + 1

-- the next switch in the order begins at the next tie
abbrev pub NextPlaceGoesOn : Rule → Type 0
NextPlaceGoesOn rule =
    (number rank place ties : ℕ) → 0 < ties → rule number rank (place + 1) ties ≡ (rule number rank place ties + 1) % ties

-- one rank further a port of an adapter goes on by one more tie for each round before it: so what takes one tie here is spread there
abbrev pub NextRankGoesOn : Rule → Type 0
NextRankGoesOn rule =
    (number rank place ties : ℕ) → 0 < ties → rule number (rank + 1) place ties ≡ (rule number rank place ties + number / ties) % ties

-- ---- the rules that there are
pub record BalancedTies : Type 0 where
  pub names : NamesATie (tie_of Balanced)
  pub each : TakesEachTie (tie_of Balanced)
  pub shared : SharesTies (tie_of Balanced)
  pub place : NextPlaceGoesOn (tie_of Balanced)
  pub rank : NextRankGoesOn (tie_of Balanced)

-- by the rule of the least port no port that begins as short a way is less
abbrev pub TheFirstTieIsTheLeast : Type 0
TheFirstTieIsTheLeast =
    (is_way : ℕ → List ℕ → Bool) (port : ℕ) → IsPickedOf (least_port 0) is_way port
    → IsShortestOf is_way port × ((other : ℕ) → IsShortestOf is_way other → port ≤ other)

-- ---- wrong rules
-- the last tie is never taken
abbrev pub never_the_last : Rule
never_the_last number rank place ties = (number + place) % (ties - 1)

-- a row of as many numbers as there are ties takes one tie, and the next row the next
abbrev pub row_by_row : Rule
row_by_row number rank place ties = number / ties % ties

-- all switches take one tie for a port
abbrev pub without_place : Rule
without_place number rank place ties = (number + (rank % ties + 1) * (number / ties)) % ties

-- leaves and those above them go on alike
abbrev pub without_rank : Rule
without_rank number rank place ties = (number + number / ties + place) % ties

-- it may name one that there is not
abbrev pub one_too_far : Rule
one_too_far number rank place ties = number % (ties + 1)

pub record WrongRulesAreRefused : Type 0 where
  pub least : ¬ (TakesEachTie (tie_of LeastPort))
  pub least_too : ¬ (SharesTies (tie_of LeastPort))
  pub last : ¬ (TakesEachTie never_the_last)
  pub rows : ¬ (TakesEachTie row_by_row)
  pub rows_too : ¬ (SharesTies row_by_row)
  pub place : ¬ (NextPlaceGoesOn without_place)
  pub rank : ¬ (NextRankGoesOn without_rank)
  pub far : ¬ (NamesATie one_too_far)
