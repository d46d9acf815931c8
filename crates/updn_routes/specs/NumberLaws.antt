-- What the numbers of adapters' ports do: the statements of laws of `src/tie_laws.rt`. Each is over any numbers, so that wrong ones can be
-- refused.
use Rattle.std.specs.Prelude.{ℕ, ◌≡◌, ◌==◌, ◌≤◌, ◌<◌, ◌+◌, ◌&&◌, not, false, List, ◌∷◌, ◌++◌, filter, length, position, unwrap_or}
use Rattle.std.specs.List.{Contains}
use Rattle.fabric_parts.specs.declared.cable.PortRef.{PortRef}
use Rattle.updn_routes.specs.Tables.{place_at}
use Rattle.updn_routes.specs.Ties.{number_of_home}

-- the number of an adapter's port, by the places of switches, and by where all LIDs are attached
abbrev pub Numbering : Type 0
Numbering = (places : List ℕ) (homes : List PortRef) (home : PortRef) → ℕ

-- an adapter's port is attached there: to a port of a switch other than 0
abbrev pub IsAdapters : List PortRef → PortRef → Type 0
IsAdapters homes home = Contains homes home × ((home.port == 0) ≡ false)

-- no two switches have one place
abbrev pub HaveOwnPlaces : List ℕ → List PortRef → Type 0
HaveOwnPlaces places homes =
    (one other : PortRef) → Contains homes one → Contains homes other → place_at places one.node ≡ place_at places other.node
    → one.node ≡ other.node

-- of n adapters' ports each has a number below n
abbrev pub NumbersAreLow : Numbering → Type 0
NumbersAreLow number =
    (places : List ℕ) (homes : List PortRef) (home : PortRef) → IsAdapters homes home
    → number places homes home < length (filter (λ other. not (other.port == 0)) homes)

-- and no two that are attached to different ports have the same
abbrev pub NumbersDiffer : Numbering → Type 0
NumbersDiffer number =
    (places : List ℕ) (homes : List PortRef) (one other : PortRef) → HaveOwnPlaces places homes → IsAdapters homes one
    → IsAdapters homes other → number places homes one ≡ number places homes other → one ≡ other

-- those of one switch stand in a row: a port whose number is between two of theirs is attached to it too
abbrev pub SwitchesStandInRows : Numbering → Type 0
SwitchesStandInRows number =
    (places : List ℕ) (homes : List PortRef) (one between other : PortRef) → HaveOwnPlaces places homes → IsAdapters homes one
    → IsAdapters homes between → IsAdapters homes other → one.node ≡ other.node
    → number places homes one ≤ number places homes between → number places homes between ≤ number places homes other
    → between.node ≡ one.node

-- which LID a port has does not count: if two neighbours exchange theirs, each number stays
abbrev pub LidsDoNotCount : Numbering → Type 0
LidsDoNotCount number =
    (places : List ℕ) (before after : List PortRef) (one other home : PortRef)
    → number places (before ++ (one ∷ other ∷ after)) home ≡ number places (before ++ (other ∷ one ∷ after)) home

pub record AdaptersAreNumbered : Type 0 where
  pub low : NumbersAreLow number_of_home
  pub differ : NumbersDiffer number_of_home
  pub rows : SwitchesStandInRows number_of_home
  pub lids : LidsDoNotCount number_of_home

-- ---- wrong numbers
-- all ports have one number
abbrev pub all_alike : Numbering
all_alike places homes home = 0

-- the place of the LID among all
abbrev pub by_lid : Numbering
by_lid places homes home = unwrap_or (position (λ other. (other.node == home.node) && (other.port == home.port)) homes) 0

-- switches count, too
abbrev pub with_switches : Numbering
with_switches places homes home = number_of_home places homes home + length (filter (λ other. other.port == 0) homes)

pub record WrongNumbersAreRefused : Type 0 where
  pub alike : ¬ (NumbersDiffer all_alike)
  pub lid : ¬ (LidsDoNotCount by_lid)
  pub scattered : ¬ (SwitchesStandInRows by_lid)
  pub switches : ¬ (NumbersAreLow with_switches)
