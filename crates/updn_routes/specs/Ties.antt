-- Which of its ties a switch takes. The switch, the number of ties, and the port to which a LID is attached decide, and nothing else:
-- not what was chosen before, nor the order in which switches were found, nor the LIDs.
use Rattle.std.specs.Prelude.{ℕ, ◌==◌, ◌+◌, ◌*◌, ◌/◌, ◌%◌, not, ◌&&◌, ◌||◌, nat_lt, Bool, List, [], filter, length, map}
use Rattle.fabric_parts.specs.declared.cable.PortRef.{PortRef}
use Rattle.updn_routes.specs.Tables.{place_at}
use Rattle.updn_routes.specs.declared.tie_rule.TieRule.{TieRule}
use Rattle.updn_routes.specs.declared.tie_rule.TieRule.TheVariants.{LeastPort, Balanced}

-- ---- the numbers of channel adapters' ports
-- of two ports of switches the one comes before the other: its switch does, by rank and GUID; or they are of one switch, and it is the less
abbrev pub is_earlier : List ℕ → PortRef → PortRef → Bool
is_earlier places one other =
    nat_lt (place_at places one.node) (place_at places other.node)
    || ((place_at places one.node == place_at places other.node) && nat_lt one.port other.port)

-- how many adapters' ports are attached to earlier ports; a switch's own LID is attached to its port 0, and no adapter's is
abbrev pub number_of_home : List ℕ → List PortRef → PortRef → ℕ
number_of_home places homes home = length (filter (λ other. not (other.port == 0) && is_earlier places other home) homes)

-- these numbers by LID, where the rule asks for them
abbrev pub numbers_of : TieRule → List ℕ → List PortRef → List ℕ
numbers_of LeastPort places homes = []
numbers_of Balanced places homes = map (number_of_home places homes) homes

-- ---- the rules
-- one tie after the other for each next adapter's port. Where these have gone round all ties, the next ones go on by as many as the
-- switch's rank has links to a root, and one: by another step at each rank, else all that a switch gets from the switch below would
-- leave it by one port. And each switch begins at a tie of its own
abbrev pub turn : ℕ → ℕ → ℕ → ℕ → ℕ
turn number rank place ties = (number + (rank % ties + 1) * (number / ties) + place) % ties

-- of so many ties, at a switch of that rank, that so many precede
abbrev pub tie_of : TieRule → (number rank place ties : ℕ) → ℕ
tie_of LeastPort number rank place ties = 0
tie_of Balanced number rank place ties = turn number rank place ties
