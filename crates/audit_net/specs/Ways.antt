-- The way of a LID from a switch: the switches that packets come to along the entries.
use Rattle.std.specs.Prelude.{ℕ, zero, suc, List, [], ◌∷◌}
use Rattle.audit_net.specs.declared.following.Turn.{Turn}
use Rattle.audit_net.specs.declared.following.Turn.TheVariants as turns
use Rattle.audit_net.specs.Following.{switch_total, turn}
use Rattle.audit_net.specs.Net.{NetState}

-- ---- the switches that packets come to, this one first, within so many
abbrev pub then_on : (ℕ → List ℕ) → Turn → List ℕ
then_on rest (turns.Goes next) = rest next
then_on rest turned = []

abbrev pub way_within : NetState → (lid count place : ℕ) → List ℕ
way_within net lid zero place = []
way_within net lid (suc count) place = place ∷ then_on (λ next. way_within net lid count next) (turn net lid place)

-- as many as there are: what comes to a switch does so within these, as `src/laws.rt` says
abbrev pub way : NetState → (lid place : ℕ) → List ℕ
way net lid place = way_within net lid (switch_total net) place
