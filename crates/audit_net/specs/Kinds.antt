-- How it is found whose rows say that a LID is of another kind: by a mark for each LID. No definition of the subject stands
-- on these.
use Rattle.std.specs.Prelude.{ℕ, ◌≡◌, ◌==◌, ◌&&◌, Bool, not, List}
use Rattle.std.specs.List.{list_any}
use Rattle.dump_file.specs.declared.row.Row.{Row}
use Rattle.topo_file.specs.Connectivity.{switches}
use Rattle.topo_file.specs.Rounds.{is_marked}
use Rattle.audit_net.specs.Lids.{is_of_kind, says_kind}
use Rattle.audit_net.specs.Net.{NetState}

-- the row is of this LID and says that it is of another kind than a switch's, or than another end port's
abbrev pub says_other : Bool → ℕ → Row → Bool
says_other of_switch lid row = (row.lid == lid) && not (is_of_kind of_switch row.destination)

abbrev pub KnowsOthers : NetState → Bool → List Bool → Type 0
KnowsOthers net of_switch marks = (lid : ℕ) → is_marked marks lid ≡ list_any (λ place. not (says_kind net lid of_switch place)) (switches net.plan.nodes)
