-- Whose a LID is: the statements of the laws of `src/owner_laws.rt`.
use Rattle.std.specs.Prelude.{ℕ, ◌≡◌, ◌<◌, ◌⊎◌, true, Option, Some, None, is_some}
use Rattle.std.specs.List.{list_any}
use Rattle.dump_file.specs.Row.{end_of}
use Rattle.dump_file.specs.Table.{rows_of}
use Rattle.fabric_parts.specs.declared.cable.PortRef.{PortRef}
use Rattle.audit_net.specs.Lids.{aim_of, owner_of}
use Rattle.audit_net.specs.Net.{NetState}
use Rattle.audit_plan.specs.Laws.{is_of_port}

-- ---- whose a LID is
-- if no row says whose it is: an end port that reports it, to which no row gives another LID
abbrev pub IsFree : NetState → (lid guid : ℕ) → Type 0
IsFree net lid guid =
    (list_any (is_of_port lid guid) net.plan.lids ≡ true) × (end_of lid (rows_of net.dump.tables) ≡ None)
    × ((other : ℕ) → other < 65536 → end_of other (rows_of net.dump.tables) ≡ Some guid → ⊥)

-- what a row says counts, and what is reported if no row speaks
pub record RowsComeFirst (owner : NetState → ℕ → Option ℕ) : Type 0 where
  pub said : (net : NetState) (lid guid : ℕ) → end_of lid (rows_of net.dump.tables) ≡ Some guid → owner net lid ≡ Some guid
  pub free : (net : NetState) (lid guid : ℕ) → owner net lid ≡ Some guid → (end_of lid (rows_of net.dump.tables) ≡ Some guid) ⊎ IsFree net lid guid
  pub some : (net : NetState) (lid guid : ℕ) → IsFree net lid guid → is_some (owner net lid) ≡ true

abbrev pub OwnersAreFound : Type 0
OwnersAreFound = RowsComeFirst owner_of

-- ---- what is wrong has its line
-- the end port that the dump and the fabric give a LID
abbrev pub end_port_of : NetState → ℕ → Option PortRef
end_port_of net lid = (aim_of net lid).end
