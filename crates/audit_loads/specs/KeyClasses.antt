-- Which P_Key table each port has, looked up: a step of the code, on which no definition of the subject stands. Each different table
-- is kept once, and the class of a port is the place of its table. Classes stand at the places of the sums of `Walk.antt`.
use Rattle.std.specs.Prelude.{ℕ, ◌≡◌, ◌+◌, ◌*◌, ◌<◌, Bool, List, get_or, map, slice_get, Option, Some, None, IfSome}
use Rattle.std.specs.Option.{option_and_then}
use Rattle.fabric_parts.specs.declared.cable.PortRef.{PortRef}
use Rattle.pkey_rules.specs.KeyTable.{shares}
use Rattle.audit_loads.specs.declared.talk.PortKeys.{PortKeys}
use Rattle.audit_loads.specs.Talk.{keys_at}

abbrev pub class_at : List (Option ℕ) → PortRef → Option ℕ
class_at classes at = get_or classes (at.node * 256 + at.port) None

-- a port that has a class has the table at its place
abbrev pub KnowsClasses : (tables : List (List ℕ)) → (classes : List (Option ℕ)) → List PortKeys → Type 0
KnowsClasses tables classes ports =
    (at : PortRef) → at.port < 256 → IfSome (class_at classes at) (λ class. slice_get tables class ≡ Some (keys_at ports at))

-- ---- with which tables each of them shares a partition
abbrev pub row_of : List (List ℕ) → List ℕ → List Bool
row_of tables keys = map (shares keys) tables

abbrev pub rows_of : List (List ℕ) → List (List Bool)
rows_of tables = map (row_of tables) tables

abbrev pub shared_at : List (List Bool) → (one other : ℕ) → Option Bool
shared_at rows one other = option_and_then (λ row. slice_get row other) (slice_get rows one)
