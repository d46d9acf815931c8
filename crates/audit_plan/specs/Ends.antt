-- How end ports are looked up: by GUID, in a map. No definition of the subject stands on these.
use Rattle.std.specs.Prelude.{ℕ, ◌≡◌, nat_eq, List}
use Rattle.indexmap.specs.IndexMap.{IndexMap, get}
use Rattle.fabric_parts.specs.declared.cable.PortRef.{PortRef}
use Rattle.audit_plan.specs.declared.ends.EndGuid.{EndGuid}
use Rattle.audit_plan.specs.Plan.{port_of}

-- the map has the end port of each GUID that is one's
abbrev pub KnowsEnds : {S : Type 0} → IndexMap ℕ PortRef S → List EndGuid → Type 0
KnowsEnds ports ends = (guid : ℕ) → get nat_eq ports guid ≡ port_of ends guid
