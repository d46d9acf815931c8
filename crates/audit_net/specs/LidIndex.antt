-- How LIDs are looked up: by number. No definition of the subject stands on these.
use Rattle.std.specs.Prelude.{ℕ, ◌≡◌, nat_eq, Bool, List}
use Rattle.indexmap.specs.IndexMap.{IndexMap, get}
use Rattle.indexmap.specs.IndexSet.{IndexSet, contains}
use Rattle.dump_file.specs.declared.row.Row.{Row}
use Rattle.topo_file.specs.Rounds.{is_marked}
use Rattle.audit_plan.specs.declared.ends.LidGuid.{LidGuid}
use Rattle.audit_net.specs.Lids.{has_row, is_named, reported_by}

-- a mark stands where a row names the LID
abbrev pub KnowsNames : List Bool → List Row → Type 0
KnowsNames marks rows = (lid : ℕ) → is_marked marks lid ≡ is_named rows lid

-- the set has the end ports to which rows give LIDs
abbrev pub KnowsRows : {S : Type 0} → IndexSet ℕ S → List Row → Type 0
KnowsRows some rows = (guid : ℕ) → contains nat_eq some guid ≡ has_row rows guid

-- the map has the end port of each LID that one reports to which no row gives a LID
abbrev pub KnowsReported : {S : Type 0} → IndexMap ℕ ℕ S → List Row → List LidGuid → Type 0
KnowsReported reported rows lids = (lid : ℕ) → get nat_eq reported lid ≡ reported_by rows lids lid
