-- How many pairs there are, how many of these are lost, and of how many it is unknown whether they are.
use Rattle.std.specs.Prelude.{ℕ, ◌+◌, List, count_by, length, if◌then◌else◌}
use Rattle.audit_net.specs.declared.following.Fate.{Fate}
use Rattle.audit_net.specs.declared.following.Fate.TheVariants as fates
use Rattle.audit_net.specs.Net.{NetState}
use Rattle.audit_routes.specs.Pairs.{is_fate}
use Rattle.audit_routes.specs.Verdict.{is_lost_by}
use Rattle.audit_loads.specs.declared.counting.Counts.{Counts}
use Rattle.audit_loads.specs.Sources.{Pair}
use Rattle.audit_loads.specs.Ways.{is_lost, is_unknown}

abbrev pub counts_of : NetState → List Pair → Counts
counts_of net pairs = record { pairs = length pairs; lost = count_by (is_lost net) pairs; unknown = count_by (is_unknown net) pairs }

-- ---- steps of the code
abbrev pub plus : Counts → Counts → Counts
plus a b = record { pairs = a.pairs + b.pairs; lost = a.lost + b.lost; unknown = a.unknown + b.unknown }

-- of so many pairs from one switch to one LID all have one fate
abbrev pub counted_by : Fate → (count : ℕ) → Counts
counted_by found count = record {
  pairs = count;
  lost = if is_lost_by found then count else 0;
  unknown = if is_fate fates.Unknown found then count else 0;
}
