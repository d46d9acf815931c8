-- By which ports packets of a LID leave switches: those of the switches that they come to along the entries.
use Rattle.std.specs.Prelude.{ℕ, ◌&&◌, Bool}
use Rattle.fabric_parts.specs.declared.cable.PortRef.{PortRef}
use Rattle.audit_net.specs.declared.following.Fate.{Fate}
use Rattle.audit_net.specs.declared.following.Fate.TheVariants as fates
use Rattle.audit_loops.specs.Channels.{leaves_by}
use Rattle.audit_net.specs.Following.{fate}
use Rattle.audit_net.specs.Net.{NetState}
use Rattle.audit_net.specs.Ways.{way}
use Rattle.audit_plan.specs.Plan.{is_on}
use Rattle.audit_routes.specs.Pairs.{is_fate}
use Rattle.audit_routes.specs.Verdict.{is_lost_by}
use Rattle.audit_loads.specs.Sources.{Pair}

-- packets leave by this port: they come to its switch, which forwards the LID out of it. They may come there again and again in
-- a loop, which is the same way
abbrev pub passes : NetState → (lid place : ℕ) → PortRef → Bool
passes net lid place at = is_on at.node (way net lid place) && leaves_by net at lid

-- ---- of a pair
abbrev pub goes_over : NetState → PortRef → Pair → Bool
goes_over net at pair = passes net pair.lid pair.place at

-- what comes of its packets
abbrev pub fate_of : NetState → Pair → Fate
fate_of net pair = fate net pair.lid pair.end pair.place

-- they come to an entry that is not reported
abbrev pub is_unknown : NetState → Pair → Bool
is_unknown net pair = is_fate fates.Unknown (fate_of net pair)

-- or they end elsewhere than at the end port of the LID, or never
abbrev pub is_lost : NetState → Pair → Bool
is_lost net pair = is_lost_by (fate_of net pair)
