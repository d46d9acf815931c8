-- How many of some pairs go over each channel. A channel is a port of a switch that has a cable to a switch: a direction of a cable.
use Rattle.std.specs.Prelude.{ℕ, ◌*◌, ◌/◌, ◌==◌, nat_lt, List, count_by, length, map, if◌then◌else◌}
use Rattle.std.specs.List.{fold, sum_by}
use Rattle.fabric_parts.specs.declared.cable.PortRef.{PortRef}
use Rattle.audit_loops.specs.Channels.{channels}
use Rattle.audit_net.specs.Net.{NetState}
use Rattle.audit_loads.specs.declared.loaded.Loaded.{Loaded}
use Rattle.audit_loads.specs.Sources.{Pair}
use Rattle.audit_loads.specs.Ways.{goes_over}

abbrev pub load : NetState → List Pair → PortRef → ℕ
load net pairs at = count_by (goes_over net at) pairs

abbrev pub loaded : NetState → List Pair → PortRef → Loaded
loaded net pairs at = record { load = load net pairs at; at = at }

-- in the order of switches, and then of ports
abbrev pub loads : NetState → List Pair → List Loaded
loads net pairs = map (loaded net pairs) (channels net)

-- ---- the greatest load, the least, and the sum
abbrev pub greater : ℕ → Loaded → ℕ
greater most one = if nat_lt most one.load then one.load else most

abbrev pub lesser : ℕ → Loaded → ℕ
lesser least one = if nat_lt one.load least then one.load else least

abbrev pub most_of : List Loaded → ℕ
most_of all = fold greater 0 all

abbrev pub least_of : List Loaded → ℕ
least_of all = fold lesser (most_of all) all

abbrev pub total_of : List Loaded → ℕ
total_of all = sum_by (λ one. one.load) all

-- in hundredths, rounded down
abbrev pub mean_of : List Loaded → ℕ
mean_of all = total_of all * 100 / length all

-- how many times the mean the greatest is, in hundredths, rounded down; 0 if there is no load
abbrev pub ratio_of : List Loaded → ℕ
ratio_of all = if total_of all == 0 then 0 else most_of all * length all * 100 / total_of all
