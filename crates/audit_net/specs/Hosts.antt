-- The switches that packets of hosts come to.
use Rattle.std.specs.Prelude.{ℕ, ◌&&◌, Bool, List, length, map}
use Rattle.std.specs.List.{list_any, range_with_len}
use Rattle.topo_file.specs.Connectivity.{switches}
use Rattle.audit_plan.specs.Attached.{carries_host}
use Rattle.audit_net.specs.Net.{NetState}
use Rattle.audit_plan.specs.Plan.{is_on}
use Rattle.audit_net.specs.Ways.{way}

-- packets to the LID come there from this switch, to which a host is attached
abbrev pub host_comes : NetState → (lid there from : ℕ) → Bool
host_comes net lid there from = carries_host net.plan from && is_on there (way net lid from)

-- from some switch
abbrev pub hosts_come : NetState → (lid there : ℕ) → Bool
hosts_come net lid there = list_any (host_comes net lid there) (switches net.plan.nodes)

-- a mark for each node
abbrev pub hosts_marks : NetState → (lid : ℕ) → List Bool
hosts_marks net lid = map (hosts_come net lid) (range_with_len 0 (length net.plan.nodes))
