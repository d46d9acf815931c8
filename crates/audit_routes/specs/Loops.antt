-- The credit loops of a fabric: that which decides, and those that decide nothing.
use Rattle.std.specs.Prelude.{ℕ, ◌+◌, ◌&&◌, ◌||◌, nat_lt, Bool, not, List, filter, find, get_or, length, map, if◌then◌else◌, Option, Some, None}
use Rattle.fabric_parts.specs.Cable.{port}
use Rattle.fabric_parts.specs.declared.cable.PortRef.{PortRef}
use Rattle.audit_net.specs.Hosts.{hosts_come}
use Rattle.audit_net.specs.Net.{NetState}
use Rattle.audit_loops.specs.Channels.{deadlock, deadlock_on, leaves_by}
use Rattle.audit_loops.specs.Courses.{CourseState, everywhere, from_hosts}
use Rattle.audit_net.specs.declared.lids.Aim.{Aim}
use Rattle.audit_routes.specs.Verdict.{is_aggregations, is_others}

abbrev pub lids_of : List Aim → List ℕ
lids_of all = map (λ aim. aim.lid) all

-- ---- a LID counts at all switches, except that of an aggregation node: it counts at those that packets of hosts come to
abbrev pub course_of : NetState → Aim → CourseState
course_of net aim = if is_aggregations net aim then from_hosts net aim.lid else everywhere aim.lid

abbrev pub courses_of : NetState → List Aim → List CourseState
courses_of net all = map (course_of net) all

-- ---- the cycle that decides: along all LIDs but the switches' own, each where it counts
abbrev pub credit_loop : NetState → List Aim → Option (List PortRef)
credit_loop net all = deadlock_on net (courses_of net (filter (is_others net) all))

-- if there is none: along the same LIDs, of which each counts everywhere
abbrev pub if_none : {X : Type 0} → Option X → Option X → Option X
if_none None other = other
if_none (Some x) other = None

abbrev pub aggregation_credit_loop : NetState → List Aim → Option (List PortRef)
aggregation_credit_loop net all = if_none (credit_loop net all) (deadlock net (lids_of (filter (is_others net) all)))

-- and if there is neither: along all LIDs
abbrev pub switches_credit_loop : NetState → List Aim → Option (List PortRef)
switches_credit_loop net all = if_none (credit_loop net all) (if_none (aggregation_credit_loop net all) (deadlock net (lids_of all)))

-- what was found
pub record LoopsState : Type 0 where
  pub deciding : Option (List PortRef)
  pub aggregation : Option (List PortRef)
  pub switches : Option (List PortRef)

abbrev pub loops_of : NetState → List Aim → LoopsState
loops_of net all = record {
  deciding = credit_loop net all;
  aggregation = aggregation_credit_loop net all;
  switches = switches_credit_loop net all;
}

-- ---- the LID by which a channel of a cycle waits for the one behind it, the last for the first: the first of these that leaves
-- by the one, and by the other, and counts there, if the cycle is the one that decides
abbrev pub behind : List PortRef → ℕ → PortRef
behind ring index = get_or ring (if nat_lt (index + 1) (length ring) then index + 1 else 0) (port 0 0)

abbrev pub leaves_by_both : NetState → PortRef → PortRef → Aim → Bool
leaves_by_both net a b aim = leaves_by net a aim.lid && leaves_by net b aim.lid

abbrev pub counts_at : NetState → ℕ → Aim → Bool
counts_at net place aim = not (is_aggregations net aim) || hosts_come net aim.lid place

abbrev pub closes : NetState → (decides : Bool) → PortRef → PortRef → Aim → Bool
closes net decides a b aim = leaves_by_both net a b aim && (not decides || counts_at net a.node aim)

abbrev pub closing : NetState → (decides : Bool) → List Aim → List PortRef → ℕ → Option Aim
closing net decides all ring index = find (closes net decides (get_or ring index (port 0 0)) (behind ring index)) all
