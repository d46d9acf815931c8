-- Which dumps say the same of a fabric, as far as its loads go.
use Rattle.std.specs.Prelude.{ℕ, ◌≡◌, true}
use Rattle.dump_file.specs.Dump.{DumpState}
use Rattle.audit_net.specs.OwnerLaws.{end_port_of}
use Rattle.audit_net.specs.Net.{NetState, entry}
use Rattle.audit_plan.specs.Plan.{PlanState}
use Rattle.topo_file.specs.Node.{is_switch_at}

abbrev pub net_of : PlanState → DumpState → NetState
net_of plan dump = record { plan = plan; dump = dump }

-- each LID has the same entry at each switch, and the same end port. The order of tables, their lines in a text and their tops may
-- differ, and so may rows that add nothing
pub record AreAlike (plan : PlanState) (dump other : DumpState) : Type 0 where
  pub entries : (lid place : ℕ) → is_switch_at plan.nodes place ≡ true → entry (net_of plan dump) lid place ≡ entry (net_of plan other) lid place
  pub ends : (lid : ℕ) → end_port_of (net_of plan dump) lid ≡ end_port_of (net_of plan other) lid
