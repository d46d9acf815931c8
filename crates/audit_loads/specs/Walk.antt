-- How the loads are added up: a step of the code, on which no definition of the subject stands. The sums of all ports are one list,
-- in which each node has 256; a walk stamps the nodes that it comes to.
use Rattle.std.specs.Prelude.{ℕ, ◌≡◌, ◌+◌, ◌*◌, ◌<◌, ◌==◌, ◌&&◌, Bool, false, List, count_by, get_or, length, if◌then◌else◌, Option, Some, None}
use Rattle.fabric_parts.specs.Cable.{port}
use Rattle.fabric_parts.specs.declared.cable.PortRef.{PortRef}
use Rattle.audit_net.specs.declared.entry.Entry.{Entry}
use Rattle.audit_loops.specs.Channels.{is_out}
use Rattle.audit_net.specs.Net.{NetState}
use Rattle.audit_plan.specs.Plan.{is_host}
use Rattle.audit_net.specs.declared.lids.Aim.{Aim}
use Rattle.audit_loads.specs.declared.loads.Target.{Target}
use Rattle.audit_loads.specs.Sources.{Pair, sends}
use Rattle.audit_loads.specs.Ways.{goes_over, passes}

-- ---- sums
abbrev pub sum_at : List ℕ → (place number : ℕ) → ℕ
sum_at sums place number = get_or sums (place * 256 + number) 0

-- each grows by this much
pub record GrowBy (amount : (place number : ℕ) → ℕ) (before after : List ℕ) : Type 0 where
  pub long : length after ≡ length before
  pub each : (place number : ℕ) → place * 256 + number < length before → number < 256
      → sum_at after place number ≡ sum_at before place number + amount place number

-- that of this port alone
abbrev pub at_port : (there by weight : ℕ) → (place number : ℕ) → ℕ
at_port there by weight place number = if (there == place) && (by == number) then weight else 0

-- that of the port by which the switch there forwards the LID
abbrev pub at_entry : Entry → (there weight : ℕ) → (place number : ℕ) → ℕ
at_entry entry there weight place number = if (there == place) && is_out number entry then weight else 0

-- those of the ports by which packets leave on their way
abbrev pub on_way : NetState → (lid start weight : ℕ) → (place number : ℕ) → ℕ
on_way net lid start weight place number = if passes net lid start (port place number) then weight else 0

-- for each of these pairs
abbrev pub of_pairs : NetState → List Pair → (place number : ℕ) → ℕ
of_pairs net pairs place number = count_by (goes_over net (port place number)) pairs

-- they are those of these pairs
abbrev pub AreSums : NetState → List Pair → List ℕ → Type 0
AreSums net pairs sums = (place number : ℕ) → number < 256 → sum_at sums place number ≡ of_pairs net pairs place number

-- of the ports that have a place
pub record HasSums (net : NetState) (pairs : List Pair) (sums : List ℕ) : Type 0 where
  pub long : length sums ≡ length net.plan.nodes * 256
  pub each : (place number : ℕ) → place * 256 + number < length sums → number < 256 → sum_at sums place number ≡ of_pairs net pairs place number

-- ---- stamps
abbrev pub is_stamped : List ℕ → (stamp place : ℕ) → Bool
is_stamped marks stamp place = get_or marks place 0 == stamp

-- no node has a stamp above this one
abbrev pub AreBelow : ℕ → List ℕ → Type 0
AreBelow stamp marks = (other place : ℕ) → stamp < other → is_stamped marks other place ≡ false

-- ---- how many of these ports send to one
abbrev pub senders : (talk : PortRef → PortRef → Bool) → (end : PortRef) → List PortRef → ℕ
senders talk end ports = count_by (λ source. sends talk source end) ports

-- ---- the LID of a host's port
abbrev pub target_if : NetState → (lid : ℕ) → Option PortRef → Option Target
target_if net lid (Some end) = if is_host net.plan end.node then Some (record { lid = lid; end = end }) else None
target_if net lid None = None

abbrev pub target_of : NetState → Aim → Option Target
target_of net aim = target_if net aim.lid aim.end
