-- What entries are, and what comes of packets at a switch, in examples.
use Rattle.std.specs.Prelude.{ℕ, ◌≡◌, true, false, [], ◌∷◌, Some, None}
use Rattle.dump_file.specs.declared.table.Table.{Table}
use Rattle.audit_net.specs.declared.entry.Entry.TheVariants.{Out, Missing, Unreported}
use Rattle.audit_net.specs.Net.{entry, entry_in}
use Rattle.audit_net.specs.SmallNets.{a_hole, a_table, with_entries}
use Rattle.fabric_parts.specs.Cable.{port}
use Rattle.audit_net.specs.declared.following.Fate.TheVariants as fates
use Rattle.audit_net.specs.declared.following.Turn.TheVariants as turns
use Rattle.audit_net.specs.Following.{fate, loop_from, turn}
use Rattle.audit_net.specs.Hosts.{hosts_marks}
use Rattle.audit_net.specs.Ways.{way}

-- ---- entries: 255 leads nowhere, as no row does, except the row of a top that is a multiple of 64
abbrev pub topped : ℕ → Table
topped top = record (a_table 16 1) { top = top }

pub record EntriesAreReported : Type 0 where
  pub there : entry_in 2 1 (a_table 16 254) ≡ Out 254
  pub closed : entry_in 2 1 (a_table 16 255) ≡ Missing
  pub without_row : entry_in 127 2 (topped 64) ≡ Missing
  pub of_many_ports : entry_in 128 2 (topped 64) ≡ Unreported
  pub closed_of_many : entry_in 128 1 (a_table 16 255) ≡ Missing
  pub left_out : entry_in 2 192 (topped 192) ≡ Unreported
  pub above_a_multiple : entry_in 2 193 (topped 193) ≡ Missing
  pub below_the_top : entry_in 2 64 (topped 192) ≡ Missing
  pub without_table : entry a_hole 1 2 ≡ Unreported

-- ---- what comes of a packet to the adapter at a switch, by the entries of both switches
pub record TurnsAreReported : Type 0 where
  pub there : turn (with_entries 1 1) 1 0 ≡ turns.Arrives (port 2 1)
  pub on : turn (with_entries 2 1) 1 0 ≡ turns.Goes 1
  pub at_the_switch : turn (with_entries 0 1) 1 0 ≡ turns.Arrives (port 0 0)
  pub closed : turn (with_entries 1 255) 1 1 ≡ turns.Hole
  pub without_cable : turn (with_entries 1 254) 1 1 ≡ turns.Nowhere 254
  pub not_shown : turn a_hole 1 2 ≡ turns.Unknown

-- ---- what comes of a packet to the adapter from a switch on, be it over both switches
pub record FatesAreReported : Type 0 where
  pub there : fate (with_entries 1 1) 1 (port 2 1) 0 ≡ fates.Reached
  pub over_both : fate (with_entries 1 1) 1 (port 2 1) 1 ≡ fates.Reached
  pub back_over_both : fate (with_entries 2 0) 1 (port 1 0) 0 ≡ fates.Reached
  -- another port of the node, and another node
  pub at_another_port : fate (with_entries 1 1) 1 (port 2 2) 0 ≡ fates.Wrong
  pub at_another_node : fate (with_entries 0 1) 1 (port 2 1) 0 ≡ fates.Wrong
  pub closed : fate (with_entries 2 255) 1 (port 2 1) 0 ≡ fates.Hole
  pub without_cable : fate (with_entries 2 254) 1 (port 2 1) 0 ≡ fates.Nowhere
  pub round : fate (with_entries 2 1) 1 (port 2 1) 0 ≡ fates.Loop
  pub not_shown : fate a_hole 1 (port 2 1) 2 ≡ fates.Unknown

-- ---- the switches of a loop, from the first on and from the second
pub record LoopsAreReported : Type 0 where
  pub from_first : loop_from (with_entries 2 1) 1 0 ≡ Some (0 ∷ 1 ∷ [])
  pub from_second : loop_from (with_entries 2 1) 1 1 ≡ Some (1 ∷ 0 ∷ [])
  pub none : loop_from (with_entries 1 1) 1 1 ≡ None

-- ---- the switches that packets to LID 1 come to: the adapter is attached to the first switch
pub record WaysAreReported : Type 0 where
  pub over_both : way (with_entries 2 0) 1 0 ≡ 0 ∷ 1 ∷ []
  pub one : way (with_entries 1 1) 1 0 ≡ 0 ∷ []
  pub round : way (with_entries 2 1) 1 1 ≡ 1 ∷ 0 ∷ []
  pub of_hosts : hosts_marks (with_entries 2 0) 1 ≡ true ∷ true ∷ false ∷ []
  pub of_hosts_at_one : hosts_marks (with_entries 1 1) 1 ≡ true ∷ false ∷ false ∷ []
