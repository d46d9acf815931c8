-- Channels, by ports.
use Rattle.std.proofs.Common.{◌≡◌, refl, ℕ, zero, suc, ◌+◌, inl, inr, map, filter, flat_map}
use Rattle.std.specs.List.{range_with_len}
use Rattle.std.proofs.lemmas.Bool.{cases_Bool}
use Rattle.fabric_parts.specs.Cable.{port}
use Rattle.audit_loops.specs.Channels.{is_channel}
use Rattle.audit_net.specs.Net.{NetState}
use Rattle.audit_loops.specs.Waits.{channel_behind}

-- ---- channels by ports
behind_by : (net : NetState) (place low many : ℕ) → flat_map (channel_behind net place) (range_with_len low many) ≡ filter (is_channel net) (map (port place) (range_with_len (low + 1) many))
behind_by net place low zero = refl
behind_by net place low (suc many) = elim (cases_Bool (is_channel net (port place (low + 1)))) [
  | inl here ↦ rw (here, behind_by net place (low + 1) many) refl
  | inr other ↦ rw (other, behind_by net place (low + 1) many) refl
]

pub all_behind : (net : NetState) (place many : ℕ) → flat_map (channel_behind net place) (range_with_len 0 many) ≡ filter (is_channel net) (map (port place) (range_with_len 1 many))
all_behind net place many = behind_by net place 0 many
