-- LIDs by the order of GUIDs.
use Rattle.std.specs.Prelude.{ℕ, ◌≡◌, ◌≤◌, ◌&&◌, not, List, count_by, length, nat_lt}
use Rattle.pkey_rules.specs.declared.end_port.EndPort.{EndPort}

-- as many of these GUIDs are below any other as of the ports that are not the SM's
pub record AreGuidsOf (ports : List EndPort) (guids : List ℕ) : Type 0 where
  pub below : (guid : ℕ) → count_by (λ other. nat_lt other guid) guids ≡ count_by (λ other. not other.is_sm && nat_lt other.guid guid) ports
  pub few : length guids ≤ length ports
