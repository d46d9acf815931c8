-- What is known of a port that counts as one that does not enforce partitions.
use Rattle.std.specs.Prelude.{ℕ, ◌≡◌, ◌+◌, ◌≤◌, ◌⊎◌, List, length, Result, Ok}
use Rattle.mad_layout.specs.Bits.{field}
use Rattle.table_push.specs.declared.fault.PushFault.{PushFault}
use Rattle.table_push.specs.declared.fault.Taken.{Taken}
use Rattle.table_push.specs.declared.fault.Taken.TheVariants.{NotEnforcing}

-- by a rule that says what a port takes of a Set of PortInfo: both enforcement bits were set, the port reports both as 0, and all
-- else but PortState as it was set
abbrev pub OnlySuchPortsCount : (List ℕ → List ℕ → Result Taken PushFault) → Type 0
OnlySuchPortsCount rule =
    (wanted reported : List ℕ) → length wanted ≡ 64 → length reported ≡ 64 → rule wanted reported ≡ Ok NotEnforcing
    → (field wanted 348 2 ≡ 3) × (field reported 348 2 ≡ 0)
    × ((off len : ℕ) → off + len ≤ 512 → (off + len ≤ 260) ⊎ (264 ≤ off) → (off + len ≤ 348) ⊎ (350 ≤ off) → field reported off len ≡ field wanted off len)
