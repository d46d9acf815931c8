-- Between which ports packets go: between those that may talk, which share a partition (IBA volume 1, 14.2.5.7), or between all.
use Rattle.std.specs.Prelude.{Bool, true, ℕ, List, [], find, Option, Some, None}
use Rattle.std.specs.Option.{option_map_or}
use Rattle.fabric_parts.specs.Cable.{is_same_port}
use Rattle.fabric_parts.specs.declared.cable.PortRef.{PortRef}
use Rattle.pkey_rules.specs.KeyTable.{shares}
use Rattle.audit_loads.specs.declared.talk.PortKeys.{PortKeys}

-- the P_Keys of a port, if the list has it: those that stand first
abbrev pub keys_at : List PortKeys → PortRef → List ℕ
keys_at ports at = option_map_or (λ one. one.keys) (find (λ one. is_same_port one.at at) ports) []

-- without a list all ports talk to one another
abbrev pub may_talk : Option (List PortKeys) → (source end : PortRef) → Bool
may_talk None source end = true
may_talk (Some ports) source end = shares (keys_at ports source) (keys_at ports end)
