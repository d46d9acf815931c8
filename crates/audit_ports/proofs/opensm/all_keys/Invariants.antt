use Rattle.std.proofs.Common.{◌≡◌, flat_map, take}
use Rattle.std.specs.Option.{option_to_list}
use Rattle.audit_ports.specs.OpenSm.{opensms_key}
use Rattle.audit_ports.proofs.opensm.all_keys.Given as goal

abbrev pub invariant-loop-partition : goal.invariant-loop-partition
invariant-loop-partition l =
    l.keys.items ≡ flat_map (λ partition. option_to_list (opensms_key l.fn.port partition)) (take l.partition-index l.fn.partitions)
