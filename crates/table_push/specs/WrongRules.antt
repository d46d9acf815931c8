-- A wrong rule for what a port takes of a Set of PortInfo, and the law that it breaks.
use Rattle.std.specs.Prelude.{ℕ, ◌==◌, ◌&&◌, if◌then◌else◌, List, Result, Ok, Err}
use Rattle.std.specs.Str.{bytes_eq}
use Rattle.attr_tables.specs.declared.smp_attribute.SmpAttribute.TheVariants.{PortInfo as PortInfoAsked}
use Rattle.mad_layout.specs.Bits.{field, put_field}
use Rattle.table_push.specs.Fault.{compared}
use Rattle.table_push.specs.declared.fault.PushFault.{PushFault}
use Rattle.table_push.specs.declared.fault.PushFault.TheVariants.{NotAsSet}
use Rattle.table_push.specs.declared.fault.Taken.{Taken}
use Rattle.table_push.specs.declared.fault.Taken.TheVariants.{AsSet, NotEnforcing}

-- a port counts that does not enforce partitions inbound, and does outbound
abbrev pub one_bit_counts : List ℕ → List ℕ → Result Taken PushFault
one_bit_counts wanted reported =
    if bytes_eq (compared PortInfoAsked wanted reported) wanted then Ok AsSet
    else (if (field wanted 348 2 == 3) && bytes_eq (compared PortInfoAsked wanted reported) (put_field wanted 348 1 0)
    then Ok NotEnforcing else Err NotAsSet)
