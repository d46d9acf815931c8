-- Why a push stops: the codes that are printed, and what the reply to a Set means.
use Rattle.std.specs.Prelude.{ℕ, ◌==◌, ◌&&◌, if◌then◌else◌, List, codes, Result, Ok, Err}
use Rattle.std.specs.Str.{bytes_eq}
use Rattle.mad_layout.specs.Bits.{field, put_field}
use Rattle.attr_tables.specs.PortState.{port_state_code}
use Rattle.attr_tables.specs.declared.port_state.PortState.TheVariants.{NoChange}
use Rattle.attr_tables.specs.declared.smp_attribute.SmpAttribute.{SmpAttribute}
use Rattle.attr_tables.specs.declared.smp_attribute.SmpAttribute.TheVariants as attribute
use Rattle.smp_wire.specs.declared.reply.ReplyFault.{ReplyFault}
use Rattle.smp_wire.specs.declared.reply.ReplyFault.TheVariants as reply
use Rattle.table_push.specs.declared.fault.PushFault.{PushFault}
use Rattle.table_push.specs.declared.fault.PushFault.TheVariants.{NoReply, Refused, NotAsSet}
use Rattle.table_push.specs.declared.fault.Taken.{Taken}
use Rattle.table_push.specs.declared.fault.Taken.TheVariants.{AsSet, NotEnforcing}

abbrev pub code_of : PushFault → List ℕ
code_of NoReply = codes "TP1"
code_of Refused = codes "TP2"
code_of NotAsSet = codes "TP3"

-- a reply of another request reports of nothing that was set
abbrev pub fault_of : ReplyFault → PushFault
fault_of reply.NoReply = NoReply
fault_of reply.Refused = Refused
fault_of reply.WrongReply = NotAsSet

-- what was reported, with what a push stops with in place of the fault
abbrev pub heard : {X : Type 0} → Result X ReplyFault → Result X PushFault
heard (Ok x) = Ok x
heard (Err fault) = Err (fault_of fault)

-- PortState of PortInfo (14.2.5.6), 0 if no change of it is asked
abbrev pub state_of : List ℕ → ℕ
state_of bytes = field bytes 260 4

abbrev pub without_state : List ℕ → List ℕ
without_state bytes = put_field bytes 260 4 (port_state_code NoChange)

-- PortStateChange of SwitchInfo (chapter 14) as it was set: a switch clears it if 1 is written, and sets it if a port of it
-- changes its state
abbrev pub with_state_change : List ℕ → List ℕ → List ℕ
with_state_change wanted reported = put_field reported 93 1 (field wanted 93 1)

-- what of the bytes that a reply carries is compared: a state that was not asked for is ignored, and PortStateChange
-- never counts
unfoldable pub compared : SmpAttribute → List ℕ → List ℕ → List ℕ
compared attribute.PortInfo wanted reported = if state_of wanted == port_state_code NoChange then without_state reported else reported
compared attribute.NodeDescription wanted reported = reported
compared attribute.NodeInfo wanted reported = reported
compared attribute.SwitchInfo wanted reported = with_state_change wanted reported
compared attribute.PKeyTable wanted reported = reported
compared attribute.LinearForwardingTable wanted reported = reported
compared attribute.MulticastForwardingTable wanted reported = reported

-- what the reply to a Set to these bytes means: nothing came; a status other than 0; of another request, or not what
-- was set; or it is set
abbrev pub as_set : SmpAttribute → List ℕ → List ℕ → Result (Unit {0}) PushFault
as_set attribute wanted reported = if bytes_eq (compared attribute wanted reported) wanted then Ok tt else Err NotAsSet

abbrev pub meaning : SmpAttribute → List ℕ → Result (List ℕ) ReplyFault → Result (Unit {0}) PushFault
meaning attribute wanted (Err fault) = Err (fault_of fault)
meaning attribute wanted (Ok reported) = as_set attribute wanted reported

-- ---- ports that do not enforce partitions
-- PartitionEnforcementInbound and PartitionEnforcementOutbound of PortInfo (14.2.5.6), both 0
abbrev pub without_enforcement : List ℕ → List ℕ
without_enforcement bytes = put_field bytes 348 2 0

-- what a port takes of a Set of PortInfo, by what it reports then: all; or all but that it enforces partitions both ways. A
-- port that takes one of the two bits alone is at fault
abbrev pub taken_of : List ℕ → List ℕ → Result Taken PushFault
taken_of wanted reported =
    if bytes_eq (compared attribute.PortInfo wanted reported) wanted then Ok AsSet
    else (if (field wanted 348 2 == 3) && bytes_eq (compared attribute.PortInfo wanted reported) (without_enforcement wanted)
    then Ok NotEnforcing else Err NotAsSet)

-- what it takes, if an agent that refused the Set reports this to a Get: it may have carried out that Set before, and the reply
-- was lost
abbrev pub or_refused : Result Taken PushFault → Result Taken PushFault
or_refused (Ok taken) = Ok taken
or_refused (Err fault) = Err Refused

abbrev pub taken_after_refusal : List ℕ → Result (List ℕ) ReplyFault → Result Taken PushFault
taken_after_refusal wanted (Ok held) = or_refused (taken_of wanted held)
taken_after_refusal wanted (Err fault) = Err Refused

-- how many ports that do not enforce that makes
abbrev pub count_of : Taken → ℕ
count_of AsSet = 0
count_of NotEnforcing = 1

-- the same if the port has to enforce: it is at fault if it does not
abbrev pub all_taken : Result Taken PushFault → Result (Unit {0}) PushFault
all_taken (Ok AsSet) = Ok tt
all_taken (Ok NotEnforcing) = Err NotAsSet
all_taken (Err fault) = Err fault

-- and of a number of ports that do not
abbrev pub all_enforce : Result ℕ PushFault → Result (Unit {0}) PushFault
all_enforce (Ok count) = if count == 0 then Ok tt else Err NotAsSet
all_enforce (Err fault) = Err fault
