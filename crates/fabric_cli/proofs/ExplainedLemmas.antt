-- Each code that the program prints is explained.
use Rattle.std.proofs.Common.{ℕ, ◌≡◌, List, codes, refl, Some, true}
use Rattle.code_texts.specs.Codes.{spelling, code_of}
use Rattle.code_texts.specs.Texts.{begins_with}
use Rattle.code_texts.specs.declared.code.Code.{Code}
use Rattle.code_texts.specs.declared.code.Code.TheVariants as code
use Rattle.code_texts.proofs.TextLemmas.{begins_with_code}
use Rattle.topo_file.specs.Fault.{code_of as topology_code}
use Rattle.topo_file.specs.declared.fault.TopologyCause.{TopologyCause}
use Rattle.topo_file.specs.declared.fault.TopologyCause.TheVariants as topology
use Rattle.partition_file.specs.Fault.{code_of as partitions_code}
use Rattle.partition_file.specs.declared.fault.PartitionCause.{PartitionCause}
use Rattle.partition_file.specs.declared.fault.PartitionCause.TheVariants as partitions
use Rattle.script_lines.specs.ScriptCause.{code_of as script_code}
use Rattle.script_lines.specs.declared.script_cause.ScriptCause.{ScriptCause}
use Rattle.script_lines.specs.declared.script_cause.ScriptCause.TheVariants as script
use Rattle.subnet_core.specs.declared.fault.RunFault.{RunFault}
use Rattle.subnet_core.specs.declared.fault.RunFault.TheVariants as run
use Rattle.sweep.specs.declared.fault.SweepFault.{SweepFault}
use Rattle.sweep.specs.declared.fault.SweepFault.TheVariants as sweep
use Rattle.table_push.specs.declared.fault.PushFault.{PushFault}
use Rattle.table_push.specs.declared.fault.PushFault.TheVariants as push
use Rattle.data_packet.specs.Refusal.{code_of as refusal_code}
use Rattle.data_packet.specs.declared.refusal.Refusal.{Refusal}
use Rattle.data_packet.specs.declared.refusal.Refusal.TheVariants as refusal
use Rattle.fabric_cli.specs.Explained.{IsExplained, NamesCode, ReportsCode, reported_word}
use Rattle.dump_file.specs.declared.fault.DumpCause.{DumpCause}
use Rattle.dump_file.specs.declared.fault.DumpCause.TheVariants as dump
use Rattle.pkeys_file.specs.declared.fault.KeysCause.{KeysCause}
use Rattle.pkeys_file.specs.declared.fault.KeysCause.TheVariants as keys
use Rattle.netdiscover_file.specs.declared.fault.DiscoveryCause.{DiscoveryCause}
use Rattle.netdiscover_file.specs.declared.fault.DiscoveryCause.TheVariants as discovery
use Rattle.topology_import.specs.declared.fault.ImportCause.TheVariants as import
use Rattle.mft_file.specs.declared.fault.MftCause.{MftCause}
use Rattle.mft_file.specs.declared.fault.MftCause.TheVariants as mfts
use Rattle.sl2vl_file.specs.declared.fault.LanesCause.{LanesCause}
use Rattle.sl2vl_file.specs.declared.fault.LanesCause.TheVariants as lanes
use Rattle.fabric_cli.specs.declared.faults.ForeignCause.{ForeignCause}
use Rattle.fabric_cli.specs.declared.faults.ForeignCause.TheVariants.{Discovery, Dump, Import, Keys, Lanes, Masks, Replies, Smps}
use Rattle.fabric_cli.specs.Faults.{foreign_line, managed_line, partitions_line, port_line, run_line, script_line, second_line, second_script_line, topology_line}
use Rattle.fabric_cli.specs.declared.faults.Stop.{Stop}
use Rattle.fabric_cli.specs.declared.faults.Stop.TheVariants.{Words, NoMemory, Unread, Unwritten, Run, Second, Unmanaged, Unheard, Unsent, Foreign}

explained_as : (c : Code) → code_of (spelling c) ≡ Some c → IsExplained (spelling c)
explained_as c read = record { code = c; read = read; begins = begins_with_code c }

-- a line with this code behind `fault `, and a blank behind that
reported_as : (c : Code) (line : List ℕ) → begins_with (codes "fault ") line ≡ true → reported_word line ≡ spelling c → code_of (spelling c) ≡ Some c → ReportsCode line
reported_as c line begins word read = record { begins = begins; explained = rw word (explained_as c read) }

topology_reported : (cause : TopologyCause) (number : ℕ) → ReportsCode (topology_line (topology_code cause) number)
topology_reported topology.Malformed number = reported_as code.Tf1 _ refl refl refl
topology_reported topology.DuplicateName number = reported_as code.Tf2 _ refl refl refl
topology_reported topology.DuplicateGuid number = reported_as code.Tf3 _ refl refl refl
topology_reported topology.UnknownNode number = reported_as code.Tf4 _ refl refl refl
topology_reported topology.NoSuchPort number = reported_as code.Tf5 _ refl refl refl
topology_reported topology.PortTaken number = reported_as code.Tf6 _ refl refl refl
topology_reported topology.WrongCableEnds number = reported_as code.Tf7 _ refl refl refl
topology_reported topology.WrongManager number = reported_as code.Tf8 _ refl refl refl
topology_reported topology.Disconnected number = reported_as code.Tf9 _ refl refl refl
topology_reported topology.OverLimit number = reported_as code.Tf10 _ refl refl refl
topology_reported topology.ManagerUncabled number = reported_as code.Tf11 _ refl refl refl
topology_reported topology.RootNotSwitch number = reported_as code.Tf12 _ refl refl refl

partitions_reported : (cause : PartitionCause) (number : ℕ) → ReportsCode (partitions_line (partitions_code cause) number)
partitions_reported partitions.BadCharacter number = reported_as code.Pf1 _ refl refl refl
partitions_reported partitions.BadNumber number = reported_as code.Pf2 _ refl refl refl
partitions_reported partitions.ReservedKey number = reported_as code.Pf3 _ refl refl refl
partitions_reported partitions.UnknownFlag number = reported_as code.Pf4 _ refl refl refl
partitions_reported partitions.BothMembership number = reported_as code.Pf5 _ refl refl refl
partitions_reported partitions.MgidItem number = reported_as code.Pf6 _ refl refl refl
partitions_reported partitions.TooManyPartitions number = reported_as code.Pf7 _ refl refl refl
partitions_reported partitions.Unfinished number = reported_as code.Pf8 _ refl refl refl
partitions_reported partitions.BadFlagValue number = reported_as code.Pf9 _ refl refl refl

second_reported : (cause : PartitionCause) (number : ℕ) → ReportsCode (second_line (partitions_code cause) number)
second_reported partitions.BadCharacter number = reported_as code.Pf1 _ refl refl refl
second_reported partitions.BadNumber number = reported_as code.Pf2 _ refl refl refl
second_reported partitions.ReservedKey number = reported_as code.Pf3 _ refl refl refl
second_reported partitions.UnknownFlag number = reported_as code.Pf4 _ refl refl refl
second_reported partitions.BothMembership number = reported_as code.Pf5 _ refl refl refl
second_reported partitions.MgidItem number = reported_as code.Pf6 _ refl refl refl
second_reported partitions.TooManyPartitions number = reported_as code.Pf7 _ refl refl refl
second_reported partitions.Unfinished number = reported_as code.Pf8 _ refl refl refl
second_reported partitions.BadFlagValue number = reported_as code.Pf9 _ refl refl refl

script_reported : (cause : ScriptCause) (number : ℕ) → ReportsCode (script_line (script_code cause) number)
script_reported script.Malformed number = reported_as code.Sf1 _ refl refl refl
script_reported script.UnknownPort number = reported_as code.Sf2 _ refl refl refl
script_reported script.ManagerPort number = reported_as code.Sf3 _ refl refl refl
script_reported script.UncabledPort number = reported_as code.Sf4 _ refl refl refl
script_reported script.PayloadTooLong number = reported_as code.Sf5 _ refl refl refl
script_reported script.BadField number = reported_as code.Sf6 _ refl refl refl
script_reported script.UnknownCable number = reported_as code.Sf7 _ refl refl refl

second_script_reported : (cause : ScriptCause) (number : ℕ) → ReportsCode (second_script_line (script_code cause) number)
second_script_reported script.Malformed number = reported_as code.Sf1 _ refl refl refl
second_script_reported script.UnknownPort number = reported_as code.Sf2 _ refl refl refl
second_script_reported script.ManagerPort number = reported_as code.Sf3 _ refl refl refl
second_script_reported script.UncabledPort number = reported_as code.Sf4 _ refl refl refl
second_script_reported script.PayloadTooLong number = reported_as code.Sf5 _ refl refl refl
second_script_reported script.BadField number = reported_as code.Sf6 _ refl refl refl
second_script_reported script.UnknownCable number = reported_as code.Sf7 _ refl refl refl

port_reported : (cause : ScriptCause) → ReportsCode (port_line (script_code cause))
port_reported script.Malformed = reported_as code.Sf1 _ refl refl refl
port_reported script.UnknownPort = reported_as code.Sf2 _ refl refl refl
port_reported script.ManagerPort = reported_as code.Sf3 _ refl refl refl
port_reported script.UncabledPort = reported_as code.Sf4 _ refl refl refl
port_reported script.PayloadTooLong = reported_as code.Sf5 _ refl refl refl
port_reported script.BadField = reported_as code.Sf6 _ refl refl refl
port_reported script.UnknownCable = reported_as code.Sf7 _ refl refl refl

sweep_reported : (fault : SweepFault) → ReportsCode (run_line (run.Sweep fault))
sweep_reported sweep.NoMemory = reported_as code.Memory _ refl refl refl
sweep_reported sweep.NoReply = reported_as code.Sw1 _ refl refl refl
sweep_reported sweep.WrongReply = reported_as code.Sw2 _ refl refl refl
sweep_reported sweep.TooManyHops = reported_as code.Sw3 _ refl refl refl
sweep_reported sweep.TooManyNodes = reported_as code.Sw4 _ refl refl refl

push_reported : (fault : PushFault) → ReportsCode (run_line (run.Push fault))
push_reported push.NoReply = reported_as code.Tp1 _ refl refl refl
push_reported push.Refused = reported_as code.Tp2 _ refl refl refl
push_reported push.NotAsSet = reported_as code.Tp3 _ refl refl refl

discovery_reported : (cause : DiscoveryCause) (number : ℕ) → ReportsCode (foreign_line (Discovery cause) number)
discovery_reported discovery.Malformed number = reported_as code.Nd1 _ refl refl refl
discovery_reported discovery.NoSuchPort number = reported_as code.Nd2 _ refl refl refl
discovery_reported discovery.DuplicateGuid number = reported_as code.Nd3 _ refl refl refl
discovery_reported discovery.WrongFarEnd number = reported_as code.Nd4 _ refl refl refl

refused_reported : (cause : TopologyCause) (number : ℕ) → ReportsCode (foreign_line (Import (import.Refused cause)) number)
refused_reported topology.Malformed number = reported_as code.Tf1 _ refl refl refl
refused_reported topology.DuplicateName number = reported_as code.Tf2 _ refl refl refl
refused_reported topology.DuplicateGuid number = reported_as code.Tf3 _ refl refl refl
refused_reported topology.UnknownNode number = reported_as code.Tf4 _ refl refl refl
refused_reported topology.NoSuchPort number = reported_as code.Tf5 _ refl refl refl
refused_reported topology.PortTaken number = reported_as code.Tf6 _ refl refl refl
refused_reported topology.WrongCableEnds number = reported_as code.Tf7 _ refl refl refl
refused_reported topology.WrongManager number = reported_as code.Tf8 _ refl refl refl
refused_reported topology.Disconnected number = reported_as code.Tf9 _ refl refl refl
refused_reported topology.OverLimit number = reported_as code.Tf10 _ refl refl refl
refused_reported topology.ManagerUncabled number = reported_as code.Tf11 _ refl refl refl
refused_reported topology.RootNotSwitch number = reported_as code.Tf12 _ refl refl refl

dump_reported : (cause : DumpCause) (number : ℕ) → ReportsCode (foreign_line (Dump cause) number)
dump_reported dump.Malformed number = reported_as code.Ft1 _ refl refl refl
dump_reported dump.EndNotReported number = reported_as code.Ft2 _ refl refl refl
dump_reported dump.DuplicateTable number = reported_as code.Ft3 _ refl refl refl
dump_reported dump.WrongLid number = reported_as code.Ft4 _ refl refl refl
dump_reported dump.WrongCount number = reported_as code.Ft5 _ refl refl refl
dump_reported dump.Unfinished number = reported_as code.Ft6 _ refl refl refl
dump_reported dump.TwoEndPorts number = reported_as code.Ft7 _ refl refl refl

mfts_reported : (cause : MftCause) (number : ℕ) → ReportsCode (foreign_line (Masks cause) number)
mfts_reported mfts.Malformed number = reported_as code.Fm1 _ refl refl refl
mfts_reported mfts.DuplicateTable number = reported_as code.Fm2 _ refl refl refl
mfts_reported mfts.WrongMlid number = reported_as code.Fm3 _ refl refl refl
mfts_reported mfts.WrongCount number = reported_as code.Fm4 _ refl refl refl
mfts_reported mfts.Unfinished number = reported_as code.Fm5 _ refl refl refl

lanes_reported : (cause : LanesCause) (number : ℕ) → ReportsCode (foreign_line (Lanes cause) number)
lanes_reported lanes.Malformed number = reported_as code.Fv1 _ refl refl refl
lanes_reported lanes.DuplicateRow number = reported_as code.Fv2 _ refl refl refl
lanes_reported lanes.DirectedRoute number = reported_as code.Fv3 _ refl refl refl
lanes_reported lanes.DuplicateField number = reported_as code.Fv4 _ refl refl refl
lanes_reported lanes.MissingField number = reported_as code.Fv5 _ refl refl refl
lanes_reported lanes.Empty number = reported_as code.Fv6 _ refl refl refl

keys_reported : (cause : KeysCause) (number : ℕ) → ReportsCode (foreign_line (Keys cause) number)
keys_reported keys.Malformed number = reported_as code.Kt1 _ refl refl refl
keys_reported keys.DuplicateQuery number = reported_as code.Kt2 _ refl refl refl
keys_reported keys.OtherAnswer number = reported_as code.Kt3 _ refl refl refl
keys_reported keys.WrongPlace number = reported_as code.Kt4 _ refl refl refl
keys_reported keys.NoQuery number = reported_as code.Kt5 _ refl refl refl

foreign_reported : (cause : ForeignCause) (number : ℕ) → ReportsCode (foreign_line cause number)
foreign_reported (Discovery cause) number = discovery_reported cause number
foreign_reported (Import (import.GuidTaken port guid)) number = reported_as code.Nd5 _ refl refl refl
foreign_reported (Import import.UnknownManager) number = reported_as code.Nd6 _ refl refl refl
foreign_reported (Import import.Unlike) number = reported_as code.Nd7 _ refl refl refl
foreign_reported (Import (import.Refused cause)) number = refused_reported cause number
foreign_reported (Dump cause) number = dump_reported cause number
foreign_reported (Masks cause) number = mfts_reported cause number
foreign_reported (Lanes cause) number = lanes_reported cause number
foreign_reported (Keys cause) number = keys_reported cause number
foreign_reported Smps number = reported_as code.Mf1 _ refl refl refl
foreign_reported Replies number = reported_as code.Mf2 _ refl refl refl

run_reported : (fault : RunFault) → ReportsCode (run_line fault)
run_reported run.NoMemory = reported_as code.Memory _ refl refl refl
run_reported (run.Topology line cause) = topology_reported cause line
run_reported (run.Partitions line cause) = partitions_reported cause line
run_reported (run.Sweep fault) = sweep_reported fault
run_reported (run.NoLegalPath switch node number) = reported_as code.Ur1 _ refl refl refl
run_reported (run.Push fault) = push_reported fault
run_reported (run.Port cause) = port_reported cause
run_reported (run.Script line cause) = script_reported cause line
run_reported (run.SecondScript line cause) = second_script_reported cause line
run_reported run.Read = reported_as code.Read _ refl refl refl
run_reported run.Write = reported_as code.Write _ refl refl refl

managed_reported : (fault : RunFault) (place : List ℕ) → ReportsCode (managed_line fault place)
managed_reported (run.Sweep sweep.NoMemory) place = reported_as code.Memory _ refl refl refl
managed_reported (run.Sweep sweep.NoReply) place = reported_as code.Sw1 _ refl refl refl
managed_reported (run.Sweep sweep.WrongReply) place = reported_as code.Sw2 _ refl refl refl
managed_reported (run.Sweep sweep.TooManyHops) place = reported_as code.Sw3 _ refl refl refl
managed_reported (run.Sweep sweep.TooManyNodes) place = reported_as code.Sw4 _ refl refl refl
managed_reported (run.Push push.NoReply) place = reported_as code.Tp1 _ refl refl refl
managed_reported (run.Push push.Refused) place = reported_as code.Tp2 _ refl refl refl
managed_reported (run.Push push.NotAsSet) place = reported_as code.Tp3 _ refl refl refl
managed_reported run.NoMemory place = run_reported run.NoMemory
managed_reported (run.Topology line cause) place = run_reported (run.Topology line cause)
managed_reported (run.Partitions line cause) place = run_reported (run.Partitions line cause)
managed_reported (run.NoLegalPath switch node number) place = run_reported (run.NoLegalPath switch node number)
managed_reported (run.Port cause) place = run_reported (run.Port cause)
managed_reported (run.Script line cause) place = run_reported (run.Script line cause)
managed_reported (run.SecondScript line cause) place = run_reported (run.SecondScript line cause)
managed_reported run.Read place = run_reported run.Read
managed_reported run.Write place = run_reported run.Write

pub stops_are_reported : (stop : Stop) → NamesCode stop
stops_are_reported (Words text) = tt
stops_are_reported NoMemory = reported_as code.Memory _ refl refl refl
stops_are_reported (Unread name) = reported_as code.Read _ refl refl refl
stops_are_reported Unwritten = reported_as code.Write _ refl refl refl
stops_are_reported (Run fault) = run_reported fault
stops_are_reported (Unmanaged fault place) = managed_reported fault place.items
stops_are_reported (Unheard name) = reported_as code.Read _ refl refl refl
stops_are_reported Unsent = reported_as code.Write _ refl refl refl
stops_are_reported (Second line cause) = second_reported cause line
stops_are_reported (Foreign line cause) = foreign_reported cause line

pub refusals_are_explained : (refusal : Refusal) → IsExplained (refusal_code refusal)
refusals_are_explained refusal.KeyNotHeld = explained_as code.Ar1 refl
refusals_are_explained refusal.QpZero = explained_as code.Ar2 refl
refusals_are_explained refusal.ReservedDlid = explained_as code.Ar3 refl
refusals_are_explained refusal.PortNotActive = explained_as code.Ar4 refl
