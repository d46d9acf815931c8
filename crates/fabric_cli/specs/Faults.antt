-- Errors of the program: the line of each, and its exit status.
use Rattle.std.specs.Prelude.{ℕ, Bool, List, ◌++◌, codes, decimal, Option, Some, None, String, string_bytes, Vec}
use Rattle.std.specs.Option.{option_map_or}
use Rattle.std.specs.Borrow.{Bor}
use Rattle.std.specs.Global.{Global}
use Rattle.cli_args.specs.declared.call.Refused.{Refused}
use Rattle.cli_args.specs.declared.call.Refused.TheVariants as refused
use Rattle.topo_file.specs.Fault.{code_of as topology_code}
use Rattle.partition_file.specs.Fault.{code_of as partitions_code}
use Rattle.script_lines.specs.ScriptCause.{code_of as script_code}
use Rattle.sweep.specs.Fault.{code_of as sweep_code}
use Rattle.sweep.specs.declared.fault.SweepFault.{SweepFault}
use Rattle.sweep.specs.declared.fault.SweepFault.TheVariants.{TooManyHops}
use Rattle.table_push.specs.Fault.{code_of as push_code}
use Rattle.subnet_core.specs.declared.fault.RunFault.{RunFault}
use Rattle.subnet_core.specs.declared.fault.RunFault.TheVariants as run
use Rattle.fabric_cli.specs.Files.{Contents, Opened, StopsAt}
use Rattle.fabric_cli.specs.declared.faults.ForeignCause.{ForeignCause}
use Rattle.fabric_cli.specs.declared.faults.ForeignCause.TheVariants.{Discovery, Dump, Import, Keys, Lanes, Masks, Replies, Smps}
use Rattle.fabric_cli.specs.declared.faults.Stop.{Stop}
use Rattle.fabric_cli.specs.declared.faults.Stop.TheVariants.{Words, NoMemory, Unread, Unwritten, Run, Second, Unmanaged, Unheard, Unsent, Foreign}
use Rattle.dump_file.specs.Fault.{code_of as dump_code}
use Rattle.mft_file.specs.Fault.{code_of as mft_code}
use Rattle.sl2vl_file.specs.Fault.{code_of as lanes_code}
use Rattle.pkeys_file.specs.Fault.{code_of as keys_code}
use Rattle.text_words.specs.Parts.{hex_text}
use Rattle.netdiscover_file.specs.Fault.{code_of as discovery_code}
use Rattle.smp_lines.specs.declared.stop.SmpStop.{SmpStop}
use Rattle.smp_lines.specs.declared.stop.SmpStop.TheVariants as smp
use Rattle.topology_import.specs.Fault.{code_of as import_code}
use Rattle.topology_import.specs.declared.fault.ImportCause.TheVariants.{GuidTaken}
use Rattle.std.specs.Int.{w64, to_be_bytes}

-- `fault CODE topology line L` and LF
abbrev pub topology_line : List ℕ → ℕ → List ℕ
topology_line code number = codes "fault " ++ (code ++ (codes " topology line " ++ (decimal number ++ codes "\n")))

abbrev pub partitions_line : List ℕ → ℕ → List ℕ
partitions_line code number = codes "fault " ++ (code ++ (codes " partitions line " ++ (decimal number ++ codes "\n")))

-- of the second partition file
abbrev pub second_line : List ℕ → ℕ → List ℕ
second_line code number = codes "fault " ++ (code ++ (codes " partitions2 line " ++ (decimal number ++ codes "\n")))

abbrev pub script_line : List ℕ → ℕ → List ℕ
script_line code number = codes "fault " ++ (code ++ (codes " script line " ++ (decimal number ++ codes "\n")))

-- of the second script
abbrev pub second_script_line : List ℕ → ℕ → List ℕ
second_script_line code number = codes "fault " ++ (code ++ (codes " script2 line " ++ (decimal number ++ codes "\n")))

-- `fault CODE`, of a fabric
abbrev pub fabric_line : List ℕ → List ℕ
fabric_line code = codes "fault " ++ (code ++ codes "\n")

-- `fault UR1 SWITCH NODE/NUMBER`
abbrev pub no_path_line : List ℕ → List ℕ → ℕ → List ℕ
no_path_line switch node number =
    codes "fault UR1 " ++ (switch ++ (codes " " ++ (node ++ (codes "/" ++ (decimal number ++ codes "\n")))))

-- `fault CODE port`, of an argument
abbrev pub port_line : List ℕ → List ℕ
port_line code = codes "fault " ++ (code ++ codes " port\n")

-- `fault CODE netdiscover line L`
abbrev pub netdiscover_line : List ℕ → ℕ → List ℕ
netdiscover_line code number = codes "fault " ++ (code ++ (codes " netdiscover line " ++ (decimal number ++ codes "\n")))

-- `fault CODE dump line L`
abbrev pub dump_line : List ℕ → ℕ → List ℕ
dump_line code number = codes "fault " ++ (code ++ (codes " dump line " ++ (decimal number ++ codes "\n")))

-- `fault CODE mfts line L`
abbrev pub mfts_line : List ℕ → ℕ → List ℕ
mfts_line code number = codes "fault " ++ (code ++ (codes " mfts line " ++ (decimal number ++ codes "\n")))

-- `fault CODE lanes line L`
abbrev pub lanes_line : List ℕ → ℕ → List ℕ
lanes_line code number = codes "fault " ++ (code ++ (codes " lanes line " ++ (decimal number ++ codes "\n")))

-- `fault CODE pkeys line L`
abbrev pub pkeys_line : List ℕ → ℕ → List ℕ
pkeys_line code number = codes "fault " ++ (code ++ (codes " pkeys line " ++ (decimal number ++ codes "\n")))

-- `fault MF1 smps line L`
abbrev pub smps_line : ℕ → List ℕ
smps_line number = codes "fault MF1 smps line " ++ (decimal number ++ codes "\n")

-- `fault MF2 replies line L`
abbrev pub replies_line : ℕ → List ℕ
replies_line number = codes "fault MF2 replies line " ++ (decimal number ++ codes "\n")

-- with the GUID of a port, and the one that its CA would have
abbrev pub guid_word : ℕ → List ℕ
guid_word guid = codes " " ++ hex_text (to_be_bytes w64 guid)

abbrev pub guids_line : ℕ → (port guid : ℕ) → List ℕ
guids_line number port guid = codes "fault ND5 netdiscover line " ++ (decimal number ++ (guid_word port ++ (guid_word guid ++ codes "\n")))

abbrev pub foreign_line : ForeignCause → ℕ → List ℕ
foreign_line (Discovery cause) number = netdiscover_line (discovery_code cause) number
foreign_line (Import (GuidTaken port guid)) number = guids_line number port guid
foreign_line (Import cause) number = netdiscover_line (import_code cause) number
foreign_line (Dump cause) number = dump_line (dump_code cause) number
foreign_line (Masks cause) number = mfts_line (mft_code cause) number
foreign_line (Lanes cause) number = lanes_line (lanes_code cause) number
foreign_line (Keys cause) number = pkeys_line (keys_code cause) number
foreign_line Smps number = smps_line number
foreign_line Replies number = replies_line number

abbrev pub memory_line : List ℕ
memory_line = codes "fault memory\n"

abbrev pub unread_line : List ℕ → List ℕ
unread_line name = codes "fault read " ++ (name ++ codes "\n")

abbrev pub unwritten_line : List ℕ
unwritten_line = codes "fault write\n"

abbrev pub run_line : RunFault → List ℕ
run_line run.NoMemory = memory_line
run_line (run.Topology line cause) = topology_line (topology_code cause) line
run_line (run.Partitions line cause) = partitions_line (partitions_code cause) line
run_line (run.Sweep fault) = option_map_or fabric_line (sweep_code fault) memory_line
run_line (run.NoLegalPath switch node number) = no_path_line switch node number
run_line (run.Push fault) = fabric_line (push_code fault)
run_line (run.Port cause) = port_line (script_code cause)
run_line (run.Script line cause) = script_line (script_code cause) line
run_line (run.SecondScript line cause) = second_script_line (script_code cause) line
run_line run.Read = unread_line (codes "script")
run_line run.Write = unwritten_line

-- `fault CODE PLACE`, of a fabric behind SMPs: where the last of them went, and what it asked for
abbrev pub placed_line : (code place : List ℕ) → List ℕ
placed_line code place = codes "fault " ++ (code ++ (codes " " ++ (place ++ codes "\n")))

abbrev pub managed_line : RunFault → (place : List ℕ) → List ℕ
managed_line (run.Sweep fault) place = option_map_or (λ code. placed_line code place) (sweep_code fault) memory_line
managed_line (run.Push fault) place = placed_line (push_code fault) place
managed_line fault place = run_line fault

-- in a topology's own fabric discovery finds all except what is too far, and no node refuses a Set
abbrev pub sweep_status : SweepFault → ℕ
sweep_status TooManyHops = 1
sweep_status _ = 3

abbrev pub run_status : RunFault → ℕ
run_status run.NoMemory = 3
run_status (run.Sweep fault) = sweep_status fault
run_status (run.Push fault) = 3
run_status run.Read = 3
run_status run.Write = 3
run_status _ = 1

-- what standard error gets: one line, or the text of refused arguments
abbrev pub line_of : Stop → List ℕ
line_of (Words text) = string_bytes text
line_of NoMemory = memory_line
line_of (Unread name) = unread_line name.now
line_of Unwritten = unwritten_line
line_of (Run fault) = run_line fault
line_of (Second line cause) = second_line (partitions_code cause) line
line_of (Unmanaged fault place) = managed_line fault place.items
line_of (Unheard name) = unread_line name.now
line_of Unsent = unwritten_line
line_of (Foreign line cause) = foreign_line cause line

abbrev pub status_of : Stop → ℕ
status_of (Words text) = 2
status_of NoMemory = 3
status_of (Unread name) = 3
status_of Unwritten = 3
status_of (Run fault) = run_status fault
status_of (Second line cause) = 1
status_of (Unmanaged fault place) = 1
status_of (Unheard name) = 3
status_of Unsent = 3
status_of (Foreign line cause) = 1

-- refused arguments
abbrev pub stop_of : Refused (String Global) → Stop
stop_of (refused.Words text) = Words text
stop_of refused.NoMemory = NoMemory

-- an error of a run that reads the script of this name and writes its report
abbrev pub run_stop : Bor (List ℕ) → RunFault → Stop
run_stop script run.NoMemory = NoMemory
run_stop script run.Read = Unread script
run_stop script run.Write = Unwritten
run_stop script fault = Run fault

-- the end of SMPs of this name whose replies are written
abbrev pub smps_stop : Bor (List ℕ) → SmpStop → Stop
smps_stop smps smp.NoMemory = NoMemory
smps_stop smps smp.Read = Unread smps
smps_stop smps smp.Write = Unwritten
smps_stop smps (smp.Line line) = Foreign line Smps

-- the end of replies of this name, whose SMPs are written
abbrev pub replies_stop : Bor (List ℕ) → SmpStop → Stop
replies_stop replies smp.NoMemory = NoMemory
replies_stop replies smp.Read = Unheard replies
replies_stop replies smp.Write = Unsent
replies_stop replies (smp.Line line) = Foreign line Replies

-- an error of what answers SMPs
abbrev pub managed_stop : RunFault → (place : Vec ℕ Global) → Stop
managed_stop run.NoMemory place = NoMemory
managed_stop fault place = Unmanaged fault place

-- reading files ends only in these
abbrev pub IsOfFiles : Stop → Type 0
IsOfFiles NoMemory = Unit {0}
IsOfFiles (Unread name) = Unit {0}
IsOfFiles _ = ⊥

-- the output for files that were read ends only in these
abbrev pub IsOfRun : Stop → Type 0
IsOfRun NoMemory = Unit {0}
IsOfRun (Run fault) = Unit {0}
IsOfRun (Second line cause) = Unit {0}
IsOfRun (Foreign line cause) = Unit {0}
IsOfRun _ = ⊥

-- a stop for a file that cannot be read names the file at which reading stopped
abbrev pub NamesUnread : Option Contents → Bool → Opened → Opened → List (List ℕ) → Stop → Type 0
NamesUnread None reads old new names stop = Unit {0}
NamesUnread (Some file) reads old new names (Unread name) = StopsAt file reads old new names name.now
NamesUnread (Some file) reads old new names _ = Unit {0}

-- if a stop says that a file cannot be read, this holds of that file's name
abbrev pub LeavesUnread : (List ℕ → Type 0) → Stop → Type 0
LeavesUnread Is (Unread name) = Is name.now
LeavesUnread Is _ = Unit {0}
