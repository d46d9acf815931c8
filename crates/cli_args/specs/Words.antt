-- What the arguments of the program ask for.
use Rattle.std.specs.Prelude.{List, [], ◌∷◌, ◌++◌, codes, map, string_bytes, Option, Some, None, option_map, Result, Ok, Err}
use Rattle.std.specs.Prelude.{String}
use Rattle.std.specs.Prelude.{if◌then◌else◌, ◌^◌, not, Bool, true, false, ℕ}
use Rattle.std.specs.Global.{Global}
use Rattle.std.specs.Option.{option_and_then, option_map_or, option_to_list}
use Rattle.std.specs.Str.{bytes_eq}
use Rattle.clap.specs.Words.{Row, Text, Kinds, fault_of, first_of, subcommand_of}
use Rattle.std.specs.Borrow.{Bor}
use Rattle.std.specs.Vec.Iter.{into_iter_items}
use Rattle.std.specs.declared.vec.IntoIter.{IntoIter}
use Rattle.code_texts.specs.Codes.{code_of}
use Rattle.cli_args.specs.CommandLine.{fabric_command}
use Rattle.cli_args.specs.Help.{not_text_line}
use Rattle.cli_args.specs.declared.call.Asked.{Asked}
use Rattle.cli_args.specs.declared.call.Call.{Call}
use Rattle.cli_args.specs.declared.call.CutView.{CutView}
use Rattle.cli_args.specs.declared.call.CutView.TheVariants.{All, One, Picture}
use Rattle.clap.specs.declared.error.kind.ErrorKind.{ErrorKind}
use Rattle.clap.specs.declared.error.kind.ErrorKind.TheVariants.{DisplayVersion}
use Rattle.cli_args.specs.declared.call.Call.TheVariants.{AuditKeys, AuditThree, Dumped, Explain, Import, Subnet, Version}
use Rattle.cli_args.specs.declared.call.Work.{Work}
use Rattle.cli_args.specs.declared.call.Inspection.{Inspection}
use Rattle.cli_args.specs.declared.call.Inspection.TheVariants.{Graph, Keys, Load, LoadGraph, Tables, Trace}
use Rattle.cli_args.specs.declared.call.DumpView.{DumpView}
use Rattle.cli_args.specs.declared.call.DumpView.TheVariants as dump_view
use Rattle.cli_args.specs.declared.call.ThirdFile.{ThirdFile}
use Rattle.cli_args.specs.declared.call.ThirdFile.TheVariants.{Lanes, Mfts}
use Rattle.cli_args.specs.declared.call.Subcommand.{Subcommand}
use Rattle.cli_args.specs.declared.call.Subcommand.TheVariants as command
use Rattle.cli_args.specs.declared.help.TheConstants.{NO_SECOND_PORT, NO_SUCH_CODE, NO_SUCH_IMPORT, NO_SUCH_KEYS_GUID, NO_SUCH_NUMBER, ONE_PICTURE, ONE_THIRD_FILE, PARTS_OR_DUMP}
use Rattle.cli_args.specs.declared.call.Work.TheVariants.{Check, Compare, Cuts, Diff, Inspect, Manage, Run, Shares, Smps}
use Rattle.text_words.specs.Number.{if_under, number_in, u16_in}

-- ---- what is asked for, with the names of the files as texts
pub record Names : Type 0 where
  pub topology : Text
  pub partitions : Option Text
  pub work : Work Text Text Text

abbrev pub named_inspection : Inspection (Bor Text) → Inspection Text
named_inspection Tables = Tables
named_inspection Keys = Keys
named_inspection (Trace port dlid p_key) = Trace port.now dlid p_key
named_inspection Graph = Graph
named_inspection (Load all) = Load all
named_inspection (LoadGraph all) = LoadGraph all

abbrev pub named_view : CutView (Bor Text) → CutView Text
named_view All = All
named_view (One first second) = One first.now second.now
named_view Picture = Picture

abbrev pub named_work : Work (Bor Text) (Bor Text) (Bor Text) → Work Text Text Text
named_work (Check balanced) = Check balanced
named_work (Shares port) = Shares (option_map (λ word. word.now) port)
named_work (Diff second) = Diff (option_map (λ word. word.now) second)
named_work (Inspect what script balanced) = Inspect (named_inspection what) (option_map (λ name. name.now) script) balanced
named_work (Cuts view balanced) = Cuts (named_view view) balanced
named_work (Run script) = Run script.now
named_work (Smps script smps) = Smps (option_map (λ name. name.now) script) smps.now
named_work (Manage replies balanced) = Manage replies.now balanced
named_work (Compare first second port) = Compare first.now second.now port.now

abbrev pub names : Asked → Names
names asked = record {
  topology = asked.topology.now;
  partitions = option_map (λ name. name.now) asked.partitions;
  work = named_work asked.work;
}

abbrev pub named_call : Call Asked (Bor Text) → Call Names Text
named_call (Subnet asked) = Subnet (names asked)
named_call (Import netdiscover manager roots) = Import netdiscover.now manager roots
named_call (Dumped view fabric dump) = Dumped view fabric.now dump.now
named_call (AuditThree third fabric dump file) = AuditThree third fabric.now dump.now file.now
named_call (AuditKeys netdiscover pkeys partitions manager all) = AuditKeys netdiscover.now pkeys.now (option_map (λ name. name.now) partitions) manager all
named_call (Explain code) = Explain code
named_call Version = Version

-- what arguments ask for, or the text of their refusal, if it is known
abbrev pub Asking : Type 0
Asking = Result (Call Names Text) (Option Text)

abbrev pub named_found : Result (Call Asked (Bor Text)) (Bor Text) → Asking
named_found (Ok call) = Ok (named_call call)
named_found (Err text) = Err (Some text.now)

-- ---- the arguments of one command
-- `-` means no file
abbrev pub file_in : Text → Option Text
file_in word = if bytes_eq word (codes "-") then None else Some word

abbrev pub diff_by : Option Text → Option (Work Text Text Text)
diff_by second = option_map (λ word. Diff (file_in word)) second

-- all cables, or the one that two ports name; one port alone asks for nothing
abbrev pub cuts_by : Option Text → Option Text → (balanced : Bool) → Option (Work Text Text Text)
cuts_by None None balanced = Some (Cuts All balanced)
cuts_by (Some first) (Some second) balanced = Some (Cuts (One first second) balanced)
cuts_by _ _ balanced = None

abbrev pub run_by : Option Text → Option (Work Text Text Text)
run_by script = option_map (λ name. Run name) script

-- routes of a fabric that is managed are balanced, unless the least port is asked for
abbrev pub manage_by : Option Text → (least : Bool) → Option (Work Text Text Text)
manage_by replies least = option_map (λ name. Manage name (not least)) replies

-- SMPs, after the commands of a script if one is given
abbrev pub smps_by : Option Text → Option Text → Option (Work Text Text Text)
smps_by smps script = option_map (λ name. Smps script name) smps

abbrev pub scripts_by : Option Text → Option Text → Option Text → Option (Work Text Text Text)
scripts_by (Some first) (Some second) (Some port) = Some (Compare first second port)
scripts_by _ _ _ = None

abbrev pub compare_by : List Row → Option (Work Text Text Text)
compare_by rows = scripts_by (first_of (codes "S1") rows) (first_of (codes "S2") rows) (first_of (codes "PORT") rows)

-- a number of 16 bits, as scripts write it
abbrev pub u16_by : Option Text → Option ℕ
u16_by word = option_and_then u16_in word

-- a flag that is given has the value `true`
abbrev pub is_given : List Row → Text → Bool
is_given rows name = option_map_or (λ value. bytes_eq value (codes "true")) (first_of name rows) false

-- whether routes are to be balanced: commands without that flag take the least port
abbrev pub is_balanced : List Row → Bool
is_balanced rows = is_given rows (codes "BALANCED")

-- a look at this, after the commands of a script if one is given: here `-` is the name of a script
abbrev pub inspect_by : List Row → Option (Inspection Text) → Option (Work Text Text Text)
inspect_by rows seen = option_map (λ what. Inspect what (first_of (codes "SCRIPT") rows) (is_balanced rows)) seen

-- a picture; with `--cuts` it takes neither a script nor `--load`, and it takes `--all` with `--load` alone
abbrev pub graph_with : (cuts load all balanced : Bool) → Option Text → Option (Work Text Text Text)
graph_with true false false balanced None = Some (Cuts Picture balanced)
graph_with false true all balanced script = Some (Inspect (LoadGraph all) script balanced)
graph_with false false false balanced script = Some (Inspect Graph script balanced)
graph_with _ _ _ balanced _ = None

abbrev pub graph_by : List Row → Option (Work Text Text Text)
graph_by rows =
    graph_with (is_given rows (codes "CUTS")) (is_given rows (codes "LOAD")) (is_given rows (codes "ALL")) (is_balanced rows)
    (first_of (codes "SCRIPT") rows)

abbrev pub packet_by : Option Text → Option ℕ → Option ℕ → Option (Inspection Text)
packet_by (Some port) (Some dlid) (Some p_key) = Some (Trace port dlid p_key)
packet_by _ _ _ = None

abbrev pub trace_by : List Row → Option (Inspection Text)
trace_by rows =
    packet_by (first_of (codes "PORT") rows) (u16_by (first_of (codes "DLID") rows)) (u16_by (first_of (codes "PKEY") rows))

abbrev pub asked_by : Option Text → Option Text → Option (Work Text Text Text) → Option (Call Names Text)
asked_by (Some topology) (Some partitions) (Some work) =
    Some (Subnet (record { topology = topology; partitions = file_in partitions; work = work }))
asked_by _ _ _ = None

-- this work in the subnet of a topology and of partitions
abbrev pub in_subnet : List Row → Option (Work Text Text Text) → Option (Call Names Text)
in_subnet rows work = asked_by (first_of (codes "TOPO") rows) (first_of (codes "PARTS") rows) work

-- a GUID, as topologies write it, or none if it is not given
abbrev pub guid_by : Option Text → Option (Option ℕ)
guid_by None = Some None
guid_by (Some word) = option_map (λ guid. Some guid) (if_under (2 ^ 64) (number_in word))

-- whether the top switches become roots: with `auto` they do
abbrev pub roots_by : Option Text → Option Bool
roots_by None = Some false
roots_by (Some word) = if bytes_eq word (codes "auto") then Some true else None

abbrev pub import_by : Option Text → Option (Option ℕ) → (roots : Option Bool) → Option (Call Names Text)
import_by (Some netdiscover) (Some manager) (Some roots) = Some (Import netdiscover manager roots)
import_by _ _ _ = None

-- a fabric and a dump
abbrev pub dumped_by : DumpView → Option Text → Option Text → Option (Call Names Text)
dumped_by view (Some fabric) (Some dump) = Some (Dumped view fabric dump)
dumped_by view _ _ = None

-- an audit of these and of a third file
abbrev pub audit_three : ThirdFile → (fabric dump : Option Text) → Text → Option (Call Names Text)
audit_three third (Some fabric) (Some dump) file = Some (AuditThree third fabric dump file)
audit_three third _ _ file = None

-- an audit of these, and of MFTs or lanes if they are given. Both exclude one another
abbrev pub audit_with : (mfts lanes fabric dump : Option Text) → (all : Bool) → Option (Call Names Text)
audit_with None None fabric dump all = dumped_by (dump_view.Audit all) fabric dump
audit_with (Some mfts) None fabric dump all = audit_three (Mfts all) fabric dump mfts
audit_with None (Some lanes) fabric dump all = audit_three (Lanes all) fabric dump lanes
audit_with (Some mfts) (Some lanes) fabric dump all = None

abbrev pub audit_by : List Row → Option (Call Names Text)
audit_by rows =
    audit_with (first_of (codes "MFTS") rows) (first_of (codes "LANES") rows) (first_of (codes "FABRIC") rows) (first_of (codes "DUMP") rows)
    (is_given rows (codes "ALL"))

-- loads, after the commands of a script if one is given
abbrev pub loads_in : (script : Option Text) → (all balanced : Bool) → Work Text Text Text
loads_in script all balanced = Inspect (Load all) script balanced

-- by a dump alone, or in the subnet of a topology and of partitions
abbrev pub load_with : (fabric partitions script dump : Option Text) → (all balanced : Bool) → Option (Call Names Text)
load_with fabric None None (Some dump) false false = dumped_by dump_view.Load fabric (Some dump)
load_with fabric (Some partitions) script None all balanced = asked_by fabric (Some partitions) (Some (loads_in script all balanced))
load_with fabric _ _ _ _ _ = None

abbrev pub load_by : List Row → Option (Call Names Text)
load_by rows =
    load_with (first_of (codes "FABRIC") rows) (first_of (codes "PARTS") rows) (first_of (codes "SCRIPT") rows) (first_of (codes "DUMP") rows)
    (is_given rows (codes "ALL")) (is_balanced rows)

-- a discovery, answers of smpquery and partitions
abbrev pub audit_keys_with : Option Text → Option Text → Option Text → Option (Option ℕ) → (all : Bool) → Option (Call Names Text)
audit_keys_with (Some netdiscover) (Some pkeys) (Some partitions) (Some manager) all = Some (AuditKeys netdiscover pkeys (file_in partitions) manager all)
audit_keys_with _ _ _ _ all = None

abbrev pub audit_keys_by : List Row → Option (Call Names Text)
audit_keys_by rows =
    audit_keys_with (first_of (codes "NETDISCOVER") rows) (first_of (codes "PKEYS") rows) (first_of (codes "PARTS") rows)
    (guid_by (first_of (codes "SM") rows)) (is_given rows (codes "ALL"))

-- an argument that is not a code asks for nothing
abbrev pub explain_by : Option Text → Option (Call Names Text)
explain_by None = Some (Explain None)
explain_by (Some word) = option_map (λ code. Explain (Some code)) (code_of word)

-- `check` takes no more arguments than its subnet's but a flag, `shares` takes a port, and `tables`, `keys`, `trace` and `graph` take a
-- script, `cuts` two ports; `diff` needs other partitions, `trace` a packet, `run` a script, `smp` SMPs, `manage` replies, and
-- `compare` two scripts and a port; `import` needs a file of its own and takes a GUID and roots, `audit` needs a fabric and a dump,
-- and takes MFTs or lanes, and `load` these or a topology and partitions, and takes a script; `audit-keys` two files of its own and
-- partitions, and takes a GUID, and `explain` takes a code
abbrev pub call_in : Subcommand → List Row → Option (Call Names Text)
call_in command.Check rows = in_subnet rows (Some (Check (is_balanced rows)))
call_in command.Shares rows = in_subnet rows (Some (Shares (first_of (codes "PORT") rows)))
call_in command.Diff rows = in_subnet rows (diff_by (first_of (codes "PARTS2") rows))
call_in command.Tables rows = in_subnet rows (inspect_by rows (Some Tables))
call_in command.Keys rows = in_subnet rows (inspect_by rows (Some Keys))
call_in command.Trace rows = in_subnet rows (inspect_by rows (trace_by rows))
call_in command.Graph rows = in_subnet rows (graph_by rows)
call_in command.Run rows = in_subnet rows (run_by (first_of (codes "SCRIPT") rows))
call_in command.Smp rows = in_subnet rows (smps_by (first_of (codes "SMPS") rows) (first_of (codes "SCRIPT") rows))
call_in command.Manage rows = in_subnet rows (manage_by (first_of (codes "REPLIES") rows) (is_given rows (codes "LEAST_PORT")))
call_in command.Compare rows = in_subnet rows (compare_by rows)
call_in command.Cuts rows = in_subnet rows (cuts_by (first_of (codes "PORT") rows) (first_of (codes "PORT2") rows) (is_balanced rows))
call_in command.Import rows =
    import_by (first_of (codes "NETDISCOVER") rows) (guid_by (first_of (codes "SM") rows)) (roots_by (first_of (codes "ROOTS") rows))
call_in command.Audit rows = audit_by rows
call_in command.Load rows = load_by rows
call_in command.AuditKeys rows = audit_keys_by rows
call_in command.Explain rows = explain_by (first_of (codes "CODE") rows)

-- ---- the whole command line
abbrev pub subcommand_in : Text → Option Subcommand
subcommand_in word =
    if bytes_eq word (codes "check") then Some command.Check
    else if bytes_eq word (codes "shares") then Some command.Shares
    else if bytes_eq word (codes "diff") then Some command.Diff
    else if bytes_eq word (codes "tables") then Some command.Tables
    else if bytes_eq word (codes "keys") then Some command.Keys
    else if bytes_eq word (codes "trace") then Some command.Trace
    else if bytes_eq word (codes "graph") then Some command.Graph
    else if bytes_eq word (codes "run") then Some command.Run
    else if bytes_eq word (codes "smp") then Some command.Smp
    else if bytes_eq word (codes "manage") then Some command.Manage
    else if bytes_eq word (codes "compare") then Some command.Compare
    else if bytes_eq word (codes "cuts") then Some command.Cuts
    else if bytes_eq word (codes "import") then Some command.Import
    else if bytes_eq word (codes "audit") then Some command.Audit
    else if bytes_eq word (codes "load") then Some command.Load
    else if bytes_eq word (codes "audit-keys") then Some command.AuditKeys
    else if bytes_eq word (codes "explain") then Some command.Explain
    else None

-- the text for an argument that clap accepts and the command cannot take: in a trace it is not a number, in an audit of keys not a
-- GUID, in an import not a GUID or not `auto`, in cuts the second port is missing, a picture is none of those above, an audit has
-- MFTs and lanes, loads have neither partitions nor a dump, or both, and else it is not a code
abbrev pub text_for : Subcommand → Text
text_for command.Trace = NO_SUCH_NUMBER.now
text_for command.Import = NO_SUCH_IMPORT.now
text_for command.AuditKeys = NO_SUCH_KEYS_GUID.now
text_for command.Cuts = NO_SECOND_PORT.now
text_for command.Graph = ONE_PICTURE.now
text_for command.Audit = ONE_THIRD_FILE.now
text_for command.Load = PARTS_OR_DUMP.now
text_for _ = NO_SUCH_CODE.now

abbrev pub asked_or : Text → Option (Call Names Text) → Asking
asked_or text (Some call) = Ok call
asked_or text None = Err (Some text)

abbrev pub asked_by_command : Option Subcommand → List Row → Asking
asked_by_command (Some command) rows = asked_or (text_for command) (call_in command rows)
asked_by_command None rows = Err (Some NO_SUCH_CODE.now)

-- by what clap finds: the name of a command, and its arguments
abbrev pub asked_in : Option (Text × List Row) → Asking
asked_in (Some found) = asked_by_command (subcommand_in found.0) found.1
asked_in None = Err (Some NO_SUCH_CODE.now)

-- by what a parser finds: the name of a command and its arguments, or that the version is requested
abbrev pub asked_if_parsed : Option (Option (Text × List Row)) → Asking
asked_if_parsed (Some found) = asked_in found
asked_if_parsed None = Ok Version

abbrev pub is_version : ErrorKind → Bool
is_version DisplayVersion = true
is_version _ = false

-- the version is requested if and only if clap has this kind for it: it has no other kind beside that
abbrev pub unless_refused : Option Text → Kinds → Asking → Asking
unless_refused shown [] asked = asked
unless_refused shown (kind ∷ kinds) asked = if is_version kind then Ok Version else Err shown

-- what the arguments ask for, the first of them the program's own name: the version, if it is requested. If clap refuses them,
-- or help is requested, they are refused with the text of `shown`, if there is one; if one is not the code or number that it
-- has to be, with a text of the program's own
unfoldable pub asked_of : (shown : List Text → Option Text) → List Text → Asking
asked_of shown words =
    unless_refused (shown words) (fault_of fabric_command words) (asked_in (subcommand_of fabric_command words))

-- no contract knows clap's own texts
abbrev pub asked_by_clap : List Text → Asking
asked_by_clap words = asked_of (λ _. None) words

abbrev pub asking : (List Text → Option Text) → List (String Global) → Asking
asking shown words = asked_of shown (map string_bytes words)

abbrev pub asking_by_clap : List (String Global) → Asking
asking_by_clap words = asked_by_clap (map string_bytes words)

-- ---- the arguments of the process, if all of them are text
abbrev pub given_items : {E : Type 0} → Result (IntoIter (String Global) Global) E → Option (List (String Global))
given_items (Ok words) = Some (into_iter_items words)
given_items (Err error) = None

abbrev pub given_texts : {E : Type 0} → Result (IntoIter (String Global) Global) E → Option (List Text)
given_texts given = option_map (λ words. map string_bytes words) (given_items given)

-- arguments that are not text are refused with a text of the program's own
abbrev pub asked_by_given : Option (List Text) → Asking
asked_by_given None = Err (Some not_text_line)
asked_by_given (Some words) = asked_by_clap words

-- ---- the names that are opened, in order
abbrev pub work_names : Work Text Text Text → List Text
work_names (Check balanced) = []
work_names (Shares port) = []
work_names (Diff second) = option_to_list second
work_names (Inspect what script balanced) = option_to_list script
work_names (Cuts view balanced) = []
work_names (Run script) = script ∷ []
work_names (Smps script smps) = option_to_list script ++ smps ∷ []
work_names (Manage replies balanced) = replies ∷ []
work_names (Compare first second port) = first ∷ second ∷ []

abbrev pub all_names : Names → List Text
all_names asked = asked.topology ∷ (option_to_list asked.partitions ++ work_names asked.work)

abbrev pub opened_for : Asking → List Text
opened_for (Err text) = []
opened_for (Ok (Subnet asked)) = all_names asked
opened_for (Ok (Import netdiscover manager roots)) = netdiscover ∷ []
opened_for (Ok (Dumped view fabric dump)) = fabric ∷ dump ∷ []
opened_for (Ok (AuditThree third fabric dump file)) = fabric ∷ dump ∷ file ∷ []
opened_for (Ok (AuditKeys netdiscover pkeys partitions manager all)) = netdiscover ∷ pkeys ∷ option_to_list partitions
opened_for (Ok (Explain code)) = []
opened_for (Ok Version) = []
