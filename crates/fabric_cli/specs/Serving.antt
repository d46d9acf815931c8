-- The result of an invocation, from its arguments, the bytes of its files, and what becomes of the fabric that they describe.
use Rattle.std.specs.Prelude.{ℕ, ◌≡◌, ◌≢◌, ◌⊎◌, Bool, true, false, List, [], Option, Some, None, is_some, option_map, unwrap_or, Vec}
use Rattle.std.specs.Prelude.{codes, if◌then◌else◌, length, map, string_bytes, ◌++◌, ◌==◌, IfOk, IfSome, Result, Ok, Err}
use Rattle.std.specs.Io.KnownBytes.{Appends, Keeps}
use Rattle.subnet_core.specs.declared.fault.RunFault.{RunFault}
use Rattle.subnet_core.specs.declared.fault.RunFault.TheVariants as run
use Rattle.partition_reports.specs.Sums.{listed_shares}
use Rattle.cable_cuts.specs.Texts.{ReportsAll, ReportsOne}
use Rattle.fabric_parts.specs.declared.cable.Cable.{Cable}
use Rattle.script_lines.specs.SwitchCable.{named_cable}
use Rattle.cli_args.specs.declared.call.CutView.{CutView}
use Rattle.cli_args.specs.declared.call.CutView.TheVariants.{All, One, Picture}
use Rattle.cable_cuts.specs.Needed.{AreNeeded}
use Rattle.std.specs.Borrow.{Bor}
use Rattle.std.specs.Global.{Global}
use Rattle.subnet_model.specs.Configuration.{ConfigurationState}
use Rattle.script_lines.specs.declared.script_cause.ScriptCause.{ScriptCause}
use Rattle.script_lines.specs.ScriptCause.{code_of as script_code}
use Rattle.fabric_graph.specs.Graph.{graph_text}
use Rattle.cable_looks.specs.Looks.{needed_look}
use Rattle.fabric_loads.specs.OwnLoads.{own_load_text, own_looks}
use Rattle.fabric_tables.specs.Keys.{keys_text}
use Rattle.fabric_parts.specs.declared.cable.PortRef.{PortRef}
use Rattle.fabric_tables.specs.Multicast.{tables_text}
use Rattle.packet_trace.specs.Lines.{trace_text}
use Rattle.partition_file.specs.Fault.{code_of as partitions_code}
use Rattle.partition_reports.specs.ChangedSums.{listed_changes}
use Rattle.subnet_core.specs.Listing.{listing_text}
use Rattle.script_lines.specs.NamedPort.{adapter_place, named_port}
use Rattle.script_lines.specs.Script.{commands_in}
use Rattle.subnet_fabric.specs.BringUp.{BroughtUpState}
use Rattle.subnet_core.specs.After.{TurnsAfter}
use Rattle.subnet_core.specs.BringUp.{Turns, stop_of}
use Rattle.subnet_core.specs.Fate.{up_from}
use Rattle.subnet_core.specs.Inventory.{InventoryState, inventory_by, inventory_of, large_inventory_of}
use Rattle.subnet_core.specs.Comparison.{Compares, TwoRunsState, two_runs_of}
use Rattle.subnet_core.specs.Run.{report_of}
use Rattle.subnet_core.specs.declared.comparing.Comparison.{Comparison}
use Rattle.subnet_core.specs.Stream.{judged as judged_lines, reported_of_lines}
use Rattle.subnet_model.specs.declared.command.Command.{Command}
use Rattle.text_streams.specs.Reading.{IsEndless}
use Rattle.text_streams.specs.Writing.{AppendsPart, Writes}
use Rattle.text_words.specs.Lines.{lines}
use Rattle.topo_file.specs.Topology.{TopologyState, topology_within}
use Rattle.updn_routes.specs.declared.tie_rule.TieRule.{TieRule}
use Rattle.updn_routes.specs.declared.tie_rule.TieRule.TheVariants.{LeastPort, Balanced}
use Rattle.step_results.specs.declared.text_fault.TextFault.{TextFault}
use Rattle.step_results.specs.declared.text_fault.TextFault.TheVariants as of_text
use Rattle.step_results.specs.AtLine.{AtLine}
use Rattle.step_results.specs.Steps.{◌>>=◌}
use Rattle.subnet_core.specs.EventLines.{report_text}
use Rattle.fabric_cli.specs.declared.faults.Stop.{Stop}
use Rattle.fabric_cli.specs.declared.reading.OpenFile.{OpenFile}
use Rattle.fabric_cli.specs.declared.texts.Texts.{Texts}
use Rattle.code_texts.specs.Texts.{explained}
use Rattle.cli_args.specs.declared.call.Call.TheVariants as call
use Rattle.cli_args.specs.Help.{version_line}
use Rattle.cli_args.specs.declared.call.Call.TheVariants.{Explain, Subnet, Version}
use Rattle.cli_args.specs.declared.call.Inspection.{Inspection}
use Rattle.cli_args.specs.declared.call.Inspection.TheVariants.{Graph, Keys, Load, LoadGraph, Tables, Trace}
use Rattle.cli_args.specs.declared.call.Work.{Work}
use Rattle.cli_args.specs.declared.call.Work.TheVariants as work
use Rattle.fabric_cli.specs.declared.faults.Stop.TheVariants.{Words, NoMemory, Unread, Unwritten, Run, Second, Unmanaged, Unheard, Unsent, Foreign}
use Rattle.fabric_cli.specs.declared.faults.ForeignCause.TheVariants.{Discovery, Dump, Import, Keys as KeysFault, Lanes as LanesFault, Masks, Replies, Smps}
use Rattle.smp_lines.specs.SmpLines.{Answered, answered}
use Rattle.fabric_cli.specs.declared.answering.Answer.{Answer}
use Rattle.fabric_cli.specs.declared.answering.Answer.TheVariants.{Complete, Warned}
use Rattle.fabric_parts.specs.declared.limits.Limits.TheVariants.{Large}
use Rattle.dump_file.specs.Dump.{DumpState, dump_of}
use Rattle.dump_file.specs.declared.fault.DumpCause.{DumpCause}
use Rattle.audit_routes.specs.Audit.{AuditState, audit, audit_discovery}
use Rattle.mft_file.specs.Mfts.{MftState, mfts_of}
use Rattle.mft_file.specs.declared.fault.MftCause.{MftCause}
use Rattle.audit_multicast.specs.Audit.{audit_multicast, audit_multicast_found}
use Rattle.sl2vl_file.specs.Lanes.{LanesState, lanes_of}
use Rattle.sl2vl_file.specs.declared.fault.LanesCause.{LanesCause}
use Rattle.audit_lanes.specs.Audit.{audit_lanes, audit_lanes_found}
use Rattle.audit_keys.specs.Text.{KeysAuditState, audit_without_partitions, keys_audit}
use Rattle.audit_loads.specs.Text.{load_text, load_text_found}
use Rattle.cli_args.specs.declared.call.DumpView.{DumpView}
use Rattle.cli_args.specs.declared.call.DumpView.TheVariants as dump_view
use Rattle.cli_args.specs.declared.call.ThirdFile.{ThirdFile}
use Rattle.cli_args.specs.declared.call.ThirdFile.TheVariants as third_file
use Rattle.fabric_cli.specs.declared.outputs.DumpOutput.{DumpOutput}
use Rattle.fabric_cli.specs.declared.outputs.DumpOutput.TheVariants as dump_output
use Rattle.fabric_cli.specs.declared.key_audits.KeysOutput.{KeysOutput}
use Rattle.fabric_cli.specs.declared.key_audits.KeysOutput.TheVariants as keys_output
use Rattle.pkeys_file.specs.Answers.{answers_of}
use Rattle.pkeys_file.specs.declared.answer.Answer.{Answer as KeysAnswer}
use Rattle.pkeys_file.specs.declared.fault.KeysCause.{KeysCause}
use Rattle.partition_file.specs.Partitions.{partitions_of}
use Rattle.partition_file.specs.Members.{no_file}
use Rattle.partition_file.specs.declared.fault.PartitionCause.{PartitionCause}
use Rattle.partition_file.specs.declared.partition.Partition.{Partition}
use Rattle.topo_file.specs.Fault.{code_of as topology_code}
use Rattle.topo_file.specs.declared.fault.TopologyCause.{TopologyCause}
use Rattle.netdiscover_file.specs.Discovery.{DiscoveryState, discovery_of, is_discovery}
use Rattle.netdiscover_file.specs.declared.fault.DiscoveryCause.{DiscoveryCause}
use Rattle.rooted_import.specs.Rooted.{rooted_import_of}
use Rattle.topology_import.specs.Import.{import_of}
use Rattle.topology_import.specs.declared.fault.ImportCause.{ImportCause}
use Rattle.fabric_cli.specs.Faults.{managed_line, foreign_line, line_of, status_of, memory_line, partitions_line, port_line, run_line, script_line, second_line, run_status, topology_line}
use Rattle.fabric_cli.specs.Faults.{unread_line, unwritten_line}
use Rattle.fabric_cli.specs.Files.{Contents, Opened, StopsAt}
use Rattle.cli_args.specs.Words.{Asking, Names, named_inspection, named_view, opened_for}

-- how an invocation ends: the arguments are refused, with this text if it is known; or an error's status and line; or a whole
-- output; or the whole audit of routes that are not safe, or of P_Key tables that do not follow the file; or the result of bring-up
-- by SMPs, with its error's line if there is one: of what is printed then nothing is said; or the line of a script's error, after
-- the report of the lines before it, or of a partition file's error, after what is said of P_Key tables without it
pub data Ending : Type 0 where
  refused : Option (List ℕ) → Ending
  faulted : ℕ → List ℕ → Ending
  complete : List ℕ → Ending
  warned : List ℕ → Ending
  managed : ℕ → List ℕ → Ending
  broken_off : (line output : List ℕ) → Ending

-- the bytes of the files, as lists
pub record Bytes : Type 0 where
  pub topology : List ℕ
  pub partitions : Option (List ℕ)
  pub work : Work (List ℕ) (List ℕ) (List ℕ)

-- what is left of an invocation once its files are read: these bytes are judged, or it has ended
pub data Judged : Type 0 where
  to_judge : Bytes → Judged
  ended : Ending → Judged

-- the work with the bytes of its files; a file that is read while it is carried out is open
abbrev pub OpenWork : Type 0 → Type 0
OpenWork I = Work (Bor (List ℕ)) (Vec ℕ Global) (OpenFile I)

abbrev pub bytes_work : {I : Type 0} → List ℕ → OpenWork I → Work (List ℕ) (List ℕ) (List ℕ)
bytes_work read (work.Check balanced) = work.Check balanced
bytes_work read (work.Shares port) = work.Shares (option_map (λ word. word.now) port)
bytes_work read (work.Diff second) = work.Diff (option_map (λ bytes. bytes.items) second)
bytes_work read (work.Inspect what before balanced) = work.Inspect (named_inspection what) (option_map (λ bytes. bytes.items) before) balanced
bytes_work read (work.Cuts view balanced) = work.Cuts (named_view view) balanced
bytes_work read (work.Run script) = work.Run read
bytes_work read (work.Smps before smps) = work.Smps (option_map (λ bytes. bytes.items) before) read
bytes_work read (work.Manage replies balanced) = work.Manage read balanced
bytes_work read (work.Compare first second port) = work.Compare first.items second.items port.now

abbrev pub texts_in : {I : Type 0} → List ℕ → Texts I → Bytes
texts_in read texts = record {
  topology = texts.topology.items;
  partitions = option_map (λ bytes. bytes.items) texts.partitions;
  work = bytes_work read texts.work;
}

-- the bytes of the open file, if they are known, or none if no file is open
abbrev pub left_in : {I : Type 0} → (I → Option (List ℕ)) → OpenWork I → Option (List ℕ)
left_in remaining (work.Run script) = remaining script.input
left_in remaining (work.Smps before smps) = remaining smps.input
left_in remaining (work.Manage replies balanced) = remaining replies.input
left_in remaining _ = Some []

-- these bytes, if they are known
abbrev pub script_in : {I : Type 0} → (I → Option (List ℕ)) → OpenWork I → List ℕ
script_in remaining asked = unwrap_or (left_in remaining asked) []

-- reading the file of this name stops only if a read of it may fail, or at bytes without an end
abbrev pub IsOpenAs : {I : Type 0} → (I → Option (List ℕ)) → (I → Bool) → OpenFile I → List ℕ → Type 0
IsOpenAs remaining is_sure file word = (word ≡ file.name.now) × (is_sure file.input ≡ true → IsEndless (remaining file.input))

-- the file of this name is open
abbrev pub IsOpenScript : {I : Type 0} → (I → Option (List ℕ)) → (I → Bool) → OpenWork I → List ℕ → Type 0
IsOpenScript remaining is_sure (work.Run script) word = IsOpenAs remaining is_sure script word
IsOpenScript remaining is_sure (work.Smps before smps) word = IsOpenAs remaining is_sure smps word
IsOpenScript remaining is_sure _ word = ⊥

-- these contents, to be checked
abbrev pub texts_with : List ℕ → Option (List ℕ) → Work (List ℕ) (List ℕ) (List ℕ) → Judged
texts_with topology partitions work = to_judge (record { topology = topology; partitions = partitions; work = work })

-- a name without a file cannot be read
abbrev pub opened_bytes : List ℕ → Option (List ℕ) → Result (List ℕ) Ending
opened_bytes name None = Err (faulted 3 (unread_line name))
opened_bytes name (Some bytes) = Ok bytes

abbrev pub bytes_of : Contents → List ℕ → Result (List ℕ) Ending
bytes_of file name = opened_bytes name (file name)

abbrev pub bytes_if_named : Contents → Option (List ℕ) → Result (Option (List ℕ)) Ending
bytes_if_named file None = Ok None
bytes_if_named file (Some name) = bytes_of file name >>= λ bytes. Ok (Some bytes)

abbrev pub work_of : Contents → Work (List ℕ) (List ℕ) (List ℕ) → Result (Work (List ℕ) (List ℕ) (List ℕ)) Ending
work_of file (work.Check balanced) = Ok (work.Check balanced)
work_of file (work.Shares port) = Ok (work.Shares port)
work_of file (work.Diff name) = bytes_if_named file name >>= λ bytes. Ok (work.Diff bytes)
work_of file (work.Inspect what script balanced) = bytes_if_named file script >>= λ bytes. Ok (work.Inspect what bytes balanced)
work_of file (work.Cuts view balanced) = Ok (work.Cuts view balanced)
work_of file (work.Run name) = bytes_of file name >>= λ bytes. Ok (work.Run bytes)
work_of file (work.Smps script name) = do
  before ← bytes_if_named file script
  bytes ← bytes_of file name
  Ok (work.Smps before bytes)
work_of file (work.Manage name balanced) = bytes_of file name >>= λ bytes. Ok (work.Manage bytes balanced)
work_of file (work.Compare first second port) = do
  bytes ← bytes_of file first
  others ← bytes_of file second
  Ok (work.Compare bytes others port)

-- all files are read before any of them is checked
abbrev pub texts_of : Contents → Names → Result Bytes Ending
texts_of file names = do
  topology ← bytes_of file names.topology
  partitions ← bytes_if_named file names.partitions
  work ← work_of file names.work
  Ok (record { topology = topology; partitions = partitions; work = work })

-- by which rule routes are
abbrev pub rule_of : (balanced : Bool) → TieRule
rule_of true = Balanced
rule_of false = LeastPort

abbrev pub asked_inventory : (balanced : Bool) → List ℕ → Option (List ℕ) → Result InventoryState RunFault
asked_inventory balanced topology partitions = inventory_by (rule_of balanced) topology partitions

-- the listing of a subnet, and the report of a script in it, unless this error stops bring-up
abbrev pub listed : (balanced : Bool) → List ℕ → Option (List ℕ) → Option RunFault → Result (List ℕ) RunFault
listed balanced topology partitions stop =
    up_from (asked_inventory balanced topology partitions) stop >>= λ inventory. Ok (listing_text inventory.configuration)

abbrev pub report_or_error : List ℕ → Option (List ℕ) → List ℕ → Option RunFault → Result (List ℕ) RunFault
report_or_error topology partitions script stop =
    report_of topology partitions script stop >>= λ reported. Ok (report_text reported.ports reported.events)

-- ---- a script, whose lines are reported one after the other: all of them, or those before the first with an error
abbrev pub script_reported : List ℕ → Result (List Command) (AtLine ScriptCause) → Ending
script_reported output (Ok commands) = complete output
script_reported output (Err at) = broken_off (script_line (script_code at.cause) at.line) output

abbrev pub run_in : Result InventoryState RunFault → List ℕ → Ending
run_in (Ok inventory) script = script_reported (reported_of_lines inventory (lines script)) (judged_lines inventory.plan (lines script))
run_in (Err fault) script = faulted (run_status fault) (run_line fault)

-- ---- two scripts, compared for a port
abbrev pub yes_or_no : Bool → List ℕ
yes_or_no truth = if truth then codes "yes" else codes "no"

abbrev pub comparison_text : Comparison → List ℕ
comparison_text comparison =
    codes "scripts agree: "
    ++ (yes_or_no comparison.scripts_agree ++ (codes "\nevents equal: " ++ (yes_or_no comparison.events_equal ++ codes "\n")))

-- if there are two runs, they are compared so
abbrev pub compared : Result TwoRunsState RunFault → Comparison → Result (List ℕ) RunFault
compared given comparison = given >>= λ runs. Ok (comparison_text comparison)

-- ---- of an error only its line is printed, and an output is whole
abbrev pub ending_by : Result (List ℕ) RunFault → Ending
ending_by (Ok output) = complete output
ending_by (Err fault) = faulted (run_status fault) (run_line fault)

-- the GUID of the port that an argument names, if it is given
abbrev pub asked_port : TopologyState → Option (List ℕ) → Result (Option ℕ) ScriptCause
asked_port plan None = Ok None
asked_port plan (Some word) = named_port plan word >>= λ guid. Ok (Some guid)

abbrev pub shares_reported : ConfigurationState → Result (Option ℕ) ScriptCause → Ending
shares_reported configuration (Ok asked) = complete (listed_shares asked configuration)
shares_reported configuration (Err cause) = faulted 1 (port_line (script_code cause))

-- the shares in a subnet of any size: the files are checked before the argument for a port
abbrev pub shares_in : Result InventoryState RunFault → Option (List ℕ) → Ending
shares_in (Ok inventory) port = shares_reported inventory.configuration (asked_port inventory.plan port)
shares_in (Err fault) port = faulted (run_status fault) (run_line fault)

-- what changes from one subnet to the other: the second partition file is checked after the first
abbrev pub second_reported : RunFault → Ending
second_reported (run.Partitions line cause) = faulted 1 (second_line (partitions_code cause) line)
second_reported fault = faulted (run_status fault) (run_line fault)

abbrev pub changes_in : Result InventoryState RunFault → Result InventoryState RunFault → Ending
changes_in (Ok before) (Ok after) = complete (listed_changes before.configuration after.configuration)
changes_in (Ok before) (Err fault) = second_reported fault
changes_in (Err fault) after = faulted (run_status fault) (run_line fault)

-- ---- what the fabric of a subnet holds, by its routes
-- the path of a packet: the fabric is brought up, and a script read, before the argument for its port is checked
abbrev pub traced : InventoryState → BroughtUpState → (dlid p_key : ℕ) → Result PortRef ScriptCause → Ending
traced inventory up dlid p_key (Ok from) = complete (trace_text inventory.plan.nodes up.fabric from dlid p_key)
traced inventory up dlid p_key (Err cause) = faulted 1 (port_line (script_code cause))

abbrev pub looked_at : InventoryState → BroughtUpState → Inspection (List ℕ) → Ending
looked_at inventory up Tables = complete (tables_text inventory.plan.nodes inventory.configuration.ports up.routes.graph.switches up.fabric)
looked_at inventory up Keys = complete (keys_text inventory.plan.nodes inventory.configuration.ports up.fabric)
looked_at inventory up (Trace port dlid p_key) = traced inventory up dlid p_key (adapter_place inventory.plan port)
looked_at inventory up Graph = complete (graph_text inventory.plan inventory.configuration up.routes up.fabric [])
looked_at inventory up (Load all) = complete (own_load_text inventory.plan inventory.configuration.ports up.routes.lids up.fabric all)
looked_at inventory up (LoadGraph all) =
    let looks = own_looks inventory.plan inventory.configuration.ports up.routes.lids up.fabric all in
    complete (graph_text inventory.plan inventory.configuration up.routes up.fabric looks)

-- ---- SMPs that its fabric answers, one after the other: all of them, or those before the first faulty line
abbrev pub smps_reported : List ℕ → Option ℕ → Ending
smps_reported output None = complete output
smps_reported output (Some line) = broken_off (foreign_line Smps line) output

abbrev pub smps_by : Answered → Ending
smps_by all = smps_reported all.output all.faulty

abbrev pub smps_seen : BroughtUpState → List ℕ → Ending
smps_seen up smps = smps_by (answered 1 up.fabric (lines smps))

-- ---- bring-up by SMPs: of a fabric that only answers them nothing is known, so it may be up, or any error may stop it
pub data ManageStop : Type 0 where
  of_fabric : RunFault → (place : List ℕ) → ManageStop
  of_line : ℕ → ManageStop

abbrev pub manage_line : ManageStop → List ℕ
manage_line (of_fabric fault place) = managed_line fault place
manage_line (of_line line) = foreign_line Replies line

abbrev pub managed_by : Option ManageStop → Ending
managed_by None = managed 0 []
managed_by (Some stop) = managed 1 (manage_line stop)

abbrev pub managed_in : Result InventoryState RunFault → Option ManageStop → Ending
managed_in (Ok inventory) stop = managed_by stop
managed_in (Err fault) stop = faulted (run_status fault) (run_line fault)

-- ---- what is seen of a fabric that is up, or after a script, or the script's error
abbrev pub seen_if_read : InventoryState → BroughtUpState → (InventoryState → BroughtUpState → Ending) → Result (List Command) (AtLine ScriptCause) → Ending
seen_if_read inventory up see (Ok commands) = see inventory up
seen_if_read inventory up see (Err at) = faulted 1 (script_line (script_code at.cause) at.line)

abbrev pub seen_by : InventoryState → BroughtUpState → (InventoryState → BroughtUpState → Ending) → Option (List ℕ) → Ending
seen_by inventory up see None = see inventory up
seen_by inventory up see (Some script) = seen_if_read inventory up see (commands_in inventory.plan script)

abbrev pub seen_in : InventoryState → (InventoryState → BroughtUpState → Ending) → Option (List ℕ) → Result BroughtUpState RunFault → Ending
seen_in inventory see script (Ok up) = seen_by inventory up see script
seen_in inventory see script (Err fault) = faulted (run_status fault) (run_line fault)

abbrev pub seen_after : Result InventoryState RunFault → (InventoryState → BroughtUpState → Ending) → Option (List ℕ) → Result BroughtUpState RunFault → Ending
seen_after (Ok inventory) see script outcome = seen_in inventory see script outcome
seen_after (Err fault) see script outcome = faulted (run_status fault) (run_line fault)

-- ---- a topology from the output of another program, without a subnet
abbrev pub imported_as : Result (List ℕ) (AtLine ImportCause) → Ending
imported_as (Ok text) = complete text
imported_as (Err at) = faulted 1 (foreign_line (Import at.cause) at.line)

-- with the top switches as roots, if they are asked for
abbrev pub imported_by : (roots : Bool) → DiscoveryState → Option ℕ → Result (List ℕ) (AtLine ImportCause)
imported_by true discovery manager = rooted_import_of discovery manager
imported_by false discovery manager = import_of discovery manager

abbrev pub imported_from : Option ℕ → (roots : Bool) → Result DiscoveryState (AtLine DiscoveryCause) → Ending
imported_from manager roots (Ok discovery) = imported_as (imported_by roots discovery manager)
imported_from manager roots (Err at) = faulted 1 (foreign_line (Discovery at.cause) at.line)

abbrev pub imported : Option ℕ → (roots : Bool) → List ℕ → Ending
imported manager roots text = imported_from manager roots (discovery_of text)

-- ---- the LFTs of the fabric of a topology or a discovery, which is not brought up
abbrev pub audit_ending : AuditState → Ending
audit_ending found = if found.is_safe then complete found.text else warned found.text

-- an output with what it comes to
abbrev pub dump_ending : DumpOutput → Ending
dump_ending (dump_output.Audited found) = audit_ending found
dump_ending (dump_output.Loaded text) = complete text.items

abbrev pub plan_ending : DumpView → TopologyState → DumpState → Ending
plan_ending (dump_view.Audit all) plan dump = audit_ending (audit all plan dump)
plan_ending dump_view.Load plan dump = complete (load_text plan dump)

abbrev pub found_ending : DumpView → DiscoveryState → DumpState → Ending
found_ending (dump_view.Audit all) found dump = audit_ending (audit_discovery all found dump)
found_ending dump_view.Load found dump = complete (load_text_found found dump)

abbrev pub viewed_by : DumpView → TopologyState → Result DumpState (AtLine DumpCause) → Ending
viewed_by view plan (Ok dump) = plan_ending view plan dump
viewed_by view plan (Err at) = faulted 1 (foreign_line (Dump at.cause) at.line)

-- the topology is checked before the dump
abbrev pub viewed_over : DumpView → Result TopologyState (AtLine TopologyCause) → List ℕ → Ending
viewed_over view (Ok plan) dump = viewed_by view plan (dump_of dump)
viewed_over view (Err at) dump = faulted 1 (topology_line (topology_code at.cause) at.line)

abbrev pub viewed_of : DumpView → DiscoveryState → Result DumpState (AtLine DumpCause) → Ending
viewed_of view found (Ok dump) = found_ending view found dump
viewed_of view found (Err at) = faulted 1 (foreign_line (Dump at.cause) at.line)

abbrev pub viewed_from : DumpView → Result DiscoveryState (AtLine DiscoveryCause) → List ℕ → Ending
viewed_from view (Ok found) dump = viewed_of view found (dump_of dump)
viewed_from view (Err at) dump = faulted 1 (foreign_line (Discovery at.cause) at.line)

-- a text that heads a node as `ibnetdiscover` does is a discovery, any other a topology
abbrev pub viewed : DumpView → List ℕ → List ℕ → Ending
viewed view fabric dump =
    if is_discovery fabric then viewed_from view (discovery_of fabric) dump else viewed_over view (topology_within Large fabric) dump

-- ---- its LFTs and what a third file has: the fabric is checked before the dump, and the dump before that file
abbrev pub multicast_by : (all : Bool) → TopologyState → DumpState → Result MftState (AtLine MftCause) → Ending
multicast_by all plan dump (Ok mfts) = audit_ending (audit_multicast all plan dump mfts)
multicast_by all plan dump (Err at) = faulted 1 (foreign_line (Masks at.cause) at.line)

abbrev pub lanes_by : (all : Bool) → TopologyState → DumpState → Result LanesState (AtLine LanesCause) → Ending
lanes_by all plan dump (Ok lanes) = audit_ending (audit_lanes all plan dump lanes)
lanes_by all plan dump (Err at) = faulted 1 (foreign_line (LanesFault at.cause) at.line)

abbrev pub three_by : ThirdFile → TopologyState → DumpState → List ℕ → Ending
three_by (third_file.Mfts all) plan dump file = multicast_by all plan dump (mfts_of file)
three_by (third_file.Lanes all) plan dump file = lanes_by all plan dump (lanes_of file)

abbrev pub three_with : ThirdFile → TopologyState → Result DumpState (AtLine DumpCause) → List ℕ → Ending
three_with third plan (Ok dump) file = three_by third plan dump file
three_with third plan (Err at) file = faulted 1 (foreign_line (Dump at.cause) at.line)

abbrev pub three_over : ThirdFile → Result TopologyState (AtLine TopologyCause) → (dump file : List ℕ) → Ending
three_over third (Ok plan) dump file = three_with third plan (dump_of dump) file
three_over third (Err at) dump file = faulted 1 (topology_line (topology_code at.cause) at.line)

abbrev pub found_multicast_by : (all : Bool) → DiscoveryState → DumpState → Result MftState (AtLine MftCause) → Ending
found_multicast_by all found dump (Ok mfts) = audit_ending (audit_multicast_found all found dump mfts)
found_multicast_by all found dump (Err at) = faulted 1 (foreign_line (Masks at.cause) at.line)

abbrev pub found_lanes_by : (all : Bool) → DiscoveryState → DumpState → Result LanesState (AtLine LanesCause) → Ending
found_lanes_by all found dump (Ok lanes) = audit_ending (audit_lanes_found all found dump lanes)
found_lanes_by all found dump (Err at) = faulted 1 (foreign_line (LanesFault at.cause) at.line)

abbrev pub found_three_by : ThirdFile → DiscoveryState → DumpState → List ℕ → Ending
found_three_by (third_file.Mfts all) found dump file = found_multicast_by all found dump (mfts_of file)
found_three_by (third_file.Lanes all) found dump file = found_lanes_by all found dump (lanes_of file)

abbrev pub found_three_with : ThirdFile → DiscoveryState → Result DumpState (AtLine DumpCause) → List ℕ → Ending
found_three_with third found (Ok dump) file = found_three_by third found dump file
found_three_with third found (Err at) file = faulted 1 (foreign_line (Dump at.cause) at.line)

abbrev pub three_from : ThirdFile → Result DiscoveryState (AtLine DiscoveryCause) → (dump file : List ℕ) → Ending
three_from third (Ok found) dump file = found_three_with third found (dump_of dump) file
three_from third (Err at) dump file = faulted 1 (foreign_line (Discovery at.cause) at.line)

abbrev pub three_viewed : ThirdFile → (fabric dump file : List ℕ) → Ending
three_viewed third fabric dump file =
    if is_discovery fabric then three_from third (discovery_of fabric) dump file else three_over third (topology_within Large fabric) dump file

-- ---- the P_Key tables of a discovery's fabric, which is not brought up, against a partition file
abbrev pub keys_ending : KeysAuditState → Ending
keys_ending found = if found.is_clean then complete found.text else warned found.text

-- without a file there is the default partition alone
abbrev pub partitions_given : Option (List ℕ) → Result (List Partition) (AtLine PartitionCause)
partitions_given (Some text) = partitions_of text
partitions_given None = Ok no_file

-- if the partition file has an error, what is said of the tables without it is printed before the error
abbrev pub keys_refused : (said : List ℕ) → (line : ℕ) → PartitionCause → Ending
keys_refused said line cause =
    if length said == 0 then faulted 1 (partitions_line (partitions_code cause) line) else broken_off (partitions_line (partitions_code cause) line) said

-- an output with what it comes to
abbrev pub keys_output_ending : KeysOutput → Ending
keys_output_ending (keys_output.Audited found) = keys_ending found
keys_output_ending (keys_output.Unjudged said line cause) = broken_off (partitions_line (partitions_code cause) line) said.items

abbrev pub keys_by : (all : Bool) → TopologyState → DiscoveryState → List KeysAnswer → Result (List Partition) (AtLine PartitionCause) → Ending
keys_by all plan discovery answers (Ok partitions) = keys_ending (keys_audit plan discovery answers partitions all)
keys_by all plan discovery answers (Err at) = keys_refused (audit_without_partitions plan discovery answers) at.line at.cause

abbrev pub keys_over : (all : Bool) → TopologyState → DiscoveryState → Option (List ℕ) → Result (List KeysAnswer) (AtLine KeysCause) → Ending
keys_over all plan discovery partitions (Ok answers) = keys_by all plan discovery answers (partitions_given partitions)
keys_over all plan discovery partitions (Err at) = faulted 1 (foreign_line (KeysFault at.cause) at.line)

-- the text of an import is read as a topology, so it has no error here
abbrev pub keys_in_topology : (all : Bool) → DiscoveryState → (pkeys : List ℕ) → Option (List ℕ) → Result TopologyState (AtLine TopologyCause) → Ending
keys_in_topology all discovery pkeys partitions (Ok plan) = keys_over all plan discovery partitions (answers_of pkeys)
keys_in_topology all discovery pkeys partitions (Err at) = faulted 1 (topology_line (topology_code at.cause) at.line)

abbrev pub keys_of_import : (all : Bool) → DiscoveryState → (pkeys : List ℕ) → Option (List ℕ) → Result (List ℕ) (AtLine ImportCause) → Ending
keys_of_import all discovery pkeys partitions (Ok text) = keys_in_topology all discovery pkeys partitions (topology_within Large text)
keys_of_import all discovery pkeys partitions (Err at) = faulted 1 (foreign_line (Import at.cause) at.line)

abbrev pub keys_of_discovery : Option ℕ → (all : Bool) → (pkeys : List ℕ) → Option (List ℕ) → Result DiscoveryState (AtLine DiscoveryCause) → Ending
keys_of_discovery manager all pkeys partitions (Ok discovery) = keys_of_import all discovery pkeys partitions (import_of discovery manager)
keys_of_discovery manager all pkeys partitions (Err at) = faulted 1 (foreign_line (Discovery at.cause) at.line)

-- the discovery is checked before the answers, and these before the partitions
abbrev pub keys_audited : Option ℕ → (all : Bool) → (netdiscover pkeys : List ℕ) → Option (List ℕ) → Ending
keys_audited manager all netdiscover pkeys partitions = keys_of_discovery manager all pkeys partitions (discovery_of netdiscover)

-- ---- what the loss of cables would do: the fabric is brought up before the arguments for one are checked
-- of all cables, of the one between two given ports, or as a picture
abbrev pub cut_judged : List ℕ → Result Cable ScriptCause → Ending
cut_judged reported (Ok cable) = complete reported
cut_judged reported (Err cause) = faulted 1 (port_line (script_code cause))

abbrev pub cut_reported : TopologyState → List ℕ → CutView (List ℕ) → Ending
cut_reported plan reported All = complete reported
cut_reported plan reported (One first second) = cut_judged reported (named_cable plan first second)
cut_reported plan reported Picture = complete reported

abbrev pub cuts_in : Result InventoryState RunFault → CutView (List ℕ) → List ℕ → Ending
cuts_in (Ok inventory) view reported = cut_reported inventory.plan reported view
cuts_in (Err fault) view reported = faulted (run_status fault) (run_line fault)

-- the picture, with the cables in red that the fabric cannot do without
pub record ShowsNeeded (inventory : InventoryState) (up : BroughtUpState) (reported : List ℕ) : Type 0 where
  pub needed : List Bool
  pub are : AreNeeded inventory.plan inventory.plan.cables needed
  pub is : reported ≡ graph_text inventory.plan inventory.configuration up.routes up.fabric (map needed_look needed)

-- these routes brought the fabric up, and this is printed about its cables
abbrev pub ReportsCuts : InventoryState → BroughtUpState → CutView (List ℕ) → List ℕ → Type 0
ReportsCuts inventory up All reported = ReportsAll inventory.plan inventory.configuration up.routes reported
ReportsCuts inventory up (One first second) reported =
    IfOk (named_cable inventory.plan first second) (λ cable. ReportsOne inventory.plan inventory.configuration up.routes cable reported)
ReportsCuts inventory up Picture reported = ShowsNeeded inventory up reported

-- without a fabric this holds of nothing
abbrev pub CutsAreReported : Result InventoryState RunFault → Result BroughtUpState RunFault → CutView (List ℕ) → List ℕ → Type 0
CutsAreReported (Ok inventory) (Ok up) view reported = ReportsCuts inventory up view reported
CutsAreReported _ _ view reported = Unit {0}

-- ---- all of it
-- what depends on a fabric besides its state: the comparison of two runs, and what is printed about cables
pub record Finding : Type 0 where
  pub comparison : Comparison
  pub cuts : List ℕ
  pub managed : Option ManageStop

-- by what becomes of the fabric: it is up, or this error stops bring-up; and by what depends on it
abbrev pub ending_over : List ℕ → Option (List ℕ) → Work (List ℕ) (List ℕ) (List ℕ) → Result BroughtUpState RunFault → Finding → Ending
ending_over topology partitions (work.Check balanced) outcome finding = ending_by (listed balanced topology partitions (stop_of outcome))
ending_over topology partitions (work.Shares port) outcome finding = shares_in (large_inventory_of topology partitions) port
ending_over topology partitions (work.Diff second) outcome finding =
    changes_in (large_inventory_of topology partitions) (large_inventory_of topology second)
ending_over topology partitions (work.Inspect what script balanced) outcome finding =
    seen_after (asked_inventory balanced topology partitions) (λ inventory up. looked_at inventory up what) script outcome
ending_over topology partitions (work.Cuts view balanced) outcome finding =
    cuts_in (up_from (asked_inventory balanced topology partitions) (stop_of outcome)) view finding.cuts
ending_over topology partitions (work.Run script) outcome finding =
    run_in (up_from (inventory_of topology partitions) (stop_of outcome)) script
ending_over topology partitions (work.Smps script smps) outcome finding =
    seen_after (inventory_of topology partitions) (λ inventory up. smps_seen up smps) script outcome
ending_over topology partitions (work.Manage replies balanced) outcome finding =
    managed_in (asked_inventory balanced topology partitions) finding.managed
ending_over topology partitions (work.Compare first second port) outcome finding =
    ending_by (compared (two_runs_of topology partitions first second port (stop_of outcome)) finding.comparison)

-- shares and changes need no fabric
abbrev pub Comes : List ℕ → Option (List ℕ) → Work (List ℕ) (List ℕ) (List ℕ) → Result BroughtUpState RunFault → Finding → Type 0
Comes topology partitions (work.Check balanced) outcome finding = Turns (asked_inventory balanced topology partitions) outcome
Comes topology partitions (work.Shares port) outcome finding = Unit {0}
Comes topology partitions (work.Diff second) outcome finding = Unit {0}
Comes topology partitions (work.Inspect what script balanced) outcome finding =
    TurnsAfter (asked_inventory balanced topology partitions) script outcome
Comes topology partitions (work.Cuts view balanced) outcome finding =
    Turns (asked_inventory balanced topology partitions) outcome
    × CutsAreReported (asked_inventory balanced topology partitions) outcome view finding.cuts
Comes topology partitions (work.Run script) outcome finding = Turns (inventory_of topology partitions) outcome
Comes topology partitions (work.Smps script smps) outcome finding = TurnsAfter (inventory_of topology partitions) script outcome
Comes topology partitions (work.Manage replies balanced) outcome finding = Unit {0}
Comes topology partitions (work.Compare first second port) outcome finding =
    Turns (inventory_of topology partitions) outcome
    × IfOk (two_runs_of topology partitions first second port (stop_of outcome)) (λ runs. Compares runs finding.comparison)

-- this holds of the ending for these files and their fabric
pub record ForTexts (texts : Bytes) (Is : Ending → Type 0) : Type 0 where
  pub outcome : Result BroughtUpState RunFault
  pub finding : Finding
  pub comes : Comes texts.topology texts.partitions texts.work outcome finding
  pub is : Is (ending_over texts.topology texts.partitions texts.work outcome finding)

-- this holds of how an invocation ends: for these files, or in an ending that is known without them
abbrev pub ForEnding : Judged → (Ending → Type 0) → Type 0
ForEnding (to_judge texts) Is = ForTexts texts Is
ForEnding (ended ending) Is = Is ending

-- a file that cannot be read ends an invocation
abbrev pub judged_if_read : Result Bytes Ending → Judged
judged_if_read (Ok texts) = to_judge texts
judged_if_read (Err ending) = ended ending

abbrev pub import_of_file : Option ℕ → (roots : Bool) → Result (List ℕ) Ending → Ending
import_of_file manager roots (Ok text) = imported manager roots text
import_of_file manager roots (Err ending) = ending

abbrev pub view_of_files : DumpView → Result (List ℕ) Ending → Result (List ℕ) Ending → Ending
view_of_files view (Ok fabric) (Ok tables) = viewed view fabric tables
view_of_files view (Ok fabric) (Err ending) = ending
view_of_files view (Err ending) tables = ending

abbrev pub three_of_files : ThirdFile → Result (List ℕ) Ending → Result (List ℕ) Ending → Result (List ℕ) Ending → Ending
three_of_files third (Ok fabric) (Ok dump) (Ok file) = three_viewed third fabric dump file
three_of_files third (Ok fabric) (Ok dump) (Err ending) = ending
three_of_files third (Ok fabric) (Err ending) file = ending
three_of_files third (Err ending) dump file = ending

abbrev pub keys_of_files : Option ℕ → (all : Bool) → Result (List ℕ) Ending → Result (List ℕ) Ending → Result (Option (List ℕ)) Ending → Ending
keys_of_files manager all (Ok netdiscover) (Ok pkeys) (Ok partitions) = keys_audited manager all netdiscover pkeys partitions
keys_of_files manager all (Ok netdiscover) (Ok pkeys) (Err ending) = ending
keys_of_files manager all (Ok netdiscover) (Err ending) partitions = ending
keys_of_files manager all (Err ending) pkeys partitions = ending

-- what is checked in an invocation that asks for this, if each name opens to the bytes of `file`
abbrev pub judged_for : Contents → Asking → Judged
judged_for file (Err shown) = ended (refused shown)
judged_for file (Ok (Subnet names)) = judged_if_read (texts_of file names)
judged_for file (Ok (call.Import netdiscover manager roots)) = ended (import_of_file manager roots (bytes_of file netdiscover))
judged_for file (Ok (call.Dumped view fabric dump)) = ended (view_of_files view (bytes_of file fabric) (bytes_of file dump))
judged_for file (Ok (call.AuditThree third fabric dump name)) = ended (three_of_files third (bytes_of file fabric) (bytes_of file dump) (bytes_of file name))
judged_for file (Ok (call.AuditKeys netdiscover pkeys partitions manager all)) =
    ended (keys_of_files manager all (bytes_of file netdiscover) (bytes_of file pkeys) (bytes_if_named file partitions))
judged_for file (Ok (Explain code)) = ended (complete (explained code))
judged_for file (Ok Version) = ended (complete version_line)

-- what is to be done, whatever its files contain
abbrev pub without_files : {W S R : Type 0} → Work W S R → Work W (Unit {0}) (Unit {0})
without_files (work.Check balanced) = work.Check balanced
without_files (work.Shares port) = work.Shares port
without_files (work.Diff second) = work.Diff (option_map (λ file. tt) second)
without_files (work.Inspect what script balanced) = work.Inspect what (option_map (λ file. tt) script) balanced
without_files (work.Cuts view balanced) = work.Cuts view balanced
without_files (work.Run script) = work.Run tt
without_files (work.Smps script smps) = work.Smps (option_map (λ file. tt) script) tt
without_files (work.Manage replies balanced) = work.Manage tt balanced
without_files (work.Compare first second port) = work.Compare tt tt port

-- bytes for each of the files that are needed, and for no other
abbrev pub AreFor : Names → Bytes → Type 0
AreFor names texts = (is_some texts.partitions ≡ is_some names.partitions) × (without_files texts.work ≡ without_files names.work)

-- this holds if each needed file had some bytes; a name that is needed twice may have had two contents
abbrev pub ForSomeBytes : Asking → (Judged → Type 0) → Type 0
ForSomeBytes (Err shown) Is = Is (ended (refused shown))
ForSomeBytes (Ok (Subnet names)) Is = (texts : Bytes) × AreFor names texts × Is (to_judge texts)
ForSomeBytes (Ok (call.Import netdiscover manager roots)) Is = (text : List ℕ) × Is (ended (imported manager roots text))
ForSomeBytes (Ok (call.Dumped view fabric dump)) Is = (plan tables : List ℕ) × Is (ended (viewed view plan tables))
ForSomeBytes (Ok (call.AuditThree third fabric dump name)) Is = (plan tables file : List ℕ) × Is (ended (three_viewed third plan tables file))
ForSomeBytes (Ok (call.AuditKeys netdiscover pkeys partitions manager all)) Is =
    (found answers : List ℕ) × (parts : Option (List ℕ)) × (is_some parts ≡ is_some partitions) × Is (ended (keys_audited manager all found answers parts))
ForSomeBytes (Ok (Explain code)) Is = Is (ended (complete (explained code)))
ForSomeBytes (Ok Version) Is = Is (ended (complete version_line))

-- the text is the known one
abbrev pub IsKnown : Option (List ℕ) → List ℕ → Type 0
IsKnown shown text = IfSome shown (λ known. text ≡ known)

-- the contents grew by one text, which is the known one
abbrev pub AppendsKnown : Option (List ℕ) → Option (List ℕ) → Option (List ℕ) → Type 0
AppendsKnown shown old new = (text : List ℕ) × IsKnown shown text × Appends old new text

-- the exit status, and how the two outputs grow. If the arguments are refused, standard error gets one text
abbrev pub Ends : Ending → ℕ → Option (List ℕ) → Option (List ℕ) → Option (List ℕ) → Option (List ℕ) → Type 0
Ends (refused shown) status out out' err err' = (status ≡ 2) × Keeps out out' × AppendsKnown shown err err'
Ends (faulted fault line) status out out' err err' = (status ≡ fault) × Keeps out out' × Appends err err' line
Ends (complete output) status out out' err err' = (status ≡ 0) × Appends out out' output × Keeps err err'
Ends (warned output) status out out' err err' = (status ≡ 1) × Appends out out' output × Keeps err err'
Ends (managed fault line) status out out' err err' = (status ≡ fault) × Appends err err' line
Ends (broken_off fault output) status out out' err err' = (status ≡ 1) × Appends out out' output × Appends err err' fault

-- an invocation that checks this ends so
abbrev pub EndsAs : Judged → ℕ → (out out' err err' : Option (List ℕ)) → Type 0
EndsAs judged status out out' err err' = ForEnding judged (λ ending. Ends ending status out out' err err')

-- what goes to standard output if all of it can be written
abbrev pub output_in : Ending → List ℕ
output_in (refused shown) = []
output_in (faulted fault line) = []
output_in (complete output) = output
output_in (warned output) = output
output_in (managed fault line) = []
output_in (broken_off fault output) = output

-- a beginning of it was written; of bring-up by SMPs nothing is said
abbrev pub GrowsPartly : Ending → (out out' : Option (List ℕ)) → Type 0
GrowsPartly (managed fault line) out out' = Unit {0}
GrowsPartly ending out out' = AppendsPart out out' (output_in ending)

-- and this was written, whatever failed: nothing, or a beginning of the output
abbrev pub AppendsSome : Judged → Option (List ℕ) → Option (List ℕ) → Type 0
AppendsSome judged out out' = Keeps out out' ⊎ ForEnding judged (λ ending. GrowsPartly ending out out')

-- the line that is printed, completely or in part, if an invocation could not end so: that an output which may fail was not
-- written, completely or up to a script's error; or the line of the error itself, at which standard error failed (also after
-- all of it was written, if the flush fails); if the arguments are refused, the text of that; in bring-up by SMPs any of
-- these may be, and that replies end or cannot be read
abbrev pub IsLineOf : (out_is_sure err_is_sure : Bool) → Ending → List ℕ → Type 0
IsLineOf out_is_sure err_is_sure (refused shown) line = IsKnown shown line × (err_is_sure ≢ true)
IsLineOf out_is_sure err_is_sure (faulted status fault) line = (line ≡ fault) × (err_is_sure ≢ true)
IsLineOf out_is_sure err_is_sure (complete output) line = (line ≡ unwritten_line) × (out_is_sure ≢ true)
IsLineOf out_is_sure err_is_sure (warned output) line = (line ≡ unwritten_line) × (out_is_sure ≢ true)
IsLineOf out_is_sure err_is_sure (managed status fault) line =
    ((line ≡ fault) × (err_is_sure ≢ true)) ⊎ ((line ≡ unwritten_line) ⊎ ((name : List ℕ) × (line ≡ unread_line name)))
IsLineOf out_is_sure err_is_sure (broken_off fault output) line =
    ((line ≡ fault) × (err_is_sure ≢ true)) ⊎ ((line ≡ unwritten_line) × (out_is_sure ≢ true))

-- the line for a file at which reading stopped
abbrev pub IsUnreadLine : Contents → Bool → Opened → Opened → List (List ℕ) → List ℕ → Type 0
IsUnreadLine file reads old new names line = (name : List ℕ) × StopsAt file reads old new names name × (line ≡ unread_line name)

-- status 3: standard error has some beginning of a line, and all of it if it does not fail: the line for out of memory, for a
-- file that cannot be read or for output that cannot be written, or the line of an error at which it failed itself
pub record IsRefused (file : Contents) (reads : Bool) (old new : Opened) (names : List (List ℕ))
    (judged : Judged) (out_is_sure err_is_sure : Bool) (err err' : Option (List ℕ)) : Type 0 where
  pub line : List ℕ
  pub is : (line ≡ memory_line)
      ⊎ (IsUnreadLine file reads old new names line ⊎ ForEnding judged (λ ending. IsLineOf out_is_sure err_is_sure ending line))
  pub reported : Writes err_is_sure err err' line

-- why there is no output, unless the machine fails; every error of a file or of its fabric has status 1
abbrev pub RunStops : Judged → RunFault → Type 0
RunStops judged run.NoMemory = Unit {0}
RunStops judged fault = (run_status fault ≡ 1) × ForEnding judged (λ ending. ending ≡ faulted 1 (run_line fault))

-- an error of the second partition file, which has no other
abbrev pub second_stop : RunFault → Stop
second_stop (run.Partitions line cause) = Second line cause
second_stop fault = Run fault

-- an error in the output of another program
abbrev pub discovery_stop : TextFault DiscoveryCause → Stop
discovery_stop of_text.NoMemory = NoMemory
discovery_stop (of_text.At line cause) = Foreign line (Discovery cause)

abbrev pub import_stop : TextFault ImportCause → Stop
import_stop of_text.NoMemory = NoMemory
import_stop (of_text.At line cause) = Foreign line (Import cause)

-- an error of a topology whose fabric is not brought up
abbrev pub topology_stop : TextFault TopologyCause → Stop
topology_stop of_text.NoMemory = NoMemory
topology_stop (of_text.At line cause) = Run (run.Topology line cause)

abbrev pub dump_stop : TextFault DumpCause → Stop
dump_stop of_text.NoMemory = NoMemory
dump_stop (of_text.At line cause) = Foreign line (Dump cause)

abbrev pub mfts_stop : TextFault MftCause → Stop
mfts_stop of_text.NoMemory = NoMemory
mfts_stop (of_text.At line cause) = Foreign line (Masks cause)

abbrev pub lanes_stop : TextFault LanesCause → Stop
lanes_stop of_text.NoMemory = NoMemory
lanes_stop (of_text.At line cause) = Foreign line (LanesFault cause)

abbrev pub keys_stop : TextFault KeysCause → Stop
keys_stop of_text.NoMemory = NoMemory
keys_stop (of_text.At line cause) = Foreign line (KeysFault cause)

-- arguments are refused, with this text
abbrev pub IsRefusal : Ending → List ℕ → Type 0
IsRefusal (refused shown) text = IsKnown shown text
IsRefusal _ text = ⊥

abbrev pub Stops : Judged → Stop → Type 0
Stops judged (Words text) = ForEnding judged (λ ending. IsRefusal ending (string_bytes text))
Stops judged NoMemory = Unit {0}
Stops judged (Unread name) = Unit {0}
Stops judged Unwritten = ⊥
Stops judged (Run fault) = RunStops judged fault
Stops judged (Second line cause) = ForEnding judged (λ ending. ending ≡ faulted 1 (second_line (partitions_code cause) line))
Stops judged (Unmanaged fault place) = ⊥
Stops judged (Unheard name) = ⊥
Stops judged Unsent = ⊥
Stops judged (Foreign line cause) = ForEnding judged (λ ending. ending ≡ faulted 1 (foreign_line cause line))

-- of a stop its line is printed, and with its status if the line can be written
pub record ReportsStop (stop : Stop) (answer : ℕ) (is_sure : Bool) (err err' : Option (List ℕ)) : Type 0 where
  pub reported : Writes is_sure err err' (line_of stop)
  pub status : is_sure ≡ true → answer ≡ status_of stop

-- files are read to their end before anything is printed about them
abbrev pub IsReportedStop : Stop → Type 0
IsReportedStop (Words text) = Unit {0}
IsReportedStop (Run fault) = Unit {0}
IsReportedStop (Second line cause) = Unit {0}
IsReportedStop (Unmanaged fault place) = Unit {0}
IsReportedStop (Foreign line cause) = Unit {0}
IsReportedStop _ = ⊥

abbrev pub IsReported : {X : Type 0} → Result X Stop → Type 0
IsReported (Ok output) = Unit {0}
IsReported (Err stop) = IsReportedStop stop

-- an output has this ending, and a stop its line
abbrev pub EndsIn : {X : Type 0} → (X → Ending) → Judged → Result X Stop → Type 0
EndsIn view judged (Ok made) = ForEnding judged (λ ending. ending ≡ view made)
EndsIn view judged (Err stop) = Stops judged stop

-- an output as it is
abbrev pub ComesTo : {X : Type 0} → (X → List ℕ) → Judged → Result X Stop → Type 0
ComesTo view judged result = EndsIn (λ output. complete (view output)) judged result

-- no cable connects the given ports, whatever would be printed about one
pub record NamesNoCable (plan : TopologyState) (view : CutView (List ℕ)) (stop : Stop) : Type 0 where
  pub cause : ScriptCause
  pub stop_is : stop ≡ Run (run.Port cause)
  pub first : List ℕ
  pub second : List ℕ
  pub view_is : view ≡ One first second
  pub named : named_cable plan first second ≡ Err cause

-- the cables of a fabric that is up are reported, unless an allocation fails or no cable is named
abbrev pub CutComes : InventoryState → BroughtUpState → CutView (List ℕ) → Result (Vec ℕ Global) Stop → Type 0
CutComes inventory up view (Ok text) = ReportsCuts inventory up view text.items × (cut_reported inventory.plan text.items view ≡ complete text.items)
CutComes inventory up view (Err stop) = (stop ≡ NoMemory) ⊎ NamesNoCable inventory.plan view stop

-- ---- and with the output written
-- a whole output, by its result
abbrev pub ending_of : Answer → List ℕ → Ending
ending_of Complete output = complete output
ending_of Warned output = warned output

abbrev pub status_in : Answer → ℕ
status_in Complete = 0
status_in Warned = 1

-- all of it was written, with this result
abbrev pub GoesOut : Answer → Ending → (out out' : Option (List ℕ)) → Type 0
GoesOut Complete (complete output) out out' = Appends out out' output
GoesOut Warned (warned output) out out' = Appends out out' output
GoesOut Complete (managed status line) out out' = (status ≡ 0) × (line ≡ [])
GoesOut _ _ out out' = ⊥

-- a beginning of it was
abbrev pub GoesPartly : Ending → (out out' : Option (List ℕ)) → Type 0
GoesPartly (complete output) out out' = AppendsPart out out' output
GoesPartly (warned output) out out' = AppendsPart out out' output
GoesPartly (broken_off fault output) out out' = AppendsPart out out' output
GoesPartly _ out out' = ⊥

-- it ends with this stop, after what was written
abbrev pub BreaksOff : Stop → Ending → (out out' : Option (List ℕ)) → Type 0
BreaksOff stop (broken_off fault output) out out' = (line_of stop ≡ fault) × (status_of stop ≡ 1) × Appends out out' output
BreaksOff stop (managed status line) out out' = (line_of stop ≡ line) × (status_of stop ≡ 1) × (status ≡ 1)
BreaksOff stop _ out out' = ⊥

-- it ends in bring-up by SMPs
abbrev pub IsOfManage : Ending → Type 0
IsOfManage (managed status line) = Unit {0}
IsOfManage _ = ⊥

-- it stops, with the output up to there written
abbrev pub StopsBehind : Judged → Stop → (out_is_sure : Bool) → (out out' : Option (List ℕ)) → Type 0
StopsBehind judged NoMemory out_is_sure out out' = AppendsSome judged out out'
StopsBehind judged (Unread name) out_is_sure out out' = AppendsSome judged out out'
StopsBehind judged Unwritten out_is_sure out out' = (out_is_sure ≢ true) × ForEnding judged (λ ending. GoesPartly ending out out')
StopsBehind judged (Unheard name) out_is_sure out out' = ForEnding judged IsOfManage
StopsBehind judged Unsent out_is_sure out out' = ForEnding judged IsOfManage
StopsBehind judged stop out_is_sure out out' =
    (Stops judged stop × Keeps out out') ⊎ ForEnding judged (λ ending. BreaksOff stop ending out out')

-- it has this result, with the output written: all of it, or up to the stop
abbrev pub Answers : Judged → Result Answer Stop → (out_is_sure : Bool) → (out out' : Option (List ℕ)) → Type 0
Answers judged (Ok answer) out_is_sure out out' = ForEnding judged (λ ending. GoesOut answer ending out out')
Answers judged (Err stop) out_is_sure out out' = StopsBehind judged stop out_is_sure out out'

-- this holds of some script, and of this one if its bytes are known
abbrev pub OfScript : Option (List ℕ) → (List ℕ → Type 0) → Type 0
OfScript known Is = (script : List ℕ) × IfSome known (λ all. script ≡ all) × Is script

-- ---- of an invocation that asks for this, if the contents of the files are known
abbrev pub EndsFor : Asking → Option Contents → ℕ → (out out' err err' : Option (List ℕ)) → Type 0
EndsFor asked reported status out out' err err' = IfSome reported (λ file. EndsAs (judged_for file asked) status out out' err err')

abbrev pub IsRefusedFor : Asking → Option Contents → Bool → (old new : Opened) → (out_is_sure err_is_sure : Bool)
    → (err err' : Option (List ℕ)) → Type 0
IsRefusedFor asked reported reads old new out_is_sure err_is_sure err err' =
    IfSome reported (λ file. IsRefused file reads old new (opened_for asked) (judged_for file asked) out_is_sure err_is_sure err err')

abbrev pub AppendsSomeFor : Asking → Option Contents → (out out' : Option (List ℕ)) → Type 0
AppendsSomeFor asked reported out out' = IfSome reported (λ file. AppendsSome (judged_for file asked) out out')
