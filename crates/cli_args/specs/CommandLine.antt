-- The commands of the program and their arguments, as clap reads them.
use Rattle.std.specs.Prelude.{◌≡◌, codes, IfOk, Result, Some, true}
use Rattle.clap.specs.Words.{App, Rule, Text, app_of, new_app, new_rule, with_rule, with_subcommand}
use Rattle.clap.specs.declared.builder.command.Command.{Command}
use Rattle.clap.specs.declared.builder.ArgAction.TheVariants.{Set, SetTrue}

-- the command, if there is one, takes these words
abbrev pub Reads : {E : Type 0} → Result Command E → App → Type 0
Reads command app = IfOk command (λ made. app_of made ≡ app)

-- an argument that has to be given
abbrev pub wanted : Text → Rule
wanted name = record (new_rule name) { action = Some Set; required = true }

-- an argument that may be given
abbrev pub optional : Text → Rule
optional name = record (new_rule name) { action = Some Set }

-- a command that names a subnet by its topology and its partitions
abbrev pub subnet_command : Text → App
subnet_command name = with_rule (with_rule (new_app name) (wanted (codes "TOPO"))) (wanted (codes "PARTS"))

-- `--balanced`
abbrev pub balanced_flag : Rule
balanced_flag = record (new_rule (codes "BALANCED")) { long = Some (codes "balanced"); action = Some SetTrue }

abbrev pub check_command : App
check_command = with_rule (subnet_command (codes "check")) balanced_flag

abbrev pub shares_command : App
shares_command = with_rule (subnet_command (codes "shares")) (optional (codes "PORT"))

abbrev pub diff_command : App
diff_command = with_rule (subnet_command (codes "diff")) (wanted (codes "PARTS2"))

abbrev pub tables_command : App
tables_command = with_rule (with_rule (subnet_command (codes "tables")) (optional (codes "SCRIPT"))) balanced_flag

abbrev pub keys_command : App
keys_command = with_rule (subnet_command (codes "keys")) (optional (codes "SCRIPT"))

abbrev pub trace_command : App
trace_command =
    let from = with_rule (subnet_command (codes "trace")) (wanted (codes "PORT")) in
    let packet = with_rule (with_rule from (wanted (codes "DLID"))) (wanted (codes "PKEY")) in
    with_rule (with_rule packet (optional (codes "SCRIPT"))) balanced_flag

-- `--cuts`
abbrev pub cuts_flag : Rule
cuts_flag = record (new_rule (codes "CUTS")) { long = Some (codes "cuts"); action = Some SetTrue }

abbrev pub all_flag : Rule
all_flag = record (new_rule (codes "ALL")) { long = Some (codes "all"); action = Some SetTrue }

abbrev pub load_flag : Rule
load_flag = record (new_rule (codes "LOAD")) { long = Some (codes "load"); action = Some SetTrue }

abbrev pub graph_command : App
graph_command =
    let drawn = with_rule (subnet_command (codes "graph")) (optional (codes "SCRIPT")) in
    with_rule (with_rule (with_rule (with_rule drawn cuts_flag) load_flag) all_flag) balanced_flag

abbrev pub run_command : App
run_command = with_rule (subnet_command (codes "run")) (wanted (codes "SCRIPT"))

-- `--script SCRIPT`
abbrev pub script_option : Rule
script_option = record (new_rule (codes "SCRIPT")) { long = Some (codes "script"); action = Some Set; value_names = 1 }

abbrev pub smp_command : App
smp_command = with_rule (with_rule (subnet_command (codes "smp")) (wanted (codes "SMPS"))) script_option

-- `--least-port`
abbrev pub least_port_flag : Rule
least_port_flag = record (new_rule (codes "LEAST_PORT")) { long = Some (codes "least-port"); action = Some SetTrue }

abbrev pub manage_command : App
manage_command = with_rule (with_rule (subnet_command (codes "manage")) (wanted (codes "REPLIES"))) least_port_flag

abbrev pub compare_command : App
compare_command =
    let scripts = with_rule (with_rule (subnet_command (codes "compare")) (wanted (codes "S1"))) (wanted (codes "S2")) in
    with_rule scripts (wanted (codes "PORT"))

abbrev pub cuts_command : App
cuts_command =
    let ends = with_rule (with_rule (subnet_command (codes "cuts")) (optional (codes "PORT"))) (optional (codes "PORT2")) in
    with_rule ends balanced_flag

-- `--sm GUID`
abbrev pub manager_option : Rule
manager_option = record (new_rule (codes "SM")) { long = Some (codes "sm"); action = Some Set; value_names = 1 }

-- `--roots auto`
abbrev pub roots_option : Rule
roots_option = record (new_rule (codes "ROOTS")) { long = Some (codes "roots"); action = Some Set; value_names = 1 }

abbrev pub import_command : App
import_command = with_rule (with_rule (with_rule (new_app (codes "import")) (wanted (codes "NETDISCOVER"))) manager_option) roots_option

-- `--mft MFTS`
abbrev pub mfts_option : Rule
mfts_option = record (new_rule (codes "MFTS")) { long = Some (codes "mft"); action = Some Set; value_names = 1 }

-- `--sl2vl LANES`
abbrev pub lanes_option : Rule
lanes_option = record (new_rule (codes "LANES")) { long = Some (codes "sl2vl"); action = Some Set; value_names = 1 }

abbrev pub audit_command : App
audit_command =
    let files = with_rule (with_rule (new_app (codes "audit")) (wanted (codes "FABRIC"))) (wanted (codes "DUMP")) in
    with_rule (with_rule (with_rule files mfts_option) lanes_option) all_flag

-- `--dump DUMP`
abbrev pub dump_option : Rule
dump_option = record (new_rule (codes "DUMP")) { long = Some (codes "dump"); action = Some Set; value_names = 1 }

-- `--all`
abbrev pub load_command : App
load_command =
    let files = with_rule (with_rule (new_app (codes "load")) (wanted (codes "FABRIC"))) (optional (codes "PARTS")) in
    with_rule (with_rule (with_rule (with_rule files (optional (codes "SCRIPT"))) dump_option) all_flag) balanced_flag

abbrev pub audit_keys_command : App
audit_keys_command =
    let answers = with_rule (with_rule (new_app (codes "audit-keys")) (wanted (codes "NETDISCOVER"))) (wanted (codes "PKEYS")) in
    with_rule (with_rule (with_rule answers (wanted (codes "PARTS"))) manager_option) all_flag

abbrev pub explain_command : App
explain_command = with_rule (new_app (codes "explain")) (optional (codes "CODE"))

-- the command line: one of the subcommands, with that one's arguments
abbrev pub fabric_top : App
fabric_top = let app = new_app (codes "fabric") in record app { top = record app.top { has_version = true; subcommand_required = true } }

-- with the commands that list a subnet and what its fabric holds
abbrev pub with_listings : App → App
with_listings app =
    let checks = with_subcommand app check_command.top in
    let shares = with_subcommand checks shares_command.top in
    let changes = with_subcommand shares diff_command.top in
    let tables = with_subcommand changes tables_command.top in
    with_subcommand tables keys_command.top

-- with those that follow packets and run scripts
abbrev pub with_runs : App → App
with_runs app =
    let traces = with_subcommand app trace_command.top in
    let graphs = with_subcommand traces graph_command.top in
    let runs = with_subcommand graphs run_command.top in
    let smps = with_subcommand runs smp_command.top in
    let managed = with_subcommand smps manage_command.top in
    with_subcommand managed compare_command.top

-- with those that judge cables, and that make a topology from a real fabric
abbrev pub with_cables : App → App
with_cables app = with_subcommand (with_subcommand app cuts_command.top) import_command.top

-- with those that judge real fabrics
abbrev pub with_audits : App → App
with_audits app = with_subcommand (with_subcommand (with_subcommand app audit_command.top) load_command.top) audit_keys_command.top

-- and with the one that explains codes
abbrev pub fabric_command : App
fabric_command = with_subcommand (with_audits (with_cables (with_runs (with_listings fabric_top)))) explain_command.top
