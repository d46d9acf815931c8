-- What holds of all command lines: the statements of the laws of `src/laws.rt`.
use Rattle.std.specs.Prelude.{◌≡◌, ◌∷◌, [], true, false, List, Option, Ok, Err, Some, None, codes}
use Rattle.std.specs.List.{All}
use Rattle.clap.specs.Words.{Row, Text, first_of}
use Rattle.cli_args.specs.Words.{Asking, Names, asked_by_clap, asked_in, asked_of, opened_for}
use Rattle.cli_args.specs.declared.call.Call.{Call}
use Rattle.cli_args.specs.declared.call.Call.TheVariants.{Subnet, Version}
use Rattle.cli_args.specs.declared.call.CutView.TheVariants.{All as AllCuts, One, Picture}
use Rattle.cli_args.specs.declared.call.Inspection.TheVariants.{Graph, Keys, Load, LoadGraph, Tables, Trace}
use Rattle.cli_args.specs.declared.call.Work.{Work}
use Rattle.cli_args.specs.declared.call.Work.TheVariants.{Check, Cuts, Inspect, Manage}
use Rattle.cli_args.specs.declared.help.TheConstants.{PARTS_OR_DUMP}

-- the name is the value of an argument, unchanged
abbrev pub IsWordOf : List Row → Text → Type 0
IsWordOf rows name = (argument : Text) × (first_of argument rows ≡ Some name)

-- each name that is opened is a value as clap found it, whatever it has in it
abbrev pub FilesAreNamedAsGiven : Type 0
FilesAreNamedAsGiven =
    (word : Text) (rows : List Row) (call : Call Names Text) → asked_in (Some (word, rows)) ≡ Ok call
    → All (IsWordOf rows) (opened_for (Ok call))

-- `--version` or `-V` as the first argument requests the version, whatever comes after it; behind help or a command neither does
pub record VersionIsRequested : Type 0 where
  pub long : (shown : List Text → Option Text) (program : Text) (rest : List Text) → asked_of shown (program ∷ codes "--version" ∷ rest) ≡ Ok Version
  pub short : (shown : List Text → Option Text) (program : Text) (rest : List Text) → asked_of shown (program ∷ codes "-V" ∷ rest) ≡ Ok Version
  pub behind_help : asked_by_clap (codes "fabric" ∷ codes "--help" ∷ codes "--version" ∷ []) ≡ Err None
  pub behind_a_command : asked_by_clap (codes "fabric" ∷ codes "check" ∷ codes "--version" ∷ []) ≡ Err None

-- the work that these arguments ask for behind a topology and no partitions, if they ask for one
abbrev pub work_by : List Text → Asking
work_by words = asked_by_clap (codes "fabric" ∷ words)

abbrev pub Does : Work Text Text Text → Asking
Does work = Ok (Subnet (record { topology = codes "net"; partitions = None; work = work }))

-- routes of a simulated fabric are balanced if and only if that is asked for, and those of a fabric that is managed unless the least
-- port is. LFTs of a dump are as they are
pub record RoutesAreAsAsked : Type 0 where
  pub least : work_by (codes "check" ∷ codes "net" ∷ codes "-" ∷ []) ≡ Does (Check false)
  pub check : work_by (codes "check" ∷ codes "net" ∷ codes "-" ∷ codes "--balanced" ∷ []) ≡ Does (Check true)
  pub before : work_by (codes "check" ∷ codes "--balanced" ∷ codes "net" ∷ codes "-" ∷ []) ≡ Does (Check true)
  pub tables : work_by (codes "tables" ∷ codes "net" ∷ codes "-" ∷ codes "--balanced" ∷ [])
      ≡ Does (Inspect Tables None true)
  pub after : work_by (codes "tables" ∷ codes "net" ∷ codes "-" ∷ codes "sends" ∷ codes "--balanced" ∷ [])
      ≡ Does (Inspect Tables (Some (codes "sends")) true)
  pub keys : work_by (codes "keys" ∷ codes "net" ∷ codes "-" ∷ []) ≡ Does (Inspect Keys None false)
  pub trace : work_by (codes "trace" ∷ codes "net" ∷ codes "-" ∷ codes "h1/1" ∷ codes "5" ∷ codes "7" ∷ codes "--balanced" ∷ [])
      ≡ Does (Inspect (Trace (codes "h1/1") 5 7) None true)
  pub graph : work_by (codes "graph" ∷ codes "net" ∷ codes "-" ∷ codes "--balanced" ∷ [])
      ≡ Does (Inspect Graph None true)
  pub picture : work_by (codes "graph" ∷ codes "net" ∷ codes "-" ∷ codes "--cuts" ∷ codes "--balanced" ∷ [])
      ≡ Does (Cuts Picture true)
  pub loads : work_by (codes "graph" ∷ codes "net" ∷ codes "-" ∷ codes "--load" ∷ codes "--balanced" ∷ [])
      ≡ Does (Inspect (LoadGraph false) None true)
  pub cuts : work_by (codes "cuts" ∷ codes "net" ∷ codes "-" ∷ codes "--balanced" ∷ []) ≡ Does (Cuts AllCuts true)
  pub one : work_by (codes "cuts" ∷ codes "net" ∷ codes "-" ∷ codes "A/1" ∷ codes "B/1" ∷ codes "--balanced" ∷ [])
      ≡ Does (Cuts (One (codes "A/1") (codes "B/1")) true)
  pub load : work_by (codes "load" ∷ codes "net" ∷ codes "-" ∷ codes "--balanced" ∷ [])
      ≡ Does (Inspect (Load false) None true)
  pub least_load : work_by (codes "load" ∷ codes "net" ∷ codes "-" ∷ []) ≡ Does (Inspect (Load false) None false)
  pub dump : work_by (codes "load" ∷ codes "net" ∷ codes "--dump" ∷ codes "lfts" ∷ codes "--balanced" ∷ []) ≡ Err (Some PARTS_OR_DUMP.now)
  pub manage : work_by (codes "manage" ∷ codes "net" ∷ codes "-" ∷ codes "-" ∷ []) ≡ Does (Manage (codes "-") true)
  pub managed_least : work_by (codes "manage" ∷ codes "net" ∷ codes "-" ∷ codes "-" ∷ codes "--least-port" ∷ [])
      ≡ Does (Manage (codes "-") false)
  pub no_flag : work_by (codes "run" ∷ codes "net" ∷ codes "-" ∷ codes "sends" ∷ codes "--balanced" ∷ []) ≡ Err None

-- the names that are opened if the arguments after the program's own name are these
abbrev pub opened_by : List Text → List Text
opened_by words = opened_for (asked_by_clap (codes "fabric" ∷ words))

-- a name with a blank before or after it is another name, and so is one in capitals
pub record NamesKeepTheirBlanks : Type 0 where
  pub plain : opened_by (codes "check" ∷ codes "net" ∷ codes "-" ∷ []) ≡ codes "net" ∷ []
  pub before : opened_by (codes "check" ∷ codes " net" ∷ codes "-" ∷ []) ≡ codes " net" ∷ []
  pub behind : opened_by (codes "check" ∷ codes "net" ∷ codes "parts " ∷ []) ≡ codes "net" ∷ codes "parts " ∷ []
  pub script : opened_by (codes "run" ∷ codes "Net" ∷ codes "-" ∷ codes " sends " ∷ []) ≡ codes "Net" ∷ codes " sends " ∷ []
  pub looked : opened_by (codes "keys" ∷ codes "net" ∷ codes "-" ∷ codes "sends " ∷ []) ≡ codes "net" ∷ codes "sends " ∷ []
  pub dashes : opened_by (codes "graph" ∷ codes "net" ∷ codes "-" ∷ codes "-" ∷ []) ≡ codes "net" ∷ codes "-" ∷ []
  pub traced : opened_by (codes "trace" ∷ codes "net" ∷ codes "-" ∷ codes "h1/1" ∷ codes "5" ∷ codes "7" ∷ codes "sends" ∷ []) ≡ codes "net" ∷ codes "sends" ∷ []
  pub answered : opened_by (codes "smp" ∷ codes "net" ∷ codes "-" ∷ codes " -" ∷ codes "--script" ∷ codes "sends " ∷ []) ≡ codes "net" ∷ codes "sends " ∷ codes " -" ∷ []
  pub compared : opened_by (codes "compare" ∷ codes "net" ∷ codes "-" ∷ codes "one" ∷ codes "two" ∷ codes "h1/1" ∷ []) ≡ codes "net" ∷ codes "one" ∷ codes "two" ∷ []
  pub import : opened_by (codes "import" ∷ codes " net" ∷ codes "--sm" ∷ codes "7" ∷ []) ≡ codes " net" ∷ []
  pub audit : opened_by (codes "audit" ∷ codes "net " ∷ codes "-" ∷ []) ≡ codes "net " ∷ codes "-" ∷ []
  pub multicast : opened_by (codes "audit" ∷ codes "net" ∷ codes " -" ∷ codes "--mft" ∷ codes "masks " ∷ []) ≡ codes "net" ∷ codes " -" ∷ codes "masks " ∷ []
  pub lanes : opened_by (codes "audit" ∷ codes "net" ∷ codes " -" ∷ codes "--sl2vl" ∷ codes "lanes " ∷ []) ≡ codes "net" ∷ codes " -" ∷ codes "lanes " ∷ []
  pub load : opened_by (codes "load" ∷ codes "net " ∷ codes "--dump" ∷ codes "-" ∷ []) ≡ codes "net " ∷ codes "-" ∷ []
  pub audit_keys : opened_by (codes "audit-keys" ∷ codes "net " ∷ codes "-" ∷ codes "-" ∷ codes "--sm" ∷ codes "7" ∷ []) ≡ codes "net " ∷ codes "-" ∷ []
  pub dash : opened_by (codes "diff" ∷ codes "net" ∷ codes "-" ∷ codes " -" ∷ []) ≡ codes "net" ∷ codes " -" ∷ []

-- for each command the file of its first argument is opened first, then that of its second, and then scripts
pub record FilesStandInOrder : Type 0 where
  pub check : opened_by (codes "check" ∷ codes "net" ∷ codes "parts" ∷ []) ≡ codes "net" ∷ codes "parts" ∷ []
  pub shares : opened_by (codes "shares" ∷ codes "net" ∷ codes "parts" ∷ codes "h1/1" ∷ []) ≡ codes "net" ∷ codes "parts" ∷ []
  pub diff : opened_by (codes "diff" ∷ codes "net" ∷ codes "parts" ∷ codes "others" ∷ []) ≡ codes "net" ∷ codes "parts" ∷ codes "others" ∷ []
  pub tables : opened_by (codes "tables" ∷ codes "net" ∷ codes "parts" ∷ codes "sends" ∷ []) ≡ codes "net" ∷ codes "parts" ∷ codes "sends" ∷ []
  pub keys : opened_by (codes "keys" ∷ codes "net" ∷ codes "parts" ∷ codes "sends" ∷ []) ≡ codes "net" ∷ codes "parts" ∷ codes "sends" ∷ []
  pub trace : opened_by (codes "trace" ∷ codes "net" ∷ codes "parts" ∷ codes "h1/1" ∷ codes "5" ∷ codes "7" ∷ codes "sends" ∷ [])
      ≡ codes "net" ∷ codes "parts" ∷ codes "sends" ∷ []
  pub graph : opened_by (codes "graph" ∷ codes "net" ∷ codes "parts" ∷ codes "sends" ∷ []) ≡ codes "net" ∷ codes "parts" ∷ codes "sends" ∷ []
  pub picture : opened_by (codes "graph" ∷ codes "net" ∷ codes "parts" ∷ codes "--cuts" ∷ []) ≡ codes "net" ∷ codes "parts" ∷ []
  pub hot : opened_by (codes "graph" ∷ codes "net" ∷ codes "parts" ∷ codes "sends" ∷ codes "--load" ∷ codes "--all" ∷ [])
      ≡ codes "net" ∷ codes "parts" ∷ codes "sends" ∷ []
  pub run : opened_by (codes "run" ∷ codes "net" ∷ codes "parts" ∷ codes "sends" ∷ []) ≡ codes "net" ∷ codes "parts" ∷ codes "sends" ∷ []
  pub smp : opened_by (codes "smp" ∷ codes "net" ∷ codes "parts" ∷ codes "smps" ∷ []) ≡ codes "net" ∷ codes "parts" ∷ codes "smps" ∷ []
  pub manage : opened_by (codes "manage" ∷ codes "net" ∷ codes "parts" ∷ codes "replies" ∷ []) ≡ codes "net" ∷ codes "parts" ∷ codes "replies" ∷ []
  pub compare : opened_by (codes "compare" ∷ codes "net" ∷ codes "parts" ∷ codes "one" ∷ codes "two" ∷ codes "h1/1" ∷ [])
      ≡ codes "net" ∷ codes "parts" ∷ codes "one" ∷ codes "two" ∷ []
  pub cuts : opened_by (codes "cuts" ∷ codes "net" ∷ codes "parts" ∷ codes "h1/1" ∷ codes "h2/1" ∷ []) ≡ codes "net" ∷ codes "parts" ∷ []
  pub import : opened_by (codes "import" ∷ codes "--roots" ∷ codes "auto" ∷ codes "net" ∷ codes "--sm" ∷ codes "7" ∷ []) ≡ codes "net" ∷ []
  pub audit : opened_by (codes "audit" ∷ codes "net" ∷ codes "dump" ∷ []) ≡ codes "net" ∷ codes "dump" ∷ []
  pub multicast : opened_by (codes "audit" ∷ codes "--mft" ∷ codes "masks" ∷ codes "net" ∷ codes "dump" ∷ []) ≡ codes "net" ∷ codes "dump" ∷ codes "masks" ∷ []
  pub lanes : opened_by (codes "audit" ∷ codes "--sl2vl" ∷ codes "lanes" ∷ codes "net" ∷ codes "dump" ∷ []) ≡ codes "net" ∷ codes "dump" ∷ codes "lanes" ∷ []
  pub whole : opened_by (codes "audit" ∷ codes "--sl2vl" ∷ codes "lanes" ∷ codes "net" ∷ codes "--all" ∷ codes "dump" ∷ [])
      ≡ codes "net" ∷ codes "dump" ∷ codes "lanes" ∷ []
  pub load : opened_by (codes "load" ∷ codes "--dump" ∷ codes "dump" ∷ codes "net" ∷ []) ≡ codes "net" ∷ codes "dump" ∷ []
  pub loads : opened_by (codes "load" ∷ codes "net" ∷ codes "parts" ∷ codes "sends" ∷ codes "--all" ∷ [])
      ≡ codes "net" ∷ codes "parts" ∷ codes "sends" ∷ []
  pub audit_keys : opened_by (codes "audit-keys" ∷ codes "net" ∷ codes "keys" ∷ codes "parts" ∷ []) ≡ codes "net" ∷ codes "keys" ∷ codes "parts" ∷ []
