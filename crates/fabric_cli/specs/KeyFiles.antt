-- The files of an audit of P_Key tables, by their names.
use Rattle.std.specs.Prelude.{ℕ, Bool, List, ◌∷◌, Option, option_map}
use Rattle.std.specs.Option.{option_to_list}
use Rattle.cli_args.specs.Words.{Names}
use Rattle.cli_args.specs.declared.call.Call.{Call}
use Rattle.cli_args.specs.declared.call.Call.TheVariants.{AuditKeys}
use Rattle.fabric_cli.specs.declared.key_audits.KeysFiles.{KeysFiles}

abbrev pub partitions_name : KeysFiles → Option (List ℕ)
partitions_name files = option_map (λ name. name.now) files.partitions

-- in the order in which they are opened
abbrev pub keys_names : KeysFiles → List (List ℕ)
keys_names files = files.netdiscover.now ∷ files.pkeys.now ∷ option_to_list (partitions_name files)

abbrev pub keys_call : KeysFiles → Option ℕ → (all : Bool) → Call Names (List ℕ)
keys_call files manager all = AuditKeys files.netdiscover.now files.pkeys.now (partitions_name files) manager all
