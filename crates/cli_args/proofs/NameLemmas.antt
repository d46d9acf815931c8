-- The names of files are words as they stand.
use Rattle.std.proofs.Common.{ℕ, ◌≡◌, ◌∙◌, Ok, ap, Bool, true, false, not, List, [], ◌∷◌, Option, Some, None, option_map, codes, refl, subst, if◌then◌else◌}
use Rattle.std.specs.List.{All}
use Rattle.std.specs.Option.{option_to_list}
use Rattle.std.specs.Str.{bytes_eq}
use Rattle.std.proofs.lemmas.List.Elements.{All-append, All-cons, All-nil}
use Rattle.clap.specs.Words.{Row, Text, first_of}
use Rattle.clap.proofs.OnLiterals.{clap_on_literals}
use Rattle.code_texts.specs.Codes.{code_of}
use Rattle.code_texts.specs.declared.code.Code.{Code}
use Rattle.cli_args.specs.Laws.{FilesAreNamedAsGiven, FilesStandInOrder, IsWordOf, NamesKeepTheirBlanks, RoutesAreAsAsked}
use Rattle.cli_args.specs.Words.{Names, audit_by, audit_keys_by, audit_keys_with, audit_three, audit_with, asked_by, asked_by_command, asked_of, asked_or, call_in, compare_by, cuts_by, diff_by, explain_by, file_in, graph_with, guid_by, import_by, is_balanced, is_given, in_subnet, inspect_by, load_by, load_with, manage_by, opened_for, roots_by, run_by, scripts_by, smps_by}
use Rattle.cli_args.specs.Words.{subcommand_in, text_for, trace_by, work_names}
use Rattle.cli_args.specs.declared.call.Call.{Call}
use Rattle.cli_args.specs.declared.call.CutView.TheVariants.{All as AllCuts, One, Picture}
use Rattle.cli_args.specs.declared.call.Call.TheVariants.{Explain}
use Rattle.cli_args.specs.declared.call.Work.{Work}
use Rattle.cli_args.specs.declared.call.Work.TheVariants.{Check, Compare, Cuts, Diff, Inspect, Manage, Run, Shares, Smps}
use Rattle.cli_args.specs.declared.call.Inspection.{Inspection}
use Rattle.cli_args.specs.declared.call.Inspection.TheVariants.{Graph, Keys, LoadGraph, Tables}
use Rattle.cli_args.specs.declared.call.ThirdFile.{ThirdFile}
use Rattle.cli_args.specs.declared.call.ThirdFile.TheVariants.{Lanes, Mfts}
use Rattle.cli_args.specs.declared.call.Subcommand.{Subcommand}
use Rattle.cli_args.specs.declared.call.Subcommand.TheVariants as command

-- the names in some work
abbrev WorkIsGiven : List Row → Option (Work Text Text Text) → Type 0
WorkIsGiven rows work = (asked : Work Text Text Text) → work ≡ Some asked → All (IsWordOf rows) (work_names asked)

same_call : (found call : Call Names Text) → Some found ≡ Some call → found ≡ call
same_call found call e = cc

-- the names that are opened for what is asked, if something is
abbrev IsGiven : List Row → Option (Call Names Text) → Type 0
IsGiven rows found = (call : Call Names Text) → found ≡ Some call → All (IsWordOf rows) (opened_for (Ok call))

-- a word for a file, which `-` is not
file_given : (rows : List Row) (word : Text) → IsWordOf rows word → All (IsWordOf rows) (option_to_list (file_in word))
file_given rows word is = by (bytes_eq word (codes "-"))
  where
    by : (b : Bool) → All (IsWordOf rows) (option_to_list (if b then None else Some word))
    by true = All-nil (IsWordOf rows)
    by false = All-cons (IsWordOf rows) word [] is (All-nil (IsWordOf rows))

subnet_given : (rows : List Row) (work : Option (Work Text Text Text)) → WorkIsGiven rows work → IsGiven rows (in_subnet rows work)
subnet_given rows work given call is = by (first_of (codes "TOPO") rows) refl (first_of (codes "PARTS") rows) refl work refl is
  where
    by : (topology : Option Text) → first_of (codes "TOPO") rows ≡ topology → (partitions : Option Text) → first_of (codes "PARTS") rows ≡ partitions
        → (w : Option (Work Text Text Text)) → work ≡ w → asked_by topology partitions w ≡ Some call → All (IsWordOf rows) (opened_for (Ok call))
    by (Some topology) t (Some partitions) p (Some w) e is =
        subst (λ (asked : Call Names Text). All (IsWordOf rows) (opened_for (Ok asked))) (same_call _ call is)
        (All-cons (IsWordOf rows) topology _ (codes "TOPO", t)
        (All-append (IsWordOf rows) _ _ (file_given rows partitions (codes "PARTS", p)) (given w e)))
    by (Some topology) t (Some partitions) p None e is = absurd cc
    by (Some topology) t None p w e is = absurd cc
    by None t partitions p w e is = absurd cc

-- work with no file
without_file : (rows : List Row) (work : Work Text Text Text) → work_names work ≡ [] → WorkIsGiven rows (Some work)
without_file rows work none asked e =
    let same : work ≡ asked = cc in
    subst (λ (w : Work Text Text Text). All (IsWordOf rows) (work_names w)) same (subst (λ (names : List Text). All (IsWordOf rows) names) none-back (All-nil (IsWordOf rows)))
  where
    none-back : [] ≡ work_names work
    none-back = cc

diff_given : (rows : List Row) → WorkIsGiven rows (diff_by (first_of (codes "PARTS2") rows))
diff_given rows asked e = by (first_of (codes "PARTS2") rows) refl e
  where
    by : (second : Option Text) → first_of (codes "PARTS2") rows ≡ second → diff_by second ≡ Some asked → All (IsWordOf rows) (work_names asked)
    by None at is = absurd cc
    by (Some word) at is =
        let same : Diff (file_in word) ≡ asked = cc in
        subst (λ (w : Work Text Text Text). All (IsWordOf rows) (work_names w)) same (file_given rows word (codes "PARTS2", at))

run_given : (rows : List Row) → WorkIsGiven rows (run_by (first_of (codes "SCRIPT") rows))
run_given rows asked e = by (first_of (codes "SCRIPT") rows) refl e
  where
    by : (script : Option Text) → first_of (codes "SCRIPT") rows ≡ script → run_by script ≡ Some asked → All (IsWordOf rows) (work_names asked)
    by None at is = absurd cc
    by (Some word) at is =
        let same : Run word ≡ asked = cc in
        subst (λ (w : Work Text Text Text). All (IsWordOf rows) (work_names w)) same (All-cons (IsWordOf rows) word [] (codes "SCRIPT", at) (All-nil (IsWordOf rows)))

manage_given : (rows : List Row) (least : Bool) → WorkIsGiven rows (manage_by (first_of (codes "REPLIES") rows) least)
manage_given rows least asked e = by (first_of (codes "REPLIES") rows) refl e
  where
    by : (replies : Option Text) → first_of (codes "REPLIES") rows ≡ replies → manage_by replies least ≡ Some asked → All (IsWordOf rows) (work_names asked)
    by None at is = absurd cc
    by (Some word) at is =
        let same : Manage word (not least) ≡ asked = cc in
        subst (λ (w : Work Text Text Text). All (IsWordOf rows) (work_names w)) same (All-cons (IsWordOf rows) word [] (codes "REPLIES", at) (All-nil (IsWordOf rows)))

smps_given : (rows : List Row) → WorkIsGiven rows (smps_by (first_of (codes "SMPS") rows) (first_of (codes "SCRIPT") rows))
smps_given rows asked e = by (first_of (codes "SMPS") rows) refl (first_of (codes "SCRIPT") rows) refl e
  where
    by : (smps : Option Text) → first_of (codes "SMPS") rows ≡ smps → (script : Option Text) → first_of (codes "SCRIPT") rows ≡ script
        → smps_by smps script ≡ Some asked → All (IsWordOf rows) (work_names asked)
    by None at script behind is = absurd cc
    by (Some word) at None behind is =
        let same : Smps None word ≡ asked = cc in
        subst (λ (w : Work Text Text Text). All (IsWordOf rows) (work_names w)) same (All-cons (IsWordOf rows) word [] (codes "SMPS", at) (All-nil (IsWordOf rows)))
    by (Some word) at (Some script) behind is =
        let same : Smps (Some script) word ≡ asked = cc in
        subst (λ (w : Work Text Text Text). All (IsWordOf rows) (work_names w)) same
        (All-cons (IsWordOf rows) script (word ∷ []) (codes "SCRIPT", behind)
        (All-cons (IsWordOf rows) word [] (codes "SMPS", at) (All-nil (IsWordOf rows))))

cuts_given : (rows : List Row) (first second : Option Text) (balanced : Bool) → WorkIsGiven rows (cuts_by first second balanced)
cuts_given rows None None balanced asked e = without_file rows (Cuts AllCuts balanced) refl asked e
cuts_given rows (Some first) (Some second) balanced asked e = without_file rows (Cuts (One first second) balanced) refl asked e
cuts_given rows (Some first) None balanced asked e = absurd cc
cuts_given rows None (Some second) balanced asked e = absurd cc

look_given : (rows : List Row) (what : Inspection Text) (balanced : Bool) → WorkIsGiven rows (Some (Inspect what (first_of (codes "SCRIPT") rows) balanced))
look_given rows what balanced asked e =
    let same : Inspect what (first_of (codes "SCRIPT") rows) balanced ≡ asked = cc in
    subst (λ (w : Work Text Text Text). All (IsWordOf rows) (work_names w)) same (by (first_of (codes "SCRIPT") rows) refl)
  where
    by : (script : Option Text) → first_of (codes "SCRIPT") rows ≡ script → All (IsWordOf rows) (option_to_list script)
    by None at = All-nil (IsWordOf rows)
    by (Some word) at = All-cons (IsWordOf rows) word [] (codes "SCRIPT", at) (All-nil (IsWordOf rows))

inspect_given : (rows : List Row) (seen : Option (Inspection Text)) → WorkIsGiven rows (inspect_by rows seen)
inspect_given rows None asked e = absurd cc
inspect_given rows (Some what) asked e = look_given rows what (is_balanced rows) asked e

graph_given : (rows : List Row) (cuts load all balanced : Bool) → WorkIsGiven rows (graph_with cuts load all balanced (first_of (codes "SCRIPT") rows))
graph_given rows cuts load all balanced asked e = by cuts load all (first_of (codes "SCRIPT") rows) refl e
  where
    by : (cuts load all : Bool) (script : Option Text) → first_of (codes "SCRIPT") rows ≡ script → graph_with cuts load all balanced script ≡ Some asked
        → All (IsWordOf rows) (work_names asked)
    by true false false None at is = without_file rows (Cuts Picture balanced) refl asked is
    by false true all script at is = look_given rows (LoadGraph all) balanced asked (rw at is)
    by false false false script at is = look_given rows Graph balanced asked (rw at is)
    by true true all script at is = absurd cc
    by true false true script at is = absurd cc
    by true false false (Some word) at is = absurd cc
    by false false true script at is = absurd cc

compare_given : (rows : List Row) → WorkIsGiven rows (compare_by rows)
compare_given rows asked e = by (first_of (codes "S1") rows) refl (first_of (codes "S2") rows) refl (first_of (codes "PORT") rows) e
  where
    by : (first : Option Text) → first_of (codes "S1") rows ≡ first → (second : Option Text) → first_of (codes "S2") rows ≡ second → (port : Option Text)
        → scripts_by first second port ≡ Some asked → All (IsWordOf rows) (work_names asked)
    by (Some first) one (Some second) two (Some port) is =
        let same : Compare first second port ≡ asked = cc in
        subst (λ (w : Work Text Text Text). All (IsWordOf rows) (work_names w)) same
        (All-cons (IsWordOf rows) first (second ∷ []) (codes "S1", one)
        (All-cons (IsWordOf rows) second [] (codes "S2", two) (All-nil (IsWordOf rows))))
    by (Some first) one (Some second) two None is = absurd cc
    by (Some first) one None two port is = absurd cc
    by None one second two port is = absurd cc

import_given : (rows : List Row) (manager : Option (Option ℕ)) (roots : Option Bool) → IsGiven rows (import_by (first_of (codes "NETDISCOVER") rows) manager roots)
import_given rows manager roots call is = by (first_of (codes "NETDISCOVER") rows) refl manager roots is
  where
    by : (netdiscover : Option Text) → first_of (codes "NETDISCOVER") rows ≡ netdiscover → (guid : Option (Option ℕ)) (tops : Option Bool)
        → import_by netdiscover guid tops ≡ Some call → All (IsWordOf rows) (opened_for (Ok call))
    by (Some netdiscover) n (Some guid) (Some tops) is =
        subst (λ (asked : Call Names Text). All (IsWordOf rows) (opened_for (Ok asked))) (same_call _ call is)
        (All-cons (IsWordOf rows) netdiscover [] (codes "NETDISCOVER", n) (All-nil (IsWordOf rows)))
    by (Some netdiscover) n (Some guid) None is = absurd cc
    by (Some netdiscover) n None tops is = absurd cc
    by None n guid tops is = absurd cc

three_given : (rows : List Row) (third : ThirdFile) (argument : Text) (fabric dump : Option Text) (file : Text) → first_of (codes "FABRIC") rows ≡ fabric
    → first_of (codes "DUMP") rows ≡ dump → first_of argument rows ≡ Some file → IsGiven rows (audit_three third fabric dump file)
three_given rows third argument (Some fabric) (Some dump) file t d at call is =
    subst (λ (asked : Call Names Text). All (IsWordOf rows) (opened_for (Ok asked))) (same_call _ call is)
    (All-cons (IsWordOf rows) fabric (dump ∷ file ∷ []) (codes "FABRIC", t)
    (All-cons (IsWordOf rows) dump (file ∷ []) (codes "DUMP", d)
    (All-cons (IsWordOf rows) file [] (argument, at) (All-nil (IsWordOf rows)))))
three_given rows third argument (Some fabric) None file t d at call is = absurd cc
three_given rows third argument None dump file t d at call is = absurd cc

audit_given : (rows : List Row) → IsGiven rows (audit_by rows)
audit_given rows call is =
    by (first_of (codes "MFTS") rows) refl (first_of (codes "LANES") rows) refl (first_of (codes "FABRIC") rows) refl (first_of (codes "DUMP") rows) refl
    (is_given rows (codes "ALL")) is
  where
    by : (mfts : Option Text) → first_of (codes "MFTS") rows ≡ mfts → (lanes : Option Text) → first_of (codes "LANES") rows ≡ lanes
        → (topology : Option Text) → first_of (codes "FABRIC") rows ≡ topology → (dump : Option Text) → first_of (codes "DUMP") rows ≡ dump → (all : Bool)
        → audit_with mfts lanes topology dump all ≡ Some call → All (IsWordOf rows) (opened_for (Ok call))
    by None m None l (Some topology) t (Some dump) d all is =
        subst (λ (asked : Call Names Text). All (IsWordOf rows) (opened_for (Ok asked))) (same_call _ call is)
        (All-cons (IsWordOf rows) topology (dump ∷ []) (codes "FABRIC", t)
        (All-cons (IsWordOf rows) dump [] (codes "DUMP", d) (All-nil (IsWordOf rows))))
    by None m None l (Some topology) t None d all is = absurd cc
    by None m None l None t dump d all is = absurd cc
    by (Some mfts) m None l topology t dump d all is = three_given rows (Mfts all) (codes "MFTS") topology dump mfts t d m call is
    by None m (Some lanes) l topology t dump d all is = three_given rows (Lanes all) (codes "LANES") topology dump lanes t d l call is
    by (Some mfts) m (Some lanes) l topology t dump d all is = absurd cc

load_given : (rows : List Row) → IsGiven rows (load_by rows)
load_given rows call is =
    by (first_of (codes "FABRIC") rows) refl (first_of (codes "PARTS") rows) refl (first_of (codes "SCRIPT") rows) refl (first_of (codes "DUMP") rows) refl
    (is_given rows (codes "ALL")) (is_balanced rows) is
  where
    script_given : (script : Option Text) → first_of (codes "SCRIPT") rows ≡ script → All (IsWordOf rows) (option_to_list script)
    script_given None s = All-nil (IsWordOf rows)
    script_given (Some word) s = All-cons (IsWordOf rows) word [] (codes "SCRIPT", s) (All-nil (IsWordOf rows))

    by : (fabric : Option Text) → first_of (codes "FABRIC") rows ≡ fabric → (partitions : Option Text) → first_of (codes "PARTS") rows ≡ partitions
        → (script : Option Text) → first_of (codes "SCRIPT") rows ≡ script → (tables : Option Text) → first_of (codes "DUMP") rows ≡ tables
        → (all balanced : Bool) → load_with fabric partitions script tables all balanced ≡ Some call → All (IsWordOf rows) (opened_for (Ok call))
    by (Some fabric) f None p None s (Some tables) d false false is =
        subst (λ (asked : Call Names Text). All (IsWordOf rows) (opened_for (Ok asked))) (same_call _ call is)
        (All-cons (IsWordOf rows) fabric (tables ∷ []) (codes "FABRIC", f)
        (All-cons (IsWordOf rows) tables [] (codes "DUMP", d) (All-nil (IsWordOf rows))))
    by (Some fabric) f (Some partitions) p script s None d all balanced is =
        subst (λ (asked : Call Names Text). All (IsWordOf rows) (opened_for (Ok asked))) (same_call _ call is)
        (All-cons (IsWordOf rows) fabric _ (codes "FABRIC", f)
        (All-append (IsWordOf rows) _ _ (file_given rows partitions (codes "PARTS", p)) (script_given script s)))
    by None f None p None s (Some tables) d false false is = absurd cc
    by None f (Some partitions) p script s None d all balanced is = absurd cc
    by fabric f None p (Some script) s tables d all balanced is = absurd cc
    by fabric f None p None s None d all balanced is = absurd cc
    by fabric f None p None s (Some tables) d true balanced is = absurd cc
    by fabric f None p None s (Some tables) d false true is = absurd cc
    by fabric f (Some partitions) p script s (Some tables) d all balanced is = absurd cc

audit_keys_given : (rows : List Row) → IsGiven rows (audit_keys_by rows)
audit_keys_given rows call is =
    by (first_of (codes "NETDISCOVER") rows) refl (first_of (codes "PKEYS") rows) refl (first_of (codes "PARTS") rows) refl (guid_by (first_of (codes "SM") rows)) is
  where
    all : Bool
    all = is_given rows (codes "ALL")

    by : (netdiscover : Option Text) → first_of (codes "NETDISCOVER") rows ≡ netdiscover → (pkeys : Option Text) → first_of (codes "PKEYS") rows ≡ pkeys
        → (partitions : Option Text) → first_of (codes "PARTS") rows ≡ partitions → (guid : Option (Option ℕ))
        → audit_keys_with netdiscover pkeys partitions guid all ≡ Some call → All (IsWordOf rows) (opened_for (Ok call))
    by (Some netdiscover) n (Some pkeys) k (Some partitions) p (Some guid) is =
        subst (λ (asked : Call Names Text). All (IsWordOf rows) (opened_for (Ok asked))) (same_call _ call is)
        (All-cons (IsWordOf rows) netdiscover (pkeys ∷ option_to_list (file_in partitions)) (codes "NETDISCOVER", n)
        (All-cons (IsWordOf rows) pkeys (option_to_list (file_in partitions)) (codes "PKEYS", k) (file_given rows partitions (codes "PARTS", p))))
    by (Some netdiscover) n (Some pkeys) k (Some partitions) p None is = absurd cc
    by (Some netdiscover) n (Some pkeys) k None p guid is = absurd cc
    by (Some netdiscover) n None k partitions p guid is = absurd cc
    by None n pkeys k partitions p guid is = absurd cc

explain_given : (rows : List Row) (code : Option Text) → IsGiven rows (explain_by code)
explain_given rows None call e =
    subst (λ (asked : Call Names Text). All (IsWordOf rows) (opened_for (Ok asked))) (same_call _ call e) (All-nil (IsWordOf rows))
explain_given rows (Some word) call e = by (code_of word) e
  where
    by : (found : Option Code) → option_map (λ code. Explain (Some code)) found ≡ Some call → All (IsWordOf rows) (opened_for (Ok call))
    by None e = absurd cc
    by (Some code) e =
        subst (λ (asked : Call Names Text). All (IsWordOf rows) (opened_for (Ok asked))) (same_call _ call e) (All-nil (IsWordOf rows))

command_given : (given : Subcommand) (rows : List Row) → IsGiven rows (call_in given rows)
command_given command.Check rows = subnet_given rows _ (without_file rows (Check (is_balanced rows)) refl)
command_given command.Shares rows = subnet_given rows _ (without_file rows (Shares (first_of (codes "PORT") rows)) refl)
command_given command.Diff rows = subnet_given rows _ (diff_given rows)
command_given command.Tables rows = subnet_given rows _ (inspect_given rows (Some Tables))
command_given command.Keys rows = subnet_given rows _ (inspect_given rows (Some Keys))
command_given command.Trace rows = subnet_given rows _ (inspect_given rows (trace_by rows))
command_given command.Graph rows = subnet_given rows _ (graph_given rows (is_given rows (codes "CUTS")) (is_given rows (codes "LOAD")) (is_given rows (codes "ALL"))
    (is_balanced rows))
command_given command.Run rows = subnet_given rows _ (run_given rows)
command_given command.Smp rows = subnet_given rows _ (smps_given rows)
command_given command.Manage rows = subnet_given rows _ (manage_given rows (is_given rows (codes "LEAST_PORT")))
command_given command.Compare rows = subnet_given rows _ (compare_given rows)
command_given command.Cuts rows = subnet_given rows _ (cuts_given rows (first_of (codes "PORT") rows) (first_of (codes "PORT2") rows) (is_balanced rows))
command_given command.Import rows = import_given rows (guid_by (first_of (codes "SM") rows)) (roots_by (first_of (codes "ROOTS") rows))
command_given command.Audit rows = audit_given rows
command_given command.Load rows = load_given rows
command_given command.AuditKeys rows = audit_keys_given rows
command_given command.Explain rows = explain_given rows (first_of (codes "CODE") rows)

pub files_are_given : FilesAreNamedAsGiven
files_are_given word rows call is = by (subcommand_in word) is
  where
    call_by : (given : Subcommand) (found : Option (Call Names Text)) → call_in given rows ≡ found → asked_or (text_for given) found ≡ Ok call
        → All (IsWordOf rows) (opened_for (Ok call))
    call_by given (Some found) e is =
        let same : found ≡ call = cc in
        command_given given rows call (e ∙ ap (λ (c : Call Names Text). Some c) same)
    call_by given None e is = absurd cc

    by : (given : Option Subcommand) → asked_by_command given rows ≡ Ok call → All (IsWordOf rows) (opened_for (Ok call))
    by (Some given) is = call_by given (call_in given rows) refl is
    by None is = absurd cc

pub blanks_are_kept : NamesKeepTheirBlanks
unfolding clap_on_literals asked_of
blanks_are_kept = record { plain = refl; before = refl; behind = refl; script = refl; looked = refl; dashes = refl; traced = refl; answered = refl; compared = refl; import = refl; audit = refl; multicast = refl; lanes = refl; load = refl; audit_keys = refl; dash = refl }

pub files_stand_in_order : FilesStandInOrder
unfolding clap_on_literals asked_of
files_stand_in_order = record {
  check = refl;
  shares = refl;
  diff = refl;
  tables = refl;
  keys = refl;
  trace = refl;
  graph = refl;
  picture = refl;
  hot = refl;
  run = refl;
  smp = refl;
  manage = refl;
  compare = refl;
  cuts = refl;
  import = refl;
  audit = refl;
  multicast = refl;
  lanes = refl;
  whole = refl;
  load = refl;
  loads = refl;
  audit_keys = refl;
}

pub routes_are_as_asked : RoutesAreAsAsked
unfolding clap_on_literals asked_of
routes_are_as_asked = record {
  least = refl;
  check = refl;
  before = refl;
  tables = refl;
  after = refl;
  keys = refl;
  trace = refl;
  graph = refl;
  picture = refl;
  loads = refl;
  cuts = refl;
  one = refl;
  load = refl;
  least_load = refl;
  dump = refl;
  manage = refl;
  managed_least = refl;
  no_flag = refl;
}
