-- What holds of all invocations: the statements of laws of `src/laws.rt`.
use Rattle.std.specs.Prelude.{ℕ, ◌≡◌, Bool, true, false, List, Option, Ok}
use Rattle.std.specs.List.{All}
use Rattle.cli_args.specs.Words.{Asking, opened_for}
use Rattle.cli_args.specs.declared.call.CutView.{CutView}
use Rattle.cli_args.specs.declared.call.Inspection.{Inspection}
use Rattle.cli_args.specs.declared.call.Work.{Work}
use Rattle.cli_args.specs.declared.call.Work.TheVariants as work
use Rattle.fabric_cli.specs.Files.{Contents}
use Rattle.fabric_cli.specs.Serving.{Bytes, Comes, Ending, Finding, ForTexts, broken_off, ending_by, faulted, judged_for, report_or_error, run_in}
use Rattle.subnet_core.specs.Fate.{up_from}
use Rattle.subnet_core.specs.Inventory.{inventory_of, partitions_for}
use Rattle.partition_file.specs.declared.partition.Partition.{Partition}
use Rattle.subnet_core.specs.declared.fault.RunFault.{RunFault}
use Rattle.subnet_fabric.specs.BringUp.{BroughtUpState}
use Rattle.subnet_fabric.specs.SetUp.{IsByRule}
use Rattle.topo_file.specs.Topology.{TopologyState, topology_of}
use Rattle.updn_routes.specs.declared.tie_rule.TieRule.{TieRule}
use Rattle.updn_routes.specs.declared.tie_rule.TieRule.TheVariants.{LeastPort, Balanced}

-- two sources of files in which the needed names open to the same bytes have the same result
abbrev pub FilesThatAgreeAreJudgedAlike : Type 0
FilesThatAgreeAreJudgedAlike =
    (file other : Contents) (asked : Asking) → All (λ name. file name ≡ other name) (opened_for asked)
    → judged_for file asked ≡ judged_for other asked

-- the ending without the report of the lines before a script's error
abbrev pub without_reported : Ending → Ending
without_reported (broken_off line output) = faulted 1 line
without_reported ending = ending

-- a run ends with the report of the whole script, or with its error, after the report of the lines before
abbrev pub RunsEndAsReports : Type 0
RunsEndAsReports =
    (topology : List ℕ) (partitions : Option (List ℕ)) (script : List ℕ) (stop : Option RunFault)
    → without_reported (run_in (up_from (inventory_of topology partitions) stop) script) ≡ ending_by (report_or_error topology partitions script stop)

-- a look at a fabric, and at the loss of its cables, depends on its routes; and bring-up by SMPs on their replies
abbrev pub needs_no_routes : {W S R : Type 0} → Work W S R → Bool
needs_no_routes (work.Inspect what script balanced) = false
needs_no_routes (work.Smps script smps) = false
needs_no_routes (work.Cuts view balanced) = false
needs_no_routes (work.Manage replies balanced) = false
needs_no_routes _ = true

-- every other command on a subnet has one result for the same files, whatever their fabric became
abbrev pub OneEndingComesOfTexts : Type 0
OneEndingComesOfTexts =
    (texts : Bytes) (one other : Ending) → needs_no_routes texts.work ≡ true
    → ForTexts texts (λ ending. ending ≡ one) → ForTexts texts (λ ending. ending ≡ other) → one ≡ other

-- ---- ties
-- whatever fabric these files describe, its routes are by that rule if this work looks at it
abbrev pub LooksAtRoutesBy : TieRule → Work (List ℕ) (List ℕ) (List ℕ) → Type 0
LooksAtRoutesBy rule asked =
    (topology : List ℕ) (partitions : Option (List ℕ)) (plan : TopologyState) (all : List Partition) (up : BroughtUpState) (finding : Finding)
    → topology_of topology ≡ Ok plan → partitions_for partitions ≡ Ok all → Comes topology partitions asked (Ok up) finding
    → IsByRule rule up.routes

-- balanced routes if that is asked for, and those of the least port if it is not, also after a script
pub record RoutesAreAsAsked : Type 0 where
  pub listed : LooksAtRoutesBy Balanced (work.Check true)
  pub looked_at : (what : Inspection (List ℕ)) (script : Option (List ℕ)) → LooksAtRoutesBy Balanced (work.Inspect what script true)
  pub cut : (view : CutView (List ℕ)) → LooksAtRoutesBy Balanced (work.Cuts view true)
  pub least_listed : LooksAtRoutesBy LeastPort (work.Check false)
  pub least_looked_at : (what : Inspection (List ℕ)) (script : Option (List ℕ)) → LooksAtRoutesBy LeastPort (work.Inspect what script false)
  pub least_cut : (view : CutView (List ℕ)) → LooksAtRoutesBy LeastPort (work.Cuts view false)
  pub run : (script : List ℕ) → LooksAtRoutesBy LeastPort (work.Run script)
