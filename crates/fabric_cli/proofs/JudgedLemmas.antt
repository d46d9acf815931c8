-- What comes of texts and of their fabric.
use Rattle.std.proofs.Common.{ℕ, ◌≡◌, Bool, false, List, [], Option, Some, None, Result, Ok, Err, Vec, Global, inl, inr, refl, sym, ◌∙◌, ap, subst}
use Rattle.std.specs.Prelude.{◌⊎◌, IfErr, IfOk, IsErr}
use Rattle.std.specs.declared.alloc.AllocError.{AllocError}
use Rattle.step_results.specs.AtLine.{AtLine}
use Rattle.step_results.specs.Gives.{Fails}
use Rattle.step_results.specs.Steps.{◌>>=◌}
use Rattle.fabric_parts.specs.declared.limits.Limits.TheVariants.{Large}
use Rattle.step_results.proofs.StepLemmas.{same_err}
use Rattle.topo_file.specs.Topology.{TopologyState, topology_of, topology_within}
use Rattle.partition_file.specs.declared.partition.Partition.{Partition}
use Rattle.fabric_parts.specs.declared.cable.PortRef.{PortRef}
use Rattle.subnet_core.specs.After.{IsLeftBy, TurnsAfter, left_from, script_read}
use Rattle.subnet_core.specs.BringUp.{Becomes, IsStarted, SubnetState, Turns, stop_of, up_in}
use Rattle.subnet_core.specs.Fate.{FailsWith, WithFabric, up_from}
use Rattle.subnet_core.specs.Listing.{listing_text}
use Rattle.subnet_core.specs.Inventory.{InventoryState, fault_in, inventoried, of_text, partitions_for, inventory_by, inventory_of, large_inventory_of}
use Rattle.subnet_core.specs.Comparison.{Compares, TwoRunsState, TwoScriptsState, of_port, two_runs_of, two_scripts_of}
use Rattle.subnet_core.specs.declared.comparing.Comparison.{Comparison}
use Rattle.script_lines.specs.NamedPort.{named_adapter_port}
use Rattle.script_lines.specs.declared.script_cause.ScriptCause.{ScriptCause}
use Rattle.script_lines.specs.Script.{commands_in}
use Rattle.subnet_core.specs.declared.fault.RunFault.{RunFault}
use Rattle.subnet_core.specs.declared.fault.RunFault.TheVariants as run
use Rattle.subnet_fabric.specs.BringUp.{BroughtUpState}
use Rattle.subnet_model.specs.declared.command.Command.{Command}
use Rattle.sweep.specs.declared.fault.SweepFault.TheVariants as sweep
use Rattle.fabric_cli.specs.Faults.{port_line, run_line, run_status, IsOfRun}
use Rattle.fabric_cli.specs.Serving.{rule_of, asked_inventory, Answers, AppendsSome, BreaksOff, Comes, ComesTo, CutComes, CutsAreReported, Ending, Finding, ForEnding, Judged, ManageStop, RunStops, Stops, ReportsCuts, managed_by, managed_in, cut_reported, cuts_in, comparison_text, complete, ending_over, faulted, looked_at, run_in, seen_after, smps_seen, second_stop, shares_in, changes_in, texts_with, ended, to_judge}
use Rattle.cli_args.specs.declared.call.Inspection.{Inspection}
use Rattle.fabric_cli.specs.declared.faults.Stop.{Stop}
use Rattle.fabric_cli.specs.declared.faults.Stop.TheVariants.{Words, NoMemory, Unread, Unwritten, Run, Second, Unmanaged, Unheard, Unsent, Foreign}
use Rattle.cli_args.specs.declared.call.CutView.{CutView}
use Rattle.script_lines.specs.ScriptCause.{code_of as script_code}
use Rattle.subnet_core.proofs.BringUpLemmas.{same_inventory}
use Rattle.std.specs.Io.KnownBytes.{Keeps}
use Rattle.cli_args.specs.declared.call.Work.{Work}
use Rattle.fabric_cli.specs.declared.answering.Answer.{Answer}
use Rattle.cli_args.specs.declared.call.Work.TheVariants as work
use Rattle.updn_routes.specs.Routes.{routes_with}
use Rattle.updn_routes.specs.declared.tie_rule.TieRule.{TieRule}
use Rattle.updn_routes.specs.declared.tie_rule.TieRule.TheVariants.{LeastPort}

-- ---- no fault of a text or of its fabric has another status than 1
of_text_at_one : {X Cause : Type 0} (make : ℕ → Cause → RunFault) → ((line : ℕ) (cause : Cause) → run_status (make line cause) ≡ 1)
    → (given : Result X (AtLine Cause)) (fault : RunFault) → of_text make given ≡ Err fault → run_status fault ≡ 1
of_text_at_one make one (Ok x) fault is = absurd cc
of_text_at_one make one (Err at) fault is = let same : make at.line at.cause ≡ fault = same_err _ _ is in rw (sym same) (one at.line at.cause)

partitions_at_one : (partitions : Option (List ℕ)) (fault : RunFault) → partitions_for partitions ≡ Err fault → run_status fault ≡ 1
partitions_at_one None fault is = absurd cc
partitions_at_one (Some text) fault is = of_text_at_one run.Partitions (λ line cause. refl) _ fault is

-- a topology or partitions that are at fault
texts_at_one : (rule : TieRule) (read : Result TopologyState RunFault) (all : Result (List Partition) RunFault) (fault : RunFault) → ((other : RunFault) → read ≡ Err other → run_status other ≡ 1)
    → ((other : RunFault) → all ≡ Err other → run_status other ≡ 1) → (read >>= λ plan. all >>= λ some. Ok (inventoried rule plan some)) ≡ Err fault → run_status fault ≡ 1
texts_at_one rule (Err other) all fault one two is = let same : other ≡ fault = same_err _ _ is in one fault (ap Err same)
texts_at_one rule (Ok plan) (Err other) fault one two is = let same : other ≡ fault = same_err _ _ is in two fault (ap Err same)
texts_at_one rule (Ok plan) (Ok all) fault one two is = absurd cc

pub inventory_at_one : (rule : TieRule) (topology : List ℕ) (partitions : Option (List ℕ)) (fault : RunFault) → inventory_by rule topology partitions ≡ Err fault
    → run_status fault ≡ 1
unfolding inventory_by
inventory_at_one rule topology partitions fault is =
    texts_at_one rule (of_text run.Topology (topology_of topology)) (partitions_for partitions) fault
    (λ other e. of_text_at_one run.Topology (λ line cause. refl) _ other e) (partitions_at_one partitions) is

pub large_inventory_at_one : (topology : List ℕ) (partitions : Option (List ℕ)) (fault : RunFault) → large_inventory_of topology partitions ≡ Err fault → run_status fault ≡ 1
unfolding large_inventory_of
large_inventory_at_one topology partitions fault is =
    texts_at_one LeastPort (of_text run.Topology (topology_within Large topology)) (partitions_for partitions) fault
    (λ other e. of_text_at_one run.Topology (λ line cause. refl) _ other e) (partitions_at_one partitions) is

stop_at_one : (inventory : InventoryState) (fault : RunFault) → Becomes (Ok inventory) (Some fault) → run_status fault ≡ 1
stop_at_one inventory run.NoMemory is = absurd is
stop_at_one inventory (run.Topology line cause) is = absurd is
stop_at_one inventory (run.Partitions line cause) is = absurd is
stop_at_one inventory (run.Sweep sweep.NoMemory) is = absurd is
stop_at_one inventory (run.Sweep sweep.NoReply) is = absurd is
stop_at_one inventory (run.Sweep sweep.WrongReply) is = absurd is
stop_at_one inventory (run.Sweep sweep.TooManyHops) is = refl
stop_at_one inventory (run.Sweep sweep.TooManyNodes) is = absurd is
stop_at_one inventory (run.NoLegalPath switch node number) is = refl
stop_at_one inventory (run.Push fault) is = absurd is
stop_at_one inventory (run.Port cause) is = absurd is
stop_at_one inventory (run.Script line cause) is = absurd is
stop_at_one inventory (run.SecondScript line cause) is = absurd is
stop_at_one inventory run.Read is = absurd is
stop_at_one inventory run.Write is = absurd is

up_at_one : (rule : TieRule) (topology : List ℕ) (partitions : Option (List ℕ)) (stop : Option RunFault) (fault : RunFault)
    → Becomes (inventory_by rule topology partitions) stop → up_from (inventory_by rule topology partitions) stop ≡ Err fault → run_status fault ≡ 1
unfolding up_from
up_at_one rule topology partitions stop fault becomes is = by (inventory_by rule topology partitions) refl stop refl
  where
    by : (given : Result InventoryState RunFault) → inventory_by rule topology partitions ≡ given → (s : Option RunFault) → stop ≡ s → run_status fault ≡ 1
    by (Err other) e s at = let same : other ≡ fault = same_err _ _ (rw e at is) in inventory_at_one rule topology partitions fault (e ∙ ap Err same)
    by (Ok inventory) e None at = let none : Ok inventory ≡ Err fault = rw (e, at) at is in absurd cc
    by (Ok inventory) e (Some other) at =
        let same : other ≡ fault = same_err _ _ (rw (e, at) at is) in
        let here : Becomes (Ok inventory) (Some other) = rw (e, at) at becomes in
        rw (sym same) (stop_at_one inventory other here)

two_scripts_at_one : (plan : TopologyState) (first second port : List ℕ) (fault : RunFault) → two_scripts_of plan first second port ≡ Err fault → run_status fault ≡ 1
unfolding two_scripts_of
two_scripts_at_one plan first second port fault is = by (named_adapter_port plan port) refl
  where
    second_by : (guid : ℕ) → of_port (named_adapter_port plan port) ≡ Ok guid → (commands : List Command) → of_text run.Script (commands_in plan first) ≡ Ok commands
        → (read : Result (List Command) RunFault) → of_text run.SecondScript (commands_in plan second) ≡ read → run_status fault ≡ 1
    second_by guid p commands c (Err other) o =
        let same : other ≡ fault = same_err _ _ (rw (p, c, o) at is) in of_text_at_one run.SecondScript (λ line cause. refl) _ fault (o ∙ ap Err same)
    second_by guid p commands c (Ok others) o = let none : Ok _ ≡ Err fault = rw (p, c, o) at is in absurd cc

    first_by : (guid : ℕ) → of_port (named_adapter_port plan port) ≡ Ok guid
        → (read : Result (List Command) RunFault) → of_text run.Script (commands_in plan first) ≡ read → run_status fault ≡ 1
    first_by guid p (Err other) c = let same : other ≡ fault = same_err _ _ (rw (p, c) at is) in of_text_at_one run.Script (λ line cause. refl) _ fault (c ∙ ap Err same)
    first_by guid p (Ok commands) c = second_by guid p commands c (of_text run.SecondScript (commands_in plan second)) refl

    by : (named : Result ℕ ScriptCause) → named_adapter_port plan port ≡ named → run_status fault ≡ 1
    by (Err cause) p = let same : run.Port cause ≡ fault = same_err _ _ (rw p at is) in rw (sym same) refl
    by (Ok guid) p = first_by guid (rw p refl) (of_text run.Script (commands_in plan first)) refl

two_runs_at_one : (topology : List ℕ) (partitions : Option (List ℕ)) (first second port : List ℕ) (stop : Option RunFault) (fault : RunFault)
    → Becomes (inventory_of topology partitions) stop → two_runs_of topology partitions first second port stop ≡ Err fault → run_status fault ≡ 1
unfolding two_runs_of
two_runs_at_one topology partitions first second port stop fault becomes is = by (up_from (inventory_of topology partitions) stop) refl
  where
    scripts_by : (inventory : InventoryState) → up_from (inventory_of topology partitions) stop ≡ Ok inventory
        → (scripts : Result TwoScriptsState RunFault) → two_scripts_of inventory.plan first second port ≡ scripts → run_status fault ≡ 1
    scripts_by inventory e (Err other) c = let same : other ≡ fault = same_err _ _ (rw (e, c) at is) in two_scripts_at_one inventory.plan first second port fault (c ∙ ap Err same)
    scripts_by inventory e (Ok scripts) c = let none : Ok _ ≡ Err fault = rw (e, c) at is in absurd cc

    by : (up : Result InventoryState RunFault) → up_from (inventory_of topology partitions) stop ≡ up → run_status fault ≡ 1
    by (Err other) e = let same : other ≡ fault = same_err _ _ (rw e at is) in up_at_one LeastPort topology partitions stop fault becomes (e ∙ ap Err same)
    by (Ok inventory) e = scripts_by inventory e (two_scripts_of inventory.plan first second port) refl

-- ---- one ending
pub for_ending : (judged : Judged) (P Q : Ending → Type 0) → ((ending : Ending) → P ending → Q ending) → ForEnding judged P → ForEnding judged Q
for_ending (to_judge texts) P Q f so = record { outcome = so.outcome; finding = so.finding; comes = so.comes; is = f _ so.is }
for_ending (ended ending) P Q f so = f ending so

-- a text that is made comes as it is, unless an allocation for it fails
pub made_comes : (judged : Judged) (made : Result (Vec ℕ Global) AllocError) (result : Result (Vec ℕ Global) Stop)
    → IfOk made (λ text. ForEnding judged (λ ending. ending ≡ complete text.items)) → IfOk result (λ text. made ≡ Ok text)
    → IfErr result (λ stop. (stop ≡ NoMemory) × IsErr made) → ComesTo (λ text. text.items) judged result
made_comes judged made (Ok text) is same refused = rw same at is
made_comes judged made (Err stop) is same refused = rw refused.0 tt

pub refused_of_run : {X : Type 0} (result : Result X Stop) (P : Type 0) → IfErr result (λ stop. (stop ≡ NoMemory) × P) → IfErr result IsOfRun
refused_of_run (Ok text) P is = tt
refused_of_run (Err stop) P is = rw is.0 tt

pub ok_then : {X E : Type 0} (P Q : X → Type 0) → ((x : X) → P x → Q x) → (result : Result X E) → IfOk result P → IfOk result Q
ok_then P Q f (Ok x) is = f x is
ok_then P Q f (Err error) is = tt

-- a fault is printed if it is not out of memory
pub stopped_by : (judged : Judged) (fault : RunFault)
    → (fault_in fault ≡ Some fault → (run_status fault ≡ 1) × ForEnding judged (λ ending. ending ≡ faulted 1 (run_line fault))) → RunStops judged fault
stopped_by judged run.NoMemory f = tt
stopped_by judged (run.Topology line cause) f = f refl
stopped_by judged (run.Partitions line cause) f = f refl
stopped_by judged (run.Sweep fault) f = f refl
stopped_by judged (run.NoLegalPath switch node number) f = f refl
stopped_by judged (run.Push fault) f = f refl
stopped_by judged (run.Port cause) f = f refl
stopped_by judged (run.Script line cause) f = f refl
stopped_by judged (run.SecondScript line cause) f = f refl
stopped_by judged run.Read f = f refl
stopped_by judged run.Write f = f refl

-- ---- what becomes of a fabric, and with it the fabric itself
nothing_at : PortRef
nothing_at = record { node = 0; port = 0 }

nothing_up : BroughtUpState
nothing_up = record {
  routes = record {
    graph = record { manager = 0; switches = []; rows = []; ports = [] };
    lids = [];
    between = routes_with [] [] [] [] [] [] [] LeastPort [];
  };
  fabric = record { nodes = []; cables = []; cut = []; manager = nothing_at };
}

-- where nothing is found over it
abbrev nothing_found : Finding
nothing_found = record { comparison = record { scripts_agree = false; events_equal = false }; cuts = []; managed = None }

outcome_of : (given : Result InventoryState RunFault) (stop : Option RunFault) → Becomes given stop
    → (outcome : Result BroughtUpState RunFault) × Turns given outcome × (stop_of outcome ≡ stop)
outcome_of (Ok inventory) None becomes = (Ok becomes.0, becomes.1, refl)
outcome_of (Ok inventory) (Some fault) becomes = (Err fault, becomes, refl)
outcome_of (Err fault) None becomes = (Ok nothing_up, tt, refl)
outcome_of (Err fault) (Some other) becomes = (Err other, tt, refl)

module _ (topology : List ℕ) (partitions : Option (List ℕ)) (asked : Work (List ℕ) (List ℕ) (List ℕ)) where
  abbrev texts : Judged
  texts = texts_with topology partitions asked

  -- where this becomes of their fabric
  module _ (outcome : Result BroughtUpState RunFault) (finding : Finding) (comes : Comes topology partitions asked outcome finding) where
    abbrev over : Judged
    over = ended (ending_over topology partitions asked outcome finding)

    for_over : (Is : Ending → Type 0) → ForEnding over Is → ForEnding texts Is
    for_over Is is = record { outcome = outcome; finding = finding; comes = comes; is = is }

    pub run_over : (fault : RunFault) → RunStops over fault → RunStops texts fault
    run_over run.NoMemory is = tt
    run_over (run.Topology line cause) is = (is.0, for_over _ is.1)
    run_over (run.Partitions line cause) is = (is.0, for_over _ is.1)
    run_over (run.Sweep fault) is = (is.0, for_over _ is.1)
    run_over (run.NoLegalPath switch node number) is = (is.0, for_over _ is.1)
    run_over (run.Push fault) is = (is.0, for_over _ is.1)
    run_over (run.Port cause) is = (is.0, for_over _ is.1)
    run_over (run.Script line cause) is = (is.0, for_over _ is.1)
    run_over (run.SecondScript line cause) is = (is.0, for_over _ is.1)
    run_over run.Read is = (is.0, for_over _ is.1)
    run_over run.Write is = (is.0, for_over _ is.1)

    stops_over : (stop : Stop) → Stops over stop → Stops texts stop
    stops_over (Words text) is = for_over _ is
    stops_over NoMemory is = tt
    stops_over (Unread name) is = tt
    stops_over Unwritten is = absurd is
    stops_over (Run fault) is = run_over fault is
    stops_over (Second line cause) is = for_over _ is
    stops_over (Unmanaged fault place) is = absurd is
    stops_over (Unheard name) is = absurd is
    stops_over Unsent is = absurd is
    stops_over (Foreign line cause) is = for_over _ is

    some_over : (out out' : Option (List ℕ)) → AppendsSome over out out' → AppendsSome texts out out'
    some_over out out' (inl keeps) = inl keeps
    some_over out out' (inr is) = inr (for_over _ is)

    either_over : (stop : Stop) (out out' : Option (List ℕ)) → (Stops over stop × Keeps out out') ⊎ ForEnding over (λ ending. BreaksOff stop ending out out')
        → (Stops texts stop × Keeps out out') ⊎ ForEnding texts (λ ending. BreaksOff stop ending out out')
    either_over stop out out' (inl is) = inl (stops_over stop is.0, is.1)
    either_over stop out out' (inr is) = inr (for_over _ is)

    pub answers_over : (result : Result Answer Stop) (sure : Bool) (out out' : Option (List ℕ)) → Answers over result sure out out' → Answers texts result sure out out'
    answers_over (Ok answer) sure out out' is = for_over _ is
    answers_over (Err NoMemory) sure out out' is = some_over out out' is
    answers_over (Err (Unread name)) sure out out' is = some_over out out' is
    answers_over (Err Unwritten) sure out out' is = (is.0, for_over _ is.1)
    answers_over (Err (Words text)) sure out out' is = either_over (Words text) out out' is
    answers_over (Err (Run fault)) sure out out' is = either_over (Run fault) out out' is
    answers_over (Err (Second line cause)) sure out out' is = either_over (Second line cause) out out' is
    answers_over (Err (Unmanaged fault place)) sure out out' is = either_over (Unmanaged fault place) out out' is
    answers_over (Err (Unheard name)) sure out out' is = for_over _ is
    answers_over (Err Unsent) sure out out' is = for_over _ is
    answers_over (Err (Foreign line cause)) sure out out' is = either_over (Foreign line cause) out out' is

    pub comes_over : (result : Result (Vec ℕ Global) Stop) → ComesTo (λ text. text.items) over result → ComesTo (λ text. text.items) texts result
    comes_over (Ok text) is = for_over _ is
    comes_over (Err stop) is = stops_over stop is

-- ---- a fabric that is not brought up, or a script that has a fault
stop_turns : (found : Result InventoryState RunFault) (script : Option (List ℕ)) (stop : Option RunFault) (fault : RunFault) → Becomes found stop
    → left_from found script stop ≡ Err fault
    → (outcome : Result BroughtUpState RunFault) × TurnsAfter found script outcome
    × ((see : InventoryState → BroughtUpState → Ending) → seen_after found see script outcome ≡ faulted (run_status fault) (run_line fault))
unfolding left_from up_from
stop_turns (Ok inventory) None None fault becomes is = absurd cc
stop_turns (Ok inventory) (Some script) None fault becomes is = by (commands_in inventory.plan script) refl
  where
    by : (read : Result (List Command) (AtLine ScriptCause)) → commands_in inventory.plan script ≡ read
        → (outcome : Result BroughtUpState RunFault) × TurnsAfter (Ok inventory) (Some script) outcome
        × ((see : InventoryState → BroughtUpState → Ending) → seen_after (Ok inventory) see (Some script) outcome ≡ faulted (run_status fault) (run_line fault))
    by (Ok commands) e = let none : Ok commands ≡ Err fault = rw e at is in absurd cc
    by (Err at) e =
        let same : run.Script at.line at.cause ≡ fault = same_err _ _ (rw e at is) in
        (Ok becomes.0, rw e becomes.1, λ see. rw (e, sym same) refl)
stop_turns (Ok inventory) script (Some other) fault becomes is = (Err fault, rw (same_err other fault is) at becomes, λ see. refl)
stop_turns (Err other) script stop fault becomes is = (Err fault, tt, λ see. rw (same_err other fault is) refl)

-- where the fabric is not brought up, nothing is reported of its cables
cuts_turn : (found : Result InventoryState RunFault) (stop : Option RunFault) (fault : RunFault) (view : CutView (List ℕ)) → Becomes found stop
    → up_from found stop ≡ Err fault
    → (outcome : Result BroughtUpState RunFault) × Turns found outcome × CutsAreReported found outcome view []
    × (cuts_in (up_from found (stop_of outcome)) view [] ≡ faulted (run_status fault) (run_line fault))
unfolding up_from
cuts_turn (Ok inventory) None fault view becomes is = absurd cc
cuts_turn (Ok inventory) (Some other) fault view becomes is =
    (Err fault, rw (same_err other fault is) at becomes, tt, refl)
cuts_turn (Err other) stop fault view becomes is = (Err fault, tt, tt, rw (same_err other fault is) refl)

-- ---- by the rule of ties that is asked for
module _ (balanced : Bool) (topology : List ℕ) (partitions : Option (List ℕ)) where
  abbrev asked : Result InventoryState RunFault
  asked = asked_inventory balanced topology partitions

  -- ---- a listing
  pub listing_stops : (fault : RunFault) → FailsWith (Becomes asked) (fault_in fault) (up_from asked)
      → RunStops (texts_with topology partitions (work.Check balanced)) fault
  listing_stops fault fails =
      stopped_by (texts_with topology partitions (work.Check balanced)) fault (λ reported.
      let up : WithFabric (Becomes asked) (λ stop. up_from asked stop ≡ Err fault) = rw reported at fails in
      let turns = outcome_of asked up.stop up.becomes in
      let one : run_status fault ≡ 1 = up_at_one (rule_of balanced) topology partitions up.stop fault up.becomes up.is in
      (one, record { outcome = turns.0; finding = nothing_found; comes = turns.1; is = rw (turns.2, up.is, one) refl }))

  pub is_listed : (inventory : InventoryState) (text : List ℕ) → WithFabric (Becomes asked) (λ stop. up_from asked stop ≡ Ok inventory) → text ≡ listing_text inventory.configuration
      → ForEnding (texts_with topology partitions (work.Check balanced)) (λ ending. ending ≡ complete text)
  is_listed inventory text up reported =
      let turns = outcome_of asked up.stop up.becomes in
      record { outcome = turns.0; finding = nothing_found; comes = turns.1; is = rw (turns.2, up.is, reported) refl }

  -- ---- the loss of cables
  pub cuts_stop : (view : CutView (List ℕ)) (fault : RunFault) → FailsWith (Becomes asked) (fault_in fault) (up_from asked)
      → RunStops (texts_with topology partitions (work.Cuts view balanced)) fault
  cuts_stop view fault fails =
      stopped_by (texts_with topology partitions (work.Cuts view balanced)) fault (λ reported.
      let up : WithFabric (Becomes asked) (λ stop. up_from asked stop ≡ Err fault) = rw reported at fails in
      let turns = cuts_turn asked up.stop fault view up.becomes up.is in
      let one : run_status fault ≡ 1 = up_at_one (rule_of balanced) topology partitions up.stop fault up.becomes up.is in (
        one,
        record {
          outcome = turns.0;
          finding = nothing_found;
          comes = (turns.1, turns.2);
          is = turns.3 ∙ ap (λ (status : ℕ). faulted status (run_line fault)) one;
        },
      ))

  pub cuts_come : (view : CutView (List ℕ)) (subnet : SubnetState) (result : Result (Vec ℕ Global) Stop)
      → WithFabric (Becomes asked) (λ stop. up_from asked stop ≡ Ok subnet.inventory) → IsStarted subnet → CutComes subnet.inventory (up_in subnet) view result
      → ComesTo (λ text. text.items) (texts_with topology partitions (work.Cuts view balanced)) result
  unfolding up_from
  cuts_come view subnet result up started comes = by result comes
    where
      is : asked ≡ Ok subnet.inventory
      is = same_inventory asked up.stop subnet.inventory up.is

      finding : List ℕ → Finding
      finding reported = record nothing_found { cuts = reported }

      said_so : (reported : List ℕ) → ReportsCuts subnet.inventory (up_in subnet) view reported
          → Comes topology partitions (work.Cuts view balanced) (Ok (up_in subnet)) (finding reported)
      said_so reported reports = (rw is started.up, rw is reports)

      ends_so : (reported : List ℕ) → ending_over topology partitions (work.Cuts view balanced) (Ok (up_in subnet)) (finding reported) ≡ cut_reported subnet.inventory.plan reported view
      ends_so reported = rw is refl

      by : (r : Result (Vec ℕ Global) Stop) → CutComes subnet.inventory (up_in subnet) view r
          → ComesTo (λ text. text.items) (texts_with topology partitions (work.Cuts view balanced)) r
      by (Ok text) reported = record {
        outcome = Ok (up_in subnet);
        finding = finding text.items;
        comes = said_so text.items reported.0;
        is = ends_so text.items ∙ reported.1;
      }
      by (Err stop) (inl memory) = rw memory tt
      by (Err stop) (inr none) =
          let reports : ReportsCuts subnet.inventory (up_in subnet) view [] = rw (none.view_is, none.named) tt in
          let ending : cut_reported subnet.inventory.plan [] view ≡ faulted 1 (port_line (script_code none.cause)) = rw (none.view_is, none.named) refl in
          rw none.stop_is (refl, record { outcome = Ok (up_in subnet); finding = finding []; comes = said_so [] reports; is = ends_so [] ∙ ending })

  -- ---- what a fabric holds, after a script, if there is one
  left_turns : (found : Result InventoryState RunFault) (script : Option (List ℕ)) (left : SubnetState) → found ≡ Ok left.inventory → IsLeftBy script left
      → TurnsAfter found script (Ok (up_in left)) × ((see : InventoryState → BroughtUpState → Ending) → seen_after found see script (Ok (up_in left)) ≡ see left.inventory (up_in left))
  left_turns found None left is by = (rw is by.up, λ see. rw is refl)
  left_turns found (Some script) left is by = (rw (is, by.1) by.2.up, λ see. rw (is, by.1) refl)

  pub is_inspected : (what : Inspection (List ℕ)) (script : Option (List ℕ)) (left : SubnetState) (result : Result (Vec ℕ Global) Stop)
      → asked ≡ Ok left.inventory → IsLeftBy script left → ComesTo (λ text. text.items) (ended (looked_at left.inventory (up_in left) what)) result
      → ComesTo (λ text. text.items) (texts_with topology partitions (work.Inspect what script balanced)) result
  is_inspected what script left result is by comes =
      let turns = left_turns asked script left is by in
      comes_over topology partitions (work.Inspect what script balanced) (Ok (up_in left)) nothing_found turns.0 result (rw (turns.1 (λ inventory up. looked_at inventory up what)) comes)

  script_at_one : (plan : TopologyState) (script : Option (List ℕ)) (fault : RunFault) → script_read plan script ≡ Err fault → run_status fault ≡ 1
  script_at_one plan None fault is = absurd cc
  script_at_one plan (Some script) fault is = of_text_at_one run.Script (λ line cause. refl) (commands_in plan script) fault is

  left_at_one : (script : Option (List ℕ)) (stop : Option RunFault) (fault : RunFault) → Becomes asked stop → left_from asked script stop ≡ Err fault
      → run_status fault ≡ 1
  unfolding left_from
  left_at_one script stop fault becomes is = by (up_from asked stop) refl
    where
      by : (up : Result InventoryState RunFault) → up_from asked stop ≡ up → run_status fault ≡ 1
      by (Err other) e = let same : other ≡ fault = same_err _ _ (rw e at is) in up_at_one (rule_of balanced) topology partitions stop fault becomes (e ∙ ap Err same)
      by (Ok inventory) e = script_at_one inventory.plan script fault (rw e at is)

  seen_stops : (task : Work (List ℕ) (List ℕ) (List ℕ)) (see : InventoryState → BroughtUpState → Ending) (script : Option (List ℕ)) (fault : RunFault)
      → ((outcome : Result BroughtUpState RunFault) → TurnsAfter asked script outcome → Comes topology partitions task outcome nothing_found)
      → ((outcome : Result BroughtUpState RunFault) → ending_over topology partitions task outcome nothing_found ≡ seen_after asked see script outcome)
      → FailsWith (Becomes asked) (fault_in fault) (left_from asked script) → RunStops (texts_with topology partitions task) fault
  seen_stops task see script fault comes over fails =
      stopped_by (texts_with topology partitions task) fault (λ reported.
      let up : WithFabric (Becomes asked) (λ stop. left_from asked script stop ≡ Err fault) = rw reported at fails in
      let one : run_status fault ≡ 1 = left_at_one script up.stop fault up.becomes up.is in
      let turns = stop_turns asked script up.stop fault up.becomes up.is in (
        one,
        record {
          outcome = turns.0;
          finding = nothing_found;
          comes = comes turns.0 turns.1;
          is = over turns.0 ∙ turns.2 see ∙ ap (λ (status : ℕ). faulted status (run_line fault)) one;
        },
      ))

  pub inspection_stops : (what : Inspection (List ℕ)) (script : Option (List ℕ)) (fault : RunFault) → FailsWith (Becomes asked) (fault_in fault) (left_from asked script)
      → RunStops (texts_with topology partitions (work.Inspect what script balanced)) fault
  inspection_stops what script fault fails =
      seen_stops (work.Inspect what script balanced) (λ inventory up. looked_at inventory up what) script fault (λ outcome turns. turns) (λ outcome. refl) fails

  -- ---- bring-up by SMPs, which takes no fabric of ours
  pub manage_stops : (read : List ℕ) (fault : RunFault) → Fails (fault_in fault) asked → RunStops (texts_with topology partitions (work.Manage read balanced)) fault
  manage_stops read fault fails =
      run_over topology partitions (work.Manage read balanced) (Err run.NoMemory) nothing_found tt fault
      (stopped_by (ended (managed_in asked None)) fault (λ reported.
      let at : asked ≡ Err fault = rw reported at fails in
      let one : run_status fault ≡ 1 = inventory_at_one (rule_of balanced) topology partitions fault at in
      let same : managed_in asked None ≡ faulted (run_status fault) (run_line fault) = rw at refl in
      (one, same ∙ ap (λ (status : ℕ). faulted status (run_line fault)) one)))

  pub manage_over : (read : List ℕ) (stop : Option ManageStop) (inventory : InventoryState) → asked ≡ Ok inventory → (Is : Ending → Type 0) → Is (managed_by stop)
      → ForEnding (texts_with topology partitions (work.Manage read balanced)) Is
  manage_over read stop inventory is Is so =
      let same : managed_in asked stop ≡ managed_by stop = rw is refl in
      record { outcome = Err run.NoMemory; finding = record nothing_found { managed = stop }; comes = tt; is = subst Is (sym same) so }

module _ (topology : List ℕ) (partitions : Option (List ℕ)) where
  abbrev given : Result InventoryState RunFault
  given = inventory_of topology partitions

  -- ---- a run
  pub run_stops : (script : List ℕ) (fault : RunFault) → FailsWith (Becomes given) (fault_in fault) (up_from given)
      → RunStops (texts_with topology partitions (work.Run script)) fault
  run_stops script fault fails =
      stopped_by (texts_with topology partitions (work.Run script)) fault (λ reported.
      let up : WithFabric (Becomes given) (λ stop. up_from given stop ≡ Err fault) = rw reported at fails in
      let turns = outcome_of given up.stop up.becomes in
      let one : run_status fault ≡ 1 = up_at_one LeastPort topology partitions up.stop fault up.becomes up.is in
      (one, record { outcome = turns.0; finding = nothing_found; comes = turns.1; is = rw (turns.2, up.is, one) refl }))

  pub run_ends_so : (script : List ℕ) (inventory : InventoryState) (Is : Ending → Type 0) → WithFabric (Becomes given) (λ stop. up_from given stop ≡ Ok inventory)
      → Is (run_in (Ok inventory) script) → ForEnding (texts_with topology partitions (work.Run script)) Is
  run_ends_so script inventory Is up is =
      let turns = outcome_of given up.stop up.becomes in
      let comes : run_in (up_from given (stop_of turns.0)) script ≡ run_in (Ok inventory) script = rw (turns.2, up.is) refl in
      record { outcome = turns.0; finding = nothing_found; comes = turns.1; is = subst Is (sym comes) is }

  -- ---- two scripts, compared
  pub comparison_stops : (first second port : List ℕ) (fault : RunFault) → FailsWith (Becomes given) (fault_in fault) (two_runs_of topology partitions first second port)
      → RunStops (texts_with topology partitions (work.Compare first second port)) fault
  comparison_stops first second port fault fails =
      stopped_by (texts_with topology partitions (work.Compare first second port)) fault (λ reported.
      let up : WithFabric (Becomes given) (λ stop. two_runs_of topology partitions first second port stop ≡ Err fault) = rw reported at fails in
      let turns = outcome_of given up.stop up.becomes in
      let one : run_status fault ≡ 1 = two_runs_at_one topology partitions first second port up.stop fault up.becomes up.is in
      (one, record { outcome = turns.0; finding = nothing_found; comes = (turns.1, rw (turns.2, up.is) tt); is = rw (turns.2, up.is, one) refl }))

  pub is_compared : (first second port : List ℕ) (comparison : Comparison) (text : List ℕ) (runs : TwoRunsState)
      → WithFabric (Becomes given) (λ stop. two_runs_of topology partitions first second port stop ≡ Ok runs) → Compares runs comparison → text ≡ comparison_text comparison
      → ForEnding (texts_with topology partitions (work.Compare first second port)) (λ ending. ending ≡ complete text)
  is_compared first second port comparison text runs up compares reported =
      let turns = outcome_of given up.stop up.becomes in
      record {
        outcome = turns.0;
        finding = record nothing_found { comparison = comparison };
        comes = (turns.1, rw (turns.2, up.is) compares);
        is = rw (turns.2, up.is, reported) refl;
      }

  -- ---- SMPs, after a script, if there is one
  pub smps_stop : (script : Option (List ℕ)) (smps : List ℕ) (fault : RunFault) → FailsWith (Becomes given) (fault_in fault) (left_from given script)
      → RunStops (texts_with topology partitions (work.Smps script smps)) fault
  smps_stop script smps fault fails =
      seen_stops false topology partitions (work.Smps script smps) (λ inventory up. smps_seen up smps) script fault (λ outcome turns. turns) (λ outcome. refl) fails

  pub smps_over : (script : Option (List ℕ)) (smps : List ℕ) (left : SubnetState) (result : Result Answer Stop) (sure : Bool) (out out' : Option (List ℕ))
      → given ≡ Ok left.inventory → IsLeftBy script left → Answers (ended (smps_seen (up_in left) smps)) result sure out out'
      → Answers (texts_with topology partitions (work.Smps script smps)) result sure out out'
  smps_over script smps left result sure out out' is by answers =
      let turns = left_turns false topology partitions given script left is by in
      let same = turns.1 (λ inventory up. smps_seen up smps) in
      answers_over topology partitions (work.Smps script smps) (Ok (up_in left)) nothing_found turns.0 result sure out out'
      (subst (λ (ending : Ending). Answers (ended ending) result sure out out') (sym same) answers)

  -- ---- shares and changes, which take no fabric
  abbrev large : Result InventoryState RunFault
  large = large_inventory_of topology partitions

  pub inventory_stops : (fault : RunFault) (ending : Ending) → Fails (fault_in fault) large → (large ≡ Err fault → ending ≡ faulted (run_status fault) (run_line fault))
      → RunStops (ended ending) fault
  inventory_stops fault ending fails is =
      stopped_by (ended ending) fault (λ reported.
      let at : large ≡ Err fault = rw reported at fails in
      let one : run_status fault ≡ 1 = large_inventory_at_one topology partitions fault at in
      (one, is at ∙ ap (λ (status : ℕ). faulted status (run_line fault)) one))

  pub shares_stop : (port : Option (List ℕ)) (fault : RunFault) → Fails (fault_in fault) large → RunStops (texts_with topology partitions (work.Shares port)) fault
  shares_stop port fault fails =
      run_over topology partitions (work.Shares port) (Err run.NoMemory) nothing_found tt fault (inventory_stops fault (shares_in large port) fails (λ at. rw at refl))

  pub shares_come : (port : Option (List ℕ)) (inventory : InventoryState) (result : Result (Vec ℕ Global) Stop) → large ≡ Ok inventory
      → ComesTo (λ text. text.items) (ended (shares_in (Ok inventory) port)) result
      → ComesTo (λ text. text.items) (texts_with topology partitions (work.Shares port)) result
  shares_come port inventory result is comes = comes_over topology partitions (work.Shares port) (Err run.NoMemory) nothing_found tt result (rw is comes)

  pub changes_stop : (second : Option (List ℕ)) (fault : RunFault) → Fails (fault_in fault) large → RunStops (texts_with topology partitions (work.Diff second)) fault
  changes_stop second fault fails =
      run_over topology partitions (work.Diff second) (Err run.NoMemory) nothing_found tt fault
      (inventory_stops fault (changes_in large (large_inventory_of topology second)) fails (λ at. rw at refl))

  pub changes_come : (second : Option (List ℕ)) (before : InventoryState) (result : Result (Vec ℕ Global) Stop) → large ≡ Ok before
      → ComesTo (λ text. text.items) (ended (changes_in (Ok before) (large_inventory_of topology second))) result
      → ComesTo (λ text. text.items) (texts_with topology partitions (work.Diff second)) result
  changes_come second before result is comes = comes_over topology partitions (work.Diff second) (Err run.NoMemory) nothing_found tt result (rw is comes)

-- the second partitions
pub second_stops : (before : InventoryState) (topology : List ℕ) (second : Option (List ℕ)) (fault : RunFault) → Fails (fault_in fault) (large_inventory_of topology second)
    → Stops (ended (changes_in (Ok before) (large_inventory_of topology second))) (second_stop fault)
second_stops before topology second run.NoMemory fails = tt
second_stops before topology second (run.Topology line cause) fails = inventory_stops topology second (run.Topology line cause) (changes_in (Ok before) (large_inventory_of topology second)) fails (λ at. rw at refl)
second_stops before topology second (run.Partitions line cause) fails = rw fails refl
second_stops before topology second (run.Sweep fault) fails = inventory_stops topology second (run.Sweep fault) (changes_in (Ok before) (large_inventory_of topology second)) fails (λ at. rw at refl)
second_stops before topology second (run.NoLegalPath switch node number) fails = inventory_stops topology second (run.NoLegalPath switch node number) (changes_in (Ok before) (large_inventory_of topology second)) fails (λ at. rw at refl)
second_stops before topology second (run.Push fault) fails = inventory_stops topology second (run.Push fault) (changes_in (Ok before) (large_inventory_of topology second)) fails (λ at. rw at refl)
second_stops before topology second (run.Port cause) fails = inventory_stops topology second (run.Port cause) (changes_in (Ok before) (large_inventory_of topology second)) fails (λ at. rw at refl)
second_stops before topology second (run.Script line cause) fails = inventory_stops topology second (run.Script line cause) (changes_in (Ok before) (large_inventory_of topology second)) fails (λ at. rw at refl)
second_stops before topology second (run.SecondScript line cause) fails = inventory_stops topology second (run.SecondScript line cause) (changes_in (Ok before) (large_inventory_of topology second)) fails (λ at. rw at refl)
second_stops before topology second run.Read fails = inventory_stops topology second run.Read (changes_in (Ok before) (large_inventory_of topology second)) fails (λ at. rw at refl)
second_stops before topology second run.Write fails = inventory_stops topology second run.Write (changes_in (Ok before) (large_inventory_of topology second)) fails (λ at. rw at refl)
