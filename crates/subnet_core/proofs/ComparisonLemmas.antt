-- What is answered of two scripts that are compared.
use Rattle.std.proofs.Common.{ℕ, ◌≡◌, ◌∙◌, ap, refl, sym, subst, true, List, Option, Some, None, Result, Ok, Err, IfErr, IfOk}
use Rattle.std.specs.List.{All}
use Rattle.step_results.specs.AtLine.{AtLine}
use Rattle.step_results.specs.Gives.{Fails}
use Rattle.sa_replies.proofs.ApartLemmas.{runs_are_isolated}
use Rattle.sa_replies.specs.Administration.{subnet_administration}
use Rattle.script_lines.specs.declared.script_cause.ScriptCause.{ScriptCause}
use Rattle.subnet_core.proofs.BringUpLemmas.{fails_mapped, mapped, same_inventory}
use Rattle.subnet_core.specs.BringUp.{Becomes}
use Rattle.subnet_core.specs.Fate.{FailsWith, WithFabric, up_from}
use Rattle.subnet_core.specs.Comparison.{TwoScriptsState, Compares, ComparesRuns, PortRunState, TwoRunsState, two_scripts_of, of_second, port_run, two_runs, two_runs_of}
use Rattle.subnet_core.specs.RunsAgain.{NameSenders, RunsAgain}
use Rattle.subnet_core.specs.Inventory.{InventoryState, fault_in, of_text, inventory_of}
use Rattle.subnet_core.specs.Senders.{NamesSender}
use Rattle.subnet_core.specs.declared.comparing.Comparison.{Comparison}
use Rattle.subnet_core.specs.declared.fault.RunFault.{RunFault}
use Rattle.subnet_core.specs.declared.fault.RunFault.TheVariants.{NoMemory, Topology, Partitions, Sweep, NoLegalPath, Push, Port, Script, SecondScript, Read, Write}
use Rattle.subnet_model.specs.Configuration.{ConfigurationState}
use Rattle.subnet_model.specs.Report.{report_by}
use Rattle.subnet_model.specs.Restriction.{events_at}
use Rattle.subnet_model.specs.declared.command.Command.{Command}

-- the fault of a second script is reported as that
pub second_fails_as : {X : Type 0} (given : Result X (AtLine ScriptCause)) (fault : RunFault) → Fails (fault_in fault) (of_text Script given)
    → Fails (fault_in (of_second fault)) (of_text SecondScript given)
second_fails_as given NoMemory fails = tt
second_fails_as (Err at) (Script line cause) fails = cc
second_fails_as (Err at) (Topology line cause) fails = absurd cc
second_fails_as (Err at) (Partitions line cause) fails = absurd cc
second_fails_as (Err at) (Sweep fault) fails = absurd cc
second_fails_as (Err at) (NoLegalPath switch node number) fails = absurd cc
second_fails_as (Err at) (Push fault) fails = absurd cc
second_fails_as (Err at) (Port cause) fails = absurd cc
second_fails_as (Err at) (SecondScript line cause) fails = absurd cc
second_fails_as (Err at) Read fails = absurd cc
second_fails_as (Err at) Write fails = absurd cc
second_fails_as (Ok x) (Script line cause) fails = absurd cc
second_fails_as (Ok x) (Topology line cause) fails = absurd cc
second_fails_as (Ok x) (Partitions line cause) fails = absurd cc
second_fails_as (Ok x) (Sweep fault) fails = absurd cc
second_fails_as (Ok x) (NoLegalPath switch node number) fails = absurd cc
second_fails_as (Ok x) (Push fault) fails = absurd cc
second_fails_as (Ok x) (Port cause) fails = absurd cc
second_fails_as (Ok x) (SecondScript line cause) fails = absurd cc
second_fails_as (Ok x) Read fails = absurd cc
second_fails_as (Ok x) Write fails = absurd cc

pub second_is_good : {X : Type 0} (given : Result X (AtLine ScriptCause)) (x : X) → of_text Script given ≡ Ok x → of_text SecondScript given ≡ Ok x
second_is_good (Ok y) x is = is
second_is_good (Err at) x is = absurd cc

-- ---- a fault, or two runs
module _ (topology : List ℕ) (partitions : Option (List ℕ)) (first second port : List ℕ) where
  abbrev given : Result InventoryState RunFault
  given = inventory_of topology partitions

  abbrev answer : Option RunFault → Result TwoRunsState RunFault
  answer = two_runs_of topology partitions first second port

  abbrev IsUpAs : InventoryState → Type 0
  IsUpAs inventory = WithFabric (Becomes given) (λ stop. up_from given stop ≡ Ok inventory)

  not_up : (fault : RunFault) (stop : Option RunFault) → up_from given stop ≡ Err fault → answer stop ≡ Err fault
  unfolding two_runs_of
  not_up fault stop is = rw is refl

  pub neither_is_up : (reported : Option RunFault) → FailsWith (Becomes given) reported (up_from given) → FailsWith (Becomes given) reported answer
  neither_is_up reported fails = fails_mapped given reported (up_from given) answer not_up fails

  module _ (inventory : InventoryState) (up : IsUpAs inventory) where
    -- the word or a script is at fault
    with_fault : (fault : RunFault) → two_scripts_of inventory.plan first second port ≡ Err fault → (stop : Option RunFault) → up_from given stop ≡ Ok inventory
        → answer stop ≡ Err fault
    unfolding two_runs_of
    with_fault fault fails stop is = rw (is, fails) refl

    pub scripts_fail : (reported : Option RunFault) → Fails reported (two_scripts_of inventory.plan first second port) → FailsWith (Becomes given) reported answer
    scripts_fail None fails = tt
    scripts_fail (Some fault) fails = mapped given (λ stop. up_from given stop ≡ Ok inventory) (λ stop. answer stop ≡ Err fault) (with_fault fault fails) up

    inventory_is : given ≡ Ok inventory
    inventory_is = same_inventory given up.stop inventory up.is

    pub one_inventory : (other : InventoryState) → given ≡ Ok other → other ≡ inventory
    one_inventory other is = let both : Ok other ≡ Ok inventory = sym is ∙ inventory_is in cc

    -- who may send in it may send in it when it is brought up again
    pub senders_again : (commands : List Command) → All (NamesSender inventory.configuration.ports) commands → NameSenders given commands
    senders_again commands all other is =
        subst (λ (some : InventoryState). All (NamesSender some.configuration.ports) commands) (sym (one_inventory other is)) all

    module _ (scripts : TwoScriptsState) (are_scripts : two_scripts_of inventory.plan first second port ≡ Ok scripts) where
      with_runs : (stop : Option RunFault) → up_from given stop ≡ Ok inventory → answer stop ≡ Ok (two_runs inventory.configuration scripts)
      unfolding two_runs_of
      with_runs stop is = rw (is, are_scripts) refl

      pub runs_compare : (here there : PortRunState) (comparison : Comparison) → here ≡ port_run inventory.configuration scripts.port scripts.first
          → RunsAgain (Ok there) given scripts.port scripts.second → Compares (record { first = here; second = there }) comparison
          → ComparesRuns (Ok comparison) (Becomes given) answer
      runs_compare here there comparison is again compares =
          let same : there ≡ port_run inventory.configuration scripts.port scripts.second = rw (one_inventory again.0 again.1) at again.2 in
          let these : Compares (two_runs inventory.configuration scripts) comparison = rw (is, same) at compares in (
            two_runs inventory.configuration scripts,
            mapped given (λ stop. up_from given stop ≡ Ok inventory) (λ stop. answer stop ≡ Ok (two_runs inventory.configuration scripts)) with_runs up,
            these,
          )

  -- ---- what happens at the port depends on the commands of the ports near it alone
  runs_keep_apart : (configuration : ConfigurationState) (scripts : TwoScriptsState) (comparison : Comparison) → Compares (two_runs configuration scripts) comparison
      → comparison.scripts_agree ≡ true → comparison.events_equal ≡ true
  runs_keep_apart configuration scripts comparison compares agree =
      compares.events_equal.1
      ((runs_are_isolated configuration scripts.first scripts.port).0
      ∙ ap (λ (some : List Command). events_at scripts.port (report_by subnet_administration configuration some)) (compares.scripts_agree.0 agree)
      ∙ sym (runs_are_isolated configuration scripts.second scripts.port).0)

  kept_apart : (runs : TwoRunsState) (stop : Option RunFault) (comparison : Comparison) → answer stop ≡ Ok runs → Compares runs comparison
      → comparison.scripts_agree ≡ true → comparison.events_equal ≡ true
  unfolding two_runs_of
  kept_apart runs stop comparison is compares = by (up_from given stop) refl
    where
      scripts_by : (inventory : InventoryState) → up_from given stop ≡ Ok inventory → (all : Result TwoScriptsState RunFault) → two_scripts_of inventory.plan first second port ≡ all
          → comparison.scripts_agree ≡ true → comparison.events_equal ≡ true
      scripts_by inventory e (Err fault) a = let none : Err fault ≡ Ok runs = rw (e, a) at is in absurd cc
      scripts_by inventory e (Ok scripts) a =
          let reported : Ok (two_runs inventory.configuration scripts) ≡ Ok runs = rw (e, a) at is in
          let same : runs ≡ two_runs inventory.configuration scripts = cc in
          runs_keep_apart inventory.configuration scripts comparison (subst (λ (some : TwoRunsState). Compares some comparison) same compares)

      by : (up : Result InventoryState RunFault) → up_from given stop ≡ up → comparison.scripts_agree ≡ true → comparison.events_equal ≡ true
      by (Err fault) e = let none : Err fault ≡ Ok runs = rw e at is in absurd cc
      by (Ok inventory) e = scripts_by inventory e (two_scripts_of inventory.plan first second port) refl

  pub answered_apart : (result : Result Comparison RunFault) → ComparesRuns result (Becomes given) answer
      → IfOk result (λ comparison. comparison.scripts_agree ≡ true → comparison.events_equal ≡ true)
  answered_apart (Ok comparison) reported = kept_apart reported.0 reported.1.stop comparison reported.1.is reported.2
  answered_apart (Err fault) reported = tt

-- ---- the subnet, brought up again
pub runs_again : (given : Result InventoryState RunFault) (inventory : InventoryState) (p : ℕ) (commands : List Command) (result : Result PortRunState RunFault)
    → WithFabric (Becomes given) (λ stop. up_from given stop ≡ Ok inventory) → IfOk result (λ run. run ≡ port_run inventory.configuration p commands)
    → IfErr result (λ fault. fault ≡ NoMemory) → RunsAgain result given p commands
runs_again given inventory p commands (Ok run) up is fault = (inventory, same_inventory given up.stop inventory up.is, is)
runs_again given inventory p commands (Err fault) up is none = rw none tt
