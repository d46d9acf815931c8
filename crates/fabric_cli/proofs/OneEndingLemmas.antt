-- Texts end in one way, whatever became of their fabric.
use Rattle.std.proofs.Common.{ℕ, ◌≡◌, ◌↔◌, ◌∙◌, ap, refl, sym, Bool, true, false, List, Option, Result, Ok, Err, IfOk}
use Rattle.std.proofs.lemmas.Bool.{false≢true}
use Rattle.cli_args.specs.declared.call.Work.{Work}
use Rattle.cli_args.specs.declared.call.Work.TheVariants as work
use Rattle.step_results.specs.Steps.{◌>>=◌}
use Rattle.subnet_core.proofs.FateLemmas.{one_thing_becomes_of_a_fabric}
use Rattle.subnet_core.specs.BringUp.{Becomes, Turns, stop_of}
use Rattle.subnet_core.specs.Fate.{up_from}
use Rattle.subnet_core.specs.Comparison.{Compares, TwoRunsState, two_runs, two_runs_of, two_scripts_of}
use Rattle.subnet_core.specs.Listing.{listing_text}
use Rattle.subnet_core.specs.Inventory.{InventoryState, inventory_by, inventory_of}
use Rattle.subnet_core.specs.declared.comparing.Comparison.{Comparison}
use Rattle.subnet_core.specs.declared.fault.RunFault.{RunFault}
use Rattle.subnet_fabric.specs.BringUp.{BroughtUpState}
use Rattle.fabric_cli.specs.Laws.{OneEndingComesOfTexts, needs_no_routes}
use Rattle.fabric_cli.specs.Serving.{Comes, Finding, compared, comparison_text, complete, ending_by, ending_over, rule_of, run_in}
use Rattle.updn_routes.specs.declared.tie_rule.TieRule.{TieRule}
use Rattle.updn_routes.specs.declared.tie_rule.TieRule.TheVariants.{LeastPort}

-- ---- what becomes of a fabric
becomes : (given : Result InventoryState RunFault) (outcome : Result BroughtUpState RunFault) → Turns given outcome → Becomes given (stop_of outcome)
becomes (Ok inventory) (Ok up) turns = (up, turns)
becomes (Ok inventory) (Err fault) turns = turns
becomes (Err fault) outcome turns = tt

-- ---- what two runs are compared as
same_truth : (a b : Bool) (P : Type 0) → (a ≡ true) ↔ P → (b ≡ true) ↔ P → a ≡ b
same_truth true true P one other = refl
same_truth true false P one other = sym (other.1 (one.0 refl))
same_truth false true P one other = one.1 (other.0 refl)
same_truth false false P one other = refl

same_both : (agree agrees equal equals : Bool) → agree ≡ agrees → equal ≡ equals
    → let one : Comparison = record { scripts_agree = agree; events_equal = equal } in
    let other : Comparison = record { scripts_agree = agrees; events_equal = equals } in
    one ≡ other
same_both agree agrees equal equals one other = rw (one, other) refl

one_comparison : (runs : TwoRunsState) (a b : Comparison) → Compares runs a → Compares runs b → a ≡ b
one_comparison runs a b is also =
    same_both a.scripts_agree b.scripts_agree a.events_equal b.events_equal
    (same_truth a.scripts_agree b.scripts_agree (runs.first.commands ≡ runs.second.commands) is.scripts_agree also.scripts_agree)
    (same_truth a.events_equal b.events_equal (runs.first.events ≡ runs.second.events) is.events_equal also.events_equal)

one_reported : (found : Result TwoRunsState RunFault) (a b : Comparison) → IfOk found (λ runs. Compares runs a) → IfOk found (λ runs. Compares runs b)
    → ending_by (compared found a) ≡ ending_by (compared found b)
one_reported (Ok runs) a b is also = ap (λ (comparison : Comparison). complete (comparison_text comparison)) (one_comparison runs a b is also)
one_reported (Err fault) a b is also = refl

module _ (topology : List ℕ) (partitions : Option (List ℕ)) where
  same_by : (rule : TieRule) (given : Result InventoryState RunFault) → inventory_by rule topology partitions ≡ given → (stop other : Option RunFault) → Becomes given stop → Becomes given other
      → up_from given stop ≡ up_from given other
  unfolding up_from
  same_by rule (Ok inventory) is stop other one two =
      ap (up_from (Ok inventory)) (one_thing_becomes_of_a_fabric rule topology partitions inventory stop other is one two)
  same_by rule (Err fault) is stop other one two = refl

  same_up : (rule : TieRule) (one other : Result BroughtUpState RunFault) → Turns (inventory_by rule topology partitions) one
      → Turns (inventory_by rule topology partitions) other
      → up_from (inventory_by rule topology partitions) (stop_of one) ≡ up_from (inventory_by rule topology partitions) (stop_of other)
  same_up rule one other so too =
      let given = inventory_by rule topology partitions in
      same_by rule given refl (stop_of one) (stop_of other) (becomes given one so) (becomes given other too)

  same_runs : (first second port : List ℕ) (one other : Result BroughtUpState RunFault) → Turns (inventory_of topology partitions) one → Turns (inventory_of topology partitions) other
      → two_runs_of topology partitions first second port (stop_of one) ≡ two_runs_of topology partitions first second port (stop_of other)
  unfolding two_runs_of
  same_runs first second port one other so too =
      ap (λ (up : Result InventoryState RunFault).
      up >>= λ inventory. two_scripts_of inventory.plan first second port >>= λ scripts. Ok (two_runs inventory.configuration scripts)) (same_up LeastPort one other so too)

  ended_alike : (task : Work (List ℕ) (List ℕ) (List ℕ)) → needs_no_routes task ≡ true → (one other : Result BroughtUpState RunFault) (a b : Finding)
      → Comes topology partitions task one a → Comes topology partitions task other b
      → ending_over topology partitions task one a ≡ ending_over topology partitions task other b
  ended_alike (work.Check balanced) free one other a b so too =
      ap (λ (up : Result InventoryState RunFault). ending_by (up >>= λ inventory. Ok (listing_text inventory.configuration))) (same_up (rule_of balanced) one other so too)
  ended_alike (work.Shares port) free one other a b so too = refl
  ended_alike (work.Diff second) free one other a b so too = refl
  ended_alike (work.Inspect what script balanced) free one other a b so too = absurd (false≢true free)
  ended_alike (work.Cuts view balanced) free one other a b so too = absurd (false≢true free)
  ended_alike (work.Run script) free one other a b so too = ap (λ (up : Result InventoryState RunFault). run_in up script) (same_up LeastPort one other so too)
  ended_alike (work.Smps script smps) free one other a b so too = absurd (false≢true free)
  ended_alike (work.Manage replies balanced) free one other a b so too = absurd (false≢true free)
  ended_alike (work.Compare first second port) free one other a b so too =
      let runs = same_runs first second port one other so.0 too.0 in
      let is = so.1 in
      let here : IfOk (two_runs_of topology partitions first second port (stop_of other)) (λ runs. Compares runs a.comparison) = rw runs at is in
      ap (λ (found : Result TwoRunsState RunFault). ending_by (compared found a.comparison)) runs
      ∙ one_reported (two_runs_of topology partitions first second port (stop_of other)) a.comparison b.comparison here too.1

pub one_ending_comes_of_texts : OneEndingComesOfTexts
one_ending_comes_of_texts texts one other free is also =
    sym is.is ∙ ended_alike texts.topology texts.partitions texts.work free is.outcome also.outcome is.finding also.finding is.comes also.comes ∙ also.is
