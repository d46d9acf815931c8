-- What `cuts` prints has the line of each cable between switches, and of each entry that changes.
use Rattle.std.proofs.Common.{◌≡◌, sym, subst, ℕ, true, List, refl}
use Rattle.std.specs.List.{Contains}
use Rattle.std.specs.Str.Iter.{HasSubslice}
use Rattle.std.proofs.lemmas.List.Elements.{All-contains}
use Rattle.audit_plan.proofs.SubsliceLemmas.{stands_behind, stands_itself, stands_longer}
use Rattle.cable_cuts.specs.Cables.{joins_switches}
use Rattle.cable_cuts.specs.Changes.{changes, entry_by}
use Rattle.cable_cuts.specs.Outcomes.{IsOutcome, outcome_of}
use Rattle.cable_cuts.specs.Texts.{ReportsAll, change_line, loss_line}
use Rattle.cable_cuts.specs.declared.fate.Cut.TheVariants.{Keeps}
use Rattle.cable_cuts.specs.declared.loss.Loss.{Loss}
use Rattle.cable_cuts.specs.declared.outcome.Outcome.{Outcome}
use Rattle.fabric_parts.specs.declared.cable.Cable.{Cable}
use Rattle.joint_laws.proofs.StandingLemmas.{in_filter, stands_if_there}
use Rattle.joint_laws.specs.LineLaws.{AllCutsArePrinted, AllEntriesArePrinted}
use Rattle.subnet_model.specs.Configuration.{ConfigurationState}
use Rattle.subnet_fabric.proofs.ListLemmas.{mapped_from}
use Rattle.sweep.proofs.EndPortLemmas.{there_is}
use Rattle.topo_file.specs.Node.{is_switch_at}
use Rattle.topo_file.specs.Topology.{TopologyState}
use Rattle.updn_routes.specs.Subnet.{RoutesState}

module _ (plan : TopologyState) (configuration : ConfigurationState) (routes : RoutesState) (text : List ℕ) (reported : ReportsAll plan configuration routes text) where
  abbrev line_of : Loss → List ℕ
  line_of loss = loss_line plan.nodes configuration.ports loss.cable loss.outcome

  -- of a loss that is reported
  loss_printed : (loss : Loss) (cable : Cable) → Contains reported.losses loss → loss.cable ≡ cable
      → (outcome : Outcome) × IsOutcome plan configuration routes cable outcome × HasSubslice text (loss_line plan.nodes configuration.ports cable outcome)
  loss_printed loss cable there is =
      let outcome = loss.outcome in
      let own = All-contains (λ (one : Loss). IsOutcome plan configuration routes one.cable one.outcome) reported.losses loss reported.are.each there in
      let stands : HasSubslice text (line_of loss) =
      subst (λ (t : List ℕ). HasSubslice t (line_of loss)) (sym reported.text_is)
      (stands_longer (line_of loss) _ (stands_if_there line_of (line_of loss) reported.losses loss there (stands_itself (line_of loss)))) in (
        outcome,
        subst (λ (one : Cable). IsOutcome plan configuration routes one outcome) is own,
        subst (λ (one : Cable). HasSubslice text (loss_line plan.nodes configuration.ports one outcome)) is stands,
      )

  cable_printed : (cable : Cable) → Contains plan.cables cable → is_switch_at plan.nodes cable.first.node ≡ true
      → is_switch_at plan.nodes cable.second.node ≡ true
      → (outcome : Outcome) × IsOutcome plan configuration routes cable outcome × HasSubslice text (loss_line plan.nodes configuration.ports cable outcome)
  cable_printed cable there first second =
      let joins : joins_switches plan.nodes cable ≡ true = rw (first, second) refl in
      let cut = in_filter (joins_switches plan.nodes) plan.cables cable there joins in
      let found = mapped_from (λ (loss : Loss). loss.cable) reported.losses cable (subst (λ (all : List Cable). Contains all cable) (sym reported.are.all) cut) in
      loss_printed found.1 cable (there_is reported.losses found.0 found.1 found.2) found.3

pub all_cuts_are_printed : AllCutsArePrinted
all_cuts_are_printed plan configuration routes text cable reported there first second = cable_printed plan configuration routes text reported cable there first second

pub all_entries_are_printed : AllEntriesArePrinted
all_entries_are_printed nodes configuration routes others cable change there =
    let line = change_line configuration.ports change in
    stands_behind line (loss_line nodes configuration.ports cable (outcome_of configuration routes (Keeps others)))
    (stands_if_there (change_line configuration.ports) line (changes configuration.ports (entry_by routes) (entry_by others)) change there (stands_itself line))
