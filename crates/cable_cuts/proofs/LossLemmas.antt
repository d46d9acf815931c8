-- The cables of a topology between switches, one after another.
use Rattle.std.proofs.Common.{◌≡◌, ℕ, ◌+◌, ◌<◌, Bool, true, false, cond, ◌&&◌, ◌∙◌, List, [], ◌∷◌, ◌++◌, filter, get_or, length, map, take, Some, ap, sym, slice_get}
use Rattle.std.proofs.lemmas.Bool.{and_from, or_left}
use Rattle.std.proofs.lemmas.List.{append-nil, map-append}
use Rattle.std.proofs.lemmas.List.Elements.{All-push, filter_more}
use Rattle.fabric_parts.specs.Cable.{is_same_port}
use Rattle.fabric_parts.specs.declared.cable.Cable.{Cable}
use Rattle.fabric_wire.specs.Cabling.{is_between}
use Rattle.smp_wire.proofs.CableLemmas.{itself}
use Rattle.sweep.proofs.FoundLemmas.{any_by}
use Rattle.subnet_model.specs.Configuration.{ConfigurationState}
use Rattle.topo_file.specs.Topology.{TopologyState}
use Rattle.updn_routes.specs.Subnet.{RoutesState}
use Rattle.cable_cuts.specs.Cables.{can_be_cut, joins_switches}
use Rattle.cable_cuts.specs.Outcomes.{AreLossesOf, IsOutcome}
use Rattle.cable_cuts.specs.declared.loss.Loss.{Loss}
use Rattle.cable_cuts.specs.declared.outcome.Outcome.{Outcome}

pub listed_can_be_cut : (plan : TopologyState) (k : ℕ) (cable : Cable) → slice_get plan.cables k ≡ Some cable → joins_switches plan.nodes cable ≡ true
    → can_be_cut plan cable ≡ true
listed_can_be_cut plan k cable there joins =
    and_from (joins_switches plan.nodes cable) _ joins
    (any_by (is_between cable.first cable.second) plan.cables k cable there
    (or_left (is_same_port cable.first cable.first && is_same_port cable.second cable.second) _
    (and_from (is_same_port cable.first cable.first) _ (itself cable.first) (itself cable.second))))

-- ---- one more cable
module _ (plan : TopologyState) (configuration : ConfigurationState) (routes : RoutesState) (cables : List Cable) (i : ℕ) (none : Cable) (within : i < length cables) where
  abbrev cable : Cable
  cable = get_or cables i none

  pub one_more : (outcome : Outcome) (old new : List Loss) → joins_switches plan.nodes cable ≡ true → IsOutcome plan configuration routes cable outcome
      → new ≡ old ++ record { cable = cable; outcome = outcome } ∷ []
      → AreLossesOf plan configuration routes (filter (joins_switches plan.nodes) (take i cables)) old
      → AreLossesOf plan configuration routes (filter (joins_switches plan.nodes) (take (i + 1) cables)) new
  one_more outcome old new joins is more so_far = record {
    all = ap (map (λ (loss : Loss). loss.cable)) more ∙ map-append (λ (loss : Loss). loss.cable) old (record { cable = cable; outcome = outcome } ∷ [])
        ∙ ap (λ (some : List Cable). some ++ cable ∷ []) so_far.all
        ∙ sym (filter_more (joins_switches plan.nodes) cables i none within
        ∙ ap (λ (b : Bool). filter (joins_switches plan.nodes) (take i cables) ++ cond b (cable ∷ []) []) joins);
    each = rw more (All-push (λ (loss : Loss). IsOutcome plan configuration routes loss.cable loss.outcome) old (record { cable = cable; outcome = outcome }) so_far.each is);
  }

  pub no_more : (losses : List Loss) → joins_switches plan.nodes cable ≡ false
      → AreLossesOf plan configuration routes (filter (joins_switches plan.nodes) (take i cables)) losses
      → AreLossesOf plan configuration routes (filter (joins_switches plan.nodes) (take (i + 1) cables)) losses
  no_more losses joins so_far = record {
    all = so_far.all ∙ sym (filter_more (joins_switches plan.nodes) cables i none within
        ∙ ap (λ (b : Bool). filter (joins_switches plan.nodes) (take i cables) ++ cond b (cable ∷ []) []) joins
        ∙ append-nil (filter (joins_switches plan.nodes) (take i cables)));
    each = so_far.each;
  }
