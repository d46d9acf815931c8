-- Of each topology, and of each cable, one text is right.
use Rattle.std.proofs.Common.{ℕ, suc, ◌+◌, ◌≡◌, ◌∙◌, ap, refl, sym, subst, Bool, true, false, List, [], ◌∷◌, ◌++◌, filter, flat_map, get_or, length, map, Some, slice_get, arith, add-zero, zero-add}
use Rattle.std.specs.List.{All, list_all}
use Rattle.std.proofs.lemmas.Bool.{and_from, and_parts}
use Rattle.fabric_parts.specs.declared.cable.Cable.{Cable}
use Rattle.subnet_model.specs.Configuration.{ConfigurationState}
use Rattle.subnet_model.specs.declared.subnet_port.SubnetPort.{SubnetPort}
use Rattle.topo_file.specs.Sound.{IsSound}
use Rattle.topo_file.specs.Topology.{TopologyState}
use Rattle.updn_routes.specs.Subnet.{RoutesState}
use Rattle.cable_cuts.proofs.FateLemmas.{one_fate_is_reported}
use Rattle.cable_cuts.proofs.LossLemmas.{listed_can_be_cut}
use Rattle.cable_cuts.specs.Cables.{can_be_cut, joins_switches, switch_cables}
use Rattle.cable_cuts.specs.Changes.{changes, entry_by}
use Rattle.cable_cuts.specs.Fate.{HaveBroughtUp}
use Rattle.cable_cuts.specs.Laws.{OneTextIsReported, ReportTheSame}
use Rattle.cable_cuts.specs.Masks.{mask_by, mask_changes}
use Rattle.cable_cuts.specs.Outcomes.{IsOutcome, difference_of, outcome_of}
use Rattle.cable_cuts.specs.Texts.{ReportsAll, ReportsOne, change_line, change_lines, lines_of, loss_line}
use Rattle.cable_cuts.specs.declared.fate.Cut.{Cut}
use Rattle.cable_cuts.specs.declared.fate.Cut.TheVariants.{Keeps, Stops}
use Rattle.cable_cuts.specs.declared.loss.Loss.{Loss}
use Rattle.cable_cuts.specs.declared.outcome.Outcome.{Outcome}
use Rattle.cable_cuts.specs.declared.outcome.Outcome.TheVariants as outcome

-- ---- fates that report the same give the same lines
module _ (configuration : ConfigurationState) (routes : RoutesState) where
  abbrev ports : List SubnetPort
  ports = configuration.ports

  same_outcome : (one other : Cut) → ReportTheSame one other → outcome_of configuration routes other ≡ outcome_of configuration routes one
  same_outcome (Keeps one) (Keeps other) same =
      let tables = same.0 in
      let masks = same.1 ports in
      λ i. outcome.Keeps (difference_of ports (changes ports (entry_by routes) (tables i)) (mask_changes configuration (mask_by ports routes) (masks i)))
  same_outcome (Stops one) (Stops other) same = λ i. outcome.Stops (same i)
  same_outcome (Keeps one) (Stops other) same = absurd same
  same_outcome (Stops one) (Keeps other) same = absurd same

  same_changes : (one other : Cut) → ReportTheSame one other → change_lines ports routes other ≡ change_lines ports routes one
  same_changes (Keeps one) (Keeps other) same = λ i. flat_map (change_line ports) (changes ports (entry_by routes) (same.0 i))
  same_changes (Stops one) (Stops other) same = refl
  same_changes (Keeps one) (Stops other) same = absurd same
  same_changes (Stops one) (Keeps other) same = absurd same

-- ---- cables between switches can be cut
kept_can : (plan : TopologyState) (first : ℕ) (cables : List Cable) → ((k : ℕ) → slice_get cables k ≡ slice_get plan.cables (first + k))
    → list_all (can_be_cut plan) (filter (joins_switches plan.nodes) cables) ≡ true
kept_can plan first [] there = refl
kept_can plan first (cable ∷ cables) there =
    by (joins_switches plan.nodes cable) refl (kept_can plan (first + 1) cables (λ k. there (suc k) ∙ ap (slice_get plan.cables) (omega (arith))))
  where
    here : slice_get plan.cables first ≡ Some cable
    here = ap (slice_get plan.cables) (sym (add-zero first)) ∙ sym (there 0)

    by : (b : Bool) → joins_switches plan.nodes cable ≡ b → list_all (can_be_cut plan) (filter (joins_switches plan.nodes) cables) ≡ true
        → list_all (can_be_cut plan) (filter (joins_switches plan.nodes) (cable ∷ cables)) ≡ true
    by true joins rest = rw joins (and_from (can_be_cut plan cable) _ (listed_can_be_cut plan first cable here joins) rest)
    by false joins rest = rw joins rest

all_can : (plan : TopologyState) → list_all (can_be_cut plan) (switch_cables plan) ≡ true
all_can plan = kept_can plan 0 plan.cables (λ k. ap (slice_get plan.cables) (sym (zero-add k)))

-- ---- one list of losses
abbrev rest_of : List Cable → List Cable
rest_of [] = []
rest_of (cable ∷ cables) = cables

module _ (plan : TopologyState) (configuration : ConfigurationState) (routes : RoutesState) (sound : IsSound plan) (up : HaveBroughtUp plan routes) where
  one_outcome : (cable : Cable) (one other : Outcome) → can_be_cut plan cable ≡ true → IsOutcome plan configuration routes cable one
      → IsOutcome plan configuration routes cable other → other ≡ one
  one_outcome cable one other can is too =
      too.outcome_is
      ∙ same_outcome configuration routes is.fate too.fate (one_fate_is_reported plan routes cable is.fate too.fate sound up can is.fate_is too.fate_is)
      ∙ sym is.outcome_is

  abbrev Reported : Loss → Type 0
  Reported loss = IsOutcome plan configuration routes loss.cable loss.outcome

  abbrev cables_of : List Loss → List Cable
  cables_of losses = map (λ loss. loss.cable) losses

  none_behind : (cable : Cable) (cables : List Cable) → [] ≡ cable ∷ cables → ⊥
  none_behind cable cables same = let long = ap (λ (cables : List Cable). length cables) same in omega (arith, long)

  one_loss : (one other : Loss) → one.cable ≡ other.cable → can_be_cut plan one.cable ≡ true → Reported one → Reported other → other ≡ one
  one_loss one other same can is too =
      let outcome = one_outcome one.cable one.outcome other.outcome can is (subst (λ (cable : Cable). IsOutcome plan configuration routes cable other.outcome) (sym same) too) in
      let cable = sym same in
      λ i. record { cable = cable i; outcome = outcome i }

  one_list : (xs ys : List Loss) → cables_of xs ≡ cables_of ys → list_all (can_be_cut plan) (cables_of xs) ≡ true → All Reported xs → All Reported ys
      → ys ≡ xs
  one_list [] [] same can all all_too = refl
  one_list [] (y ∷ ys) same can all all_too = absurd (none_behind y.cable (cables_of ys) same)
  one_list (x ∷ xs) [] same can all all_too = absurd (none_behind x.cable (cables_of xs) (sym same))
  one_list (x ∷ xs) (y ∷ ys) same can all all_too =
      let parts = and_parts (can_be_cut plan x.cable) _ can in
      let first : x.cable ≡ y.cable = ap (λ (cables : List Cable). get_or cables 0 x.cable) same in
      let head = one_loss x y first parts.0 (all 0 x (omega arith)) (all_too 0 y (omega arith)) in
      let tail = one_list xs ys (ap rest_of same) parts.1 (λ k d less. all (suc k) d (omega (arith, less))) (λ k d less. all_too (suc k) d (omega (arith, less))) in
      λ i. head i ∷ tail i

  all_one : (one other : List ℕ) → ReportsAll plan configuration routes one → ReportsAll plan configuration routes other → other ≡ one
  all_one one other is too =
      let can = ap (list_all (can_be_cut plan)) is.are.all ∙ all_can plan in
      let same = one_list is.losses too.losses (is.are.all ∙ sym too.are.all) can is.are.each too.are.each in
      too.text_is ∙ ap (λ (losses : List Loss). lines_of plan.nodes configuration.ports losses) same ∙ sym is.text_is

  one_one : (cable : Cable) (one other : List ℕ) → can_be_cut plan cable ≡ true → ReportsOne plan configuration routes cable one
      → ReportsOne plan configuration routes cable other → other ≡ one
  one_one cable one other can is too =
      let same = one_fate_is_reported plan routes cable is.fate too.fate sound up can is.fate_is too.fate_is in
      let outcome = same_outcome configuration routes is.fate too.fate same in
      let lines = same_changes configuration routes is.fate too.fate same in
      too.text_is ∙ (λ i. loss_line plan.nodes configuration.ports cable (outcome i) ++ lines i) ∙ sym is.text_is

pub one_text_is_reported : OneTextIsReported
one_text_is_reported plan configuration routes cable one other sound up =
    (all_one plan configuration routes sound up one other, one_one plan configuration routes sound up cable one other)
