-- What is wrong with the wrong rules.
use Rattle.std.proofs.Common.{ℕ, ◌≡◌, ◌≤◌, refl, sym, nat_eq, List, [], ◌∷◌, length, lit<, arith}
use Rattle.std.proofs.lemmas.Bool.{false≢true}
use Rattle.fabric_parts.specs.Cable.{port}
use Rattle.netdiscover_file.specs.Sound.{IsSound, shares_guid, shares_port}
use Rattle.step_results.proofs.DistinctLemmas.{distinct}
use Rattle.audit_plan.specs.Plan.{cable_at, cables_apart, joining_cables, plan_found}
use Rattle.audit_plan.specs.Laws.{LeadsToHost}
use Rattle.audit_plan.specs.WrongRules.{AllTopsCount, LeavesAreNoTops, LevelsBeginAt0, NotAllAreLeaves, TopsAreNotOfLevel1, no_hosts, one_leaf, three_levels, two_tops}
use Rattle.audit_plan.specs.WrongRules.{ANodeMayBeJoinedToItself, AdaptersAreJoinedApart, NobodyHasLid0, SwitchesHaveLids, a_plug, a_switch_with_lid, an_adapter_without_lid, two_adapters}
use Rattle.audit_plan.proofs.TopLemmas.{tops_are_farthest}

a_plug_is_sound : IsSound a_plug
a_plug_is_sound = record {
  lines = record {
    own_nodes = distinct shares_guid a_plug.nodes refl;
    own_lines = distinct shares_port a_plug.ports refl;
    own_guids = distinct nat_eq [] refl;
    are_ports = refl;
    have_own = refl;
  };
  cables = refl;
  found = refl;
}

pub a_node_may_be_joined_to_itself : ANodeMayBeJoinedToItself
unfolding plan_found joining_cables cables_apart cable_at
a_node_may_be_joined_to_itself law = false≢true (law.joined a_plug (port 0 1) (port 0 2) a_plug_is_sound)

pub adapters_are_joined_apart : AdaptersAreJoinedApart
unfolding plan_found joining_cables cables_apart cable_at
adapters_are_joined_apart law = false≢true (law.at_switches two_adapters)

pub nobody_has_lid_0 : NobodyHasLid0
nobody_has_lid_0 law = false≢true (sym (law an_adapter_without_lid 0 17))

pub switches_have_lids : SwitchesHaveLids
switches_have_lids law = false≢true (law a_switch_with_lid 5 16)

-- a host is attached to A, whose level is 0
pub levels_begin_at_0 : LevelsBeginAt0
levels_begin_at_0 law = let most : 1 ≤ 0 = law.least one_leaf 0 [] refl (lit< tt) in absurd (omega (arith, most))

pub not_all_are_leaves : NotAllAreLeaves
not_all_are_leaves law = let way = law.there no_hosts 0 (lit< tt) in by way.0 way.1 way.2
  where
    by : (over : List ℕ) → length over ≡ 0 → LeadsToHost no_hosts 0 over → ⊥
    by [] none leads = false≢true leads
    by (before ∷ rest) none leads = absurd (omega (arith, none))

-- C is farther from hosts than B
pub tops_are_not_of_level_1 : TopsAreNotOfLevel1
tops_are_not_of_level_1 law =
    let most : 2 ≤ 1 = (law.only three_levels 1 refl).farthest 2 refl (lit< tt) in absurd (omega (arith, most))

-- h is attached to A
pub leaves_are_no_tops : LeavesAreNoTops
leaves_are_no_tops law = false≢true (sym (law.only one_leaf 0 refl).hostless)

-- A/2 and A/3 lead to B and C
pub all_tops_count : AllTopsCount
all_tops_count law = false≢true (law.all two_tops 2 (tops_are_farthest.only two_tops 2 refl))
