-- What is wrong with the wrong rules.
use Rattle.std.proofs.Common.{◌≡◌, ap, false, true, refl, sym, ◌≤◌, List, [], ◌∷◌, length, lit<, nat_eq, None, Some, arith}
use Rattle.std.proofs.lemmas.Bool.{false≢true}
use Rattle.step_results.proofs.DistinctLemmas.{distinct}
use Rattle.fabric_parts.specs.Cable.{port}
use Rattle.netdiscover_file.specs.Sound.{IsSound, shares_guid, shares_port as shares_line}
use Rattle.topo_file.specs.Sound.{shares_port}
use Rattle.audit_plan.specs.Plan.{cable_at, joining_cables, plan_found}
use Rattle.audit_plan.specs.WrongRules.{a_plug}
use Rattle.audit_loads.specs.Sources.{Pair}
use Rattle.audit_loads.specs.Talk.{may_talk}
use Rattle.audit_loads.specs.WrongRules.{FirstLinksCountToo, FirstPortsDoNotAddUp, LastLinksCountToo, LostPairsLoad}
use Rattle.audit_loads.specs.WrongRules.{OtherLidsCountToo, OtherSwitchesCountToo, PairsCountOnce, PortsCountFrom1, SilentPortsDoNotCount, UnusedChannelsHaveALine}
use Rattle.audit_loads.specs.WrongRules.{four_switches, pairs_to_k, to_k, two_switches}
use Rattle.audit_loads.proofs.CableLemmas.{lead_back}

-- A sends LID 2 to B, which has no port 9
pub lost_pairs_load : LostPairsLoad
lost_pairs_load law = false≢true (sym (law (two_switches 2 9) (pairs_to_k (two_switches 2 9)) (port 0 2)))

-- h/1 and k/1 may not talk
pub silent_ports_do_not_count : SilentPortsDoNotCount
silent_ports_do_not_count law =
    let none : 1 ≡ 0 = ap (λ (pairs : List Pair). length pairs) (law (two_switches 2 1) (λ source end. false) to_k) in absurd (omega (arith, none))

-- A and B send LID 2 to one another
pub first_ports_do_not_add_up : FirstPortsDoNotAddUp
first_ports_do_not_add_up law =
    let none : 1 ≡ 2 = law (two_switches 2 2) (pairs_to_k (two_switches 2 2)) (port 0 2 ∷ port 1 2 ∷ []) in absurd (omega (arith, none))

-- what h/1 sends comes to D from C, the third switch
pub last_links_count_too : LastLinksCountToo
last_links_count_too law =
    let cables = lead_back four_switches.plan four_switches.plan.cables refl (distinct shares_port four_switches.plan.cables refl) (λ a b joined. joined) in
    let none : 0 ≡ 1 = law four_switches (may_talk None) 2 5 (port 3 1) cables refl in absurd (omega (arith, none))

-- it comes to B from A, the first
pub first_links_count_too : FirstLinksCountToo
first_links_count_too law =
    let net = two_switches 2 1 in
    let cables = lead_back net.plan net.plan.cables refl (distinct shares_port net.plan.cables refl) (λ a b joined. joined) in
    let none : 0 ≡ 1 = law net (may_talk None) 2 1 (port 3 1) cables refl in absurd (omega (arith, none))

-- the cable from port 1 to port 2 of a switch
ports_are_sound : IsSound a_plug
ports_are_sound = record {
  lines = record {
    own_nodes = distinct shares_guid a_plug.nodes refl;
    own_lines = distinct shares_line a_plug.ports refl;
    own_guids = distinct nat_eq [] refl;
    are_ports = refl;
    have_own = refl;
  };
  cables = refl;
  found = refl;
}

pub ports_count_from_1 : PortsCountFrom1
unfolding plan_found joining_cables cable_at
ports_count_from_1 law = false≢true ((law.discovery a_plug ports_are_sound).ports (port 0 0) (port 0 1) refl)

pub pairs_count_once : PairsCountOnce
pairs_count_once law = let most : 2 ≤ 1 = law (two_switches 2 1) (pairs_to_k (two_switches 2 1)) (port 0 2) in absurd (omega (arith, most))

-- nothing goes over the cable from B to A
pub unused_channels_have_a_line : UnusedChannelsHaveALine
unused_channels_have_a_line law = let none : 0 ≡ 1 = law (two_switches 2 1) (pairs_to_k (two_switches 2 1)) (port 1 2) in absurd (omega (arith, none))

-- k/1 is attached to B, and sends to LID 1, which is h/1's
pub other_switches_count_too : OtherSwitchesCountToo
other_switches_count_too law =
    let counted : false ≡ true =
    law (two_switches 2 1) (may_talk None) (record { lid = 1; guid = Some 257; end = Some (port 2 1) } ∷ []) 1 1 (port 3 1) (port 2 1)
    (record { index = 1; switch = refl; before = 0; within = lit< tt; cable = refl; host = refl }) (record { index = 0; guid = Some 257; aim = refl; host = refl }) refl refl in
    false≢true counted

-- h/1 sends to LID 2, which is k/1's and the second
pub other_lids_count_too : OtherLidsCountToo
other_lids_count_too law =
    let counted : false ≡ true =
    law (two_switches 2 1) (may_talk None) (record { lid = 1; guid = Some 257; end = Some (port 2 1) } ∷ to_k) 0 2 (port 2 1) (port 3 1)
    (record { index = 0; switch = refl; before = 0; within = lit< tt; cable = refl; host = refl }) (record { index = 1; guid = Some 513; aim = refl; host = refl }) refl refl in
    false≢true counted
