-- What wrong rules report of small fabrics.
use Rattle.std.proofs.Common.{◌≡◌, refl, sym, ℕ, true, false, List, [], ◌∷◌, Some}
use Rattle.std.proofs.lemmas.Bool.{false≢true}
use Rattle.fabric_parts.specs.Cable.{far_end, port}
use Rattle.fabric_parts.specs.declared.cable.PortRef.{PortRef}
use Rattle.audit_routes.specs.Verdict.{reasons}
use Rattle.audit_net.specs.Net.{NetState}
use Rattle.topo_file.specs.Node.{is_switch_at}
use Rattle.audit_multicast.specs.Audit.{all_found}
use Rattle.audit_multicast.specs.Copies.{copy_of, second_copy}
use Rattle.audit_multicast.specs.Cuts.{cut_from, member_switches, missed_by}
use Rattle.audit_multicast.specs.Laws.{IsMember, is_own_port}
use Rattle.audit_multicast.specs.Masks.{mlids_of}
use Rattle.audit_multicast.specs.Ways.{is_set}
use Rattle.audit_multicast.proofs.CutLawLemmas.{arrives_there}
use Rattle.audit_multicast.specs.Loops.{loop_of}
use Rattle.audit_multicast.specs.WrongRules.{CutsAreFollowed, CutsDecide, EachMemberSends, MembersAreInMasks, both_ways_on, cut_mfts, in_a_row, one_member, one_way_on, two_apart, two_members}
use Rattle.audit_multicast.specs.WrongRules.{CopiesAreFollowed, MulticastIsAReason, PacketsDoNotGoBack, PacketsEnterAtEndPorts, TwoPortsLoop}
use Rattle.audit_multicast.specs.WrongRules.{looping, one_cable, round_the_corner, safe_routes, triangle, two_cabled, two_cables}

pub packets_do_not_go_back : PacketsDoNotGoBack
packets_do_not_go_back law = false≢true (law two_cabled one_cable (port 0 1 ∷ port 1 1 ∷ []) refl)

pub two_ports_loop : TwoPortsLoop
unfolding loop_of
two_ports_loop law = false≢true (sym (law two_cabled two_cables refl (port 0 1 ∷ port 1 2 ∷ []) refl))

pub packets_enter_at_end_ports : PacketsEnterAtEndPorts
unfolding second_copy
packets_enter_at_end_ports law = false≢true (law two_cabled two_cables (record { from = 0; at = 1 }) refl).0

-- from the first switch over the third
abbrev over_the_third : List PortRef
over_the_third = port 2 2 ∷ port 0 2 ∷ []

abbrev at_once : List PortRef
at_once = port 0 1 ∷ []

two_ways : at_once ≡ over_the_third → ⊥
two_ways same = cc

pub copies_are_followed : CopiesAreFollowed
copies_are_followed law =
    law triangle round_the_corner refl 0 1 refl refl (record { one = at_once; other = over_the_third; differ = two_ways; by_one = refl; by_other = refl })

pub members_are_in_masks : MembersAreInMasks
members_are_in_masks law = false≢true ((law two_apart one_member (record { from = port 0 3; at = port 1 3; more = 0 }) refl).1.set)

pub cuts_are_followed : CutsAreFollowed
unfolding member_switches
cuts_are_followed law = (law in_a_row both_ways_on (record { from = port 0 3; at = port 2 3; more = 0 }) refl).2 (port 1 2 ∷ port 0 1 ∷ [], refl)

-- a port that is in the mask of its switch, and leads to an adapter
member : (net : NetState) (masks : List (List ℕ)) (at end : PortRef) → is_switch_at net.plan.nodes at.node ≡ true → is_own_port net at ≡ true → is_set masks at ≡ true
    → far_end net.plan.cables at ≡ Some end → is_switch_at net.plan.nodes end.node ≡ false → IsMember net masks at
member net masks at end switch own set cable end_port = record { switch = switch; own = own; set = set; end = end; cable = cable; end_port = end_port }

pub each_member_sends : EachMemberSends
unfolding cut_from member_switches missed_by
each_member_sends law =
    let from = member in_a_row one_way_on (port 2 3) (port 4 1) refl refl refl refl refl in
    let at = member in_a_row one_way_on (port 0 3) (port 3 1) refl refl refl refl refl in
    false≢true (arrives_there in_a_row one_way_on 2 0 refl (law in_a_row one_way_on refl (port 2 3) (port 0 3) from at))

pub cuts_decide : CutsDecide
unfolding all_found copy_of loop_of mlids_of second_copy
cuts_decide law =
    let from = member two_apart two_members (port 0 3) (port 2 1) refl refl refl refl refl in
    let at = member two_apart two_members (port 1 3) (port 3 1) refl refl refl refl refl in
    false≢true (arrives_there two_apart two_members 0 1 refl ((law.safe two_apart cut_mfts refl).cuts 49152 refl (port 0 3) (port 1 3) from at))

pub multicast_is_a_reason : MulticastIsAReason
unfolding reasons
multicast_is_a_reason law = false≢true (law.loops safe_routes looping)
