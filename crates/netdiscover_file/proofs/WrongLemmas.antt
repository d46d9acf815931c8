-- What wrong rules let pass.
use Rattle.std.proofs.Common.{◌≡◌, refl, ℕ, true, false, nat_eq, arith, List, [], ◌∷◌, Option, Some, None}
use Rattle.std.proofs.lemmas.Bool.{false≢true, true≢false}
use Rattle.fabric_parts.specs.Cable.{port}
use Rattle.step_results.proofs.DistinctLemmas.{differ, distinct}
use Rattle.step_results.proofs.ListLemmas.{IsDistinct-nil}
use Rattle.netdiscover_file.specs.declared.assignment.SwitchGuids.{SwitchGuids}
use Rattle.netdiscover_file.specs.declared.kind.NodeKind.TheVariants.{ChannelAdapter, Switch}
use Rattle.netdiscover_file.specs.declared.node.Node.{Node}
use Rattle.netdiscover_file.specs.declared.port.PortLine.{PortLine}
use Rattle.netdiscover_file.specs.Discovery.{DraftState}
use Rattle.netdiscover_file.specs.Laws.{IsReportedSoFar}
use Rattle.netdiscover_file.specs.Sound.{shares_guid, shares_port, AreSound}
use Rattle.netdiscover_file.specs.WrongRules.{ANodeMayBeJoinedToItself, FarEndsAloneAreNotEnough, NodesAloneAreNotEnough, NumbersAloneAreNotEnough, OtherEndsAloneMayBeTwo, OtherSwitchesAreWanted, PortsAloneAreNotEnough, SomeGuidsAreFree}

-- a switch of two ports, with this GUID and that of its port 0
abbrev switch : ℕ → ℕ → Node
switch guid port_guid = record { id = record { kind = Switch; guid = guid }; ports = 2; name = []; lid = Some 1; port_guid = Some port_guid; line = 1 }

-- a line of a switch's port, which leads to another
abbrev leads : ℕ → ℕ → ℕ → ℕ → PortLine
leads place number far_guid far_number =
    record { port = port place number; guid = None; lid = None; far = record { node = record { kind = Switch; guid = far_guid }; port = far_number; guid = None }; line = 1 }

-- both ports of the first switch lead to port 1 of the second, which leads back to port 1 alone
pub far_ends_alone_are_not_enough : FarEndsAloneAreNotEnough
far_ends_alone_are_not_enough law =
    let reported : false ≡ true = law (switch 1 1 ∷ switch 2 2 ∷ []) (leads 0 1 2 1 ∷ leads 0 2 2 1 ∷ leads 1 1 1 1 ∷ []) refl in
    false≢true reported

-- one switch stands already
abbrev one_switch : Option SwitchGuids → DraftState
one_switch reported = record { nodes = switch 1 1 ∷ []; ports = []; port_guids = 1 ∷ []; switch_guids = reported; again = None; initiator = None }

one_reported : (reported : Option SwitchGuids) → IsReportedSoFar (one_switch reported)
one_reported reported = record {
  sound = record {
    lines = record {
      own_nodes = distinct shares_guid (switch 1 1 ∷ []) refl;
      own_lines = IsDistinct-nil shares_port;
      own_guids = distinct nat_eq (1 ∷ []) refl;
      are_ports = refl;
      have_own = refl;
    };
    all_noted = refl;
  };
  noted_alone = refl;
}

-- another, whose port 0 has the GUID of the first one's
pub nodes_alone_are_not_enough : NodesAloneAreNotEnough
nodes_alone_are_not_enough law =
    let reported : false ≡ true = differ nat_eq (1 ∷ 1 ∷ []) ((law (one_switch None) (switch 2 1) (one_reported None)).0 refl).apart.own_guids in
    false≢true reported

-- another of the same GUID
pub ports_alone_are_not_enough : PortsAloneAreNotEnough
ports_alone_are_not_enough law =
    let reported : false ≡ true = differ shares_guid (switch 1 1 ∷ switch 1 2 ∷ []) ((law (one_switch None) (switch 1 2) (one_reported None)).0 refl).apart.own_nodes in
    false≢true reported

-- another, where the line before reported the GUIDs of a third
pub other_switches_are_wanted : OtherSwitchesAreWanted
other_switches_are_wanted law =
    let third : SwitchGuids = record { node = 3; port = 2 } in
    let same : ◌≡◌ {A = ℕ} 2 3 = (((law (one_switch (Some third)) (switch 2 2) (one_reported (Some third))).0 refl).meant third refl).1 in
    omega (arith, same)

-- another, whose GUIDs are all new
pub some_guids_are_free : SomeGuidsAreFree
some_guids_are_free law =
    let reported : true ≡ false = (law (one_switch None) (switch 2 2) (one_reported None)).1 (record {
      apart = record {
        own_nodes = distinct shares_guid (switch 1 1 ∷ switch 2 2 ∷ []) refl;
        own_lines = IsDistinct-nil shares_port;
        own_guids = distinct nat_eq (1 ∷ 2 ∷ []) refl;
        are_ports = refl;
        have_own = refl;
      };
      meant = λ guids is. absurd cc;
    }) in
    true≢false reported

-- two adapters, whose ports have the GUIDs 5 and 7; the line of the one reports 9 of the other
abbrev adapter : ℕ → Node
adapter guid = record { id = record { kind = ChannelAdapter; guid = guid }; ports = 1; name = []; lid = None; port_guid = None; line = 1 }

abbrev joined : ℕ → ℕ → ℕ → ℕ → PortLine
joined place guid far_node far_guid =
    record { port = port place 1; guid = Some guid; lid = Some 1; far = record { node = record { kind = ChannelAdapter; guid = far_node }; port = 1; guid = Some far_guid }; line = 1 }

pub numbers_alone_are_not_enough : NumbersAloneAreNotEnough
numbers_alone_are_not_enough law =
    let reported : false ≡ true = law (adapter 1 ∷ adapter 2 ∷ []) (joined 0 5 2 9 ∷ joined 1 7 1 5 ∷ []) refl in
    false≢true reported

-- a switch whose ports are joined to each other
abbrev loop_lines : List PortLine
loop_lines = leads 0 1 1 2 ∷ leads 0 2 1 1 ∷ []

loop_sound : AreSound (switch 1 1 ∷ []) loop_lines
loop_sound = record {
  own_nodes = distinct shares_guid (switch 1 1 ∷ []) refl;
  own_lines = distinct shares_port loop_lines refl;
  own_guids = distinct nat_eq (1 ∷ []) refl;
  are_ports = refl;
  have_own = refl;
}

pub a_node_may_be_joined_to_itself : ANodeMayBeJoinedToItself
a_node_may_be_joined_to_itself law =
    let reported : false ≡ true = law (switch 1 1 ∷ []) loop_lines loop_sound (leads 0 1 1 2) in
    false≢true reported

-- two lines of one port, both of which lead back
pub other_ends_alone_may_be_two : OtherEndsAloneMayBeTwo
other_ends_alone_may_be_two law =
    let same : ◌≡◌ {A = ℕ} 1 2 =
    law (record { nodes = switch 1 1 ∷ switch 2 2 ∷ []; ports = leads 0 1 2 1 ∷ leads 1 1 1 1 ∷ leads 1 1 1 1 ∷ []; initiator = None }) refl
    (leads 0 1 2 1) (leads 1 1 1 1) (leads 1 1 1 1) 1 2 refl refl refl refl in
    omega (arith, same)
