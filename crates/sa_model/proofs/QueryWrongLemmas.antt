-- What wrong rules show: to a limited member another one, and its services; to a port groups in a partition that it
-- has no part in; and that a node comes from the partition file.
use Rattle.std.proofs.Common.{Bool, true, false, List, [], ◌∷◌, ◌≡◌, ap, refl}
use Rattle.subnet_model.specs.declared.subnet_port.SubnetPort.{SubnetPort}
use Rattle.sa_model.specs.GroupExamples.{ports, nobody, both}
use Rattle.subnet_model.specs.Examples.{adapter}
use Rattle.sa_records.specs.NodeRecord.{node_record_selected}
use Rattle.sa_model.specs.ServiceChange.{Deed, services_changed}
use Rattle.sa_model.specs.Services.{no_services}
use Rattle.sa_model.specs.Shown.{Entry}
use Rattle.sa_model.specs.QueryExamples.{all_nodes, manager, limited, nothing, service}
use Rattle.sa_model.specs.QueryWrongRules.{PathsByBaseReport, GroupsOfAllReport, ServicesOfPortsNearReport, AllOfFileIsWrong}
use Rattle.sa_model.specs.Anchor.{is_by_file}

pub paths_by_base_report : PathsByBaseReport
paths_by_base_report law = let reported : false ≡ true = law ports limited refl in absurd (cc)

abbrev is_some : List Entry → Bool
is_some [] = false
is_some (entry ∷ entries) = true

pub groups_of_all_report : GroupsOfAllReport
groups_of_all_report law =
    let reported : false ≡ true = ap is_some (law ports manager nobody both refl refl) in absurd (cc)

-- two ports that share the partition of base 2, and are both limited members of that of base 1
abbrev mixed : SubnetPort
mixed = adapter 1 0x111 (0x0001 ∷ 0x8002 ∷ [])

abbrev mixed_ports : List SubnetPort
mixed_ports = mixed ∷ adapter 2 0x121 (0x0001 ∷ 0x0002 ∷ []) ∷ []

pub services_of_ports_near_report : ServicesOfPortsNearReport
services_of_ports_near_report law =
    let reported : false ≡ true = ap is_some
    (law mixed_ports mixed (no_services mixed_ports)
    (services_changed (no_services mixed_ports) (record { port = 0x121; base = 1; deed = Deed.sets service })) refl refl) in
    absurd (cc)

pub all_of_file_is_wrong : AllOfFileIsWrong
unfolding node_record_selected
all_of_file_is_wrong law =
    let reported : true ≡ false = ap is_by_file (law ports manager nothing all_nodes).0 in absurd (cc)
