-- Two ports that share no partition: the second event of a report is the first one where the other port does nothing; and one is
-- not near the other.
use Rattle.std.proofs.Common.{ℕ, ◌≡◌, zero, suc, true, false, List, [], ◌∷◌, ap}
use Rattle.subnet_model.specs.Examples.{two_tenants}
use Rattle.subnet_core.specs.WrongRules.{AllPortsAreNotNear, CountedEvent, CountedEventsReportOfFarPorts}
use Rattle.subnet_model.specs.Configuration.{ConfigurationState}
use Rattle.subnet_model.specs.declared.command.Command.{Command}
use Rattle.subnet_model.specs.declared.command.Command.TheVariants.{Send}

abbrev apart : ConfigurationState
apart = record { ports = two_tenants; partitions = [] }

-- under a key that neither holds, so that each port refuses
abbrev refused_of : ℕ → Command
refused_of port_guid = Send (record { port_guid = port_guid; dlid = 4; p_key = 0x8003; destination_qp = 7; payload = [] })

abbrev first_number : List CountedEvent → ℕ
first_number [] = 0
first_number (one ∷ others) = one.number

pub counted_events_report_of_far_ports : CountedEventsReportOfFarPorts
counted_events_report_of_far_ports law =
    let reported : suc (suc zero) ≡ suc zero = ap first_number (law apart 0x111 (refused_of 0x121 ∷ refused_of 0x111 ∷ [])) in
    absurd (cc)

pub all_ports_are_not_near : AllPortsAreNotNear
all_ports_are_not_near law =
    let listed : true ≡ false = law apart.ports 0x111 0x121 in
    absurd (cc)
