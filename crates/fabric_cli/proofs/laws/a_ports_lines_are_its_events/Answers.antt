use Rattle.fabric_cli.proofs.PrintedLemmas.{a_ports_lines_are_its_events}
use Rattle.fabric_cli.proofs.laws.a_ports_lines_are_its_events.Goals as goal

pub returns : goal.returns
returns c = a_ports_lines_are_its_events
