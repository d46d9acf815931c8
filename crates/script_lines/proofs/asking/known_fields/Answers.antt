use Rattle.script_lines.proofs.AskedLemmas.{service_fits}
use Rattle.script_lines.proofs.asking.known_fields.Goals as goal

pub returns : goal.returns
returns c =
    let known = c.known_numbers.ensures in
    service_fits c.args.service.now known.numbers c.known_bytes.ensures known.name c.known_bytes-2.ensures known.«data»
