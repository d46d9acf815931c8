use Rattle.script_lines.proofs.AskedLemmas.{asks_number}
use Rattle.script_lines.proofs.asking.ask_by_number.Goals as goal

pub returns : goal.returns
returns c =
    asks_number c.args.field.now c.args.value c.args.asked.now c.ask_by.new.self c.ask_by.result c.known_service.ensures c.requires c.ask_by.ensures.bits c.ask_by.ensures.set c.ask_by.ensures.fits
