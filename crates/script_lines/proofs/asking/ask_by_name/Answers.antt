use Rattle.std.proofs.Common.{rules, sym, ◌∙◌, ◌≡◌, length}
use Rattle.script_lines.proofs.AskedLemmas.{asks_name, bytes_narrow}
use Rattle.script_lines.proofs.AskLoopLemmas.{ok_reported}
use Rattle.script_lines.proofs.asking.ask_by_name.Goals as goal

pub returns : goal.returns
returns c =
    let h = c.ask_by_name.ensures in
    let name = c.in_ok-name.name in
    let long : length name ≡ 64 = search rules in
    asks_name name c.args.asked.now c.ask_by_name.new.self c.ask_by_name.result c.args.value.now c.known_service.ensures c.requires
    (bytes_narrow name c.known_bytes.ensures long) h.bits h.set (sym c.name_bytes.ensures ∙ ok_reported c.name_bytes.result name c.in_ok-name.ensures.value)
