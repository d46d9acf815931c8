use Rattle.std.proofs.Common.{◌≡◌, Global, Vec, ℕ}
use Rattle.std.specs.Option.{option_copied}
use Rattle.cli_args.specs.declared.call.Work.TheVariants as work
use Rattle.fabric_cli.specs.Serving.{ForEnding, comparison_text, complete, texts_with}
use Rattle.fabric_cli.proofs.JudgedLemmas.{comparison_stops, is_compared, made_comes, ok_then}
use Rattle.fabric_cli.proofs.outputs.compared.Goals as goal

pub returns-in-Ok-clause-exact : goal.returns-in-Ok-clause-exact
returns-in-Ok-clause-exact c =
    let partitions = option_copied c.args.partitions in
    let asked = texts_with c.args.topology.now partitions (work.Compare c.args.first.now c.args.second.now c.args.port.now) in
    let reported = rw c.as_bytes.ensures.value at c.in-Ok.ensures.exact in
    made_comes asked c.comparison_text.result c.text_or_stop.result
    (ok_then (λ (text : Vec ℕ Global). text.items ≡ comparison_text c.in-Ok.comparison) (λ (text : Vec ℕ Global). ForEnding asked (λ ending. ending ≡ complete text.items))
    (λ text is. is_compared c.args.topology.now partitions c.args.first.now c.args.second.now c.args.port.now c.in-Ok.comparison text.items reported.0 reported.1 reported.2 is)
    c.comparison_text.result c.comparison_text.ensures)
    c.text_or_stop.ensures.made c.text_or_stop.ensures.fault

pub returns-in-Err-clause-exact : goal.returns-in-Err-clause-exact
returns-in-Err-clause-exact c =
    comparison_stops c.args.topology.now (option_copied c.args.partitions) c.args.first.now c.args.second.now c.args.port.now c.in-Err.fault (rw c.as_bytes.ensures.value at c.in-Err.ensures.exact)
