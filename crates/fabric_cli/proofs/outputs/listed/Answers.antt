use Rattle.std.proofs.Common.{◌≡◌, Global, Vec, ℕ}
use Rattle.std.specs.Option.{option_copied}
use Rattle.std.specs.Prelude.{IsErr}
use Rattle.cli_args.specs.declared.call.Work.TheVariants as work
use Rattle.fabric_cli.specs.Serving.{ForEnding, complete, texts_with}
use Rattle.subnet_core.specs.Listing.{listing_text}
use Rattle.fabric_cli.proofs.JudgedLemmas.{is_listed, listing_stops, made_comes, ok_then, refused_of_run}
use Rattle.fabric_cli.proofs.outputs.listed.Goals as goal

pub returns-in-Ok-clause-exact : goal.returns-in-Ok-clause-exact
returns-in-Ok-clause-exact c =
    let partitions = option_copied c.args.partitions in
    made_comes (texts_with c.args.topology.now partitions (work.Check c.args.balanced)) c.listing.result c.text_or_stop.result
    (ok_then (λ (text : Vec ℕ Global). text.items ≡ listing_text c.in-Ok.subnet.inventory.configuration)
    (λ (text : Vec ℕ Global). ForEnding (texts_with c.args.topology.now partitions (work.Check c.args.balanced)) (λ ending. ending ≡ complete text.items))
    (λ text is. is_listed c.args.balanced c.args.topology.now partitions c.in-Ok.subnet.inventory text.items (rw c.rule_of.ensures at c.in-Ok.ensures.exact) is) c.listing.result c.listing.ensures)
    c.text_or_stop.ensures.made c.text_or_stop.ensures.fault

pub returns-in-Err-clause-exact : goal.returns-in-Err-clause-exact
returns-in-Err-clause-exact c = listing_stops c.args.balanced c.args.topology.now (option_copied c.args.partitions) c.in-Err.fault (rw c.rule_of.ensures at c.in-Err.ensures.exact)

pub returns-in-Ok-clause-fault : goal.returns-in-Ok-clause-fault
returns-in-Ok-clause-fault c = refused_of_run c.text_or_stop.result (IsErr c.listing.result) c.text_or_stop.ensures.fault
