use Rattle.std.proofs.Common.{◌+◌, arith}
use Rattle.text_words.proofs.RowLemmas.{text_of_one_more}
use Rattle.fabric_graph.specs.Lists.{place_text}
use Rattle.fabric_graph.proofs.drawing.push_nodes.Goals as goal

pub loop-place-preserved : goal.loop-place-preserved
loop-place-preserved c =
    let place = c.loop-place.place in
    text_of_one_more 0 (place_text c.args.topology.now c.args.configuration.now c.args.attachments.now) c.args.text.now.items c.loop-place.text.items
    c.push_place_text.new.text.items place (place + 1) place (omega arith) (omega arith) c.loop-place.invariant c.in_ok-push_place_text.ensures
