use Rattle.topology_import.proofs.TextLemmas.{same_text}
use Rattle.topology_import.proofs.import.text_read.Goals as goal

pub returns : goal.returns
returns c =
    let same = same_text c.args.discovery.now c.args.manager c.args.ends.now c.args.firsts.now c.in_ok-nodes.nodes c.in_ok-cables.cables.items
    c.in_ok-text.text.items c.requires.ends c.requires.firsts
    (rw (c.nodes.ensures.value, c.deref.ensures.value, c.in_ok-meant.ensures) at c.in_ok-nodes.ensures)
    c.in_ok-cables.ensures
    (rw c.deref-2.ensures.value at c.in_ok-text.ensures) in
    rw (c.deref-3.ensures.value, same) at c.read_back.ensures
