use Rattle.std.proofs.Common.{◌∷◌, [], flat_map, codes}
use Rattle.fabric_tables.specs.Multicast.{columns, ones_line, ones_mark}
use Rattle.fabric_tables.proofs.TextLemmas.{three_parts}
use Rattle.fabric_tables.proofs.multicast.push_ones_line.Goals as goal

pub returns : goal.returns
unfolding ones_line
returns c =
    three_parts c.args.text.now.items (codes "     Ports: ") (flat_map ones_mark (columns c.args.held.now)) (10 ∷ [])
    c.extend_from_slice.new.self.items c.push_ones_marks.new.text.items c.push.new.self.items c.in_ok-extend_from_slice.ensures.items
    c.in_ok-push_ones_marks.ensures c.in_ok-push.ensures.items
