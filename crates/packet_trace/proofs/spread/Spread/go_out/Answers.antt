use Rattle.std.proofs.Common.{◌∙◌, sym}
use Rattle.packet_trace.proofs.SpreadLemmas.{is_inserted}
use Rattle.packet_trace.proofs.spread.Spread.go_out.Goals as goal

pub returns-in_ok-insert : goal.returns-in_ok-insert
returns-in_ok-insert g c =
    let cables = c.args.fabric.now.cables in
    let turn = rw c.far_end-far.ensures at c.turn_out-turn.ensures in
    rw (c.in_ok-insert.ensures.keys, c.in_ok-push.ensures.items, sym c.self.view_is)
    (is_inserted cables c.args.switch.now c.args.packet.now c.args.here c.args.out
    (record { known = c.self.inside.known.keys; steps = c.self.inside.steps.items }) c.in-Some.next c.turn_out-turn.result turn
    (sym c.next_after.ensures ∙ c.in-Some.is))
