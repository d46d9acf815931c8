use Rattle.std.proofs.Common.{◌≡◌, ◌==◌, None, position}
use Rattle.sweep.proofs.GuidLemmas.{guids_grow}
use Rattle.sweep.proofs.switch_list.SwitchList.push.Goals as goal

pub invariant_of-self-2 : goal.invariant_of-self-2
invariant_of-self-2 c =
    let new : position (λ known. known.guid == c.args.switch.guid) c.self.inside.switches.items ≡ None = rw (c.self.view_is) c.requires.new in
    rw (c.in_ok-insert.ensures.keys, c.in_ok-push.ensures.items, c.reserve.ensures.items, c.self.invariant)
    (guids_grow c.args.switch c.self.inside.switches.items new)
