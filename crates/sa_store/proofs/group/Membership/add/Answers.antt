use Rattle.std.proofs.Common.{◌≡◌, ap, refl}
use Rattle.sa_model.specs.Groups.{Membership}
use Rattle.sa_replies.specs.Joins.{join_state_of}
use Rattle.sa_store.proofs.JoinLemmas.{more_bits}
use Rattle.sa_store.proofs.group.Membership.add.Goals as goal

pub returns : goal.returns
returns c =
    let port = ap (λ (one : Membership). one.port) c.self.view_is in
    let held : join_state_of c.self.inside.join_state.0 ≡ c.args.self.now.join_state = ap (λ (one : Membership). one.join_state) c.self.view_is in
    let more = more_bits c.self.inside.join_state.0 c.args.more.0 in
    rw (port, more, ← held) refl
