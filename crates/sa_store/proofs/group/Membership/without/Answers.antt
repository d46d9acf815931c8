use Rattle.std.proofs.Common.{◌≡◌, ◌∙◌, Fits, ap, rules, w8}
use Rattle.sa_model.specs.Groups.{Membership}
use Rattle.sa_model.specs.JoinState.{JoinState, without_bits}
use Rattle.sa_replies.specs.Joins.{join_state_of}
use Rattle.sa_store.proofs.LeaveLemmas.{fewer_bits}
use Rattle.sa_store.proofs.group.Membership.without.Goals as goal

pub returns : goal.returns
returns c =
    let held : join_state_of c.self.inside.join_state.0 ≡ c.args.self.now.join_state = ap (λ (one : Membership). one.join_state) c.self.view_is in
    let narrow : Fits w8 c.args.less.0 = search rules in
    fewer_bits c.self.inside.join_state.0 c.args.less.0 narrow.fits ∙ ap (λ (state : JoinState). without_bits (join_state_of c.args.less.0) state) held
