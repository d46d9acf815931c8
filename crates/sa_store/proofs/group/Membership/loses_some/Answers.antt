use Rattle.std.proofs.Common.{◌≡◌, ◌==◌, ◌∙◌, eq-eqb, true, ap, sym}
use Rattle.sa_model.specs.Groups.{Membership}
use Rattle.sa_model.specs.Leaving.{Leave}
use Rattle.sa_replies.specs.Joins.{has_bit_of, join_state_of}
use Rattle.sa_store.proofs.LeaveLemmas.{common_bits}
use Rattle.sa_store.proofs.group.Membership.loses_some.Goals as goal

pub returns-then-self-leave : goal.returns-then-self-leave
returns-then-self-leave c =
    let port = ap (λ (one : Membership). one.port) c.self.view_is in
    let asked_port = ap (λ (leave : Leave). leave.port) c.leave.view_is in
    let held : join_state_of c.self.inside.join_state.0 ≡ c.args.self.now.join_state = ap (λ (one : Membership). one.join_state) c.self.view_is in
    let asked : join_state_of c.leave.inside.join_state.0 ≡ c.args.leave.now.join_state = ap (λ (leave : Leave). leave.join_state) c.leave.view_is in
    let same : (c.args.self.now.port == c.args.leave.now.port) ≡ true = eq-eqb c.args.self.now.port c.args.leave.now.port (sym port ∙ c.if-self-leave.true ∙ asked_port) in
    let reported : c.is_joined.result ≡ has_bit_of c.args.leave.now.join_state c.args.self.now.join_state =
    c.is_joined.ensures ∙ common_bits c.self.inside.join_state.0 c.leave.inside.join_state.0 ∙ ap (has_bit_of (join_state_of c.leave.inside.join_state.0)) held
    ∙ ap (λ state. has_bit_of state c.args.self.now.join_state) asked in
    rw same reported
