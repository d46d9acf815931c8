use Rattle.std.proofs.Common.{◌≡◌, get_or, insert, set, ap, sym, ◌∙◌}
use Rattle.sa_model.specs.Groups.{Membership}
use Rattle.sa_model.specs.JoinState.{JoinState, with_bits}
use Rattle.sa_model.specs.Joining.{Join, new_membership, with_member}
use Rattle.sa_store.specs.MlidRange.{SlotGroup}
use Rattle.sa_store.proofs.JoinLemmas.{entered_there, grown, inserted_there, is_at, place_for}
use Rattle.sa_store.proofs.group.Group.enter.Goals as goal

pub returns-then-is_at-clause-next : goal.returns-then-is_at-clause-next
returns-then-is_at-clause-next c =
    let join = c.args.join.now in
    let items = c.args.self.now.memberships in
    let same = ap (λ (group : SlotGroup). group.memberships) c.self.view_is in
    let port = ap (λ (one : Join). one.port) c.join.view_is in
    let state = ap (λ (one : Join). one.join_state) c.join.view_is in
    let at : c.is_at.result ≡ is_at join.port items = rw (c.place_for-place.ensures.value, c.deref.ensures.value, c.deref-2.ensures.value, same, port) at c.is_at.ensures in
    let place : c.place_for-place.result ≡ place_for join.port items = rw (c.deref.ensures.value, same, port) at c.place_for-place.ensures.value in
    let item : c.index_mut.result.now ≡ get_or items (place_for join.port items) c.index_mut.result.now = rw (same, place) at c.index_mut.ensures.value in
    let new : c.add.new.self ≡ grown join c.index_mut.result.now =
    c.add.ensures ∙ ap (λ (more : JoinState). record c.index_mut.result.now { join_state = with_bits more c.index_mut.result.now.join_state }) state in
    let entered = entered_there join items c.index_mut.result.now c.requires (sym at ∙ c.if-is_at.true) in
    let all : set c.self.inside.memberships.items c.place_for-place.result c.add.new.self ≡ with_member join items =
    rw (same, place, new) (ap (λ (one : Membership). set items (place_for join.port items) (grown join one)) item ∙ entered) in
    rw all (ap (λ (group : SlotGroup). record group { memberships = with_member join items }) c.self.view_is)

pub returns-clause-next : goal.returns-clause-next
returns-clause-next c =
    let join = c.args.join.now in
    let items = c.args.self.now.memberships in
    let same = ap (λ (group : SlotGroup). group.memberships) c.self.view_is in
    let port = ap (λ (one : Join). one.port) c.join.view_is in
    let at : c.is_at.result ≡ is_at join.port items = rw (c.place_for-place.ensures.value, c.deref.ensures.value, c.deref-2.ensures.value, same, port) at c.is_at.ensures in
    let place : c.place_for-place.result ≡ place_for join.port items = rw (c.deref.ensures.value, same, port) at c.place_for-place.ensures.value in
    let own = ap new_membership c.join.view_is in
    let put : insert c.self.inside.memberships.items c.place_for-place.result (new_membership join) ≡ with_member join items =
    rw (same, place) (inserted_there join items c.requires (sym at ∙ c.if-is_at.false)) in
    let all : c.insert.new.self.items ≡ with_member join items =
    c.in_ok-insert.ensures.items
    ∙ ap (λ (one : Membership). insert c.self.inside.memberships.items c.place_for-place.result one) own
    ∙ put in
    rw all (ap (λ (group : SlotGroup). record group { memberships = with_member join items }) c.self.view_is)
