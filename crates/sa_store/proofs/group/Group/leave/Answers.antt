use Rattle.std.proofs.Common.{◌≡◌, ◌∙◌, ◌&&◌, ap, arith, false, get_or, length, not, remove, set, sym, true}
use Rattle.sa_model.specs.JoinState.{JoinState, is_receiver, without_bits}
use Rattle.sa_model.specs.Leaving.{Leave}
use Rattle.sa_replies.specs.Joins.{join_state_of}
use Rattle.sa_store.specs.Left.{takes_part}
use Rattle.sa_store.specs.MlidRange.{SlotGroup}
use Rattle.sa_store.proofs.JoinLemmas.{is_at, place_for, within_there}
use Rattle.sa_store.proofs.LeaveLemmas.{nobody_gone, own_less, own_of, removed_less, rest_of, set_less}
use Rattle.sa_store.proofs.LostLemmas.{lost_is_less, nobody_lost}
use Rattle.sa_store.proofs.group.Group.leave.Goals as goal

pub returns-then-not-is_at-clause-next : goal.returns-then-not-is_at-clause-next
returns-then-not-is_at-clause-next c =
    let items = c.args.self.now.memberships in
    let leave = c.args.leave.now in
    let port = ap (λ (leave : Leave). leave.port) c.leave.view_is in
    let same = ap (λ (group : SlotGroup). group.memberships) c.self.view_is in
    let at : c.is_at.result ≡ is_at leave.port items = rw (c.place_for-place.ensures.value, c.deref.ensures.value, c.deref-2.ensures.value, same, port) at c.is_at.ensures in
    ap (λ memberships. record c.args.self.now { memberships = memberships }) (sym (nobody_gone leave items c.requires (sym at ∙ c.if-not-is_at.true)))

pub index-requires : goal.index-requires
index-requires c =
    let items = c.args.self.now.memberships in
    let leave = c.args.leave.now in
    let port = ap (λ (leave : Leave). leave.port) c.leave.view_is in
    let same = ap (λ (group : SlotGroup). group.memberships) c.self.view_is in
    let at : c.is_at.result ≡ is_at leave.port items = rw (c.place_for-place.ensures.value, c.deref.ensures.value, c.deref-2.ensures.value, same, port) at c.is_at.ensures in
    let place : c.place_for-place.result ≡ place_for leave.port items = rw (c.deref.ensures.value, same, port) at c.place_for-place.ensures.value in
    omega (arith, within_there leave.port items (sym at ∙ c.if-not-is_at.false), place, ap length same)

pub index-requires-2 : goal.index-requires-2
index-requires-2 c =
    let items = c.args.self.now.memberships in
    let leave = c.args.leave.now in
    let port = ap (λ (leave : Leave). leave.port) c.leave.view_is in
    let same = ap (λ (group : SlotGroup). group.memberships) c.self.view_is in
    let at : c.is_at.result ≡ is_at leave.port items = rw (c.place_for-place.ensures.value, c.deref.ensures.value, c.deref-2.ensures.value, same, port) at c.is_at.ensures in
    let place : c.place_for-place.result ≡ place_for leave.port items = rw (c.deref.ensures.value, same, port) at c.place_for-place.ensures.value in
    omega (arith, within_there leave.port items (sym at ∙ c.if-not-is_at.false), place, ap length same)

pub index_mut-requires : goal.index_mut-requires
index_mut-requires c =
    let items = c.args.self.now.memberships in
    let leave = c.args.leave.now in
    let port = ap (λ (leave : Leave). leave.port) c.leave.view_is in
    let same = ap (λ (group : SlotGroup). group.memberships) c.self.view_is in
    let at : c.is_at.result ≡ is_at leave.port items = rw (c.place_for-place.ensures.value, c.deref.ensures.value, c.deref-2.ensures.value, same, port) at c.is_at.ensures in
    let place : c.place_for-place.result ≡ place_for leave.port items = rw (c.deref.ensures.value, same, port) at c.place_for-place.ensures.value in
    omega (arith, within_there leave.port items (sym at ∙ c.if-not-is_at.false), place, ap length same)

pub remove-requires : goal.remove-requires
remove-requires c =
    let items = c.args.self.now.memberships in
    let leave = c.args.leave.now in
    let port = ap (λ (leave : Leave). leave.port) c.leave.view_is in
    let same = ap (λ (group : SlotGroup). group.memberships) c.self.view_is in
    let at : c.is_at.result ≡ is_at leave.port items = rw (c.place_for-place.ensures.value, c.deref.ensures.value, c.deref-2.ensures.value, same, port) at c.is_at.ensures in
    let place : c.place_for-place.result ≡ place_for leave.port items = rw (c.deref.ensures.value, same, port) at c.place_for-place.ensures.value in
    omega (arith, within_there leave.port items (sym at ∙ c.if-not-is_at.false), place, ap length same)

pub returns-then-is_joined-clause-next : goal.returns-then-is_joined-clause-next
returns-then-is_joined-clause-next c =
    let items = c.args.self.now.memberships in
    let leave = c.args.leave.now in
    let port = ap (λ (leave : Leave). leave.port) c.leave.view_is in
    let less : join_state_of c.leave.inside.join_state.0 ≡ leave.join_state = ap (λ (leave : Leave). leave.join_state) c.leave.view_is in
    let same = ap (λ (group : SlotGroup). group.memberships) c.self.view_is in
    let at : c.is_at.result ≡ is_at leave.port items = rw (c.place_for-place.ensures.value, c.deref.ensures.value, c.deref-2.ensures.value, same, port) at c.is_at.ensures in
    let place : c.place_for-place.result ≡ place_for leave.port items = rw (c.deref.ensures.value, same, port) at c.place_for-place.ensures.value in
    let there = sym at ∙ c.if-not-is_at.false in
    let d = c.index_mut.result.now in
    let e = c.index-2.result.now in
    let item : d ≡ get_or items (place_for leave.port items) d = rw (same, place) at c.index_mut.ensures.value in
    let one : e ≡ get_or items (place_for leave.port items) e = rw (same, place) at c.index-2.ensures in
    let rest : join_state_of c.without-rest.result.0 ≡ without_bits leave.join_state e.join_state =
    c.without-rest.ensures ∙ ap (λ (less : JoinState). without_bits less e.join_state) less in
    let reported = own_less leave items d e (join_state_of c.without-rest.result.0) there item one rest in
    let stays : takes_part (own_of leave items e) ≡ true = sym reported.1 ∙ sym c.is_joined.ensures ∙ c.if-is_joined.true in
    let new : c.set.new.self ≡ own_of leave items e = c.set.ensures ∙ reported.0 in
    let all : set c.self.inside.memberships.items c.place_for-place.result c.set.new.self ≡ rest_of leave items =
    rw (same, place, new) (set_less leave items e c.requires there stays) in
    rw all (ap (λ (group : SlotGroup). record group { memberships = rest_of leave items }) c.self.view_is)

pub returns-else-is_joined-clause-next : goal.returns-else-is_joined-clause-next
returns-else-is_joined-clause-next c =
    let items = c.args.self.now.memberships in
    let leave = c.args.leave.now in
    let port = ap (λ (leave : Leave). leave.port) c.leave.view_is in
    let less : join_state_of c.leave.inside.join_state.0 ≡ leave.join_state = ap (λ (leave : Leave). leave.join_state) c.leave.view_is in
    let same = ap (λ (group : SlotGroup). group.memberships) c.self.view_is in
    let at : c.is_at.result ≡ is_at leave.port items = rw (c.place_for-place.ensures.value, c.deref.ensures.value, c.deref-2.ensures.value, same, port) at c.is_at.ensures in
    let place : c.place_for-place.result ≡ place_for leave.port items = rw (c.deref.ensures.value, same, port) at c.place_for-place.ensures.value in
    let there = sym at ∙ c.if-not-is_at.false in
    let e = c.index-2.result.now in
    let one : e ≡ get_or items (place_for leave.port items) e = rw (same, place) at c.index-2.ensures in
    let rest : join_state_of c.without-rest.result.0 ≡ without_bits leave.join_state e.join_state =
    c.without-rest.ensures ∙ ap (λ (less : JoinState). without_bits less e.join_state) less in
    let reported = own_less leave items e e (join_state_of c.without-rest.result.0) there one one rest in
    let goes : takes_part (own_of leave items e) ≡ false = sym reported.1 ∙ sym c.is_joined.ensures ∙ c.if-is_joined.false in
    let gone : remove c.self.inside.memberships.items c.place_for-place.result ≡ rest_of leave items =
    rw (same, place) (removed_less leave items e c.requires there goes) in
    let all : c.remove.new.self.items ≡ rest_of leave items = c.remove.ensures.items ∙ gone in
    rw all (ap (λ (group : SlotGroup). record group { memberships = rest_of leave items }) c.self.view_is)

pub returns-then-not-is_at-clause-loses : goal.returns-then-not-is_at-clause-loses
returns-then-not-is_at-clause-loses c =
    let items = c.args.self.now.memberships in
    let leave = c.args.leave.now in
    let port = ap (λ (leave : Leave). leave.port) c.leave.view_is in
    let same = ap (λ (group : SlotGroup). group.memberships) c.self.view_is in
    let at : c.is_at.result ≡ is_at leave.port items = rw (c.place_for-place.ensures.value, c.deref.ensures.value, c.deref-2.ensures.value, same, port) at c.is_at.ensures in
    sym (nobody_lost leave items c.requires (sym at ∙ c.if-not-is_at.true))

pub returns-then-is_joined-clause-loses : goal.returns-then-is_joined-clause-loses
returns-then-is_joined-clause-loses c =
    let items = c.args.self.now.memberships in
    let leave = c.args.leave.now in
    let port = ap (λ (leave : Leave). leave.port) c.leave.view_is in
    let same = ap (λ (group : SlotGroup). group.memberships) c.self.view_is in
    let at : c.is_at.result ≡ is_at leave.port items = rw (c.place_for-place.ensures.value, c.deref.ensures.value, c.deref-2.ensures.value, same, port) at c.is_at.ensures in
    let less : join_state_of c.leave.inside.join_state.0 ≡ leave.join_state = ap (λ (leave : Leave). leave.join_state) c.leave.view_is in
    let place : c.place_for-place.result ≡ place_for leave.port items = rw (c.deref.ensures.value, same, port) at c.place_for-place.ensures.value in
    let e = c.index.result.now in
    let one : e ≡ get_or items (place_for leave.port items) e = rw (same, place) at c.index.ensures in
    c.receives_no_more-loses.ensures
    ∙ ap (λ (less : JoinState). is_receiver e.join_state && not (is_receiver (without_bits less e.join_state))) less
    ∙ lost_is_less leave items e c.requires (sym at ∙ c.if-not-is_at.false) one

pub returns-else-is_joined-clause-loses : goal.returns-else-is_joined-clause-loses
returns-else-is_joined-clause-loses c =
    let items = c.args.self.now.memberships in
    let leave = c.args.leave.now in
    let port = ap (λ (leave : Leave). leave.port) c.leave.view_is in
    let same = ap (λ (group : SlotGroup). group.memberships) c.self.view_is in
    let at : c.is_at.result ≡ is_at leave.port items = rw (c.place_for-place.ensures.value, c.deref.ensures.value, c.deref-2.ensures.value, same, port) at c.is_at.ensures in
    let less : join_state_of c.leave.inside.join_state.0 ≡ leave.join_state = ap (λ (leave : Leave). leave.join_state) c.leave.view_is in
    let place : c.place_for-place.result ≡ place_for leave.port items = rw (c.deref.ensures.value, same, port) at c.place_for-place.ensures.value in
    let e = c.index.result.now in
    let one : e ≡ get_or items (place_for leave.port items) e = rw (same, place) at c.index.ensures in
    c.receives_no_more-loses.ensures
    ∙ ap (λ (less : JoinState). is_receiver e.join_state && not (is_receiver (without_bits less e.join_state))) less
    ∙ lost_is_less leave items e c.requires (sym at ∙ c.if-not-is_at.false) one
