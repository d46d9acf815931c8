use Rattle.std.proofs.Common.{◌≡◌, ◌∙◌, ◌&&◌, ◌||◌, Bool, Some, ap, false, refl, rules, sym, true}
use Rattle.std.specs.List.{list_any}
use Rattle.sa_model.specs.Leaving.{Leave}
use Rattle.sa_store.specs.Left.{is_kept, left_by}
use Rattle.sa_store.specs.Receiving.{is_adapter, is_receiving, loses}
use Rattle.sa_store.specs.MlidRange.{SlotGroup}
use Rattle.sa_store.proofs.LostLemmas.{both_reported, dropped_reported, kept_reported, nothing_lost}
use Rattle.sa_store.proofs.leaving.leave_slot.Goals.{then-leave, else-leave}
use Rattle.sa_store.proofs.leaving.leave_slot.Goals as goal

pub returns-then-is_kept-clause-next : goal.returns-then-is_kept-clause-next
returns-then-is_kept-clause-next g c ports base reports =
    let kept : is_kept ports base (left_by c.args.leave.now c.in-Some.group) ≡ true =
    ap (is_kept ports base) (sym c.leave.ensures.next) ∙ sym (c.is_kept.ensures ports base reports) ∙ c.if-is_kept.true in
    rw (c.in-Some.is, kept) (ap (λ (group : SlotGroup). Some group) c.leave.ensures.next)

pub returns-then-is_kept-clause-changed : goal.returns-then-is_kept-clause-changed
returns-then-is_kept-clause-changed g c ports base reports adapters =
    let leave = c.args.leave.now in
    let group = c.in-Some.group in
    let kept : is_kept ports base (left_by leave group) ≡ true =
    ap (is_kept ports base) (sym c.leave.ensures.next) ∙ sym (c.is_kept.ensures ports base reports) ∙ c.if-is_kept.true in
    let port = ap (λ (leave : Leave). leave.port) c.leave-2.view_is in
    let reported : c.if-leave.lost ≡ (loses leave group && is_adapter ports leave.port) =
    elim c.if-leave.branch [
      | then-leave w ↦
          let asked : w.is_adapter-lost.result ≡ is_adapter ports leave.port =
          adapters c.leave-2.inside.port w.is_adapter-lost.result (search rules) w.is_adapter-lost.ensures ∙ ap (is_adapter ports) port in
          both_reported (loses leave group) (is_adapter ports leave.port) c.if-leave.lost (sym c.leave.ensures.loses ∙ w.if-leave.true) (w.lost-is ∙ asked)
      | else-leave w ↦
          nothing_lost (loses leave group) (is_adapter ports leave.port) c.if-leave.lost (sym c.leave.ensures.loses ∙ w.if-leave.false) (w.lost-is ∙ w.if-leave.false)
    ] in
    kept_reported ports base leave c.args.slot.now group c.if-leave.lost c.in-Some.is kept reported

pub returns-then-lost-clause-next : goal.returns-then-lost-clause-next
returns-then-lost-clause-next g c ports base reports =
    let gone : is_kept ports base (left_by c.args.leave.now c.in-Some.group) ≡ false =
    ap (is_kept ports base) (sym c.leave.ensures.next) ∙ sym (c.is_kept.ensures ports base reports) ∙ c.if-is_kept.false in
    rw (c.in-Some.is, gone) refl

pub returns-else-lost-clause-next : goal.returns-else-lost-clause-next
returns-else-lost-clause-next g c ports base reports =
    let gone : is_kept ports base (left_by c.args.leave.now c.in-Some.group) ≡ false =
    ap (is_kept ports base) (sym c.leave.ensures.next) ∙ sym (c.is_kept.ensures ports base reports) ∙ c.if-is_kept.false in
    rw (c.in-Some.is, gone) refl

pub returns-else-lost-clause-changed : goal.returns-else-lost-clause-changed
returns-else-lost-clause-changed g c ports base reports adapters =
    let leave = c.args.leave.now in
    let group = c.in-Some.group in
    let gone : is_kept ports base (left_by leave group) ≡ false =
    ap (is_kept ports base) (sym c.leave.ensures.next) ∙ sym (c.is_kept.ensures ports base reports) ∙ c.if-is_kept.false in
    let port = ap (λ (leave : Leave). leave.port) c.leave-2.view_is in
    let left = ap (λ (group : SlotGroup). group.memberships) (c.group.view_is ∙ c.leave.ensures.next) in
    let reported : c.if-leave.lost ≡ (loses leave group && is_adapter ports leave.port) =
    elim c.if-leave.branch [
      | then-leave w ↦
          let asked : w.is_adapter-lost.result ≡ is_adapter ports leave.port =
          adapters c.leave-2.inside.port w.is_adapter-lost.result (search rules) w.is_adapter-lost.ensures ∙ ap (is_adapter ports) port in
          both_reported (loses leave group) (is_adapter ports leave.port) c.if-leave.lost (sym c.leave.ensures.loses ∙ w.if-leave.true) (w.lost-is ∙ asked)
      | else-leave w ↦
          nothing_lost (loses leave group) (is_adapter ports leave.port) c.if-leave.lost (sym c.leave.ensures.loses ∙ w.if-leave.false) (w.lost-is ∙ w.if-leave.false)
    ] in
    let others : c.some_receiving-some_receiving.result ≡ list_any (is_receiving ports) (left_by leave group).memberships =
    c.some_receiving-some_receiving.ensures ports adapters
    ∙ ap (list_any (is_receiving ports)) (c.deref.ensures.value ∙ left) in
    ap (λ (lost : Bool). lost || c.some_receiving-some_receiving.result) (sym c.if-lost.false)
    ∙ dropped_reported ports base leave c.args.slot.now group c.if-leave.lost c.some_receiving-some_receiving.result c.in-Some.is gone reported others
