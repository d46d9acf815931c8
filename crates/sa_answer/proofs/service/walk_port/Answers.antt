use Rattle.std.proofs.Common.{◌≡◌, ◌∙◌, ap, map, refl, sym, arith}
use Rattle.std.proofs.lemmas.Result.{err_from_is_err_and}
use Rattle.sa_model.specs.KeyOrder.{by_base}
use Rattle.sa_store.specs.Kept.{ServicesOfBase}
use Rattle.sa_answer.specs.Offers.{offers_of, offers_shown, service_bytes}
use Rattle.sa_answer.proofs.FoundLemmas.{base_low, nothing_shown, something_shown}
use Rattle.sa_answer.proofs.TakenLemmas.{at_first, done_all, passed_one, stops_at, taken_one}
use Rattle.sa_answer.proofs.service.walk_port.Goals.{then-offers_some+in_ok-walk_base, else-offers_some}
use Rattle.sa_answer.proofs.service.walk_port.Goals as goal

pub loop-place-init : goal.loop-place-init
loop-place-init c = rw c.services-place-items.ensures.value (at_first _ c.args.taken.now)

pub walk_base-requires : goal.walk_base-requires
walk_base-requires c =
    base_low c.services-place-items.result.now (by_base c.args.other.now.port.keys) c.loop-place.place-index c.place-item.result c.services-place-items.ensures.places c.loop-place-test.true c.place-item.is

pub returns-in_err-walk_base : goal.returns-in_err-walk_base
returns-in_err-walk_base c =
    let own = c.args.own.now.port in
    let other = c.args.other.now.port in
    let reported = λ (place : ServicesOfBase). map service_bytes (offers_shown own c.args.mask c.args.asked.now other place) in
    let places = c.services-place-items.result.now in
    let place = c.place-item.result in
    let some = rw (c.port.ensures, c.port-in-loop-place.ensures) at (sym c.offers_some.ensures ∙ c.if-offers_some.true) in
    let offered = something_shown own other place some in
    let here : reported place ≡ map service_bytes (offers_of c.args.mask c.args.asked.now other.guid place) = rw offered refl in
    let out = err_from_is_err_and c.from_residual.result c.from_residual.ensures.1 in
    rw out.1
    (stops_at reported places c.loop-place.place-index place _ c.args.taken.now c.loop-place.taken c.loop-place-test.true c.place-item.is c.loop-place.invariant
    (map service_bytes (offers_of c.args.mask c.args.asked.now other.guid place)) here (rw c.guid.ensures at c.in_err-walk_base.ensures))

pub loop-place-preserved : goal.loop-place-preserved
loop-place-preserved c =
    let own = c.args.own.now.port in
    let other = c.args.other.now.port in
    let reported = λ (place : ServicesOfBase). map service_bytes (offers_shown own c.args.mask c.args.asked.now other place) in
    let places = c.services-place-items.result.now in
    let place = c.place-item.result in
    elim c.if-offers_some.branch [
      | then-offers_some+in_ok-walk_base w ↦
          let some = rw (c.port.ensures, c.port-in-loop-place.ensures) at (sym c.offers_some.ensures ∙ w.if-offers_some.true) in
          let offered = something_shown own other place some in
          let here : reported place ≡ map service_bytes (offers_of c.args.mask c.args.asked.now other.guid place) = rw offered refl in
          rw w.taken-is
          (taken_one reported places c.loop-place.place-index place _ c.args.taken.now c.loop-place.taken c.loop-place-test.true c.place-item.is c.loop-place.invariant
          (map service_bytes (offers_of c.args.mask c.args.asked.now other.guid place)) w.walk_base.new.taken here (rw w.guid.ensures at w.in_ok-walk_base.ensures))
      | else-offers_some w ↦
          let nothing = rw (c.port.ensures, c.port-in-loop-place.ensures) at (sym c.offers_some.ensures ∙ w.if-offers_some.false) in
          rw w.taken-is
          (passed_one reported places c.loop-place.place-index place _ c.args.taken.now c.loop-place.taken c.loop-place-test.true c.place-item.is c.loop-place.invariant
          (ap (map service_bytes) (nothing_shown own c.args.mask c.args.asked.now other place nothing)))
    ]

pub returns : goal.returns
returns c =
    let reported = λ (place : ServicesOfBase). map service_bytes (offers_shown c.args.own.now.port c.args.mask c.args.asked.now c.args.other.now.port place) in
    done_all reported c.services-place-items.result.now c.loop-place.place-index _ c.args.taken.now c.loop-place.taken (omega (arith, c.loop-place-test.false)) c.loop-place.invariant
