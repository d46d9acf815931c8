use Rattle.std.proofs.Common.{◌≡◌, ◌∷◌, [], ◌∙◌, map, refl, sym, arith}
use Rattle.std.proofs.lemmas.Result.{err_from_is_err_and}
use Rattle.sa_answer.specs.Offers.{offer, offers_of, service_bytes}
use Rattle.sa_answer.proofs.FoundLemmas.{not_reported, other_id, service_reported, services_reported_are, reported}
use Rattle.sa_answer.proofs.TakenLemmas.{at_first, done_all, leads_as, passed_one, stops_at, taken_one}
use Rattle.sa_answer.proofs.service.walk_base.Goals.{then-is_of_id+in-Some+in_ok-take, then-is_of_id+in_default, else-is_of_id}
use Rattle.sa_answer.proofs.service.walk_base.Goals as goal

pub loop-service-init : goal.loop-service-init
loop-service-init c =
    let all = map service_bytes (offers_of c.args.mask c.args.asked.now c.args.guid c.args.place.now) in
    rw c.as_slice-service-items.ensures
    (leads_as all all _ c.args.taken.now c.args.taken.now (services_reported_are c.args.mask c.args.asked.now c.args.guid c.args.place.now.base c.args.place.now.services) (at_first all c.args.taken.now))

pub returns-in_err-take : goal.returns-in_err-take
returns-in_err-take c =
    let mask = c.args.mask in
    let asked = c.args.asked.now in
    let port = c.args.guid in
    let base = c.args.place.now.base in
    let service = c.service-item.result in
    let it = reported mask asked (offer port base service) c.in-Some.shown (rw c.base.ensures at c.in-Some.ensures) in
    let agrees = it.agrees_so in
    let here : service_reported mask asked port base service ≡ c.bytes_of.result ∷ [] = rw (agrees, c.bytes_of.ensures, it.is) refl in
    let out = err_from_is_err_and c.from_residual.result c.from_residual.ensures.1 in
    rw out.1
    (stops_at (service_reported mask asked port base) c.as_slice-service-items.result.now c.loop-service.service-index service _ c.args.taken.now c.loop-service.taken c.loop-service-test.true c.service-item.is
    c.loop-service.invariant (c.bytes_of.result ∷ []) here c.in_err-take.ensures)

pub loop-service-preserved : goal.loop-service-preserved
loop-service-preserved c =
    let mask = c.args.mask in
    let asked = c.args.asked.now in
    let port = c.args.guid in
    let base = c.args.place.now.base in
    let service = c.service-item.result in
    let services = c.as_slice-service-items.result.now in
    let i = c.loop-service.service-index in
    elim c.if-is_of_id.branch [
      | then-is_of_id+in-Some+in_ok-take w ↦
          let it = reported mask asked (offer port base service) w.in-Some.shown (rw w.base.ensures at w.in-Some.ensures) in
          let agrees = it.agrees_so in
          let here : service_reported mask asked port base service ≡ w.bytes_of.result ∷ [] = rw (agrees, w.bytes_of.ensures, it.is) refl in
          rw w.taken-is
          (taken_one (service_reported mask asked port base) services i service _ c.args.taken.now c.loop-service.taken c.loop-service-test.true c.service-item.is c.loop-service.invariant
          (w.bytes_of.result ∷ []) w.take.new.self here w.in_ok-take.ensures)
      | then-is_of_id+in_default w ↦
          let differs = not_reported mask asked (offer port base service) (rw w.base.ensures at w.in_default.ensures) in
          let here : service_reported mask asked port base service ≡ [] = rw differs refl in
          rw w.taken-is
          (passed_one (service_reported mask asked port base) services i service _ c.args.taken.now c.loop-service.taken c.loop-service-test.true c.service-item.is c.loop-service.invariant here)
      | else-is_of_id w ↦
          let differs = other_id mask asked (offer port base service) (sym c.is_of_id.ensures ∙ w.if-is_of_id.false) in
          let here : service_reported mask asked port base service ≡ [] = rw differs refl in
          rw w.taken-is
          (passed_one (service_reported mask asked port base) services i service _ c.args.taken.now c.loop-service.taken c.loop-service-test.true c.service-item.is c.loop-service.invariant here)
    ]

pub returns : goal.returns
returns c =
    done_all (service_reported c.args.mask c.args.asked.now c.args.guid c.args.place.now.base) c.as_slice-service-items.result.now c.loop-service.service-index _ c.args.taken.now c.loop-service.taken
    (omega (arith, c.loop-service-test.false)) c.loop-service.invariant
