use Rattle.std.proofs.Common.{◌≡◌, ◌+◌, ◌∷◌, [], ◌∙◌, ap, map, sym, arith, ℕ}
use Rattle.std.proofs.lemmas.Result.{err_from_is_err_and}
use Rattle.std.proofs.lemmas.List.{drop_all}
use Rattle.sa_model.specs.Groups.{first_mlid}
use Rattle.sa_answer.specs.Groups.{group_bytes, groups_agreeing, groups_reported}
use Rattle.sa_answer.proofs.GroupLemmas.{not_named, not_searched, nothing_reported, searched, slot_next}
use Rattle.sa_answer.proofs.TakenLemmas.{all_taken, at_first, leads_as, leads_on, none_taken, stops_here}
use Rattle.sa_answer.proofs.mc_member.walk_partition.Goals.{then-is_named+in-Some+in_ok-take, then-is_named+in_default, else-is_named}
use Rattle.sa_answer.proofs.mc_member.walk_partition.Goals as goal

pub returns-then-not-is_searched : goal.returns-then-not-is_searched
returns-then-not-is_searched c =
    let none = not_searched c.args.own.now c.args.mask c.args.asked.now c.args.partition.now c.as_slice-slots.result.now c.as_slice-slots.ensures.value c.as_slice-slots.ensures.all
    (sym c.is_searched.ensures ∙ c.if-not-is_searched.true) in
    rw none (none_taken c.args.taken.now)

pub loop-place-init : goal.loop-place-init
loop-place-init c =
    let reported = groups_reported c.args.own.now c.args.mask c.args.asked.now c.args.partition.now in
    let shown = searched c.args.own.now c.args.mask c.args.asked.now c.args.partition.now c.as_slice-slots.result.now c.as_slice-slots.ensures.value (sym c.is_searched.ensures ∙ c.if-not-is_searched.false) in
    let first : first_mlid c.args.partition.now.number ≡ first_mlid c.args.partition.now.number + 0 = omega arith in
    leads_as reported reported _ c.args.taken.now c.args.taken.now
    (ap (map group_bytes) (shown ∙ ap (λ (mlid : ℕ). groups_agreeing c.args.mask c.args.asked.now c.args.partition.now.base mlid c.as_slice-slots.result.now) first)) (at_first reported c.args.taken.now)

pub returns-in_err-take : goal.returns-in_err-take
returns-in_err-take c =
    let mask = c.args.mask in
    let asked = c.args.asked.now in
    let base = c.args.partition.now.base in
    let first = first_mlid c.args.partition.now.number in
    let slots = c.as_slice-slots.result.now in
    let i = c.loop-place.place in
    let slot = c.index-slots-place.result in
    let reported : c.in-Some.shown ∷ [] ≡ map group_bytes (groups_agreeing mask asked base (first + i) (slot ∷ [])) = rw (c.base.ensures.value, c.mlid_of-mlid.ensures) at c.in-Some.ensures in
    let split = slot_next mask asked base first slots i slot (c.in-Some.shown ∷ []) c.loop-place-test.true c.index-slots-place.is (sym reported) in
    let out = err_from_is_err_and c.from_residual.result c.from_residual.ensures.1 in
    rw out.1 (stops_here _ _ (c.in-Some.shown ∷ []) _ c.args.taken.now c.loop-place.taken split c.in_err-take.ensures c.loop-place.invariant)

pub loop-place-preserved : goal.loop-place-preserved
loop-place-preserved c =
    let mask = c.args.mask in
    let asked = c.args.asked.now in
    let base = c.args.partition.now.base in
    let first = first_mlid c.args.partition.now.number in
    let slots = c.as_slice-slots.result.now in
    let i = c.loop-place.place in
    let slot = c.index-slots-place.result in
    let within = c.loop-place-test.true in
    let is = c.index-slots-place.is in
    elim c.if-is_named.branch [
      | then-is_named+in-Some+in_ok-take w ↦
          let reported : w.in-Some.shown ∷ [] ≡ map group_bytes (groups_agreeing mask asked base (first + i) (slot ∷ [])) = rw (w.base.ensures.value, c.mlid_of-mlid.ensures) at w.in-Some.ensures in
          let split = slot_next mask asked base first slots i slot (w.in-Some.shown ∷ []) within is (sym reported) in
          rw w.taken-is (leads_on _ _ (w.in-Some.shown ∷ []) _ c.args.taken.now c.loop-place.taken w.take.new.self split w.in_ok-take.ensures c.loop-place.invariant)
      | then-is_named+in_default w ↦
          let none = nothing_reported (groups_agreeing mask asked base (first + i) (slot ∷ [])) (rw (w.base.ensures.value, c.mlid_of-mlid.ensures) at w.in_default.ensures) in
          let split = slot_next mask asked base first slots i slot [] within is (ap (map group_bytes) none) in
          rw w.taken-is (leads_as _ _ _ c.args.taken.now c.loop-place.taken split c.loop-place.invariant)
      | else-is_named w ↦
          let none = not_named mask asked base (first + i) slot (rw c.mlid_of-mlid.ensures at (sym c.is_named.ensures ∙ w.if-is_named.false)) in
          let split = slot_next mask asked base first slots i slot [] within is (ap (map group_bytes) none) in
          rw w.taken-is (leads_as _ _ _ c.args.taken.now c.loop-place.taken split c.loop-place.invariant)
    ]

pub returns : goal.returns
returns c =
    let mask = c.args.mask in
    let asked = c.args.asked.now in
    let base = c.args.partition.now.base in
    let mlid = first_mlid c.args.partition.now.number + c.loop-place.place in
    let none = ap (λ some. map group_bytes (groups_agreeing mask asked base mlid some)) (drop_all c.loop-place.place c.as_slice-slots.result.now (omega (arith, c.loop-place-test.false))) in
    all_taken _ _ c.args.taken.now c.loop-place.taken none c.loop-place.invariant
