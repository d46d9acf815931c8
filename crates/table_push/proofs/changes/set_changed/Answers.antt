use Rattle.std.proofs.Common.{ℕ, ◌≡◌, ◌+◌, ◌∙◌, ap, refl, sym, subst, not, get_or, slice_get, List, [], Option, Some, arith}
use Rattle.std.specs.Cmp.Lexicographic.{same_text}
use Rattle.std.proofs.lemmas.Option.{slice_get-get_or}
use Rattle.smp_wire.specs.FabricState.{FabricState}
use Rattle.table_push.specs.Changes.{is_changed}
use Rattle.table_push.specs.Masks.{slice_to}
use Rattle.table_push.specs.Nodes.{on_switch, with_switches}
use Rattle.table_push.specs.Pushes.{Stands}
use Rattle.table_push.proofs.ChangedLemmas.{blocks_stay, one_counted}
use Rattle.table_push.proofs.LeadLemmas.{no_fault}
use Rattle.table_push.proofs.MlidRangeLemmas.{slice_begins, slice_ends, mlid_range_more}
use Rattle.table_push.proofs.changes.set_changed.Goals.{then-not-is_same+in-Ok, else-not-is_same}
use Rattle.table_push.proofs.changes.set_changed.Goals as goal

pub loop-position-init : goal.loop-position-init
loop-position-init g c = record {
  stands = λ fabric guid stands good leads has. slice_begins _ fabric guid c.args.partition c.args.after.now stands good;
  counted = refl;
  few = omega arith;
  same_wire = refl;
}

pub returns-in-Err-clause-pushed : goal.returns-in-Err-clause-pushed
returns-in-Err-clause-pushed g c x stands guid good leads has =
    absurd (no_fault c.in-Err.fault _ _ _ (mlid_range_more _ _ _ x c.args.path.now guid c.loop-position.position c.args.partition c.args.after.now _ _
    c.loop-position-test.true c.requires.partition (slice_get-get_or c.args.after.now c.loop-position.position _ (omega (arith, c.told-after, c.loop-position-test.true)))
    c.in-Err.ensures.words refl leads (c.loop-position.invariant.stands x guid stands good leads has) c.in-Err.ensures.set))

pub loop-position-preserved : goal.loop-position-preserved
loop-position-preserved g c =
    let position = c.loop-position.position in
    let before = c.args.before.now in
    let after = c.args.after.now in
    let then_there : slice_get after position ≡ Some (get_or after position []) = slice_get-get_or after position _ (omega (arith, c.told-after, c.loop-position-test.true)) in
    elim c.if-not-is_same.branch [
      | then-not-is_same+in-Ok w ↦ record {
        stands = λ fabric guid stands good leads has.
            subst (λ (stood : Option FabricState). Stands stood fabric (with_switches (on_switch guid (slice_to (position + 1) c.args.partition after)) fabric))
            (ap (λ session. g.W.SmpWire.fabric session.wire.now) (sym w.session-is))
            (mlid_range_more _ _ _ fabric c.args.path.now guid position c.args.partition after _ _ c.loop-position-test.true c.requires.partition then_there
            w.set_block.ensures.words refl leads (c.loop-position.invariant.stands fabric guid stands good leads has) w.set_block.ensures.set).stands;
        counted = w.count-is ∙ one_counted (is_changed before after) c.loop-position.count position _
            (ap not (sym c.is_same.ensures ∙ w.if-not-is_same.true)) c.loop-position.invariant.counted;
        few = omega (arith, w.count-is, c.loop-position.invariant.few);
        same_wire = ap (λ session. session.wire.ghost_name) w.session-is ∙ w.set_block.ensures.same_wire ∙ c.loop-position.invariant.same_wire;
      }
      | else-not-is_same w ↦
          let same : get_or before position [] ≡ get_or after position [] = same_text _ _ (sym w.if-not-is_same.false ∙ c.is_same.ensures) in
          let there : slice_get before position ≡ Some (get_or after position []) =
          slice_get-get_or before position _ (omega (arith, c.told-before, c.loop-position-test.true)) ∙ ap (λ (block : List ℕ). Some block) same in
          let none : c.loop-position.count ≡ c.loop-position.count + 0 = omega arith in
          record {
            stands = λ fabric guid stands good leads has.
                subst (Stands (g.W.SmpWire.fabric c.if-not-is_same.session.wire.now) fabric)
                (blocks_stay fabric guid c.args.partition position before after (get_or after position []) has there then_there)
                (subst (λ (stood : Option FabricState). Stands stood fabric (with_switches (on_switch guid (slice_to position c.args.partition after)) fabric))
                (ap (λ session. g.W.SmpWire.fabric session.wire.now) (sym w.session-is)) (c.loop-position.invariant.stands fabric guid stands good leads has));
            counted = w.count-is ∙ none ∙ one_counted (is_changed before after) c.loop-position.count position _
                (ap not (sym c.is_same.ensures ∙ w.if-not-is_same.false)) c.loop-position.invariant.counted;
            few = omega (arith, w.count-is, c.loop-position.invariant.few);
            same_wire = ap (λ session. session.wire.ghost_name) w.session-is ∙ c.loop-position.invariant.same_wire;
          }
    ]

pub returns-clause-pushed : goal.returns-clause-pushed
returns-clause-pushed g c x stands guid good leads has =
    let all = slice_ends _ x guid c.loop-position.position c.args.partition c.args.after.now (omega (arith, c.told-after, c.loop-position-test.false))
    (c.loop-position.invariant.stands x guid stands good leads has) in
    record { done = refl; stands = all.stands }
