use Rattle.std.proofs.Common.{◌≡◌, ◌∙◌, ◌||◌, ◌+◌, Bool, List, ap, sym, take}
use Rattle.std.specs.List.{list_any}
use Rattle.std.proofs.lemmas.List.Folds.{list_any_more}
use Rattle.audit_lanes.specs.declared.hop.Hop.{Hop}
use Rattle.audit_lanes.specs.Hops.{is_dropped_at, lacks_row_at, some_hop}
use Rattle.audit_lanes.specs.Keys.{drops_at}
use Rattle.audit_lanes.proofs.troubles.noted_in.Goals as goal

pub loop-trace-preserved : goal.loop-trace-preserved
loop-trace-preserved c =
    let traces = c.args.traces.now in
    let i = c.loop-trace.trace-index in
    let hops = c.as_slice.ensures ∙ c.trace-item.is in
    let more : (test : Hop → Bool) → (some_hop test (take i traces) || list_any test c.as_slice.result.now) ≡ some_hop test (take (i + 1) traces) =
    λ test. ap (λ (some : List Hop). some_hop test (take i traces) || list_any test some) hops ∙ sym (list_any_more (list_any test) traces i _ c.loop-trace-test.true) in (
      λ here. c.in_ok-note_hops.ensures.lacking here ∙ ap (λ (b : Bool). b || list_any (lacks_row_at here) c.as_slice.result.now) (c.loop-trace.invariant.0 here) ∙ more (lacks_row_at here),
      (
        λ here. c.in_ok-note_hops.ensures.dropped here ∙ ap (λ (b : Bool). b || list_any (is_dropped_at here) c.as_slice.result.now) (c.loop-trace.invariant.1.0 here) ∙ more (is_dropped_at here),
        λ one. c.in_ok-note_hops.ensures.dropped_sls one ∙ ap (λ (b : Bool). b || list_any (drops_at one) c.as_slice.result.now) (c.loop-trace.invariant.1.1 one) ∙ more (drops_at one),
      ),
    )
