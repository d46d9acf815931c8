use Rattle.std.proofs.Common.{◌∙◌, ◌++◌, [], ◌∷◌, List, ap, sym}
use Rattle.std.proofs.lemmas.List.{map_more}
use Rattle.audit_loads.specs.declared.loaded.Loaded.{Loaded}
use Rattle.audit_loads.specs.Loads.{loaded}
use Rattle.audit_loads.proofs.loads.loaded_all.Goals as goal

pub loop-at-preserved : goal.loop-at-preserved
loop-at-preserved c net pairs sums =
    c.in_ok-push.ensures.items ∙ ap (λ (found : List Loaded). found ++ c.loaded_by.result ∷ []) (c.loop-at.invariant net pairs sums)
    ∙ rw (c.loaded_by.ensures net pairs sums) (sym (map_more (loaded net pairs) c.args.channels.now c.loop-at.at-index _ c.loop-at-test.true))
