use Rattle.std.proofs.Common.{ℕ, ◌∙◌, ap, sym, List, [], ◌∷◌, ◌++◌}
use Rattle.sweep.proofs.StartLemmas.{no_second, second_switch, started}
use Rattle.sweep.proofs.discovery.start.Goals as goal

pub returns-in-Err-look-clause-reported : goal.returns-in-Err-look-clause-reported
returns-in-Err-look-clause-reported g c x stands good =
    no_second x c.new.result c.then-path.result c.in-Ok.seen c.in-Err-look.fault good c.new.ensures
    (c.then-path.ensures ∙ ap (λ (p : List ℕ). p ++ c.in-Ok.seen.local_port_num ∷ []) (c.new-2.ensures ∙ sym c.new.ensures))
    (sym c.in-Ok.is ∙ c.look.ensures.reported x stands good)
    (sym c.in-Err-look.is ∙ c.look-2.ensures.reported x (c.look.ensures.left x stands good) good)

pub returns-then-not-is_switch-clause-reported : goal.returns-then-not-is_switch-clause-reported
returns-then-not-is_switch-clause-reported g c x stands good =
    second_switch x c.new.result c.then-path.result c.in-Ok.seen c.in-Ok-look.seen good c.new.ensures
    (c.then-path.ensures ∙ ap (λ (p : List ℕ). p ++ c.in-Ok.seen.local_port_num ∷ []) (c.new-2.ensures ∙ sym c.new.ensures))
    (sym c.in-Ok.is ∙ c.look.ensures.reported x stands good)
    (sym c.in-Ok-look.is ∙ c.look-2.ensures.reported x (c.look.ensures.left x stands good) good)
    (cc)

pub returns-clause-reported : goal.returns-clause-reported
returns-clause-reported g c x stands good =
    let left = c.look.ensures.left x stands good in
    started x c.new.result c.then-path.result c.in-Ok.seen c.in-Ok-look.seen c.in-Ok-name_of.name good c.new.ensures
    (c.then-path.ensures ∙ ap (λ (p : List ℕ). p ++ c.in-Ok.seen.local_port_num ∷ []) (c.new-2.ensures ∙ sym c.new.ensures))
    (sym c.in-Ok.is ∙ c.look.ensures.reported x stands good)
    (sym c.in-Ok-look.is ∙ c.look-2.ensures.reported x left good)
    (sym c.in-Ok-name_of.is ∙ c.name_of.ensures.reported x (c.look-2.ensures.left x left good) good)
