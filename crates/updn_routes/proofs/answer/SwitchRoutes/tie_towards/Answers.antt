use Rattle.std.proofs.Common.{◌≡◌, ◌∙◌, length, ap, sym, option_map, arith}
use Rattle.std.specs.Option.{option_and_then}
use Rattle.std.proofs.lemmas.Option.{slice_get_past}
use Rattle.updn_routes.specs.Routes.{nth_tie, tie_at, ties_by}
use Rattle.updn_routes.proofs.answer.SwitchRoutes.tie_towards.Goals as goal

pub returns-then-ties-eq0 : goal.returns-then-ties-eq0
returns-then-ties-eq0 c =
    let self = c.args.self.now in
    let ties = ties_by self c.args.target c.args.switch c.in_ok-own.own in
    let none : length ties ≡ 0 = sym c.tie_count-ties.ensures ∙ c.if-ties-eq0.true in
    let hop = sym c.hop_towards.ensures ∙ c.in_ok-own.was in
    sym (ap (option_and_then (λ own. nth_tie self c.args.target c.args.switch own (tie_at self c.args.lid c.args.switch (length (ties_by self c.args.target c.args.switch own))))) hop
    ∙ ap (option_map (λ link. link.port)) (slice_get_past ties (tie_at self c.args.lid c.args.switch (length ties)) (omega (arith, none))))

pub returns : goal.returns
returns c =
    let self = c.args.self.now in
    let hop = sym c.hop_towards.ensures ∙ c.in_ok-own.was in
    let tie = c.tie_at-tie.ensures ∙ ap (tie_at self c.args.lid c.args.switch) c.tie_count-ties.ensures in
    c.nth_tie.ensures ∙ ap (nth_tie self c.args.target c.args.switch c.in_ok-own.own) tie
    ∙ sym (ap (option_and_then (λ own. nth_tie self c.args.target c.args.switch own (tie_at self c.args.lid c.args.switch (length (ties_by self c.args.target c.args.switch own))))) hop)
