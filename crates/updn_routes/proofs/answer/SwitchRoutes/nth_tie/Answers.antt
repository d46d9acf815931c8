use Rattle.std.proofs.Common.{◌≡◌, ◌∙◌, List, ap, sym, option_map, slice_get, filter, rules, tests}
use Rattle.std.proofs.lemmas.Iterator.{YieldsList-from_slice}
use Rattle.std.proofs.lemmas.Iterator.Consumers.{YieldsList-from_filter, nth_from_yields_List}
use Rattle.updn_routes.specs.declared.link.Link.{Link}
use Rattle.updn_routes.specs.Cabling.{links_of}
use Rattle.updn_routes.specs.Routes.{SwitchRoutesState, is_tie}
use Rattle.updn_routes.proofs.answer.SwitchRoutes.nth_tie.Goals as goal

pub returns-in_err-link : goal.returns-in_err-link
returns-in_err-link c =
    let test = is_tie c.args.self.now c.args.target c.args.switch c.args.own in
    let found = nth_from_yields_List c.nth.result c.nth.new.self c.args.tie c.nth.ensures.ran
    (YieldsList-from_filter _ test (YieldsList-from_slice c.links_of.result.now cc) c.filter.ensures.closure (λ x r q k. search (rules, tests))) in
    let links : c.links_of.result.now ≡ links_of c.args.self.now.rows c.args.switch =
    c.links_of.ensures ∙ ap (λ (rows : List (List Link)). links_of rows c.args.switch) (c.deref.ensures.value ∙ ap (λ (r : SwitchRoutesState). r.rows) c.self.view_is) in
    c.from_residual.ensures ∙ ap (option_map (λ link. link.port))
    (ap (option_map (λ link. link.now)) (sym c.in_err-link.was) ∙ found ∙ ap (λ (list : List Link). slice_get (filter test list) c.args.tie) links)

pub returns : goal.returns
returns c =
    let test = is_tie c.args.self.now c.args.target c.args.switch c.args.own in
    let found = nth_from_yields_List c.nth.result c.nth.new.self c.args.tie c.nth.ensures.ran
    (YieldsList-from_filter _ test (YieldsList-from_slice c.links_of.result.now cc) c.filter.ensures.closure (λ x r q k. search (rules, tests))) in
    let links : c.links_of.result.now ≡ links_of c.args.self.now.rows c.args.switch =
    c.links_of.ensures ∙ ap (λ (rows : List (List Link)). links_of rows c.args.switch) (c.deref.ensures.value ∙ ap (λ (r : SwitchRoutesState). r.rows) c.self.view_is) in
    ap (option_map (λ link. link.port))
    (ap (option_map (λ link. link.now)) (sym c.in_ok-link.was) ∙ found ∙ ap (λ (list : List Link). slice_get (filter test list) c.args.tie) links)
