use Rattle.std.proofs.Common.{◌∙◌, ◌==◌, ◌<◌, ap, subst, sym, length, List}
use Rattle.updn_routes.specs.declared.link.Link.{Link}
use Rattle.updn_routes.specs.Cabling.{links_of}
use Rattle.updn_routes.specs.Routes.{AreRoutes, SwitchRoutesState}
use Rattle.updn_routes.proofs.AnswerLemmas.{has_row, least_is}
use Rattle.updn_routes.proofs.answer.SwitchRoutes.port_for.Goals as goal

pub returns-in-LeastPort : goal.returns-in-LeastPort
returns-in-LeastPort c =
    let are : AreRoutes c.args.self.now = subst AreRoutes c.self.view_is c.self.invariant in
    let links = c.links_of.ensures ∙ ap (λ (rows : List (List Link)). links_of rows c.args.switch) (c.deref.ensures.value ∙ ap (λ (r : SwitchRoutesState). r.rows) c.self.view_is) in
    let less : c.args.switch < length c.args.self.now.rows =
    has_row c.args.self.now.rows c.args.switch
    (ap (λ (row : List Link). length row == 0) (sym links) ∙ sym c.is_empty-has_links.ensures ∙ c.if-has_links.true) in
    c.port_towards.ensures
    ∙ sym (least_is c.args.self.now are c.args.lid c.args.switch c.args.home (ap (λ (r : SwitchRoutesState). r.rule) (sym c.self.view_is) ∙ c.in-LeastPort.is) c.requires.at less c.requires.away)
