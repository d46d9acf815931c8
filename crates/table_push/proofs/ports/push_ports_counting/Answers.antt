use Rattle.std.proofs.Common.{rules, ◌∙◌, ap, refl, subst, Option, Ok}
use Rattle.smp_wire.specs.FabricState.{FabricState}
use Rattle.table_push.specs.Ports.{changed_in, ports_pushed}
use Rattle.table_push.specs.Pushes.{Leaves}
use Rattle.table_push.specs.declared.ports.Round.TheVariants.{Arming}
use Rattle.table_push.proofs.KeptLemmas.{infos_keep_the_graph}
use Rattle.table_push.proofs.LeadLemmas.{goes_on, no_fault}
use Rattle.table_push.proofs.SettingLemmas.{none_counted, returned}
use Rattle.table_push.proofs.SiteLemmas.{links_show}
use Rattle.table_push.proofs.TopLemmas.{whole}
use Rattle.table_push.proofs.WantedChangeLemmas.{rounds_change}
use Rattle.table_push.proofs.ports.push_ports_counting.Goals as goal

pub returns-in-Err-clause-left : goal.returns-in-Err-clause-left
returns-in-Err-clause-left g c x stands of good shows = absurd (no_fault c.in-Err.fault _ x _ (c.in-Err.ensures.left x (ap g.W.SmpWire.fabric c.new-session.ensures.wire ∙ stands) of good shows))

pub returns-in-Err-to_ports-clause-left : goal.returns-in-Err-to_ports-clause-left
returns-in-Err-to_ports-clause-left g c x stands of good shows =
    let routes = c.args.routes.now in
    let first = c.in-Ok.ensures.left x (ap g.W.SmpWire.fabric c.new-session.ensures.wire ∙ stands) of good shows in
    let of_then = infos_keep_the_graph (changed_in Arming routes) x routes.graph first.stands.shape of in
    absurd (no_fault c.in-Err-to_ports.fault _ _ _
    (c.in-Err-to_ports.ensures.left _ first.stands.is of_then first.stands.good (links_show routes x first.stands.shape shows)))

pub returns-in-Err-set_tops-clause-left : goal.returns-in-Err-set_tops-clause-left
returns-in-Err-set_tops-clause-left g c x stands of good shows =
    let routes = c.args.routes.now in
    let first = c.in-Ok.ensures.left x (ap g.W.SmpWire.fabric c.new-session.ensures.wire ∙ stands) of good shows in
    let of_then = infos_keep_the_graph (changed_in Arming routes) x routes.graph first.stands.shape of in
    let second = c.in-Ok-to_ports.ensures.left _ first.stands.is of_then first.stands.good (links_show routes x first.stands.shape shows) in
    let both = goes_on _ _ _ x _ _ _ first.stands second (rounds_change routes x) in
    absurd (no_fault c.in-Err-set_tops.fault _ _ _
    (c.in-Err-set_tops.ensures.left _ both.stands.is (infos_keep_the_graph _ x routes.graph both.stands.shape of) both.stands.good))

pub returns-in-Ok-set_tops-clause-left : goal.returns-in-Ok-set_tops-clause-left
returns-in-Ok-set_tops-clause-left g c x stands of good shows =
    let routes = c.args.routes.now in
    let first = c.in-Ok.ensures.left x (ap g.W.SmpWire.fabric c.new-session.ensures.wire ∙ stands) of good shows in
    let of_then = infos_keep_the_graph (changed_in Arming routes) x routes.graph first.stands.shape of in
    let second = c.in-Ok-to_ports.ensures.left _ first.stands.is of_then first.stands.good (links_show routes x first.stands.shape shows) in
    let both = goes_on _ _ _ x _ _ _ first.stands second (rounds_change routes x) in
    let third = c.in-Ok-set_tops.ensures.left _ both.stands.is (infos_keep_the_graph _ x routes.graph both.stands.shape of) both.stands.good in
    let all = returned c.in-Ok.count _ x _ (goes_on _ _ _ x _ _ _ both.stands third (whole routes x _ refl)).stands in
    subst (λ (next : Option FabricState). Leaves (Ok c.in-Ok.count) next x (ports_pushed routes x)) (search rules) all

pub returns-in-Ok-set_tops-clause-all : goal.returns-in-Ok-set_tops-clause-all
returns-in-Ok-set_tops-clause-all g c x stands of good shows = none_counted c.in-Ok.count (c.in-Ok.ensures.left x (ap g.W.SmpWire.fabric c.new-session.ensures.wire ∙ stands) of good shows).done
