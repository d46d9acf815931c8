use Rattle.std.proofs.Common.{◌≡◌, ◌∙◌, ap, false, sym, true}
use Rattle.std.specs.List.{list_any}
use Rattle.std.proofs.lemmas.Result.{on_ok_weaker}
use Rattle.sa_model.specs.Joining.{Join, has_mgid}
use Rattle.sa_store.specs.MlidRange.{with_mlid}
use Rattle.sa_store.proofs.MemberLemmas.{entered_anew, entered_there, some_named}
use Rattle.sa_store.proofs.mlid_range.MlidRange.enter.Goals as goal

pub returns-then-is_some-clause-next : goal.returns-then-is_some-clause-next
returns-then-is_some-clause-next c =
    let groups = c.args.self.now.groups in
    let named = some_named (λ named. with_mlid named.0 named.1.now) c.named.result (has_mgid c.join.inside.mgid) groups c.named.ensures in
    let there : list_any (has_mgid c.args.join.now.mgid) groups ≡ true =
    ap (λ (join : Join). list_any (has_mgid join.mgid) groups) (sym c.join.view_is) ∙ sym named ∙ sym c.is_some.ensures ∙ c.if-is_some.true in
    on_ok_weaker c.join-then-is_some.result (λ next. next ∙ entered_there c.args.join.now c.args.self.now there) c.join-then-is_some.ensures.next

pub returns-else-is_some-clause-next : goal.returns-else-is_some-clause-next
returns-else-is_some-clause-next c =
    let groups = c.args.self.now.groups in
    let named = some_named (λ named. with_mlid named.0 named.1.now) c.named.result (has_mgid c.join.inside.mgid) groups c.named.ensures in
    let none : list_any (has_mgid c.args.join.now.mgid) groups ≡ false =
    ap (λ (join : Join). list_any (has_mgid join.mgid) groups) (sym c.join.view_is) ∙ sym named ∙ sym c.is_some.ensures ∙ c.if-is_some.false in
    on_ok_weaker c.found.result (λ next. next ∙ entered_anew c.args.join.now c.args.self.now none) c.found.ensures.next
