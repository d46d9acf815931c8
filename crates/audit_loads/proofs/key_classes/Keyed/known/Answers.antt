use Rattle.std.proofs.Common.{rules, ◌≡◌, ◌∙◌, ap, refl, subst, sym, Bool, ℕ, List, Option, Some, IfSome}
use Rattle.pkey_rules.specs.KeyTable.{shares}
use Rattle.audit_loads.specs.declared.talk.PortKeys.{PortKeys}
use Rattle.audit_loads.specs.KeyClasses.{class_at, shared_at}
use Rattle.audit_loads.specs.Talk.{keys_at}
use Rattle.audit_loads.proofs.KeyLemmas.{shared_is}
use Rattle.audit_loads.proofs.key_classes.Keyed.known.Goals as goal

pub returns : goal.returns
returns c =
    let inside = c.self.inside in
    let source = c.args.source in
    let end = c.args.end in
    let one : class_at inside.classes.items source ≡ Some c.in_ok-one.one =
    ap (λ (classes : List (Option ℕ)). class_at classes source) (sym c.deref.ensures.value) ∙ sym c.class_at.ensures ∙ c.in_ok-one.was in
    let other : class_at inside.classes.items end ≡ Some c.in_ok-other.other =
    ap (λ (classes : List (Option ℕ)). class_at classes end) (sym c.deref-2.ensures.value) ∙ sym c.class_at-2.ensures ∙ c.in_ok-other.was in
    let is : c.shared_at.result ≡ Some (shares (keys_at c.args.self.now source) (keys_at c.args.self.now end)) =
    c.shared_at.ensures ∙ ap (λ (rows : List (List Bool)). shared_at rows c.in_ok-one.one c.in_ok-other.other) c.deref-3.ensures.value
    ∙ shared_is inside.tables.items inside.classes.items inside.ports.items inside.rows.items source end c.in_ok-one.one c.in_ok-other.other
    c.self.invariant.0 c.self.invariant.1 (search rules) (search rules) one other
    ∙ ap (λ (ports : List PortKeys). Some (shares (keys_at ports source) (keys_at ports end))) c.self.view_is in
    subst (λ (found : Option Bool). IfSome found (λ shared. shared ≡ shares (keys_at c.args.self.now source) (keys_at c.args.self.now end))) (sym is) refl
