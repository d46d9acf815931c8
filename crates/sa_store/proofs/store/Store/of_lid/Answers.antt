use Rattle.std.proofs.Common.{◌≡◌, ◌≤◌, ◌<◌, ◌⊎◌, List, length, sym, ◌∙◌, ap, inl, inr, arith}
use Rattle.subnet_model.specs.declared.subnet_port.SubnetPort.{SubnetPort}
use Rattle.sa_store.specs.Registry.{of_lid}
use Rattle.sa_store.specs.Kept.{ports_of}
use Rattle.sa_store.specs.Registry.{RegistryState}
use Rattle.sa_store.proofs.PlaceLemmas.{lid_nowhere, lid_slice}
use Rattle.sa_store.proofs.store.Store.of_lid.Goals.{then-lid-eq0-via-then-lid-eq0, then-lid-eq0-via-else-lid-eq0+then-lid-len}
use Rattle.sa_store.proofs.store.Store.of_lid.Goals as goal

pub returns-then-lid-eq0 : goal.returns-then-lid-eq0
returns-then-lid-eq0 c =
    let kept = c.self.inside.kept.items in
    let ports : ports_of kept ≡ c.args.self.now.configuration.ports = ap (λ (s : RegistryState). s.configuration.ports) c.self.view_is in
    let out : (c.args.lid < 1) ⊎ (length kept < c.args.lid) = elim c.then-lid-eq0.branch [
      | then-lid-eq0-via-then-lid-eq0 w ↦ inl (omega (arith, w.if-lid-eq0.true, c.from-lid.ensures))
      | then-lid-eq0-via-else-lid-eq0+then-lid-len w ↦ inr (omega (arith, w.if-lid-len.true, w.len.ensures, c.from-lid.ensures, c.self.inside.kept.ok.0))
    ] in
    sym (lid_nowhere c.args.lid kept c.self.invariant.configured.lids out) ∙ ap (λ (ports : List SubnetPort). of_lid c.args.lid ports) ports

pub returns : goal.returns
returns c =
    let kept = c.self.inside.kept.items in
    let ports : ports_of kept ≡ c.args.self.now.configuration.ports = ap (λ (s : RegistryState). s.configuration.ports) c.self.view_is in
    let low : 1 ≤ c.args.lid = omega (arith, c.if-lid-eq0.false, c.from-lid.ensures) in
    let high : c.args.lid ≤ length kept = omega (arith, c.if-lid-len.false, c.len.ensures, c.from-lid.ensures, c.self.inside.kept.ok.0) in
    rw (c.deref.ensures.value, c.from-lid.ensures)
    (lid_slice c.args.lid kept c.self.invariant.configured.lids low high ∙ ap (λ (ports : List SubnetPort). of_lid c.args.lid ports) ports)
