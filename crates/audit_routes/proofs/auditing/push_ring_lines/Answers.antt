use Rattle.std.proofs.Common.{◌≡◌, ◌∙◌, ◌++◌, ap, ℕ, Bool, true, false, List, Option, codes, filter}
use Rattle.std.proofs.lemmas.List.{append_assoc}
use Rattle.std.proofs.lemmas.Result.{on_ok_weaker}
use Rattle.fabric_parts.specs.declared.cable.PortRef.{PortRef}
use Rattle.audit_net.specs.Net.{NetState}
use Rattle.audit_net.specs.declared.lids.Aim.{Aim}
use Rattle.audit_routes.specs.Audit.{ring_line, ring_lines}
use Rattle.audit_routes.specs.Verdict.{is_others}
use Rattle.audit_routes.proofs.auditing.push_ring_lines.Goals as goal

-- ---- three texts behind another
three : (start first second whole a b d : List ℕ) → first ≡ start ++ a → second ≡ first ++ b → whole ≡ second ++ d → whole ≡ start ++ (a ++ b ++ d)
three start first second whole a b d one two last =
    last ∙ ap (λ (t : List ℕ). t ++ d) (two ∙ ap (λ (t : List ℕ). t ++ b) one ∙ append_assoc start a b) ∙ append_assoc start (a ++ b) d

line_same : (net : NetState) (words : List ℕ) (decides : Bool) (aims others : List Aim) (ring found : Option (List PortRef)) → aims ≡ others → ring ≡ found
    → ring_line net words decides aims ring ≡ ring_line net words decides others found
line_same net words decides aims others ring found same is =
    ap (λ (some : List Aim). ring_line net words decides some ring) same ∙ ap (λ (loop : Option (List PortRef)). ring_line net words decides others loop) is

pub returns : goal.returns
unfolding ring_lines
returns c =
    let net : NetState = c.args.net.now in
    let some : List Aim = filter (is_others net) c.args.aims.now in
    let start : List ℕ = c.args.text.now.items in
    let first : List ℕ = c.push_ring_line.new.text.items in
    let second : List ℕ = c.push_ring_line-2.new.text.items in
    let whole : List ℕ = c.push_ring_line-3.new.text.items in
    let others : c.deref.result.now ≡ some = c.deref.ensures.value ∙ c.in_ok-some.ensures in
    let others_too : c.deref-2.result.now ≡ some = c.deref-2.ensures.value ∙ c.in_ok-some.ensures in
    let deciding : List ℕ = ring_line net (codes "deadlock") true some c.args.loops.now.deciding in
    let aggregation : List ℕ = ring_line net (codes "deadlock aggregation-lids") false some c.args.loops.now.aggregation in
    let switches : List ℕ = ring_line net (codes "deadlock switch-lids") false c.args.aims.now c.args.loops.now.switches in
    let one : first ≡ start ++ deciding =
    c.in_ok-push_ring_line.ensures
    ∙ ap (λ (t : List ℕ). start ++ t) (line_same net (codes "deadlock") true c.deref.result.now some _ c.args.loops.now.deciding others c.deciding.ensures) in
    let two : second ≡ first ++ aggregation =
    c.in_ok-push_ring_line-2.ensures
    ∙ ap (λ (t : List ℕ). first ++ t)
    (line_same net (codes "deadlock aggregation-lids") false c.deref-2.result.now some _ c.args.loops.now.aggregation others_too c.aggregation.ensures) in
    on_ok_weaker c.push_ring_line-3.result (λ last.
    three start first second whole deciding aggregation switches one two
    (last ∙ ap (λ (loop : Option (List PortRef)). second ++ ring_line net (codes "deadlock switch-lids") false c.args.aims.now loop) c.switches.ensures)) c.push_ring_line-3.ensures
