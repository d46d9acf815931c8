-- What goes on at another switch leaves by a port, and comes to its end without an unknown entry.
use Rattle.std.proofs.Common.{ℕ, ◌≡◌, ◌∙◌, ap, refl, subst, sym, true, List, [], ◌∷◌}
use Rattle.std.proofs.lemmas.Bool.{eq-eqb}
use Rattle.fabric_parts.specs.Cable.{port}
use Rattle.fabric_parts.specs.declared.cable.PortRef.{PortRef}
use Rattle.audit_net.specs.declared.entry.Entry.{Entry}
use Rattle.audit_net.specs.declared.entry.Entry.TheVariants.{Out, Missing, Unreported}
use Rattle.audit_net.specs.declared.following.Turn.TheVariants as turns
use Rattle.audit_loops.specs.Channels.{is_out, leaves_by}
use Rattle.audit_net.specs.Following.{turn_by}
use Rattle.audit_net.specs.Laws.{EndsBy, GoesTo, IsUnknownAt, IsWay}
use Rattle.audit_net.specs.Net.{NetState, entry}

pub goes_leaves : (net : NetState) (lid place next : ℕ) → GoesTo net lid place next → (number : ℕ) × (leaves_by net (port place number) lid ≡ true)
goes_leaves net lid place next goes = by (entry net lid place) refl goes
  where
    by : (e : Entry) → entry net lid place ≡ e → turn_by net place e ≡ turns.Goes next → (number : ℕ) × (leaves_by net (port place number) lid ≡ true)
    by (Out number) is goes = (number, ap (is_out number) is ∙ eq-eqb number number refl)
    by Missing is goes = cc
    by Unreported is goes = cc

none_unknown : (net : NetState) (lid place : ℕ) (end : PortRef) (way : List ℕ) → IsWay net lid place way (turns.Arrives end) → IsUnknownAt net lid place → ⊥
none_unknown net lid place end [] is unknown = let e : turns.Unknown ≡ turns.Arrives end = sym unknown ∙ is.0 in cc
none_unknown net lid place end (next ∷ way) is unknown = let e : turns.Unknown ≡ turns.Goes next = sym unknown ∙ is.0 in cc

pub next_known : (net : NetState) (lid place next : ℕ) (end : PortRef) → EndsBy net lid place (turns.Arrives end) → GoesTo net lid place next
    → IsUnknownAt net lid next → ⊥
next_known net lid place next end ends goes unknown = by ends.0 ends.1
  where
    by : (way : List ℕ) → IsWay net lid place way (turns.Arrives end) → ⊥
    by [] is = let e : turns.Goes next ≡ turns.Arrives end = sym goes ∙ is.0 in cc
    by (first ∷ way) is =
        let e : turns.Goes first ≡ turns.Goes next = sym is.0 ∙ goes in
        let same : first ≡ next = cc in
        none_unknown net lid next end way (subst (λ (n : ℕ). IsWay net lid n way (turns.Arrives end)) same is.1) unknown
