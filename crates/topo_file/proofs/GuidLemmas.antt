-- The GUIDs of two nodes.
use Rattle.std.proofs.Common.{ℕ, ◌≡◌, ◌-◌, ◌≤◌, nat_le, Bool, true, false, refl, arith}
use Rattle.std.proofs.lemmas.Bool.{and_from, and_parts, le-leb, leb-false, leb-true}
use Rattle.topo_file.specs.declared.node.Node.{Node}
use Rattle.topo_file.specs.Laws.{SharedGuidsAreReported}
use Rattle.topo_file.specs.Node.{IsGuidOf, last_guid, shares_guid}

-- the greater of the two first is one of both
is_guid : (a : Node) (guid : ℕ) → a.guid ≤ guid → guid ≤ last_guid a → IsGuidOf a guid
is_guid a guid low high = (guid - a.guid, omega (arith, low, high), omega (arith, low))

pub shared : (a b : Node) → a.guid ≤ last_guid b → b.guid ≤ last_guid a → (b_first : Bool) → nat_le a.guid b.guid ≡ b_first
    → (guid : ℕ) × IsGuidOf a guid × IsGuidOf b guid
shared a b first second true is =
    (b.guid, is_guid a b.guid (leb-true a.guid b.guid is) second, is_guid b b.guid (omega arith) (omega arith))
shared a b first second false is =
    (a.guid, is_guid a a.guid (omega arith) (omega arith), is_guid b a.guid (let high = leb-false a.guid b.guid is in omega (arith, high)) first)

reported : (a b : Node) (guid : ℕ) → IsGuidOf a guid → IsGuidOf b guid → shares_guid a b ≡ true
reported a b guid of_a of_b =
    let first = of_a.1 in
    let first_is = of_a.2 in
    let second = of_b.1 in
    let second_is = of_b.2 in
    and_from (nat_le a.guid (last_guid b)) _
    (le-leb a.guid (last_guid b) (omega (arith, first, first_is, second, second_is)))
    (le-leb b.guid (last_guid a) (omega (arith, first, first_is, second, second_is)))

pub shared_guids_are_reported : SharedGuidsAreReported
shared_guids_are_reported a b = (
  (λ both.
      let parts = and_parts (nat_le a.guid (last_guid b)) _ both in
      shared a b (leb-true a.guid (last_guid b) parts.0) (leb-true b.guid (last_guid a) parts.1) (nat_le a.guid b.guid) refl),
  (λ some. reported a b some.0 some.1 some.2),
)
