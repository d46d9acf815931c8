-- Cables of a good fabric: each leads back to where it came from, and joins ports of its nodes.
use Rattle.std.proofs.Common.{◌≡◌, ◌==◌, ◌∙◌, ◌||◌, not, ap, refl, sym, subst, Bool, true, false, cond, if◌then◌else◌, List, [], ◌∷◌, find}
use Rattle.std.proofs.Common.{flat_map, length, Option, Some, option_map, ◌*◌, arith}
use Rattle.std.specs.Cmp.{IsEquivalence}
use Rattle.std.specs.List.{list_all, list_any}
use Rattle.std.proofs.lemmas.Bool.{and_from, and_parts, eqb-true, eq-eqb, false≢true}
use Rattle.std.proofs.lemmas.Bool.Decides.{nat_tests}
use Rattle.std.proofs.lemmas.Option.{same_Some}
use Rattle.fabric_parts.specs.declared.cable.Cable.{Cable}
use Rattle.fabric_parts.specs.declared.cable.PortRef.{PortRef}
use Rattle.fabric_parts.specs.Cable.{ends_at, far_end, is_same_port, other_end}
use Rattle.smp_wire.specs.declared.node.Node.{Node}
use Rattle.smp_wire.specs.FabricState.{is_port}
use Rattle.smp_wire.specs.Good.{ends_of, is_right}
use Rattle.step_results.proofs.DistinctLemmas.{all_differ}

-- ---- the far end, with a cable before the others
by_ends : (first second : Bool) (other : Cable → PortRef) (cable : Cable) (rest : Option Cable)
    → other cable ≡ (if first then cable.second else cable.first)
    → cond first (Some cable.second) (cond second (Some cable.first) (option_map other rest)) ≡ option_map other (if first || second then Some cable else rest)
by_ends true second other cable rest is = ap (λ (port : PortRef). Some port) (sym is)
by_ends false true other cable rest is = ap (λ (port : PortRef). Some port) (sym is)
by_ends false false other cable rest is = refl

pub far_end_before : (cable : Cable) (cables : List Cable) (port : PortRef)
    → cond (is_same_port cable.first port) (Some cable.second) (cond (is_same_port cable.second port) (Some cable.first) (far_end cables port)) ≡ far_end (cable ∷ cables) port
far_end_before cable cables port =
    by_ends (is_same_port cable.first port) (is_same_port cable.second port) (other_end port) cable (find (λ one. ends_at port one) cables) refl

-- ---- ports
pub same_port : (a b : PortRef) → is_same_port a b ≡ true → a ≡ b
same_port a b h =
    let parts = and_parts (a.node == b.node) (a.port == b.port) h in
    λ place. record { node = eqb-true a.node b.node parts.0 place; port = eqb-true a.port b.port parts.1 place }

pub itself : (a : PortRef) → is_same_port a a ≡ true
itself a = and_from (a.node == a.node) (a.port == a.port) (eq-eqb a.node a.node refl) (eq-eqb a.port a.port refl)

pub ports_turn : (a b : PortRef) → is_same_port a b ≡ is_same_port b a
ports_turn a b = grind (arith, nat_tests)

pub ports_equiv : IsEquivalence is_same_port
ports_equiv = record {
  refl = itself;
  symm = ports_turn;
  congr = λ a b c same. ap (λ (p : PortRef). is_same_port p c) (same_port a b same);
}

-- each cable has two ends
pub count_ends : (cables : List Cable) → length (flat_map ends_of cables) ≡ 2 * length cables
count_ends [] = refl
count_ends (cable ∷ cables) = let rest = count_ends cables in omega (arith, rest)

not_any : (one rest : Bool) → not (one || rest) ≡ true → (one ≡ false) × (rest ≡ false)
not_any true rest h = absurd (false≢true h)
not_any false true h = absurd (false≢true h)
not_any false false h = (refl, refl)

-- ---- what is so of both ends of each cable is so of a port and the far end of its cable
Both : (PortRef → PortRef → Type 0) → Cable → Type 0
Both P cable = P cable.first cable.second × P cable.second cable.first

met : (P : PortRef → PortRef → Type 0) (cable : Cable) (a b : PortRef) (rest : Option PortRef) (first second : Bool)
    → is_same_port cable.first a ≡ first → is_same_port cable.second a ≡ second
    → Both P cable → (rest ≡ Some b → P a b) → cond first (Some cable.second) (cond second (Some cable.first) rest) ≡ Some b → P a b
unfolding Both
met P cable a b rest true second f s both later is =
    subst (λ (p : PortRef). P p b) (same_port cable.first a f) (subst (λ (p : PortRef). P cable.first p) (same_Some _ _ is) both.0)
met P cable a b rest false true f s both later is =
    subst (λ (p : PortRef). P p b) (same_port cable.second a s) (subst (λ (p : PortRef). P cable.second p) (same_Some _ _ is) both.1)
met P cable a b rest false false f s both later is = later is

pub far_ends_meet : (P : PortRef → PortRef → Type 0) (test : Cable → Bool)
    → ((cable : Cable) → test cable ≡ true → P cable.first cable.second × P cable.second cable.first)
    → (cables : List Cable) (a b : PortRef) → list_all test cables ≡ true → far_end cables a ≡ Some b → P a b
unfolding Both
far_ends_meet P test each [] a b all is = cc
far_ends_meet P test each (cable ∷ cables) a b all is =
    let parts = and_parts (test cable) (list_all test cables) all in
    met P cable a b (far_end cables a) (is_same_port cable.first a) (is_same_port cable.second a) refl refl
    (each cable parts.0) (λ later. far_ends_meet P test each cables a b parts.1 later)
    (far_end_before cable cables a ∙ is)

-- ---- both ways
is_among : (cable : Cable) (a b end : PortRef) (rest : Option PortRef) (others first second : Bool) → is_same_port end b ≡ true
    → cond first (Some cable.second) (cond second (Some cable.first) rest) ≡ Some
    b → (rest ≡ Some b → others ≡ true) → is_same_port end cable.first
    || (is_same_port end cable.second || others) ≡ true
is_among cable a b end rest others true second same is later =
    let here : is_same_port end cable.second ≡ true = ap (is_same_port end) (same_Some _ _ is) ∙ same in
    rw here (or_true (is_same_port end cable.first))
  where
    or_true : (x : Bool) → x || true ≡ true
    or_true true = refl
    or_true false = refl
is_among cable a b end rest others false true same is later =
    let here : is_same_port end cable.first ≡ true = ap (is_same_port end) (same_Some _ _ is) ∙ same in
    rw here refl
is_among cable a b end rest others false false same is later = rw (later is) (or_both (is_same_port end cable.first) (is_same_port end cable.second))
  where
    or_both : (x y : Bool) → x || (y || true) ≡ true
    or_both true y = refl
    or_both false true = refl
    or_both false false = refl

-- the far end of a cable is an end of a cable
pub far_is_end : (cables : List Cable) (a b end : PortRef) → is_same_port end b ≡ true → far_end cables a ≡ Some b
    → list_any (is_same_port end) (flat_map ends_of cables) ≡ true
far_is_end [] a b end same is = cc
far_is_end (cable ∷ cables) a b end same is =
    is_among cable a b end (far_end cables a) (list_any (is_same_port end) (flat_map ends_of cables))
    (is_same_port cable.first a) (is_same_port cable.second a) same (far_end_before cable cables a ∙ is)
    (λ later. far_is_end cables a b end same later)

apart_from : (cables : List Cable) (a b end : PortRef) (b_is : Bool) → is_same_port end b ≡ b_is
    → list_any (is_same_port end) (flat_map ends_of cables) ≡ false → far_end cables a ≡ Some b → b_is ≡ false
apart_from cables a b end true same none is = sym (far_is_end cables a b end same is) ∙ none
apart_from cables a b end false same none is = refl

back_by : (cable : Cable) (cables : List Cable) (a b : PortRef) (first second : Bool)
    → is_same_port cable.first a ≡ first → is_same_port cable.second a ≡ second
    → is_same_port cable.first cable.second ≡ false
    → list_any (is_same_port cable.first) (flat_map ends_of cables) ≡ false → list_any (is_same_port cable.second) (flat_map ends_of cables) ≡ false
    → (far_end cables a ≡ Some b → far_end cables b ≡ Some a)
    → cond first (Some cable.second) (cond second (Some cable.first) (far_end cables a)) ≡ Some b → far_end (cable ∷ cables) b ≡ Some a
back_by cable cables a b true second f s apart alone other later is =
    let to : far_end (cable ∷ cables) cable.second ≡ Some cable.first = sym (far_end_before cable cables cable.second) ∙ rw (apart, itself cable.second) refl in
    ap (far_end (cable ∷ cables)) (sym (same_Some _ _ is)) ∙ to ∙ ap (λ (p : PortRef). Some p) (same_port cable.first a f)
back_by cable cables a b false true f s apart alone other later is =
    let to : far_end (cable ∷ cables) cable.first ≡ Some cable.second = sym (far_end_before cable cables cable.first) ∙ rw (itself cable.first) refl in
    ap (far_end (cable ∷ cables)) (sym (same_Some _ _ is)) ∙ to ∙ ap (λ (p : PortRef). Some p) (same_port cable.second a s)
back_by cable cables a b false false f s apart alone other later is =
    let one = apart_from cables a b cable.first (is_same_port cable.first b) refl alone is in
    let two = apart_from cables a b cable.second (is_same_port cable.second b) refl other is in
    sym (far_end_before cable cables b) ∙ rw (one, two) (later is)

pub both_ways : (cables : List Cable) (a b : PortRef) → all_differ is_same_port (flat_map ends_of cables) ≡ true
    → far_end cables a ≡ Some b → far_end cables b ≡ Some a
both_ways [] a b once is = cc
both_ways (cable ∷ cables) a b once is =
    let first = and_parts (not (is_same_port cable.first cable.second || list_any (is_same_port cable.first) (flat_map ends_of cables))) _ once in
    let second = and_parts (not (list_any (is_same_port cable.second) (flat_map ends_of cables))) _ first.1 in
    let alone = not_any _ _ first.0 in
    let other = not_any false _ second.0 in
    back_by cable cables a b (is_same_port cable.first a) (is_same_port cable.second a) refl refl alone.0 alone.1 other.1
    (λ later. both_ways cables a b second.1 later) (far_end_before cable cables a ∙ is)

-- ---- a port with a cable is a port of its node
ends_are_ports : (nodes : List Node) (cable : Cable) → is_right nodes cable ≡ true
    → (is_port nodes cable.first ≡ true) × (is_port nodes cable.second ≡ true)
ends_are_ports nodes cable right =
    let one = and_parts (is_port nodes cable.first) _ right in
    (one.0, (and_parts (is_port nodes cable.second) _ one.1).0)

pub cabled_is_port : (nodes : List Node) (cables : List Cable) (a b : PortRef)
    → list_all (is_right nodes) cables ≡ true → far_end cables a ≡ Some b → is_port nodes a ≡ true
cabled_is_port nodes cables a b right is = far_ends_meet (λ end other. is_port nodes end ≡ true) (is_right nodes) (ends_are_ports nodes) cables a b right is

-- and so is the port at its other end
pub far_is_port : (nodes : List Node) (cables : List Cable) (a b : PortRef)
    → list_all (is_right nodes) cables ≡ true → far_end cables a ≡ Some b → is_port nodes b ≡ true
far_is_port nodes cables a b right is =
    far_ends_meet (λ end other. is_port nodes other ≡ true) (is_right nodes)
    (λ cable right. let ends = ends_are_ports nodes cable right in (ends.1, ends.0)) cables a b right is
