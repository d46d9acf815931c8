-- If no member is printed, each port keeps those near it.
use Rattle.std.proofs.Common.{◌≡◌, ◌∙◌, ap, arith, refl, sym, ℕ, Bool, true, false, ◌==◌, ◌&&◌, ◌||◌, if◌then◌else◌, List, [], ◌∷◌, ◌++◌, Option, Some, None, zip, inl, inr}
use Rattle.std.specs.Prelude.{unwrap_or}
use Rattle.std.specs.Cmp.{both_ways}
use Rattle.std.specs.List.{AllByRecursion, IsDistinct, list_all, list_any}
use Rattle.std.proofs.lemmas.Bool.{and_from, and_parts, cases_Bool, eq-eqb, eqb-true, false≢true, or_left, or_right}
use Rattle.std.proofs.lemmas.List.Elements.{All-from_recursion, recursion_from_All}
use Rattle.std.proofs.lemmas.Map.Keys.{IsDistinct-cons, IsDistinct-tail}
use Rattle.step_results.proofs.DistinctLemmas.{none_shares}
use Rattle.step_results.proofs.ListLemmas.{IsDistinct-nil}
use Rattle.partition_reports.specs.WholeLines.{a_port}
use Rattle.partition_file.specs.declared.heading.Heading.{Heading}
use Rattle.partition_file.specs.Members.{bases_in}
use Rattle.pkey_rules.specs.KeyTable.{accepts, find_base, holds, same_base, shares}
use Rattle.pkey_rules.specs.PKey.{base_of, matches}
use Rattle.subnet_model.specs.Configuration.{ConfigurationState}
use Rattle.subnet_model.specs.Configured.{HoldsKnownKeys, is_known_key}
use Rattle.subnet_model.specs.Near.{is_near, ports_share, shares_with}
use Rattle.subnet_model.specs.declared.subnet_port.SubnetPort.{SubnetPort}
use Rattle.partition_reports.specs.Changes.{Change, bases_named, member_changes, member_of, rising_bases, same_member}
use Rattle.partition_reports.specs.ChangeLaws.{AreSamePorts, HasKnownKeys, NearStaysWhereNoMemberIsReported, has_member, is_of, says}
use Rattle.partition_reports.specs.ChangeWrongRules.{TheSecondFileAloneIsNotEnough, later_bases}
use Rattle.partition_reports.proofs.ChangedBaseLemmas.{rising_there}
use Rattle.partition_reports.proofs.MemberLemmas.{members_are_reported}
use Rattle.partition_reports.proofs.SameLemmas.{kind, own_always, own_member, without}
use Rattle.partition_reports.proofs.ChangeWrongLemmas.{a_partition, port_with, same_two, two_ports}

-- ---- a key that is held, and the key of a base
held_any : (key : ℕ) (test : ℕ → Bool) (keys : List ℕ) → holds key keys ≡ true → test key ≡ true → list_any test keys ≡ true
held_any key test [] held is = absurd cc
held_any key test (first ∷ keys) held is = elim (cases_Bool (first == key)) [
  | inl here ↦ or_left (test first) (list_any test keys) (ap test (eqb-true first key here) ∙ is)
  | inr other ↦ or_right (test first) (list_any test keys) (held_any key test keys (rw other at held) is)
]

held_found : (key : ℕ) (keys : List ℕ) → IsDistinct same_base keys → holds key keys ≡ true → find_base (base_of key) keys ≡ Some key
held_found key [] own held = absurd cc
held_found key (first ∷ keys) own held = elim (cases_Bool (first == key)) [
  | inl here ↦
      let same : first ≡ key = eqb-true first key here in
      let base : (base_of first == base_of key) ≡ true = eq-eqb (base_of first) (base_of key) (ap base_of same) in
      rw base (ap Some same)
  | inr other ↦
      let later : holds key keys ≡ true = rw other at held in
      elim (cases_Bool (base_of first == base_of key)) [
        | inl shared ↦ absurd (false≢true (sym (none_shares same_base first keys own) ∙ held_any key (same_base first) keys later shared))
        | inr apart ↦ rw apart (held_found key keys (IsDistinct-tail same_base first keys own) later)
      ]
]

same_some : (a b : ℕ) → ◌≡◌ {A = Option ℕ} (Some a) (Some b) → a ≡ b
same_some a b e = ap (λ (o : Option ℕ). unwrap_or o a) e

found_held : (base key : ℕ) (keys : List ℕ) → find_base base keys ≡ Some key → holds key keys ≡ true
found_held base key [] found = absurd cc
found_held base key (first ∷ keys) found = elim (cases_Bool (base_of first == base)) [
  | inl here ↦ or_left (first == key) (holds key keys) (eq-eqb first key (same_some first key (rw here at found)))
  | inr other ↦ or_right (first == key) (holds key keys) (found_held base key keys (rw other at found))
]

-- ---- the port of this GUID holds this key
abbrev has_it : ℕ → ℕ → SubnetPort → Bool
has_it guid key port = holds key port.keys && (guid == port.guid)

abbrev has_key : ℕ → ℕ → List SubnetPort → Bool
has_key guid key ports = list_any (has_it guid key) ports

turned : (guid same held : Bool) → same ≡ held → (guid && same) ≡ (held && guid)
turned true true true e = refl
turned true false false e = refl
turned false true true e = refl
turned false false false e = refl
turned guid true false e = absurd (false≢true (sym e))
turned guid false true e = absurd (false≢true e)

says_it : (x : SubnetPort × ℕ) (port : SubnetPort) → IsDistinct same_base port.keys → says same_member x (member_of (base_of x.1) port) ≡ has_it x.0.guid x.1 port
says_it x port own = by (find_base (base_of x.1) port.keys) refl
  where
    by : (found : Option ℕ) → find_base (base_of x.1) port.keys ≡ found → says same_member x (member_of (base_of x.1) port) ≡ has_it x.0.guid x.1 port
    by None e = elim (cases_Bool (holds x.1 port.keys)) [
      | inl held ↦ let not : ◌≡◌ {A = Option ℕ} None (Some x.1) = sym e ∙ held_found x.1 port.keys own held in absurd cc
      | inr none ↦ rw (e, none) refl
    ]
    by (Some key) e =
        let held = found_held (base_of x.1) key port.keys e in
        let same : (x.1 == key) ≡ holds x.1 port.keys = both_ways (x.1 == key) (holds x.1 port.keys)
        (λ is. ap (λ n. holds n port.keys) (eqb-true x.1 key is) ∙ held)
        (λ is. eq-eqb x.1 key (same_some x.1 key (sym (held_found x.1 port.keys own is) ∙ e))) in
        rw e (turned (x.0.guid == port.guid) (x.1 == key) (holds x.1 port.keys) same)

says_keys : (headings : List Heading) (ports : List SubnetPort) (x : SubnetPort × ℕ) → AllByRecursion (HoldsKnownKeys headings) ports
    → has_member ports x ≡ has_key x.0.guid x.1 ports
says_keys headings [] x all = refl
says_keys headings (port ∷ ports) x all = rw (says_it x port all.0.once, says_keys headings ports x all.1) refl

-- ---- a key that a port holds is of a partition
known_there : (headings : List Heading) (key : ℕ) (keys : List ℕ) → holds key keys ≡ true → list_all (is_known_key headings) keys ≡ true → is_known_key headings key ≡ true
known_there headings key [] held all = absurd cc
known_there headings key (first ∷ keys) held all =
    let parts = and_parts (is_known_key headings first) _ all in
    elim (cases_Bool (first == key)) [
      | inl here ↦ ap (is_known_key headings) (sym (eqb-true first key here)) ∙ parts.0
      | inr other ↦ known_there headings key keys (rw other at held) parts.1
    ]

key_known : (headings : List Heading) (guid key : ℕ) (ports : List SubnetPort) → AllByRecursion (HoldsKnownKeys headings) ports
    → has_key guid key ports ≡ true → is_known_key headings key ≡ true
key_known headings guid key [] all has = absurd cc
key_known headings guid key (port ∷ ports) all has = elim (cases_Bool (has_it guid key port)) [
  | inl here ↦ known_there headings key port.keys (and_parts (holds key port.keys) (guid == port.guid) here).0 all.0.known
  | inr other ↦ key_known headings guid key ports all.1 (rw other at has)
]

heading_there : (headings : List Heading) (n : ℕ) → list_any (λ base. base == n) (bases_in headings) ≡ true → list_any (λ heading. heading.base == n) headings ≡ true
heading_there [] n is = absurd cc
heading_there (heading ∷ headings) n is = elim (cases_Bool (heading.base == n)) [
  | inl here ↦ or_left (heading.base == n) (list_any (λ heading. heading.base == n) headings) here
  | inr other ↦ or_right (heading.base == n) (list_any (λ heading. heading.base == n) headings) (heading_there headings n (rw other at is))
]

in_front : (test : Heading → Bool) (xs ys : List Heading) → list_any test xs ≡ true → list_any test (xs ++ ys) ≡ true
in_front test [] ys is = absurd cc
in_front test (x ∷ xs) ys is = elim (cases_Bool (test x)) [
  | inl here ↦ or_left (test x) (list_any test (xs ++ ys)) here
  | inr other ↦ or_right (test x) (list_any test (xs ++ ys)) (in_front test xs ys (rw other at is))
]

behind : (test : Heading → Bool) (xs ys : List Heading) → list_any test ys ≡ true → list_any test (xs ++ ys) ≡ true
behind test [] ys is = is
behind test (x ∷ xs) ys is = or_right (test x) (list_any test (xs ++ ys)) (behind test xs ys is)

named_before : (before after : List Heading) (key : ℕ) → is_known_key before key ≡ true → list_any (λ base. base == base_of key) (bases_named before after) ≡ true
named_before before after key known =
    rising_there (before ++ after) (base_of key) ∙ in_front (λ heading. heading.base == base_of key) before after (heading_there before (base_of key) known)

named_after : (before after : List Heading) (key : ℕ) → is_known_key after key ≡ true → list_any (λ base. base == base_of key) (bases_named before after) ≡ true
named_after before after key known =
    rising_there (before ++ after) (base_of key) ∙ behind (λ heading. heading.base == base_of key) before after (heading_there after (base_of key) known)

-- ---- two ports that share a partition hold keys that match
some_key : (test : ℕ → Bool) (keys : List ℕ) → list_any test keys ≡ true → (key : ℕ) × ((holds key keys ≡ true) × (test key ≡ true))
some_key test [] is = absurd cc
some_key test (first ∷ keys) is = elim (cases_Bool (test first)) [
  | inl here ↦ (first, (or_left (first == first) (holds first keys) (eq-eqb first first refl), here))
  | inr other ↦
      let rest = some_key test keys (rw other at is) in
      (rest.0, (or_right (first == rest.0) (holds rest.0 keys) rest.1.0, rest.1.1))
]

abbrev meets : ℕ → List ℕ → SubnetPort → Bool
meets q keys other = (other.guid == q) && shares keys other.keys

-- what two ports have that share a partition
record Match (q : ℕ) (keys : List ℕ) (others : List SubnetPort) : Type 0 where
  pub own : ℕ
  pub other : ℕ
  pub held : holds own keys ≡ true
  pub there : has_key q other others ≡ true
  pub match : matches other own ≡ true

turned_guid : (a b : ℕ) → (a == b) ≡ true → (b == a) ≡ true
turned_guid a b is = eq-eqb b a (sym (eqb-true a b is))

met : (q : ℕ) (keys : List ℕ) (others : List SubnetPort) → list_any (meets q keys) others ≡ true → Match q keys others
met q keys [] is = absurd cc
met q keys (port ∷ others) is = elim (cases_Bool (meets q keys port)) [
  | inl here ↦
      let parts = and_parts (port.guid == q) (shares keys port.keys) here in
      let own = some_key (λ p. accepts p port.keys) keys parts.1 in
      let other = some_key (λ held. matches held own.0) port.keys own.1.1 in
      record {
        own = own.0;
        other = other.0;
        held = own.1.0;
        there = or_left (has_it q other.0 port) (has_key q other.0 others) (and_from (holds other.0 port.keys) (q == port.guid) other.1.0 (turned_guid port.guid q parts.0));
        match = other.1.1;
      }
  | inr not ↦
      let rest = met q keys others (rw not at is) in
      record { own = rest.own; other = rest.other; held = rest.held; there = or_right (has_it q rest.other port) (has_key q rest.other others) rest.there; match = rest.match }
]

meet : (q own other : ℕ) (keys : List ℕ) (others : List SubnetPort) → holds own keys ≡ true → has_key q other others ≡ true → matches other own ≡ true
    → list_any (meets q keys) others ≡ true
meet q own other keys [] held there match = absurd cc
meet q own other keys (port ∷ others) held there match = elim (cases_Bool (has_it q other port)) [
  | inl here ↦
      let parts = and_parts (holds other port.keys) (q == port.guid) here in
      let accepted : accepts own port.keys ≡ true = held_any other (λ one. matches one own) port.keys parts.0 match in
      or_left (meets q keys port) (list_any (meets q keys) others)
      (and_from (port.guid == q) (shares keys port.keys) (turned_guid q port.guid parts.1) (held_any own (λ p. accepts p port.keys) keys held accepted))
  | inr not ↦ or_right (meets q keys port) (list_any (meets q keys) others) (meet q own other keys others held (rw not at there) match)
]

abbrev first_of : ℕ → ℕ → List SubnetPort → SubnetPort → Bool
first_of p q others port = (port.guid == p) && shares_with others port q

-- the other port is where these have it
stays : (p q : ℕ) (ports others later afters : List SubnetPort) → ((guid key : ℕ) → has_key guid key others ≡ true → has_key guid key afters ≡ true)
    → ((guid key : ℕ) → has_key guid key ports ≡ true → has_key guid key later ≡ true)
    → list_any (first_of p q others) ports ≡ true → list_any (first_of p q afters) later ≡ true
stays p q [] others later afters kept held is = absurd cc
stays p q (port ∷ ports) others later afters kept held is = elim (cases_Bool (first_of p q others port)) [
  | inl here ↦
      let parts = and_parts (port.guid == p) (shares_with others port q) here in
      let it = met q port.keys others parts.1 in
      let has : has_it p it.own port ≡ true = and_from (holds it.own port.keys) (p == port.guid) it.held (turned_guid port.guid p parts.0) in
      at later it.own it.other (held p it.own (or_left (has_it p it.own port) (has_key p it.own ports) has)) (kept q it.other it.there) it.match
  | inr not ↦
      stays p q ports others later afters kept (λ guid key there. held guid key (or_right (has_it guid key port) (has_key guid key ports) there)) (rw not at is)
]
  where
    at : (later : List SubnetPort) (own other : ℕ) → has_key p own later ≡ true → has_key q other afters ≡ true → matches other own ≡ true
        → list_any (first_of p q afters) later ≡ true
    at [] own other has there match = absurd cc
    at (port ∷ later) own other has there match = elim (cases_Bool (has_it p own port)) [
      | inl here ↦
          let parts = and_parts (holds own port.keys) (p == port.guid) here in
          or_left (first_of p q afters port) (list_any (first_of p q afters) later)
          (and_from (port.guid == p) (shares_with afters port q) (turned_guid p port.guid parts.1) (meet q own other port.keys afters parts.0 there match))
      | inr not ↦ or_right (first_of p q afters port) (list_any (first_of p q afters) later) (at later own other (rw not at has) there match)
    ]

-- ---- near
abbrev member : ℕ → ℕ → SubnetPort × ℕ
member guid key = (record a_port { guid = guid }, key)

pub near_stays_where_no_member_is_reported : NearStaysWhereNoMemberIsReported
near_stays_where_no_member_is_reported before after are all_before all_after none p q =
    let own_before = recursion_from_All (HoldsKnownKeys before.partitions) before.ports all_before in
    let own_after = recursion_from_All (HoldsKnownKeys after.partitions) after.ports all_after in
    let bases : List ℕ = bases_named before.partitions after.partitions in
    let members : List (Change (SubnetPort × ℕ)) = member_changes bases (zip before.ports after.ports) in
    let same = (kind same_member (λ x. is_of bases x && has_member before.ports x) (λ x. is_of bases x && has_member after.ports x) members
    (members_are_reported before.ports after.ports before.partitions after.partitions are) (own_always same_member own_member members)).0 none in
    let there : (guid key : ℕ) → is_of bases (member guid key) ≡ true → has_key guid key before.ports ≡ has_key guid key after.ports =
    λ guid key named. sym (says_keys before.partitions before.ports (member guid key) own_before)
    ∙ without (is_of bases (member guid key)) (has_member before.ports (member guid key)) (has_member after.ports (member guid key)) (same (member guid key)) named
    ∙ says_keys after.partitions after.ports (member guid key) own_after in
    let on : (guid key : ℕ) → has_key guid key before.ports ≡ true → has_key guid key after.ports ≡ true =
    λ guid key has. sym (there guid key (named_before before.partitions after.partitions key (key_known before.partitions guid key before.ports own_before has))) ∙ has in
    let back : (guid key : ℕ) → has_key guid key after.ports ≡ true → has_key guid key before.ports ≡ true =
    λ guid key has. there guid key (named_after before.partitions after.partitions key (key_known after.partitions guid key after.ports own_after has)) ∙ has in
    ap (λ b. (q == p) || b) (both_ways (ports_share before.ports p q) (ports_share after.ports p q)
    (stays p q before.ports before.ports after.ports after.ports on on) (stays p q after.ports after.ports before.ports before.ports back back))

-- ---- the members of a partition that goes
two_before : ConfigurationState
two_before = record { ports = two_ports (0x8001 ∷ []); partitions = a_partition ∷ [] }

two_after : ConfigurationState
two_after = record { ports = two_ports []; partitions = [] }

known_before : HasKnownKeys two_before
unfolding two_before
known_before = All-from_recursion (HoldsKnownKeys two_before.partitions) two_before.ports (each, (each, tt))
  where
    each : {guid : ℕ} → HoldsKnownKeys (a_partition ∷ []) (port_with guid (0x8001 ∷ []))
    each = record { once = IsDistinct-cons same_base 0x8001 [] tt (IsDistinct-nil same_base); known = refl; few = omega arith }

known_after : HasKnownKeys two_after
unfolding two_after
known_after = All-from_recursion (HoldsKnownKeys two_after.partitions) two_after.ports (each, (each, tt))
  where
    each : {guid : ℕ} → HoldsKnownKeys [] (port_with guid [])
    each = record { once = IsDistinct-nil same_base; known = refl; few = omega arith }

pub the_second_file_alone_is_not_enough : TheSecondFileAloneIsNotEnough
unfolding two_after two_before
the_second_file_alone_is_not_enough law = false≢true (sym (law two_before two_after same_two known_before known_after refl 1 2))
