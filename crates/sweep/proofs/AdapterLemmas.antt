-- Ports of adapters that agree, one port more at a time.
use Rattle.std.proofs.Common.{suc, ◌≡◌, ◌∙◌, ◌==◌, ◌&&◌, ◌||◌, ◌+◌, ◌<◌, not, cond, ℕ, Bool, true, false, refl, sym, ap, List, [], ◌∷◌, ◌++◌, take}
use Rattle.std.proofs.Common.{drop, get_or, length, Option, Some, None, arith}
use Rattle.std.specs.List.{list_all, list_any}
use Rattle.std.proofs.Math.Seq.{drop-cons}
use Rattle.std.proofs.lemmas.List.{append_assoc, append-nil, take_more}
use Rattle.std.proofs.lemmas.Bool.Decides.{Decides-eqb, nat_tests}
use Rattle.step_results.proofs.BoolLemmas.{and_true}
use Rattle.sweep.specs.Graph.{agree, all_agree}
use Rattle.sweep.specs.Adapters.{is_count}
use Rattle.sweep.specs.declared.graph.GraphPort.{GraphPort}
use Rattle.sweep.specs.declared.adapters.AdapterPort.{AdapterPort}

-- ---- what is kept
-- the same port of an adapter
abbrev pub is_same : AdapterPort → AdapterPort → Bool
is_same a b = (a.guid == b.guid) && (a.number == b.number)

-- these ports, if they are of that adapter, report that number of ports
abbrev pub report : List GraphPort → ℕ → ℕ → Bool
report ports guid count = list_all (λ port. not (port.node_guid == guid) || (port.num_ports == count)) ports

-- one of them is that port of an adapter
abbrev pub has : List GraphPort → AdapterPort → Bool
has ports key = list_any (λ port. (port.node_guid == key.guid) && (port.number == key.number)) ports

-- ---- each port agrees with those before it
abbrev pub agree_on : List GraphPort → List GraphPort → Bool
agree_on past [] = true
agree_on past (port ∷ rest) = list_all (λ one. agree one port) past && agree_on (past ++ port ∷ []) rest

all_push : {X : Type 0} (p : X → Bool) (xs : List X) (x : X) → list_all p (xs ++ x ∷ []) ≡ list_all p xs && p x
all_push p [] x = and_true (p x)
all_push p (y ∷ xs) x = ap (λ (b : Bool). p y && b) (all_push p xs x) ∙ assoc (p y)
  where
    assoc : (a : Bool) → a && (list_all p xs && p x) ≡ (a && list_all p xs) && p x
    assoc true = refl
    assoc false = refl

any_push : {X : Type 0} (p : X → Bool) (xs : List X) (x : X) → list_any p (xs ++ x ∷ []) ≡ list_any p xs || p x
any_push p [] x = and_true (p x)
  where
    and_true : (b : Bool) → b || false ≡ b
    and_true true = refl
    and_true false = refl
any_push p (y ∷ xs) x = ap (λ (b : Bool). p y || b) (any_push p xs x) ∙ assoc (p y)
  where
    assoc : (a : Bool) → a || (list_any p xs || p x) ≡ (a || list_any p xs) || p x
    assoc true = refl
    assoc false = refl

four : (a b c d : Bool) → (a && b) && (c && d) ≡ (a && c) && (b && d)
four true true c d = refl
four true false true d = refl
four true false false d = refl
four false b c d = refl

agree_push : (past : List GraphPort) (port : GraphPort) → all_agree (past ++ port ∷ []) ≡ all_agree past && list_all (λ one. agree one port) past
agree_push [] port = refl
agree_push (one ∷ past) port =
    rw (all_push (agree one) past port, agree_push past port)
    (four (list_all (agree one) past) (agree one port) (all_agree past) (list_all (λ one. agree one port) past))

pub agree_whole : (past rest : List GraphPort) → all_agree (past ++ rest) ≡ all_agree past && agree_on past rest
agree_whole past [] = rw (append-nil past) (and_true (all_agree past))
  where
    and_true : (b : Bool) → b ≡ b && true
    and_true true = refl
    and_true false = refl
agree_whole past (port ∷ rest) =
    ap all_agree (sym (append_assoc past (port ∷ []) rest)) ∙ agree_whole (past ++ port ∷ []) rest
    ∙ ap (λ (b : Bool). b && agree_on (past ++ port ∷ []) rest) (agree_push past port)
    ∙ assoc (all_agree past)
  where
    assoc : (a : Bool) → (a && list_all (λ one. agree one port) past) && agree_on (past ++ port ∷ []) rest
        ≡ a && (list_all (λ one. agree one port) past && agree_on (past ++ port ∷ []) rest)
    assoc true = refl
    assoc false = refl

-- ---- it agrees with them if they report its adapter's number of ports, and none is the same port
parts : (a b n x y : Bool) → (not a || (b && not n)) && (x && not y) ≡ ((not a || b) && x) && not ((a && n) || y)
parts false b n x y = refl
parts true false n x y = refl
parts true true true x y = last x
  where
    last : (x : Bool) → false ≡ x && false
    last true = refl
    last false = refl
parts true true false x y = refl

pub agrees : (past : List GraphPort) (port : GraphPort)
    → list_all (λ one. agree one port) past ≡ report past port.node_guid port.num_ports && not (has past (record { guid = port.node_guid; number = port.number }))
agrees [] port = refl
agrees (one ∷ past) port =
    ap (λ (b : Bool). agree one port && b) (agrees past port)
    ∙ parts (one.node_guid == port.node_guid) (one.num_ports == port.num_ports) (one.number == port.number) (report past port.node_guid port.num_ports)
    (has past (record { guid = port.node_guid; number = port.number }))

-- ---- what is reported with one port more
pub report_more : (past : List GraphPort) (port : GraphPort) (old new : ℕ → Option ℕ)
    → ((guid count : ℕ) → report past guid count ≡ is_count count (old guid))
    → ((guid : ℕ) → new guid ≡ cond (port.node_guid == guid) (Some port.num_ports) (old guid))
    → is_count port.num_ports (old port.node_guid) ≡ true
    → (guid count : ℕ) → report (past ++ port ∷ []) guid count ≡ is_count count (new guid)
report_more past port old new was is same guid count =
    all_push (λ one. not (one.node_guid == guid) || (one.num_ports == count)) past port
    ∙ rw (was guid count, is guid) (by (port.node_guid == guid) refl)
  where
    twice : (o : Option ℕ) → is_count port.num_ports o ≡ true → is_count count o && (port.num_ports == count) ≡ port.num_ports == count
    twice None known = refl
    twice (Some k) known = rw ((Decides-eqb k port.num_ports).0 known) (self (port.num_ports == count))
      where
        self : (b : Bool) → b && b ≡ b
        self true = refl
        self false = refl

    and_true : (b : Bool) → b && true ≡ b
    and_true true = refl
    and_true false = refl

    by : (b : Bool) → port.node_guid == guid ≡ b
        → is_count count (old guid) && (not b || (port.num_ports == count)) ≡ is_count count (cond b (Some port.num_ports) (old guid))
    by true at = twice (old guid) (ap (λ (g : ℕ). is_count port.num_ports (old g)) (sym ((Decides-eqb port.node_guid guid).0 at)) ∙ same)
    by false at = and_true (is_count count (old guid))

pub has_more : (past : List GraphPort) (port : GraphPort) (key : AdapterPort) (old new : Bool) → old ≡ has past key
    → new ≡ cond ((port.node_guid == key.guid) && (port.number == key.number)) true old → new ≡ has (past ++ port ∷ []) key
has_more past port key old new was is =
    is ∙ rw was (by ((port.node_guid == key.guid) && (port.number == key.number)))
    ∙ sym (any_push (λ one. (one.node_guid == key.guid) && (one.number == key.number)) past port)
  where
    by : (b : Bool) → cond b true (has past key) ≡ has past key || b
    by true = grind (arith, nat_tests)
    by false = grind (arith, nat_tests)

-- ---- the next port
abbrev pub no_port : GraphPort
no_port = record { node_guid = 0; port_guid = 0; number = 0; num_ports = 0; name = []; at = record { node = 0; port = 0 } }

cut : (ports : List GraphPort) (i : ℕ) (none : GraphPort) → i < length ports
    → agree_on (take i ports) (drop i ports) ≡ list_all (λ one. agree one (get_or ports i none)) (take i ports) && agree_on (take (i + 1) ports) (drop (i + 1) ports)
cut ports i none within =
    let next : suc i ≡ i + 1 = omega arith in
    let shorter : drop i ports ≡ get_or ports i none ∷ drop (i + 1) ports =
    drop-cons ports i none within ∙ ap (λ (n : ℕ). get_or ports i none ∷ drop n ports) next in
    ap (agree_on (take i ports)) shorter
    ∙ ap (λ (some : List GraphPort). list_all (λ one. agree one (get_or ports i none)) (take i ports) && agree_on some (drop (i + 1) ports)) (sym (take_more ports i none within))

pub goes_on : (ports : List GraphPort) (i : ℕ) (none : GraphPort) → i < length ports → all_agree ports ≡ agree_on (take i ports) (drop i ports)
    → list_all (λ one. agree one (get_or ports i none)) (take i ports) ≡ true → all_agree ports ≡ agree_on (take (i + 1) ports) (drop (i + 1) ports)
goes_on ports i none within so_far is = so_far ∙ cut ports i none within ∙ ap (λ (b : Bool). b && agree_on (take (i + 1) ports) (drop (i + 1) ports)) is

pub ends : (ports : List GraphPort) (i : ℕ) (none : GraphPort) → i < length ports → all_agree ports ≡ agree_on (take i ports) (drop i ports)
    → list_all (λ one. agree one (get_or ports i none)) (take i ports) ≡ false → false ≡ all_agree ports
ends ports i none within so_far is = sym (so_far ∙ cut ports i none within ∙ ap (λ (b : Bool). b && agree_on (take (i + 1) ports) (drop (i + 1) ports)) is)

-- whether it agrees, by what was kept of those before it
pub kept_agrees : (past : List GraphPort) (port : GraphPort) (reported : Option ℕ) (contained new : Bool)
    → report past port.node_guid port.num_ports ≡ is_count port.num_ports reported → contained ≡ has past (record { guid = port.node_guid; number = port.number })
    → new ≡ not contained → list_all (λ one. agree one port) past ≡ is_count port.num_ports reported && new
kept_agrees past port reported contained new reports there is = agrees past port ∙ rw (reports, sym there, is) refl
