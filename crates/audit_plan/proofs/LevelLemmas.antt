-- Rounds of marks are distances.
use Rattle.std.proofs.Common.{ℕ, zero, suc, ◌≡◌, ◌∙◌, ◌+◌, ◌-◌, ◌<◌, ◌≤◌, ◌==◌, ◌&&◌, ◌||◌, ap, inl, inr, refl, sym, Bool, true, false, cond, not, List, [], ◌∷◌, count_by, get_or, length, map, Option, Some, None, arith}
use Rattle.std.specs.List.{list_any, range_with_len}
use Rattle.std.specs.Option.{option_map_or}
use Rattle.std.proofs.lemmas.Bool.{and_from, and_parts, cases_Bool, cases_lt, eqb-true, false≢true, or_left, or_right}
use Rattle.std.proofs.lemmas.List.Sums.{sum_by-cons}
use Rattle.std.proofs.lemmas.Option.{slice_get_past}
use Rattle.step_results.proofs.ListLemmas.{list_any_weaker}
use Rattle.fabric_parts.specs.Cable.{far_end, port}
use Rattle.fabric_parts.specs.declared.cable.PortRef.{PortRef}
use Rattle.topo_file.specs.Node.{is_switch_at, ports_at}
use Rattle.topo_file.specs.Rounds.{is_marked}
use Rattle.topo_file.specs.declared.node.Node.{Node}
use Rattle.audit_plan.specs.Attached.{leads_to_host}
use Rattle.audit_plan.specs.Levels.{is_near, is_next, leads_near, level_at, level_by, level_of, levels_of, marks_of, rounds_of, some_lead}
use Rattle.audit_plan.specs.Laws.{LeadsToHost, LevelsAreDistances}
use Rattle.audit_plan.specs.Plan.{PlanState}
use Rattle.audit_plan.proofs.PlaceLemmas.{in_range}

-- ---- a node that is not there is not near
no_ports : (plan : PlanState) (place : ℕ) → length plan.nodes ≤ place → ports_at plan.nodes place ≡ 0
no_ports plan place past = ap (λ (o : Option Node). option_map_or (λ node. node.ports) o 0) (slice_get_past plan.nodes place past)

not_near : (plan : PlanState) (count place : ℕ) → length plan.nodes ≤ place → is_near plan count place ≡ false
not_near plan zero place past = ap (λ (n : ℕ). list_any (leads_to_host plan) (map (port place) (range_with_len 1 n))) (no_ports plan place past)
not_near plan (suc count) place past =
    ap (λ (b : Bool). b || some_lead plan (is_near plan count) place) (not_near plan count place past)
    ∙ ap (λ (n : ℕ). list_any (leads_near plan (is_near plan count) place) (range_with_len 0 n)) (no_ports plan place past)

-- ---- so marks say of each whether it is
mark_there : (f : ℕ → Bool) (low many place : ℕ) → place < many → is_marked (map f (range_with_len low many)) place ≡ f (low + place)
mark_there f low zero place less = absurd (omega (arith, less))
mark_there f low (suc many) zero less = let here : low ≡ low + 0 = omega arith in ap f here
mark_there f low (suc many) (suc place) less =
    let there : low + 1 + place ≡ low + suc place = omega arith in
    mark_there f (low + 1) many place (omega (arith, less)) ∙ ap f there

mark_past : (f : ℕ → Bool) (low many place : ℕ) → many ≤ place → is_marked (map f (range_with_len low many)) place ≡ false
mark_past f low zero place past = refl
mark_past f low (suc many) zero past = absurd (omega (arith, past))
mark_past f low (suc many) (suc place) past = mark_past f (low + 1) many place (omega (arith, past))

pub marks_say : (plan : PlanState) (count place : ℕ) → is_marked (marks_of plan count) place ≡ is_near plan count place
marks_say plan count place = elim (cases_lt place (length plan.nodes)) [
  | inl less ↦
      let from_0 : 0 + place ≡ place = omega arith in
      mark_there (is_near plan count) 0 (length plan.nodes) place less ∙ ap (is_near plan count) from_0
  | inr past ↦ mark_past (is_near plan count) 0 (length plan.nodes) place past ∙ sym (not_near plan count place past)
]

-- ---- ports that are left
abbrev pub some_left : (ℕ → Bool) → (number ports : ℕ) → Bool
some_left test number ports = list_any test (range_with_len number (ports - number))

pub next_left : (test : ℕ → Bool) (number ports : ℕ) → number < ports → some_left test number ports ≡ (test number || some_left test (number + 1) ports)
next_left test number ports less =
    let one : ports - number ≡ suc (ports - (number + 1)) = omega (arith, less) in
    rw one refl

-- ---- one round more
leads_alike : (plan : PlanState) (f g : ℕ → Bool) (place before : ℕ) → ((next : ℕ) → f next ≡ g next) → leads_near plan f place before ≡ leads_near plan g place before
leads_alike plan f g place before same = by (far_end plan.cables (port place (before + 1)))
  where
    by : (there : Option PortRef) → option_map_or (λ one. is_switch_at plan.nodes one.node && f one.node) there false
        ≡ option_map_or (λ one. is_switch_at plan.nodes one.node && g one.node) there false
    by (Some one) = ap (λ (b : Bool). is_switch_at plan.nodes one.node && b) (same one.node)
    by None = refl

any_alike : (p q : ℕ → Bool) → ((n : ℕ) → p n ≡ q n) → (ns : List ℕ) → list_any p ns ≡ list_any q ns
any_alike p q same [] = refl
any_alike p q same (n ∷ ns) = ap (λ (b : Bool). b || list_any p ns) (same n) ∙ ap (λ (b : Bool). q n || b) (any_alike p q same ns)

next_near : (plan : PlanState) (count place : ℕ) → is_next plan (marks_of plan count) place ≡ is_near plan (suc count) place
next_near plan count place =
    ap (λ (b : Bool). b || some_lead plan (is_marked (marks_of plan count)) place) (marks_say plan count place)
    ∙ ap (λ (b : Bool). is_near plan count place || b)
    (any_alike (leads_near plan (is_marked (marks_of plan count)) place) (leads_near plan (is_near plan count) place)
    (λ before. leads_alike plan (is_marked (marks_of plan count)) (is_near plan count) place before (marks_say plan count))
    (range_with_len 0 (ports_at plan.nodes place)))

map_alike : (f g : ℕ → Bool) → ((n : ℕ) → f n ≡ g n) → (ns : List ℕ) → map f ns ≡ map g ns
map_alike f g same [] = refl
map_alike f g same (n ∷ ns) = ap (λ (b : Bool). b ∷ map f ns) (same n) ∙ ap (λ (rest : List Bool). g n ∷ rest) (map_alike f g same ns)

pub next_marks_are : (plan : PlanState) (count : ℕ) (marks next : List Bool) → marks ≡ marks_of plan count
    → next ≡ map (is_next plan marks) (range_with_len 0 (length plan.nodes)) → next ≡ marks_of plan (count + 1)
next_marks_are plan count marks next is next_is =
    let more : suc count ≡ count + 1 = omega arith in
    next_is ∙ ap (λ (m : List Bool). map (is_next plan m) (range_with_len 0 (length plan.nodes))) is
    ∙ map_alike (is_next plan (marks_of plan count)) (is_near plan (suc count)) (next_near plan count) (range_with_len 0 (length plan.nodes))
    ∙ ap (marks_of plan) more

-- ---- the level
level_same : (plan : PlanState) (place : ℕ) (counts : List ℕ) → level_by (map (marks_of plan) counts) place ≡ count_by (λ count. not (is_near plan count place)) counts
level_same plan place [] = refl
level_same plan place (count ∷ counts) =
    sum_by-cons (λ marks. cond (not (is_marked marks place)) 1 0) (marks_of plan count) (map (marks_of plan) counts)
    ∙ ap (λ (b : Bool). cond (not b) 1 0 + level_by (map (marks_of plan) counts) place) (marks_say plan count place)
    ∙ ap (λ (n : ℕ). cond (not (is_near plan count place)) 1 0 + n) (level_same plan place counts)
    ∙ sym (sum_by-cons (λ n. cond (not (is_near plan n place)) 1 0) count counts)

all_far : (test : ℕ → Bool) (low many : ℕ) → ((k : ℕ) → test k ≡ false) → count_by (λ k. not (test k)) (range_with_len low many) ≡ many
all_far test low zero far = refl
all_far test low (suc many) far =
    let rest = all_far test (low + 1) many far in
    let one : ◌≡◌ {A = ℕ} (cond (not (test low)) 1 0) 1 = ap (λ (b : Bool). cond (not b) 1 0) (far low) in
    let whole = sum_by-cons (λ k. cond (not (test k)) 1 0) low (range_with_len (low + 1) many) in
    omega (arith, rest, one, whole)

level_there : (f : ℕ → ℕ) (low many place none : ℕ) → place < many → get_or (map f (range_with_len low many)) place none ≡ f (low + place)
level_there f low zero place none less = absurd (omega (arith, less))
level_there f low (suc many) zero none less = let here : low ≡ low + 0 = omega arith in ap f here
level_there f low (suc many) (suc place) none less =
    let there : low + 1 + place ≡ low + suc place = omega arith in
    level_there f (low + 1) many place none (omega (arith, less)) ∙ ap f there

level_past : (f : ℕ → ℕ) (low many place none : ℕ) → many ≤ place → get_or (map f (range_with_len low many)) place none ≡ none
level_past f low zero place none past = refl
level_past f low (suc many) zero none past = absurd (omega (arith, past))
level_past f low (suc many) (suc place) none past = level_past f (low + 1) many place none (omega (arith, past))

pub levels_say : (plan : PlanState) (place : ℕ) → level_at (levels_of plan) place ≡ level_of plan place
levels_say plan place = elim (cases_lt place (length plan.nodes)) [
  | inl less ↦
      let from_0 : 0 + place ≡ place = omega arith in
      level_there (level_of plan) 0 (length plan.nodes) place 16 less ∙ ap (level_of plan) from_0
  | inr past ↦
      level_past (level_of plan) 0 (length plan.nodes) place 16 past
      ∙ sym (all_far (λ k. is_near plan k place) 0 16 (λ k. not_near plan k place past))
]

map_levels : (f g : ℕ → ℕ) → ((n : ℕ) → f n ≡ g n) → (ns : List ℕ) → map f ns ≡ map g ns
map_levels f g same [] = refl
map_levels f g same (n ∷ ns) = ap (λ (b : ℕ). b ∷ map f ns) (same n) ∙ ap (λ (rest : List ℕ). g n ∷ rest) (map_levels f g same ns)

pub levels_by_rounds : (plan : PlanState) (rounds : List (List Bool)) (levels : List ℕ) (count : ℕ) → rounds ≡ rounds_of plan → count ≡ length plan.nodes
    → levels ≡ map (level_by rounds) (range_with_len 0 count) → levels ≡ levels_of plan
levels_by_rounds plan rounds levels count is all levels_are_by =
    levels_are_by ∙ ap (λ (r : List (List Bool)). map (level_by r) (range_with_len 0 count)) is
    ∙ ap (λ (n : ℕ). map (level_by (rounds_of plan)) (range_with_len 0 n)) all
    ∙ map_levels (level_by (rounds_of plan)) (level_of plan) (λ place. level_same plan place (range_with_len 0 16)) (range_with_len 0 (length plan.nodes))

-- ---- what is near over so many links is so over more
nearer : (plan : PlanState) (place count more : ℕ) → is_near plan count place ≡ true → is_near plan (count + more) place ≡ true
nearer plan place count zero near = let same : count + 0 ≡ count = omega arith in ap (λ (n : ℕ). is_near plan n place) same ∙ near
nearer plan place count (suc more) near =
    let same : count + suc more ≡ suc (count + more) = omega arith in
    ap (λ (n : ℕ). is_near plan n place) same ∙ or_left (is_near plan (count + more) place) _ (nearer plan place count more near)

-- ---- ways
near_by : (plan : PlanState) (place : ℕ) (over : List ℕ) → LeadsToHost plan place over → is_near plan (length over) place ≡ true
near_by plan place [] leads = leads
near_by plan place (before ∷ rest) leads =
    let near = is_near plan (length rest) in
    let next = near_by plan leads.0.node rest leads.4 in
    let here : leads_near plan near place before ≡ true =
    ap (λ (there : Option PortRef). option_map_or (λ one. is_switch_at plan.nodes one.node && near one.node) there false) leads.2
    ∙ and_from (is_switch_at plan.nodes leads.0.node) (near leads.0.node) leads.3 next in
    or_right (near place) _
    (list_any_weaker (λ n. n == before) (leads_near plan near place)
    (λ n same. ap (leads_near plan near place) (eqb-true n before same) ∙ here) (range_with_len 0 (ports_at plan.nodes place))
    (in_range before 0 (ports_at plan.nodes place) (omega arith) (let low = leads.1 in omega (arith, low))))

-- a port that leads there
record Leads (plan : PlanState) (near : ℕ → Bool) (place low many : ℕ) : Type 0 where
  before : ℕ
  less : before < low + many
  there : PortRef
  cable : far_end plan.cables (port place (before + 1)) ≡ Some there
  switch : is_switch_at plan.nodes there.node ≡ true
  is : near there.node ≡ true

leads_over : (plan : PlanState) (near : ℕ → Bool) (place low many : ℕ) (there : Option PortRef) → low < low + many
    → far_end plan.cables (port place (low + 1)) ≡ there → option_map_or (λ one. is_switch_at plan.nodes one.node && near one.node) there false ≡ true
    → Leads plan near place low many
leads_over plan near place low many (Some there) less is near_is =
    let parts = and_parts (is_switch_at plan.nodes there.node) (near there.node) near_is in
    record { before = low; less = less; there = there; cable = is; switch = parts.0; is = parts.1 }
leads_over plan near place low many None less is near_is = absurd (false≢true near_is)

leading : (plan : PlanState) (near : ℕ → Bool) (place low many : ℕ) → list_any (leads_near plan near place) (range_with_len low many) ≡ true → Leads plan near place low many
leading plan near place low zero some = absurd (false≢true some)
leading plan near place low (suc many) some = elim (cases_Bool (leads_near plan near place low)) [
  | inl here ↦ leads_over plan near place low (suc many) (far_end plan.cables (port place (low + 1))) (omega arith) refl here
  | inr other ↦
      let later = leading plan near place (low + 1) many (rw other at some) in
      let less = later.less in
      record { before = later.before; less = omega (arith, less); there = later.there; cable = later.cable; switch = later.switch; is = later.is }
]

way_of : (plan : PlanState) (count place : ℕ) → is_near plan count place ≡ true → (over : List ℕ) × (length over ≤ count) × LeadsToHost plan place over
way_of plan zero place near = ([], omega arith, near)
way_of plan (suc count) place near = elim (cases_Bool (is_near plan count place)) [
  | inl before ↦ let way = way_of plan count place before in (way.0, (let short = way.1 in omega (arith, short)), way.2)
  | inr apart ↦
      let one = leading plan (is_near plan count) place 0 (ports_at plan.nodes place) (rw apart at near) in
      let rest = way_of plan count one.there.node one.is in
      let less = one.less in (
        one.before ∷ rest.0,
        (let short = rest.1 in omega (arith, short)),
        (one.there, omega (arith, less), one.cable, one.switch, rest.2),
      )
]

-- ---- counts of the numbers that are too few
few : (test : ℕ → Bool) (low many bound : ℕ) → ((k : ℕ) → bound ≤ k → test k ≡ true) → count_by (λ k. not (test k)) (range_with_len low many) ≤ bound - low
few test low zero bound after = omega arith
few test low (suc many) bound after = elim (cases_lt low bound) [
  | inl less ↦
      let rest = few test (low + 1) many bound after in
      let one : cond (not (test low)) 1 0 ≤ 1 = at_most (test low) in
      let whole = sum_by-cons (λ k. cond (not (test k)) 1 0) low (range_with_len (low + 1) many) in
      omega (arith, rest, one, whole, less)
  | inr past ↦
      let rest = few test (low + 1) many bound after in
      let none : ◌≡◌ {A = ℕ} (cond (not (test low)) 1 0) 0 = ap (λ (b : Bool). cond (not b) 1 0) (after low past) in
      let whole = sum_by-cons (λ k. cond (not (test k)) 1 0) low (range_with_len (low + 1) many) in
      omega (arith, rest, none, whole, past)
]
  where
    at_most : (b : Bool) → cond (not b) 1 0 ≤ 1
    at_most true = omega arith
    at_most false = omega arith

many_not : (test : ℕ → Bool) (low many bound : ℕ) → bound ≤ low + many → ((k : ℕ) → k < bound → test k ≡ false) → bound - low ≤ count_by (λ k. not (test k)) (range_with_len low many)
many_not test low zero bound most before = omega (arith, most)
many_not test low (suc many) bound most before = elim (cases_lt low bound) [
  | inl less ↦
      let rest = many_not test (low + 1) many bound (omega (arith, most)) before in
      let one : ◌≡◌ {A = ℕ} (cond (not (test low)) 1 0) 1 = ap (λ (b : Bool). cond (not b) 1 0) (before low less) in
      let whole = sum_by-cons (λ k. cond (not (test k)) 1 0) low (range_with_len (low + 1) many) in
      omega (arith, rest, one, whole, less)
  | inr past ↦ omega (arith, past)
]

-- ---- so the level is the least number of links
not_before : (plan : PlanState) (place count : ℕ) → is_near plan count place ≡ false → (k : ℕ) → k < count + 1 → is_near plan k place ≡ false
not_before plan place count far k less = elim (cases_Bool (is_near plan k place)) [
  | inr other ↦ other
  | inl near ↦
      let more : k + (count - k) ≡ count = omega (arith, less) in
      absurd (false≢true (sym far ∙ (ap (λ (n : ℕ). is_near plan n place) (sym more) ∙ nearer plan place k (count - k) near)))
]

pub at_most_by : (plan : PlanState) (place count : ℕ) → is_near plan count place ≡ true → level_of plan place ≤ count
at_most_by plan place count near =
    let most = few (λ k. is_near plan k place) 0 16 count
    (λ k above. let more : count + (k - count) ≡ k = omega (arith, above) in ap (λ (n : ℕ). is_near plan n place) (sym more) ∙ nearer plan place count (k - count) near) in
    omega (arith, most)

pub near_at : (plan : PlanState) (place : ℕ) → level_of plan place < 16 → is_near plan (level_of plan place) place ≡ true
near_at plan place low = elim (cases_Bool (is_near plan (level_of plan place) place)) [
  | inl near ↦ near
  | inr far ↦
      let least = many_not (λ k. is_near plan k place) 0 16 (level_of plan place + 1) (omega (arith, low)) (not_before plan place (level_of plan place) far) in
      absurd (omega (arith, least))
]

pub levels_are_distances : LevelsAreDistances
levels_are_distances = record {
  least = λ plan place over leads short. at_most_by plan place (length over) (near_by plan place over leads);
  there = λ plan place low.
      let way = way_of plan (level_of plan place) place (near_at plan place low) in
      let short = way.1 in
      let least = at_most_by plan place (length way.0) (near_by plan place way.0 way.2) in (way.0, omega (arith, short, least), way.2);
}
