-- No channel waits, over others, for itself: the numbers rise from one to the next.
use Rattle.std.proofs.Common.{◌≡◌, ℕ, ◌<◌, Bool, true, nat_lt, List, [], ◌∷◌, length, Option, Some, sym, subst, ◌∙◌, arith}
use Rattle.std.specs.List.{list_all}
use Rattle.std.proofs.lemmas.Bool.{and_parts, ltb-true}
use Rattle.updn_routes.specs.declared.link.Link.{Link}
use Rattle.updn_routes.specs.Cabling.{is_cabling, leads, rises}
use Rattle.updn_routes.specs.Choice.{AllChosen}
use Rattle.updn_routes.specs.Order.{IsOrder}
use Rattle.updn_routes.specs.UpDown.{channel_number, channel_numbers}
use Rattle.updn_routes.specs.Waiting.{Channel, WaitsFor, WaitsOver}
use Rattle.updn_routes.proofs.CablingLemmas.{ends, leads_next, leads_there, one_end}
use Rattle.updn_routes.proofs.NumberLemmas.{legal_numbers}
use Rattle.updn_routes.proofs.RouteLemmas.{first_step, route_legal, route_walks, same_port}

module _ (rows : List (List Link)) (before : ℕ → ℕ → Bool) (home : ℕ → Option ℕ) (pick : ℕ → ℕ → ℕ → ℕ) (next : ℕ → ℕ → Option ℕ)
    (cabling : is_cabling rows ≡ true) (order : IsOrder (length rows) before)
    (chosen : (lid d : ℕ) → home lid ≡ Some d → AllChosen rows before (pick lid) (next lid) d) where
  -- a's number is less than b's, by the switches that they lead to
  record Rises (a b : Channel) (t u : ℕ) : Type 0 where
    there : b.from < length rows
    over_a : leads rows a.from a.port t ≡ true
    over_b : leads rows b.from b.port u ≡ true
    less : channel_number before (length rows) a.from t < channel_number before (length rows) b.from u

  waits_rise : (a b : Channel) → a.from < length rows → (w : WaitsFor rows home next a b) → Rises a b b.from w.beyond
  waits_rise a b less w =
      let f = first_step rows (next w.lid) a.from b.from (w.beyond ∷ w.steps) w.target w.route in
      let there = (ends rows a.from b.from cabling less (leads_next rows a.from f.port b.from f.out)).0 in
      let g = first_step rows (next w.lid) b.from w.beyond w.steps w.target f.rest in
      let path = b.from ∷ w.beyond ∷ w.steps in
      let legal = route_legal rows before (pick w.lid) (next w.lid) w.target cabling (chosen w.lid w.target w.there) a.from path less w.route in
      let rising = (legal_numbers rows before cabling order a.from w.target path less (route_walks rows (next w.lid) a.from path w.target w.route) legal).rising in
      let x = channel_number before (length rows) a.from b.from in
      let y = channel_number before (length rows) b.from w.beyond in
      let rest = channel_numbers before (length rows) w.beyond w.steps in
      let one = and_parts (list_all (λ z. nat_lt x z) (y ∷ rest)) (rises (y ∷ rest)) rising in
      record {
        there = there;
        over_a = subst (λ (p : ℕ). leads rows a.from p b.from ≡ true) (same_port f.port a.port (sym f.picked ∙ w.over_a)) f.out;
        over_b = subst (λ (p : ℕ). leads rows b.from p w.beyond ≡ true) (same_port g.port b.port (sym g.picked ∙ w.over_b)) g.out;
        less = ltb-true x y (and_parts (nat_lt x y) (list_all (λ z. nat_lt x z) rest) one.0).0;
      }

  over_rise : (a : Channel) (others : List Channel) (b : Channel) → a.from < length rows
      → WaitsOver rows home next a others b → (t : ℕ) × (u : ℕ) × Rises a b t u
  over_rise a [] b less w = (b.from, w.beyond, waits_rise a b less w)
  over_rise a (c ∷ others) b less w =
      let one = waits_rise a c less w.0 in
      let more : (t : ℕ) × (u : ℕ) × Rises c b t u = over_rise c others b one.there w.1 in
      let rest = more.2 in
      let same = one_end rows c.from c.port w.0.beyond more.0 cabling one.there one.over_b rest.over_a in
      let near : channel_number before (length rows) a.from c.from < channel_number before (length rows) c.from more.0 =
      subst (λ (v : ℕ). channel_number before (length rows) a.from c.from < channel_number before (length rows) c.from v) same one.less in
      let far = rest.less in
      (c.from, more.1, record { there = rest.there; over_a = one.over_a; over_b = rest.over_b; less = omega (arith, near, far) })

  -- a channel that waits leaves a switch
  waits_there : (a b : Channel) → WaitsFor rows home next a b → a.from < length rows
  waits_there a b w =
      let f = first_step rows (next w.lid) a.from b.from (w.beyond ∷ w.steps) w.target w.route in
      leads_there rows a.from f.port b.from f.out

  over_there : (a : Channel) (others : List Channel) (b : Channel) → WaitsOver rows home next a others b
      → a.from < length rows
  over_there a [] b w = waits_there a b w
  over_there a (c ∷ others) b w = waits_there a c w.0

  pub no_cycle : (a : Channel) (others : List Channel) → ¬ (WaitsOver rows home next a others a)
  no_cycle a others w =
      let less = over_there a others a w in
      let round : (t : ℕ) × (u : ℕ) × Rises a a t u = over_rise a others a less w in
      let same = one_end rows a.from a.port round.0 round.1 cabling less round.2.over_a round.2.over_b in
      let rise : channel_number before (length rows) a.from round.1 < channel_number before (length rows) a.from round.1 =
      subst (λ (v : ℕ). channel_number before (length rows) a.from v < channel_number before (length rows) a.from round.1) same round.2.less in
      omega (arith, rise)
