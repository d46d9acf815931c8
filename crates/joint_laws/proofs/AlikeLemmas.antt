-- Dumps with the same entries and the same end ports have the same loads.
use Rattle.std.proofs.Common.{ℕ, zero, suc, ◌≡◌, ◌∙◌, ap, ap₂, refl, subst, sym, ◌+◌, Bool, true, false, ◌==◌, ◌&&◌, List, [], ◌∷◌, ◌++◌, flat_map, length, map, Option, Some, None}
use Rattle.std.specs.List.{AllByRecursion, range_with_len}
use Rattle.std.proofs.lemmas.Option.{none-some, same_Some}
use Rattle.dump_file.specs.Dump.{DumpState}
use Rattle.fabric_parts.specs.declared.cable.PortRef.{PortRef}
use Rattle.topo_file.specs.Node.{is_switch_at}
use Rattle.audit_net.proofs.EndlessLemmas.{turn_goes}
use Rattle.audit_net.specs.declared.entry.Entry.{Entry}
use Rattle.audit_net.specs.declared.entry.Entry.TheVariants.{Out, Missing, Unreported}
use Rattle.audit_net.specs.declared.following.Fate.TheVariants as fates
use Rattle.audit_net.specs.declared.following.Turn.{Turn}
use Rattle.audit_net.specs.declared.following.Turn.TheVariants as turns
use Rattle.audit_loops.specs.Channels.{channels, is_out, leaves_by}
use Rattle.audit_net.specs.Following.{end_within, fate_by, switch_total, then_end, turn, turn_by}
use Rattle.audit_net.specs.OwnerLaws.{end_port_of}
use Rattle.audit_net.specs.Lids.{aims}
use Rattle.audit_net.specs.Net.{NetState, entry}
use Rattle.audit_routes.specs.Pairs.{is_fate}
use Rattle.audit_plan.specs.Plan.{PlanState, is_on}
use Rattle.audit_loads.specs.Counts.{counts_of}
use Rattle.audit_plan.specs.declared.levels.TheConstants.{LEVELS}
use Rattle.audit_loads.specs.declared.loaded.Loaded.{Loaded}
use Rattle.audit_loads.specs.Loads.{loaded, loads}
use Rattle.audit_loads.specs.Order.{ordered}
use Rattle.audit_loads.specs.Sources.{Pair, pairs_by}
use Rattle.audit_loads.specs.Text.{levels_text, level_text, load_line, load_of_plan, load_text_of, pairs_line, summary, text_by, text_of}
use Rattle.audit_net.specs.Ways.{then_on, way, way_within}
use Rattle.audit_routes.specs.Verdict.{is_lost_by}
use Rattle.audit_loads.specs.Ways.{fate_of, goes_over, is_lost, is_unknown, passes}
use Rattle.audit_net.proofs.WayLemmas.{stays_in}
use Rattle.joint_laws.specs.Alike.{AreAlike, net_of}
use Rattle.joint_laws.specs.LoadLaws.{LoadsAreOfEntries}
use Rattle.joint_laws.proofs.PairLemmas.{GoesToHost, all_go_to_hosts, count_same, pairs_same}

-- ---- the port that an entry names
abbrev pub named_port : Entry → Option ℕ
named_port (Out number) = Some number
named_port Missing = None
named_port Unreported = None

-- what is forwarded is forwarded by the same ports
pub record ForwardAlike (plan : PlanState) (dump other : DumpState) : Type 0 where
  pub ports : (lid place : ℕ) → is_switch_at plan.nodes place ≡ true
      → named_port (entry (net_of plan dump) lid place) ≡ named_port (entry (net_of plan other) lid place)

out_same : (number : ℕ) (a b : Entry) → named_port a ≡ named_port b → is_out number a ≡ is_out number b
out_same number (Out n) (Out m) same = ap (λ (k : ℕ). k == number) (same_Some n m same)
out_same number (Out n) Missing same = absurd (none-some n (sym same))
out_same number (Out n) Unreported same = absurd (none-some n (sym same))
out_same number Missing (Out m) same = absurd (none-some m same)
out_same number Missing Missing same = refl
out_same number Missing Unreported same = refl
out_same number Unreported (Out m) same = absurd (none-some m same)
out_same number Unreported Missing same = refl
out_same number Unreported Unreported same = refl

on_same : (net : NetState) (rest : ℕ → List ℕ) (place : ℕ) (a b : Entry) → named_port a ≡ named_port b
    → then_on rest (turn_by net place a) ≡ then_on rest (turn_by net place b)
on_same net rest place (Out n) (Out m) same = ap (λ (k : ℕ). then_on rest (turn_by net place (Out k))) (same_Some n m same)
on_same net rest place (Out n) Missing same = absurd (none-some n (sym same))
on_same net rest place (Out n) Unreported same = absurd (none-some n (sym same))
on_same net rest place Missing (Out m) same = absurd (none-some m same)
on_same net rest place Missing Missing same = refl
on_same net rest place Missing Unreported same = refl
on_same net rest place Unreported (Out m) same = absurd (none-some m same)
on_same net rest place Unreported Missing same = refl
on_same net rest place Unreported Unreported same = refl

goes_same : (one other : ℕ → List ℕ) (turned : Turn) → ((next : ℕ) → turned ≡ turns.Goes next → one next ≡ other next)
    → then_on one turned ≡ then_on other turned
goes_same one other (turns.Goes next) same = same next refl
goes_same one other (turns.Arrives there) same = refl
goes_same one other turns.Hole same = refl
goes_same one other (turns.Nowhere number) same = refl
goes_same one other turns.Unknown same = refl

map_same : {X Y : Type 0} (f g : X → Y) → ((x : X) → f x ≡ g x) → (xs : List X) → map f xs ≡ map g xs
map_same f g same [] = refl
map_same f g same (x ∷ xs) = ap (λ (y : _). y ∷ map f xs) (same x) ∙ ap (λ (ys : List _). g x ∷ ys) (map_same f g same xs)

-- ---- what no dump decides
module _ (plan : PlanState) (dump other : DumpState) where
  abbrev one : NetState
  one = net_of plan dump

  abbrev two : NetState
  two = net_of plan other

  levels_same : (all : List Loaded) (levels : List ℕ) → flat_map (level_text one all) levels ≡ flat_map (level_text two all) levels
  unfolding level_text
  levels_same all levels = refl

  lines_same : (all : List Loaded) → flat_map (load_line one) all ≡ flat_map (load_line two) all
  unfolding load_line
  lines_same [] = refl
  lines_same (x ∷ xs) = ap (λ (rest : List ℕ). load_line one x ++ rest) (lines_same xs)

  -- so the loads and the counts decide the text
  text_same : (all : List Loaded) (pairs : List Pair) → text_of one all (counts_of two pairs) ≡ text_of two all (counts_of two pairs)
  unfolding text_of
  text_same all pairs =
      ap (λ (first : List ℕ). first ++ summary all ++ levels_text one all ++ pairs_line (counts_of two pairs)) (lines_same (ordered all))
      ∙ ap (λ (levels : List ℕ). flat_map (load_line two) (ordered all) ++ summary all ++ levels ++ pairs_line (counts_of two pairs))
      (levels_same all (range_with_len 0 LEVELS))

  -- ---- ways
  module _ (alike : ForwardAlike plan dump other) where
    ways_same : (lid count place : ℕ) → is_switch_at plan.nodes place ≡ true → way_within one lid count place ≡ way_within two lid count place
    ways_same lid zero place switch = refl
    ways_same lid (suc count) place switch =
        ap (λ (rest : List ℕ). place ∷ rest)
        (goes_same (λ next. way_within one lid count next) (λ next. way_within two lid count next) (turn one lid place)
        (λ next goes. ways_same lid count next (turn_goes one lid place next goes))
        ∙ on_same one (λ next. way_within two lid count next) place (entry one lid place) (entry two lid place) (alike.ports lid place switch))

    passes_same : (lid place : ℕ) (at : PortRef) → is_switch_at plan.nodes place ≡ true → passes one lid place at ≡ passes two lid place at
    passes_same lid place at switch =
        ap (λ (places : List ℕ). is_on at.node places && leaves_by one at lid) (ways_same lid (switch_total one) place switch)
        ∙ by (is_on at.node (way two lid place)) refl
      where
        by : (b : Bool) → is_on at.node (way two lid place) ≡ b
            → (is_on at.node (way two lid place) && leaves_by one at lid) ≡ (is_on at.node (way two lid place) && leaves_by two at lid)
        by false off = rw off refl
        by true on =
            let there = stays_in two lid (is_switch_at plan.nodes) (λ p n _ goes. turn_goes two lid p n goes) (switch_total two) place at.node switch on in
            ap (λ (b : Bool). is_on at.node (way two lid place) && b)
            (out_same at.port (entry one lid at.node) (entry two lid at.node) (alike.ports lid at.node there))

    loads_same : (pairs : List Pair) → AllByRecursion (GoesToHost two) pairs → loads one pairs ≡ loads two pairs
    loads_same pairs all =
        map_same (loaded one pairs) (loaded two pairs)
        (λ at. ap (λ (n : ℕ). record { load = n; at = at })
        (count_same (GoesToHost two) (goes_over one at) (goes_over two at) (λ pair goes. passes_same pair.lid pair.place at goes.carries.switch) pairs all))
        (channels two)

    -- dumps that forward alike print the same if the same pairs are lost
    pub printed_same : (talk : PortRef → PortRef → Bool) → ((lid : ℕ) → end_port_of one lid ≡ end_port_of two lid)
        → ((pairs : List Pair) → AllByRecursion (GoesToHost one) pairs → AllByRecursion (GoesToHost two) pairs → counts_of one pairs ≡ counts_of two pairs)
        → load_of_plan plan dump talk ≡ load_of_plan plan other talk
    unfolding load_text_of text_by
    printed_same talk ends counted =
        let here = pairs_by one talk (aims one) in
        let there = pairs_by two talk (aims two) in
        let same : here ≡ there = pairs_same plan dump other talk ends in
        let hosts : AllByRecursion (GoesToHost one) there = subst (AllByRecursion (GoesToHost one)) same (all_go_to_hosts one talk) in
        let too : AllByRecursion (GoesToHost two) there = all_go_to_hosts two talk in
        ap (λ (pairs : List Pair). text_of one (loads one pairs) (counts_of one pairs)) same
        ∙ ap (λ (all : List Loaded). text_of one all (counts_of one there)) (loads_same there too)
        ∙ ap (λ (counts : _). text_of one (loads two there) counts) (counted there hosts too)
        ∙ text_same (loads two there) there

  -- ---- where entries are the same, so are fates
  module _ (alike : AreAlike plan dump other) where
    turn_same : (lid place : ℕ) → is_switch_at plan.nodes place ≡ true → turn one lid place ≡ turn two lid place
    turn_same lid place switch = ap (λ (e : Entry). turn_by one place e) (alike.entries lid place switch)

    end_by_turn : (f g : ℕ → Option Turn) (turned : Turn) → ((next : ℕ) → turned ≡ turns.Goes next → f next ≡ g next) → then_end f turned ≡ then_end g turned
    end_by_turn f g (turns.Goes next) same = same next refl
    end_by_turn f g (turns.Arrives there) same = refl
    end_by_turn f g turns.Hole same = refl
    end_by_turn f g (turns.Nowhere number) same = refl
    end_by_turn f g turns.Unknown same = refl

    end_same : (lid count place : ℕ) → is_switch_at plan.nodes place ≡ true → end_within one lid count place ≡ end_within two lid count place
    end_same lid zero place switch = refl
    end_same lid (suc count) place switch =
        end_by_turn (λ next. end_within one lid count next) (λ next. end_within two lid count next) (turn one lid place)
        (λ next goes. end_same lid count next (turn_goes one lid place next goes))
        ∙ ap (then_end (λ next. end_within two lid count next)) (turn_same lid place switch)

    fate_same : (pair : Pair) → is_switch_at plan.nodes pair.place ≡ true → fate_of one pair ≡ fate_of two pair
    fate_same pair switch = ap (fate_by pair.end) (end_same pair.lid (switch_total one) pair.place switch)

    counts_same : (pairs : List Pair) → AllByRecursion (GoesToHost two) pairs → counts_of one pairs ≡ counts_of two pairs
    counts_same pairs all =
        ap₂ (λ (lost unknown : ℕ). record { pairs = length pairs; lost = lost; unknown = unknown })
        (count_same (GoesToHost two) (is_lost one) (is_lost two) (λ pair goes. ap is_lost_by (fate_same pair goes.carries.switch)) pairs all)
        (count_same (GoesToHost two) (is_unknown one) (is_unknown two) (λ pair goes. ap (is_fate fates.Unknown) (fate_same pair goes.carries.switch)) pairs all)

    pub alike_same : (talk : PortRef → PortRef → Bool) → load_of_plan plan dump talk ≡ load_of_plan plan other talk
    alike_same talk =
        printed_same (record { ports = λ lid place switch. ap named_port (alike.entries lid place switch) }) talk alike.ends
        (λ pairs _ all. counts_same pairs all)

pub loads_are_of_entries : LoadsAreOfEntries
loads_are_of_entries plan dump other talk alike = alike_same plan dump other alike talk
