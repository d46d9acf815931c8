-- The search for the ports where a packet to a multicast LID comes in.
use Rattle.std.proofs.Common.{ℕ, zero, suc, ◌+◌, ◌*◌, ◌^◌, ◌≡◌, ◌<◌, ◌≤◌, ◌==◌, ◌∙◌, ◌⊎◌, inl, inr, ap, refl, sym, subst, ◌||◌, Bool, true, false, List, [], ◌∷◌, ◌++◌, length, take, flat_map, slice_get, get_or, Some, None, arith}
use Rattle.std.specs.List.{IsDistinct, list_any}
use Rattle.std.proofs.lemmas.Bool.{cases_Bool, cases_lt, eqb-true, or_cases}
use Rattle.std.proofs.lemmas.Bool.Decides.{nat_tests}
use Rattle.std.specs.Int.{bit_at}
use Rattle.std.proofs.lemmas.Nat.Bits.{bit_at-zero, bit_at_above}
use Rattle.std.proofs.lemmas.List.{append-nil, append_assoc, take-append-le}
use Rattle.std.proofs.lemmas.List.Folds.{list_any-append, list_any_at, list_any_more}
use Rattle.std.proofs.lemmas.Map.Made.{length-le_from_is_member}
use Rattle.std.proofs.lemmas.Option.{get_or_from_slice_get, none-some, same_Some, slice_get_cases, slice_get_within}
use Rattle.data_packet.specs.declared.packet.Packet.{Packet}
use Rattle.fabric_parts.specs.Cable.{far_end, is_same_port}
use Rattle.fabric_parts.specs.declared.cable.Cable.{Cable}
use Rattle.fabric_parts.specs.declared.cable.PortRef.{PortRef}
use Rattle.smp_wire.proofs.CableLemmas.{count_ends, far_is_end, itself, ports_equiv, same_port}
use Rattle.smp_wire.specs.Good.{ends_of}
use Rattle.smp_wire.specs.declared.node.Node.{Node}
use Rattle.indexmap.specs.IndexSet.{insert_key}
use Rattle.smp_wire.specs.Deliveries.{Goes, Passes, sends_at}
use Rattle.smp_wire.proofs.WayLemmas.{one_more}
use Rattle.fabric_wire.specs.Spreading.{AreReached, IsGrown, has_port}

either : (a b : Bool) → (a ≡ true) ⊎ (b ≡ true) → (a || b) ≡ true
either true b is = refl
either false b (inr is) = is
either false b (inl is) = absurd (cc)

pub in_either : (xs ys : List PortRef) (at : PortRef) → has_port (xs ++ ys) at → has_port xs at ⊎ has_port ys at
in_either xs ys at there = or_cases (list_any (is_same_port at) xs) (list_any (is_same_port at) ys) (sym (list_any-append (is_same_port at) xs ys) ∙ there)

pub in_first : (xs ys : List PortRef) (at : PortRef) → has_port xs at → has_port (xs ++ ys) at
in_first xs ys at there = list_any-append (is_same_port at) xs ys ∙ either (list_any (is_same_port at) xs) (list_any (is_same_port at) ys) (inl there)

pub in_last : (xs ys : List PortRef) (at : PortRef) → has_port ys at → has_port (xs ++ ys) at
in_last xs ys at there = list_any-append (is_same_port at) xs ys ∙ either (list_any (is_same_port at) xs) (list_any (is_same_port at) ys) (inr there)

pub at_place : (xs : List PortRef) (place : ℕ) (at : PortRef) → slice_get xs place ≡ Some at → has_port xs at
at_place xs place at is =
    list_any_at (is_same_port at) xs place at (slice_get_within xs place at is)
    (rw (get_or_from_slice_get xs place at at is) (itself at))

pub take_all : (n : ℕ) (xs : List PortRef) → length xs ≤ n → take n xs ≡ xs
take_all zero [] all = refl
take_all zero (x ∷ xs) all = absurd (omega (arith, all))
take_all (suc n) [] all = refl
take_all (suc n) (x ∷ xs) all = ap (λ (list : List PortRef). x ∷ list) (take_all n xs (omega (arith, all)))

pub alone : (first at : PortRef) → has_port (first ∷ []) at → at ≡ first
alone first at there = elim (or_cases (is_same_port at first) false there) [
  | inl same ↦ same_port at first same
  | inr none ↦ absurd (cc)
]

pub at_first : (first : PortRef) (ports : List PortRef) → has_port (first ∷ ports) first
at_first first ports = either (is_same_port first first) (list_any (is_same_port first) ports) (inl (itself first))

pub past_end : (xs : List PortRef) (i : ℕ) → slice_get xs i ≡ None → length xs ≤ i
past_end xs i none = elim (slice_get_cases xs i).1 [
  | inl there ↦ absurd (none-some there.0 (sym none ∙ there.2))
  | inr past ↦ past.0
]

-- of the ports that are done there is one more
pub done_or_here : (ports more new : List PortRef) (done : ℕ) (here one : PortRef) → new ≡ ports ++ more → slice_get ports done ≡ Some here
    → has_port (take (done + 1) new) one → has_port (take done ports) one ⊎ (one ≡ here)
done_or_here ports more new done here one kept is among =
    let within : done < length ports = slice_get_within ports done here is in
    let same : take (done + 1) new ≡ take (done + 1) ports =
    ap (take (done + 1)) kept ∙ take-append-le (done + 1) ports more (omega (arith, within)) in
    let there : list_any (is_same_port one) (take (done + 1) ports) ≡ true = ap (list_any (is_same_port one)) (sym same) ∙ among in
    elim (or_cases (list_any (is_same_port one) (take done ports)) (is_same_port one (get_or ports done here))
    (sym (list_any_more (is_same_port one) ports done here within) ∙ there)) [
      | inl before ↦ inl before
      | inr last ↦ inr (same_port one (get_or ports done here) last ∙ get_or_from_slice_get ports done here here is)
    ]

-- no copy leaves by a port whose bit is not there
pub low_bits : (nodes : List Node) (packet : Packet) (here : PortRef) (copies end : ℕ) → copies < 2 ^ 64 → 64 ≤ end
    → ((number : ℕ) → (bit_at copies number == 1) ≡ sends_at nodes here packet number) → (out : ℕ) → sends_at nodes here packet out ≡ true → out < end
low_bits nodes packet here copies end few all are out sends = elim (cases_lt out end) [
  | inl low ↦ low
  | inr high ↦
      let none : bit_at copies out ≡ 0 = bit_at_above copies 64 out few (omega (arith, all, high)) in
      let one : bit_at copies out ≡ 1 = eqb-true (bit_at copies out) 1 (are out ∙ sends) in
      absurd (omega (arith, none, one))
]

-- and without a bit none does
pub no_bits : (nodes : List Node) (packet : Packet) (here : PortRef) (copies : ℕ) → copies ≡ 0
    → ((number : ℕ) → (bit_at copies number == 1) ≡ sends_at nodes here packet number) → (out : ℕ) → sends_at nodes here packet out ≡ true → out < 0
no_bits nodes packet here copies none are out sends =
    let zero_is : bit_at copies out ≡ 0 = ap (λ (n : ℕ). bit_at n out) none ∙ bit_at-zero out in
    let one : bit_at copies out ≡ 1 = eqb-true (bit_at copies out) 1 (are out ∙ sends) in
    absurd (omega (arith, zero_is, one))

module _ (nodes : List Node) (cables : List Cable) (packet : Packet) where
  -- ---- one step of the search
  -- what came in here goes on to there, out of a port whose number is below this one
  pub record PassesBelow (here : PortRef) (end : ℕ) (next : PortRef) : Type 0 where
    pub passes : Passes nodes cables packet here next
    pub below : passes.out < end

  pub record GrowsBelow (here : PortRef) (end : ℕ) (old new : List PortRef) : Type 0 where
    pub more : List PortRef
    pub kept : new ≡ old ++ more
    pub sound : (next : PortRef) → has_port more next → Passes nodes cables packet here next
    pub full : (next : PortRef) → PassesBelow here end next → has_port new next
    pub differ : IsDistinct is_same_port old → IsDistinct is_same_port new

  pub nothing_yet : (here : PortRef) (old : List PortRef) → GrowsBelow here 0 old old
  nothing_yet here old = record {
    more = [];
    kept = sym (append-nil old);
    sound = λ next there. absurd (cc);
    full = λ next goes. let below = goes.below in absurd (omega (arith, below));
    differ = λ each. each;
  }

  below_or_at : (here next : PortRef) (end : ℕ) → PassesBelow here (end + 1) next
      → PassesBelow here end next ⊎ ((sends_at nodes here packet end ≡ true) × (far_end cables (record { node = here.node; port = end }) ≡ Some next))
  below_or_at here next end goes = by (cases_Bool (goes.passes.out == end))
    where
      by : ((goes.passes.out == end) ≡ true) ⊎ ((goes.passes.out == end) ≡ false)
          → PassesBelow here end next ⊎ ((sends_at nodes here packet end ≡ true) × (far_end cables (record { node = here.node; port = end }) ≡ Some next))
      by (inl same) =
          let is : goes.passes.out ≡ end = eqb-true goes.passes.out end same in
          inr (
            subst (λ (n : ℕ). sends_at nodes here packet n ≡ true) is goes.passes.sends,
            subst (λ (n : ℕ). far_end cables (record { node = here.node; port = n }) ≡ Some next) is goes.passes.cable,
          )
      by (inr other) = inl (record { passes = goes.passes; below = grind (arith, nat_tests) })

  -- out of the next port it does not go on, or to nowhere
  pub not_by : (here : PortRef) (end : ℕ) (old new : List PortRef) → GrowsBelow here end old new
      → ((next : PortRef) → sends_at nodes here packet end ≡ true → far_end cables (record { node = here.node; port = end }) ≡ Some next → ⊥)
      → GrowsBelow here (end + 1) old new
  not_by here end old new grown none = record {
    more = grown.more;
    kept = grown.kept;
    sound = grown.sound;
    full = λ next goes. by next (below_or_at here next end goes);
    differ = grown.differ;
  }
    where
      by : (next : PortRef) → PassesBelow here end next ⊎ ((sends_at nodes here packet end ≡ true) × (far_end cables (record { node = here.node; port = end }) ≡ Some next))
          → has_port new next
      by next (inl goes) = grown.full next goes
      by next (inr is) = absurd (none next is.0 is.1)

  -- out of the next port it goes on to there
  pub goes_by : (here there : PortRef) (end : ℕ) (old new : List PortRef) → GrowsBelow here end old new
      → sends_at nodes here packet end ≡ true → far_end cables (record { node = here.node; port = end }) ≡ Some there
      → IsDistinct is_same_port (insert_key is_same_port new there) → GrowsBelow here (end + 1) old (insert_key is_same_port new there)
  goes_by here there end old new grown sends cable each = by (cases_Bool (list_any (is_same_port there) new))
    where
      is_there : (ports : List PortRef) → has_port ports there → (next : PortRef)
          → ((sends_at nodes here packet end ≡ true) × (far_end cables (record { node = here.node; port = end }) ≡ Some next)) → has_port ports next
      is_there ports known next is = subst (λ (p : PortRef). has_port ports p) (same_Some there next (sym cable ∙ is.1)) known

      fully : (ports : List PortRef) → ((next : PortRef) → has_port new next → has_port ports next) → has_port ports there → (next : PortRef)
          → PassesBelow here end next ⊎ ((sends_at nodes here packet end ≡ true) × (far_end cables (record { node = here.node; port = end }) ≡ Some next))
          → has_port ports next
      fully ports holds known next (inl goes) = holds next (grown.full next goes)
      fully ports holds known next (inr is) = is_there ports known next is

      one_is : (next : PortRef) → has_port (there ∷ []) next → Passes nodes cables packet here next
      one_is next is = record { out = end; sends = sends; cable = cable ∙ ap (λ (p : PortRef). Some p) (sym (alone there next is)) }

      soundly : (next : PortRef) → has_port grown.more next ⊎ has_port (there ∷ []) next → Passes nodes cables packet here next
      soundly next (inl before) = grown.sound next before
      soundly next (inr last) = one_is next last

      by : (list_any (is_same_port there) new ≡ true) ⊎ (list_any (is_same_port there) new ≡ false)
          → GrowsBelow here (end + 1) old (insert_key is_same_port new there)
      by (inl known) = rw known (record {
        more = grown.more;
        kept = grown.kept;
        sound = grown.sound;
        full = λ next goes. fully new (λ port held. held) known next (below_or_at here next end goes);
        differ = λ old_each. rw known at each;
      })
      by (inr fresh) = rw fresh (record {
        more = grown.more ++ there ∷ [];
        kept = ap (λ (ports : List PortRef). ports ++ there ∷ []) grown.kept ∙ append_assoc old grown.more (there ∷ []);
        sound = λ next held. soundly next (in_either grown.more (there ∷ []) next held);
        full = λ next goes. fully (new ++ there ∷ []) (λ port held. in_first new (there ∷ []) port held)
            (in_last new (there ∷ []) there (at_first there [])) next (below_or_at here next end goes);
        differ = λ old_each. rw fresh at each;
      })

  -- no packet leaves by a port of a larger number
  pub is_grown : (here : PortRef) (end : ℕ) (old new : List PortRef) → ((out : ℕ) → sends_at nodes here packet out ≡ true → out < end)
      → GrowsBelow here end old new → IsGrown nodes cables packet here old new
  is_grown here end old new low grown = record {
    more = grown.more;
    kept = grown.kept;
    sound = grown.sound;
    full = λ next passes. grown.full next (record { passes = passes; below = low passes.out passes.sends });
    differ = grown.differ;
  }

  -- ---- the search
  module _ (first : PortRef) where
    pub record IsSearched (done : ℕ) (ports : List PortRef) : Type 0 where
      pub begins : has_port ports first
      pub sound : (at : PortRef) → has_port ports at → (way : List PortRef) × Goes nodes cables packet first way at
      -- where the packet goes on to from the ports that are done is among them
      pub closed : (here next : PortRef) → has_port (take done ports) here → Passes nodes cables packet here next → has_port ports next
      pub differ : IsDistinct is_same_port ports

    pub goes_on : (done : ℕ) (here : PortRef) (ports new : List PortRef) → IsSearched done ports → slice_get ports done ≡ Some here
        → IsGrown nodes cables packet here ports new → IsSearched (done + 1) new
    goes_on done here ports new so_far is grown = record {
      begins = still first so_far.begins;
      sound = λ at there. soundly at (in_either ports grown.more at (subst (λ (list : List PortRef). has_port list at) grown.kept there));
      closed = λ one next among passes. closed one next (done_or_here ports grown.more new done here one grown.kept is among) passes;
      differ = grown.differ so_far.differ;
    }
      where
        still : (at : PortRef) → has_port ports at → has_port new at
        still at there = rw grown.kept (in_first ports grown.more at there)

        soundly : (at : PortRef) → has_port ports at ⊎ has_port grown.more at → (way : List PortRef) × Goes nodes cables packet first way at
        soundly at (inl before) = so_far.sound at before
        soundly at (inr more) =
            let way = so_far.sound here (at_place ports done here is) in
            (way.0 ++ at ∷ [], one_more nodes cables packet way.0 first here at way.1 (grown.sound at more))

        closed : (one next : PortRef) → has_port (take done ports) one ⊎ (one ≡ here) → Passes nodes cables packet one next → has_port new next
        closed one next (inl before) passes = still next (so_far.closed one next before passes)
        closed one next (inr last) passes = grown.full next (subst (λ (p : PortRef). Passes nodes cables packet p next) last passes)

    -- all are done: from each it goes on to one of them
    to_each : (ports way : List PortRef) (here at : PortRef) → ((one next : PortRef) → has_port ports one → Passes nodes cables packet one next → has_port ports next)
        → has_port ports here → Goes nodes cables packet here way at → has_port ports at
    to_each ports [] here at closed there goes = subst (λ (p : PortRef). has_port ports p) goes there
    to_each ports (next ∷ later) here at closed there goes = to_each ports later next at closed (closed here next there goes.0) goes.1

    pub are_reached : (done : ℕ) (ports : List PortRef) → IsSearched done ports → length ports ≤ done → AreReached nodes cables packet first ports
    are_reached done ports searched all at =
        let whole : take done ports ≡ ports = take_all done ports all in
        let closed : (one next : PortRef) → has_port ports one → Passes nodes cables packet one next → has_port ports next =
        λ one next there. searched.closed one next (subst (λ (list : List PortRef). has_port list one) (sym whole) there) in
        (searched.sound at, λ way. to_each ports way.0 first at closed searched.begins way.1)

    -- there are no more of them than ends of cables, and the first
    is_end : (way : List PortRef) (here at : PortRef) → has_port (first ∷ flat_map ends_of cables) here → Goes nodes cables packet here way at
        → has_port (first ∷ flat_map ends_of cables) at
    is_end [] here at known goes = subst (λ (p : PortRef). has_port (first ∷ flat_map ends_of cables) p) goes known
    is_end (next ∷ later) here at known goes =
        is_end later next at
        (either (is_same_port next first) (list_any (is_same_port next) (flat_map ends_of cables))
        (inr (far_is_end cables (record { node = here.node; port = goes.0.out }) next next (itself next) goes.0.cable)))
        goes.1

    pub few_ports : (done : ℕ) (ports : List PortRef) → IsSearched done ports → length ports ≤ 2 * length cables + 1
    few_ports done ports searched =
        let few = length-le_from_is_member ports_equiv ports (first ∷ flat_map ends_of cables) searched.differ each in
        let count = count_ends cables in
        omega (arith, few, count)
      where
        each : (at : PortRef) → has_port ports at → has_port (first ∷ flat_map ends_of cables) at
        each at there =
            let way = searched.sound at there in
            is_end way.0 first at (at_first first (flat_map ends_of cables)) way.1
