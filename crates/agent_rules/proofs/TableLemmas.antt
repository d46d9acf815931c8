-- A table with one block set differs from it in that block alone.
use Rattle.std.proofs.Common.{refl, ◌≡◌, ◌≢◌, ℕ, ◌+◌, ◌-◌, ◌*◌, ◌/◌, ◌<◌, ◌≤◌, ◌⊎◌, inl, inr, true, nat_lt, Ok, subst, List, ◌++◌, length, get_or}
use Rattle.std.proofs.Common.{take, drop, ◌∙◌, ap, arith, length-append, length-drop, length-take-le}
use Rattle.std.proofs.lemmas.Bool.{cases_lt}
use Rattle.std.proofs.lemmas.Bool.Decides.{nat_tests}
use Rattle.std.proofs.lemmas.List.{get_or_append_left, get_or-append_right, get_or-take, get_or-drop}
use Rattle.std.proofs.lemmas.Nat.{mod_below}
use Rattle.std.proofs.Math.Nat.{div-add-mod', mul-le-mul_left}
use Rattle.agent_rules.specs.Laws.{DiffersInBlock}
use Rattle.agent_rules.specs.Agent.{word_block, set_word_block}
use Rattle.attr_tables.specs.Blocks.{block_of, has_block, with_block, word_bytes}
use Rattle.agent_rules.specs.Carried.{ports_in, words_in}
use Rattle.mad_layout.specs.Bits.{field}
use Rattle.agent_rules.proofs.GuardLemmas.{passed, taken_ok}
use Rattle.mad_layout.specs.declared.status.MadStatus.TheVariants.{InvalidField}
use Rattle.std.proofs.lemmas.List.FromFn.{length-map-range_with_len}

outside : (size block k : ℕ) → 0 < size → k / size ≢ block → (k < size * block) ⊎ (size * block + size ≤ k)
outside size block k some other =
    let whole = div-add-mod' k size in
    let low = mod_below k size some in
    elim (cases_lt (k / size) block) [
      | inl before ↦
          let up : k / size + 1 ≤ block = omega arith in
          let step : size * (k / size + 1) ≤ size * block = mul-le-mul_left size up in
          inl (omega arith)
      | inr after ↦
          let more : block + 1 ≤ k / size = omega arith in
          let step : size * (block + 1) ≤ size * (k / size) = mul-le-mul_left size more in
          inr (omega arith)
    ]

pub block_within : (size block : ℕ) (table : List ℕ) → 0 < size → has_block size block table ≡ true → size * block + size ≤ length table
block_within size block table some there =
    let whole = div-add-mod' (length table) size in
    let less : block < length table / size = grind (arith, nat_tests) in
    let up : block + 1 ≤ length table / size = omega arith in
    let step : size * (block + 1) ≤ size * (length table / size) = mul-le-mul_left size up in
    omega arith

pub block_differs : (size block : ℕ) (entries table : List ℕ) → 0 < size → length entries ≡ size
    → has_block size block table ≡ true → DiffersInBlock size block table (with_block size block entries table)
unfolding with_block
block_differs size block entries table some long there =
    let first = size * block in
    let within = block_within size block table some there in
    let front = length-take-le first table (omega arith) in
    let rest = length-drop (first + size) table in
    let all = length-append (take first table) (entries ++ drop (first + size) table) in
    let end = length-append entries (drop (first + size) table) in
    record {
      same_length = omega arith;
      elsewhere = λ k other. elim (outside size block k some other) [
        | inl before ↦
            get_or_append_left (take first table) (entries ++ drop (first + size) table) 0 k (omega arith) ∙ get_or-take first table k 0 before
        | inr after ↦
            get_or-append_right (take first table) (entries ++ drop (first + size) table) first k 0 front (omega arith)
            ∙ get_or-append_right entries (drop (first + size) table) size (k - first) 0 long (omega arith)
            ∙ get_or-drop (first + size) table (k - first - size) 0
            ∙ (let e : first + size + (k - first - size) ≡ k = omega arith in ap (λ (i : ℕ). get_or table i 0) e)
      ];
    }

pub no_difference : (size block : ℕ) (table : List ℕ) → DiffersInBlock size block table table
no_difference size block table = record { same_length = refl; elsewhere = λ k other. refl }

length-words_in : (attribute : List ℕ) → length (words_in attribute) ≡ 32
unfolding words_in
length-words_in attribute = length-map-range_with_len (λ k. field attribute (16 * k) 16) 0 32

pub length-ports_in : (attribute : List ℕ) → length (ports_in attribute) ≡ 64
unfolding ports_in
length-ports_in attribute = length-map-range_with_len (λ k. field attribute (8 * k) 8) 0 64

pub words_differ : (block : ℕ) (attribute table next : List ℕ) → set_word_block block attribute table ≡ Ok next → DiffersInBlock 32 block table next
words_differ block attribute table next h =
    let t = taken_ok (has_block 32 block table) (with_block 32 block (words_in attribute) table) next InvalidField h in
    let P : List ℕ → Type 0 = DiffersInBlock 32 block table in
    subst P t.1 (block_differs 32 block (words_in attribute) table (omega arith) (length-words_in attribute) t.0)

-- a table of the same length has the same blocks
pub same_blocks : (size block : ℕ) (old new : List ℕ) → DiffersInBlock size block old new
    → has_block size block old ≡ true → has_block size block new ≡ true
same_blocks size block old new d h = ap (λ (n : ℕ). nat_lt block (n / size)) d.same_length ∙ h

pub words_shown : (block : ℕ) (attribute table next : List ℕ) → set_word_block block attribute table ≡ Ok next
    → (bytes : List ℕ) × (word_block block next ≡ Ok bytes)
words_shown block attribute table next h =
    let t = taken_ok (has_block 32 block table) (with_block 32 block (words_in attribute) table) next InvalidField h in
    let there = same_blocks 32 block table next (words_differ block attribute table next h) t.0 in
    (word_bytes (block_of 32 block next), passed (has_block 32 block next) (Ok (word_bytes (block_of 32 block next))) InvalidField there)
