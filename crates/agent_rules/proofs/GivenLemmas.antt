-- What an agent gives for a Get fills an attribute.
use Rattle.std.proofs.Common.{ℕ, ◌≡◌, ◌*◌, ◌<◌, ◌==◌, true, nat_lt, List, [], ◌∷◌, length, take, drop, Ok, subst, arith, length-drop, length-take-le}
use Rattle.std.specs.Int.Digits.{AllBelowBase}
use Rattle.std.specs.List.{list_all}
use Rattle.std.proofs.lemmas.Bool.{and_parts}
use Rattle.std.proofs.lemmas.Bool.Decides.{nat_tests}
use Rattle.mad_layout.specs.declared.status.MadStatus.TheVariants.{InvalidField}
use Rattle.attr_tables.specs.Attribute.{IsAttribute}
use Rattle.attr_tables.specs.Blocks.{block_of, has_block, word_bytes}
use Rattle.attr_tables.proofs.AttributeLemmas.{attributes}
use Rattle.step_results.proofs.ListLemmas.{all_cut}
use Rattle.agent_rules.specs.Agent.{whole, word_block}
use Rattle.agent_rules.proofs.GuardLemmas.{taken_ok}
use Rattle.agent_rules.proofs.TableLemmas.{block_within}

small_bytes : (xs : List ℕ) → list_all (λ x. nat_lt x 256) xs ≡ true → AllBelowBase 256 xs
small_bytes [] h = tt
small_bytes (x ∷ xs) h =
    let parts = and_parts (nat_lt x 256) (list_all (λ y. nat_lt y 256) xs) h in
    let one = parts.0 in
    let less : x < 256 = grind (arith, nat_tests, one) in
    (less, small_bytes xs parts.1)

pub block_long : (size block : ℕ) (table : List ℕ) → 0 < size → has_block size block table ≡ true → length (block_of size block table) ≡ size
unfolding block_of
block_long size block table some there =
    let within = block_within size block table some there in
    let rest = length-drop (size * block) table in
    length-take-le size (drop (size * block) table) (omega (arith, within, rest))

pub whole_is : (modifier : ℕ) (attribute bytes : List ℕ) → IsAttribute attribute → whole modifier attribute ≡ Ok bytes → IsAttribute bytes
whole_is modifier attribute bytes is h = subst IsAttribute (taken_ok (modifier == 0) attribute bytes InvalidField h).1 is

pub words_are : (block : ℕ) (table bytes : List ℕ) → word_block block table ≡ Ok bytes → IsAttribute bytes
words_are block table bytes h =
    let t = taken_ok (has_block 32 block table) (word_bytes (block_of 32 block table)) bytes InvalidField h in
    subst IsAttribute t.1 (attributes.words (block_of 32 block table) (block_long 32 block table (omega arith) t.0))

-- a block of a table of bytes
pub block_is : (block : ℕ) (table : List ℕ) → list_all (λ entry. nat_lt entry 256) table ≡ true → has_block 64 block table ≡ true
    → IsAttribute (block_of 64 block table)
unfolding block_of
block_is block table below there = record {
  count = block_long 64 block table (omega arith) there;
  small = small_bytes (take 64 (drop (64 * block) table))
      (all_cut (λ entry. nat_lt entry 256) 64 (drop (64 * block) table) (all_cut (λ entry. nat_lt entry 256) (64 * block) table below).1).0;
}
