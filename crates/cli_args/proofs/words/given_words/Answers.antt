use Rattle.std.proofs.Common.{◌≡◌, ◌∙◌, List, Some, String, Global, ap, map, map-id, refl, sym}
use Rattle.std.specs.Vec.Iter.{into_iter_items}
use Rattle.std.proofs.lemmas.Iterator.{items_from_drains}
use Rattle.std.proofs.lemmas.Iterator.Adapters.{YieldsList-from_vec}
use Rattle.cli_args.specs.Words.{given_items}
use Rattle.cli_args.proofs.words.given_words.Goals as goal

pub returns-in_ok-collect-in-Ok-clause-all : goal.returns-in_ok-collect-in-Ok-clause-all
returns-in_ok-collect-in-Ok-clause-all c =
    let taken = c.in_ok-collect-in-Ok.ensures.ran in
    let words : List (String Global) = into_iter_items c.in-Ok.words in
    let same : map (λ word. word) taken.0 ≡ words = items_from_drains taken.0 taken.1 (YieldsList-from_vec words refl c.in-Ok.words.rest.ok.0) in
    ap given_items c.in-Ok.is ∙ ap (λ (all : List (String Global)). Some all) (sym (taken.2.0 ∙ (rw map-id at same)))
