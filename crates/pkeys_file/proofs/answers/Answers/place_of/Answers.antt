use Rattle.std.proofs.Common.{ap, ◌∙◌}
use Rattle.pkeys_file.specs.Answers.{place_of}
use Rattle.pkeys_file.specs.Query.{is_same_key, key_of}
use Rattle.step_results.proofs.PlaceLemmas.{place_by_key}
use Rattle.pkeys_file.proofs.answers.Answers.place_of.Goals as goal

pub returns : goal.returns
returns c =
    let found = rw c.key.ensures at c.get_index_of.ensures.index in
    found
    ∙ place_by_key (is_same_key (key_of c.args.query)) (λ answer. key_of answer.query) c.self.inside.queries.keys c.self.inside.answers.items c.self.invariant
    ∙ ap (place_of c.args.query) c.self.view_is
