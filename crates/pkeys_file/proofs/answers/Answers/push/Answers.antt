use Rattle.std.proofs.Common.{◌≡◌, None, refl}
use Rattle.pkeys_file.specs.Answers.{place_of}
use Rattle.pkeys_file.specs.Query.{is_same_key, key_of}
use Rattle.step_results.proofs.PlaceLemmas.{keys_grow}
use Rattle.pkeys_file.proofs.answers.Answers.push.Goals as goal

pub invariant_of-self-2 : goal.invariant_of-self-2
invariant_of-self-2 c =
    let answer = c.args.answer in
    let new : place_of answer.query c.self.inside.answers.items ≡ None = rw c.self.view_is c.requires.new in
    rw (c.in_ok-insert.ensures.keys, c.key.ensures, c.in_ok-push.ensures.items, c.reserve.ensures.items)
    (keys_grow is_same_key (λ answer. key_of answer.query) (key_of answer.query) answer c.self.inside.queries.keys c.self.inside.answers.items c.self.invariant refl new)
