use Rattle.std.proofs.Common.{◌≡◌, true, false, None, ap, option_to_list, ◌∙◌}
use Rattle.netdiscover_file.specs.Port.{is_reported_already, place_of_line}
use Rattle.netdiscover_file.specs.Sound.{has_own, is_port}
use Rattle.netdiscover_file.proofs.SoundLemmas.{sound_noted, sound_with_line}
use Rattle.netdiscover_file.proofs.draft.Draft.take_new_port.Goals as goal

pub invariant_of-self-in_err-push-2 : goal.invariant_of-self-in_err-push-2
invariant_of-self-in_err-push-2 c =
    let inside = c.self.inside in
    rw (c.in_err-push-2.ensures.err, c.in_ok-push.ensures.ok)
    (sound_noted inside.nodes inside.ports inside.port_guids (option_to_list c.in_ok-line.line.guid) c.self.invariant)

pub invariant_of-self-2 : goal.invariant_of-self-2
invariant_of-self-2 c =
    let inside = c.self.inside in
    let line = c.in_ok-line.line in
    let new : place_of_line line.port inside.ports ≡ None = ap (λ draft. place_of_line line.port draft.ports) c.self.view_is ∙ c.in_ok-line.ensures.new in
    let own : is_reported_already line.guid inside.port_guids ≡ false = ap (λ draft. is_reported_already line.guid draft.port_guids) c.self.view_is ∙ c.in_ok-line.ensures.own in
    let is : is_port inside.nodes line.port ≡ true = ap (λ draft. is_port draft.nodes line.port) c.self.view_is ∙ (rw c.in_ok-line.ensures.same c.requires.is_port) in
    let has : has_own inside.nodes line ≡ true = ap (λ draft. has_own draft.nodes line) c.self.view_is ∙ (rw c.in_ok-line.ensures.same c.requires.has_own) in
    rw (c.in_ok-push-2.ensures.ok, c.in_ok-push.ensures.ok)
    (sound_with_line inside.nodes inside.ports inside.port_guids line c.self.invariant new own is has)
