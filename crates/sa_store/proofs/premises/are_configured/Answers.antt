use Rattle.std.proofs.Common.{List, sym, ◌∙◌, subst}
use Rattle.partition_file.specs.declared.heading.Heading.{Heading}
use Rattle.partition_file.specs.Members.{AreSoundHeadings}
use Rattle.sa_store.proofs.PremiseLemmas.{sound_is_configured}
use Rattle.sa_store.proofs.premises.are_configured.Goals as goal

pub returns-clause-configured : goal.returns-clause-configured
returns-clause-configured c = λ passes.
    let P : List Heading → Type 0 = AreSoundHeadings in
    let headings : AreSoundHeadings c.args.members.now.headings = subst P c.headings.ensures.value c.headings.ensures.sound in
    let sound = rw (c.headings.ensures.value, c.keys.ensures) at (sym c.are_sound.ensures ∙ passes) in
    sound_is_configured c.args.ports.now c.args.members.now headings sound
