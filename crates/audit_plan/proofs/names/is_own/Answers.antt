use Rattle.std.proofs.Common.{◌∙◌, refl, sym}
use Rattle.audit_plan.proofs.NameLemmas.{alone_is, none_alone}
use Rattle.audit_plan.proofs.names.is_own.Goals as goal

pub returns-then-alone : goal.returns-then-alone
returns-then-alone c nodes knows =
    rw (sym (alone_is _ _ (c.in-Some.ensures.value ∙ knows c.args.name.now)) ∙ c.if-alone.true, c.is_empty-empty.ensures, c.as_slice.ensures.value) refl

pub returns-else-alone : goal.returns-else-alone
returns-else-alone c nodes knows = rw (sym (alone_is _ _ (c.in-Some.ensures.value ∙ knows c.args.name.now)), c.if-alone.false) refl

pub returns-in-None : goal.returns-in-None
returns-in-None c nodes knows = rw (none_alone _ (c.in-None.ensures.value ∙ knows c.args.name.now)) refl
