use Rattle.std.proofs.Common.{ℕ, List, sym, subst, ap, ◌∙◌}
use Rattle.mad_layout.specs.Bits.{field}
use Rattle.agent_rules.specs.Request.{reply_status, KeepsRest}
use Rattle.agent_rules.proofs.RequestLemmas.{attribute_keeps, attribute_status, refusal_keeps, refusal_status}
use Rattle.agent_rules.proofs.request.put_reply.Goals as goal

pub returns-in-Ok-clause-status : goal.returns-in-Ok-clause-status
returns-in-Ok-clause-status c =
    ap (λ (smp : List ℕ). field smp 33 15) c.put_attribute.ensures.reply
    ∙ attribute_status c.args.smp.now _ c.told-smp c.put_attribute.ensures.fits
    ∙ sym (ap reply_status c.in-Ok.is)

pub returns-in-Ok-clause-kept : goal.returns-in-Ok-clause-kept
returns-in-Ok-clause-kept c =
    let P : List ℕ → Type 0 = KeepsRest c.args.smp.now in
    subst P (sym c.put_attribute.ensures.reply) (attribute_keeps c.args.smp.now _ c.told-smp c.put_attribute.ensures.fits)

pub returns-in-Err-clause-status : goal.returns-in-Err-clause-status
returns-in-Err-clause-status c =
    ap (λ (smp : List ℕ). field smp 33 15) c.put_refusal.ensures.reply
    ∙ refusal_status c.args.smp.now _ c.told-smp c.put_refusal.ensures.fits
    ∙ sym (ap reply_status c.in-Err.is)

pub returns-in-Err-clause-kept : goal.returns-in-Err-clause-kept
returns-in-Err-clause-kept c =
    let P : List ℕ → Type 0 = KeepsRest c.args.smp.now in
    subst P (sym c.put_refusal.ensures.reply) (refusal_keeps c.args.smp.now _ c.told-smp c.put_refusal.ensures.fits)
