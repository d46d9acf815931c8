use Rattle.std.proofs.Common.{rules, ◌≡◌, true, sym, subst, arith, Fits as SFits, w8, w32}
use Rattle.sa_model.specs.Groups.{GroupParameters}
use Rattle.sa_replies.specs.State.{is_fit_group}
use Rattle.sa_store.specs.MlidRange.{parameters_of}
use Rattle.sa_answer.proofs.GroupLemmas.{narrow}
use Rattle.sa_answer.proofs.mc_member.group_record.Goals as goal

pub returns-clause-fits : goal.returns-clause-fits
returns-clause-fits c =
    let reported = c.parameters-parameters in
    let fit = narrow (parameters_of reported.result) (subst (λ (some : GroupParameters). is_fit_group some ≡ true) (sym reported.ensures.value) reported.ensures.fit) in
    let key : SFits w32 reported.result.q_key = search rules in
    let traffic : SFits w8 reported.result.traffic_class = search rules in
    let hop : SFits w8 reported.result.hop_limit = search rules in
    (c.mgid.type_inv, (omega arith, (key.fits, (c.ranges.mlid.fits, (omega arith, (fit.mtu, (traffic.fits, (c.key_of.type_inv, (omega arith, (fit.rate, (omega arith, (fit.life, (fit.level, (fit.flow, (hop.fits, (fit.scope, (omega arith, (omega arith, tt))))))))))))))))))
