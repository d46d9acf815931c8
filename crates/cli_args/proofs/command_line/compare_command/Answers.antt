use Rattle.cli_args.proofs.command_line.compare_command.Goals as goal

pub returns-clause-words : goal.returns-clause-words
returns-clause-words c =
    let first = c.with_arg-first.ensures _ _ c.subnet_command.ensures c.wanted_first_script.ensures.rule in
    let scripts = c.with_arg-scripts.ensures _ _ first c.wanted_second_script.ensures.rule in
    c.described.ensures.words _ (c.with_arg.ensures _ _ scripts c.wanted_compared.ensures.rule)
