use Rattle.cli_args.proofs.command_line.import_command.Goals as goal

pub returns-clause-words : goal.returns-clause-words
returns-clause-words c =
    let read = c.with_arg-read.ensures _ _ c.new.ensures.app c.wanted_netdiscover.ensures.rule in
    let managed = c.with_arg-managed.ensures _ _ read c.manager_option.ensures.rule in
    c.described.ensures.words _ (c.with_arg-command.ensures _ _ managed c.roots_option.ensures.rule)
