use Rattle.cli_args.proofs.command_line.audit_keys_command.Goals as goal

pub returns-clause-words : goal.returns-clause-words
returns-clause-words c =
    let found = c.with_arg-found.ensures _ _ c.new.ensures.app c.wanted_netdiscover.ensures.rule in
    let pkeys = c.with_arg.ensures _ _ found c.wanted_pkeys.ensures.rule in
    let files = c.with_arg-files.ensures _ _ pkeys c.wanted_partitions.ensures.rule in
    let manager = c.with_arg-2.ensures _ _ files c.manager_option.ensures.rule in
    c.described.ensures.words _ (c.with_arg-command.ensures _ _ manager c.all_flag.ensures.rule)
