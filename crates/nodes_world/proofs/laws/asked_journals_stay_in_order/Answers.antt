use Rattle.nodes_world.proofs.AskedJournals.{asked_journals_keep, asked_journals_stop}
use Rattle.nodes_world.proofs.laws.asked_journals_stay_in_order.Goals as goal

pub returns-clause-keep : goal.returns-clause-keep
returns-clause-keep c =
    let stopped = c.stopped_appends_are_safe.ensures in
    asked_journals_keep c.journals_grow.ensures c.appends_are_safe.ensures stopped.through stopped.stopped c.records_are_read.ensures

pub returns-clause-stop : goal.returns-clause-stop
returns-clause-stop c =
    let stopped = c.stopped_appends_are_safe.ensures in
    asked_journals_stop c.journals_grow.ensures c.appends_are_safe.ensures stopped.through stopped.stopped c.records_are_read.ensures
