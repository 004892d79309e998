use Rattle.std.proofs.Common.{List, ℕ, Option, [], ◌∷◌, ◌++◌, sym, subst}
use Rattle.std.proofs.lemmas.List.{length-take-le}
use Rattle.decision_journal.specs.declared.record.JournalRecord.{JournalRecord}
use Rattle.nodes_lines.specs.Telling.{IsTold}
use Rattle.nodes_state.specs.Telling.{TellsOne}
use Rattle.nodes_state.proofs.Doing.{line_told}
use Rattle.nodes_world.specs.Journals.{journal_octets}
use Rattle.nodes_world.specs.Lives.{journal_line}
use Rattle.nodes_world.specs.Told.{Journal}
use Rattle.nodes_endings.proofs.Stored.{end_within, journal_is_told, taken}
use Rattle.nodes_endings.proofs.journals.tell_octets.Goals as goal

pub slice_bounds-tell_journal-end : goal.slice_bounds-tell_journal-end
slice_bounds-tell_journal-end c =
    let there = c.requires.stored in
    sym (length-take-le c.last_gates-end.result.end c.args.octets.now
    (end_within there.0 c.args.octets.now there.1.records c.last_gates-end.result.end there.1.stands c.last_gates-end.ensures.end))

pub returns-clause-told : goal.returns-clause-told
returns-clause-told c service s =
    let before = c.args.lines.now.items in
    let after = c.tell_journal.new.lines.items in
    subst (λ (o : Option (List JournalRecord)). TellsOne (journal_line c.args.name service o) before after c.tell_journal.result)
    (sym (c.records_are_read.ensures service c.args.octets.now s.records s.stands))
    (line_told c.tell_journal.result (Journal c.args.name (journal_octets service s.records)) before after
    (subst (λ (xs : List ℕ). IsTold c.tell_journal.result (Journal c.args.name (xs ++ 0 ∷ [])) before after)
    (taken service c.args.octets.now s.records c.last_gates-end.result.end s.stands c.last_gates-end.ensures.end) c.tell_journal.ensures))

pub returns-clause-memory : goal.returns-clause-memory
returns-clause-memory c service s = journal_is_told c.records_are_read.ensures c.args.name service c.args.octets.now s
