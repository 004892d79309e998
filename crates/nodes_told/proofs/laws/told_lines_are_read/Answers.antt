use Rattle.nodes_told.proofs.ToldReads.{part_without_feed, read_lines_are_safe, told_alike, told_reads}
use Rattle.nodes_told.proofs.laws.told_lines_are_read.Goals as goal

pub returns-clause-back : goal.returns-clause-back
returns-clause-back c = told_reads c.different_lines_differ.ensures

pub returns-clause-alike : goal.returns-clause-alike
returns-clause-alike c = told_alike c.different_lines_differ.ensures

pub returns-clause-safe : goal.returns-clause-safe
returns-clause-safe c = read_lines_are_safe c.different_lines_differ.ensures

pub returns-clause-parts : goal.returns-clause-parts
returns-clause-parts c = part_without_feed
