use Rattle.std.proofs.Common.{rules, [], sym}
use Rattle.std.proofs.lemmas.List.{get_or_past}
use Rattle.ots_calls.specs.TableInside.{by_length}
use Rattle.ots_calls.proofs.Tables.{now_at}
use Rattle.ots_calls.proofs.table.of_length.Goals as goal

pub returns-then-length-lt26 : goal.returns-then-length-lt26
returns-then-length-lt26 c = search (rules, now_at)

pub returns-else-length-lt26 : goal.returns-else-length-lt26
returns-else-length-lt26 c = sym (get_or_past by_length c.args.length [] c.if-length-lt26.false)
