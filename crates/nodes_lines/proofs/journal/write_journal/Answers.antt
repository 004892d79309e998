use Rattle.std.proofs.Common.{◌≡◌, length, take, rules}
use Rattle.nodes_lines.proofs.Journals.{front_kept, line_written}
use Rattle.nodes_lines.proofs.journal.write_journal.Goals as goal

pub returns-in_err-write_digits-clause-err : goal.returns-in_err-write_digits-clause-err
returns-in_err-write_digits-clause-err c =
    let before = c.args.lines.now.items in
    let after = c.write_digits.new.lines.items in
    let kept : take (length before) after ≡ before =
    front_kept before c.args.server c.push.new.self.items after
    (cc (c.in_ok-extend_from_slice.ensures.items, c.octets.ensures.octets, c.in_ok-extend_from_slice-2.ensures.items, c.in_ok-push.ensures.items))
    c.in_err-write_digits.ensures.err in
    search rules

pub returns-clause-ok : goal.returns-clause-ok
returns-clause-ok c =
    cc (
      line_written c.args.lines.now.items c.args.server c.args.octets.now c.args.gate,
      c.in_ok-extend_from_slice.ensures.items,
      c.octets.ensures.octets,
      c.in_ok-extend_from_slice-2.ensures.items,
      c.in_ok-push.ensures.items,
      c.in_ok-write_digits.ensures.ok,
      c.in_ok-write_chunk.ensures.ok,
      c.in_ok-push-2.ensures.items,
    )
