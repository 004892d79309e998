use Rattle.std.proofs.Common.{ap, ◌∙◌, arith}
use Rattle.std.proofs.lemmas.Bool.Decides.{nat_tests}
use Rattle.ots_program.specs.PlayingInside.{place_of}
use Rattle.ots_program.proofs.Fed.{place_kept}
use Rattle.ots_program.proofs.Turned.{Passes-empty, Passes-open, StopsAt-open}
use Rattle.ots_program.proofs.player.Player.end.Goals as goal

pub returns-then-is_empty-clause-passes : goal.returns-then-is_empty-clause-passes
returns-then-is_empty-clause-passes c =
    Passes-empty (place_of c.args.self.now) c.args.self.now.line.items c.args.self.now.output.items (grind (arith, nat_tests))

pub returns-clause-passes : goal.returns-clause-passes
returns-clause-passes c =
    let e = c.take_out-line.ensures.emptied in
    let text = c.as_slice.ensures.value ∙ ap (λ v. v.items) c.take_out-line.ensures.line in
    Passes-open c.take_line.result (place_of c.args.self.now) c.args.self.now.line.items c.take_line.new.self.world _ _ c.requires.plays.one_line (grind (arith, nat_tests)) (rw (place_kept _ _ e, e.output, text) at c.take_line.ensures.turned)

pub returns-clause-stops : goal.returns-clause-stops
returns-clause-stops c =
    let e = c.take_out-line.ensures.emptied in
    let text = c.as_slice.ensures.value ∙ ap (λ v. v.items) c.take_out-line.ensures.line in
    StopsAt-open c.take_line.result (place_of c.args.self.now) c.args.self.now.line.items c.take_line.new.self.world _ _ c.requires.plays.one_line (grind (arith, nat_tests)) (rw (place_kept _ _ e, e.output, text) at c.take_line.ensures.turned)
